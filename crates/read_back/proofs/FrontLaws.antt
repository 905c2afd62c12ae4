-- The file that is laid down has the front that was given, but for what is set. Assumes nothing.
use Prim.Native.Nat.{ℕ, ◌+◌, ◌-◌, ◌≤◌, ◌<◌}
use mathlib.Core.Path.{◌≡◌, sym, ◌∙◌}
use mathlib.Core.List.{List}
use mathlib.Core.Logic.{inl, inr}
use mathlib.Core.Bool.{true}
use native.Mathlib.Omega.{arith}
use lib.ListN.{length}
use Rattle.wire.specs.Bytes.{byte_at, Same}
use Rattle.wire.proofs.TestLaws.{yes}
use Rattle.wire.proofs.ByteLaws.{same_trans, same_append}
use Rattle.record.specs.Chain.{header_end}
use Rattle.header.specs.Element.{entries_read}
use Rattle.header.proofs.SameLaws.{element_same}
use Rattle.record.specs.Record.{content_at}
use Rattle.check_header.specs.Stages.{closed}
use Rattle.check_header.proofs.Judged as judged
use Rattle.check_header.specs.Judged.{SameJudged}
use Rattle.check_header.proofs.Judged.{end_same, identified_to, version_same, header_to, ceilings_to}
use Rattle.check_header.specs.Passed.{Headed}
use Rattle.lay_down.specs.Page.{directory_start, file_length, FieldsRead, NotSet, laid_front, laid_file}
use Rattle.lay_down.proofs.PageLaws.{front_length, laid_length}
use Rattle.lay_down.proofs.ChainLaws.{laid_joined}
use Rattle.lay_down.proofs.FieldLaws.{read_same, front_same, front_read}
use Rattle.read_back.proofs.Setting.{Laying, Kept}

module _ {f : List ℕ} {t : ℕ} {ix c : List ℕ} (l : Laying f t ix c) where
  pub length_laid : length (laid_file f t ix c) ≡ file_length f ix
  length_laid = laid_length f t ix c l.front.all l.cells

  -- the front stands whole at the file's start
  begins : (a b : ℕ) → b ≤ length f → Same (laid_front f t (content_at (directory_start f ix))) (laid_file f t ix c) a b
  begins a b h =
      rw (laid_joined f t ix c) (same_append _ _ a b (omega (arith, front_length f t (content_at (directory_start f ix)))))

  untouched : (a b : ℕ) → b ≤ length f - 4 → ((i : ℕ) → a ≤ i → i < b → NotSet i) → Same f (laid_file f t ix c) a b
  untouched a b h o =
      let k : 288 ≤ length f = omega (arith, l.front.header_least, l.front.header_inside) in
      same_trans (front_same f t (content_at (directory_start f ix)) (omega arith) a b h o) (begins a b (omega arith))

  pub byte_kept : (i : ℕ) → i < length f - 4 → NotSet i → byte_at (laid_file f t ix c) i ≡ byte_at f i
  byte_kept i h o =
      let u = untouched i (i + 1) (omega arith) (λ j p q. let e : j ≡ i = omega arith in rw e o) in
      sym (u.each i (omega arith) (omega arith))

  -- what stages 1 to 4 judge is as it was
  pub front_judged : SameJudged f (laid_file f t ix c)
  front_judged =
      let k : 288 ≤ length f = omega (arith, l.front.header_least, l.front.header_inside) in
      let e = l.no_more_lem in
      let n : length f ≤ length (laid_file f t ix c) = (begins 0 (length f) (omega arith)).in_second in
      record {
        block = untouched 0 14 (omega arith) (λ i p q. inl (omega arith));
        frame = untouched 16 21 (omega arith) (λ i p q. inl (omega arith));
        sides = untouched 104 120 (omega arith) (λ i p q. inr (inr (omega arith)));
        options = untouched 128 131 (omega arith) (λ i p q. inr (inr (omega arith)));
        rest = untouched 280 (header_end f - 4) (omega arith) (λ i p q. inr (inr (omega arith)));
        in_first = omega arith;
        in_second = omega arith;
      }

  pub front_kept : Kept f (laid_file f t ix c)
  front_kept =
      let s = laid_file f t ix c in
      let j = front_judged in
      let g = judged.header_fit f s j (length f) l.headed.header in
      record {
        ends = sym (end_same j.frame) ∙ l.no_more_lem;
        rows = sym (judged.rows f s j);
        columns = sym (judged.columns f s j);
        tile_rows_lem = sym (judged.tile_rows_lem f s j);
        tile_columns_lem = sym (judged.tile_columns_lem f s j);
        flag = sym (judged.option f s j 128 (omega arith) (omega arith));
        count = sym g.count;
        elements = λ e h. sym (element_same f s (judged.same_rest f s j) e (entries_read f) (omega (arith, l.front.all)) g.last);
      }

  -- the fields that are set
  pub fields_laid : FieldsRead (laid_file f t ix c) t (content_at (directory_start f ix))
  unfolding file_length
  fields_laid =
      let k : 288 ≤ length f = omega (arith, l.front.header_least, l.front.header_inside) in
      let h = l.file in
      read_same (begins 40 88 (omega arith)) (front_read f t (content_at (directory_start f ix)) (omega arith) (omega arith))

  -- stages 1 to 5 pass
  pub front_headed : Headed (laid_file f t ix c) (length (laid_file f t ix c)) × (closed (laid_file f t ix c) ≡ true)
  unfolding closed
  front_headed =
      let s = laid_file f t ix c in
      let j = front_judged in
      let e = l.no_more_lem in
      let n = j.in_second in (
        record {
          block = identified_to j.block (length f) (length s) l.headed.block (omega arith);
          version = sym (version_same j.block) ∙ l.headed.version;
          header = header_to f s j (length f) (length s) l.headed.header n;
          ceilings = ceilings_to f s j (length f) (length s) l.headed.header l.headed.ceilings (omega (arith, length_laid, l.file));
        },
        sym (yes _ (fields_laid.opened, tt)),
      )
