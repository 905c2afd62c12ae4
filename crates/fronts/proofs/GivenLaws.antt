-- A front that is made is one for a lay-down, and says what it was told. Assumes nothing.
use Rattle.std.specs.Prelude.{Err, Ok, Result, ⊤}
use Rattle.answer.specs.declared.Refusal.{Refusal}
use Prim.Native.Nat.{ℕ, zero, suc, ◌+◌, ◌-◌, ◌*◌, ◌/◌, ◌≤◌, ◌<◌}
use mathlib.Core.Path.{◌≡◌, refl, ap, ◌∙◌}
use mathlib.Core.List.{List}
use mathlib.Core.Bool.{Bool, true, false}
use mathlib.Core.Logic.{by_cases}
use native.Mathlib.Decide.{dec_le}
use native.Mathlib.Omega.{arith}
use lib.ListN.{length, get_or}
use lib.Dec.{eqb}
use Rattle.wire.specs.Pick.{pick}
use Rattle.wire.specs.Bytes.{Bytes, part}
use Rattle.wire.proofs.ByteLaws.{part_length, part_out, bytes_none, bytes_cons, bytes_append, bytes_part, bytes_of_lem, zeros_bytes}
use Rattle.wire.proofs.TestLaws.{means, below_each}
use Rattle.answer.specs.Refusals.{unless_refused}
use Rattle.answer.proofs.VerdictLaws.{gate_passed, behind_passed}
use Rattle.check_header.specs.Identification.{mark}
use Rattle.written_records.specs.Pieces.{record_head, unclosed, record_of}
use Rattle.fronts.specs.Front.{Stated, StatedFits, Fits, strung, string_of, block_of, entry_of, fixed_of, entries_of, methods_of, body_of, block_bytes, front_of}
use Rattle.fronts.specs.Given.{number_of, text_at, stated_by, method_length, method_at, described_by, texts_short, method_short, describable, front_verdict, front_made, Words, FrontMade, RefusedAsChecked}
use Rattle.fronts.proofs.FrontLaws.{front_is_judged, says_as_told}
use Rattle.fronts.proofs.CountLaws.{name_long, label_long, description_long, unit_long, method_long, label_told_lem, right_of_lem}

part_short : (s : List ℕ) (at n : ℕ) → length (part s at n) ≤ n
part_short s at n =
    by_cases (dec_le (at + n) (length s)) (λ h. omega (arith, part_length s at n h))
    (λ h. omega (arith, ap length (part_out s at n (omega arith))))

flat : (b : Bool) → pick b 0 1 < 256
flat true = omega arith
flat false = omega arith

module _ (g u es ts : List ℕ) (wg : Words g) (we : Words es) (ok : describable g u es ts ≡ true) where
  told_fits : (e : ℕ) → e < length es / 14 → StatedFits (stated_by es ts e)
  unfolding describable texts_short stated_by number_of
  told_fits e h =
      let a = means _ (below_each (length es / 14) (texts_short es) (means _ ok).1.1.1.0 e h) in
      record {
        kind = omega arith;
        continuous = flat (eqb (get_or es (e * 14 + 1) 0) 0);
        name = omega (arith, a.0, part_short ts (text_at es e) (get_or es (e * 14 + 2) 0));
        label = omega (arith, a.1.0, part_short ts (text_at es e + get_or es (e * 14 + 2) 0) (get_or es (e * 14 + 3) 0));
        description = omega (arith, a.1.1.0, part_short ts (text_at es e + get_or es (e * 14 + 2) 0 + get_or es (e * 14 + 3) 0) (get_or es (e * 14 + 4) 0));
        unit =
            omega (arith, a.1.1.1.0, part_short ts (text_at es e + get_or es (e * 14 + 2) 0 + get_or es (e * 14 + 3) 0 + get_or es (e * 14 + 4) 0) (get_or es (e * 14 + 5) 0));
        range = λ i. we.small (e * 14 + 6 + i);
      }

  pub fits : Fits (described_by g u es ts)
  unfolding describable described_by method_short
  fits =
      let a = means _ ok in
      record {
        rows = wg.small 0;
        columns = wg.small 1;
        tile_rows_lem = wg.small 2;
        tile_columns_lem = wg.small 3;
        flag = omega arith;
        uuid = a.1.0;
        each = told_fits;
        methods = λ i h.
            let m = (means _ (below_each (length g - 6) (method_short g) a.1.1.1.1.0 i h)).0 in
            omega (arith, m, part_short ts (method_at g es i) (method_length g i));
        label = omega (arith, a.1.1.1.1.1.0, part_short ts (method_at g es (length g - 6)) (get_or g 5 0));
        long = omega (arith, a.1.1.1.1.1.1.1.0);
      }

-- all of it are bytes

strung_bytes : (n : ℕ) (f : ℕ → List ℕ) → ((i : ℕ) → i < n → Bytes (f i)) → Bytes (strung n f)
unfolding strung
strung_bytes zero f h = bytes_none
strung_bytes (suc n) f h = bytes_append (strung_bytes n f (λ i k. h i (omega arith))) (h n (omega arith))

string_bytes : (t : List ℕ) → Bytes t → Bytes (string_of t)
unfolding string_of
string_bytes t b = bytes_append (bytes_of_lem 2 (length t)) b

entry_bytes_lem : (x : Stated) → x.kind < 256 → x.continuous < 256 → Bytes x.name → Bytes x.label → Bytes x.description → Bytes x.unit → Bytes (entry_of x)
unfolding entry_of block_of
entry_bytes_lem x k c a b d e =
    bytes_append
    (bytes_append
    (bytes_append
    (bytes_append
    (bytes_append
    (bytes_append
    (bytes_append (bytes_append (bytes_cons _ k (bytes_cons _ c bytes_none)) (zeros_bytes 6)) (string_bytes _ a))
    (strung_bytes _ _ (λ i h. bytes_of_lem 4 _)))
    (zeros_bytes _))
    (string_bytes _ b))
    (string_bytes _ d))
    (string_bytes _ e))
    (zeros_bytes _)

record_bytes : (flag kind : ℕ) (body : List ℕ) → kind < 256 → Bytes body → Bytes (record_of flag kind body)
unfolding record_of unclosed record_head
record_bytes flag kind body k b =
    bytes_append
    (bytes_append (bytes_append (bytes_append (bytes_append (bytes_of_lem 4 _) (bytes_cons kind k bytes_none)) (zeros_bytes 3)) b) (zeros_bytes _))
    (bytes_of_lem 4 _)

mark_bytes : Bytes block_bytes
unfolding block_bytes mark
mark_bytes =
    bytes_cons 103 (omega arith) (bytes_cons 118 (omega arith) (bytes_cons 114 (omega arith) (bytes_cons 115 (omega arith) (bytes_cons 32 (omega arith)
    (bytes_cons 114 (omega arith) (bytes_cons 97 (omega arith) (bytes_cons 115 (omega arith) (bytes_cons 116 (omega arith) (bytes_cons 101 (omega arith)
    (bytes_cons 114 (omega arith) (bytes_cons 0 (omega arith) (bytes_cons 1 (omega arith) (bytes_cons 4 (omega arith) (bytes_cons 0 (omega arith) (bytes_cons 0 (omega arith) bytes_none)))))))))))))))

front_bytes : (g u es ts : List ℕ) → Words g → Words es → describable g u es ts ≡ true → Bytes u → Bytes ts → Bytes (front_of (described_by g u es ts))
unfolding front_of body_of fixed_of entries_of methods_of described_by stated_by
front_bytes g u es ts wg we ok bu bt =
    bytes_append mark_bytes
    (record_bytes _ 6 _ (omega arith)
    (bytes_append
    (bytes_append
    (bytes_append
    (bytes_append
    (bytes_append
    (bytes_append
    (bytes_append
    (bytes_append
    (bytes_append
    (bytes_append
    (bytes_append
    (bytes_append (bytes_append (bytes_append bu (zeros_bytes 64)) (bytes_of_lem 4 _)) (bytes_of_lem 4 _))
    (bytes_of_lem 4 _))
    (bytes_of_lem 4 _))
    (zeros_bytes 8))
    (bytes_cons _ (omega arith) bytes_none))
    (zeros_bytes 151))
    (bytes_of_lem 4 _))
    (strung_bytes _ _
    (λ e h. let w = told_fits g u es ts wg we ok e h in entry_bytes_lem (stated_by es ts e) w.kind w.continuous (bytes_part _ _ bt) (bytes_part _ _ bt) (bytes_part _ _ bt) (bytes_part _ _ bt))))
    (bytes_of_lem 4 _))
    (strung_bytes _ _ (λ i h. string_bytes _ (bytes_part _ _ bt))))
    (string_bytes _ (bytes_part _ _ bt)))
    (zeros_bytes 8)))

length_of : (v : Result ⊤ Refusal) (n m : ℕ) → unless_refused Err v (Ok n) ≡ Ok m → (v ≡ Ok tt) × (n ≡ m)
unfolding unless_refused
length_of (Ok accepted) n m e = (refl, cc)
length_of (Err r) n m e = let z : ◌≡◌ {A = ℕ} 0 1 = cc in absurd (omega arith)

-- what is made fits its fields
pub made_fits :
    (g u es ts : List ℕ) (room n : ℕ) → Words g → Words es → front_made g u es ts room ≡ Ok n → Fits (described_by g u es ts)
unfolding front_made front_verdict
made_fits g u es ts room n wg we e = fits g u es ts wg we (gate_passed _ _ _ (length_of _ _ _ e).0).0

pub front_made_lem : FrontMade
unfolding front_made front_verdict
front_made_lem g u es ts room n wg bu we bt e =
    let a = length_of _ _ _ e in
    let b = gate_passed _ _ _ a.0 in
    let c = behind_passed _ _ b.1 in
    let f = fits g u es ts wg we b.0 in
    let w = (right_of_lem g u es ts b.0).whole in
    record {
      long = a.1;
      accepted = front_is_judged (described_by g u es ts) f ∙ c.0;
      says = says_as_told (described_by g u es ts) f;
      bytes = front_bytes g u es ts wg we b.0 bu bt;
      whole = λ i h.
          record {
            name = name_long g u es ts w i h;
            label = label_long g u es ts w i h;
            description = description_long g u es ts w i h;
            unit = unit_long g u es ts w i h;
          };
      method = method_long g u es ts w;
      label = label_told_lem g u es ts w;
    }

pub refused_as_checked : RefusedAsChecked
refused_as_checked g u es ts wg we ok = front_is_judged (described_by g u es ts) (fits g u es ts wg we ok)
