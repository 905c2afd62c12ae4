-- Req 13: a score sheet moved in and a page moved out: the refusals in their order. Assumes nothing.
use Rattle.std.specs.Prelude.{Err, Ok, Result, ⊤}
use Prim.Native.Nat.{ℕ, ◌+◌, ◌*◌, ◌≤◌, ◌<◌}
use mathlib.Core.Path.{◌≡◌, refl, sym, ap, ◌∙◌}
use mathlib.Core.Logic.{◌⊎◌, ⊎_elim}
use mathlib.Core.List.{List, [], ◌∷◌}
use mathlib.Core.Bool.{Bool, true, false}
use native.Mathlib.Omega.{arith}
use borrow.Author.Tests.{le-leb, lt-leb, ne_eqb}
use Rattle.wire.specs.Pick.{pick}
use Rattle.wire.specs.Bytes.{Bytes}
use Rattle.wire.specs.Tests.{◌≤?◌}
use Rattle.wire.proofs.TestLaws.{means, yes, no}
use Rattle.answer.specs.declared.Refusal.{Refusal}
use Rattle.answer.specs.declared.Refusal.TheVariants.{Input}
use Rattle.answer.specs.Refusals.{gate, unless_refused}
use Rattle.answer.specs.Answers.{cell_kind, cell_bits, cell_verdict}
use Rattle.geometry.specs.Tiles.{cell_tile}
use Rattle.store.specs.Face.{grid_rows, grid_columns, meaning}
use Rattle.score_rule.specs.declared.Said.{Said}
use Rattle.score_rule.specs.declared.Said.TheVariants.{First, Second, Wrong}
use Rattle.score_rule.specs.Rules.{page_says}
use Rattle.score_sheets.specs.Sheet.{sheet_rows, sheet_columns, unread, score_right}
use Rattle.blocks.proofs.InsideLaws.{inside_none, inside_first_at}
use Rattle.lay_down.specs.Answer.{lay_down_verdict, laid}
use Rattle.lay_down.specs.Sheet.{score_element, front_fits, tile_unread, sheet_verdict, sheet_laid, sheet_file}
use Rattle.sheets.specs.Back.{is_first, sheetable, fault, fault_in, score_cell, sheet_length, judged_out, sheet_back}
use Rattle.sheets.proofs.FirstLaws.{verdicts}
use Rattle.sheet_moves.proofs.KeptLaws.{Moved, moved_of, left_out_lem, cell_kind_lem, tile_all}
use Rattle.exact_products.specs.Sheets.{ScoresOnly, FrontOf, SheetInExactly, AllUnread, SheetKinds, GoesOut, CellFine, FineBefore, SheetOutExactly}

-- one element of scores

scores_yes : (s : List ℕ) → ScoresOnly s → score_element s ≡ true
unfolding score_element
scores_yes s w = sym (yes _ (w.alone, (w.short, (w.fill, tt))))

scores_means : (s : List ℕ) → score_element s ≡ true → ScoresOnly s
unfolding score_element
scores_means s e = let m = means _ e in record { alone = m.0; short = m.1.0; fill = m.1.1.0 }

-- the way in

module _ (f d : List ℕ) where
  front_yes : FrontOf f d → true ≡ front_fits f d
  unfolding front_fits
  front_yes w = yes _ (w.rows, (w.columns, (scores_yes f w.scores, tt)))

  front_no : (FrontOf f d → ⊥) → false ≡ front_fits f d
  unfolding front_fits
  front_no h = no _ (λ p. h (record { rows = p.0; columns = p.1.0; scores = scores_means f p.1.1.0 }))

pub sheet_in_exactly : SheetInExactly
unfolding sheet_laid sheet_verdict laid lay_down_verdict gate unless_refused
sheet_in_exactly f t d room =
    record {
      front = λ r e. rw e;
      bad_sheet = λ a e. rw (a, e);
      bad_front = λ a e h. rw (a, e, ← front_no f d h);
      laid_down = λ a e w. rw (a, e, ← front_yes f d w);
    }

-- a tile of the page that a sheet becomes

module _ (f : List ℕ) (t : ℕ) (d : List ℕ) (room n k : ℕ) (u : Bytes f) (v : Bytes d) (e : sheet_laid f t d room ≡ Ok n) (row column : ℕ) (r : row < sheet_rows d) (c : column < sheet_columns d) where
  abbrev kind : ℕ
  kind = cell_kind (meaning (sheet_file f t d) k row column 0)

  moved : Moved f t d room
  moved = moved_of f t d room n e

  kind_is : (b : Bool) → tile_unread f d (cell_tile f row column) ≡ b → kind ≡ pick b 33 32
  kind_is b h = (cell_kind_lem f t d room moved u v row column k r c b h).2

  all_unread : tile_unread f d (cell_tile f row column) ≡ true → AllUnread f d row column
  all_unread h i j p q o = left_out_lem f t d room moved u v i j k p q (ap (tile_unread f d) o ∙ h)

  absent_kind : AllUnread f d row column → kind ≡ 33
  absent_kind a = kind_is true (tile_all f t d room moved u v row column r c a)

  kept_kind : (AllUnread f d row column → ⊥) → kind ≡ 32
  kept_kind a = go (tile_unread f d (cell_tile f row column)) refl
    where
      go : (b : Bool) → tile_unread f d (cell_tile f row column) ≡ b → kind ≡ 32
      go true h = absurd (a (all_unread h))
      go false h = kind_is false h

pub sheet_kinds : SheetKinds
sheet_kinds f t d room n k u v e row column r c = (absent_kind f t d room n k u v e row column r c, kept_kind f t d room n k u v e row column r c)

-- the way out

first_is : (x : Said) → x ≡ First → is_first x ≡ true
unfolding is_first
first_is x e = rw e

is_first_lem : (x : Said) → is_first x ≡ true → x ≡ First
unfolding is_first
is_first_lem First e = refl
is_first_lem Second e = let z : ◌≡◌ {A = ℕ} 0 1 = cc in absurd (omega arith)
is_first_lem Wrong e = let z : ◌≡◌ {A = ℕ} 0 1 = cc in absurd (omega arith)

module _ (s : List ℕ) where
  out_yes : GoesOut s → true ≡ sheetable s
  unfolding sheetable
  out_yes w = yes _ (scores_yes s w.scores, (first_is (page_says s) w.rule, (w.rows, (w.columns, (w.long, tt)))))

  out_no : (GoesOut s → ⊥) → false ≡ sheetable s
  unfolding sheetable
  out_no h =
      no _
      (λ p.
      h
      (record {
        scores = scores_means s p.0;
        rule = is_first_lem (page_says s) p.1.0;
        rows = p.1.1.0;
        columns = p.1.1.1.0;
        long = p.1.1.1.1.0;
      }))

score_yes : (v : ℕ) → (v ≤ 1000) ⊎ (v ≡ unread) → score_right v ≡ true
unfolding score_right
score_yes v h = ⊎_elim (λ k. rw (le-leb v 1000 k)) (λ e. rw e refl) h

score_no : (v : ℕ) → 1000 < v → (v ≡ unread → ⊥) → score_right v ≡ false
unfolding score_right
score_no v h e = rw (lt-leb v 1000 h, ne_eqb v unread e)

stays : (r : Refusal) (y : Result ⊤ Refusal) → unless_refused Err (Err r) y ≡ Err r
unfolding unless_refused
stays r y = refl

module _ (s : List ℕ) (k : ℕ) where
  fine_cell : (r c : ℕ) → CellFine s k r c → fault (score_cell s k r c) ≡ Ok tt
  unfolding fault score_cell gate unless_refused
  fine_cell r c h = rw (h.0, score_yes _ h.1)

  unread_cell : (r c : ℕ) (x : Refusal) → cell_verdict (meaning s k r c 0) ≡ Err x → fault (score_cell s k r c) ≡ Err x
  unfolding fault score_cell unless_refused
  unread_cell r c x e = rw e

  wrong_cell :
      (r c : ℕ) → cell_verdict (meaning s k r c 0) ≡ Ok tt → 1000 < cell_bits (meaning s k r c 0) → (cell_bits (meaning s k r c 0) ≡ unread → ⊥) →
      fault (score_cell s k r c) ≡ Err Input
  unfolding fault score_cell gate unless_refused
  wrong_cell r c e h f = rw (e, score_no _ h f)

  all_fine : ((r c : ℕ) → r < grid_rows s → c < grid_columns s → CellFine s k r c) → fault_in 0 (grid_rows s) 0 (grid_columns s) (score_cell s k) ≡ Ok tt
  unfolding fault_in
  all_fine f = inside_none (unless_refused Err) (Ok tt) verdicts 0 (grid_rows s) 0 (grid_columns s) _ (λ r c h. fine_cell r c (f r c (omega arith) (omega arith)))

  first_fault_lem :
      (r c : ℕ) → r < grid_rows s → c < grid_columns s → FineBefore s k r c → (x : Refusal) → fault (score_cell s k r c) ≡ Err x →
      fault_in 0 (grid_rows s) 0 (grid_columns s) (score_cell s k) ≡ Err x
  unfolding fault_in
  first_fault_lem r c h i b x q =
      inside_first_at (unless_refused Err) (Ok tt) verdicts 0 (grid_rows s) 0 (grid_columns s) _ r c (Err x) q
      (λ i j g. fine_cell i j (b.0 i j (omega arith) (omega arith))) (λ j l w. fine_cell r j (b.1 j w)) (stays x) (omega arith)

pub sheet_out_exactly : SheetOutExactly
unfolding sheet_back judged_out sheet_length gate unless_refused
sheet_out_exactly s k room =
    record {
      checked = λ r e. rw e;
      page = λ a h. rw (a, ← out_no s h);
      unread = λ a w r c h i b x e. rw (a, ← out_yes s w, first_fault_lem s k r c h i b x (unread_cell s k r c x e));
      no_score = λ a w r c h i b e l f. rw (a, ← out_yes s w, first_fault_lem s k r c h i b Input (wrong_cell s k r c e l f));
      short = λ a w f h. rw (a, ← out_yes s w, all_fine s k f, ← no ((9 + 2 * (grid_rows s * grid_columns s) ≤? room) ∷ []) (λ p. omega (arith, p.0)));
      out = λ a w f h. rw (a, ← out_yes s w, all_fine s k f, ← yes ((9 + 2 * (grid_rows s * grid_columns s) ≤? room) ∷ []) (h, tt));
    }
