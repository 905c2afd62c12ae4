-- The sheet's bytes, and what the call answers. Assumes nothing.
use Rattle.std.specs.Prelude.{Err, Ok}
use Prim.Native.Nat.{ℕ, ◌+◌, ◌-◌, ◌*◌, ◌≤◌, ◌<◌}
use mathlib.Core.Path.{◌≡◌, sym, ap, ◌∙◌}
use mathlib.Core.List.{List, [], ◌∷◌, ◌++◌, append_assoc, append-nil, flat_map}
use native.Mathlib.Omega.{arith}
use lib.ListN.{length, take, drop, length-append, length-drop}
use lib.Seq.{take_all, drop-drop, drop-length}
use Rattle.wire.specs.Bytes.{put}
use Rattle.wire.specs.Big.{big_of}
use Rattle.wire.specs.Tests.{◌≤?◌}
use Rattle.wire.proofs.TestLaws.{yes, no}
use Rattle.wire.proofs.BigLaws.{big_length}
use Rattle.wire.proofs.RunLaws.{run_length}
use Rattle.wire.proofs.PutLaws.{put_fits, put_put, length_put}
use Rattle.blocks.specs.Tables.{tabled, Inside, Filled}
use Rattle.blocks.proofs.TableLaws.{tabled_long, filled_all}
use Rattle.score_sheets.specs.Sheet.{sheet_head, sheet_bytes}
use Rattle.score_sheets.proofs.SheetLaws.{head_long}
use Rattle.answer.specs.declared.Refusal.{Refusal}
use Rattle.answer.specs.declared.Refusal.TheVariants.{Room}
use Rattle.answer.specs.Refusals.{gate, unless_refused}
use Rattle.answer.specs.Answers.{cell_bits, written}
use Rattle.store.specs.declared.many.Rectangle.{Rectangle}
use Rattle.store.specs.Face.{grid_rows, grid_columns, check}
use Rattle.sheets.specs.Back.{score_cell, judged_out, sheet_of, sheet_length, sheet_back}
use Rattle.sheets.specs.Rows.{whole_grid, score_byte, Sides, HasRoom}
use Rattle.sheets.proofs.TableLaws.{twice, table_pairs}

-- a put into what is lent from a place on
lent_put : (l : List ℕ) (at : ℕ) (v : List ℕ) → at + length v ≤ length l → take at l ++ put (drop at l) 0 v ≡ put l at v
lent_put l at v h =
    let d : 0 + length v ≤ length (drop at l) = omega (arith, length-drop at l) in
    let z : 0 + length v ≡ length v = omega arith in
    rw (put_fits (drop at l) 0 v d, put_fits l at v h, ← drop-drop (length v) at l, z) (sym (append_assoc (take at l) v (drop (length v) (drop at l))))

-- what is lent from a place on, and what comes back

lent_rest : (at : ℕ) (l : List ℕ) → take (length l - at) (drop at l) ≡ drop at l
lent_rest at l = take_all (length l - at) (drop at l) (omega (arith, length-drop at l))

rest_back : (at : ℕ) (l v : List ℕ) → at ≤ length l → take at l ++ (v ++ drop (length l - at) (drop at l)) ≡ take at l ++ v
rest_back at l v h =
    let z : at + (length l - at) ≡ length l = omega arith in
    let e : drop (length l - at) (drop at l) ≡ [] = drop-drop (length l - at) at l ∙ ap (λ (i : ℕ). drop i l) z ∙ drop-length l in
    ap (λ (x : List ℕ). take at l ++ (v ++ x)) e ∙ ap (λ (x : List ℕ). take at l ++ x) (append-nil v)

-- a head keeps the buffer's length
pub head_kept : (l m : List ℕ) (r c : ℕ) → m ≡ put l 0 (sheet_head r c) → length m ≡ length l
head_kept l m r c p = ap length p ∙ length_put l 0 (sheet_head r c)

-- there is room for the scores behind the head
pub room_behind :
    (l m : List ℕ) (a : Rectangle) → 9 + 2 * (a.rows * a.columns) ≤ length l → m ≡ put l 0 (sheet_head a.rows a.columns) → Sides a.rows a.columns →
    HasRoom a (take (length m - 9) (drop 9 m))
room_behind l m a h p z =
    rw (lent_rest 9 m) (record { sides = z; room = omega (arith, twice a.rows a.columns, length-drop 9 m, head_kept l m a.rows a.columns p) })

-- the scores behind the head

module _ (s l m n o : List ℕ) (k : ℕ) (a : Rectangle) (e : a ≡ whole_grid s) (h : 9 + 2 * (a.rows * a.columns) ≤ length l) where
  abbrev scores : List ℕ
  scores = flat_map (big_of 2) (tabled a.rows a.columns (λ r c. cell_bits (score_cell s k r c)))

  scores_long : length scores ≡ 2 * (a.rows * a.columns)
  scores_long =
      let p = run_length (big_of 2) 2 (big_length 2) (tabled a.rows a.columns (λ r c. cell_bits (score_cell s k r c))) in
      omega (arith, p, tabled_long a.rows a.columns (λ r c. cell_bits (score_cell s k r c)))

  pub sheet_put :
      m ≡ put l 0 (sheet_head a.rows a.columns) → Filled (2 * a.columns) (score_byte s k) (Inside 0 a.rows 0 (2 * a.columns)) (take (length m - 9) (drop 9 m)) n →
      o ≡ take 9 m ++ (n ++ drop (length m - 9) (drop 9 m)) → o ≡ written (Ok (9 + 2 * (a.rows * a.columns))) (sheet_of s k) l
  unfolding sheet_of sheet_bytes score_byte
  sheet_put p f q =
      let head = sheet_head a.rows a.columns in
      let long = length_put l 0 head in
      let d : length (drop 9 m) ≡ length l - 9 = length-drop 9 m ∙ ap (λ (i : ℕ). i - 9) (ap length p ∙ long) in
      let part = lent_rest 9 m in
      let body : n ≡ put (drop 9 m) 0 scores =
      filled_all (rw part at f) (omega (arith, twice a.rows a.columns))
      ∙ ap (put (drop 9 m) 0) (table_pairs a.rows a.columns (λ r c. cell_bits (score_cell s k r c)))
      in
      let z : length head ≡ 9 = head_long a.rows a.columns in
      let behind : o ≡ put m 9 scores = q ∙ rest_back 9 m n (omega (arith, ap length p, long)) ∙ ap (λ (x : List ℕ). take 9 m ++ x) body ∙ lent_put m 9 scores (omega (arith, ap length p, long, scores_long)) in
      let whole : o ≡ put l 0 (head ++ scores) =
      behind ∙ ap (λ (x : List ℕ). put x 9 scores) p ∙ ap (λ (i : ℕ). put (put l 0 head) i scores) (omega arith)
      ∙ put_put l 0 head scores (omega (arith, scores_long))
      in
      let at : 0 + length (head ++ scores) ≡ 9 + 2 * (a.rows * a.columns) = omega (arith, length-append head scores, scores_long) in
      let g : sheet_of s k ≡ head ++ scores = rw e in
      whole ∙ put_fits l 0 (head ++ scores) (omega arith) ∙ rw (at, g)

-- the answers

module _ (s : List ℕ) (room k : ℕ) (c : check s ≡ Ok tt) where
  pub out_refused : (r : Refusal) → judged_out s k ≡ Err r → Err r ≡ sheet_back s k room
  unfolding sheet_back unless_refused
  out_refused r e = rw (c, e)

  module _ (j : judged_out s k ≡ Ok tt) (a : Rectangle) (e : a ≡ whole_grid s) where
    pub out_room : room < 9 + 2 * (a.rows * a.columns) → Err Room ≡ sheet_back s k room
    unfolding sheet_back sheet_length unless_refused gate
    out_room h =
        let z : room < 9 + 2 * (grid_rows s * grid_columns s) = rw e at h in
        rw (c, j, ← no ((9 + 2 * (grid_rows s * grid_columns s) ≤? room) ∷ []) (λ y. omega (arith, y.0)))

    pub out_long : 9 + 2 * (a.rows * a.columns) ≤ room → Ok (9 + 2 * (a.rows * a.columns)) ≡ sheet_back s k room
    unfolding sheet_back sheet_length unless_refused gate
    out_long h =
        let z : 9 + 2 * (grid_rows s * grid_columns s) ≤ room = rw e at h in
        rw (e, c, j, ← yes ((9 + 2 * (grid_rows s * grid_columns s) ≤? room) ∷ []) (z, tt))

pub out_unchecked : (s : List ℕ) (room k : ℕ) (r : Refusal) → check s ≡ Err r → Err r ≡ sheet_back s k room
unfolding sheet_back unless_refused
out_unchecked s room k r c = rw c
