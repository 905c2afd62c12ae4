-- A score sheet against a front: what fits, the tiles that are kept, and their bytes. Assumes nothing.
use Prim.Native.Nat.{ℕ, min, ◌+◌, ◌*◌, ◌/◌, ◌%◌, ◌≤◌, ◌<◌}
use mathlib.Core.Path.{◌≡◌, refl, sym, ap, ◌∙◌}
use mathlib.Core.List.{List, [], ◌∷◌, ◌++◌, Memᴰ}
use mathlib.Core.Bool.{Bool, true, false, not}
use native.Mathlib.Omega.{arith}
use native.Mathlib.Numerals.{add-one}
use native.Mathlib.Nat.{mul-le-mul}
use lib.ListN.{length, get_or, take, set, length-set}
use lib.Seq.{take-suc-set}
use lib.Dec.{eqb}
use Rattle.wire.specs.Pick.{pick}
use Rattle.wire.specs.Tests.{both, passes}
use Rattle.wire.specs.Bytes.{part}
use Rattle.wire.specs.Lists.{select, below}
use Rattle.wire.proofs.TestLaws.{means, yes, no, not_both, either_way, sum_none, sum_more}
use Rattle.wire.proofs.ByteLaws.{part_whole}
use Rattle.wire.proofs.ListLaws.{Behind, behind_select, select_member}
use Rattle.wire.proofs.RunLaws.{run_length, run_part, select_more, select_stay, member_below, below_behind}
use Rattle.score_sheets.specs.Sheet.{sheet_rows, sheet_columns}
use Rattle.score_sheets.specs.Parts.{part_unread}
use Rattle.score_sheets.proofs.PartLaws.{part_long}
use Rattle.header.specs.declared.Element.{Element}
use Rattle.header.specs.Fields.{grid_rows, grid_columns, tile_rows, tile_columns, element_count}
use Rattle.header.specs.Element.{element, entries_read, cell_size}
use Rattle.geometry.specs.Tiles.{tiles_across, tile_count}
use Rattle.geometry.specs.Sizes.{uncompressed, element_bytes, tile_bytes}
use Rattle.lay_down.specs.Answer.{ascending}
use Rattle.lay_down.specs.Sheet.{score_element, front_fits, tile_top, tile_left, tile_scores, tile_unread, kept_tiles, tile_cells, sheet_cells}
use Rattle.lay_down.proofs.FrontLaws.{Front}
use Rattle.lay_down.proofs.AscendLaws.{ascending_few}

-- one element only, a Short whose fill is -1

module _ (s : List ℕ) (n : ℕ) (p : n ≡ element_count s) where
  pub element_many : (n ≡ 1 → ⊥) → false ≡ score_element s
  unfolding score_element
  element_many f = no _ (λ h. f (p ∙ h.0))

  module _ (x : Element) (q : x ≡ element s 0) where
    pub element_kind : (x.kind ≡ 3 → ⊥) → false ≡ score_element s
    unfolding score_element
    element_kind f = no _ (λ h. f (ap (λ (e : Element). e.kind) q ∙ h.1.0))

    pub element_fill : n ≡ 1 → x.kind ≡ 3 → eqb x.fill 65535 ≡ score_element s
    unfolding score_element passes
    element_fill e k =
        let a : element_count s ≡ 1 = sym p ∙ e in
        let b : (element s 0).kind ≡ 3 = ap (λ (y : Element). y.kind) (sym q) ∙ k in
        rw (a, b, ← q) (alone (eqb x.fill 65535))
      where
        alone : (b : Bool) → b ≡ both b true
        alone true = refl
        alone false = refl

pub record OneScore (s : List ℕ) : Type 0 where
  pub one : element_count s ≡ 1
  pub short : (element s 0).kind ≡ 3
  pub unread : (element s 0).fill ≡ 65535

pub score_of_lem : (s : List ℕ) → score_element s ≡ true → OneScore s
unfolding score_element
score_of_lem s e = let m = means _ e in record { one = m.0; short = m.1.0; unread = m.1.1.0 }

-- a front and a sheet

module _ (f d : List ℕ) (a b : ℕ) (p : a ≡ grid_rows f) (q : b ≡ sheet_rows d) where
  pub fits_rows : (a ≡ b → ⊥) → false ≡ front_fits f d
  unfolding front_fits
  fits_rows g = no _ (λ h. g (p ∙ h.0 ∙ sym q))

  module _ (e : a ≡ b) (m n : ℕ) (r : m ≡ grid_columns f) (t : n ≡ sheet_columns d) where
    pub fits_columns : (m ≡ n → ⊥) → false ≡ front_fits f d
    unfolding front_fits
    fits_columns g = no _ (λ h. g (r ∙ h.1.0 ∙ sym t))

    pub fits_element : (v : Bool) → m ≡ n → v ≡ score_element f → v ≡ front_fits f d
    unfolding front_fits
    fits_element v h i =
        either_way _ v (λ x. (sym p ∙ e ∙ q, (sym r ∙ h ∙ t, (sym i ∙ x, tt)))) (λ x y. not_both y.1.1.0 (sym i ∙ x))

pub record Fitting (f d : List ℕ) : Type 0 where
  pub rows : grid_rows f ≡ sheet_rows d
  pub columns : grid_columns f ≡ sheet_columns d
  pub element : score_element f ≡ true

pub fits_of : (f d : List ℕ) → front_fits f d ≡ true → Fitting f d
unfolding front_fits
fits_of f d e = let m = means _ e in record { rows = m.0; columns = m.1.0; element = m.1.1.0 }

-- the first row and column of a tile

pub corner_small : (a h tile : ℕ) → a ≤ tile → tile < 65536 → h ≤ 4096 → a * h ≤ 268435456
corner_small a h tile i j k = let l : a ≤ 65536 = omega arith in mul-le-mul l k

pub top_is : (f : List ℕ) (tile across down h : ℕ) → across ≡ tiles_across f → down ≡ tile / across → h ≡ tile_rows f → down * h ≡ tile_top f tile
unfolding tile_top
top_is f tile across down h p q r = rw (q, p, r)

pub left_is : (f : List ℕ) (tile across right w : ℕ) → across ≡ tiles_across f → right ≡ tile % across → w ≡ tile_columns f → right * w ≡ tile_left f tile
unfolding tile_left
left_is f tile across right w p q r = rw (q, p, r)

pub unread_is :
    (f d : List ℕ) (tile row column h w : ℕ) (b : Bool) → row ≡ tile_top f tile → column ≡ tile_left f tile → h ≡ tile_rows f → w ≡ tile_columns f →
    b ≡ part_unread d row column h w → b ≡ tile_unread f d tile
unfolding tile_unread
unread_is f d tile row column h w b p q r s e = e ∙ rw (p, q, r, s)

-- the tiles that are kept, one more at a time

module _ (f d : List ℕ) where
  abbrev keeps : ℕ → Bool
  keeps tile = not (tile_unread f d tile)

  pub record Keeping (l : List ℕ) (n tile : ℕ) : Type 0 where
    pub few : n ≤ tile
    pub room : length l ≡ 65536
    pub is : take n l ≡ select keeps (below tile)

  pub keeping_none : (l : List ℕ) → length l ≡ 65536 → Keeping l 0 0
  unfolding select below
  keeping_none l h = record { few = omega arith; room = h; is = refl }

  pub keeping_more :
      (l m : List ℕ) (n k tile : ℕ) → Keeping l n tile → tile < 65536 → k ≡ pick (tile_unread f d tile) n (n + 1) →
      m ≡ pick (tile_unread f d tile) l (set l n tile) → Keeping m k (tile + 1)
  keeping_more l m n k tile w h e g = go (tile_unread f d tile) refl e g
    where
      go : (b : Bool) → tile_unread f d tile ≡ b → k ≡ pick b n (n + 1) → m ≡ pick b l (set l n tile) → Keeping m k (tile + 1)
      go true u x y =
          record {
            few = omega (arith, w.few);
            room = ap length y ∙ w.room;
            is = rw (x, y) (w.is ∙ sym (select_stay keeps tile (rw u)));
          }
      go false u x y =
          record {
            few = omega (arith, w.few);
            room = ap length y ∙ length-set l n tile ∙ w.room;
            is = rw (x, y, add-one n) (take-suc-set l n tile (omega (arith, w.few, w.room)) ∙ ap (λ (z : List ℕ). z ++ (tile ∷ [])) w.is ∙ sym (select_more keeps tile (rw u)));
          }

  pub keeping_all :
      (l : List ℕ) (n tile count : ℕ) → Keeping l n tile → count ≡ tile_count f → tile_count f ≤ 65536 → tile ≤ count → count ≤ tile →
      ((n ≤ tile_count f) × (n ≤ length l)) × (take n l ≡ kept_tiles f d)
  unfolding kept_tiles
  keeping_all l n tile count w e g h k =
      let q : tile ≡ tile_count f = omega arith in
      ((omega (arith, w.few), omega (arith, w.few, w.room)), rw (← q) w.is)

-- they ascend

behind_ascends : (n least : ℕ) (l : List ℕ) → Behind least l → ((x : ℕ) → Memᴰ x l → x < n) → ascending n least l ≡ true
unfolding ascending
behind_ascends n least [] b f = refl
behind_ascends n least (x ∷ xs) b f =
    let h = f x (Memᴰ.head refl) in
    sym (yes _ (b.0, (omega arith, (behind_ascends n (x + 1) xs b.1 (λ y m. f y (Memᴰ.tail m)), tt))))

pub kept_ascends : (f d : List ℕ) → ascending (tile_count f) 0 (kept_tiles f d) ≡ true
unfolding kept_tiles
kept_ascends f d =
    let p : ℕ → Bool = λ tile. not (tile_unread f d tile) in
    behind_ascends (tile_count f) 0 (select p (below (tile_count f))) (behind_select p 0 (below (tile_count f)) (below_behind (tile_count f)))
    (λ x m. member_below (tile_count f) (select_member p (below (tile_count f)) m).0)

-- the bytes of a tile

module _ (f : List ℕ) (o : OneScore f) where
  pub element_size : element_bytes f 0 ≡ tile_rows f * tile_columns f * 2
  unfolding element_bytes uncompressed cell_size
  element_size = rw o.short

  pub tile_size : tile_bytes f ≡ tile_rows f * tile_columns f * 2
  unfolding tile_bytes entries_read
  tile_size =
      let e : min (element_count f) 16 ≡ 0 + 1 = omega (arith, o.one) in
      rw e (sum_more 0 (element_bytes f) ∙ omega (arith, sum_none (element_bytes f), element_size))

  module _ (d : List ℕ) where
    pub cells_long : (tile : ℕ) → length (tile_cells f d tile) ≡ tile_bytes f
    unfolding tile_cells tile_scores
    cells_long tile = part_long d (tile_top f tile) (tile_left f tile) (tile_rows f) (tile_columns f) ∙ sym tile_size

    pub sheet_long : length (sheet_cells f d) ≡ length (kept_tiles f d) * tile_bytes f
    unfolding sheet_cells
    sheet_long = run_length (tile_cells f d) (tile_bytes f) cells_long (kept_tiles f d)

    -- those of the tile with a number among the kept ones
    pub sheet_part : (ix : List ℕ) (k : ℕ) → ix ≡ kept_tiles f d → k < length ix → tile_cells f d (get_or ix k 0) ≡ part (sheet_cells f d) (k * tile_bytes f) (tile_bytes f)
    unfolding sheet_cells
    sheet_part ix k e h =
        let x = get_or (kept_tiles f d) k 0 in
        let z : k * tile_bytes f + 0 ≡ k * tile_bytes f = omega arith in
        let i : k < length (kept_tiles f d) = rw (← e) h in
        let l = cells_long x in
        rw e
        (sym (part_whole (tile_cells f d x)) ∙ ap (part (tile_cells f d x) 0) l
        ∙ sym (rw z at (run_part (tile_cells f d) (tile_bytes f) cells_long (kept_tiles f d) k (tile_bytes f) 0 i (omega arith))))

pub kept_few : (f d ix : List ℕ) → ix ≡ kept_tiles f d → Front f → length ix ≤ 65536
kept_few f d ix e w =
    let a : ascending (tile_count f) 0 ix ≡ true = rw e (kept_ascends f d) in
    omega (arith, ascending_few (tile_count f) ix a, w.tiles)
