-- Pieces of a rectangle, the walk over them, and what is held of the tile of each. Assumes nothing.
use Rattle.std.specs.Prelude.{Err, Ok, Result}
use Prim.Native.Nat.{ℕ, ◌+◌, ◌-◌, ◌*◌, ◌%◌, ◌≤◌, ◌<◌}
use mathlib.Core.Path.{◌≡◌, refl, sym, ap, ◌∙◌}
use mathlib.Core.List.{List, [], ◌∷◌}
use mathlib.Core.Bool.{true}
use mathlib.Core.Logic.{inl, inr, by_cases}
use native.Mathlib.Decide.{dec_le}
use native.Mathlib.Omega.{arith}
use lib.ListN.{length}
use mir.Syntax.{w16}
use mir.Val.{Fits}
use mir.Facts.{of_z-to_z}
use Rattle.wire.specs.Bytes.{number_at}
use Rattle.wire.specs.Tests.{◌≤?◌, passes}
use Rattle.wire.proofs.TestLaws.{yes, no}
use Rattle.blocks.specs.Blocks.{block_end, OneBlock}
use Rattle.blocks.specs.Tables.{Inside}
use Rattle.blocks.specs.Walks.{Begins, Follows}
use Rattle.blocks.proofs.BlockLaws.{end_first, piece_next, block_few}
use Rattle.answer.specs.declared.Refusal.{Refusal}
use Rattle.answer.specs.declared.Refusal.TheVariants as refusal
use Rattle.answer.specs.declared.Held.{Held}
use Rattle.answer.specs.declared.Held.TheVariants as held
use Rattle.answer.specs.Refusals.{refusal_number}
use Rattle.answer.specs.Values.{value_of, value_bits}
use Rattle.answer.specs.Answers.{cell_bits, cell_verdict, held_kind, held_verdict}
use Rattle.record.specs.Chain.{records}
use Rattle.header.specs.Fields.{grid_rows, grid_columns, tile_rows, tile_columns, element_count}
use Rattle.header.specs.Element.{most_elements, cell_size, element}
use Rattle.geometry.specs.Tiles.{tile_count, cell_tile, cell_inside}
use Rattle.geometry.specs.Sizes.{cell_offset}
use Rattle.geometry.proofs.GridLaws.{inside_along}
use Rattle.check_header.specs.Ceilings.{most_grid_side}
use Rattle.page_check.specs.Stages.{check}
use Rattle.page_check.proofs.AcceptedLaws.{accepted_sound}
use Rattle.page_check.proofs.GivenLaws.{sound_range}
use Rattle.cells.specs.Asked.{in_grid}
use Rattle.cells.specs.Meaning.{meaning, held_meaning}
use Rattle.cells.specs.Many.{stored_from, numbered_cell, Holds}
use Rattle.cells.specs.Demand2.{ShortBits}
use Rattle.cells.proofs.CellLaws.{grid_means, count_small}
use Rattle.cells.proofs.DemandLaws.{held_each, short_bits}
use Rattle.store.specs.declared.many.Rectangle.{Rectangle}
use Rattle.store.specs.declared.pieces.Piece.{Piece}
use Rattle.store.specs.Many.{cell_there, tile_holding, Alike, TileAlike}
use Rattle.store.specs.Pieces.{Accepts, of_element, whole_grid, SameGrid, band_end, piece_in, first_piece, next_piece, OneTile, AtPiece, Walks, Numbered, Answered}
use Rattle.store.proofs.ManyLaws.{means_inside, inside_means, inside_cell, holding_is, number_is, same_tile, tile_there, sides_accepted, inside_few, inside_down}

-- cells of one tile
pub tile_alike : TileAlike
tile_alike s a ci row column row2 column2 e g h t =
    let x = held_each s a ci row column e g in
    let y = held_each s a ci row2 column2 e h in
    let z : ℕ → (Result Held Refusal) = λ n. held_meaning s ci n e in
    record {
      kind = x.kind ∙ ap (λ (n : ℕ). held_kind (z n)) t ∙ sym y.kind;
      verdict = x.verdict ∙ ap (λ (n : ℕ). held_verdict (z n)) t ∙ sym y.verdict;
    }

-- a Short's bits, for products
pub bits_short : ShortBits
bits_short = short_bits

-- a rectangle in the grid

module _ (s : List ℕ) (a : Rectangle) (g : Accepts s a) where
  pub rectangle_small : (a.row + a.rows ≤ most_grid_side) × (a.column + a.columns ≤ most_grid_side)
  rectangle_small =
      let m = inside_means s a.e a.row a.column a.rows a.columns g.inside in
      let q = sides_accepted s g.accepted in
      (omega arith, omega arith)

  pub in_grid_lem : (r c : ℕ) → r < a.rows → c < a.columns → in_grid s (a.row + r) (a.column + c) a.e ≡ true
  in_grid_lem r c h k = inside_cell s a.e a.row a.column a.rows a.columns g.inside r c h k

  -- the rectangle cut at a row
  pub accepts_cut : (n : ℕ) (b : Rectangle) → n ≤ a.rows → b ≡ record { e = a.e; row = a.row; column = a.column; rows = n; columns = a.columns } → Accepts s b
  accepts_cut n b h e =
      let m = inside_means s a.e a.row a.column a.rows a.columns g.inside in
      rw e (record { accepted = g.accepted; inside = sym (means_inside s a.e a.row a.column n a.columns m.0 (omega arith) m.1.1) })

-- the first piece and the next, as the functions below give them

module _ (s : List ℕ) (a : Rectangle) where
  module _ (top : ℕ) (p : Piece) where
    pub none_first : p ≡ piece_in s a a.rows a.rows 0 → a.columns ≡ 0 → p ≡ first_piece s a top
    unfolding first_piece
    none_first e z = e ∙ rw (← no ((1 ≤? a.columns) ∷ []) (λ y. omega (arith, y.0)))

    pub some_first : (bottom : ℕ) → bottom ≡ band_end s a top → p ≡ piece_in s a top bottom 0 → (a.columns ≡ 0 → ⊥) → p ≡ first_piece s a top
    unfolding first_piece
    some_first bottom b e z = e ∙ rw (b, ← yes ((1 ≤? a.columns) ∷ []) (omega arith, tt))

  module _ (p q : Piece) where
    pub beside_next : q ≡ piece_in s a p.top p.bottom p.right → p.right < a.columns → q ≡ next_piece s a p
    unfolding next_piece
    beside_next e h = e ∙ rw (← yes ((p.right + 1 ≤? a.columns) ∷ []) (omega arith, tt))

    pub under_next : q ≡ first_piece s a p.bottom → a.columns ≤ p.right → q ≡ next_piece s a p
    unfolding next_piece
    under_next e h = e ∙ rw (← no ((p.right + 1 ≤? a.columns) ∷ []) (λ y. omega (arith, y.0)))

-- the whole grid, each element of it, and the number of elements

pub elements_accepted : (s : List ℕ) → check s ≡ Ok tt → (1 ≤ element_count s) × (element_count s ≤ most_elements)
elements_accepted s a = (sound_range s (records s) (accepted_sound s a)).elements

pub accepts_grid : (s : List ℕ) → check s ≡ Ok tt → Accepts s (whole_grid s)
accepts_grid s a =
    record { accepted = a; inside = sym (means_inside s 0 0 0 (grid_rows s) (grid_columns s) (omega (arith, (elements_accepted s a).0)) (omega arith) (omega arith)) }

pub accepts_element : (s : List ℕ) (a : Rectangle) (e : ℕ) → Accepts s a → e < element_count s → Accepts s (of_element a e)
accepts_element s a e g h =
    let m = inside_means s a.e a.row a.column a.rows a.columns g.inside in
    record { accepted = g.accepted; inside = sym (means_inside s e a.row a.column a.rows a.columns h m.1.0 m.1.1) }

pub piece_element : (s : List ℕ) (a : Rectangle) (p : Piece) (e : ℕ) → AtPiece s a p → AtPiece s (of_element a e) p
piece_element s a p e o =
    record { sides = o.sides; low = o.low; narrow = o.narrow; tile = o.tile; one = record { each = λ r c k. o.one.each r c k }; numbers = λ r c k. o.numbers r c k }

-- the same of a file with the same grid

module _ (s t : List ℕ) (g : SameGrid s t) where
  pub same_cell : (r c : ℕ) → cell_tile s r c ≡ cell_tile t r c
  unfolding cell_tile
  same_cell r c = rw (g.columns, g.tile_rows_lem, g.tile_columns_lem)

  pub same_inside : (r c : ℕ) → cell_inside s r c ≡ cell_inside t r c
  unfolding cell_inside
  same_inside r c = rw (g.tile_rows_lem, g.tile_columns_lem)

  same_holding : (r c : ℕ) → tile_holding s r c ≡ tile_holding t r c
  unfolding tile_holding cell_there
  same_holding r c = rw (g.rows, g.columns, same_cell r c)

  pub accepts_same : (a : Rectangle) → a.e ≡ 0 → check t ≡ Ok tt → Accepts s a → Accepts t a
  accepts_same a z h k =
      let m = inside_means s a.e a.row a.column a.rows a.columns k.inside in
      record {
        accepted = h;
        inside = sym (means_inside t a.e a.row a.column a.rows a.columns (omega (arith, (elements_accepted t h).0)) (omega (arith, g.rows)) (omega (arith, g.columns)));
      }

  pub piece_same : (a : Rectangle) (p : Piece) → AtPiece s a p → AtPiece t a p
  piece_same a p o =
      record {
        sides = o.sides;
        low = omega (arith, o.low, g.tile_rows_lem);
        narrow = omega (arith, o.narrow, g.tile_columns_lem);
        tile = o.tile ∙ same_holding _ _;
        one = record { each = λ r c k. sym (same_cell _ _) ∙ o.one.each r c k ∙ same_cell _ _ };
        numbers = λ r c k. sym (same_inside _ _) ∙ o.numbers r c k ∙ rw g.tile_columns_lem;
      }

-- a block of rows and a block of columns have one tile
piece_tile :
    (s : List ℕ) (a : Rectangle) (top bottom left right : ℕ) → OneBlock a.row top bottom (tile_rows s) → OneBlock a.column left right (tile_columns s) →
    OneTile s a top bottom left right
piece_tile s a top bottom left right p q = record { each = λ r c k. same_tile s _ _ _ _ (p.each r (omega arith) (omega arith)) (q.each c (omega arith) (omega arith)) }

-- the walk

module _ (s : List ℕ) (a : Rectangle) (g : Accepts s a) where
  -- the next block of rows
  pub band_more : (top bottom : ℕ) → bottom ≡ band_end s a top → top < a.rows → (top < bottom) × ((bottom ≤ a.rows) × OneBlock a.row top bottom (tile_rows s))
  unfolding band_end
  band_more top bottom e h = piece_next a.row top (tile_rows s) a.rows bottom (tile_rows s) e refl (sides_accepted s g.accepted).tile_rows_lem.0 h

  band_ended : (top : ℕ) → top ≡ a.rows → band_end s a top ≡ a.rows
  unfolding band_end
  band_ended top e = sym (end_first a.row top (tile_rows s) a.rows (sides_accepted s g.accepted).tile_rows_lem.0 (omega arith))

  at_piece :
      (top bottom left : ℕ) → top < bottom → bottom ≤ a.rows → left < a.columns → OneBlock a.row top bottom (tile_rows s) → AtPiece s a (piece_in s a top bottom left)
  unfolding piece_in
  at_piece top bottom left h k l o =
      let d = sides_accepted s g.accepted in
      let right : ℕ = block_end a.column left (tile_columns s) a.columns in
      let q : (left < right) × ((right ≤ a.columns) × OneBlock a.column left right (tile_columns s)) =
      piece_next a.column left (tile_columns s) a.columns right (tile_columns s) refl refl d.tile_columns_lem.0 l in
      let t : OneTile s a top bottom left right = piece_tile s a top bottom left right o q.1.1 in
      let first = in_grid_lem s a g top left (omega arith) l in
      record {
        sides = (h, (k, (q.0, q.1.0)));
        low = block_few a.row top bottom (tile_rows s) o d.tile_rows_lem.0;
        narrow = block_few a.column left right (tile_columns s) q.1.1 d.tile_columns_lem.0;
        tile = refl;
        one = t;
        numbers = λ r c i.
            let x : a.row + top + (r - top) ≡ a.row + r = omega arith in
            let y : cell_inside s (a.row + r) (a.column + left) ≡ cell_inside s (a.row + top) (a.column + left) + (r - top) * tile_columns s =
            rw x at (inside_down s (a.row + top) (r - top) (a.column + left) (rw x (o.each r i.from_top i.to_bottom))) in
            let w = in_grid_lem s a g r c (omega arith) (omega arith) in
            let z : cell_inside s (a.row + r) (a.column + c) ≡ cell_inside s (a.row + r) (a.column + left) + (a.column + c - (a.column + left)) =
            inside_along s (a.row + r) (a.column + left) (a.column + c) (omega (arith, d.tile_columns_lem.0)) (omega arith) (grid_means s (a.row + r) (a.column + c) a.e w).1.0
            (t.each r c i ∙ sym (t.each r left (omega arith))) in
            omega (arith, y, z, number_is s (a.row + top) (a.column + left) a.e first);
      }

  walk_in :
      (from top bottom left : ℕ) (p : Piece) → p ≡ piece_in s a top bottom left → from ≤ top → top ≤ a.rows → top ≤ bottom → bottom ≤ a.rows →
      (top < a.rows → (top < bottom) × (left < a.columns)) → (top ≡ a.rows → left ≡ 0) → OneBlock a.row top bottom (tile_rows s) → Walks s a from p
  unfolding piece_in
  walk_in from top bottom left p e d h k b f z o =
      rw e (record { from_first = d; to_last = h; sides = k; ended = z; band = o; piece = λ l. at_piece top bottom left (f l).0 b (f l).1 o })

  module _ (top : ℕ) (p : Piece) (e : p ≡ first_piece s a top) where
    -- with columns, and without

    first_some : 1 ≤ a.columns → p ≡ piece_in s a top (band_end s a top) 0
    unfolding first_piece
    first_some c = e ∙ rw (← yes ((1 ≤? a.columns) ∷ []) (c, tt))

    first_none : (1 ≤ a.columns → ⊥) → p ≡ piece_in s a a.rows a.rows 0
    unfolding first_piece
    first_none c = e ∙ rw (← no ((1 ≤? a.columns) ∷ []) (λ y. c y.0))

    no_place : (x : ℕ) → OneBlock a.row x x (tile_rows s)
    no_place x = record { each = λ y h k. absurd (omega arith) }

    walk_some : (from : ℕ) → from ≤ top → top ≤ a.rows → 1 ≤ a.columns → Walks s a from p
    walk_some from d h c =
        let q = first_some c in
        by_cases (dec_le a.rows top)
        (λ k.
        let z : top ≡ a.rows = omega arith in
        let y : band_end s a top ≡ top = band_ended top z ∙ sym z in
        walk_in from top (band_end s a top) 0 p q d h (omega arith) (omega arith) (λ l. absurd (omega arith)) (λ l. refl) (rw y (no_place top)))
        (λ k.
        let m = band_more top (band_end s a top) refl (omega arith) in
        walk_in from top (band_end s a top) 0 p q d h (omega arith) m.1.0 (λ l. (m.0, c)) (λ l. refl) m.1.1)

    -- where it starts
    pub walk_first : top ≤ a.rows → Walks s a top p × Begins top a.columns p.top p.left
    unfolding piece_in
    walk_first h =
        by_cases (dec_le 1 a.columns) (λ c. (walk_some top (omega arith) h c, rw (first_some c) (record { first = refl; at = λ l. refl })))
        (λ c. (
          walk_in top a.rows a.rows 0 p (first_none c) h (omega arith) (omega arith) (omega arith) (λ l. absurd (omega arith)) (λ l. refl) (no_place a.rows),
          rw (first_none c) (record { first = refl; at = λ l. absurd (c l) }),
        ))

  -- and a piece more
  module _ (from : ℕ) (p q : Piece) (w : Walks s a from p) (h : p.top < a.rows) (e : q ≡ next_piece s a p) where
    pub walk_next : Walks s a from q × Follows a.columns p.top p.bottom p.left p.right q.top q.bottom q.left
    unfolding next_piece piece_in
    walk_next =
        let i = (w.piece h).sides in
        by_cases (dec_le (p.right + 1) a.columns)
        (λ c.
        let b : q ≡ piece_in s a p.top p.bottom p.right = e ∙ rw (← yes ((p.right + 1 ≤? a.columns) ∷ []) (c, tt)) in (
          walk_in from p.top p.bottom p.right q b w.from_first w.to_last w.sides i.1.0 (λ l. (i.0, omega arith)) (λ l. absurd (omega arith)) w.band,
          rw b (record { rows = w.sides; columns = omega arith; within = i.1.1.1; rows2 = w.sides; next = inl (refl, (refl, refl)) }),
        ))
        (λ c.
        let b : q ≡ first_piece s a p.bottom = e ∙ rw (← no ((p.right + 1 ≤? a.columns) ∷ []) (λ y. c y.0)) in
        let k = walk_some p.bottom q b from (omega (arith, w.from_first)) i.1.0 (omega arith) in
        let f = first_some p.bottom q b (omega arith) in
        (k, record { rows = w.sides; columns = omega arith; within = i.1.1.1; rows2 = k.sides; next = inr (omega arith, rw f (refl, refl)) }))

-- the cells of a piece are alike
pub piece_alike :
    (s : List ℕ) (ci : ℕ) (a : Rectangle) (p : Piece) → Accepts s a → AtPiece s a p → (r c : ℕ) → Inside p.top p.bottom p.left p.right r c →
    Alike (meaning s ci (a.row + r) (a.column + c) a.e) (meaning s ci (a.row + p.top) (a.column + p.left) a.e)
piece_alike s ci a p g o r c k =
    let i = o.sides in
    tile_alike s g.accepted ci _ _ _ _ a.e (in_grid_lem s a g r c (omega arith) (omega arith)) (in_grid_lem s a g p.top p.left (omega arith) (omega arith)) (o.one.each r c k)

-- the tile of a piece is that of each of its cells, and a small number

module _ (s : List ℕ) (a : Rectangle) (p : Piece) (g : Accepts s a) (o : AtPiece s a p) where
  pub cell_tile_lem : (r c : ℕ) → Inside p.top p.bottom p.left p.right r c → p.tile ≡ cell_tile s (a.row + r) (a.column + c)
  cell_tile_lem r c k =
      let i = o.sides in
      o.tile ∙ holding_is s _ _ a.e (in_grid_lem s a g p.top p.left (omega arith) (omega arith)) ∙ sym (o.one.each r c k)

  pub tile_few : p.tile < 4294967296
  tile_few =
      let i = o.sides in
      let l = tile_there s g.accepted _ _ a.e (in_grid_lem s a g p.top p.left (omega arith) (omega arith)) in
      omega (arith, cell_tile_lem p.top p.left (omega arith), l.0, count_small s (sides_accepted s g.accepted))

-- what is held of a piece's tile answers for the piece, and so for each row of it

pub answered_piece :
    (s : List ℕ) (ci : ℕ) (a : Rectangle) (p : Piece) (x : Result Held Refusal) (m : List ℕ) →
    (check s ≡ Ok tt → p.tile < tile_count s → a.e < element_count s → Holds s ci p.tile a.e x m) → Accepts s a → AtPiece s a p → Answered s ci a p x m
answered_piece s ci a p x m h g o =
    let i = o.sides in
    let n = in_grid_lem s a g p.top p.left (omega arith) (omega arith) in
    let e : p.tile ≡ cell_tile s (a.row + p.top) (a.column + p.left) = cell_tile_lem s a p g o p.top p.left (omega arith) in
    let l = tile_there s g.accepted _ _ a.e n in
    let y = h g.accepted (omega arith) l.1 in
    let w = inside_means s a.e a.row a.column a.rows a.columns g.inside in
    let d = sides_accepted s g.accepted in
    record {
      each = λ r c k. y.each _ _ (in_grid_lem s a g r c (omega arith) (omega arith)) (sym (cell_tile_lem s a p g o r c k));
      numbered = λ z r b u.
          record {
            small = omega (arith, inside_few s g.accepted (a.row + r) (a.column + p.left), o.numbers r p.left (omega arith), w.1.1, d.columns.1);
            each = λ c v t.
                rw (← o.numbers r c (omega arith)) (y.numbered z _ _ (in_grid_lem s a g r c (omega arith) (omega arith)) (sym (cell_tile_lem s a p g o r c (omega arith))));
          };
    }

-- the number inside the tile of a row's first cell is small
pub start_small :
    (s : List ℕ) (a : Rectangle) (p : Piece) (r w : ℕ) → Accepts s a → AtPiece s a p → w ≡ tile_columns s → p.top ≤ r → r < p.bottom → p.inside + (r - p.top) * w < 16777216
start_small s a p r w g o e h k =
    let i = o.sides in
    rw e (omega (arith, o.numbers r p.left (omega arith), inside_few s g.accepted (a.row + r) (a.column + p.left)))

-- the cells of an absent tile have the bits of one fill

refusal_few : (r : Refusal) → refusal_number r ≤ 16
refusal_few refusal.Identification = omega arith
refusal_few refusal.Version = omega arith
refusal_few refusal.Header = omega arith
refusal_few refusal.Ceiling = omega arith
refusal_few refusal.Opened = omega arith
refusal_few (refusal.Chain at) = omega arith
refusal_few (refusal.Checksum at) = omega arith
refusal_few (refusal.Body at) = omega arith
refusal_few refusal.Directory = omega arith
refusal_few refusal.OutsideGrid = omega arith
refusal_few (refusal.Compressed at) = omega arith
refusal_few refusal.Input = omega arith
refusal_few refusal.Room = omega arith
refusal_few (refusal.Malformed at) = omega arith
refusal_few refusal.NotOpen = omega arith
refusal_few refusal.Incomplete = omega arith

absent_same :
    (s : List ℕ) (kind fill : ℕ) (m : List ℕ) (tile i k : ℕ) (x : Result Held Refusal) → held_kind x ≡ 33 →
    cell_bits (numbered_cell s kind fill m tile i x) ≡ cell_bits (numbered_cell s kind fill m tile k x)
unfolding numbered_cell
absent_same s kind fill m tile i k (Ok (held.Stored at)) h = absurd (omega arith)
absent_same s kind fill m tile i k (Ok (held.Unpacked at)) h = absurd (omega arith)
absent_same s kind fill m tile i k (Ok held.Absent) h = refl
absent_same s kind fill m tile i k (Ok held.Alone) h = absurd (omega arith)
absent_same s kind fill m tile i k (Err r) h = absurd (omega (arith, refusal_few r))

pub piece_absent :
    (s : List ℕ) (ci : ℕ) (a : Rectangle) (p : Piece) (x : Result Held Refusal) (m : List ℕ) → Answered s ci a p x m → AtPiece s a p → held_kind x ≡ 33 →
    (r c : ℕ) → Inside p.top p.bottom p.left p.right r c →
    cell_bits (meaning s ci (a.row + r) (a.column + c) a.e) ≡ cell_bits (meaning s ci (a.row + p.top) (a.column + p.left) a.e)
piece_absent s ci a p x m n o h r c i =
    let d = o.sides in
    let z : held_kind x ≡ 0 → ⊥ = λ y. omega arith in
    sym (ap cell_bits ((n.numbered z r i.from_top i.to_bottom).each c i.from_left i.to_right)) ∙ absent_same s _ _ m _ _ _ x h
    ∙ ap cell_bits ((n.numbered z p.top (omega arith) (omega arith)).each p.left (omega arith) (omega arith))

pub numbered_row :
    (s : List ℕ) (ci : ℕ) (a : Rectangle) (p : Piece) (x : Result Held Refusal) (m : List ℕ) (r n kind fill start : ℕ) → Answered s ci a p x m → n ≡ held_kind x → (n ≡ 0 → ⊥) →
    start ≡ p.inside + (r - p.top) * tile_columns s → kind ≡ (element s a.e).kind → fill ≡ (element s a.e).fill → p.top ≤ r → r < p.bottom →
    Numbered s ci a x m kind fill p.tile start r p.left p.right
numbered_row s ci a p x m r n kind fill start w e f q k t b u = rw (q, k, t) (w.numbered (λ z. f (e ∙ z)) r b u)

-- in an absent tile each cell is the fill
pub numbered_absent :
    (s : List ℕ) (kind fill : ℕ) (m : List ℕ) (tile inside : ℕ) →
    (cell_bits (numbered_cell s kind fill m tile inside (Ok held.Absent)) ≡ value_bits (value_of kind fill))
    × (cell_verdict (numbered_cell s kind fill m tile inside (Ok held.Absent)) ≡ Ok tt)
unfolding numbered_cell
numbered_absent s kind fill m tile inside = (refl, refl)

-- a stored Short has the bits of the two bytes at its place
pub numbered_stored :
    (s : List ℕ) (fill : ℕ) (m : List ℕ) (tile inside at : ℕ) → at + 1 ≤ length s →
    (cell_bits (numbered_cell s 3 fill m tile inside (Ok (held.Stored at))) ≡ number_at 2 s (at + 2 * inside) % 65536)
    × (cell_verdict (numbered_cell s 3 fill m tile inside (Ok (held.Stored at))) ≡ Ok tt)
unfolding numbered_cell stored_from cell_offset cell_size value_of
numbered_stored s fill m tile inside at h =
    let b : passes ((at + 1 ≤? length s) ∷ []) ≡ true = sym (yes _ (h, tt)) in
    let y : inside * 2 ≡ 2 * inside = omega arith in
    let z : cell_offset 3 inside ≡ 2 * inside = y in
    let f : Fits w16 (number_at 2 s (at + 2 * inside) % 65536) = record { fits = omega arith } in
    rw (b, z) (of_z-to_z {w = w16} f, refl)
