-- Req 03: the map of tiles by the tile records that stand among a page's pieces.
use Rattle.std.specs.Prelude.{ℕ, ◌≡◌, List, [], ◌∷◌, map, eqb}
use Rattle.wire.specs.Pick.{pick}
use Rattle.wire.specs.Bytes.{part}
use Rattle.wire.specs.Lists.{below}
use Rattle.bodies.specs.TileRecord.{tile_index, section_length, element_content_at}

-- the content of each of n elements in the tile record r, asked of the record alone
unfoldable pub contents_alone : ℕ → List ℕ → List (List ℕ)
contents_alone n r = map (λ e. part r (element_content_at r 0 e) (section_length r 0 e)) (below n)

-- of tile records with their places, what the first with index j holds; nothing where none has it
unfoldable pub held_in : ℕ → ℕ → List (ℕ × List ℕ) → List (List ℕ)
held_in n j [] = []
held_in n j (p ∷ ps) = pick (eqb (tile_index p.1 0) j) (contents_alone n p.1) (held_in n j ps)

-- none of them has index i
abbrev pub NoneWith : ℕ → List (ℕ × List ℕ) → Type 0
NoneWith i [] = Unit {0}
NoneWith i (p ∷ ps) = (tile_index p.1 0 ≡ i → ⊥) × NoneWith i ps
