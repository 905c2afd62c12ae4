-- Pieces of a rectangle told, a cell, a row and a piece at a time. Assumes nothing.
use Rattle.std.specs.Prelude.{Result}
use Rattle.answer.specs.declared.Refusal.{Refusal}
use Prim.Native.Nat.{ℕ, ◌+◌, ◌-◌, ◌*◌, ◌≤◌, ◌<◌}
use mathlib.Core.Path.{◌≡◌, ap, ◌∙◌}
use mathlib.Core.List.{List}
use native.Mathlib.Omega.{arith}
use native.Mathlib.Nat.{mul-le-mul}
use lib.ListN.{length, set}
use Rattle.answer.specs.declared.Cell.{Cell}
use Rattle.answer.specs.declared.Held.{Held}
use Rattle.answer.specs.Answers.{cell_kind, cell_bits}
use Rattle.store.specs.declared.many.Rectangle.{Rectangle}
use Rattle.store.specs.declared.pieces.Piece.{Piece}
use Rattle.store.specs.Face.{most_grid_side, meaning, held_cell, numbered_cell, Walks, Numbered, Answered}
use Rattle.blocks.specs.Tables.{Inside, Filled}
use Rattle.blocks.specs.Walks.{Passed, Begins, Follows}
use Rattle.blocks.proofs.TableLaws.{place_less, filled_none, filled_one, filled_under, filled_beside}
use Rattle.blocks.proofs.WalkLaws.{walked_none, walked_more, walked_all}
use Rattle.rectangles.specs.Rectangles.{cell_says}
use Rattle.rectangles.specs.Pieces.{HasRoom, Told}

-- nothing is told yet
pub told_none :
    (s : List ℕ) (ci : ℕ) (a : Rectangle) {area : ℕ → ℕ → Type 0} (k b : List ℕ) → ((r c : ℕ) → area r c → ⊥) → Told s ci a area k k b b
told_none s ci a k b f = record { kinds = filled_none k f; bits = filled_none b f }

-- room for a cell
pub row_start : (a : Rectangle) {k b : List ℕ} (r : ℕ) → r < a.rows → HasRoom a k b → r * a.columns ≤ most_grid_side * most_grid_side
row_start a r h f =
    let p : r ≤ most_grid_side = omega (arith, f.rows_small) in
    let q : a.columns ≤ most_grid_side = omega (arith, f.columns_small) in
    mul-le-mul p q

pub room_for : (a : Rectangle) (k b : List ℕ) (r c : ℕ) → HasRoom a k b → r < a.rows → c < a.columns → (r * a.columns + c < length k) × (r * a.columns + c < length b)
room_for a k b r c f h w = let z = place_less a.rows a.columns r c h w in (omega (arith, f.kinds), omega (arith, f.bits))

pub room_now :
    {s : List ℕ} {ci : ℕ} (a : Rectangle) {area : ℕ → ℕ → Type 0} {k k' b b' : List ℕ} (r c : ℕ) → Told s ci a area k k' b b' → HasRoom a k b → r < a.rows → c < a.columns →
    (r * a.columns + c < length k') × (r * a.columns + c < length b')
room_now a {k = k} {b = b} r c t f h w = let z = room_for a k b r c f h w in (omega (arith, t.kinds.long), omega (arith, t.bits.long))

-- where a loop ends
pub told_ends :
    {s : List ℕ} {ci : ℕ} {a : Rectangle} {top bottom left right r c : ℕ} {k k' b b' : List ℕ} → Told s ci a (Inside top r left c) k k' b b' → r ≡ bottom → c ≡ right →
    Told s ci a (Inside top bottom left right) k k' b b'
told_ends t e f = rw (← e, ← f) t

-- one cell more in a row
module _ (s : List ℕ) (ci : ℕ) (a : Rectangle) (r left c : ℕ) where
  next :
      (f : Result Cell Refusal → ℕ) (v : ℕ) {k k₁ k₂ : List ℕ} → Filled a.columns (cell_says f s ci a.e a.row a.column) (Inside r (r + 1) left c) k k₁ →
      v ≡ f (meaning s ci (a.row + r) (a.column + c) a.e) → k₂ ≡ set k₁ (r * a.columns + c) v → r * a.columns + c < length k → left ≤ c → c < a.columns →
      Filled a.columns (cell_says f s ci a.e a.row a.column) (Inside r (r + 1) left (c + 1)) k k₂
  unfolding cell_says
  next f v p e q h l w = rw q (filled_beside p (filled_one r c v _ e (omega (arith, p.long))) (omega arith) l (omega arith))

  module _ (h : Result Held Refusal) (m : List ℕ) (k k₁ k₂ b b₁ b₂ : List ℕ) (t : Told s ci a (Inside r (r + 1) left c) k k₁ b b₁) where
    more :
        (v w : ℕ) → v ≡ cell_kind (meaning s ci (a.row + r) (a.column + c) a.e) → w ≡ cell_bits (meaning s ci (a.row + r) (a.column + c) a.e) →
        k₂ ≡ set k₁ (r * a.columns + c) v → b₂ ≡ set b₁ (r * a.columns + c) w → HasRoom a k b → r < a.rows → left ≤ c → c < a.columns →
        Told s ci a (Inside r (r + 1) left (c + 1)) k k₂ b b₂
    more v w e g p q f i l u =
        let y = room_for a k b r c f i u in
        record { kinds = next cell_kind v t.kinds e p y.0 l u; bits = next cell_bits w t.bits g q y.1 l u }

    pub told_more :
        (p : Piece) (x : Result Cell Refusal) → Answered s ci a p h m → Inside p.top p.bottom p.left p.right r c → x ≡ held_cell s ci h m (a.row + r) (a.column + c) a.e →
        k₂ ≡ set k₁ (r * a.columns + c) (cell_kind x) → b₂ ≡ set b₁ (r * a.columns + c) (cell_bits x) → HasRoom a k b → r < a.rows → left ≤ c → c < a.columns →
        Told s ci a (Inside r (r + 1) left (c + 1)) k k₂ b b₂
    told_more p x n i e f g y u l w = let z = e ∙ n.each r c i in more (cell_kind x) (cell_bits x) (ap cell_kind z) (ap cell_bits z) f g y u l w

    pub told_numbered :
        (right kind fill tile start : ℕ) (x : Result Cell Refusal) → Numbered s ci a h m kind fill tile start r left right → x ≡ numbered_cell s kind fill m tile (start + (c - left)) h →
        k₂ ≡ set k₁ (r * a.columns + c) (cell_kind x) → b₂ ≡ set b₁ (r * a.columns + c) (cell_bits x) → HasRoom a k b → r < a.rows → left ≤ c → c < right → right ≤ a.columns →
        Told s ci a (Inside r (r + 1) left (c + 1)) k k₂ b b₂
    told_numbered right kind fill tile start x n e f g y u l v w =
        let z = e ∙ n.each c l v in more (cell_kind x) (cell_bits x) (ap cell_kind z) (ap cell_bits z) f g y u l (omega arith)

-- a row under another

module _ {s : List ℕ} {ci : ℕ} {a : Rectangle} {top bottom left right mid : ℕ} {k k₁ k₂ b b₁ b₂ : List ℕ} where
  pub told_under :
      Told s ci a (Inside top mid left right) k k₁ b b₁ → Told s ci a (Inside mid bottom left right) k₁ k₂ b₁ b₂ → right ≤ a.columns → top ≤ mid → mid ≤ bottom →
      Told s ci a (Inside top bottom left right) k k₂ b b₂
  told_under p q w h l = record { kinds = filled_under p.kinds q.kinds w h l; bits = filled_under p.bits q.bits w h l }

-- the pieces of a walk: none, one more, all

module _ {s : List ℕ} {ci : ℕ} {a : Rectangle} where
  pub told_begins : {top left : ℕ} (bottom : ℕ) (k b : List ℕ) → Begins 0 a.columns top left → Told s ci a (Passed 0 a.columns top bottom left) k k b b
  told_begins bottom k b w = record { kinds = walked_none bottom k w; bits = walked_none bottom b w }

  module _ {top bottom left right top2 bottom2 left2 : ℕ} {k k₁ k₂ b b₁ b₂ : List ℕ} where
    pub told_walks :
        Follows a.columns top bottom left right top2 bottom2 left2 → Told s ci a (Passed 0 a.columns top bottom left) k k₁ b b₁ →
        Told s ci a (Inside top bottom left right) k₁ k₂ b₁ b₂ → Told s ci a (Passed 0 a.columns top2 bottom2 left2) k k₂ b b₂
    told_walks w u v = record { kinds = walked_more w (omega arith) u.kinds v.kinds; bits = walked_more w (omega arith) u.bits v.bits }

  pub told_all :
      {p : Piece} {k k₁ b b₁ : List ℕ} → Walks s a 0 p → p.top ≡ a.rows → Told s ci a (Passed 0 a.columns p.top p.bottom p.left) k k₁ b b₁ →
      Told s ci a (Inside 0 a.rows 0 a.columns) k k₁ b b₁
  told_all w e t = record { kinds = walked_all t.kinds e (w.ended e) w.sides; bits = walked_all t.bits e (w.ended e) w.sides }

-- room for the next
pub room_still : {s : List ℕ} {ci : ℕ} {a : Rectangle} {area : ℕ → ℕ → Type 0} {k k' b b' : List ℕ} → Told s ci a area k k' b b' → HasRoom a k b → HasRoom a k' b'
room_still t f =
    record {
      rows_small = f.rows_small;
      columns_small = f.columns_small;
      kinds = omega (arith, t.kinds.long, f.kinds);
      bits = omega (arith, t.bits.long, f.bits);
    }
