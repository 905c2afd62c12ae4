-- Numbers written at the front of a list, one after the other. Assumes nothing.
use Rattle.std.specs.Prelude.{Option, Result, ⊤}
use Rattle.answer.specs.declared.Extent.{Extent}
use Rattle.answer.specs.declared.Refusal.{Refusal}
use Prim.Native.Nat.{ℕ, ◌*◌, ◌≤◌, ◌<◌}
use mathlib.Core.Path.{◌≡◌, refl, ap, ◌∙◌}
use mathlib.Core.List.{List, [], ◌∷◌}
use mathlib.Core.Bool.{Bool, true, false}
use native.Mathlib.Omega.{arith}
use native.Mathlib.Nat.{mul-le-mul}
use lib.ListN.{set}
use lib.Dec.{eqb}
use borrow.Author.Tests.{eqb-true, ne_eqb}
use Rattle.wire.specs.declared.Compared.{Compared}
use Rattle.wire.specs.Pick.{pick}
use Rattle.wire.specs.Bytes.{put}
use Rattle.wire.specs.Bytes.{same_bytes}
use Rattle.wire.specs.Compare.{pairs_read, compared}
use Rattle.answer.specs.declared.Cell.{Cell}
use Rattle.answer.specs.declared.Held.{Held}
use Rattle.answer.specs.Refusals.{verdict_number, verdict_place}
use Rattle.answer.specs.Answers.{cell_kind, cell_type, cell_bits, cell_place, content_kind, content_place, content_length, held_kind, held_place, laid_number, written, answer_tile, answer_inside}
use Rattle.check_start.specs.Start.{check_start, needed}
use Rattle.page_check.specs.Stages.{check}
use Rattle.cells.specs.Reads.{read_by_directory, read_by_walk, read_by_records, read_meaning, records_meaning}
use Rattle.cells.proofs.ReadLaws.{directory_read, walk_read, records_read}
use Rattle.cells.specs.TileCells.{held_bits, held_count}
use Rattle.replay.specs.declared.Replayed.{Replayed}
use Rattle.replay.specs.Replay.{replayed_number, replayed_length, replayed_entries}
use Rattle.gvrs_c.proofs.DescriptionLaws.{list_told}
use Rattle.gvrs_c.specs.Report.{reported, start_numbers, cell_numbers, content_numbers, held_numbers, laid_report}
use Rattle.gvrs_c.specs.Route.{read_by, meaning_by, RouteMeans}

one_reported : (out : List ℕ) (a : ℕ) → set out 0 a ≡ reported (a ∷ []) out
unfolding reported
one_reported [] a = refl
one_reported (x ∷ xs) a = refl

two_reported : (out : List ℕ) (a b : ℕ) → set (set out 0 a) 1 b ≡ reported (a ∷ b ∷ []) out
unfolding reported
two_reported [] a b = refl
two_reported (x ∷ []) a b = refl
two_reported (x ∷ y ∷ ys) a b = refl

three_reported : (out : List ℕ) (a b c : ℕ) → set (set (set out 0 a) 1 b) 2 c ≡ reported (a ∷ b ∷ c ∷ []) out
unfolding reported
three_reported [] a b c = refl
three_reported (x ∷ []) a b c = refl
three_reported (x ∷ y ∷ []) a b c = refl
three_reported (x ∷ y ∷ z ∷ zs) a b c = refl

-- the number of an answer x, and one number of it in `out`, from what the functions below give
pub one_told :
    {A : Type 0} (kind number : A → ℕ) (o p : List ℕ) (x y : A) (n a : ℕ) → x ≡ y → a ≡ number x → p ≡ set o 0 a → n ≡ kind x →
    (n ≡ kind y) × (p ≡ reported (number y ∷ []) o)
one_told kind number o p x y n a e f g h = (h ∙ ap kind e, g ∙ one_reported o a ∙ rw (f, e))

-- and three numbers of it
pub three_told :
    {A : Type 0} (kind f g h : A → ℕ) (o p q t : List ℕ) (x y : A) (n a b c : ℕ) → x ≡ y → a ≡ f x → p ≡ set o 0 a → b ≡ g x → q ≡ set p 1 b → c ≡ h x → t ≡ set q 2 c →
    n ≡ kind x → (n ≡ kind y) × (t ≡ reported (f y ∷ g y ∷ h y ∷ []) o)
three_told kind f g h o p q t x y n a b c e i j k l u v w = (w ∙ ap kind e, v ∙ rw (l, j) (three_reported o a b c ∙ rw (i, k, u, e)))

-- a check's number and place
pub checked :
    (s o p : List ℕ) (v : Result ⊤ Refusal) (n a : ℕ) → v ≡ check s → a ≡ verdict_place v → p ≡ set o 0 a → n ≡ verdict_number v →
    (n ≡ verdict_number (check s)) × (p ≡ reported (verdict_place (check s) ∷ []) o)
checked s o p v n a = one_told verdict_number verdict_place o p v (check s) n a

-- the first half's, with what it needs

module _ (s : List ℕ) (k n r : ℕ) where
  pub needs_yes : n ≡ 16 → r ≡ needed s k → r ≡ pick (eqb n 16) (needed s k) 0
  needs_yes e q = rw e q

  pub needs_not : (n ≡ 16 → ⊥) → 0 ≡ pick (eqb n 16) (needed s k) 0
  needs_not e = rw (ne_eqb n 16 e)

pub start_told :
    (s o p q : List ℕ) (k : ℕ) (v : Result ⊤ Refusal) (n a b : ℕ) → v ≡ check_start s k → n ≡ verdict_number v → a ≡ verdict_place v → p ≡ set o 0 a →
    b ≡ pick (eqb n 16) (needed s k) 0 → q ≡ set p 1 b →
    (n ≡ verdict_number (check_start s k)) × (q ≡ reported (start_numbers s k) o)
start_told s o p q k v n a b e f g h i j = (f ∙ ap verdict_number e, j ∙ rw h (two_reported o a b ∙ rw (g, i, f, e)))

-- a cell's, by a route

module _ (s : List ℕ) (ci row column e route : ℕ) (r : Result Cell Refusal) where
  pub by_walk : route ≡ 1 → r ≡ read_by_walk s ci row column e → r ≡ read_by route s ci row column e
  unfolding read_by
  by_walk h q = rw h q

  pub by_records : route ≡ 2 → r ≡ read_by_records s ci row column e → r ≡ read_by route s ci row column e
  unfolding read_by
  by_records h q = rw h q

  pub by_directory : (route ≡ 1 → ⊥) → (route ≡ 2 → ⊥) → r ≡ read_by_directory s ci row column e → r ≡ read_by route s ci row column e
  unfolding read_by
  by_directory h k q = rw (ne_eqb route 1 h, ne_eqb route 2 k) q

pub route_means : RouteMeans
unfolding read_by meaning_by
route_means route s ci row column e = go (eqb route 1) refl (eqb route 2) refl
  where
    go :
        (a : Bool) → eqb route 1 ≡ a → (b : Bool) → eqb route 2 ≡ b →
        pick a (read_by_walk s ci row column e) (pick b (read_by_records s ci row column e) (read_by_directory s ci row column e))
        ≡ pick b (records_meaning s ci row column e) (read_meaning s ci row column e)
    go true f true g = let y = eqb-true route 1 f in let z = eqb-true route 2 g in absurd (omega arith)
    go true f false g = walk_read s ci row column e
    go false f true g = records_read s ci row column e
    go false f false g = directory_read s ci row column e

pub cell_numbers_are :
    (x : Result Cell Refusal) (a b c d e : ℕ) → a ≡ cell_type x → b ≡ cell_bits x → c ≡ cell_place x → d ≡ answer_tile x → e ≡ answer_inside x → a ∷ b ∷ c ∷ d ∷ e ∷ [] ≡ cell_numbers x
cell_numbers_are x a b c d e f g h i j = rw (f, g, h, i, j)

pub cell_told :
    (route : ℕ) (s : List ℕ) (ci row column e : ℕ) (o p l : List ℕ) (x : Result Cell Refusal) (n : ℕ) → x ≡ read_by route s ci row column e → l ≡ cell_numbers x → p ≡ reported l o →
    n ≡ cell_kind x →
    (n ≡ cell_kind (read_by route s ci row column e))
    × ((p ≡ reported (cell_numbers (read_by route s ci row column e)) o)
    × ((n ≡ cell_kind (meaning_by route s ci row column e)) × (p ≡ reported (cell_numbers (meaning_by route s ci row column e)) o)))
cell_told route s ci row column e o p l x n d f g h =
    let by = list_told cell_kind cell_numbers o p l x (read_by route s ci row column e) n d f g h in
    (by.0, (by.1, rw (route_means route s ci row column e) at by))

-- an element's content
pub content_told :
    (o p q : List ℕ) (x y : Result (Option Extent) Refusal) (n a b : ℕ) → x ≡ y → a ≡ content_place x → p ≡ set o 0 a → b ≡ content_length x → q ≡ set p 1 b →
    n ≡ content_kind x → (n ≡ content_kind y) × (q ≡ reported (content_numbers y) o)
content_told o p q x y n a b e f g h i l = (l ∙ ap content_kind e, i ∙ rw g (two_reported o a b ∙ rw (f, h, e)))

-- numbers of M32 codes
pub taken_told : (o p : List ℕ) (a b : ℕ) → a ≡ b → p ≡ set o 0 a → p ≡ reported (b ∷ []) o
taken_told o p a b e f = f ∙ one_reported o a ∙ rw e

-- all cells of an element in a tile

pub small_product : (a b : ℕ) → a < 4294967296 → b < 4294967296 → a * b < 18446744073709551616
small_product a b h k =
    let p : a ≤ 4294967295 = omega arith in
    let q : b ≤ 4294967295 = omega arith in
    let m : a * b ≤ 4294967295 * 4294967295 = mul-le-mul p q in
    omega arith

pub counted : (s : List ℕ) (x y : Result Held Refusal) (r : ℕ) → x ≡ y → r ≡ held_count s y → r ≡ held_count s x
counted s x y r p q = rw p q

pub held_told :
    (s : List ℕ) (e : ℕ) (o p q d m : List ℕ) (x y : Result Held Refusal) (n a b : ℕ) → x ≡ y → m ≡ put d 0 (held_bits s e x) → a ≡ held_place x → p ≡ set o 0 a → b ≡ held_count s x →
    q ≡ set p 1 b → n ≡ held_kind x → (n ≡ held_kind y) × ((q ≡ reported (held_numbers s y) o) × (m ≡ put d 0 (held_bits s e y)))
held_told s e o p q d m x y n a b u v f g h i l = (l ∙ ap held_kind u, (i ∙ rw g (two_reported o a b ∙ rw (f, h, u)), v ∙ rw u))

-- one number of an answer in `out`
pub one_put : (o p : List ℕ) (a v : ℕ) → a ≡ v → p ≡ set o 0 a → p ≡ reported (v ∷ []) o
one_put o p a v e h = h ∙ one_reported o a ∙ rw e

-- two numbers of an answer
pub two_put : (o p q : List ℕ) (a b v w : ℕ) → a ≡ v → p ≡ set o 0 a → b ≡ w → q ≡ set p 1 b → q ≡ reported (v ∷ w ∷ []) o
two_put o p q a b v w e h f i = i ∙ rw h (two_reported o a b ∙ rw (e, f))

-- the answer of a call, which it hands on
pub laid_told :
    (o p : List ℕ) (x y : Result ℕ Refusal) (n : ℕ) → x ≡ y → n ≡ laid_number x → p ≡ reported (laid_report x ∷ []) o →
    (n ≡ laid_number y) × (p ≡ reported (laid_report y ∷ []) o)
laid_told o p x y n e i j = (rw (← e) i, rw (← e) j)

-- the number and length, or place, of a lay-down or a correction, handed on, and what the buffer holds
pub laid_handed :
    (o p f g : List ℕ) (x y : Result ℕ Refusal) (n : ℕ) → x ≡ y → f ≡ g → n ≡ laid_number x → p ≡ reported (laid_report x ∷ []) o →
    (n ≡ laid_number y) × ((p ≡ reported (laid_report y ∷ []) o) × (f ≡ g))
laid_handed o p f g x y n e h i j = (rw (← e) i, (rw (← e) j, h))

-- the same, where the buffer is said by the answer
pub moved_handed :
    (o p f v b : List ℕ) (x y : Result ℕ Refusal) (n : ℕ) → x ≡ y → f ≡ written x v b → n ≡ laid_number x → p ≡ reported (laid_report x ∷ []) o →
    (n ≡ laid_number y) × ((p ≡ reported (laid_report y ∷ []) o) × (f ≡ written y v b))
moved_handed o p f v b x y n e h i j = laid_handed o p f (written y v b) x y n e (h ∙ ap (λ (z : Result ℕ Refusal). written z v b) e) i j

-- and of a call that stops, with the number of stores
pub stopped_handed :
    (o p f g : List ℕ) (x y : Result ℕ Refusal) (n a b : ℕ) → x ≡ y → a ≡ b → f ≡ g → n ≡ laid_number x → p ≡ reported (laid_report x ∷ a ∷ []) o →
    (n ≡ laid_number y) × ((p ≡ reported (laid_report y ∷ b ∷ []) o) × (f ≡ g))
stopped_handed o p f g x y n a b e d h i j = (rw (← e) i, (rw (← e, ← d) j, h))

-- and of a replay
pub replayed_handed :
    (o p f g : List ℕ) (x y : Replayed) (n : ℕ) → x ≡ y → f ≡ g → n ≡ replayed_number x → p ≡ reported (replayed_length x ∷ replayed_entries x ∷ []) o →
    (n ≡ replayed_number y) × ((p ≡ reported (replayed_length y ∷ replayed_entries y ∷ []) o) × (f ≡ g))
replayed_handed o p f g x y n e h i j = (rw (← e) i, (rw (← e) j, h))

-- names compared
pub compare_told :
    (a b o p : List ℕ) (x : Compared) (n : ℕ) → x ≡ compared a b → p ≡ set o 0 x.pairs → n ≡ pick x.equal 1 0 →
    (n ≡ pick (same_bytes a b) 1 0) × (p ≡ reported (pairs_read a b ∷ []) o)
unfolding compared
compare_told a b o p x n e g h =
    one_told (λ (c : Compared). pick c.equal 1 0) (λ (c : Compared). c.pairs) o p x (compared a b) n x.pairs e refl g h
