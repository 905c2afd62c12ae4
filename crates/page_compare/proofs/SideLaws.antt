-- A part of the memory that is lent, and what is held of the elements of a tile with such parts. Assumes nothing.
use Rattle.std.specs.Prelude.{Ok, Result}
use Rattle.answer.specs.declared.Refusal.{Refusal}
use Prim.Native.Nat.{ℕ, ◌+◌, ◌-◌, ◌*◌, ◌≤◌, ◌<◌}
use mathlib.Core.Path.{◌≡◌, refl, sym, ap, ◌∙◌}
use mathlib.Core.List.{List, ◌++◌}
use mathlib.Core.Logic.{inl, inr, ⊎_elim, by_cases}
use native.Mathlib.Decide.{dec_le}
use native.Mathlib.Nat.{mul-le-mul, mul-le-mul_right}
use native.Mathlib.Omega.{arith}
use lib.ListN.{length, get_or, set, take, drop, length-append, length-take, length-drop, length-set, get_or-append, take-append-drop}
use lib.Seq.{drop-drop, get_or-append-add, get_or-take, get_or-drop, ext_get_or, get_or-set_same, get_or-set_other}
use borrow.Rule.Slice.PartMut.{put_mid, mid_of}
use Rattle.answer.specs.declared.Held.{Held}
use Rattle.store.specs.declared.many.Rectangle.{Rectangle}
use Rattle.store.specs.declared.pieces.Piece.{Piece}
use Rattle.store.specs.Face.{tile_count, element_count, element, check, Holds, Accepts, of_element, AtPiece}
use Rattle.store.proofs.PieceLaws.{accepts_element, piece_element, answered_piece}
use Rattle.page_compare.specs.declared.Pair.{Pair}
use Rattle.page_compare.specs.declared.sides.Side.{Side}
use Rattle.page_compare.specs.Sides.{part_of, Changed, PartFor, no_side, Ready, PageReady, PageUpto, BothReady}

-- a part lent, and back

parts_same : (l now : List ℕ) (c d : ℕ) → length now ≡ length l → ((i : ℕ) → c ≤ i → i < d → get_or now i 0 ≡ get_or l i 0) → part_of now c d ≡ part_of l c d
parts_same l now c d e f =
    ext_get_or 0 (part_of now c d) (part_of l c d) same
    (λ i h. at now i (omega (arith, few now)) ∙ f (c + i) (omega arith) (omega (arith, few now)) ∙ sym (at l i (omega (arith, few now))))
  where
    same : length (part_of now c d) ≡ length (part_of l c d)
    same = length-take (d - c) (drop c now) ∙ omega (arith, length-drop c now, length-drop c l, length-take (d - c) (drop c l), e)

    few : (m : List ℕ) → length (part_of m c d) ≤ d - c
    few m = omega (arith, length-take (d - c) (drop c m))

    at : (m : List ℕ) (i : ℕ) → i < d - c → get_or (part_of m c d) i 0 ≡ get_or m (c + i) 0
    at m i h = get_or-take (d - c) (drop c m) i 0 h ∙ get_or-drop c m i 0

module _ (a b : ℕ) (l v now : List ℕ) (h : a ≤ b) (k : b ≤ length l) (n : length v ≡ b - a) (e : now ≡ put_mid a (b - a) l v) where
  back : now ≡ take a l ++ (v ++ drop b l)
  back =
      let z : a + (b - a) ≡ b = omega arith in
      e ∙ ap (λ (x : List ℕ). take a l ++ (v ++ x)) (drop-drop (b - a) a l ∙ ap (λ (i : ℕ). drop i l) z)

  front : length (take a l) ≡ a
  front = length-take a l ∙ omega arith

  long : length now ≡ length l
  long = ap length back ∙ length-append (take a l) (v ++ drop b l) ∙ omega (arith, front, length-append v (drop b l), n, length-drop b l)

  before : (i : ℕ) → i < a → get_or now i 0 ≡ get_or l i 0
  before i q =
      rw back (get_or-append (take a l) (v ++ drop b l) 0 i (omega (arith, front)))
      ∙ sym (get_or-append (take a l) (drop a l) 0 i (omega (arith, front))) ∙ ap (λ (m : List ℕ). get_or m i 0) (take-append-drop a l)

  behind_front : (i : ℕ) → get_or now (a + i) 0 ≡ get_or (v ++ drop b l) i 0
  behind_front i =
      let z : length (take a l) + i ≡ a + i = omega (arith, front) in
      ap (λ (m : List ℕ). get_or m (a + i) 0) back ∙ sym (ap (λ (j : ℕ). get_or (take a l ++ (v ++ drop b l)) j 0) z) ∙ get_or-append-add (take a l) (v ++ drop b l) i 0

  inside : (i : ℕ) → i < b - a → get_or now (a + i) 0 ≡ get_or v i 0
  inside i q = behind_front i ∙ get_or-append v (drop b l) 0 i (omega arith)

  behind : (i : ℕ) → b ≤ i → get_or now i 0 ≡ get_or l i 0
  behind i q =
      let x : a + (i - a) ≡ i = omega arith in
      let y : length v + (i - b) ≡ i - a = omega arith in
      let z : b + (i - b) ≡ i = omega arith in
      sym (ap (λ (j : ℕ). get_or now j 0) x) ∙ behind_front (i - a) ∙ sym (ap (λ (j : ℕ). get_or (v ++ drop b l) j 0) y) ∙ get_or-append-add v (drop b l) (i - b) 0
      ∙ get_or-drop b l (i - b) 0 ∙ ap (λ (j : ℕ). get_or l j 0) z

  pub part_changed : Changed a b l now
  part_changed =
      record {
        long = long;
        apart = λ c d o. parts_same l now c d long (λ i x y. ⊎_elim (λ z. before i (omega arith)) (λ z. behind i (omega arith)) o);
      }

  pub part_is : part_of now a b ≡ v
  part_is =
      ext_get_or 0 (part_of now a b) v (length-take (b - a) (drop a now) ∙ omega (arith, length-drop a now, long, n))
      (λ i q.
      let f : i < b - a = omega (arith, length-take (b - a) (drop a now)) in
      get_or-take (b - a) (drop a now) i 0 f ∙ get_or-drop a now i 0 ∙ inside i f)

  pub part_holds :
      (s : List ℕ) (ci tile x : ℕ) (r : Result Held Refusal) → (check s ≡ Ok tt → tile < tile_count s → x < element_count s → Holds s ci tile x r v) →
      check s ≡ Ok tt → tile < tile_count s → x < element_count s → Holds s ci tile x r (part_of now a b)
  part_holds s ci tile x r f c t m = rw part_is (f c t m)

-- what is held with a part
pub part_held :
    (a b : ℕ) (l v : List ℕ) → a ≤ b → b ≤ length l → length v ≡ length (mid_of a (b - a) l) → (s : List ℕ) (ci tile x : ℕ) (r : Result Held Refusal) →
    (check s ≡ Ok tt → tile < tile_count s → x < element_count s → Holds s ci tile x r v) →
    Changed a b l (put_mid a (b - a) l v) × (check s ≡ Ok tt → tile < tile_count s → x < element_count s → Holds s ci tile x r (part_of (put_mid a (b - a) l v) a b))
part_held a b l v h k e s ci tile x r f =
    let n : length v ≡ b - a = e ∙ length-take (b - a) (drop a l) ∙ omega (arith, length-drop a l) in
    (part_changed a b l v (put_mid a (b - a) l v) h k n refl, part_holds a b l v (put_mid a (b - a) l v) h k n refl s ci tile x r f)

-- an element with its part

pub side_ready :
    (s : List ℕ) (ci : ℕ) (a : Rectangle) (p : Piece) (e : ℕ) (x : Side) (m : List ℕ) → x.from ≤ x.to → x.to ≤ length m → x.kind ≡ (element s e).kind → x.fill ≡ (element s e).fill →
    (check s ≡ Ok tt → p.tile < tile_count s → e < element_count s → Holds s ci p.tile e x.held (part_of m x.from x.to)) → Accepts s a → AtPiece s a p → e < element_count s →
    Ready s ci a p e x m
side_ready s ci a p e x m h k f g w o q n =
    record {
      part = (h, k);
      kind = f;
      fill = g;
      answered = answered_piece s ci (of_element a e) p x.held (part_of m x.from x.to) w (accepts_element s a e o n) (piece_element s a p e q);
    }

-- where its part has not changed
pub ready_still :
    {s : List ℕ} {ci : ℕ} {a : Rectangle} {p : Piece} {e : ℕ} {x : Side} {m : List ℕ} (now : List ℕ) → Ready s ci a p e x m → length now ≡ length m →
    part_of now x.from x.to ≡ part_of m x.from x.to → Ready s ci a p e x now
ready_still now r l e = record { part = (r.part.0, omega (arith, r.part.1)); kind = r.kind; fill = r.fill; answered = rw e r.answered }

-- which part is an element's

pub part_there :
    (e cells low high first end from to : ℕ) → first ≡ e * cells → end ≡ first + cells → end ≤ high - low → low ≤ high → from ≡ low + first → to ≡ low + end →
    PartFor e cells low high from to
part_there e cells low high first end from to p q h k f g = record { within = (omega arith, (omega arith, omega arith)); starts = inr (omega arith) }

pub part_empty : (e cells low high from to : ℕ) → low ≤ high → from ≡ low → to ≡ low → PartFor e cells low high from to
part_empty e cells low high from to k f g = record { within = (omega arith, (omega arith, omega arith)); starts = inl g }

pub product_small : (e cells : ℕ) → e < 16 → cells ≤ 16777216 → e * cells ≤ 268435456
product_small e cells h k = let q : e ≤ 16 = omega arith in let p : e * cells ≤ 16 * 16777216 = mul-le-mul q k in omega arith

-- the elements of a page, one after the other

pub page_none : (s : List ℕ) (ci : ℕ) (a : Rectangle) (p : Piece) (low high cells : ℕ) (xs : List Side) (m : List ℕ) → low ≤ high → PageUpto s ci a p 0 low high cells xs m m
page_none s ci a p low high cells xs m h =
    record {
      ready = record { each = λ k q. absurd (omega arith); from_low = λ k q. absurd (omega arith); to_high = λ k q. absurd (omega arith) };
      to_next = λ k q. absurd (omega arith);
      changed = record { long = refl; apart = λ c d o. refl };
    }

pub page_more :
    (s : List ℕ) (ci : ℕ) (a : Rectangle) (p : Piece) (e low high cells : ℕ) (xs : List Side) (x : Side) (old mid now : List ℕ) →
    PageUpto s ci a p e low high cells xs old mid → e < length xs → Ready s ci a p e x now → PartFor e cells low high x.from x.to → Changed x.from x.to mid now →
    PageUpto s ci a p (e + 1) low high cells (set xs e x) old now
page_more s ci a p e low high cells xs x old mid now u l r f c =
    record {
      ready = record {
        each = λ k h. either k h (λ z. other k z) (λ z. rw (z, here) r);
        from_low = λ k h. either2 k h (λ z. rw (there k z) (u.ready.from_low k z)) (λ z. rw (z, here) f.within.0);
        to_high = λ k h. either2 k h (λ z. rw (there k z) (u.ready.to_high k z)) (λ z. rw (z, here) f.within.1.0);
      };
      to_next = λ k h. either2 k h (λ z. rw (there k z) (let y : e * cells ≤ (e + 1) * cells = mul-le-mul_right cells (omega arith) in omega (arith, u.to_next k z))) (λ z. rw (z, here) f.within.1.1);
      changed = record {
        long = c.long ∙ u.changed.long;
        apart = λ i d o. c.apart i d (⊎_elim (λ z. inl (omega (arith, f.within.0))) (λ z. inr (omega (arith, f.within.1.0))) o) ∙ u.changed.apart i d o;
      };
    }
  where
    here : get_or (set xs e x) e no_side ≡ x
    here = get_or-set_same xs e x no_side l

    there : (k : ℕ) → k < e → get_or (set xs e x) k no_side ≡ get_or xs k no_side
    there k z = get_or-set_other xs e k x no_side (λ y. omega arith)

    either : (k : ℕ) → k < e + 1 → (k < e → Ready s ci a p k (get_or (set xs e x) k no_side) now) → (k ≡ e → Ready s ci a p k (get_or (set xs e x) k no_side) now) → Ready s ci a p k (get_or (set xs e x) k no_side) now
    either k h g w = by_cases (dec_le (k + 1) e) (λ z. g (omega arith)) (λ z. w (omega arith))

    either2 : {P : Type 0} (k : ℕ) → k < e + 1 → (k < e → P) → (k ≡ e → P) → P
    either2 k h g w = by_cases (dec_le (k + 1) e) (λ z. g (omega arith)) (λ z. w (omega arith))

    other : (k : ℕ) → k < e → Ready s ci a p k (get_or (set xs e x) k no_side) now
    other k z =
        rw (there k z)
        (ready_still now (u.ready.each k z) c.long
        (c.apart (get_or xs k no_side).from (get_or xs k no_side).to (⊎_elim (λ y. inr (omega (arith, u.ready.from_low k z))) (λ y. inl (omega (arith, u.to_next k z))) f.starts)))

-- in an array of so many places
pub page_step :
    (s : List ℕ) (ci : ℕ) (a : Rectangle) (p : Piece) (e low high cells n : ℕ) (xs : List Side) (x : Side) (old mid now : List ℕ) → length xs ≡ n →
    PageUpto s ci a p e low high cells xs old mid → e < n → Ready s ci a p e x now → PartFor e cells low high x.from x.to → Changed x.from x.to mid now →
    (length (set xs e x) ≡ n) × PageUpto s ci a p (e + 1) low high cells (set xs e x) old now
page_step s ci a p e low high cells n xs x old mid now z u l r f c =
    (length-set xs e x ∙ z, page_more s ci a p e low high cells xs x old mid now u (omega arith) r f c)

pub page_all :
    (s : List ℕ) (ci : ℕ) (a : Rectangle) (p : Piece) (e n low high cells : ℕ) (xs : List Side) (old now : List ℕ) → PageUpto s ci a p e low high cells xs old now → e ≡ n →
    PageReady s ci a p n low high xs now × Changed low high old now
page_all s ci a p e n low high cells xs old now u z = (rw z at u.ready, u.changed)

-- both pages, one behind the other
pub both_ready :
    (s t : List ℕ) (q : Pair) (a : Rectangle) (p : Piece) (half end : ℕ) (xs ys : List Side) (mid now : List ℕ) → PageReady s q.first a p q.elements 0 half xs mid →
    PageReady t q.second a p q.elements half end ys now → Changed half end mid now → BothReady s t q a p xs ys now
both_ready s t q a p half end xs ys mid now f g c =
    record {
      first = λ e h. ready_still now (f.each e h) c.long (c.apart (get_or xs e no_side).from (get_or xs e no_side).to (inl (f.to_high e h)));
      second = λ e h. g.each e h;
    }
