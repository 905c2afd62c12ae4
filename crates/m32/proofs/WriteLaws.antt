-- Codes put into a list. Assumes nothing.
use Prim.Native.Nat.{ℕ, suc, ◌+◌, ◌-◌, ◌/◌, ◌%◌, ◌≤◌, ◌<◌}
use mathlib.Core.Path.{◌≡◌, refl, sym, ap, ◌∙◌}
use mathlib.Core.List.{List, [], ◌∷◌, ◌++◌, append_assoc, append-nil}
use native.Mathlib.Omega.{arith}
use native.Mathlib.Numerals.{add-one}
use lib.ListN.{length, get_or, take, drop, set, length-append, length-take, take-append-drop}
use lib.Seq.{append_snoc, set-append_left, take-set-lt, take-suc-set, take-suc, take-length}
use Rattle.wire.specs.Bytes.{put}
use Rattle.wire.proofs.PutLaws.{put_fits, put_nil, put_put, Wrote, first, then}
use Rattle.m32.specs.M32.{bases, continued, sevens, payload, wide, code_of, codes}
use Rattle.m32.proofs.CodeLaws.{sevens_length, wide_is}

-- a byte put in front of what was put behind it
put_front : (d : List ℕ) (a : ℕ) (t : List ℕ) (b : ℕ) → a + 1 + length t ≤ length d → set (put d (a + 1) t) a b ≡ put d a (b ∷ t)
put_front d a t b h =
    let r : List ℕ = drop (a + 1 + length t) d in
    let l : length (take (a + 1) d) ≡ a + 1 = length-take (a + 1) d ∙ omega arith in
    let m : a < length (take (a + 1) d ++ t) = rw length-append (omega arith) in
    let e : set (take (a + 1) d) a b ≡ take a d ++ (b ∷ []) = rw add-one (sym (take-set-lt (suc a) d a b (omega arith)) ∙ take-suc-set d a b (omega arith)) in
    let f : a + 1 + length t ≡ a + suc (length t) = omega arith in
    ap (λ (x : List ℕ). set x a b) (put_fits d (a + 1) t h)
    ∙ set-append_left (take (a + 1) d ++ t) r a b m
    ∙ ap (λ (x : List ℕ). x ++ r) (set-append_left (take (a + 1) d) t a b (omega arith) ∙ ap (λ (x : List ℕ). x ++ t) e ∙ append_snoc (take a d) b t)
    ∙ ap (λ (n : ℕ). take a d ++ (b ∷ t) ++ drop n d) f
    ∙ sym (put_fits d a (b ∷ t) (omega arith))

-- groups of seven bits, from the last to the first: i are still to be put, those of w
pub record Backward (d : List ℕ) (at k v : ℕ) (out : List ℕ) (i w : ℕ) : Type 0 where
  pub done : List ℕ
  pub whole : sevens i w ++ done ≡ sevens k v
  pub is : out ≡ put d (at + i) done
  pub long : i + length done ≡ k

module _ (d : List ℕ) (at k v : ℕ) where
  pub back_start : Backward d at k v d k v
  back_start = record { done = []; whole = append-nil (sevens k v); is = sym (put_nil d (at + k)); long = omega arith }

  pub back_more :
      (out : List ℕ) (i w : ℕ) → Backward d at k v out i w → 0 < i → at + k ≤ length d →
      Backward d at k v (set out (at + (i - 1)) (128 + w % 128)) (i - 1) (w / 128)
  unfolding sevens
  back_more out i w b h l =
      let e : i ≡ suc (i - 1) = omega arith in
      let f : at + i ≡ at + (i - 1) + 1 = omega arith in
      record {
        done = (128 + w % 128) ∷ b.done;
        whole = sym (append_snoc (sevens (i - 1) (w / 128)) (128 + w % 128) b.done) ∙ ap (λ (x : List ℕ). x ++ b.done) (ap (λ (j : ℕ). sevens j w) (sym e)) ∙ b.whole;
        is =
            ap (λ (x : List ℕ). set x (at + (i - 1)) (128 + w % 128)) (b.is ∙ ap (λ (n : ℕ). put d n b.done) f)
            ∙ put_front d (at + (i - 1)) b.done (128 + w % 128) (omega (arith, b.long));
        long = omega (arith, b.long);
      }

  pub back_end : (out : List ℕ) (i w : ℕ) → Backward d at k v out i w → i ≤ 0 → out ≡ put d at (sevens k v)
  unfolding sevens
  back_end out i w b h =
      let e : i ≡ 0 = omega arith in
      let f : at + i ≡ at = omega arith in
      let g : b.done ≡ sevens k v = ap (λ (j : ℕ). sevens j w ++ b.done) (sym e) ∙ b.whole in
      b.is ∙ rw (f, g)

-- a first byte and a magnitude's bytes, in three pieces
pub put_pieces :
    (d x y z : List ℕ) (at f m k b : ℕ) → k ≡ continued m → b ≡ get_or bases k 0 → x ≡ put d at (f ∷ []) → y ≡ put x (at + 1) (sevens k ((m - b) / 128)) →
    z ≡ put y (at + 1 + k) (((m - b) % 128) ∷ []) → at + (k + 2) ≤ length d → z ≡ put d at (f ∷ wide m)
unfolding payload
put_pieces d x y z at f m k b e g p q r h =
    let v : ℕ = m - b in
    let i : Wrote d at (f ∷ []) 1 x = first p refl in
    let j : Wrote d at ((f ∷ []) ++ sevens k (v / 128)) (1 + k) y = then i (sevens k (v / 128)) k (at + 1) q (sevens_length k (v / 128)) refl (omega arith) in
    let l : Wrote d at ((f ∷ []) ++ sevens k (v / 128) ++ ((v % 128) ∷ [])) (1 + k + 1) z = then j ((v % 128) ∷ []) 1 (at + 1 + k) r refl (omega arith) (omega arith) in
    l.is ∙ ap (λ (w : List ℕ). put d at (f ∷ w)) (wide_is m k b e g)

-- the codes of the first i numbers
unfoldable pub codes_to : List ℕ → ℕ → List ℕ
codes_to xs i = codes (take i xs)

codes_append : (xs ys : List ℕ) → codes (xs ++ ys) ≡ codes xs ++ codes ys
unfolding codes
codes_append [] ys = refl
codes_append (x ∷ xs) ys = rw (codes_append xs ys) (sym (append_assoc (code_of x) (codes xs) (codes ys)))

codes_one : (x : ℕ) → codes (x ∷ []) ≡ code_of x
unfolding codes
codes_one x = append-nil (code_of x)

module _ (xs : List ℕ) where
  pub to_none : codes_to xs 0 ≡ []
  unfolding codes_to codes
  to_none = refl

  pub to_more : (i : ℕ) → i < length xs → codes_to xs (i + 1) ≡ codes_to xs i ++ code_of (get_or xs i 0)
  unfolding codes_to
  to_more i h = rw (add-one, take-suc xs i 0 h) (codes_append (take i xs) (get_or xs i 0 ∷ []) ∙ ap (λ (l : List ℕ). codes (take i xs) ++ l) (codes_one (get_or xs i 0)))

  pub to_all : (i : ℕ) → i ≡ length xs → codes_to xs i ≡ codes xs
  unfolding codes_to
  to_all i e = rw (e, take-length)

  pub to_within : (i : ℕ) → length (codes_to xs i) ≤ length (codes xs)
  unfolding codes_to
  to_within i =
      let e : codes xs ≡ codes (take i xs) ++ codes (drop i xs) = ap codes (sym (take-append-drop i xs)) ∙ codes_append (take i xs) (drop i xs) in
      let f : length (codes xs) ≡ length (codes (take i xs)) + length (codes (drop i xs)) = ap length e ∙ length-append (codes (take i xs)) (codes (drop i xs)) in
      omega arith

  -- a length more, and a code more

  pub count_more : (i n r : ℕ) → i < length xs → n ≡ length (codes_to xs i) → r ≡ length (code_of (get_or xs i 0)) → n + r ≡ length (codes_to xs (i + 1))
  count_more i n r h e f = rw (to_more i h, e, f) (sym (length-append (codes_to xs i) (code_of (get_or xs i 0))))

  pub put_more :
      (d out out' : List ℕ) (i at : ℕ) → i < length xs → length (codes xs) ≤ length d → at ≡ length (codes_to xs i) → out ≡ put d 0 (codes_to xs i) →
      out' ≡ put out at (code_of (get_or xs i 0)) → out' ≡ put d 0 (codes_to xs (i + 1))
  put_more d out out' i at h k e f g =
      let l : length (codes_to xs i) + length (code_of (get_or xs i 0)) ≡ length (codes_to xs (i + 1)) = count_more i _ _ h refl refl in
      let z : at ≡ 0 + length (codes_to xs i) = omega arith in
      g
      ∙ rw (f, z, to_more i h)
      (put_put d 0 (codes_to xs i) (code_of (get_or xs i 0)) (omega (arith, to_within (i + 1))))
