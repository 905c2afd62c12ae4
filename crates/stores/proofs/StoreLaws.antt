-- Writes that stop after a number of byte stores. Assumes nothing.
use Prim.Native.Nat.{ℕ, zero, suc, ◌+◌, ◌*◌, ◌-◌, ◌≤◌, ◌<◌}
use mathlib.Core.Path.{◌≡◌, refl, sym, ap, ap₂, ◌∙◌}
use mathlib.Core.List.{List, [], ◌∷◌, ◌++◌}
use mathlib.Core.Bool.{true, false}
use mathlib.Core.Logic.{◌⊎◌, inl, inr, ⊎_elim, by_cases}
use native.Mathlib.Decide.{dec_le}
use native.Mathlib.Omega.{arith}
use lib.ListN.{length, get_or, take, length-take}
use lib.Seq.{take-suc, length-take-le}
use lib.Dec.{leb}
use borrow.Author.Tests.{le-leb, lt-leb}
use Rattle.wire.specs.Bytes.{byte_at, put}
use Rattle.wire.proofs.PutLaws.{put_nil, put_put, length_put, put_outside}
use Rattle.stores.specs.Stores.{Write, place, Apart, Fits, run, store_count, first_bytes, cut, stopped}

pub take_more : (k : ℕ) (v : List ℕ) → length v ≤ k → take k v ≡ v
take_more zero [] h = refl
take_more (suc k) [] h = refl
take_more zero (x ∷ v) h = absurd (omega arith)
take_more (suc k) (x ∷ v) h = ap (λ (l : List ℕ). x ∷ l) (take_more k v (omega arith))

take_none : (v : List ℕ) → take 0 v ≡ []
take_none [] = refl
take_none (x ∷ v) = refl

-- none
pub stopped_none : (ws : List Write) (d : List ℕ) → stopped 0 ws d ≡ d
unfolding stopped run cut first_bytes
stopped_none [] d = refl
stopped_none (w ∷ ws) d =
    let e : 0 - length w.bytes ≡ 0 = omega arith in
    let a : put d w.at (take 0 w.bytes) ≡ d = ap (put d w.at) (take_none w.bytes) ∙ put_nil d w.at in
    ap₂ (λ (j : ℕ) (l : List ℕ). run (cut j ws) l) e a ∙ stopped_none ws d

-- enough: it is the whole
pub stopped_all : (k : ℕ) (ws : List Write) (d : List ℕ) → store_count ws ≤ k → stopped k ws d ≡ run ws d
unfolding stopped run cut store_count first_bytes
stopped_all k [] d h = refl
stopped_all k (w ∷ ws) d h =
    rw (take_more k w.bytes (omega arith)) (stopped_all (k - length w.bytes) ws (put d w.at w.bytes) (omega arith))

-- one list behind another
pub count_append : (xs ys : List Write) → store_count (xs ++ ys) ≡ store_count xs + store_count ys
unfolding store_count
count_append [] ys = omega arith
count_append (w ∷ xs) ys = let e = count_append xs ys in omega arith

pub stopped_append : (k : ℕ) (xs ys : List Write) (d : List ℕ) → stopped k (xs ++ ys) d ≡ stopped (k - store_count xs) ys (stopped k xs d)
unfolding stopped run cut store_count first_bytes
stopped_append k [] ys d = let e : k - 0 ≡ k = omega arith in rw e
stopped_append k (w ∷ xs) ys d =
    let e : k - length w.bytes - store_count xs ≡ k - (length w.bytes + store_count xs) = omega arith in
    rw (← e) (stopped_append (k - length w.bytes) xs ys (put d w.at (take k w.bytes)))

-- the second of two calls depends on what the first leaves: stopped, the two are as one list
module _ (k : ℕ) (xs : List Write) (more : List ℕ → List Write) (d : List ℕ) where
  enough : store_count xs ≤ k → stopped (k - store_count xs) (more (stopped k xs d)) (stopped k xs d) ≡ stopped k (xs ++ more (run xs d)) d
  enough h =
      ap (λ (e : List ℕ). stopped (k - store_count xs) (more e) (stopped k xs d)) (stopped_all k xs d h)
      ∙ sym (stopped_append k xs (more (run xs d)) d)

  short : k < store_count xs → stopped (k - store_count xs) (more (stopped k xs d)) (stopped k xs d) ≡ stopped k (xs ++ more (run xs d)) d
  short h =
      let z : k - store_count xs ≡ 0 = omega arith in
      ap (λ (j : ℕ). stopped j (more (stopped k xs d)) (stopped k xs d)) z ∙ stopped_none (more (stopped k xs d)) (stopped k xs d)
      ∙ sym (stopped_none (more (run xs d)) (stopped k xs d)) ∙ ap (λ (j : ℕ). stopped j (more (run xs d)) (stopped k xs d)) (sym z)
      ∙ sym (stopped_append k xs (more (run xs d)) d)

  pub stopped_then : stopped (k - store_count xs) (more (stopped k xs d)) (stopped k xs d) ≡ stopped k (xs ++ more (run xs d)) d
  stopped_then = by_cases (dec_le (store_count xs) k) enough (λ n. short (omega arith))

  pub left_then : k - store_count xs - store_count (more (stopped k xs d)) ≡ k - store_count (xs ++ more (run xs d))
  left_then =
      by_cases (dec_le (store_count xs) k)
      (λ h. let e = count_append xs (more (run xs d)) in let f = ap (λ (l : List ℕ). store_count (more l)) (stopped_all k xs d h) in omega arith)
      (λ n. let e = count_append xs (more (run xs d)) in omega arith)

-- the same with what the calls say: what the first left of k, and what the second found and left
module _ (k : ℕ) (xs : List Write) (more : List ℕ → List Write) (d : List ℕ) where
  pub then_left :
      (m r : ℕ) {l : List ℕ} → m ≡ k - store_count xs → l ≡ stopped k xs d → r ≡ m - store_count (more l) → r ≡ k - store_count (xs ++ more (run xs d))
  then_left m r f g h = rw (f, g) at h ∙ left_then k xs more d

  pub then_holds :
      (m : ℕ) (o : List ℕ) {l : List ℕ} → m ≡ k - store_count xs → l ≡ stopped k xs d → o ≡ stopped m (more l) l → o ≡ stopped k (xs ++ more (run xs d)) d
  then_holds m o f g h = rw (f, g) at h ∙ stopped_then k xs more d

-- writes that fit are not many stores
pub count_most : (n : ℕ) (ws : List Write) → Fits n ws → store_count ws ≤ length ws * n
unfolding store_count
count_most n [] f = omega arith
count_most n (w ∷ ws) f =
    let e : suc (length ws) * n ≡ length ws * n + n = omega arith in
    omega (arith, f.0, count_most n ws f.1)

-- the buffer keeps its length
pub length_run : (ws : List Write) (d : List ℕ) → length (run ws d) ≡ length d
unfolding run
length_run [] d = refl
length_run (w ∷ ws) d = length_run ws (put d w.at w.bytes) ∙ length_put d w.at w.bytes

-- what no write reaches into stays, wherever they stop
pub first_length : (k : ℕ) (v : List ℕ) → length (first_bytes k v) ≤ length v
unfolding first_bytes
first_length k v = let e = length-take {A = ℕ} k v in omega arith

pub apart_stays : (k a b : ℕ) (ws : List Write) (d : List ℕ) → Apart a b ws → (i : ℕ) → a ≤ i → i < b → byte_at (stopped k ws d) i ≡ byte_at d i
unfolding stopped run cut
apart_stays k a b [] d p i g h = refl
apart_stays k a b (w ∷ ws) d p i g h =
    let f = first_length k w.bytes in
    let q : (i < w.at) ⊎ (w.at + length (first_bytes k w.bytes) ≤ i) = ⊎_elim (λ x. inr (omega arith)) (λ y. inl (omega arith)) p.0 in
    apart_stays (k - length w.bytes) a b ws (put d w.at (first_bytes k w.bytes)) p.1 i g h
    ∙ sym (put_outside d w.at (first_bytes k w.bytes) i q)

first_more : (k : ℕ) (v : List ℕ) → length v ≤ k → first_bytes k v ≡ v
unfolding first_bytes
first_more k v h = take_more k v h

-- one byte store more changes at most one byte, the one where it goes
one_byte :
    (k at : ℕ) (v d : List ℕ) → k < length v → at + length v ≤ length d → (i : ℕ) → (i ≡ at + k → ⊥) →
    byte_at (put d at (first_bytes (suc k) v)) i ≡ byte_at (put d at (first_bytes k v)) i
unfolding first_bytes
one_byte k at v d h f i n =
    let l : length (take k v) ≡ k = length-take-le k v (omega arith) in
    let b : List ℕ = get_or v k 0 ∷ [] in
    let e : put (put d at (take k v)) (at + length (take k v)) b ≡ put d at (take k v ++ b) = put_put d at (take k v) b (omega arith) in
    let q : (i < at + length (take k v)) ⊎ (at + length (take k v) + length b ≤ i) =
    by_cases (dec_le i (at + k)) (λ x. inl (let z : i ≡ at + k → ⊥ = n in omega arith)) (λ y. inr (omega arith)) in
    ap (λ (x : List ℕ). byte_at (put d at x) i) (take-suc v k 0 h) ∙ ap (λ (x : List ℕ). byte_at x i) (sym e)
    ∙ sym (put_outside (put d at (take k v)) (at + length (take k v)) b i q)

pub one_more_lem :
    (k : ℕ) (ws : List Write) (d : List ℕ) → Fits (length d) ws → (i : ℕ) → (i ≡ place k ws → ⊥) →
    byte_at (stopped (suc k) ws d) i ≡ byte_at (stopped k ws d) i
unfolding stopped run cut place
one_more_lem k [] d f i n = refl
one_more_lem k (w ∷ ws) d f i n =
    by_cases (dec_le (length w.bytes) k)
    (λ h.
    let e : suc k - length w.bytes ≡ suc (k - length w.bytes) = omega arith in
    let l : length (put d w.at w.bytes) ≡ length d = length_put d w.at w.bytes in
    let p : leb (length w.bytes) k ≡ true = le-leb _ _ h in
    ap₂ (λ (j : ℕ) (v : List ℕ). byte_at (stopped j ws (put d w.at v)) i) e (first_more (suc k) w.bytes (omega arith))
    ∙ one_more_lem (k - length w.bytes) ws (put d w.at w.bytes) (rw l f.1) i (rw p at n)
    ∙ ap (λ (v : List ℕ). byte_at (stopped (k - length w.bytes) ws (put d w.at v)) i) (sym (first_more k w.bytes h)))
    (λ h.
    let a : suc k - length w.bytes ≡ 0 = omega arith in
    let b : k - length w.bytes ≡ 0 = omega arith in
    let p : leb (length w.bytes) k ≡ false = lt-leb (length w.bytes) k (omega arith) in
    ap (λ (j : ℕ). byte_at (stopped j ws (put d w.at (first_bytes (suc k) w.bytes))) i) a
    ∙ ap (λ (x : List ℕ). byte_at x i) (stopped_none ws (put d w.at (first_bytes (suc k) w.bytes)))
    ∙ one_byte k w.at w.bytes d (omega arith) f.0 i (rw p at n)
    ∙ ap (λ (x : List ℕ). byte_at x i) (sym (stopped_none ws (put d w.at (first_bytes k w.bytes))))
    ∙ ap (λ (j : ℕ). byte_at (stopped j ws (put d w.at (first_bytes k w.bytes))) i) (sym b))

pub length_stopped : (k : ℕ) (ws : List Write) (d : List ℕ) → length (stopped k ws d) ≡ length d
unfolding stopped
length_stopped k ws d = length_run (cut k ws) d
