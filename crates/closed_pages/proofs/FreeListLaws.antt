-- The list of free records as it is written: how long it is, and that its entries read back. Assumes nothing.
use Prim.Native.Nat.{ℕ, zero, suc, ◌+◌, ◌*◌, ◌^◌, ◌<◌}
use mathlib.Core.Path.{◌≡◌, refl, sym, ap, ap₂, ◌∙◌}
use mathlib.Core.List.{List, [], ◌∷◌, ◌++◌, map, map-append, Memᴰ}
use native.Mathlib.Omega.{arith}
use lib.ListN.{length, length-append}
use Rattle.wire.specs.Bytes.{Bytes, bytes_of, u32_at, u64_at}
use Rattle.wire.specs.Lists.{below}
use Rattle.wire.proofs.ByteLaws.{bytes_length, bytes_none, bytes_append, bytes_of_lem}
use Rattle.wire.proofs.PlaceLaws.{Placed, placed_first, placed_next, placed_value}
use Rattle.record.specs.Record.{length_at}
use Rattle.record.specs.Chain.{records_of}
use Rattle.check_lists.specs.Rearranged.{free_record}
use Rattle.correct.specs.Closing.{free_entry_bytes, free_list}
use Rattle.page_laws.proofs.TileMapLaws.{below_map}

-- functions of a list's members, and of the numbers below a bound, the first apart

pub map_members : {A : Type 0} (f g : ℕ → A) (l : List ℕ) → ((x : ℕ) → Memᴰ x l → f x ≡ g x) → map f l ≡ map g l
map_members {A = A} f g [] h = refl
map_members {A = A} f g (x ∷ l) h =
    ap₂ (λ (a : A) (b : List A). a ∷ b) (h x (Memᴰ.head refl)) (map_members f g l (λ y m. h y (Memᴰ.tail m)))

below_first : {A : Type 0} (f : ℕ → A) (n : ℕ) → map f (below (suc n)) ≡ f 0 ∷ map (λ i. f (suc i)) (below n)
unfolding below
below_first {A = A} f zero = refl
below_first {A = A} f (suc n) =
    map-append f (below (suc n)) (suc n ∷ [])
    ∙ ap (λ (l : List A). l ++ (f (suc n) ∷ [])) (below_first f n)
    ∙ ap (λ (l : List A). f 0 ∷ l) (sym (map-append (λ i. f (suc i)) (below n) (n ∷ [])))

-- how long it is, and that it is bytes

entries_length : (s xs : List ℕ) → length (free_entry_bytes s xs) ≡ 12 * length xs
unfolding free_entry_bytes
entries_length s [] = refl
entries_length s (x ∷ xs) =
    let n = length_at s x in
    let a = length-append (bytes_of 8 x ++ bytes_of 4 n) (free_entry_bytes s xs) in
    let b = length-append (bytes_of 8 x) (bytes_of 4 n) in
    omega (arith, a, b, bytes_length 8 x, bytes_length 4 n, entries_length s xs)

pub list_length : (s : List ℕ) → length (free_list s) ≡ 4 + 12 * length (records_of s 0)
unfolding free_list
list_length s =
    let c = length (records_of s 0) in
    let a = length-append (bytes_of 4 c) (free_entry_bytes s (records_of s 0)) in
    omega (arith, a, bytes_length 4 c, entries_length s (records_of s 0))

entries_bytes_lem : (s xs : List ℕ) → Bytes (free_entry_bytes s xs)
unfolding free_entry_bytes
entries_bytes_lem s [] = bytes_none
entries_bytes_lem s (x ∷ xs) = bytes_append (bytes_append (bytes_of_lem 8 x) (bytes_of_lem 4 (length_at s x))) (entries_bytes_lem s xs)

pub list_bytes : (s : List ℕ) → Bytes (free_list s)
unfolding free_list
list_bytes s = bytes_append (bytes_of_lem 4 _) (entries_bytes_lem s (records_of s 0))

-- what reads back

-- a start and a length that their bytes hold
abbrev pub Holds : List ℕ → ℕ → Type 0
Holds s x = (x < 256 ^ 8) × (length_at s x < 256 ^ 4)

-- what entry k of a list of them at p says
abbrev pub entry_from : List ℕ → ℕ → ℕ → ℕ × ℕ
entry_from u p k = (u64_at u (p + 12 * k), u32_at u (p + 12 * k + 8))

pub entries_read_lem :
    (s : List ℕ) (u : List ℕ) (p : ℕ) (xs : List ℕ) → Placed u p (free_entry_bytes s xs) → ((x : ℕ) → Memᴰ x xs → Holds s x) →
    map (entry_from u p) (below (length xs)) ≡ map (free_record s) xs
unfolding free_entry_bytes below free_record
entries_read_lem s u p [] q h = refl
entries_read_lem s u p (x ∷ xs) q h =
    below_first (entry_from u p) (length xs)
    ∙ ap₂ (λ (a : ℕ × ℕ) (b : List (ℕ × ℕ)). a ∷ b) first
    (below_map (length xs) (λ k. entry_from u p (suc k)) (entry_from u (p + 12))
    (λ k l. let e : p + 12 * suc k ≡ p + 12 + 12 * k = omega arith in rw e)
    ∙ entries_read_lem s u (p + 12) xs (placed_next head rest twelve q) (λ y m. h y (Memᴰ.tail m)))
  where
    head : List ℕ
    head = bytes_of 8 x ++ bytes_of 4 (length_at s x)

    rest : List ℕ
    rest = free_entry_bytes s xs

    twelve : length head ≡ 12
    twelve = length-append (bytes_of 8 x) (bytes_of 4 (length_at s x)) ∙ omega (arith, bytes_length 8 x, bytes_length 4 (length_at s x))

    first : entry_from u p 0 ≡ free_record s x
    first =
        let z : p + 12 * 0 ≡ p = omega arith in
        let i = h x (Memᴰ.head refl) in
        let a = placed_first head rest q in
        rw (z, placed_value 8 x (placed_first (bytes_of 8 x) (bytes_of 4 (length_at s x)) a) i.0, placed_value 4 (length_at s x) (placed_next (bytes_of 8 x) (bytes_of 4 (length_at s x)) (bytes_length 8 x) a) i.1)

-- the number of entries, and these, where the list stands
module _ (s u : List ℕ) (p : ℕ) (q : Placed u p (free_list s)) where
  pub count_read : length (records_of s 0) < 256 ^ 4 → u32_at u p ≡ length (records_of s 0)
  unfolding free_list
  count_read h = placed_value 4 _ (placed_first (bytes_of 4 (length (records_of s 0))) (free_entry_bytes s (records_of s 0)) q) h

  pub entries_there : Placed u (p + 4) (free_entry_bytes s (records_of s 0))
  unfolding free_list
  entries_there = placed_next (bytes_of 4 (length (records_of s 0))) (free_entry_bytes s (records_of s 0)) (bytes_length 4 (length (records_of s 0))) q
