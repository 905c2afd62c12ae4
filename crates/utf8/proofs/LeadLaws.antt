-- The rows by their first octets, which rise and do not overlap: a byte begins one row at the most. Assumes nothing.
use Prim.Native.Nat.{ℕ, zero, suc, ◌≤◌, ◌<◌}
use mathlib.Core.Path.{◌≡◌, refl, sym}
use mathlib.Core.List.Memᴰ
use mathlib.Core.List.{List, [], ◌∷◌, map, Memᴰ}
use mathlib.Core.Bool.{Bool, true}
use native.Mathlib.Omega.{arith}
use lib.ListN.{length, get_or}
use Rattle.utf8.specs.Utf8.{octet, tail, rows, never, following}
use Rattle.utf8.specs.inner.Wanted.{tails, wanted_of}
use Rattle.utf8.proofs.OctetLaws.{Within, octet_in, octet_out, octet_means}

-- a row: the range of its first octet, and the octets behind it as a state has them
pub record Lead : Type 0 where
  pub first : ℕ
  pub last : ℕ
  pub left : ℕ
  pub low : ℕ
  pub high : ℕ

abbrev pub behind : Lead → List (ℕ → Bool)
behind d = wanted_of d.left (octet d.low d.high)

abbrev row_of : Lead → List (ℕ → Bool)
row_of d = octet d.first d.last ∷ behind d

abbrev lead : ℕ → ℕ → ℕ → ℕ → ℕ → Lead
lead a b n l h = record { first = a; last = b; left = n; low = l; high = h }

unfoldable pub leads : List Lead
leads =
    lead 0x00 0x7F 0 0x80 0xBF
    ∷ lead 0xC2 0xDF 1 0x80 0xBF
    ∷ lead 0xE0 0xE0 2 0xA0 0xBF
    ∷ lead 0xE1 0xEC 2 0x80 0xBF
    ∷ lead 0xED 0xED 2 0x80 0x9F
    ∷ lead 0xEE 0xEF 2 0x80 0xBF
    ∷ lead 0xF0 0xF0 3 0x90 0xBF
    ∷ lead 0xF1 0xF3 3 0x80 0xBF
    ∷ lead 0xF4 0xF4 3 0x80 0x8F
    ∷ []

rows_are : rows ≡ map row_of leads
unfolding rows leads wanted_of tails tail
rows_are = refl

-- a byte that no row begins with

abbrev pub Misses : ℕ → List Lead → Type 0
Misses b [] = Unit {0}
Misses b (d ∷ ds) = (d.first ≤ b → d.last < b) × Misses b ds

misses : (b : ℕ) (ds : List Lead) → Misses b ds → following b (map row_of ds) ≡ never ∷ []
unfolding following
misses b [] m = refl
misses b (d ∷ ds) m = rw (octet_out d.first d.last b m.0, misses b ds m.1)

-- a byte that a row begins with

abbrev Rising : ℕ → List Lead → Type 0
Rising n [] = Unit {0}
Rising n (d ∷ ds) = (n ≤ d.first) × ((d.first ≤ d.last) × Rising (suc d.last) ds)

rising : Rising 0 leads
unfolding leads
rising = omega arith

above : (n : ℕ) (ds : List Lead) (d : Lead) → Rising n ds → Memᴰ d ds → n ≤ d.first
above n (e ∷ es) d r (Memᴰ.head q) = rw q r.0
above n (e ∷ es) d r (Memᴰ.tail m) = let h = above (suc e.last) es d r.1.1 m in omega arith
above n [] d r x'' = elim x'' [ ]

hits : (n b : ℕ) (ds : List Lead) (d : Lead) → Rising n ds → Memᴰ d ds → Within d.first d.last b → following b (map row_of ds) ≡ behind d
unfolding following
hits n b (e ∷ es) d r (Memᴰ.head q) h = rw q (rw (octet_in e.first e.last b (rw q at h)))
hits n b (e ∷ es) d r (Memᴰ.tail m) h =
    let l = above (suc e.last) es d r.1.1 m in
    rw (octet_out e.first e.last b (omega arith)) (hits (suc e.last) b es d r.1.1 m h)
hits n b [] d r x3 h = elim x3 [ ]

-- at each way out of `lead`

listed : (k : ℕ) (z : Lead) (ds : List Lead) → k < length ds → Memᴰ (get_or ds k z) ds
listed zero z [] h = absurd (omega arith)
listed (suc k) z [] h = absurd (omega arith)
listed zero z (d ∷ ds) h = Memᴰ.head refl
listed (suc k) z (d ∷ ds) h = Memᴰ.tail (listed k z ds (omega arith))

abbrev pub at : ℕ → Lead
at k = get_or leads k (lead 0 0 0 0 0)

pub lead_in : (k b : ℕ) → (k < length leads) × Within (at k).first (at k).last b → behind (at k) ≡ following b rows
lead_in k b h = rw rows_are (sym (hits 0 b leads (at k) rising (listed k _ leads h.0) h.1))

pub lead_out : (b : ℕ) → Misses b leads → wanted_of 1 (octet 1 0) ≡ following b rows
unfolding wanted_of tails never
lead_out b m = rw rows_are (sym (misses b leads m))

-- a row of the table begins with an octet that decides what follows

pub record Begun (row : List (ℕ → Bool)) : Type 0 where
  pub p : ℕ → Bool
  pub ps : List (ℕ → Bool)
  pub is : p ∷ ps ≡ row
  pub follows : (b : ℕ) → p b ≡ true → following b rows ≡ ps

pub begun : (row : List (ℕ → Bool)) → Memᴰ row rows → Begun row
begun row m =
    let f = Memᴰ.of_map row_of leads (rw rows_are at m) in
    let d = f.0 in
    record {
      p = octet d.first d.last;
      ps = behind d;
      is = f.2;
      follows = λ b e. rw rows_are (hits 0 b leads d rising f.1 (octet_means _ _ _ e));
    }
