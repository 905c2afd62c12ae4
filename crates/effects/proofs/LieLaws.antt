-- Where writes go and how many they are; bytes over others of that length between two lists. Assumes nothing.
use Prim.Native.Nat.{ℕ, ◌+◌, ◌≤◌}
use mathlib.Core.Path.{◌≡◌, refl, ap, ◌∙◌}
use mathlib.Core.List.{List, [], ◌∷◌, ◌++◌}
use mathlib.Core.Logic.{inl, inr, ⊎_elim}
use mathlib.Core.Bool.{Bool, true, false}
use native.Mathlib.Omega.{arith}
use lib.ListN.{length, length-append}
use lib.Dec.{leb}
use Rattle.wire.specs.Pick.{pick}
use Rattle.wire.specs.Bytes.{put}
use Rattle.wire.proofs.PlaceLaws.{put_there}
use Rattle.stores.specs.Stores.{Write, run, Apart, Fits}
use Rattle.stores.specs.Writes.{one_write, whole_write}
use Rattle.effects.proofs.MadeLaws.{fits_append, fits_more, apart_append}
use Rattle.effects.proofs.InsideEffects.{whole_one, one_run}

-- v over m, which is as long, in the middle
pub put_middle : (f m v z : List ℕ) {at : ℕ} → length f ≡ at → length m ≡ length v → put (f ++ (m ++ z)) at v ≡ f ++ (v ++ z)
put_middle f m v z e l = put_there {m = m} (record { before = f; behind = z; whole = refl; start = e }) v l

pub whole_middle :
    (room : ℕ) (f m v z : List ℕ) {at : ℕ} → length f ≡ at → length m ≡ length v → at + length v ≤ room →
    run (whole_write room at v) (f ++ (m ++ z)) ≡ f ++ (v ++ z)
whole_middle room f m v z {at} e l h =
    ap (λ (ws : List Write). run ws (f ++ (m ++ z))) (whole_one room at v h) ∙ one_run at v (f ++ (m ++ z)) ∙ put_middle f m v z e l

-- each write starts at or behind a and ends at or before n, and they are k at most
pub record Lie (a n k : ℕ) (ws : List Write) : Type 0 where
  pub fits : Fits n ws
  pub apart : Apart 0 a ws
  pub few : length ws ≤ k

pub lie_none : (a n k : ℕ) → Lie a n k []
lie_none a n k = record { fits = _; apart = _; few = omega arith }

pub lie_one : (a n k at : ℕ) (v : List ℕ) → a ≤ at → at + length v ≤ n → 1 ≤ k → Lie a n k (one_write at v)
unfolding one_write
lie_one a n k at v g h j = record { fits = (h, _); apart = (inr g, _); few = j }

pub lie_whole : (room a n k at : ℕ) (v : List ℕ) → a ≤ at → at + length v ≤ n → 1 ≤ k → Lie a n k (whole_write room at v)
unfolding whole_write
lie_whole room a n k at v g h j = go (leb (at + length v) room)
  where
    go : (b : Bool) → Lie a n k (pick b (one_write at v) [])
    go true = lie_one a n k at v g h j
    go false = lie_none a n k

module _ {a n j : ℕ} {xs : List Write} (p : Lie a n j xs) where
  pub lie_append : {k : ℕ} {ys : List Write} → Lie a n k ys → Lie a n (j + k) (xs ++ ys)
  lie_append {k} {ys} q =
      record {
        fits = fits_append n xs ys p.fits q.fits;
        apart = apart_append 0 a xs ys p.apart q.apart;
        few = omega (arith, length-append xs ys, p.few, q.few);
      }

  pub lie_more : (m k : ℕ) → n ≤ m → j ≤ k → Lie a m k xs
  lie_more m k h i = record { fits = fits_more n m xs h p.fits; apart = p.apart; few = omega (arith, p.few) }

-- they start behind what is before a, too
pub lie_low : {a n k : ℕ} {ws : List Write} (c : ℕ) → c ≤ a → Lie a n k ws → Lie c n k ws
lie_low {a} {ws} c h p = record { fits = p.fits; apart = go ws p.apart; few = p.few }
  where
    go : (ws : List Write) → Apart 0 a ws → Apart 0 c ws
    go [] q = _
    go (w ∷ ws) q = (⊎_elim (λ i. inl i) (λ i. inr (omega arith)) q.0, go ws q.1)
