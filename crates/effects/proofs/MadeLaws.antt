-- Writes that make a page in a buffer, one list behind another. Assumes nothing.
use Prim.Native.Nat.{ℕ, ◌+◌, ◌*◌, ◌-◌, ◌≤◌}
use mathlib.Core.Path.{◌≡◌, refl, sym, ap, ap₂, ◌∙◌}
use mathlib.Core.List.{List, [], ◌∷◌, ◌++◌}
use native.Mathlib.Omega.{arith}
use native.Mathlib.Nat.{mul-le-mul}
use lib.ListN.{length, drop, length-append, length-drop}
use lib.Seq.{drop-append-add, drop-drop}
use Rattle.wire.specs.Bytes.{put}
use Rattle.stores.specs.Stores.{Write, run, Apart, Fits}
use Rattle.stores.proofs.StoreLaws.{count_most, length_run}
use Rattle.effects.specs.Effects.{Makes}

pub run_append : (xs ys : List Write) (d : List ℕ) → run (xs ++ ys) d ≡ run ys (run xs d)
unfolding run
run_append [] ys d = refl
run_append (w ∷ xs) ys d = run_append xs ys (put d w.at w.bytes)

pub fits_append : (n : ℕ) (xs ys : List Write) → Fits n xs → Fits n ys → Fits n (xs ++ ys)
fits_append n [] ys f g = g
fits_append n (w ∷ xs) ys f g = (f.0, fits_append n xs ys f.1 g)

pub fits_more : (m n : ℕ) (ws : List Write) → m ≤ n → Fits m ws → Fits n ws
fits_more m n [] h f = _
fits_more m n (w ∷ ws) h f = (omega (arith, f.0), fits_more m n ws h f.1)

pub apart_append : (a b : ℕ) (xs ys : List Write) → Apart a b xs → Apart a b ys → Apart a b (xs ++ ys)
apart_append a b [] ys f g = g
apart_append a b (w ∷ xs) ys f g = (f.0, apart_append a b xs ys f.1 g)

-- the writes ws, k at most, make the page, m bytes long, in buffer d: what stands behind it stays, and each ends in it
pub record Made (d : List ℕ) (ws : List Write) (page : List ℕ) (m k : ℕ) : Type 0 where
  pub holds : run ws d ≡ page ++ drop m d
  pub inside : m ≤ length d
  pub fits : Fits m ws
  pub few : length ws ≤ k

module _ {d : List ℕ} {ws : List Write} {page : List ℕ} {m k : ℕ} (a : Made d ws page m k) where
  -- the buffer keeps its length, so the page is as long
  pub made_long : length page ≡ m
  made_long =
      let e : length d ≡ length page + length (drop m d) = sym (length_run ws d) ∙ ap length a.holds ∙ length-append page (drop m d) in
      omega (arith, length-drop m d, a.inside)

  -- other writes behind them, in what they leave; the page may grow
  pub made_then : {ys : List Write} {page' : List ℕ} {n j : ℕ} → Made (run ws d) ys page' n j → m ≤ n → Made d (ws ++ ys) page' n (k + j)
  made_then {ys} {page'} {n} {j} b h =
      let l = made_long in
      let e : n ≡ length page + (n - m) = omega arith in
      let f : m + (n - m) ≡ n = omega arith in
      let rest : drop n (run ws d) ≡ drop n d =
      ap₂ (λ (i : ℕ) (x : List ℕ). drop i x) e a.holds ∙ drop-append-add page (drop m d) (n - m) ∙ drop-drop (n - m) m d ∙ ap (λ (i : ℕ). drop i d) f in
      record {
        holds = run_append ws ys d ∙ b.holds ∙ ap (λ (x : List ℕ). page' ++ x) rest;
        inside = omega (arith, b.inside, length_run ws d);
        fits = fits_append n ws ys (fits_more m n ws h a.fits) b.fits;
        few = omega (arith, length-append ws ys, a.few, b.few);
      }

  pub made_more : (j : ℕ) → k ≤ j → Made d ws page m j
  made_more j h = record { holds = a.holds; inside = a.inside; fits = a.fits; few = omega (arith, a.few) }

  -- within the ceiling of a page, and with no more writes than that, a number of 64 bits counts their stores
  pub made_makes : m ≤ 16777216 → k ≤ 16777216 → Makes d ws page m
  made_makes h g =
      let c = count_most m ws a.fits in
      let f : length ws ≤ 16777216 = omega (arith, a.few) in
      let p : length ws * m ≤ 16777216 * 16777216 = mul-le-mul f h in
      record { long = made_long; holds = a.holds; fits = a.fits; few = omega arith }

-- and each starts at or behind a
pub record MadeBehind (a : ℕ) (d : List ℕ) (ws : List Write) (page : List ℕ) (m k : ℕ) : Type 0 where
  pub made : Made d ws page m k
  pub apart : Apart 0 a ws

pub behind_then :
    {a : ℕ} {d : List ℕ} {ws : List Write} {page : List ℕ} {m k : ℕ} → MadeBehind a d ws page m k → {ys : List Write} {page' : List ℕ} {n j : ℕ} →
    MadeBehind a (run ws d) ys page' n j → m ≤ n → MadeBehind a d (ws ++ ys) page' n (k + j)
behind_then {a} {ws = ws} p {ys} q h = record { made = made_then p.made q.made h; apart = apart_append 0 a ws ys p.apart q.apart }
