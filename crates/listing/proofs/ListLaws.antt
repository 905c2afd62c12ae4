-- The whole listing, as it is put. Assumes nothing.
use Rattle.std.specs.Prelude.{Err, Ok, Result, ⊤}
use Prim.Native.Nat.{ℕ, ◌≤◌, ◌<◌}
use mathlib.Core.Path.{◌≡◌, sym, ap, ◌∙◌}
use mathlib.Core.List.{List}
use native.Mathlib.Omega.{arith}
use lib.ListN.{length}
use borrow.Author.Tests.{le-leb, lt-leb}
use Rattle.wire.specs.Bytes.{put}
use Rattle.wire.proofs.PutLaws.{put_not}
use Rattle.answer.specs.declared.Refusal.{Refusal}
use Rattle.answer.specs.Refusals.{refusal_number, refusal_place}
use Rattle.page_check.specs.Stages.{check}
use Rattle.listing.specs.Text.{refused_word, at_word, too_long, line}
use Rattle.listing.specs.Listing.{listed, listed_by, listing}
use Rattle.listing.specs.Puts.{Puts}
use Rattle.listing.proofs.LineLaws.{line_of}

-- by the check's answer

module _ (s : List ℕ) (v : Result ⊤ Refusal) (e : v ≡ check s) {d l : List ℕ} {n : ℕ} where
  pub refused_put :
      (r : Refusal) → v ≡ Err r → {x y : ℕ} → Puts d 0 (line refused_word x at_word y) n l → x ≡ refusal_number r → y ≡ refusal_place r →
      Puts d 0 (listed_by (check s) s) n l
  unfolding listed_by
  refused_put r f p g h = rw (← e, f) (line_of refused_word at_word p g h)

  pub accepted_put : v ≡ Ok tt → Puts d 0 (listed s) n l → Puts d 0 (listed_by (check s) s) n l
  unfolding listed_by
  accepted_put f p = rw (← e, f) p

-- a file that is too long, and any other

too_long_lem : (s : List ℕ) → 65536 < length s → listing s ≡ too_long
unfolding listing
too_long_lem s h = rw (lt-leb (length s) 65536 h)

checked : (s : List ℕ) → length s ≤ 65536 → listing s ≡ listed_by (check s) s
unfolding listing
checked s h = rw (le-leb (length s) 65536 h)

pub too_long_put :
    (s d l : List ℕ) → 65536 < length s → l ≡ put d 0 too_long → (9 ≡ length (listing s)) × (l ≡ put d 0 (listing s))
unfolding too_long
too_long_put s d l h e = let f = too_long_lem s h in (ap length (sym f), e ∙ ap (put d 0) (sym f))

module _ (s : List ℕ) (h : length s ≤ 65536) {a b : List ℕ} {n : ℕ} (p : Puts a 0 (listed_by (check s) s) n b) where
  long_is : n ≡ length (listing s)
  long_is = rw (checked s h) (omega (arith, p.end))

  pub listing_put :
      {d l : List ℕ} {m : ℕ} → Puts d 0 (listed_by (check s) s) m l → n ≤ length d → (n ≡ length (listing s)) × (l ≡ put d 0 (listing s))
  listing_put {d} q k = (long_is, q.holds (omega (arith, p.end)) ∙ ap (put d 0) (sym (checked s h)))

  pub listing_not : (d : List ℕ) → length d < n → (n ≡ length (listing s)) × (d ≡ put d 0 (listing s))
  listing_not d k = (long_is, sym (put_not d 0 (listing s) (omega (arith, long_is))))
