-- Two lists that are the same from a position on: what a cursor there finds. Assumes nothing.
use Prim.Native.Nat.{ℕ, suc, ◌+◌, ◌≤◌, ◌<◌}
use mathlib.Core.Path.{◌≡◌, refl, sym, ap, ◌∙◌}
use mathlib.Core.List.{List, ◌∷◌}
use mathlib.Core.Logic.{by_cases}
use native.Mathlib.Decide.{dec_le}
use native.Mathlib.Omega.{arith}
use lib.ListN.{length}
use Rattle.wire.specs.Bytes.{byte_at, number_at, number, part, Same}
use Rattle.wire.proofs.ByteLaws.{number_same, part_length, part_out, byte_out}
use Rattle.wire.proofs.PlaceLaws.{part_placed, placed_byte}
use Rattle.record.specs.Record.{length_at, type_at, record_ok, step_at}
use Rattle.record.specs.Chain.{starts}
use Rattle.record.proofs.ChainLaws.{by_chain, starts_none, starts_record}
use Rattle.bodies.specs.TileRecord.{tile_index}
use Rattle.tile_routes.specs.Ways.{carries}
use Rattle.stores.specs.Stores.{Write, Apart, stopped}
use Rattle.stores.proofs.StoreLaws.{apart_stays, length_stopped}
use Rattle.correct.specs.Front.{page_in}
use Rattle.edit_walks.specs.declared.Wanted.{Wanted}
use Rattle.edit_walks.specs.declared.Wanted.TheVariants.{Tile, Unwanted}
use Rattle.edit_walks.specs.Walks.{wanted_by}

pub record After (s t : List ℕ) (x : ℕ) : Type 0 where
  pub long : length s ≡ length t
  pub each : (i : ℕ) → x ≤ i → byte_at s i ≡ byte_at t i

pub after_same : (s : List ℕ) (x : ℕ) → After s s x
after_same s x = record { long = refl; each = λ i h. refl }

pub after_more : {s t : List ℕ} {x : ℕ} → After s t x → (y : ℕ) → x ≤ y → After s t y
after_more a y h = record { long = a.long; each = λ i g. a.each i (omega arith) }

pub after_trans : {s t u : List ℕ} {x : ℕ} → After s t x → After t u x → After s u x
after_trans a b = record { long = a.long ∙ b.long; each = λ i h. a.each i h ∙ b.each i h }

module _ {s t : List ℕ} {x : ℕ} (a : After s t x) where
  pub after_number : (w y : ℕ) → x ≤ y → number_at w s y ≡ number_at w t y
  unfolding number_at
  after_number w y h =
      by_cases (dec_le (y + w) (length s))
      (λ g.
      let b : Same s t x (length s) = record { in_first = omega arith; in_second = omega (arith, a.long); each = λ i j k. a.each i j } in
      number_same b w y h g)
      (λ g. ap number (part_out s y w (omega arith) ∙ sym (part_out t y w (omega (arith, a.long)))))

  pub after_length : (y : ℕ) → x ≤ y → length_at s y ≡ length_at t y
  after_length y h = after_number 4 y h

  pub after_type : (y : ℕ) → x ≤ y → type_at s y ≡ type_at t y
  after_type y h = a.each (y + 4) (omega arith)

  pub after_ok : (y : ℕ) → x ≤ y → record_ok s y ≡ record_ok t y
  unfolding record_ok
  after_ok y h = rw (after_length y h, after_type y h, a.long)

  pub after_step : (y : ℕ) → x ≤ y → step_at s y ≡ step_at t y
  unfolding step_at
  after_step y h = rw (after_ok y h, after_length y h, after_type y h, a.long)

  pub after_wanted : (want : Wanted) (y : ℕ) → x ≤ y → wanted_by s want y ≡ wanted_by t want y
  unfolding wanted_by carries tile_index
  after_wanted (Tile i) y h = rw (after_type y h, after_number 4 (y + 8) (omega arith))
  after_wanted (Unwanted full) y h = rw (after_type y h)

  pub after_starts : (y : ℕ) → x ≤ y → starts s y ≡ starts t y
  after_starts =
      by_chain s (λ y. x ≤ y → starts s y ≡ starts t y) (λ y e h. starts_none s y e ∙ sym (starts_none t y (sym (after_ok y h) ∙ e)))
      (λ y e r h.
      starts_record s y e ∙ ap (λ (l : List ℕ). y ∷ l) (r (omega arith) ∙ ap (λ (n : ℕ). starts t (y + n)) (after_length y h))
      ∙ sym (starts_record t y (sym (after_ok y h) ∙ e)))

-- of a page in a buffer

first_byte : (s : List ℕ) (n i : ℕ) → n ≤ length s → i < n → byte_at s i ≡ byte_at (part s 0 n) i
first_byte s n i h g =
    let p = part_length s 0 n (omega arith) in
    let z : 0 + i ≡ i = omega arith in
    ap (byte_at s) (sym z) ∙ placed_byte (part_placed s 0 n (omega arith)) i (omega arith)

module _ {l d : List ℕ} {x : ℕ} (a : After l d x) (n : ℕ) where
  page_bytes : n ≤ length d → (i : ℕ) → x ≤ i → byte_at (part l 0 n) i ≡ byte_at (part d 0 n) i
  page_bytes g i h =
      let p = part_length l 0 n (omega (arith, a.long)) in
      let q = part_length d 0 n (omega arith) in
      by_cases (dec_le (suc i) n)
      (λ k.
      sym (first_byte l n i (omega (arith, a.long)) (omega arith)) ∙ a.each i h ∙ first_byte d n i g (omega arith))
      (λ k. sym (byte_out (part l 0 n) i (omega arith)) ∙ byte_out (part d 0 n) i (omega arith))

  pub after_page : After (page_in l n) (page_in d n) x
  unfolding page_in
  after_page =
      by_cases (dec_le n (length d))
      (λ g.
      record { long = part_length l 0 n (omega (arith, a.long)) ∙ sym (part_length d 0 n (omega arith)); each = page_bytes g })
      (λ g.
      let e : part l 0 n ≡ part d 0 n = part_out l 0 n (omega (arith, a.long)) ∙ sym (part_out d 0 n (omega arith)) in
      rw e (after_same (part d 0 n) x))

-- writes that end before it

pub after_run : (k : ℕ) (ws : List Write) (d : List ℕ) (x : ℕ) → ((b : ℕ) → Apart x b ws) → After (stopped k ws d) d x
after_run k ws d x p =
    record { long = length_stopped k ws d; each = λ i h. apart_stays k x (suc i) ws d (p (suc i)) i h (omega arith) }
