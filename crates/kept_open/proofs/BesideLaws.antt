-- The bytes of a page whose pieces of one type are changed where they stand. Assumes nothing.
use Prim.Native.Nat.{ℕ, ◌+◌, ◌-◌, ◌≤◌, ◌<◌}
use mathlib.Core.Path.{◌≡◌, refl, sym, ap, ◌∙◌}
use mathlib.Core.List.{List, [], ◌∷◌, ◌++◌, map, Memᴰ}
use mathlib.Core.Logic.{by_cases}
use mathlib.Core.Bool.{Bool, true, false}
use native.Mathlib.Omega.{arith}
use native.Mathlib.Decide.{dec_le}
use lib.ListN.{length}
use lib.Dec.{eqb}
use borrow.Author.Tests.{eqb-false}
use Rattle.wire.specs.Pick.{pick}
use Rattle.wire.specs.Bytes.{byte_at}
use Rattle.wire.proofs.ByteLaws.{byte_before}
use Rattle.record.specs.Record.{type_at}
use Rattle.record.specs.Chain.{joined}
use Rattle.pieces.specs.Standing.{AllOf, standing}
use Rattle.alone.specs.Edited.{Touches}
use Rattle.page_laws.proofs.MoreLaws.{byte_past}

module _ {f : List ℕ} {P : List ℕ → Type 0} {kind : ℕ} {g : List ℕ → List ℕ} (h : Touches f P kind g) (k : ℕ) where
  -- a piece of that type keeps the byte at place k, if it is one of its own
  abbrev pub Stays : ℕ × List ℕ → Type 0
  Stays q = q.0 ≤ k → k < q.0 + length q.1 → byte_at (g q.1) (k - q.0) ≡ byte_at q.1 (k - q.0)

  mapped_byte :
      (at : ℕ) (rs : List (List ℕ)) → AllOf P rs → at ≤ k → ((q : ℕ × List ℕ) → Memᴰ q (standing kind at rs) → Stays q) →
      byte_at (joined (map g rs)) (k - at) ≡ byte_at (joined rs) (k - at)
  unfolding standing
  mapped_byte at [] w l m = refl
  mapped_byte at (r ∷ rs) w l m =
      by_cases (dec_le (k + 1) (at + length r))
      (λ n.
      byte_before (g r) (joined (map g rs)) (k - at) (omega (arith, h.long r w.0))
      ∙ one (eqb (type_at r 0) kind) refl m (omega arith)
      ∙ sym (byte_before r (joined rs) (k - at) (omega arith)))
      (λ n.
      let e = h.long r w.0 in
      let x : k - (at + length r) ≡ k - at - length (g r) = omega arith in
      byte_past (g r) r (joined (map g rs)) (joined rs) e (k - at) (omega arith)
      (rw x at (mapped_byte (at + length r) rs w.1 (omega arith) (further (eqb (type_at r 0) kind) m))))
    where
      one :
          (b : Bool) → eqb (type_at r 0) kind ≡ b →
          ((q : ℕ × List ℕ) → Memᴰ q (pick b ((at, r) ∷ standing kind (at + length r) rs) (standing kind (at + length r) rs)) → Stays q) →
          k < at + length r → byte_at (g r) (k - at) ≡ byte_at r (k - at)
      one true e i n = i (at, r) (Memᴰ.head refl) l n
      one false e i n = ap (λ (x : List ℕ). byte_at x (k - at)) (h.others r (eqb-false _ _ e))

      further :
          (b : Bool) → ((q : ℕ × List ℕ) → Memᴰ q (pick b ((at, r) ∷ standing kind (at + length r) rs) (standing kind (at + length r) rs)) → Stays q) →
          (q : ℕ × List ℕ) → Memᴰ q (standing kind (at + length r) rs) → Stays q
      further true i q j = i q (Memᴰ.tail j)
      further false i q j = i q j

  pub page_byte :
      (rs : List (List ℕ)) → AllOf P rs → ((q : ℕ × List ℕ) → Memᴰ q (standing kind (length f) rs) → Stays q) →
      byte_at (f ++ joined (map g rs)) k ≡ byte_at (f ++ joined rs) k
  page_byte rs w m =
      by_cases (dec_le (length f) k) (λ n. byte_past f f (joined (map g rs)) (joined rs) refl k n (mapped_byte (length f) rs w n m))
      (λ n. byte_before f (joined (map g rs)) k (omega arith) ∙ sym (byte_before f (joined rs) k (omega arith)))
