-- `metadata_keys::rounds::name_before` meets its contract. Assumes nothing.
use native.Mathlib.Omega.{arith}
use mathlib.Core.Path.{◌≡◌, ◌∙◌, ap}
use Prim.Native.Nat.{ℕ, ◌-◌, ◌≤◌}
use Rattle.wire.specs.Bytes.{byte_at}
use Rattle.metadata_keys.proofs.OrderLaws.{lengths_tell, bytes_tell}
use Rattle.metadata_keys.proofs.rounds.name_before.Goals as goal

pub returns-in-None : goal.returns-in-None
returns-in-None c = let h : 1 ≤ c.args.pairs → ⊥ = c.in-None.ensures in lengths_tell _ _ _ c.requires.apart c.requires.told (omega (arith, h))

pub returns-in-Some : goal.returns-in-Some
returns-in-Some c =
    let h : (1 ≤ c.args.pairs) × (c.in-Some.last ≡ c.args.pairs - 1) = c.in-Some.ensures in
    let f : c.byte_at.result ≡ byte_at c.args.a.now (c.args.pairs - 1) = c.byte_at.ensures.is ∙ ap (λ (i : ℕ). byte_at c.args.a.now i) h.1 in
    let g : c.byte_at-in-Some.result ≡ byte_at c.args.b.now (c.args.pairs - 1) = c.byte_at-in-Some.ensures.is ∙ ap (λ (i : ℕ). byte_at c.args.b.now i) h.1 in
    bytes_tell _ _ _ c.requires.apart c.requires.told (λ z. omega (arith, z, h.0)) _ _ f g
