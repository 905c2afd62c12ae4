-- `crc32c::crc_of` meets its contract: the state, and the bytes that are still to come, give the whole. Assumes nothing.
use Prim.Native.Nat.{◌*◌, ◌/◌}
use lib.ListN.{length}
use native.Mathlib.Omega.{arith}
use mathlib.Core.Path.{◌∙◌}
use Rattle.wire.specs.Bytes.{byte_at}
use Rattle.crc32c.proofs.Loop.{from_start, from_chunk, from_rest, from_byte, from_done}
use Rattle.crc32c.proofs.crc_of.Goals as goal

pub loop-bytes-init : goal.loop-bytes-init
loop-bytes-init c = from_start _ _

pub loop-bytes-preserved : goal.loop-bytes-preserved
loop-bytes-preserved c = let w = c.type_inv.s in
    let a = c.as_chunks.ensures in
    from_chunk _ _ _ _ _ _ _ _ _ (record { small = λ i. omega (arith, w i) }) a.front (omega (arith, a.front_len)) (omega arith) c.from.ensures c.from_le_bytes.ensures c.eight-c.ensures
    ∙ c.loop-bytes.invariant

pub loop-b-init : goal.loop-b-init
loop-b-init c = let a = c.as_chunks.ensures in
    from_rest _ _ _ c.loop-bytes.bytes-index (length c.args.s.now / 8) _ a.back (omega (arith, a.front_len)) c.loop-bytes.invariant

pub loop-b-preserved : goal.loop-b-preserved
unfolding byte_at
loop-b-preserved c = let w = c.type_inv.s in
    from_byte _ _ _ (length c.args.s.now / 8 * 8) c.loop-b.b-index _ _ (record { small = λ i. omega (arith, w i) }) c.as_chunks.ensures.back (omega arith) c.from-in-loop-b.ensures c.one-c.ensures
    ∙ c.loop-b.invariant

pub returns : goal.returns
returns c = from_done _ _ _ _ c.loop-b.invariant (omega arith)
