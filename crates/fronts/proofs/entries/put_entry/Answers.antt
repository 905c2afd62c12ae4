-- `fronts::entries::put_entry` meets its contract. Assumes nothing.
use native.Mathlib.Omega.{arith}
use Rattle.fronts.proofs.PartLaws.{Parts, parts_size, parts_short, parts_put}
use Rattle.fronts.proofs.entries.put_entry.Goals as goal

pub numbers_at-x-requires : goal.numbers_at-x-requires
numbers_at-x-requires c = c.requires.0.there

pub put_entry_head-middle-requires : goal.put_entry_head-middle-requires
put_entry_head-middle-requires c = let p : Parts _ _ _ _ _ _ _ _ _ = (record { ready = c.requires.0; numbers = c.numbers_at-x.ensures; name_is = c.part_of-name.ensures.holds; label_is = c.part_of-label.ensures.holds; description_is = c.part_of-description.ensures.holds; unit_is = c.part_of-unit.ensures.holds }) in
    let z = parts_size _ _ _ _ _ _ _ _ _ p in
    ((parts_short _ _ _ _ _ _ _ _ _ p).0, (omega (arith, z, c.requires.1), omega (arith, c.requires.0.there)))

pub put_entry_tail-requires : goal.put_entry_tail-requires
put_entry_tail-requires c = let p : Parts _ _ _ _ _ _ _ _ _ = (record { ready = c.requires.0; numbers = c.numbers_at-x.ensures; name_is = c.part_of-name.ensures.holds; label_is = c.part_of-label.ensures.holds; description_is = c.part_of-description.ensures.holds; unit_is = c.part_of-unit.ensures.holds }) in
    let z = parts_size _ _ _ _ _ _ _ _ _ p in
    let h = parts_short _ _ _ _ _ _ _ _ _ p in
    (h.1.0, (h.1.1.0, (h.1.1.1, omega (arith, z, c.requires.1, c.put_entry_head-middle.ensures.end, c.put_entry_head-middle.auto.out))))

pub returns : goal.returns
returns c = let p : Parts _ _ _ _ _ _ _ _ _ = (record { ready = c.requires.0; numbers = c.numbers_at-x.ensures; name_is = c.part_of-name.ensures.holds; label_is = c.part_of-label.ensures.holds; description_is = c.part_of-description.ensures.holds; unit_is = c.part_of-unit.ensures.holds }) in
    let z = parts_size _ _ _ _ _ _ _ _ _ p in
    record { end = omega (arith, z, c.put_entry_head-middle.ensures.end, c.put_entry_tail.ensures.end); holds = parts_put _ _ _ _ _ _ _ _ _ p _ _ _ _ _ c.put_entry_head-middle.ensures.holds c.put_entry_head-middle.ensures.end c.put_entry_tail.ensures.holds c.requires.1 }
