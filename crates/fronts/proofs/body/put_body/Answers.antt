-- `fronts::body::put_body` meets its contract. Assumes nothing.
use native.Mathlib.Omega.{arith}
use Rattle.fronts.proofs.CountLaws.{right_of_lem}
use Rattle.fronts.proofs.BodyLaws.{all_ready, body_parts, end_requires, body_put}
use Rattle.fronts.proofs.body.put_body.Goals as goal

pub texts_before-from-requires : goal.texts_before-from-requires
texts_before-from-requires c = (right_of_lem _ _ _ _ c.requires.0).counted.elements

pub put_numbers-requires : goal.put_numbers-requires
put_numbers-requires c = let r = right_of_lem _ _ _ _ c.requires.0 in (r.uuid, (r.counted.elements.few, omega (arith, body_parts _ _ _ _ c.requires.0, c.requires.1)))

pub put_entries-p-requires : goal.put_entries-p-requires
put_entries-p-requires c = (all_ready _ _ _ _ c.requires.0, omega (arith, body_parts _ _ _ _ c.requires.0, c.requires.1, c.put_numbers.auto.out))

pub put_end-requires : goal.put_end-requires
put_end-requires c = end_requires _ _ _ _ c.requires.0 _ _ _ c.texts_before-from.ensures c.put_entries-p.ensures.end (omega (arith, c.requires.1, c.put_numbers.auto.out, c.put_entries-p.auto.out))

pub returns : goal.returns
returns c = let all_of = body_put _ _ _ _ c.requires.0 _ _ _ _ _ _ _ c.put_numbers.ensures c.put_entries-p.ensures.holds c.put_entries-p.ensures.end c.texts_before-from.ensures c.put_end.ensures.holds c.put_end.ensures.end c.requires.1 in record { end = all_of.0; holds = all_of.1 }
