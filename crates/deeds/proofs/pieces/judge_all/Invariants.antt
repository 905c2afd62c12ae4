-- `deeds::pieces::judge_all` meets its contract. Assumes nothing.
use Rattle.std.specs.Prelude.{Ok}
use mathlib.Core.Path.{◌≡◌}
use lib.ListN.{length}
use Rattle.answer.specs.Answers.{cell_verdict}
use Rattle.blocks.specs.Walks.{Clear, walk_left}
use Rattle.store.specs.Face.{Walks}
use Rattle.deeds.specs.Deeds.{cells_of}
use Rattle.deeds.specs.Tallies.{tally_passed}
use Rattle.deeds.proofs.pieces.judge_all.Given as goal

abbrev pub invariant-loop-p : goal.invariant-loop-p
invariant-loop-p l = (length l.memory ≡ length l.initial.memory) × (Walks l.file l.a 0 l.p × (Clear (Ok tt) 0 l.a.columns l.p.top l.p.bottom l.p.left (λ r c. cell_verdict (cells_of l.file l.compressor l.a.e l.a.row l.a.column r c)) × (l.t ≡ tally_passed l.rule l.a.columns l.p.top l.p.bottom l.p.left (cells_of l.file l.compressor l.a.e l.a.row l.a.column))))

abbrev pub decreases-loop-p : goal.decreases-loop-p
decreases-loop-p l = walk_left l.a.rows l.a.columns l.p.top l.p.left
