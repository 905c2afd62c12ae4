-- Req 14: what a replay is refused by before its first entry. Assumes nothing.
use mathlib.Core.Path.{refl}
use mathlib.Core.List.{[], ◌∷◌}
use native.Mathlib.Omega.{arith}
use lib.ListN.{length}
use Rattle.wire.specs.Tests.{◌≤?◌}
use Rattle.wire.proofs.TestLaws.{yes, no}
use Rattle.answer.specs.Refusals.{gate, unless_refused}
use Rattle.correct.specs.Answers.{on_page, on_open_page}
use Rattle.replay.specs.Replay.{replay_verdict, replay_answer, replay_out}
use Rattle.exact_products.specs.Replays.{ReplaysExactly}

pub replays_exactly : ReplaysExactly
unfolding replay_answer replay_out replay_verdict on_open_page on_page gate unless_refused
replays_exactly b n log =
    record {
      past = λ h. rw (← no ((n ≤? length b) ∷ []) (λ p. omega (arith, p.0)));
      closed = λ h o. rw (← yes ((n ≤? length b) ∷ []) (h, tt), o);
      wrong = λ h o r. rw (← yes ((n ≤? length b) ∷ []) (h, tt), o, r);
      goes = λ h o r. rw (← yes ((n ≤? length b) ∷ []) (h, tt), o, r) (refl, refl);
    }
