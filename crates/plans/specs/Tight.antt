-- Req 11: what making the tight plan is judged by, and what it answers. b is the buffer, n the page's length, s the page, ps the list that
-- the plan goes into.
use Rattle.std.specs.Prelude.{ℕ, List, [], ◌∷◌, length, Ok, Result, ⊤}
use Rattle.answer.specs.declared.Refusal.{Refusal}
use Rattle.wire.specs.Tests.{◌≤?◌, passes}
use Rattle.wire.specs.Bytes.{put}
use Rattle.answer.specs.declared.Refusal.TheVariants.{Room}
use Rattle.answer.specs.Refusals.{gate, unless_refused}
use Rattle.correct.specs.Front.{page_in}
use Rattle.correct.specs.Plan.{kept_starts, planned_end, tight_plan}
use Rattle.correct.specs.Answers.{on_open_page, answered}

-- 13 where the list has less room than the page has kept records
unfoldable pub starts_then : List ℕ → List ℕ → Result ⊤ Refusal → Result ⊤ Refusal
starts_then s ps behind = gate (passes ((length (kept_starts s) ≤? length ps) ∷ [])) Room behind

-- in the order of Req 11, reading 2: 12 (length past the buffer), 15, then the room
unfoldable pub tight_verdict : List ℕ → ℕ → List ℕ → Result ⊤ Refusal
tight_verdict b n ps = on_open_page b n (starts_then (page_in b n) ps (Ok tt))

-- the length that the squeezed page would have (Req 11, reading 5), or the refusal
unfoldable pub tight_answer : List ℕ → ℕ → List ℕ → Result ℕ Refusal
tight_answer b n ps = answered (tight_verdict b n ps) (planned_end (page_in b n) (tight_plan (page_in b n)))

-- Req 11, reading 9: the plan, and what lies behind it stays; a refused call leaves the list as it was
unfoldable pub tight_out : List ℕ → ℕ → List ℕ → List ℕ
tight_out b n ps = unless_refused (λ r. ps) (tight_verdict b n ps) (put ps 0 (tight_plan (page_in b n)))

-- the starts that there are, also where the list is too short for them; 0 where the page is none
unfoldable pub tight_count : List ℕ → ℕ → ℕ
tight_count b n = unless_refused (λ r. 0) (on_open_page b n (Ok tt)) (length (kept_starts (page_in b n)))
