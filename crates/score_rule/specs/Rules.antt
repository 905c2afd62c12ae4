-- Req 08: "New models count in ten-thousandths, certain from 9,500 to 10,000. A page says so by a metadata record named `score_rule` with
-- record ID 2; ID 1 or no such record means the first rule; any other ID under that name, or both, is 12". Which scores each rule takes for
-- certain is `deeds`' own.
use Rattle.std.specs.Prelude.{ℕ, ◌≡◌, List, [], ◌∷◌, Bool, not, ◌||◌, ◌&&◌, eqb, Ok}
use Rattle.wire.specs.Pick.{pick}
use Rattle.wire.specs.Lists.{some}
use Rattle.store.specs.Face.{check, ids_named, name_said}
use Rattle.store.specs.declared.named.NamedIds.{NamedIds}
use Rattle.store.specs.declared.named.NamedIds.TheVariants.{Absent, One, Several}
use Rattle.score_rule.specs.declared.Said.{Said}
use Rattle.score_rule.specs.declared.Said.TheVariants.{First, Second, Wrong}

-- "any other ID"
unfoldable pub other_id : ℕ → Bool
other_id i = not (eqb i 1 || eqb i 2)

-- the rule of the record IDs under the name: wrong where one is any other, or where both are there; else the second where 2 is there, else
-- the first
unfoldable pub rule_said : List ℕ → Said
rule_said ids =
    pick (some other_id ids || (some (λ i. eqb i 1) ids && some (λ i. eqb i 2) ids)) Wrong
    (pick (some (λ i. eqb i 2) ids) Second First)

-- `score_rule`
unfoldable pub score_rule : List ℕ
score_rule = 115 ∷ 99 ∷ 111 ∷ 114 ∷ 101 ∷ 95 ∷ 114 ∷ 117 ∷ 108 ∷ 101 ∷ []

-- the rule that a page says
unfoldable pub page_says : List ℕ → Said
page_says s = rule_said (ids_named s score_rule)

-- what the function answers: where there is more than one record it looks at no ID
unfoldable pub said_by : NamedIds → Said
said_by Absent = First
said_by (One i) = pick (eqb i 1) First (pick (eqb i 2) Second Wrong)
said_by Several = Wrong

-- in an accepted file that is what the words say: two records under one name have different IDs, so they are both, or one is any other
abbrev pub RuleSaid : Type 0
RuleSaid = (s name : List ℕ) → check s ≡ Ok tt → said_by (name_said s name) ≡ rule_said (ids_named s name)
