-- Req 04: the look-up of an element by its name. The name asked for is any bytes.
use Rattle.std.specs.Prelude.{ℕ, ◌<◌, ◌≡◌, List, Bool, false, Err, None, Ok, Option, Result, Some}
use Rattle.answer.specs.declared.Refusal.{Refusal}
use Rattle.wire.specs.Bytes.{same_bytes}
use Rattle.wire.specs.Lists.{below}
use Rattle.answer.specs.Refusals.{unless_refused}
use Rattle.record.specs.Chain.{find}
use Rattle.header.specs.Names.{identifier}
use Rattle.header.specs.Fields.{element_count}
use Rattle.header.specs.Element.{element_name}
use Rattle.page_check.specs.Stages.{check}

-- element e has the name, byte for byte (G 3.6.1, rule 5: with case)
unfoldable pub has_name : List ℕ → List ℕ → ℕ → Bool
has_name s name e = same_bytes (element_name s e) name

-- the number of the first element that has it; an accepted file has no second
unfoldable pub element_named : List ℕ → List ℕ → Option ℕ
element_named s name = find (has_name s name) (below (element_count s))

-- as an answer
abbrev pub lookup_of : Option ℕ → Result (Option ℕ) Refusal
lookup_of (Some e) = Ok (Some e)
lookup_of None = Ok None

-- the check's refusal where there is one; then the number, or that no element has the name, which is no refusal
unfoldable pub read_element_named : List ℕ → List ℕ → Result (Option ℕ) Refusal
read_element_named s name = unless_refused Err (check s) (lookup_of (element_named s name))

-- what it says of an accepted file
pub record ByName (s name : List ℕ) : Type 0 where
  -- a number is that of an element with the name
  pub number : (e : ℕ) → read_element_named s name ≡ Ok (Some e) → (e < element_count s) × (element_name s e ≡ name)
  -- and every element is found by its name
  pub found : (e : ℕ) → e < element_count s → element_name s e ≡ name → read_element_named s name ≡ Ok (Some e)
  -- a name that no element has is not there
  pub absent : ((e : ℕ) → e < element_count s → element_name s e ≡ name → ⊥) → read_element_named s name ≡ Ok None
  -- nor are bytes that are no name of an element: none, more than 32, no identifier
  pub no_identifier : identifier 32 name ≡ false → read_element_named s name ≡ Ok None

abbrev pub FoundByName : Type 0
FoundByName = (s name : List ℕ) → check s ≡ Ok tt → ByName s name
