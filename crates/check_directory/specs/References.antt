-- Document 01, stage 9: the three references of the header, and that no other record of types 3 to 5 exists.
use Rattle.std.specs.Prelude.{ℕ, List, Bool, ◌||◌, eqb}
use Rattle.record.specs.Record.{content_at}
use Rattle.record.specs.Chain.{records_of}
use Rattle.wire.specs.Lists.{every, some}

-- a reference is the content, start plus 8, of a record of a type
unfoldable pub refers_to : List ℕ → ℕ → ℕ → Bool
refers_to s kind reference = some (λ x. eqb (content_at x) reference) (records_of s kind)

-- it may be zero
unfoldable pub refers_or_zero : List ℕ → ℕ → ℕ → Bool
refers_or_zero s kind reference = eqb reference 0 || refers_to s kind reference

-- no record of the type exists but the one that it refers to; where it is zero, none at all, since no content starts at 0
unfoldable pub no_other : List ℕ → ℕ → ℕ → Bool
no_other s kind reference = every (λ x. eqb (content_at x) reference) (records_of s kind)
