-- Rules over the records of a type, by a search for a record that keeps or breaks them. Assumes nothing.
use Rattle.std.specs.Prelude.{None, Option, Some}
use Prim.Native.Nat.{ℕ}
use mathlib.Core.Path.{◌≡◌, refl, sym, ap, ◌∙◌}
use mathlib.Core.List.{List}
use mathlib.Core.Bool.{Bool, true, false, not}
use lib.Dec.{eqb}
use borrow.Author.Tests.{ne_eqb}
use Rattle.record.specs.Record.{type_at, content_at}
use Rattle.record.specs.Chain.{starts, first_record, header_end, records, records_of}
use Rattle.record.proofs.FindLaws.{is_found, some_found, every_found}
use Rattle.bodies.specs.TileRecord.{tile_index}
use Rattle.check_directory.specs.References.{refers_to, refers_or_zero, no_other}
use Rattle.check_directory.specs.TileRules.{tiles_listed}
use Rattle.check_directory.specs.inner.Search.{referred, other, unlisted}
use Rattle.bodies.specs.TileDirectory.{tile_reference}

-- whether something was found

pub some_at : {f : Option ℕ} {x : ℕ} → f ≡ Some x → true ≡ is_found f
some_at e = rw e

pub none_at : (f : Option ℕ) → ((x : ℕ) → f ≡ Some x → ⊥) → false ≡ is_found f
none_at (Some x) n = absurd (n x refl)
none_at None n = refl

pub was_none : {f : Option ℕ} → f ≡ None → false ≡ is_found f
was_none e = rw e

pub was_some : (f : Option ℕ) → (f ≡ None → ⊥) → true ≡ is_found f
was_some (Some x) n = refl
was_some None n = absurd (n refl)

-- what finding a record says

pub refers_is : (s : List ℕ) (k r : ℕ) (f : Option ℕ) → f ≡ first_record s (header_end s) (referred s k r) → is_found f ≡ refers_to s k r
unfolding refers_to records_of records first_record
refers_is s k r f e = ap is_found e ∙ sym (some_found (λ x. eqb (content_at x) r) (λ x. eqb (type_at s x) k) (referred s k r) (λ x. refl) (starts s (header_end s)))

pub no_other_is : (s : List ℕ) (k r : ℕ) (f : Option ℕ) → f ≡ first_record s (header_end s) (other s k r) → not (is_found f) ≡ no_other s k r
unfolding no_other records_of records first_record
no_other_is s k r f e =
    ap (λ (g : Option ℕ). not (is_found g)) e
    ∙ sym (every_found (λ x. eqb (content_at x) r) (λ x. eqb (type_at s x) k) (other s k r) (λ x. refl) (starts s (header_end s)))

pub listed_is : (s : List ℕ) (f : Option ℕ) → f ≡ first_record s (header_end s) (unlisted s) → not (is_found f) ≡ tiles_listed s
unfolding tiles_listed records_of records first_record
listed_is s f e =
    ap (λ (g : Option ℕ). not (is_found g)) e
    ∙ sym
    (every_found (λ x. eqb (tile_reference s (tile_index s x)) (content_at x)) (λ x. eqb (type_at s x) 2) (unlisted s) (λ x. refl)
    (starts s (header_end s)))

-- a reference that may be zero

pub zero_yes : (s : List ℕ) (k r : ℕ) → r ≡ 0 → true ≡ refers_or_zero s k r
unfolding refers_or_zero
zero_yes s k r h = rw h

pub zero_or : (s : List ℕ) (k r : ℕ) (b : Bool) → (r ≡ 0 → ⊥) → b ≡ refers_to s k r → b ≡ refers_or_zero s k r
unfolding refers_or_zero
zero_or s k r b h e = rw (ne_eqb r 0 h) e
