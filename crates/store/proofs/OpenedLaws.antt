-- What an opened page holds and answers: as the bytes and the index alone do, whatever positions it holds. Assumes nothing.
use Rattle.std.specs.Prelude.{Err, Ok, Option, Result, ⊤}
use Rattle.answer.specs.declared.Extent.{Extent}
use Prim.Native.Nat.{ℕ, ◌-◌, ◌<◌}
use mathlib.Core.Path.{◌≡◌, refl, sym, ap, ◌∙◌}
use mathlib.Core.List.{List}
use mathlib.Core.Bool.{Bool, true, false}
use lib.Dec.{eqb}
use borrow.Author.Tests.{eqb-true}
use Rattle.wire.specs.Pick.{pick}
use Rattle.answer.specs.declared.Refusal.{Refusal}
use Rattle.answer.specs.declared.Cell.{Cell}
use Rattle.answer.specs.declared.Cell.TheVariants as cell
use Rattle.answer.proofs.VerdictLaws.{refusal_handed, answer_behind, same_behind}
use Rattle.header.specs.Fields.{tile_directory_reference}
use Rattle.record.specs.Chain.{header_end}
use Rattle.geometry.specs.Tiles.{tile_count}
use Rattle.bodies.specs.TileDirectory.{tile_directory_at}
use Rattle.page_check.specs.Stages.{check}
use Rattle.tile_routes.specs.declared.Route.{Route}
use Rattle.tile_routes.specs.declared.Route.TheVariants.{Directory, Walk}
use Rattle.tile_routes.specs.Ways.{meant, found_by}
use Rattle.cells.specs.Meaning.{meaning, content_meaning}
use Rattle.cells.specs.Reads.{read_by_directory, read_by_walk, read_meaning, read_content}
use Rattle.cells.specs.inner.Lookups.{looked_up, looked_up_content}
use Rattle.cells.proofs.ReadLaws.{check_lawful, accepted_finds, walked_finds, way_means, content_way_means, looked_means, content_looked_means, walk_read, directory_read}
use Rattle.store.specs.Opened.{held_end, held_directory, trusted, walk_from, through_directory, page_content, page_read, plain_read}

-- what is held

module _ (s : List ℕ) (v : Result ⊤ Refusal) (p : v ≡ check s) where
  pub held_refused : (x : Refusal) → v ≡ Err x → (0 ≡ held_end s) × (0 ≡ held_directory s)
  unfolding held_end held_directory
  held_refused x f = (refusal_handed (λ r. 0) v (check s) p _ x f, refusal_handed (λ r. 0) v (check s) p _ x f)

  pub held_accepted : (n d : ℕ) → v ≡ Ok tt → n ≡ header_end s → d ≡ tile_directory_reference s → (n ≡ held_end s) × (d ≡ held_directory s)
  unfolding held_end held_directory
  held_accepted n d f g h = (answer_behind (λ r. 0) v (check s) p _ n f (λ a. g), answer_behind (λ r. 0) v (check s) p _ d f (λ a. h))

-- a held number, compared, is the bytes' own

pub trusted_own : (held own : ℕ) → trusted held own ≡ own
unfolding trusted
trusted_own held own = go (eqb held own) refl
  where
    go : (b : Bool) → eqb held own ≡ b → pick b held own ≡ own
    go true f = eqb-true held own f
    go false f = refl

-- the routes, from their parts

pub walk_is : (s : List ℕ) (end n t : ℕ) → n ≡ header_end s → t ≡ trusted end n → Walk t ≡ walk_from s end
unfolding walk_from
walk_is s end n t p q = ap Walk (q ∙ rw p)

pub through_is : (s : List ℕ) (directory n t d : ℕ) → n ≡ tile_directory_reference s → t ≡ trusted directory n → d ≡ t - 8 → Directory d ≡ through_directory s directory
unfolding through_directory
through_is s directory n t d p q r = ap Directory (r ∙ rw (q, p))

-- whatever is held, on an accepted file each finds what is meant

module _ (s : List ℕ) (a : check s ≡ Ok tt) (i : ℕ) (h : i < tile_count s) where
  pub walk_held : (end : ℕ) → found_by s (walk_from s end) i ≡ meant s i
  unfolding found_by walk_from
  walk_held end = rw (trusted_own end (header_end s)) (walked_finds s i h)

  pub directory_held : (directory : ℕ) → found_by s (through_directory s directory) i ≡ meant s i
  unfolding found_by through_directory tile_directory_at
  directory_held directory = rw (trusted_own directory (tile_directory_reference s)) (accepted_finds s a i h)

  pub either_held : (end directory : ℕ) (walk : Bool) → found_by s (pick walk (walk_from s end) (through_directory s directory)) i ≡ meant s i
  either_held end directory true = walk_held end
  either_held end directory false = directory_held directory

-- so a page's reads are those of its bytes

module _ (s : List ℕ) (ci row column e end directory : ℕ) (walk : Bool) where
  page_means : page_read s ci end directory row column e walk ≡ read_meaning s ci row column e
  unfolding page_read read_meaning
  page_means =
      same_behind Err (check s) _ _
      (λ a. way_means s _ (check_lawful s a) (λ i h. either_held s a i h end directory walk) ci row column e)

  plain_means : plain_read s ci row column e walk ≡ read_meaning s ci row column e
  unfolding plain_read
  plain_means = go walk
    where
      go : (b : Bool) → pick b (read_by_walk s ci row column e) (read_by_directory s ci row column e) ≡ read_meaning s ci row column e
      go true = walk_read s ci row column e
      go false = directory_read s ci row column e

  pub all_three : (x : Result Cell Refusal) → x ≡ read_meaning s ci row column e → (x ≡ page_read s ci end directory row column e walk) × ((x ≡ plain_read s ci row column e walk) × (x ≡ read_meaning s ci row column e))
  all_three x g = (g ∙ sym page_means, (g ∙ sym plain_means, g))

  pub page_answer :
      (w : Route) (x : Result Cell Refusal) → w ≡ pick walk (walk_from s end) (through_directory s directory) → x ≡ looked_up s ci (found_by s w) row column e → check s ≡ Ok tt →
      x ≡ meaning s ci row column e
  page_answer w x p q a = q ∙ rw p (looked_means s _ (check_lawful s a) (λ i h. either_held s a i h end directory walk) ci row column e)

pub plain_both : (s : List ℕ) (ci row column e : ℕ) (walk : Bool) (x : Result Cell Refusal) → x ≡ read_meaning s ci row column e → (x ≡ plain_read s ci row column e walk) × (x ≡ read_meaning s ci row column e)
plain_both s ci row column e walk x g = (all_three s ci row column e 0 0 walk x g).1

module _ (s : List ℕ) (directory tile e : ℕ) where
  content_page : page_content s directory tile e ≡ read_content s tile e
  unfolding page_content read_content
  content_page =
      same_behind Err (check s) _ _
      (λ a. content_way_means s _ (check_lawful s a) (λ i h. directory_held s a i h directory) tile e)

  pub both_contents : (x : Result (Option Extent) Refusal) → x ≡ read_content s tile e → (x ≡ page_content s directory tile e) × (x ≡ read_content s tile e)
  both_contents x g = (g ∙ sym content_page, g)

  pub page_content_answer :
      (w : Route) (x : Result (Option Extent) Refusal) → w ≡ through_directory s directory → x ≡ looked_up_content s (found_by s w) tile e → check s ≡ Ok tt → x ≡ content_meaning s tile e
  page_content_answer w x p q a = q ∙ rw p (content_looked_means s _ (check_lawful s a) (λ i h. directory_held s a i h directory) tile e)
