-- What the functions of the ways answer, by their tests. Assumes nothing.
use Rattle.std.specs.Prelude.{None, Option, Some}
use Prim.Native.Nat.{ℕ, ◌+◌, ◌-◌}
use mathlib.Core.Path.{◌≡◌, refl, sym, ◌∙◌}
use mathlib.Core.List.{List}
use mathlib.Core.Bool.{true, false}
use borrow.Author.Tests.{ne_eqb}
use Rattle.wire.specs.Bytes.{u32_at}
use Rattle.wire.proofs.TestLaws.{yes, no}
use Rattle.record.specs.declared.Cursor.{Cursor}
use Rattle.record.specs.declared.Step.{Step}
use Rattle.record.specs.declared.Step.TheVariants.{Record}
use Rattle.record.specs.Record.{step_at}
use Rattle.record.proofs.SeekLaws.{Seeking, seek_next, seek_found, seek_type}
use Rattle.bodies.specs.TileDirectory.{reference_from}
use Rattle.bodies.specs.TileRecord.{tile_index}
use Rattle.tile_routes.specs.declared.Route.{Route}
use Rattle.tile_routes.specs.declared.Route.TheVariants as route
use Rattle.tile_routes.specs.Ways.{carries, referred_to, walked_to, found_by}

-- the record that the directory gives

module _ (s : List ℕ) (at i r : ℕ) (p : r ≡ reference_from s at i) where
  pub referred_none : r ≡ 0 → None ≡ referred_to s at i
  unfolding referred_to
  referred_none z = rw (← p, z)

  pub referred_at : (d : ℕ) → (r ≡ 0 → ⊥) → d ≡ r - 8 → Some d ≡ referred_to s at i
  unfolding referred_to
  referred_at d z q = rw (← p, ne_eqb r 0 z, ← q)

-- the walk

module _ (s : List ℕ) (from at i k st n : ℕ) (nx : Cursor) (x : Step) (g : Seeking (carries s i) s from at) (u : x ≡ Record k st n nx) (v : x ≡ step_at s at) where
  pub walk_other_type : (k ≡ 2 → ⊥) → Seeking (carries s i) s from nx.at
  unfolding carries
  walk_other_type h = seek_next g u v other refl
    where
      other : false ≡ carries s i st
      other = no _ (λ y. h (seek_type s at k st n nx x u v ∙ y.0))

  module _ (j : ℕ) (q : j ≡ u32_at s (st + 8)) where
    pub walk_other_index : (j ≡ i → ⊥) → Seeking (carries s i) s from nx.at
    unfolding carries tile_index
    walk_other_index h = seek_next g u v other refl
      where
        other : false ≡ carries s i st
        other = no _ (λ y. h (q ∙ y.1.0))

    pub walk_stops : k ≡ 2 → j ≡ i → Some st ≡ walked_to s from i
    unfolding walked_to carries tile_index
    walk_stops h m = seek_found g u v this refl
      where
        this : true ≡ carries s i st
        this = yes _ (sym (seek_type s at k st n nx x u v) ∙ h, (sym q ∙ m, tt))

pub ruleset walking = (walk_other_type, walk_other_index, walk_stops)

-- by the route's name

pub found_referred : (s : List ℕ) (w : Route) (at i : ℕ) (f : Option ℕ) → w ≡ route.Directory at → f ≡ referred_to s at i → f ≡ found_by s w i
unfolding found_by
found_referred s w at i f p q = rw p q

pub found_walked : (s : List ℕ) (w : Route) (at i : ℕ) (f : Option ℕ) → w ≡ route.Walk at → f ≡ walked_to s at i → f ≡ found_by s w i
unfolding found_by
found_walked s w at i f p q = rw p q
