-- The indexes that tile records carry, by the directory. Assumes nothing.
use Rattle.std.specs.Prelude.{Ok}
use Prim.Native.Nat.{ℕ, ◌<◌}
use mathlib.Core.Path.{◌≡◌, refl, sym, ap, ◌∙◌}
use mathlib.Core.List.{List, [], ◌∷◌, Memᴰ}
use mathlib.Core.Bool.{Bool, true, false}
use native.Mathlib.Omega.{arith}
use borrow.Author.Tests.{eq-eqb}
use Rattle.wire.specs.Tests.{◌≡?◌, passes}
use Rattle.wire.proofs.TestLaws.{means, yes, no_true, iff}
use Rattle.geometry.specs.Tiles.{tile_count}
use Rattle.record.specs.Record.{content_at}
use Rattle.record.specs.Chain.{records, records_of}
use Rattle.bodies.specs.TileRecord.{tile_index}
use Rattle.wire.specs.Lists.{some, count_below}
use Rattle.bodies.specs.TileDirectory.{tile_reference}
use Rattle.check_directory.specs.Correspondence.{OneToOne}
use Rattle.wire.proofs.ListLaws.{some_member, member_some, member_every}
use Rattle.record.proofs.FindLaws.{records_behind, of_type, type_of}
use Rattle.wire.proofs.CountLaws.{count_one, count_same, count_named}
use Rattle.page_check.specs.Stages.{check}
use Rattle.page_check.proofs.AcceptedLaws.{accepted_obeys}
use Rattle.page_check.proofs.GivenLaws.{obeys_one}
use Rattle.tile_routes.specs.Ways.{carries}
use Rattle.listing.specs.Listing.{written, LineEach}

module _ (s : List ℕ) (e : check s ≡ Ok tt) (i : ℕ) where
  pub not_carried : tile_reference s i ≡ 0 → some (carries s i) (records s) ≡ false
  unfolding carries
  not_carried z =
      let o = obeys_one s (records s) (accepted_obeys s e) in
      sym
      (no_true _
      (λ t.
      some_member _ (carries s i) (records s) t
      (λ x m c.
      let h = means _ c in
      absurd (omega (arith, o.listed (type_of s 2 m h.0), ap (tile_reference s) h.1.0)))))

  pub carried : i < tile_count s → (tile_reference s i ≡ 0 → ⊥) → some (carries s i) (records s) ≡ true
  unfolding carries
  carried h z =
      let t = (obeys_one s (records s) (accepted_obeys s e)).given i h z in
      let m = of_type s 2 t.among in
      member_some (carries s i) (records s) m.0 (sym (yes _ (m.1, (t.index, tt))))

-- each tile record has one index, and each index one tile record at most

module _ (s : List ℕ) (o : OneToOne s) where
  abbrev names : ℕ → ℕ → Bool
  names x i = passes ((tile_reference s i ≡? content_at x) ∷ (tile_index s x ≡? i) ∷ [])

  alone : (x y i : ℕ) → names x i ≡ true → names y i ≡ true → x ≡ y
  alone x y i e f = omega (arith, (means _ e).0, (means _ f).0)

  named_once : {x : ℕ} → Memᴰ x (records_of s 2) → count_below (tile_count s) (names x) ≡ 1
  named_once {x} m =
      count_one (tile_count s) (names x) (tile_index s x) (o.below m) (sym (yes _ (o.listed m, (refl, tt)))) (λ i f. sym (means _ f).1.0)

  carried_named : (i : ℕ) → some (carries s i) (records s) ≡ some (λ x. names x i) (records_of s 2)
  unfolding carries
  carried_named i =
      iff _ _
      (λ t.
      some_member _ (carries s i) (records s) t
      (λ x m c.
      let h = means _ c in
      let n = type_of s 2 m h.0 in
      member_some (λ y. names y i) (records_of s 2) n (sym (yes _ (ap (tile_reference s) (sym h.1.0) ∙ o.listed n, (h.1.0, tt))))))
      (λ t.
      some_member _ (λ x. names x i) (records_of s 2) t
      (λ x m c. let h = of_type s 2 m in member_some (carries s i) (records s) h.0 (sym (yes _ (h.1, ((means _ c).1.0, tt))))))

pub line_each : LineEach
unfolding written
line_each s e =
    let o = obeys_one s (records s) (accepted_obeys s e) in
    count_same (tile_count s) _ (λ i. some (λ x. names s o x i) (records_of s 2)) (λ i h. carried_named s o i)
    ∙ count_named (tile_count s) (names s o) (alone s o) 0 (records_of s 2) (records_behind s 2)
    (member_every _ (records_of s 2) (λ x m. eq-eqb _ _ (named_once s o m)))
