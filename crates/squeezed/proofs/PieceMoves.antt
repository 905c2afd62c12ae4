-- The pieces of a squeezed page, one behind the other. Assumes nothing.
use Prim.Native.Nat.{ℕ, ◌+◌, ◌-◌, ◌%◌, ◌≤◌}
use mathlib.Core.Path.{◌≡◌, refl, sym, ap, ◌∙◌}
use mathlib.Core.Logic.{⊎_elim}
use mathlib.Core.List.{List, [], ◌∷◌, map, Memᴰ}
use mathlib.Core.Bool.{Bool, true, false, ◌&&◌}
use native.Mathlib.Omega.{arith}
use lib.ListN.{length, length-append}
use lib.Dec.{eqb}
use borrow.Author.Tests.{eq-eqb, ne_eqb}
use Rattle.wire.specs.Pick.{pick}
use Rattle.wire.specs.Lists.{select}
use Rattle.record.specs.Record.{length_at, type_at}
use Rattle.record.specs.Chain.{joined}
use Rattle.header.specs.Fields.{checksum_enabled}
use Rattle.check_records.specs.declared.Rule.{Rule}
use Rattle.check_records.specs.declared.Rule.TheVariants.{Checksum, Body}
use Rattle.pieces.specs.Pieces.{piece_at, free_record, is_free, nothing_to_join}
use Rattle.pieces.specs.Edits.{left_over}
use Rattle.pieces.specs.Standing.{AllOf, standing}
use Rattle.pieces.proofs.FreeLaws.{free_length, free_type_lem}
use Rattle.pieces.proofs.FreeingLaws.{free_well, standing_other, standing_free}
use Rattle.alone.specs.Alone.{Front, alone}
use Rattle.alone.specs.Edited.{Piece}
use Rattle.alone.proofs.FreeLaws.{free_bytes, free_body, free_checksum}
use Rattle.correct.specs.Plan.{plan_from, start_right, end_from}
use Rattle.correct.specs.Renamed.{renamed_in}
use Rattle.correct.specs.Squeezing.{squeezed_from}
use Rattle.squeezed.specs.Squeezed.{kept_standing, moved_records, gaps_from, zeroed_gap}
use Rattle.squeezed.proofs.PlanLaws.{Start, start_means, false_true}

-- a kept record, renamed: what is known of it behind the front g
pub record KeptAt (s g : List ℕ) (named : ℕ → ℕ) (x : ℕ) : Type 0 where
  pub long : length (renamed_in s named (piece_at s x)) ≡ length_at s x
  pub type : type_at (renamed_in s named (piece_at s x)) 0 ≡ type_at s x
  pub kept : type_at s x ≡ 0 → ⊥
  pub piece : Piece (renamed_in s named (piece_at s x))
  pub rules : (rule : Rule) → alone g rule (renamed_in s named (piece_at s x)) ≡ true
  pub eights : length_at s x % 8 ≡ 0
  pub near : x ≤ 16777216

module _ (s g : List ℕ) (named : ℕ → ℕ) (w : Front g) (flag : ℕ) (u : flag ≡ checksum_enabled g) where
  abbrev piece : ℕ → List ℕ
  piece x = renamed_in s named (piece_at s x)

  abbrev from : ℕ → List ℕ → List ℕ → List (List ℕ)
  from e xs ps = squeezed_from flag named s e xs ps

  -- an accepted plan, from its first start on: no gap, or a free record
  record Step (e x p : ℕ) (xs ps : List ℕ) : Type 0 where
    start : Start e x p
    rest : plan_from s (p + length_at s x) xs ps ≡ true

  step : (e x p : ℕ) (xs ps : List ℕ) → plan_from s e (x ∷ xs) (p ∷ ps) ≡ true → Step e x p xs ps
  unfolding plan_from
  step e x p xs ps h = go (start_right e x p) refl h
    where
      go : (b : Bool) → start_right e x p ≡ b → pick b (plan_from s (p + length_at s x) xs ps) false ≡ true → Step e x p xs ps
      go true i k = record { start = start_means e x p i; rest = k }
      go false i k = false_true k

  cases :
      {C : Type 0} (e x p : ℕ) (xs ps : List ℕ) → Start e x p →
      (p ≡ e → from e (x ∷ xs) (p ∷ ps) ≡ piece x ∷ from (p + length_at s x) xs ps → C) →
      (e + 16 ≤ p → from e (x ∷ xs) (p ∷ ps) ≡ free_record flag (p - e) ∷ (piece x ∷ from (p + length_at s x) xs ps) → C) → C
  unfolding squeezed_from left_over
  cases e x p xs ps a f k =
      ⊎_elim (λ z. let y : p - e ≡ 0 = omega arith in f z (rw (eq-eqb (p - e) 0 y)))
      (λ z. let y : p - e ≡ 0 → ⊥ = λ i. omega arith in k z (rw (ne_eqb (p - e) 0 y))) a.gap

  -- the free record of a gap
  module _ (e x p : ℕ) (a : Start e x p) (h : e % 8 ≡ 0) (near : x ≤ 16777216) (z : e + 16 ≤ p) where
    gap_long : 16 ≤ p - e
    gap_long = omega arith

    gap_most : p - e ≤ 2147483647
    gap_most = omega (arith, a.not_up)

    gap_eights : (p - e) % 8 ≡ 0
    gap_eights = go (p % 8) (p - e) a.eights (omega arith)
      where
        go : (r n : ℕ) → p % 8 ≡ 0 → e + n ≡ p → n % 8 ≡ 0
        go r n i j = omega arith

    pub gap_piece : Piece (free_record flag (p - e))
    gap_piece = let k = free_well flag (p - e) gap_long gap_most gap_eights in record { ok = k.0; stated = k.1; bytes = free_bytes flag (p - e) }

    pub gap_rules : (rule : Rule) → alone g rule (free_record flag (p - e)) ≡ true
    gap_rules Checksum = free_checksum g w flag u (p - e) gap_long gap_most
    gap_rules Body = free_body g w flag u (p - e) gap_long gap_most

  next_eights : (e x p : ℕ) → Start e x p → length_at s x % 8 ≡ 0 → (p + length_at s x) % 8 ≡ 0
  next_eights e x p a h = omega (arith, a.eights)

  abbrev AllKept : List ℕ → Type 0
  AllKept xs = (x : ℕ) → Memᴰ x xs → KeptAt s g named x

  -- each is a piece, and keeps stages 7 and 8
  pub all_of :
      (P : List ℕ → Type 0) → ((x : ℕ) → KeptAt s g named x → P (piece x)) →
      ((e x p : ℕ) → Start e x p → e % 8 ≡ 0 → x ≤ 16777216 → e + 16 ≤ p → P (free_record flag (p - e))) →
      (e : ℕ) (xs ps : List ℕ) → AllKept xs → plan_from s e xs ps ≡ true → e % 8 ≡ 0 → AllOf P (from e xs ps)
  unfolding squeezed_from
  all_of P f k e [] ps a h i = _
  all_of P f k e (x ∷ xs) [] a h i = _
  all_of P f k e (x ∷ xs) (p ∷ ps) a h i =
      let y = step e x p xs ps h in
      let o = a x (Memᴰ.head refl) in
      let r = all_of P f k (p + length_at s x) xs ps (λ v m. a v (Memᴰ.tail m)) y.rest (next_eights e x p y.start o.eights) in
      cases e x p xs ps y.start (λ z q. rw q (f x o, r)) (λ z q. rw q (k e x p y.start i o.near z, (f x o, r)))

  -- no two free ones adjoin
  not_free : (x : ℕ) → KeptAt s g named x → is_free (piece x) ≡ false
  unfolding is_free
  not_free x o = ne_eqb _ 0 (λ z. o.kept (sym o.type ∙ z))

  used_first : (r : List ℕ) (rs : List (List ℕ)) → is_free r ≡ false → nothing_to_join rs ≡ true → nothing_to_join (r ∷ rs) ≡ true
  unfolding nothing_to_join
  used_first r [] e h = refl
  used_first r (q ∷ qs) e h = rw e h

  used_second : (v r : List ℕ) (rs : List (List ℕ)) → is_free r ≡ false → nothing_to_join (r ∷ rs) ≡ true → nothing_to_join (v ∷ (r ∷ rs)) ≡ true
  unfolding nothing_to_join
  used_second v r rs e h = go (is_free v) (is_free r) e
    where
      go : (a b : Bool) → b ≡ false → pick (a && b) false (nothing_to_join (r ∷ rs)) ≡ true
      go true true e = false_true (sym e)
      go true false e = h
      go false b e = h

  pub none_adjoin : (e : ℕ) (xs ps : List ℕ) → AllKept xs → plan_from s e xs ps ≡ true → nothing_to_join (from e xs ps) ≡ true
  unfolding squeezed_from nothing_to_join
  none_adjoin e [] ps a h = refl
  none_adjoin e (x ∷ xs) [] a h = refl
  none_adjoin e (x ∷ xs) (p ∷ ps) a h =
      let y = step e x p xs ps h in
      let o = a x (Memᴰ.head refl) in
      let r = none_adjoin (p + length_at s x) xs ps (λ v m. a v (Memᴰ.tail m)) y.rest in
      let n = not_free x o in
      let c = used_first (piece x) (from (p + length_at s x) xs ps) n r in
      cases e x p xs ps y.start (λ z q. rw q c) (λ z q. rw q (used_second (free_record flag (p - e)) (piece x) (from (p + length_at s x) xs ps) n c))

  -- they end where the plan says
  pub ends_at : (e : ℕ) (xs ps : List ℕ) → AllKept xs → plan_from s e xs ps ≡ true → e + length (joined (from e xs ps)) ≡ end_from s e xs ps
  unfolding squeezed_from end_from plan_from
  ends_at e [] ps a h = omega arith
  ends_at e (x ∷ xs) [] a h = false_true h
  ends_at e (x ∷ xs) (p ∷ ps) a h =
      let y = step e x p xs ps h in
      let o = a x (Memᴰ.head refl) in
      let r = ends_at (p + length_at s x) xs ps (λ v m. a v (Memᴰ.tail m)) y.rest in
      let rs = from (p + length_at s x) xs ps in
      let c : length (joined (piece x ∷ rs)) ≡ length_at s x + length (joined rs) = length-append (piece x) (joined rs) ∙ ap (λ (n : ℕ). n + length (joined rs)) o.long in
      cases e x p xs ps y.start (λ z q. ap (λ (l : List (List ℕ)). e + length (joined l)) q ∙ omega arith)
      (λ z q.
      let f = free_length flag (p - e) (omega arith) in
      let k = length-append (free_record flag (p - e)) (joined (piece x ∷ rs)) in
      ap (λ (l : List (List ℕ)). e + length (joined l)) q ∙ omega arith)

  -- records of a type stand where `to` gives their new starts
  abbrev pub Agree : (ℕ → ℕ) → List ℕ → List ℕ → Type 0
  Agree to [] ps = Unit {0}
  Agree to (x ∷ xs) [] = Unit {0}
  Agree to (x ∷ xs) (p ∷ ps) = (to x ≡ p) × Agree to xs ps

  abbrev moved : (ℕ → ℕ) → ℕ → ℕ × List ℕ
  moved to x = (to x, piece x)

  stand_first :
      (kind : ℕ) (to : ℕ → ℕ) (x p : ℕ) (xs : List ℕ) → to x ≡ p → KeptAt s g named x → (rs : List (List ℕ)) (b : Bool) → eqb (type_at s x) kind ≡ b →
      standing kind (p + length_at s x) rs ≡ map (moved to) (select (λ v. eqb (type_at s v) kind) xs) →
      standing kind p (piece x ∷ rs) ≡ map (moved to) (pick b (x ∷ select (λ v. eqb (type_at s v) kind) xs) (select (λ v. eqb (type_at s v) kind) xs))
  unfolding standing
  stand_first kind to x p xs z o rs true i r = rw (o.type, i, o.long, r, z)
  stand_first kind to x p xs z o rs false i r = rw (o.type, i, o.long, r)

  pub stand_at :
      (kind : ℕ) → (kind ≡ 0 → ⊥) → (to : ℕ → ℕ) (e : ℕ) (xs ps : List ℕ) → AllKept xs → plan_from s e xs ps ≡ true → Agree to xs ps →
      standing kind e (from e xs ps) ≡ map (moved to) (select (λ x. eqb (type_at s x) kind) xs)
  unfolding squeezed_from plan_from standing select
  stand_at kind n to e [] ps a h k = refl
  stand_at kind n to e (x ∷ xs) [] a h k = false_true h
  stand_at kind n to e (x ∷ xs) (p ∷ ps) a h k =
      let y = step e x p xs ps h in
      let o = a x (Memᴰ.head refl) in
      let r = stand_at kind n to (p + length_at s x) xs ps (λ v m. a v (Memᴰ.tail m)) y.rest k.1 in
      let rs = from (p + length_at s x) xs ps in
      let c : standing kind p (piece x ∷ rs) ≡ map (moved to) (pick (eqb (type_at s x) kind) (x ∷ select (λ v. eqb (type_at s v) kind) xs) (select (λ v. eqb (type_at s v) kind) xs)) =
      stand_first kind to x p xs k.0 o rs (eqb (type_at s x) kind) refl r in
      cases e x p xs ps y.start (λ z q. ap (standing kind e) q ∙ ap (λ (i : ℕ). standing kind i (piece x ∷ rs)) (sym z) ∙ c)
      (λ z q.
      let j : e + (p - e) ≡ p = omega arith in
      ap (standing kind e) q ∙ standing_free flag (p - e) kind e (piece x ∷ rs) (omega arith) n ∙ ap (λ (i : ℕ). standing kind i (piece x ∷ rs)) j ∙ c)

  -- free records stand where the plan has gaps, and nowhere else
  free_first : (n at : ℕ) (rs : List (List ℕ)) → 16 ≤ n → standing 0 at (free_record flag n ∷ rs) ≡ (at, free_record flag n) ∷ standing 0 (at + n) rs
  unfolding standing
  free_first n at rs h = rw (free_type_lem flag n h, free_length flag n h)

  kept_other : (x p : ℕ) → KeptAt s g named x → (rs : List (List ℕ)) → standing 0 p (piece x ∷ rs) ≡ standing 0 (p + length_at s x) rs
  kept_other x p o rs = standing_other 0 p (piece x) rs (λ z. o.kept (sym o.type ∙ z)) ∙ ap (λ (n : ℕ). standing 0 (p + n) rs) o.long

  abbrev gaps : ℕ → List ℕ → List ℕ → List (ℕ × List ℕ)
  gaps e xs ps = map (zeroed_gap flag) (gaps_from s e xs ps)

  gap_none : (e x p : ℕ) (xs ps : List ℕ) → p - e ≡ 0 → gaps e (x ∷ xs) (p ∷ ps) ≡ gaps (p + length_at s x) xs ps
  unfolding gaps_from
  gap_none e x p xs ps i = rw (eq-eqb (p - e) 0 i)

  gap_one : (e x p : ℕ) (xs ps : List ℕ) → 16 ≤ p - e → gaps e (x ∷ xs) (p ∷ ps) ≡ (e, free_record flag (p - e)) ∷ gaps (p + length_at s x) xs ps
  unfolding gaps_from
  gap_one e x p xs ps h = rw (ne_eqb (p - e) 0 (λ i. omega arith))

  pub free_at : (e : ℕ) (xs ps : List ℕ) → AllKept xs → plan_from s e xs ps ≡ true → standing 0 e (from e xs ps) ≡ gaps e xs ps
  unfolding squeezed_from plan_from standing gaps_from
  free_at e [] ps a h = refl
  free_at e (x ∷ xs) [] a h = false_true h
  free_at e (x ∷ xs) (p ∷ ps) a h =
      let y = step e x p xs ps h in
      let o = a x (Memᴰ.head refl) in
      let rs = from (p + length_at s x) xs ps in
      let r = free_at (p + length_at s x) xs ps (λ v m. a v (Memᴰ.tail m)) y.rest in
      let c : standing 0 p (piece x ∷ rs) ≡ map (zeroed_gap flag) (gaps_from s (p + length_at s x) xs ps) = kept_other x p o rs ∙ r in
      cases e x p xs ps y.start
      (λ z q. let i : p - e ≡ 0 = omega arith in ap (standing 0 e) q ∙ ap (λ (n : ℕ). standing 0 n (piece x ∷ rs)) (sym z) ∙ c ∙ sym (gap_none e x p xs ps i))
      (λ z q.
      let j : e + (p - e) ≡ p = omega arith in
      ap (standing 0 e) q ∙ free_first (p - e) e (piece x ∷ rs) (omega arith)
      ∙ ap (λ (l : List (ℕ × List ℕ)). (e, free_record flag (p - e)) ∷ l) (ap (λ (n : ℕ). standing 0 n (piece x ∷ rs)) j ∙ c) ∙ sym (gap_one e x p xs ps (omega arith)))

  -- and kept records where the plan has their starts
  kept_first : (x p : ℕ) → KeptAt s g named x → (rs : List (List ℕ)) → kept_standing p (piece x ∷ rs) ≡ (p, piece x) ∷ kept_standing (p + length_at s x) rs
  unfolding kept_standing
  kept_first x p o rs = rw (o.type, ne_eqb (type_at s x) 0 o.kept, o.long)

  free_behind : (n at : ℕ) (rs : List (List ℕ)) → 16 ≤ n → kept_standing at (free_record flag n ∷ rs) ≡ kept_standing (at + n) rs
  unfolding kept_standing
  free_behind n at rs h = rw (free_type_lem flag n h, free_length flag n h)

  pub starts_at : (e : ℕ) (xs ps : List ℕ) → AllKept xs → plan_from s e xs ps ≡ true → kept_standing e (from e xs ps) ≡ moved_records named s xs ps
  unfolding squeezed_from plan_from kept_standing moved_records
  starts_at e [] ps a h = refl
  starts_at e (x ∷ xs) [] a h = false_true h
  starts_at e (x ∷ xs) (p ∷ ps) a h =
      let y = step e x p xs ps h in
      let o = a x (Memᴰ.head refl) in
      let rs = from (p + length_at s x) xs ps in
      let r = starts_at (p + length_at s x) xs ps (λ v m. a v (Memᴰ.tail m)) y.rest in
      let c : kept_standing p (piece x ∷ rs) ≡ (p, piece x) ∷ moved_records named s xs ps =
      kept_first x p o rs ∙ ap (λ (l : List (ℕ × List ℕ)). (p, piece x) ∷ l) r in
      cases e x p xs ps y.start (λ z q. ap (kept_standing e) q ∙ ap (λ (n : ℕ). kept_standing n (piece x ∷ rs)) (sym z) ∙ c)
      (λ z q.
      let j : e + (p - e) ≡ p = omega arith in
      ap (kept_standing e) q ∙ free_behind (p - e) e (piece x ∷ rs) (omega arith) ∙ ap (λ (n : ℕ). kept_standing n (piece x ∷ rs)) j ∙ c)
