-- The first half answers as stages 1 to 5 do on each file that begins so, unless more is given than the file has, or too little. Assumes
-- nothing.
use Rattle.std.specs.Prelude.{Err, Ok, Result, ⊤}
use Prim.Native.Nat.{ℕ, min, max, ◌≤◌, ◌<◌}
use mathlib.Core.Path.{◌≡◌, refl, sym, ap, ◌∙◌}
use mathlib.Core.List.{List, [], ◌∷◌}
use mathlib.Core.Bool.{Bool, true, false}
use mathlib.Core.Logic.{inl, inr, ⊎_elim, by_cases}
use native.Mathlib.Decide.{dec_le}
use native.Mathlib.Omega.{arith}
use lib.ListN.{length, take}
use lib.Seq.{take-take, take_all}
use Rattle.wire.specs.Pick.{pick}
use Rattle.wire.specs.Tests.{◌≤?◌, passes}
use Rattle.wire.proofs.TestLaws.{yes, no, means, fails}
use Rattle.answer.specs.declared.Refusal.{Refusal}
use Rattle.answer.specs.declared.Refusal.TheVariants.{Identification, Version, Header, Ceiling, Opened, Input, Incomplete}
use Rattle.answer.specs.Refusals.{refusal_number, verdict_number, gate}
use Rattle.record.specs.Chain.{header_end}
use Rattle.check_header.specs.Identification.{identified, version_right}
use Rattle.check_header.specs.HeaderRecord.{length_right, header_right}
use Rattle.check_header.specs.Ceilings.{within_ceilings}
use Rattle.check_header.specs.Stages.{closed, first_two, next_two, stages, check_header}
use Rattle.check_header.specs.Depends.{reach}
use Rattle.check_start.specs.Start.{no_more, given, header_given, check_start, needed, Twelve, LacksBlock, LacksLength, LacksHeader, Lacks, Sixteen, WholeFile, BeginsSo}
use Rattle.check_header.proofs.Depends.{depends}
use Rattle.check_start.proofs.StartLaws.{more, header_lacks, needs_16, needs_24, needs_header}

-- what is given, as numbers

module _ (s : List ℕ) (n : ℕ) where
  is_no_more : no_more s n ≡ true → length s ≤ n
  unfolding no_more
  is_no_more e = (means _ e).0

  is_more : no_more s n ≡ false → n < length s
  unfolding no_more
  is_more e = by_cases (dec_le (length s) n) (λ h. absurd (fails _ e (h, tt))) (λ h. omega arith)

  is_given : (k : ℕ) → given k s n ≡ true → min k n ≤ length s
  unfolding given
  is_given k e = (means _ e).0

  not_given : (k : ℕ) → given k s n ≡ false → length s < min k n
  unfolding given
  not_given k e = by_cases (dec_le (min k n) (length s)) (λ h. absurd (fails _ e (h, tt))) (λ h. omega arith)

  lawful_inside : length_right s n ≡ true → header_end s ≤ n
  unfolding length_right
  lawful_inside e = (means _ e).1.1.0

  is_header : header_given s n ≡ true → length_right s n ≡ true → header_end s ≤ length s
  unfolding header_given
  is_header e f = (means ((header_end s ≤? length s) ∷ []) (rw f at e)).0

  not_header : header_given s n ≡ false → (length_right s n ≡ true) × ((length s < header_end s) × (header_end s ≤ n))
  unfolding header_given passes
  not_header e = go (length_right s n) refl
    where
      go : (b : Bool) → length_right s n ≡ b → (length_right s n ≡ true) × ((length s < header_end s) × (header_end s ≤ n))
      go true f =
          by_cases (dec_le (header_end s) (length s)) (λ h. absurd (fails ((header_end s ≤? length s) ∷ []) (rw f at e) (h, tt)))
          (λ h. (f, (omega arith, lawful_inside f)))
      go false f = let z : true ≡ false = rw f at e in absurd (fails [] z tt)

-- of a whole file

pub whole_file : WholeFile
unfolding check_start check_header stages first_two gate no_more given header_given
whole_file s =
    rw (
      ← yes ((length s ≤? length s) ∷ []) (omega arith, tt),
      ← yes ((min 16 (length s) ≤? length s) ∷ []) (omega arith, tt),
      ← yes ((min 24 (length s) ≤? length s) ∷ []) (omega arith, tt),
      go (length_right s (length s)) refl,
    )
  where
    go : (b : Bool) → length_right s (length s) ≡ b → pick b (passes ((header_end s ≤? length s) ∷ [])) true ≡ true
    go true e = sym (yes ((header_end s ≤? length s) ∷ []) (lawful_inside s (length s) e, tt))
    go false e = refl

-- a number that no stage gives

not_number : (x : ℕ) (b : Bool) (r : Refusal) (v : Result ⊤ Refusal) → (refusal_number r ≡ x → ⊥) → (verdict_number v ≡ x → ⊥) → verdict_number (gate b r v) ≡ x → ⊥
unfolding gate
not_number x true r v f g = g
not_number x false r v f g = f

module _ (s : List ℕ) (n x : ℕ) (big : 11 < x) where
  behind_two : verdict_number (next_two s n (header_right s n) (gate (closed s) Opened (Ok tt))) ≡ x → ⊥
  unfolding next_two
  behind_two =
      not_number x (header_right s n) Header _ (λ e. omega arith)
      (not_number x (within_ceilings s n) Ceiling _ (λ e. omega arith) (not_number x (closed s) Opened (Ok tt) (λ e. omega arith) (λ e. omega arith)))

pub twelve_exactly : Twelve
unfolding check_start first_two gate
twelve_exactly s n = (λ e. go (no_more s n) refl (ap verdict_number e), λ h. sym (more s n _ h))
  where
    go : (b : Bool) → no_more s n ≡ b → verdict_number (check_start s n) ≡ 12 → n < length s
    go false w e = is_more s n w
    go true w e =
        absurd
        (not_number 12 (given 16 s n) Incomplete _ (λ k. omega arith)
        (not_number 12 (identified s n) Identification _ (λ k. omega arith)
        (not_number 12 (version_right s) Version _ (λ k. omega arith)
        (not_number 12 (given 24 s n) Incomplete _ (λ k. omega arith)
        (not_number 12 (header_given s n) Incomplete _ (λ k. omega arith) (behind_two s n 12 (omega arith))))))
        (rw w at e))

-- where 16 is given

module _ (s : List ℕ) (n : ℕ) where
  few : length s ≤ n → no_more s n ≡ true
  unfolding no_more
  few h = sym (yes ((length s ≤? n) ∷ []) (h, tt))

  gives : (k : ℕ) → min k n ≤ length s → given k s n ≡ true
  unfolding given
  gives k h = sym (yes ((min k n ≤? length s) ∷ []) (h, tt))

  gives_not : (k : ℕ) → length s < min k n → given k s n ≡ false
  unfolding given
  gives_not k h = sym (no ((min k n ≤? length s) ∷ []) (λ l. omega arith))

  lacking_one : check_start s n ≡ Err Incomplete → Lacks s n (needed s n)
  unfolding check_start first_two gate
  lacking_one e = go (no_more s n) refl (given 16 s n) refl (identified s n) refl (version_right s) refl (given 24 s n) refl (header_given s n) refl (ap verdict_number e)
    where
      go :
          (a : Bool) → no_more s n ≡ a → (b : Bool) → given 16 s n ≡ b → (c : Bool) → identified s n ≡ c → (d : Bool) → version_right s ≡ d →
          (f : Bool) → given 24 s n ≡ f → (g : Bool) → header_given s n ≡ g → verdict_number (check_start s n) ≡ 16 → Lacks s n (needed s n)
      go false ea b eb c ec d ed f ef g eg z = let y : ◌≡◌ {A = ℕ} 12 16 = rw ea at z in absurd (omega arith)
      go true ea false eb c ec d ed f ef g eg z =
          let h = not_given s n 16 eb in
          let k = needs_16 s n _ refl (omega arith) in
          inl (record { needs = omega arith; lacks = omega arith })
      go true ea true eb false ec d ed f ef g eg z = let y : ◌≡◌ {A = ℕ} 1 16 = rw (ea, eb, ec) at z in absurd (omega arith)
      go true ea true eb true ec false ed f ef g eg z = let y : ◌≡◌ {A = ℕ} 2 16 = rw (ea, eb, ec, ed) at z in absurd (omega arith)
      go true ea true eb true ec true ed false ef g eg z =
          let h = not_given s n 24 ef in
          let l = is_given s n 16 eb in
          let k = needs_24 s n _ (omega arith) refl (omega arith) in
          inr (inl (record { block = l; marked = ec; version = ed; needs = omega arith; lacks = omega arith }))
      go true ea true eb true ec true ed true ef false eg z =
          let h = not_header s n eg in
          let l = is_given s n 24 ef in
          let k = needs_header s n _ (omega arith) (header_end s) refl refl (omega arith) in
          inr (inr (record { fields = l; marked = ec; version = ed; lawful = h.0; needs = omega arith; lacks = omega arith }))
      go true ea true eb true ec true ed true ef true eg z = absurd (behind_two s n 16 (omega arith) (rw (ea, eb, ec, ed, ef, eg) at z))

  module _ (k : ℕ) where
    lacks_block : LacksBlock s n k → (check_start s n ≡ Err Incomplete) × (k ≡ needed s n)
    unfolding check_start gate
    lacks_block l =
        let e = l.needs in
        let h = l.lacks in
        (rw (few (omega arith), gives_not 16 (omega arith)), needs_16 s n k (omega arith) (omega arith))

    lacks_length : LacksLength s n k → (check_start s n ≡ Err Incomplete) × (k ≡ needed s n)
    unfolding check_start first_two gate
    lacks_length l =
        let e = l.needs in
        let h = l.lacks in
        let b = l.block in (
          rw (few (omega arith), gives 16 b, l.marked, l.version, gives_not 24 (omega arith)),
          needs_24 s n k (omega arith) (omega arith) (omega arith),
        )

    lacks_header : LacksHeader s n k → (check_start s n ≡ Err Incomplete) × (k ≡ needed s n)
    unfolding check_start first_two gate
    lacks_header l =
        let e = l.needs in
        let h = l.lacks in
        let b = l.fields in
        let i = lawful_inside s n l.lawful in
        let w = header_lacks s n (length_right s n) refl l.lawful (header_end s) refl (omega arith) in (
          rw (few (omega arith), gives 16 (omega arith), l.marked, l.version, gives 24 b, ← w),
          needs_header s n k (omega arith) (header_end s) refl (omega arith) (omega arith),
        )

pub sixteen_exactly : Sixteen
sixteen_exactly s n =
    record {
      lacking = lacking_one s n;
      given_where = λ k l. ⊎_elim (lacks_block s n k) (⊎_elim (lacks_length s n k) (lacks_header s n k)) l;
      in_file = λ e. inside (lacking_one s n e);
    }
  where
    inside : Lacks s n (needed s n) → (length s < needed s n) × (needed s n ≤ n)
    inside l =
        ⊎_elim (λ b. (b.lacks, omega (arith, b.needs)))
        (⊎_elim (λ b. (b.lacks, omega (arith, b.needs))) (λ b. (b.lacks, omega (arith, b.needs, lawful_inside s n b.lawful)))) l

-- where neither is given, the answer is that of stages 1 to 5, and what they ask for is there

record Enough (s : List ℕ) (n : ℕ) : Type 0 where
  inside : length s ≤ n
  same : check_start s n ≡ check_header s n
  far : min (reach s n) n ≤ length s

enough : (s : List ℕ) (n : ℕ) → (check_start s n ≡ Err Input → ⊥) → (check_start s n ≡ Err Incomplete → ⊥) → Enough s n
unfolding check_start check_header stages first_two gate reach passes
enough s n i m = go (no_more s n) refl (given 16 s n) refl (identified s n) refl (version_right s) refl (given 24 s n) refl (header_given s n) refl
  where
    all : (b : Bool) → length_right s n ≡ b → given 24 s n ≡ true → header_given s n ≡ true → min (pick b (max 24 (header_end s)) 24) n ≤ length s
    all true e ef eg = omega (arith, is_given s n 24 ef, is_header s n eg e)
    all false e ef eg = is_given s n 24 ef

    go :
        (a : Bool) → no_more s n ≡ a → (b : Bool) → given 16 s n ≡ b → (c : Bool) → identified s n ≡ c → (d : Bool) → version_right s ≡ d →
        (f : Bool) → given 24 s n ≡ f → (g : Bool) → header_given s n ≡ g → Enough s n
    go false ea b eb c ec d ed f ef g eg = absurd (i (rw ea))
    go true ea false eb c ec d ed f ef g eg = absurd (m (rw (ea, eb)))
    go true ea true eb false ec d ed f ef g eg =
        record { inside = is_no_more s n ea; same = rw (ea, eb, ec); far = rw ec (is_given s n 16 eb) }
    go true ea true eb true ec false ed f ef g eg =
        record { inside = is_no_more s n ea; same = rw (ea, eb, ec, ed); far = rw (ec, ed) (is_given s n 16 eb) }
    go true ea true eb true ec true ed false ef g eg = absurd (m (rw (ea, eb, ec, ed, ef)))
    go true ea true eb true ec true ed true ef false eg = absurd (m (rw (ea, eb, ec, ed, ef, eg)))
    go true ea true eb true ec true ed true ef true eg =
        record { inside = is_no_more s n ea; same = rw (ea, eb, ec, ed, ef, eg); far = rw (ec, ed) (all (length_right s n) refl ef eg) }

-- first bytes agree with the file as far as they go, and as far as a shorter one goes
agree_to : (s f : List ℕ) (r : ℕ) → take (length s) f ≡ s → length s ≤ length f → min r (length f) ≤ length s → take r s ≡ take r f
agree_to s f r e h k =
    by_cases (dec_le r (length s)) (λ l. ap (take r) (sym e) ∙ take-take r (length s) f l)
    (λ l. ap (take r) (sym e ∙ take_all (length s) f (omega arith)))

pub begins_so : BeginsSo
begins_so s f e i m =
    let w = enough s (length f) i m in
    sym (depends s f (length f) (agree_to s f (reach s (length f)) e w.inside w.far)) ∙ sym w.same
