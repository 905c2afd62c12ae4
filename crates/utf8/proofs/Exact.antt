-- The test is the grammar. Assumes nothing.
use Prim.Native.Nat.{ℕ}
use mathlib.Core.Path.{◌≡◌, refl, ap, ◌∙◌}
use mathlib.Core.List.{List, [], ◌∷◌, ◌++◌, Memᴰ}
use mathlib.Core.Bool.{Bool, true, false}
use mathlib.Core.Logic.{◌⊎◌, inl, inr, ⊎_elim}
use Rattle.wire.proofs.TestLaws.{not_both}
use Rattle.utf8.specs.Utf8.{rows, matches, Octets, never, following, goes_on, utf8, TestIsGrammar}
use Rattle.utf8.proofs.OctetLaws.{both_split, one_more_lem, nothing_left}
use Rattle.utf8.proofs.LeadLaws.{begun}
use Rattle.utf8.proofs.StepLaws.{nothing_is}

-- from the grammar to the test

goes_through : (ps : List (ℕ → Bool)) (c rest : List ℕ) → matches ps c ≡ true → goes_on ps (c ++ rest) ≡ goes_on [] rest
unfolding matches goes_on
goes_through [] [] rest m = refl
goes_through [] (b ∷ c) rest m = not_both m refl
goes_through (p ∷ ps) [] rest m = not_both m refl
goes_through (p ∷ ps) (b ∷ c) rest m = let d = both_split (p b) (matches ps c) m in rw d.0 (goes_through ps c rest d.1)

-- a row whose first octet decides what follows
begun_goes :
    (p : ℕ → Bool) (ps : List (ℕ → Bool)) (c rest : List ℕ) → ((b : ℕ) → p b ≡ true → following b rows ≡ ps) → matches (p ∷ ps) c ≡ true →
    goes_on [] (c ++ rest) ≡ goes_on [] rest
unfolding matches goes_on
begun_goes p ps [] rest f m = not_both m refl
begun_goes p ps (b ∷ c) rest f m =
    let d = both_split (p b) (matches ps c) m in
    ap (λ (qs : List (ℕ → Bool)). goes_on qs (c ++ rest)) (f b d.0) ∙ goes_through ps c rest d.1

character : (row : List (ℕ → Bool)) (c rest : List ℕ) → Memᴰ row rows → matches row c ≡ true → goes_on [] (c ++ rest) ≡ goes_on [] rest
character row c rest m e = let k = begun row m in begun_goes k.p k.ps c rest k.follows (rw k.is e)

grammar_passes : {s : List ℕ} → Octets s → utf8 s ≡ true
unfolding utf8 goes_on
grammar_passes Octets.none = refl
grammar_passes (Octets.more row c rest m e o) = character row c rest m e ∙ grammar_passes o

-- from the test to the grammar

-- s begins with bytes that match what is wanted, and goes on by the grammar
record Split (ps : List (ℕ → Bool)) (s : List ℕ) : Type 0 where
  c : List ℕ
  rest : List ℕ
  whole : s ≡ c ++ rest
  fits : matches ps c ≡ true
  octets : Octets rest

-- a row that b begins, and what has to follow
record Begins (b : ℕ) (rs : List (List (ℕ → Bool))) : Type 0 where
  p : ℕ → Bool
  row : Memᴰ (p ∷ following b rs) rs
  holds : p b ≡ true

begins : (b : ℕ) (rs : List (List (ℕ → Bool))) → (following b rs ≡ never ∷ []) ⊎ Begins b rs
unfolding following
begins b [] = inl refl
begins b ([] ∷ rs) = ⊎_elim inl (λ r. inr (record { p = r.p; row = Memᴰ.tail r.row; holds = r.holds })) (begins b rs)
begins b ((p ∷ ps) ∷ rs) = go (p b) refl (begins b rs)
  where
    go : (x : Bool) → p b ≡ x → (following b rs ≡ never ∷ []) ⊎ Begins b rs → (following b ((p ∷ ps) ∷ rs) ≡ never ∷ []) ⊎ Begins b ((p ∷ ps) ∷ rs)
    go true e k = inr (record { p = p; row = rw e (Memᴰ.head refl); holds = e })
    go false e k = ⊎_elim (λ q. inl (rw e q)) (λ r. inr (record { p = r.p; row = rw e (Memᴰ.tail r.row); holds = r.holds })) k

whole_character : (b : ℕ) (bs : List ℕ) → goes_on (following b rows) bs ≡ true → Split (following b rows) bs → Octets (b ∷ bs)
whole_character b bs g k =
    ⊎_elim (λ q. not_both g (rw q (nothing_is bs)))
    (λ r. rw k.whole (Octets.more _ (b ∷ k.c) k.rest r.row (one_more_lem _ _ b k.c r.holds k.fits) k.octets))
    (begins b rows)

split : (s : List ℕ) (ps : List (ℕ → Bool)) → goes_on ps s ≡ true → Split ps s
unfolding goes_on matches
split [] [] e = record { c = []; rest = []; whole = refl; fits = refl; octets = Octets.none }
split [] (p ∷ ps) e = not_both e refl
split (b ∷ bs) [] e = record { c = []; rest = b ∷ bs; whole = refl; fits = refl; octets = whole_character b bs e (split bs (following b rows) e) }
split (b ∷ bs) (p ∷ ps) e =
    let d = both_split (p b) (goes_on ps bs) e in
    let k = split bs ps d.1 in
    record { c = b ∷ k.c; rest = k.rest; whole = ap (λ (l : List ℕ). b ∷ l) k.whole; fits = one_more_lem p ps b k.c d.0 k.fits; octets = k.octets }

passes_grammar : (s : List ℕ) → utf8 s ≡ true → Octets s
unfolding utf8
passes_grammar s e = let k = split s [] e in rw (k.whole, nothing_left k.c k.fits) k.octets

pub utf8_exact : TestIsGrammar
utf8_exact s = (passes_grammar s, grammar_passes)
