-- Records, what a cursor's step tells, and the chain as a list. Assumes nothing.
use Rattle.std.specs.Prelude.{None, Some}
use Prim.Native.Nat.{ℕ, zero, suc, ◌+◌, ◌%◌, ◌-◌, ◌≤◌, ◌<◌}
use mathlib.Core.Path.{◌≡◌, refl, sym, ap, ◌∙◌}
use mathlib.Core.List.Memᴰ
use mathlib.Core.List.{List, [], ◌∷◌, ◌++◌, append_assoc, append-nil, Memᴰ}
use mathlib.Core.Logic.{◌⊎◌, inl, inr, ⊎_elim}
use mathlib.Core.Bool.{Bool, true, false}
use native.Mathlib.Omega.{arith}
use lib.ListN.{length, length-append}
use lib.Dec.{leb}
use borrow.Author.Tests.{leb-true, leb-false, le-leb, lt-leb}
use Rattle.wire.specs.Bytes.{largest_integer}
use Rattle.wire.proofs.ByteLaws.{number_behind, number_before, byte_behind, byte_before}
use Rattle.wire.proofs.TestLaws.{means, yes}
use Rattle.wire.proofs.ListLaws.{Behind, behind_more}
use Rattle.record.specs.declared.Cursor.{Cursor}
use Rattle.record.specs.declared.Step.{Step}
use Rattle.record.specs.declared.Step.TheVariants.{Record, Bad, End}
use Rattle.record.specs.Record.{length_at, type_at, record_ok, step_at}
use Rattle.record.specs.Chain.{starts_go, starts, end_of, find, first_record, Stand, Whole, joined, starts_of, WellFormed}

-- a record

pub record IsRecord (s : List ℕ) (at : ℕ) : Type 0 where
  pub long : 16 ≤ length_at s at
  pub plain : length_at s at ≤ largest_integer
  pub eights : length_at s at % 8 ≡ 0
  pub inside : at + length_at s at ≤ length s
  pub known : type_at s at ≤ 5

pub ok_means : (s : List ℕ) (at : ℕ) → record_ok s at ≡ true → IsRecord s at
unfolding record_ok
ok_means s at e =
    let h = means _ e in
    record { long = h.0; plain = h.1.0; eights = h.1.1.0; inside = h.1.1.1.0; known = h.1.1.1.1.0 }

pub means_ok : (s : List ℕ) (at : ℕ) → IsRecord s at → record_ok s at ≡ true
unfolding record_ok
means_ok s at r = sym (yes _ (r.long, (r.plain, (r.eights, (r.inside, (r.known, tt))))))

-- what stands at a cursor

pub step_end : (s : List ℕ) (at : ℕ) → length s ≤ at → End ≡ step_at s at
unfolding step_at
step_end s at h = rw (le-leb (length s) at h)

pub step_bad : (s : List ℕ) (at : ℕ) → at < length s → record_ok s at ≡ false → Bad ≡ step_at s at
unfolding step_at
step_bad s at h e = rw (lt-leb (length s) at h, e)

pub step_record :
    (s : List ℕ) (at k n : ℕ) → at < length s → record_ok s at ≡ true → k ≡ type_at s at → n ≡ length_at s at →
    Record k at n (record { at = at + n }) ≡ step_at s at
unfolding step_at
step_record s at k n h e p q = rw (lt-leb (length s) at h, e, p, q)

-- what a step tells, by what it handed back

pub record Stepped (s : List ℕ) (at k st n : ℕ) (nx : Cursor) : Type 0 where
  pub before_end : at < length s
  pub ok : record_ok s at ≡ true
  pub is : IsRecord s at
  pub kind : k ≡ type_at s st
  pub start : st ≡ at
  pub long : n ≡ length_at s at
  pub next : nx.at ≡ at + length_at s at

pub record AtBad (s : List ℕ) (at : ℕ) : Type 0 where
  pub before_end : at < length s
  pub bad : record_ok s at ≡ false

pub record AtEnd (s : List ℕ) (at : ℕ) : Type 0 where
  pub ended : length s ≤ at

-- the three cases of a step
step_cases :
    (s : List ℕ) (at : ℕ) {C : Type 0} → (length s ≤ at → End ≡ step_at s at → C) →
    (at < length s → record_ok s at ≡ true → Record (type_at s at) at (length_at s at) (record { at = at + length_at s at }) ≡ step_at s at → C) →
    (at < length s → record_ok s at ≡ false → Bad ≡ step_at s at → C) → C
step_cases s at {C} f g h = go (leb (length s) at) refl (record_ok s at) refl
  where
    go : (a : Bool) → leb (length s) at ≡ a → (b : Bool) → record_ok s at ≡ b → C
    go true ea b eb = let l = leb-true _ _ ea in f l (step_end s at l)
    go false ea true eb = let l = leb-false _ _ ea in g l eb (step_record s at _ _ l eb refl refl)
    go false ea false eb = let l = leb-false _ _ ea in h l eb (step_bad s at l eb)

other : {C : Type 0} → ◌≡◌ {A = ℕ} 0 1 → C
other e = absurd (omega arith)

pub stepped :
    {s : List ℕ} {at k st n : ℕ} {nx : Cursor} {r : Step} → r ≡ Record k st n nx → r ≡ step_at s at → Stepped s at k st n nx
stepped {s} {at} {k} {st} {n} {nx} p q =
    step_cases s at (λ l z. other (cc))
    (λ l o z.
    let w : st ≡ at = cc in
    let x : nx ≡ record { at = at + length_at s at } = cc in
    record {
      before_end = l;
      ok = o;
      is = ok_means s at o;
      kind = rw w (cc);
      start = w;
      long = cc;
      next = ap (λ (y : Cursor). y.at) x;
    })
    (λ l o z. other (cc))

pub stepped_bad : {s : List ℕ} {at : ℕ} {r : Step} → r ≡ Bad → r ≡ step_at s at → AtBad s at
stepped_bad {s} {at} p q =
    step_cases s at (λ l z. other (cc)) (λ l o z. other (cc)) (λ l o z. record { before_end = l; bad = o })

pub stepped_end : {s : List ℕ} {at : ℕ} {r : Step} → r ≡ End → r ≡ step_at s at → AtEnd s at
stepped_end {s} {at} p q =
    step_cases s at (λ l z. record { ended = l }) (λ l o z. other (cc)) (λ l o z. other (cc))

-- a loop over the cursor ends: its measure falls
pub less :
    (s : List ℕ) (at k st n : ℕ) (nx : Cursor) (r : Step) → r ≡ Record k st n nx → r ≡ step_at s at →
    length s - nx.at < length s - at
less s at k st n nx r p q = let h = stepped p q in omega arith

-- the list: enough fuel is as good as more, so that it unfolds without its fuel

-- where a record stands, it does not lie past the file
pub past_bad : (s : List ℕ) (at : ℕ) → length s ≤ at → record_ok s at ≡ false
past_bad s at h = go (record_ok s at) refl
  where
    go : (b : Bool) → record_ok s at ≡ b → b ≡ false
    go true e = let o = ok_means s at e in absurd (omega arith)
    go false e = refl

go_none : (k : ℕ) (s : List ℕ) (at : ℕ) → record_ok s at ≡ false → starts_go k s at ≡ []
unfolding starts_go
go_none zero s at e = refl
go_none (suc k) s at e = rw (starts_go, e)

go_record : (k : ℕ) (s : List ℕ) (at : ℕ) → record_ok s at ≡ true → starts_go (suc k) s at ≡ at ∷ starts_go k s (at + length_at s at)
unfolding starts_go
go_record k s at e = rw (starts_go, e)

go_enough : (j k : ℕ) (s : List ℕ) (at : ℕ) → length s ≤ at + j → length s ≤ at + k → starts_go j s at ≡ starts_go k s at
go_enough zero k s at p q = let e = past_bad s at (omega arith) in go_none zero s at e ∙ sym (go_none k s at e)
go_enough (suc j) zero s at p q = let e = past_bad s at (omega arith) in go_none (suc j) s at e ∙ sym (go_none zero s at e)
go_enough (suc j) (suc k) s at p q = go (record_ok s at) refl (go_enough j k s (at + length_at s at))
  where
    go :
        (b : Bool) → record_ok s at ≡ b →
        (length s ≤ at + length_at s at + j → length s ≤ at + length_at s at + k → starts_go j s (at + length_at s at) ≡ starts_go k s (at + length_at s at)) →
        starts_go (suc j) s at ≡ starts_go (suc k) s at
    go true e r =
        let o = ok_means s at e in
        go_record j s at e ∙ ap (λ (x : List ℕ). at ∷ x) (r (omega arith) (omega arith)) ∙ sym (go_record k s at e)
    go false e r = go_none (suc j) s at e ∙ sym (go_none (suc k) s at e)

pub starts_none : (s : List ℕ) (at : ℕ) → record_ok s at ≡ false → starts s at ≡ []
unfolding starts
starts_none s at e = go_none (length s) s at e

pub starts_record : (s : List ℕ) (at : ℕ) → record_ok s at ≡ true → starts s at ≡ at ∷ starts s (at + length_at s at)
unfolding starts
starts_record s at e =
    go_enough (length s) (suc (length s)) s at (omega arith) (omega arith) ∙ go_record (length s) s at e

-- what holds of the chain from a position on, by whether a record stands there; `k` bounds what is left of the file
chain_induction :
    (s : List ℕ) (P : ℕ → Type 0) → ((at : ℕ) → record_ok s at ≡ false → P at) →
    ((at : ℕ) → record_ok s at ≡ true → P (at + length_at s at) → P at) → (k at : ℕ) → length s ≤ at + k → P at
chain_induction s P f g zero at h = f at (past_bad s at (omega arith))
chain_induction s P f g (suc k) at h = go (record_ok s at) refl (chain_induction s P f g k (at + length_at s at))
  where
    go : (b : Bool) → record_ok s at ≡ b → (length s ≤ at + length_at s at + k → P (at + length_at s at)) → P at
    go true e r = let o = ok_means s at e in g at e (r (omega arith))
    go false e r = f at e

pub by_chain :
    (s : List ℕ) (P : ℕ → Type 0) → ((at : ℕ) → record_ok s at ≡ false → P at) →
    ((at : ℕ) → record_ok s at ≡ true → P (at + length_at s at) → P at) → (at : ℕ) → P at
by_chain s P f g at = chain_induction s P f g (length s) at (omega arith)

-- the starts of the records do
pub starts_behind : (s : List ℕ) (at : ℕ) → Behind at (starts s at)
starts_behind s =
    by_chain s (λ at. Behind at (starts s at)) (λ at e. rw (starts_none s at e) tt)
    (λ at e r.
    let o = ok_means s at e in
    rw (starts_record s at e) (omega arith, behind_more (at + 1) (at + length_at s at) (starts s (at + length_at s at)) (omega (arith, o.long)) r))

-- and each is a record
pub starts_ok : (s : List ℕ) (x at : ℕ) → Memᴰ x (starts s at) → record_ok s x ≡ true
starts_ok s x =
    by_chain s (λ at. Memᴰ x (starts s at) → record_ok s x ≡ true) (λ at e m. absurd (Memᴰ.not-nil (rw (starts_none s at e) at m)))
    (λ at e r m. ⊎_elim (λ h. rw h e) r (Memᴰ.cases_cons (rw (starts_record s at e) at m)))

-- where they end: they stand up to there, nothing good stands there, and it is no further than the file goes

pub end_none : (s : List ℕ) (at : ℕ) → record_ok s at ≡ false → end_of s at (starts s at) ≡ at
unfolding end_of
end_none s at e = rw (starts_none s at e)

pub end_record : (s : List ℕ) (at : ℕ) → record_ok s at ≡ true → end_of s at (starts s at) ≡ end_of s (at + length_at s at) (starts s (at + length_at s at))
unfolding end_of
end_record s at e = rw (starts_record s at e)

pub record Ends (s : List ℕ) (at : ℕ) : Type 0 where
  pub stand : Stand s at (starts s at) (end_of s at (starts s at))
  pub bad : record_ok s (end_of s at (starts s at)) ≡ false
  pub inside : at ≤ length s → end_of s at (starts s at) ≤ length s

pub chain_ends : (s : List ℕ) (at : ℕ) → Ends s at
unfolding end_of
chain_ends s =
    by_chain s (Ends s) (λ at e. let n = starts_none s at e in record { stand = rw n refl; bad = rw n e; inside = λ h. rw n h })
    (λ at e r.
    let n = starts_record s at e in
    let o = ok_means s at e in
    record { stand = rw n (refl, (e, r.stand)); bad = rw n r.bad; inside = λ h. rw n (r.inside o.inside) })

-- records that stand up to where nothing good stands are the list
pub stand_starts : (s : List ℕ) (at : ℕ) (xs : List ℕ) (end : ℕ) → Stand s at xs end → record_ok s end ≡ false → starts s at ≡ xs
stand_starts s at [] end w e = starts_none s at (rw (w) e)
stand_starts s at (x ∷ xs) end w e =
    ap (starts s) (sym w.0) ∙ starts_record s x w.1.0
    ∙ ap (λ (l : List ℕ). x ∷ l) (stand_starts s (x + length_at s x) xs end w.1.1 e)

pub stand_end : (s : List ℕ) (at : ℕ) (xs : List ℕ) (end : ℕ) → Stand s at xs end → end_of s at xs ≡ end
unfolding end_of
stand_end s at [] end w = w
stand_end s at (x ∷ xs) end w = stand_end s (x + length_at s x) xs end w.1.1

pub whole_starts : (s : List ℕ) (at : ℕ) (xs : List ℕ) → Whole s at xs → starts s at ≡ xs
whole_starts s at xs w = stand_starts s at xs (length s) w (past_bad s (length s) (omega arith))

-- the first record of which p holds

module _ (p : ℕ → Bool) (s : List ℕ) (at : ℕ) where
  pub first_none : record_ok s at ≡ false → None ≡ first_record s at p
  unfolding first_record find
  first_none e = rw (starts_none s at e)

  pub first_here : record_ok s at ≡ true → p at ≡ true → Some at ≡ first_record s at p
  unfolding first_record find
  first_here f e = rw (starts_record s at f, e)

  pub first_next : record_ok s at ≡ true → p at ≡ false → first_record s at p ≡ first_record s (at + length_at s at) p
  unfolding first_record find
  first_next f e = rw (starts_record s at f, e)

-- the extents of a whole chain: within the file, increasing and disjoint

pub record Extent (s : List ℕ) (at x : ℕ) : Type 0 where
  pub behind : at ≤ x
  pub ok : record_ok s x ≡ true
  pub inside : x + length_at s x ≤ length s

pub whole_extent : (s : List ℕ) (at : ℕ) (xs : List ℕ) → Whole s at xs → {x : ℕ} → Memᴰ x xs → Extent s at x
whole_extent s at [] w m = absurd (Memᴰ.not-nil m)
whole_extent s at (y ∷ ys) w {x} m = ⊎_elim here (λ n. there (whole_extent s (y + length_at s y) ys w.1.1 n)) (Memᴰ.cases_cons m)
  where
    here : x ≡ y → Extent s at x
    here e =
        let o = ok_means s y w.1.0 in
        rw e (record { behind = omega (arith, w.0); ok = w.1.0; inside = o.inside })

    there : Extent s (y + length_at s y) x → Extent s at x
    there r = record { behind = omega (arith, w.0, r.behind); ok = r.ok; inside = r.inside }

-- two records of a whole chain are one, or one ends before the other starts
pub whole_apart :
    (s : List ℕ) (at : ℕ) (xs : List ℕ) → Whole s at xs → {x y : ℕ} → Memᴰ x xs → Memᴰ y xs →
    (x ≡ y) ⊎ ((x + length_at s x ≤ y) ⊎ (y + length_at s y ≤ x))
whole_apart s at [] w m n = absurd (Memᴰ.not-nil m)
whole_apart s at (z ∷ zs) w {x} {y} m n =
    ⊎_elim
    (λ e. ⊎_elim (λ f. inl (e ∙ sym f)) (λ k. inr (inl (rw e (whole_extent s _ zs w.1.1 k).behind))) (Memᴰ.cases_cons n))
    (λ j.
    ⊎_elim (λ f. inr (inr (rw f (whole_extent s _ zs w.1.1 j).behind))) (λ k. whole_apart s (z + length_at s z) zs w.1.1 j k)
    (Memᴰ.cases_cons n))
    (Memᴰ.cases_cons m)

-- a chain that is put together from well-formed records is whole

module _ (a r b : List ℕ) (ok : record_ok r 0 ≡ true) (all : length_at r 0 ≡ length r) where
  pub placed_length : length_at (a ++ (r ++ b)) (length a) ≡ length r
  placed_length =
      let o = ok_means r 0 ok in
      let z : length a ≡ length a + 0 = omega arith in
      ap (λ (x : ℕ). length_at (a ++ (r ++ b)) x) z ∙ number_behind 4 a (r ++ b) 0 ∙ number_before 4 r b 0 (omega arith) ∙ all

  pub placed_type : type_at (a ++ (r ++ b)) (length a) ≡ type_at r 0
  placed_type =
      let o = ok_means r 0 ok in
      byte_behind a (r ++ b) 4 ∙ byte_before r b 4 (omega arith)

  pub placed_ok : record_ok (a ++ (r ++ b)) (length a) ≡ true
  placed_ok =
      let o = ok_means r 0 ok in
      let n = placed_length in
      let k = placed_type in
      means_ok _ _
      (record {
        long = omega (arith, o.long);
        plain = omega (arith, o.plain);
        eights = rw (n, ← all) o.eights;
        inside = rw n (simp length-append (omega arith));
        known = omega (arith, o.known);
      })

pub joined_whole : (a : List ℕ) (rs : List (List ℕ)) → WellFormed rs → Whole (a ++ joined rs) (length a) (starts_of (length a) rs)
joined_whole a [] w = simp append-nil
joined_whole a (r ∷ rs) w =
    let n : length a + length_at (a ++ (r ++ joined rs)) (length a) ≡ length (a ++ r) =
    rw (placed_length a r (joined rs) w.0.0 w.0.1) (sym (length-append a r)) in
    let m : length a + length r ≡ length (a ++ r) = sym (length-append a r) in
    let t : Whole (a ++ (r ++ joined rs)) (length (a ++ r)) (starts_of (length (a ++ r)) rs) =
    rw append_assoc at (joined_whole (a ++ r) rs w.1) in
    (refl, (placed_ok a r (joined rs) w.0.0 w.0.1, rw (n, m) t))

pub starts_append :
    (at : ℕ) (rs qs : List (List ℕ)) → starts_of at (rs ++ qs) ≡ starts_of at rs ++ starts_of (at + length (joined rs)) qs
starts_append at [] qs = let e : at + 0 ≡ at = omega arith in rw e
starts_append at (r ∷ rs) qs =
    let e : at + length r + length (joined rs) ≡ at + length (r ++ joined rs) = rw length-append (omega arith) in
    ap (λ (l : List ℕ). at ∷ l) (starts_append (at + length r) rs qs ∙ rw e)
