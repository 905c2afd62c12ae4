-- Stage 9: a loop over the cursor that asks the rows of each record of a type, with its number among them. Assumes nothing.
use Prim.Native.Nat.{ℕ, ◌+◌, ◌≤◌, ◌<◌}
use mathlib.Core.Path.{◌≡◌, refl, sym, ap, ◌∙◌}
use mathlib.Core.Logic.{◌⊎◌}
use mathlib.Core.List.{List, [], ◌∷◌, Memᴰ}
use mathlib.Core.Bool.{true, false}
use native.Mathlib.Omega.{arith}
use lib.ListN.{length}
use lib.Dec.{eqb}
use denote.Enum.Declared.{tag_of}
use borrow.Author.Tests.{eq-eqb, ne_eqb}
use Rattle.wire.specs.Lists.{select}
use Rattle.record.specs.declared.Cursor.{Cursor}
use Rattle.record.specs.declared.Step.{Step}
use Rattle.record.specs.declared.Step.TheVariants.{Record}
use Rattle.record.specs.Record.{type_at, length_at, record_ok, step_at}
use Rattle.record.specs.Chain.{starts, header_end, records, records_of}
use Rattle.record.proofs.ChainLaws.{stepped, starts_none, starts_record}
use Rattle.record.proofs.SeekLaws.{over}
use Rattle.record.specs.contracts.Step.{the_type}
use Rattle.reasons.specs.declared.Fault.{Fault}
use Rattle.std.specs.Prelude.{Ok, Err}
use Rattle.reasons.specs.Rows.{Row, Reason, or_else, first_failing}
use Rattle.reasons.proofs.ReasonLaws.{or_kept, or_broken, first_none, first_joined}
use Rattle.explain.specs.DirectoryRows.{rows_over}
use Rattle.explain.specs.Asked.{Asks, Tells}

-- those of the type from a position on
unfoldable pub among : List ℕ → ℕ → ℕ → List ℕ
among s kind at = select (λ x. eqb (type_at s x) kind) (starts s at)

among_all : (s : List ℕ) (kind : ℕ) → among s kind (header_end s) ≡ records_of s kind
unfolding among records_of records
among_all s kind = refl

among_here : (s : List ℕ) (kind at : ℕ) → record_ok s at ≡ true → type_at s at ≡ kind → among s kind at ≡ at ∷ among s kind (at + length_at s at)
unfolding among select
among_here s kind at o e = rw (starts_record s at o, eq-eqb (type_at s at) kind e)

among_pass : (s : List ℕ) (kind at : ℕ) → record_ok s at ≡ true → (type_at s at ≡ kind → ⊥) → among s kind at ≡ among s kind (at + length_at s at)
unfolding among select
among_pass s kind at o e = rw (starts_record s at o, ne_eqb (type_at s at) kind e)

among_none : (s : List ℕ) (kind at : ℕ) → record_ok s at ≡ false → among s kind at ≡ []
unfolding among select
among_none s kind at h = rw (starts_none s at h)

over_none : (f : ℕ → ℕ → List Row) (k : ℕ) → first_failing (rows_over f k []) ≡ Ok tt
unfolding rows_over
over_none f k = first_none

over_more : (f : ℕ → ℕ → List Row) (k x : ℕ) (xs : List ℕ) → first_failing (rows_over f k (x ∷ xs)) ≡ or_else (first_failing (f k x)) (first_failing (rows_over f (k + 1) xs))
unfolding rows_over
over_more f k x xs = first_joined (f k x) (rows_over f (k + 1) xs)

-- what is left to look at has the same answer
pub record Asking (f : ℕ → ℕ → List Row) (s : List ℕ) (kind k at : ℕ) : Type 0 where
  pub same : first_failing (rows_over f k (among s kind at)) ≡ first_failing (rows_over f 0 (records_of s kind))
  pub few : k ≤ at

pub ask_begin : {f : ℕ → ℕ → List Row} {s : List ℕ} {kind at : ℕ} → at ≡ header_end s → Asking f s kind 0 at
ask_begin {f} {s} {kind} {at} e =
    record { same = ap (λ (l : List ℕ). first_failing (rows_over f 0 l)) (ap (λ (x : ℕ). among s kind x) e ∙ among_all s kind); few = omega arith }

module _
    {f : ℕ → ℕ → List Row} {s : List ℕ} {kind k at own st n : ℕ} {nx : Cursor} {x : Step} (i : Asking f s kind k at)
    (u : x ≡ Record own st n nx) (v : x ≡ step_at s at)
  where
    pub ask_room : k < length s
    ask_room = let h = stepped u v in omega (arith, i.few, h.before_end)

    pub ask_stay : (own ≡ kind → ⊥) → Asking f s kind k nx.at
    ask_stay e =
        let h = stepped u v in
        let a = among_pass s kind at h.ok (λ z. e (h.kind ∙ rw h.start z)) in
        record {
          same = rw h.next (ap (λ (l : List ℕ). first_failing (rows_over f k l)) (sym a) ∙ i.same);
          few = omega (arith, h.next, i.few, h.is.long);
        }

    module _ {a : Reason} (t : own ≡ kind) (q : a ≡ first_failing (f k st)) where
      here : first_failing (f k at) ≡ a
      here = let h = stepped u v in rw (← h.start) (sym q)

      left : among s kind at ≡ at ∷ among s kind (at + length_at s at)
      left = let h = stepped u v in among_here s kind at h.ok (rw (← h.start) (sym h.kind ∙ t))

      pub ask_next : a ≡ Ok tt → Asking f s kind (k + 1) nx.at
      ask_next e =
          let h = stepped u v in
          record {
            same =
                rw h.next
                (sym (over_more f k at _ ∙ or_kept _ _ (here ∙ e)) ∙ ap (λ (l : List ℕ). first_failing (rows_over f k l)) (sym left) ∙ i.same);
            few = omega (arith, h.next, i.few, h.is.long);
          }

      pub ask_found : {y : Fault} → a ≡ Err y → Err y ≡ first_failing (rows_over f 0 (records_of s kind))
      ask_found {y} e =
          sym (over_more f k at _ ∙ or_broken _ _ y (here ∙ e)) ∙ ap (λ (l : List ℕ). first_failing (rows_over f k l)) (sym left) ∙ i.same

pub ask_over :
    {f : ℕ → ℕ → List Row} {s : List ℕ} {kind k at : ℕ} {x : Step} → Asking f s kind k at → x ≡ step_at s at →
    (tag_of the_type x ≡ 1) ⊎ (tag_of the_type x ≡ 2) → Ok tt ≡ first_failing (rows_over f 0 (records_of s kind))
ask_over {f} {s} {kind} {k} {at} {x} i v t =
    sym (over_none f k) ∙ ap (λ (l : List ℕ). first_failing (rows_over f k l)) (sym (among_none s kind at (over s at x v t))) ∙ i.same

-- where the rows are those that a closure's answers tell

pub asked : (s : List ℕ) (at : ℕ) {k own st n : ℕ} {nx : Cursor} {x : Step} (p : ℕ → ℕ → Type 0) → Asks s p → k ≤ at → x ≡ Record own st n nx → x ≡ step_at s at → p k st
asked s at p a i u v = let h = stepped u v in a _ _ (omega (arith, i, h.start)) (omega (arith, h.start, h.before_end))

pub record Told (s : List ℕ) (post : ℕ → ℕ → Reason → Type 0) (kind k at : ℕ) : Type 0 where
  pub so_far : (f : ℕ → ℕ → List Row) → Tells s post f → Asking f s kind k at
  pub few : k ≤ at

pub told_begin : {s : List ℕ} {post : ℕ → ℕ → Reason → Type 0} {kind at : ℕ} → at ≡ header_end s → Told s post kind 0 at
told_begin e = record { so_far = λ f d. ask_begin e; few = omega arith }

module _
    {s : List ℕ} {post : ℕ → ℕ → Reason → Type 0} {kind k at own st n : ℕ} {nx : Cursor} {x : Step} (i : Told s post kind k at)
    (u : x ≡ Record own st n nx) (v : x ≡ step_at s at)
  where
    pub told_room : k < length s
    told_room = let h = stepped u v in omega (arith, i.few, h.before_end)

    pub told_stay : (own ≡ kind → ⊥) → Told s post kind k nx.at
    told_stay e =
        let h = stepped u v in
        record { so_far = λ f d. ask_stay (i.so_far f d) u v e; few = omega (arith, h.next, i.few, h.is.long) }

    module _ {a : Reason} (t : own ≡ kind) (q : post k st a) where
      said : (f : ℕ → ℕ → List Row) → Tells s post f → a ≡ first_failing (f k st)
      said f d = let h = stepped u v in d k st (omega (arith, i.few, h.start)) (omega (arith, h.start, h.before_end)) a q

      pub told_next : a ≡ Ok tt → Told s post kind (k + 1) nx.at
      told_next e =
          let h = stepped u v in
          record { so_far = λ f d. ask_next (i.so_far f d) u v t (said f d) e; few = omega (arith, h.next, i.few, h.is.long) }

      pub told_found :
          {y : Fault} → a ≡ Err y → (f : ℕ → ℕ → List Row) → Tells s post f → Err y ≡ first_failing (rows_over f 0 (records_of s kind))
      told_found e f d = ask_found (i.so_far f d) u v t (said f d) e

pub told_over :
    {s : List ℕ} {post : ℕ → ℕ → Reason → Type 0} {kind k at : ℕ} {x : Step} → Told s post kind k at → x ≡ step_at s at →
    (tag_of the_type x ≡ 1) ⊎ (tag_of the_type x ≡ 2) → (f : ℕ → ℕ → List Row) → Tells s post f →
    Ok tt ≡ first_failing (rows_over f 0 (records_of s kind))
told_over i v t f d = ask_over (i.so_far f d) v t

-- rows of which the same is said of each record say the same
pub over_same :
    (f g : ℕ → ℕ → List Row) (xs : List ℕ) → ((k x : ℕ) → Memᴰ x xs → first_failing (f k x) ≡ first_failing (g k x)) → (k : ℕ) →
    first_failing (rows_over f k xs) ≡ first_failing (rows_over g k xs)
over_same f g [] e k = over_none f k ∙ sym (over_none g k)
over_same f g (x ∷ xs) e k =
    let r = over_same f g xs (λ j y m. e j y (Memᴰ.tail m)) (k + 1) in
    over_more f k x xs
    ∙ ap (λ (a : Reason). or_else a (first_failing (rows_over f (k + 1) xs))) (e k x (Memᴰ.head refl))
    ∙ ap (or_else (first_failing (g k x))) r ∙ sym (over_more g k x xs)
