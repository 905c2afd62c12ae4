-- Stages: what is said of them has their verdict and names a rule. Assumes nothing.
use mathlib.Core.Path.{◌≡◌, refl, sym, ap, ◌∙◌}
use mathlib.Core.List.{List, [], ◌∷◌}
use mathlib.Core.Bool.{Bool, true, false}
use Rattle.wire.proofs.TestLaws.{not_both}
use Rattle.answer.specs.declared.Refusal.{Refusal}
use Rattle.answer.specs.Refusals.{gate}
use Rattle.reasons.specs.declared.Fault.{Fault}
use Rattle.reasons.specs.declared.Explanation.{Explanation}
use Rattle.reasons.specs.Rows.{keeps, first_failing, Reason}
use Rattle.reasons.specs.Stages.{Stage, refused_by, explained, verdict_of, verdict_by, all_rows, NamedBy, ExplainsAll, Explained, explanation}
use Rattle.reasons.proofs.ReasonLaws.{keeps_none, keeps_joined, keeps_by, keeps_not, named_first}
use Rattle.std.specs.Prelude.{Ok, Err}

pub refusal_kept : (r : Refusal) (a : Reason) (behind : Explained) → a ≡ Ok tt → refused_by r a behind ≡ behind
unfolding refused_by
refusal_kept r a behind e = rw e refl

pub refusal_broken : (r : Refusal) (a : Reason) (behind : Explained) (x : Fault) → a ≡ Err x → refused_by r a behind ≡ Err (explanation r x)
unfolding refused_by
refusal_broken r a behind x e = rw e refl

-- a stage that is passed, and one that stops
pub answer_kept : (r : Refusal) (a : Reason) (behind : Explained) → refused_by r a (Ok tt) ≡ Ok tt → refused_by r a behind ≡ behind
unfolding refused_by
answer_kept r (Ok kept) behind e = refl
answer_kept r (Err x) behind e = cc

pub answer_broken : (r : Refusal) (a : Reason) (behind : Explained) (x : Explanation) → refused_by r a (Ok tt) ≡ Err x → refused_by r a behind ≡ Err x
unfolding refused_by
answer_broken r (Ok kept) behind x e = cc
answer_broken r (Err y) behind x e = e

pub explained_none : explained [] ≡ Ok tt
unfolding explained
explained_none = refl

pub explained_more : (g : Stage) (gs : List Stage) → explained (g ∷ gs) ≡ refused_by g.refusal (first_failing g.rows) (explained gs)
unfolding explained
explained_more g gs = refl

-- what a chain of stages answers
pub ruleset stages = (explained_none, explained_more, answer_kept, answer_broken)

pub stage_passed : (g : Stage) (gs : List Stage) → first_failing g.rows ≡ Ok tt → explained (g ∷ gs) ≡ explained gs
stage_passed g gs e = explained_more g gs ∙ refusal_kept _ _ _ e

pub stage_stopped : (g : Stage) (gs : List Stage) (x : Fault) → first_failing g.rows ≡ Err x → explained (g ∷ gs) ≡ Err (explanation g.refusal x)
stage_stopped g gs x e = explained_more g gs ∙ refusal_broken _ _ _ x e

gate_open : (g : Stage) (gs : List Stage) → keeps g.rows ≡ true → verdict_by (g ∷ gs) ≡ verdict_by gs
unfolding verdict_by gate
gate_open g gs e = rw e refl

gate_shut : (g : Stage) (gs : List Stage) (x : Fault) → keeps g.rows ≡ false → verdict_of (Err (explanation g.refusal x)) ≡ verdict_by (g ∷ gs)
unfolding verdict_by verdict_of gate
gate_shut g gs x e = rw e refl

rows_none : keeps (all_rows []) ≡ true
unfolding all_rows
rows_none = keeps_none

rows_more : (g : Stage) (gs : List Stage) → keeps g.rows ≡ true → keeps (all_rows gs) ≡ true → keeps (all_rows (g ∷ gs)) ≡ true
unfolding all_rows
rows_more g gs p q = keeps_joined g.rows (all_rows gs) ∙ rw p q

verdict_none : verdict_of (explained []) ≡ verdict_by []
unfolding verdict_of explained verdict_by
verdict_none = refl

pub verdict_told : (l : List Stage) → verdict_of (explained l) ≡ verdict_by l
verdict_told [] = verdict_none
verdict_told (g ∷ gs) = go (first_failing g.rows) refl (verdict_told gs)
  where
    go : (r : Reason) → first_failing g.rows ≡ r → verdict_of (explained gs) ≡ verdict_by gs → verdict_of (explained (g ∷ gs)) ≡ verdict_by (g ∷ gs)
    go (Ok kept) e h = ap verdict_of (stage_passed g gs e) ∙ h ∙ sym (gate_open g gs (keeps_by _ e))
    go (Err x) e h = ap verdict_of (stage_stopped g gs x e) ∙ gate_shut g gs x (keeps_not _ x e)

abbrev refusal_in_lem : Explained → Refusal → Refusal
refusal_in_lem (Ok accepted) r = r
refusal_in_lem (Err z) r = z.refusal

abbrev fault_in_lem : Explained → Fault → Fault
fault_in_lem (Ok accepted) y = y
fault_in_lem (Err z) y = z.fault

abbrev is_refused_lem : Explained → Bool
is_refused_lem (Ok accepted) = false
is_refused_lem (Err z) = true

behind : (g : Stage) (gs : List Stage) (r : Refusal) (x : Fault) → keeps g.rows ≡ true → NamedBy gs r x → NamedBy (g ∷ gs) r x
behind g gs r x e n =
    record {
      before = g ∷ n.before;
      at = n.at;
      after = n.after;
      whole = ap (λ (m : List Stage). g ∷ m) n.whole;
      kept = rows_more g n.before e n.kept;
      refusal = n.refusal;
      named = n.named;
    }

pub named_by : (l : List Stage) (r : Refusal) (x : Fault) → explained l ≡ Err (explanation r x) → NamedBy l r x
named_by [] r x e = not_both refl (ap is_refused_lem (sym e ∙ explained_none))
named_by (g ∷ gs) r x e = go (first_failing g.rows) refl (named_by gs r x)
  where
    go : (a : Reason) → first_failing g.rows ≡ a → (explained gs ≡ Err (explanation r x) → NamedBy gs r x) → NamedBy (g ∷ gs) r x
    go (Ok kept) p h = behind g gs r x (keeps_by _ p) (h (sym (stage_passed g gs p) ∙ e))
    go (Err y) p h =
        let q : Err (explanation g.refusal y) ≡ Err (explanation r x) = sym (stage_stopped g gs y p) ∙ e in
        record {
          before = [];
          at = g;
          after = gs;
          whole = refl;
          kept = rows_none;
          refusal = ap (λ (z : Explained). refusal_in_lem z r) q;
          named = named_first g.rows x (p ∙ ap Err (ap (λ (z : Explained). fault_in_lem z y) q));
        }

pub all_kept : (l : List Stage) → explained l ≡ Ok tt → keeps (all_rows l) ≡ true
all_kept [] e = rows_none
all_kept (g ∷ gs) e = go (first_failing g.rows) refl (all_kept gs)
  where
    go : (a : Reason) → first_failing g.rows ≡ a → (explained gs ≡ Ok tt → keeps (all_rows gs) ≡ true) → keeps (all_rows (g ∷ gs)) ≡ true
    go (Ok kept) p h = rows_more g gs (keeps_by _ p) (h (sym (stage_passed g gs p) ∙ e))
    go (Err y) p h = not_both refl (ap is_refused_lem (sym (stage_stopped g gs y p) ∙ e))

pub explains_all : ExplainsAll
explains_all l = record { verdict = verdict_told l; names = named_by l; all = all_kept l }
