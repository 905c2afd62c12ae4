-- The entries of a log as calls. Assumes nothing.
use Rattle.std.specs.Prelude.{Result}
use Rattle.answer.specs.declared.Refusal.{Refusal}
use Prim.Native.Nat.{ℕ, zero, suc, ◌+◌, ◌≤◌, ◌<◌}
use native.Mathlib.Omega.{arith}
use mathlib.Core.Path.{◌≡◌, refl, sym, ap, ap₂, ◌∙◌}
use mathlib.Core.List.{List, [], ◌∷◌, map}
use mathlib.Core.Bool.{Bool, true, false}
use lib.ListN.{length}
use Rattle.wire.specs.Pick.{pick}
use Rattle.wire.specs.Bytes.{Bytes, part}
use Rattle.wire.proofs.ByteLaws.{bytes_part, part_length}
use Rattle.wire.proofs.TestLaws.{means}
use Rattle.correction_logs.specs.Log.{is_store, entry_tile, entry_cells, end_of_entry, entry_right, entries_go, entries_from}
use Rattle.correction_logs.proofs.LogLaws.{end_stored, from_right, from_end, right_ends}
use Rattle.writable.specs.Writable.{open_for_writing}
use Rattle.correct.specs.Calls.{Call, Given, AllGiven, kind_of, change_on, answer_by, stopped_by}
use Rattle.effects.specs.Effects.{Wants, CallMakes}
use Rattle.effects.proofs.StoreEffects.{store_makes, remove_makes}
use Rattle.lawful.specs.Lawful.{Leaves}
use Rattle.replay.specs.Entries.{call_at, calls_from}
use Rattle.replay.specs.ByHand.{Entry, Entries}

-- which call an entry is

module _ (t : ℕ) (log : List ℕ) (p : ℕ) {b : Bool} (e : b ≡ is_store log p) where
  pub call_stores : b ≡ true → Call.Storing (entry_tile log p) (entry_cells t log p) ≡ call_at t log p
  unfolding call_at
  call_stores f = rw (sym e ∙ f)

  pub call_removes : b ≡ false → Call.Removing (entry_tile log p) ≡ call_at t log p
  unfolding call_at
  call_removes f = rw (sym e ∙ f)

-- what a call without a check does, as the entry's
module _ (d : List ℕ) (n k : ℕ) {a : Result ℕ Refusal} {l : List ℕ} {x y : Call} (e : x ≡ y) where
  pub called :
      a ≡ answer_by (change_on x d n) → l ≡ stopped_by k (change_on x d n) d → (a ≡ answer_by (change_on y d n)) × (l ≡ stopped_by k (change_on y d n) d)
  called f g = (f ∙ ap (λ (z : Call). answer_by (change_on z d n)) e, g ∙ ap (λ (z : Call). stopped_by k (change_on z d n) d) e)

pub stores_entry :
    (t : ℕ) (log : List ℕ) (p : ℕ) {b : Bool} {i : ℕ} {c : List ℕ} → b ≡ is_store log p → b ≡ true → i ≡ entry_tile log p → c ≡ entry_cells t log p →
    Call.Storing i c ≡ call_at t log p
stores_entry t log p e f g h = ap₂ Call.Storing g h ∙ call_stores t log p e f

pub removes_entry :
    (t : ℕ) (log : List ℕ) (p : ℕ) {b : Bool} {i : ℕ} → b ≡ is_store log p → b ≡ false → i ≡ entry_tile log p → Call.Removing i ≡ call_at t log p
removes_entry t log p e f g = ap Call.Removing g ∙ call_removes t log p e f

-- it stores or removes, and is what a caller can give

module _ (t : ℕ) (log : List ℕ) (p : ℕ) where
  pub call_entry : Entry (call_at t log p)
  unfolding call_at
  call_entry = go (is_store log p)
    where
      go : (b : Bool) → Entry (pick b (Call.Storing (entry_tile log p) (entry_cells t log p)) (Call.Removing (entry_tile log p)))
      go true = tt
      go false = tt

  pub call_given : Bytes log → Given (call_at t log p)
  unfolding call_at entry_cells
  call_given v = go (is_store log p)
    where
      go : (b : Bool) → Given (pick b (Call.Storing (entry_tile log p) (part log (p + 5) t)) (Call.Removing (entry_tile log p)))
      go true = bytes_part (p + 5) t v
      go false = tt

pub all_entries : (t : ℕ) (log : List ℕ) (xs : List ℕ) → Entries (map (call_at t log) xs)
all_entries t log [] = tt
all_entries t log (x ∷ xs) = (call_entry t log x, all_entries t log xs)

pub all_given : (t : ℕ) (log : List ℕ) → Bytes log → (xs : List ℕ) → AllGiven (map (call_at t log) xs)
all_given t log v [] = tt
all_given t log v (x ∷ xs) = (call_given t log x v, all_given t log v xs)

-- of a tile, with as many bytes as it has

abbrev pub RightOf : ℕ → ℕ → Call → Type 0
RightOf m t (Call.Opening u) = ⊥
RightOf m t (Call.Storing i c) = (i < m) × (length c ≡ t)
RightOf m t (Call.Removing i) = i < m
RightOf m t (Call.Closing u) = ⊥
RightOf m t (Call.Squeezing ps) = ⊥

abbrev pub AllRight : ℕ → ℕ → List Call → Type 0
AllRight m t [] = Unit {0}
AllRight m t (call ∷ calls) = RightOf m t call × AllRight m t calls

module _ (m t : ℕ) (log : List ℕ) where
  right_call : (p : ℕ) → entry_right m t log p ≡ true → RightOf m t (call_at t log p)
  unfolding call_at entry_right entry_cells
  right_call p r =
      let i = (means _ r).1.0 in
      let h = right_ends m t log p r in
      go (is_store log p) refl (omega arith) (λ e. part_length log (p + 5) t (omega (arith, end_stored t log p refl e)))
    where
      go :
          (b : Bool) → is_store log p ≡ b → entry_tile log p < m → (is_store log p ≡ true → length (part log (p + 5) t) ≡ t) →
          RightOf m t (pick b (Call.Storing (entry_tile log p) (part log (p + 5) t)) (Call.Removing (entry_tile log p)))
      go true e h f = (h, f e)
      go false e h f = h

  right_go : (k p : ℕ) → AllRight m t (map (call_at t log) (entries_go k m t log p))
  unfolding entries_go
  right_go zero p = tt
  right_go (suc k) p = go (entry_right m t log p) refl (right_go k (end_of_entry t log p))
    where
      go :
          (b : Bool) → entry_right m t log p ≡ b → AllRight m t (map (call_at t log) (entries_go k m t log (end_of_entry t log p))) →
          AllRight m t (map (call_at t log) (elim b [ true ↦ p ∷ entries_go k m t log (end_of_entry t log p) | false ↦ [] ]))
      go true e a = (right_call p e, a)
      go false e a = tt

  pub calls_right : (p : ℕ) → AllRight m t (calls_from m t log p)
  unfolding calls_from entries_from
  calls_right p = right_go (length log) p

  pub calls_given : Bytes log → (p : ℕ) → AllGiven (calls_from m t log p)
  unfolding calls_from
  calls_given v p = all_given t log v (entries_from m t log p)

  pub calls_entries : (p : ℕ) → Entries (calls_from m t log p)
  unfolding calls_from
  calls_entries p = all_entries t log (entries_from m t log p)

  -- one behind the other

  pub calls_none : (p : ℕ) → length log ≤ p → calls_from m t log p ≡ []
  unfolding calls_from
  calls_none p h = ap (map (call_at t log)) (from_end m t log p h)

  pub calls_next : (p : ℕ) → entry_right m t log p ≡ true → calls_from m t log p ≡ call_at t log p ∷ calls_from m t log (end_of_entry t log p)
  unfolding calls_from
  calls_next p r = ap (map (call_at t log)) (from_right m t log p r)

-- what such a call wants, makes and leaves

pub entry_wants : (call : Call) → Entry call → (s : List ℕ) → open_for_writing s ≡ true → Wants (kind_of call).role s
entry_wants (Call.Opening t) n s o = absurd n
entry_wants (Call.Storing i c) n s o = o
entry_wants (Call.Removing i) n s o = o
entry_wants (Call.Closing t) n s o = absurd n
entry_wants (Call.Squeezing ps) n s o = absurd n

pub entry_makes : (call : Call) → Entry call → CallMakes call
entry_makes (Call.Opening t) n = absurd n
entry_makes (Call.Storing i c) n = store_makes i c
entry_makes (Call.Removing i) n = remove_makes i
entry_makes (Call.Closing t) n = absurd n
entry_makes (Call.Squeezing ps) n = absurd n

pub entry_leaves : (call : Call) → Entry call → (s : List ℕ) → Leaves (kind_of call).role s → open_for_writing s ≡ true
entry_leaves (Call.Opening t) n s l = absurd n
entry_leaves (Call.Storing i c) n s l = l
entry_leaves (Call.Removing i) n s l = l
entry_leaves (Call.Closing t) n s l = absurd n
entry_leaves (Call.Squeezing ps) n s l = absurd n
