-- The walk over a log's entries. Assumes nothing.
use Prim.Native.Nat.{ℕ, zero, suc, ◌+◌, ◌-◌, ◌≤◌, ◌<◌, min}
use native.Mathlib.Omega.{arith}
use mathlib.Core.Path.{◌≡◌, refl, sym, ap, ◌∙◌}
use mathlib.Core.List.{List, [], ◌∷◌}
use mathlib.Core.Bool.{Bool, true, false}
use lib.ListN.{length}
use lib.Dec.{eqb}
use borrow.Author.Tests.{eq-eqb, ne_eqb}
use Rattle.wire.specs.Bytes.{byte_at, part}
use Rattle.wire.specs.Big.{big_at}
use Rattle.wire.proofs.TestLaws.{means, yes, no, not_both}
use Rattle.wire.proofs.ByteLaws.{part_out}
use Rattle.wire.proofs.BigLaws.{big_out}
use Rattle.correction_logs.specs.Log.{is_store, entry_tile, entry_cells, end_of_entry, entry_whole, entry_right, entries_go, entries_from, entries_end, log_right}

-- an entry

pub store_is : (log : List ℕ) (p k : ℕ) → k ≡ byte_at log p → eqb k 1 ≡ is_store log p
unfolding is_store
store_is log p k e = rw e

pub tile_is : (log : List ℕ) (p i : ℕ) → i ≡ big_at 4 log (p + 1) → i ≡ entry_tile log p
unfolding entry_tile
tile_is log p i e = e

pub tile_out : (log : List ℕ) (p : ℕ) → length log ≤ p → 0 ≡ entry_tile log p
tile_out log p h = tile_is log p 0 (big_out 4 log (p + 1) (omega arith))

pub cells_are : (t : ℕ) (log : List ℕ) (p : ℕ) {c : List ℕ} → c ≡ part log (p + 5) t → c ≡ entry_cells t log p
unfolding entry_cells
cells_are t log p e = e

pub cells_out : (t : ℕ) (log : List ℕ) (p : ℕ) → length log ≤ p → [] ≡ entry_cells t log p
cells_out t log p h = cells_are t log p (sym (part_out log (p + 5) t (omega arith)))

pub end_stored : (t : ℕ) (log : List ℕ) (p : ℕ) {b : Bool} → b ≡ is_store log p → b ≡ true → end_of_entry t log p ≡ p + 5 + t
unfolding end_of_entry
end_stored t log p e f = rw (sym e ∙ f)

pub end_removed : (t : ℕ) (log : List ℕ) (p : ℕ) {b : Bool} → b ≡ is_store log p → b ≡ false → end_of_entry t log p ≡ p + 5
unfolding end_of_entry
end_removed t log p e f = rw (sym e ∙ f) (omega arith)

pub end_store : (t : ℕ) (log : List ℕ) (p k : ℕ) → k ≡ byte_at log p → k ≡ 1 → end_of_entry t log p ≡ p + 5 + t
end_store t log p k e f = end_stored t log p (store_is log p k e) (eq-eqb k 1 f)

pub end_other : (t : ℕ) (log : List ℕ) (p k : ℕ) → k ≡ byte_at log p → (k ≡ 1 → ⊥) → end_of_entry t log p ≡ p + 5
end_other t log p k e f = end_removed t log p (store_is log p k e) (ne_eqb k 1 f)

pub end_least : (t : ℕ) (log : List ℕ) (p : ℕ) → p + 5 ≤ end_of_entry t log p
unfolding end_of_entry
end_least t log p = omega arith

-- or the log's end

pub end_short : (t : ℕ) (log : List ℕ) (p : ℕ) → length log < p + 5 → length log ≡ min (end_of_entry t log p) (length log)
end_short t log p h = omega (arith, end_least t log p)

module _ (t : ℕ) (log : List ℕ) (p : ℕ) {b : Bool} (e : b ≡ is_store log p) where
  pub end_cut : b ≡ true → length log < p + 5 + t → length log ≡ min (end_of_entry t log p) (length log)
  end_cut f h = omega (arith, end_stored t log p e f)

  pub end_whole : b ≡ true → p + 5 + t ≤ length log → p + 5 + t ≡ min (end_of_entry t log p) (length log)
  end_whole f h = omega (arith, end_stored t log p e f)

  pub end_index : b ≡ false → p + 5 ≤ length log → p + 5 ≡ min (end_of_entry t log p) (length log)
  end_index f h = omega (arith, end_removed t log p e f)

module _ (t : ℕ) (log : List ℕ) (p : ℕ) where
  pub whole_long : length log < end_of_entry t log p → false ≡ entry_whole t log p
  unfolding entry_whole
  whole_long h = no _ (λ a. let z = a.1.1.0 in omega arith)

  pub whole_short : length log < p + 5 → false ≡ entry_whole t log p
  whole_short h = whole_long (omega (arith, end_least t log p))

  pub whole_cut : (k : ℕ) → k ≡ byte_at log p → k ≡ 1 → length log < p + 5 + t → false ≡ entry_whole t log p
  whole_cut k e f h = whole_long (omega (arith, end_store t log p k e f))

  pub whole_kind : (k : ℕ) → k ≡ byte_at log p → (k ≡ 1 → ⊥) → (k ≡ 2 → ⊥) → false ≡ entry_whole t log p
  unfolding entry_whole
  whole_kind k e f g = no _ (λ a. none (byte_at log p) a.0 a.1.0 (λ z. f (e ∙ z)) (λ z. g (e ∙ z)))
    where
      none : (k : ℕ) → 1 ≤ k → k ≤ 2 → (k ≡ 1 → ⊥) → (k ≡ 2 → ⊥) → ⊥
      none k a b f g = omega arith

  pub whole_store : (k : ℕ) → k ≡ byte_at log p → k ≡ 1 → p + 5 + t ≤ length log → true ≡ entry_whole t log p
  unfolding entry_whole
  whole_store k e f h = yes _ (omega arith, (omega arith, (omega (arith, end_store t log p k e f), tt)))

  pub whole_remove : (k : ℕ) → k ≡ byte_at log p → (k ≡ 1 → ⊥) → k ≡ 2 → p + 5 ≤ length log → true ≡ entry_whole t log p
  unfolding entry_whole
  whole_remove k e z f h = yes _ (omega arith, (omega arith, (omega (arith, end_other t log p k e z), tt)))

module _ (m t : ℕ) (log : List ℕ) (p : ℕ) where
  pub entry_not : {b : Bool} → b ≡ entry_whole t log p → b ≡ false → false ≡ entry_right m t log p
  unfolding entry_right
  entry_not e f = no _ (λ a. not_both a.0 (sym e ∙ f))

  pub entry_past : (i : ℕ) → i ≡ entry_tile log p → m ≤ i → false ≡ entry_right m t log p
  unfolding entry_right
  entry_past i e h = no _ (λ a. let z = a.1.0 in omega arith)

  pub entry_yes : {b : Bool} (i : ℕ) → b ≡ entry_whole t log p → b ≡ true → i ≡ entry_tile log p → i < m → true ≡ entry_right m t log p
  unfolding entry_right
  entry_yes i e f g h = yes _ (sym e ∙ f, (omega arith, tt))

  pub right_ends : entry_right m t log p ≡ true → end_of_entry t log p ≤ length log
  unfolding entry_right entry_whole
  right_ends e = (means _ (means _ e).0).1.1.0

  pub right_end : (q : ℕ) → entry_right m t log p ≡ true → q ≡ min (end_of_entry t log p) (length log) → q ≡ end_of_entry t log p
  right_end q e f = omega (arith, right_ends e)

  entry_short : length log < p + 5 → false ≡ entry_right m t log p
  entry_short h = entry_not (whole_short t log p h) refl

-- the list unfolds without its fuel

module _ (m t : ℕ) (log : List ℕ) where
  go_none : (k p : ℕ) → entry_right m t log p ≡ false → entries_go k m t log p ≡ []
  unfolding entries_go
  go_none zero p e = refl
  go_none (suc k) p e = rw (entries_go, e)

  go_right : (k p : ℕ) → entry_right m t log p ≡ true → entries_go (suc k) m t log p ≡ p ∷ entries_go k m t log (end_of_entry t log p)
  unfolding entries_go
  go_right k p e = rw (entries_go, e)

  past_bad : (p : ℕ) → length log ≤ p → entry_right m t log p ≡ false
  past_bad p h = sym (entry_short m t log p (omega arith))

  go_enough : (j k p : ℕ) → length log ≤ p + j → length log ≤ p + k → entries_go j m t log p ≡ entries_go k m t log p
  go_enough zero k p a b = let e = past_bad p (omega arith) in go_none zero p e ∙ sym (go_none k p e)
  go_enough (suc j) zero p a b = let e = past_bad p (omega arith) in go_none (suc j) p e ∙ sym (go_none zero p e)
  go_enough (suc j) (suc k) p a b =
      go (entry_right m t log p) refl (go_enough j k (end_of_entry t log p) (omega (arith, end_least t log p)) (omega (arith, end_least t log p)))
    where
      go :
          (b : Bool) → entry_right m t log p ≡ b → entries_go j m t log (end_of_entry t log p) ≡ entries_go k m t log (end_of_entry t log p) →
          entries_go (suc j) m t log p ≡ entries_go (suc k) m t log p
      go true e r = go_right j p e ∙ ap (λ (l : List ℕ). p ∷ l) r ∙ sym (go_right k p e)
      go false e r = go_none (suc j) p e ∙ sym (go_none (suc k) p e)

  pub from_none : (p : ℕ) → entry_right m t log p ≡ false → entries_from m t log p ≡ []
  unfolding entries_from
  from_none p e = go_none (length log) p e

  pub from_right : (p : ℕ) → entry_right m t log p ≡ true → entries_from m t log p ≡ p ∷ entries_from m t log (end_of_entry t log p)
  unfolding entries_from
  from_right p e =
      let l = end_least t log p in
      go_enough (length log) (suc (length log)) p (omega arith) (omega arith) ∙ go_right (length log) p e

  -- where the walk stands

  abbrev ends : ℕ → ℕ
  ends p = entries_end t log p (entries_from m t log p)

  pub record Walks (p : ℕ) : Type 0 where
    pub inside : p ≤ length log
    pub same : ends 5 ≡ ends p

  pub walks_first : 5 ≤ length log → Walks 5
  walks_first h = record { inside = h; same = refl }

  pub walks_on : (p q : ℕ) → Walks p → true ≡ entry_right m t log p → q ≡ end_of_entry t log p → Walks q
  unfolding entries_end
  walks_on p q w e f =
      record {
        inside = rw f (right_ends m t log p (sym e));
        same = w.same ∙ ap (entries_end t log p) (from_right p (sym e)) ∙ rw f;
      }

  pub walks_less : (p q : ℕ) → p ≤ length log → true ≡ entry_right m t log p → q ≡ end_of_entry t log p → length log - q < length log - p
  walks_less p q h e f = let i = right_ends m t log p (sym e) in let j = end_least t log p in omega arith

  pub walks_all : (p : ℕ) → Walks p → length log ≤ p → ends 5 ≡ length log
  unfolding entries_end
  walks_all p w h =
      let q : p ≡ length log = omega (arith, w.inside) in
      w.same ∙ ap (entries_end t log p) (from_none p (past_bad p h)) ∙ q

  pub walks_bad : (p : ℕ) → Walks p → false ≡ entry_right m t log p → p < length log → ends 5 ≡ length log → ⊥
  unfolding entries_end
  walks_bad p w e h z =
      let q : ends 5 ≡ p = w.same ∙ ap (entries_end t log p) (from_none p (sym e)) in
      omega arith

  -- the log

  pub log_short : length log < 5 → false ≡ log_right m t log
  unfolding log_right
  log_short h = no _ (λ a. let z = a.0 in omega arith)

  pub log_length : (x : ℕ) → x ≡ big_at 4 log 0 → (x + 4 ≡ length log → ⊥) → false ≡ log_right m t log
  unfolding log_right
  log_length x e h = no _ (λ a. h (ap (λ (y : ℕ). y + 4) e ∙ a.1.0))

  pub log_version : (x : ℕ) → x ≡ byte_at log 4 → (x ≡ 1 → ⊥) → false ≡ log_right m t log
  unfolding log_right
  log_version x e h = no _ (λ a. h (e ∙ a.1.1.0))

  pub log_bad : (p : ℕ) → Walks p → false ≡ entry_right m t log p → p < length log → false ≡ log_right m t log
  unfolding log_right
  log_bad p w e h = no _ (λ a. walks_bad p w e h a.1.1.1.0)

  pub log_good : (p x y : ℕ) → Walks p → 5 ≤ length log → length log ≤ p → x ≡ big_at 4 log 0 → x + 4 ≡ length log → y ≡ byte_at log 4 → y ≡ 1 → true ≡ log_right m t log
  unfolding log_right
  log_good p x y w l h e f g k = yes _ (l, (ap (λ (z : ℕ). z + 4) (sym e) ∙ f, (sym g ∙ k, (walks_all p w h, tt))))

  -- of a right log

  pub walks_right : (p : ℕ) → Walks p → log_right m t log ≡ true → p < length log → entry_right m t log p ≡ true
  unfolding log_right
  walks_right p w r h = go (entry_right m t log p) refl
    where
      go : (b : Bool) → entry_right m t log p ≡ b → entry_right m t log p ≡ true
      go true e = e
      go false e = absurd (walks_bad p w (sym e) h (means _ r).1.1.1.0)

  pub right_least : log_right m t log ≡ true → 5 ≤ length log
  unfolding log_right
  right_least r = (means _ r).0

  pub from_end : (p : ℕ) → length log ≤ p → entries_from m t log p ≡ []
  from_end p h = from_none p (past_bad p h)
