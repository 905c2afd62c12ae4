-- A run of cells in numbers alone is what is counted over them. Assumes nothing.
use Rattle.std.specs.Prelude.{Result, Some, None, Option}
use Rattle.answer.specs.declared.Refusal.{Refusal}
use Prim.Native.Nat.{ℕ, suc, ◌+◌, ◌%◌, ◌^◌, ◌-◌, ◌≤◌, ◌<◌, min, max}
use mathlib.Core.Path.{◌≡◌, refl, sym, ap, ◌∙◌}
use mathlib.Core.Bool.{Bool, true, false, not}
use native.Mathlib.Omega.{arith}
use lib.IntN.{ℤ, pos, negsuc}
use lib.Dec.{leb, ltb, eqb}
use lib.Signed.{le_z, mag}
use mir.Syntax.{w16}
use mir.Val.{to_z, of_z, Fits, hbits}
use borrow.Author.Tests.{ltb-true, ltb-false, leb-true, leb-false, le-leb, lt-leb, eqb-true, eqb-false, eq-eqb, ne_eqb}
use Rattle.wire.specs.Pick.{pick}
use Rattle.wire.specs.Tests.{both, passes}
use Rattle.wire.proofs.TestLaws.{iff}
use Rattle.answer.specs.declared.Cell.{Cell}
use Rattle.answer.specs.Answers.{cell_kind, cell_bits}
use Rattle.answer.proofs.SignedLaws as signed
use Rattle.store.specs.Face.{most_grid_side}
use Rattle.blocks.specs.Tables.{Inside}
use Rattle.deeds.specs.declared.Rule.{Rule}
use Rattle.deeds.specs.declared.tally.Tally.{Tally}
use Rattle.deeds.specs.declared.tally.Run.{Run}
use Rattle.deeds.specs.Deeds.{is_fill, is_stored, minus_one, counts_as_fill, is_scored, score_of, lesser, score_within}
use Rattle.deeds.specs.Tallies.{fill_tally, cell_tally, join_tally, tally_in, rank_of, low_rank, high_rank, no_cells, with_bits, with_cell, score_at, certain_from, run_tally}
use Rattle.deeds.proofs.ScoreLaws.{kept, lesser_comm, scores, truths}
use Rattle.deeds.proofs.TallyLaws.{tally_same, tally_few, tally_none, tally_cell, tally_beside}

-- ranks are in the order of scores

rank_small : (b : ℕ) → rank_of b < 65536
unfolding rank_of
rank_small b = omega arith

rank_back : (b : ℕ) → b < 65536 → rank_of (rank_of b) ≡ b
unfolding rank_of
rank_back b h = omega arith

leb_same : (a b c d : ℕ) → (a ≤ b → c ≤ d) → (c ≤ d → a ≤ b) → leb a b ≡ leb c d
leb_same a b c d f g = iff _ _ (λ e. le-leb c d (f (leb-true a b e))) (λ e. le-leb a b (g (leb-true c d e)))

rank_up : (b : ℕ) → b < 32768 → rank_of b ≡ b + 32768
unfolding rank_of
rank_up b h = omega arith

rank_down : (b : ℕ) → 32768 ≤ b → b < 65536 → rank_of b + 32768 ≡ b
unfolding rank_of
rank_down b h k = omega arith

rank_order : (a b : ℕ) → a < 65536 → b < 65536 → le_z (to_z w16 a) (to_z w16 b) ≡ leb (rank_of a) (rank_of b)
rank_order a b h k = go (ltb a 32768) refl (ltb b 32768) refl
  where
    go : (u : Bool) → ltb a 32768 ≡ u → (v : Bool) → ltb b 32768 ≡ v → le_z (to_z w16 a) (to_z w16 b) ≡ leb (rank_of a) (rank_of b)
    go true p true q =
        let c = rank_up a (ltb-true a 32768 p) in
        let d = rank_up b (ltb-true b 32768 q) in
        rw (p, q) (leb_same a b (rank_of a) (rank_of b) (λ e. omega arith) (λ e. omega arith))
    go true p false q =
        let c = rank_up a (ltb-true a 32768 p) in
        let d = rank_down b (ltb-false b 32768 q) k in
        rw (p, q) (sym (lt-leb (rank_of a) (rank_of b) (omega arith)))
    go false p true q =
        let c = rank_down a (ltb-false a 32768 p) h in
        let d = rank_up b (ltb-true b 32768 q) in
        rw (p, q) (sym (le-leb (rank_of a) (rank_of b) (omega arith)))
    go false p false q =
        let c = rank_down a (ltb-false a 32768 p) h in
        let d = rank_down b (ltb-false b 32768 q) k in
        rw (p, q) (leb_same (65536 - suc b) (65536 - suc a) (rank_of a) (rank_of b) (λ e. omega arith) (λ e. omega arith))

-- the lower of two ranks has the lower score

below : (n : ℕ) → n ≤ 65536 → (n ≡ 65536 → ⊥) → n < 65536
below n h f = omega (arith, f)

abbrev score_if : Bool → ℕ → Option ℤ
score_if u n = pick u None (Some (to_z w16 (rank_of n)))

first_lower : (a b : ℕ) → a ≤ b → b ≤ 65536 → score_at a ≡ lesser (score_at a) (score_at b)
unfolding score_at lesser
first_lower a b h k = go (eqb a 65536) refl (eqb b 65536) refl
  where
    go :
        (u : Bool) → eqb a 65536 ≡ u → (v : Bool) → eqb b 65536 ≡ v →
        score_if (eqb a 65536) a ≡ lesser (score_if (eqb a 65536) a) (score_if (eqb b 65536) b)
    go true p true q = rw (p, q)
    go true p false q = let e = eqb-true a 65536 p in absurd (eqb-false b 65536 q (omega arith))
    go false p true q = rw (p, q)
    go false p false q =
        let c : b < 65536 = below b k (eqb-false b 65536 q) in
        let d : a < 65536 = omega arith in
        let e : le_z (to_z w16 (rank_of a)) (to_z w16 (rank_of b)) ≡ true =
        rank_order (rank_of a) (rank_of b) (rank_small a) (rank_small b) ∙ rw (rank_back a d, rank_back b c) (le-leb a b h) in
        rw (p, q, e)

score_lower : (a b : ℕ) → a ≤ 65536 → b ≤ 65536 → score_at (min a b) ≡ lesser (score_at a) (score_at b)
score_lower a b h k = go (leb a b) refl
  where
    go : (u : Bool) → leb a b ≡ u → score_at (min a b) ≡ lesser (score_at a) (score_at b)
    go true p =
        let l = leb-true a b p in
        let e : min a b ≡ a = omega arith in
        rw e (first_lower a b l k)
    go false p =
        let l = leb-false a b p in
        let e : min a b ≡ b = omega arith in
        rw e (first_lower b a (omega arith) h ∙ lesser_comm _ _)

-- two spans of ranks are certain together where both are

leb_min : (m a b : ℕ) → leb m (min a b) ≡ both (leb m a) (leb m b)
leb_min m a b = go (leb m a) refl (leb m b) refl
  where
    go : (u : Bool) → leb m a ≡ u → (v : Bool) → leb m b ≡ v → leb m (min a b) ≡ both (leb m a) (leb m b)
    go true p true q = rw (p, q) (le-leb m (min a b) (omega (arith, leb-true m a p, leb-true m b q)))
    go true p false q = rw (p, q) (lt-leb m (min a b) (omega (arith, leb-false m b q)))
    go false p v q = rw p (lt-leb m (min a b) (omega (arith, leb-false m a p)))

leb_max : (m a b : ℕ) → leb (max a b) m ≡ both (leb a m) (leb b m)
leb_max m a b = go (leb a m) refl (leb b m) refl
  where
    go : (u : Bool) → leb a m ≡ u → (v : Bool) → leb b m ≡ v → leb (max a b) m ≡ both (leb a m) (leb b m)
    go true p true q = rw (p, q) (le-leb (max a b) m (omega (arith, leb-true a m p, leb-true b m q)))
    go true p false q = rw (p, q) (lt-leb (max a b) m (omega (arith, leb-false b m q)))
    go false p v q = rw p (lt-leb (max a b) m (omega (arith, leb-false a m p)))

swap : (p q r s : Bool) → both (both p q) (both r s) ≡ both (both p r) (both q s)
swap true true r s = refl
swap true false true s = refl
swap true false false s = refl
swap false q r s = refl

certain_both : (rule : Rule) (a b c d : ℕ) → certain_from rule (min a b) (max c d) ≡ both (certain_from rule a c) (certain_from rule b d)
unfolding certain_from
certain_both rule a b c d =
    rw (leb_min (rank_of (of_z w16 rule.mark)) a b, leb_max (rank_of (of_z w16 rule.scale)) c d)
    (swap (leb (rank_of (of_z w16 rule.mark)) a) (leb (rank_of (of_z w16 rule.mark)) b) (leb c (rank_of (of_z w16 rule.scale))) (leb d (rank_of (of_z w16 rule.scale))))

-- no score
certain_none : (rule : Rule) → certain_from rule 65536 0 ≡ true
unfolding certain_from
certain_none rule =
    let n = rank_small (of_z w16 rule.mark) in
    rw (le-leb (rank_of (of_z w16 rule.mark)) 65536 (omega arith), le-leb 0 (rank_of (of_z w16 rule.scale)) (omega arith))

-- the score of 16 bits

abbrev bits_score : ℕ → Option ℤ
bits_score b = pick (eqb b 65535) None (Some (to_z w16 b))

bits_score_lem : (b : ℕ) → b < 65536 → score_at (low_rank b) ≡ bits_score b
unfolding score_at low_rank
bits_score_lem b h = go (eqb b 65535) refl
  where
    go : (u : Bool) → eqb b 65535 ≡ u → score_at (pick (eqb b 65535) 65536 (rank_of b)) ≡ bits_score b
    go true p = rw p
    go false p = rw p (rw (ne_eqb (rank_of b) 65536 (λ e. omega (arith, rank_small b)), rank_back b h))

low_small : (b : ℕ) → low_rank b ≤ 65536
unfolding low_rank
low_small b = go (eqb b 65535)
  where
    go : (u : Bool) → pick u 65536 (rank_of b) ≤ 65536
    go true = omega arith
    go false = omega (arith, rank_small b)

-- of a rule whose numbers have 16 bits

module _ (rule : Rule) (m : mag rule.mark < 2 ^ hbits w16) (k : mag rule.scale < 2 ^ hbits w16) where
  bits_small : (z : ℤ) → mag z < 2 ^ hbits w16 → of_z w16 z < 65536
  bits_small (pos n) h = omega arith
  bits_small (negsuc n) h = omega arith

  score_certain : (b : ℕ) → b < 65536 → certain_from rule (rank_of b) (rank_of b) ≡ score_within rule (Some (to_z w16 b))
  unfolding certain_from score_within passes
  score_certain b h =
      let p : le_z rule.mark (to_z w16 b) ≡ leb (rank_of (of_z w16 rule.mark)) (rank_of b) =
      ap (λ (z : ℤ). le_z z (to_z w16 b)) (sym (kept rule.mark m)) ∙ rank_order (of_z w16 rule.mark) b (bits_small rule.mark m) h in
      let q : le_z (to_z w16 b) rule.scale ≡ leb (rank_of b) (rank_of (of_z w16 rule.scale)) =
      ap (λ (z : ℤ). le_z (to_z w16 b) z) (sym (kept rule.scale k)) ∙ rank_order b (of_z w16 rule.scale) h (bits_small rule.scale k) in
      rw (p, q) (ap (both (leb (rank_of (of_z w16 rule.mark)) (rank_of b))) (sym (truths.unit_right (leb (rank_of b) (rank_of (of_z w16 rule.scale))))))

  bits_certain : (b : ℕ) → b < 65536 → certain_from rule (low_rank b) (high_rank b) ≡ score_within rule (bits_score b)
  unfolding low_rank high_rank score_within
  bits_certain b h = go (eqb b 65535)
    where
      go : (u : Bool) → certain_from rule (pick u 65536 (rank_of b)) (pick u 0 (rank_of b)) ≡ score_within rule (pick u None (Some (to_z w16 b)))
      go true = certain_none rule
      go false = score_certain b h

  abbrev bits_tally : ℕ → Tally
  bits_tally b = record { fills = pick (eqb b 65535) 1 0; certain = score_within rule (bits_score b); lowest = bits_score b }

  bits_joined : (t : Run) (b : ℕ) → t.low ≤ 65536 → b < 65536 → run_tally rule (with_bits t b) ≡ join_tally (run_tally rule t) (bits_tally b)
  unfolding run_tally with_bits join_tally
  bits_joined t b l h =
      tally_same _ _ refl
      (certain_both rule t.low (low_rank b) t.high (high_rank b) ∙ ap (both (certain_from rule t.low t.high)) (bits_certain b h))
      (score_lower t.low (low_rank b) l (low_small b) ∙ ap (lesser (score_at t.low)) (bits_score_lem b h))

  -- a cell that is stored, and any other

  abbrev scored : Bool → ℕ → Option ℤ
  scored u b = pick u (Some (to_z w16 b)) None

  stored_tally : (x : Result Cell Refusal) → is_stored x ≡ true → cell_tally rule x ≡ bits_tally (cell_bits x % 65536)
  unfolding cell_tally counts_as_fill minus_one score_of is_scored passes
  stored_tally x e = rw e (go (eqb (cell_bits x % 65536) 65535) (cell_bits x % 65536))
    where
      go :
          (u : Bool) (b : ℕ) →
          ◌≡◌ {A = Tally}
          (record { fills = pick (both u true) 1 0; certain = score_within rule (scored (not (both u true)) b); lowest = scored (not (both u true)) b })
          (record { fills = pick u 1 0; certain = score_within rule (pick u None (Some (to_z w16 b))); lowest = pick u None (Some (to_z w16 b)) })
      go true b = refl
      go false b = refl

  other_tally : (x : Result Cell Refusal) → is_stored x ≡ false → cell_tally rule x ≡ fill_tally (pick (eqb (cell_kind x) 33) 1 0)
  unfolding cell_tally counts_as_fill is_fill score_of is_scored score_within passes
  other_tally x e = rw e (go (eqb (cell_kind x) 33))
    where
      go : (u : Bool) → fill_tally (pick (both u true) 1 0) ≡ fill_tally (pick u 1 0)
      go true = refl
      go false = refl

  cell_joined : (t : Run) (x : Result Cell Refusal) → t.low ≤ 65536 → run_tally rule (with_cell t x) ≡ join_tally (run_tally rule t) (cell_tally rule x)
  unfolding with_cell join_tally run_tally
  cell_joined t x l = go (is_stored x) refl
    where
      go : (u : Bool) → is_stored x ≡ u → run_tally rule (with_cell t x) ≡ join_tally (run_tally rule t) (cell_tally rule x)
      go true p = rw (p, stored_tally x p) (bits_joined t (cell_bits x % 65536) l (omega arith))
      go false p =
          rw (p, other_tally x p)
          (tally_same _ _ refl (sym (truths.unit_right (certain_from rule t.low t.high))) (sym (scores.unit_right (score_at t.low))))

-- none

run_none : (rule : Rule) → run_tally rule no_cells ≡ fill_tally 0
unfolding run_tally score_at
run_none rule = tally_same _ _ refl (certain_none rule) refl

cell_rank : (t : Run) (x : Result Cell Refusal) → t.low ≤ 65536 → (with_cell t x).low ≤ 65536
unfolding with_cell with_bits
cell_rank t x l = go (is_stored x)
  where
    go : (u : Bool) → (pick u (with_bits t (cell_bits x % 65536)) (record { fills = t.fills + pick (eqb (cell_kind x) 33) 1 0; low = t.low; high = t.high })).low ≤ 65536
    go true = omega arith
    go false = l

-- what a run has counted so far
pub record Runs (rule : Rule) (t : Run) (u : Tally) : Type 0 where
  pub rank : t.low ≤ 65536
  pub is : run_tally rule t ≡ u

-- a run along a row: it begins, a cell more, it ends; and the next cell can be counted

module _ (rule : Rule) (f : ℕ → ℕ → Result Cell Refusal) where
  pub run_begins : (top bottom left right : ℕ) (t : Run) → t ≡ no_cells → ((r c : ℕ) → Inside top bottom left right r c → ⊥) → Runs rule t (tally_in rule top bottom left right f)
  run_begins top bottom left right t e h =
      record { rank = rw e (omega arith); is = tally_none rule f top bottom left right (run_tally rule t) (ap (run_tally rule) e ∙ run_none rule) h }

  pub run_next :
      (r left right c : ℕ) (t v : Run) (x : Result Cell Refusal) → Runs rule t (tally_in rule r (r + 1) left c f) → x ≡ f r c → v ≡ with_cell t x → left ≤ c → right ≡ c + 1 →
      mag rule.mark < 2 ^ hbits w16 → mag rule.scale < 2 ^ hbits w16 → Runs rule v (tally_in rule r (r + 1) left right f)
  run_next r left right c t v x o q e h n m k =
      record {
        rank = rw e (cell_rank t x o.rank);
        is =
            rw n
            (tally_beside rule f r (r + 1) left (c + 1) c (run_tally rule t) (cell_tally rule x) (run_tally rule v) o.is
            (tally_cell rule f r c x (cell_tally rule x) refl q) (ap (run_tally rule) e ∙ cell_joined rule m k t x o.rank) h (omega arith));
      }

  pub run_fits :
      (top bottom left right : ℕ) (t : Run) → Runs rule t (tally_in rule top bottom left right f) → bottom ≤ most_grid_side → right ≤ most_grid_side →
      t.fills + 1 < 18446744073709551616
  unfolding run_tally
  run_fits top bottom left right t o h k = omega (arith, tally_few rule top bottom left right f (run_tally rule t) o.is h k)

  pub run_ends :
      (top bottom left right c : ℕ) (t : Run) (v : Tally) → Runs rule t (tally_in rule top bottom left c f) → v ≡ run_tally rule t → c ≡ right →
      v ≡ tally_in rule top bottom left right f
  run_ends top bottom left right c t v o e q = e ∙ o.is ∙ rw q

-- as the functions give them

pub one_yes : (a b : ℕ) → a ≡ b → ◌≡◌ {A = ℕ} 1 (pick (eqb a b) 1 0)
one_yes a b e = rw (eq-eqb a b e)

pub one_no : (a b : ℕ) → (a ≡ b → ⊥) → ◌≡◌ {A = ℕ} 0 (pick (eqb a b) 1 0)
one_no a b f = rw (ne_eqb a b f)

module _ (b : ℕ) where
  pub low_none : b ≡ 65535 → 65536 ≡ low_rank b
  unfolding low_rank
  low_none e = rw e

  pub low_some : (r : ℕ) → (b ≡ 65535 → ⊥) → r ≡ rank_of b → r ≡ low_rank b
  unfolding low_rank
  low_some r f e = rw (ne_eqb b 65535 f) e

  pub high_none : b ≡ 65535 → 0 ≡ high_rank b
  unfolding high_rank
  high_none e = rw e

  pub high_some : (r : ℕ) → (b ≡ 65535 → ⊥) → r ≡ rank_of b → r ≡ high_rank b
  unfolding high_rank
  high_some r f e = rw (ne_eqb b 65535 f) e

pub bits_more :
    (t : Run) (b n r l s h : ℕ) → n ≡ pick (eqb b 65535) 1 0 → r ≡ low_rank b → l ≡ min t.low r → s ≡ high_rank b → h ≡ max t.high s →
    ◌≡◌ {A = Run} (record { fills = t.fills + n; low = l; high = h }) (with_bits t b)
unfolding with_bits
bits_more t b n r l s h c d e f g = rw (c, e, d, g, f)

module _ (t : Run) (x : Result Cell Refusal) (u : Bool) (p : u ≡ is_stored x) where
  pub stored_more : (b : ℕ) (v : Run) → u ≡ true → b ≡ cell_bits x → v ≡ with_bits t (b % 65536) → v ≡ with_cell t x
  unfolding with_cell
  stored_more b v e f g = g ∙ rw (← p, e, f)

  pub other_more :
      (k n : ℕ) → u ≡ false → k ≡ cell_kind x → n ≡ pick (eqb k 33) 1 0 → ◌≡◌ {A = Run} (record { fills = t.fills + n; low = t.low; high = t.high }) (with_cell t x)
  unfolding with_cell
  other_more k n e f g = rw (← p, e, g, f)

module _ (n : ℕ) where
  pub at_none : n ≡ 65536 → None ≡ score_at n
  unfolding score_at
  at_none e = rw e

  pub at_some : (r : ℕ) (z : ℤ) → (n ≡ 65536 → ⊥) → r ≡ rank_of n → z ≡ to_z w16 r → Some (to_z w16 (of_z w16 z)) ≡ score_at n
  unfolding score_at
  at_some r z f e g =
      let k : Fits w16 r = record { fits = rw e (rank_small n) } in
      rw (ne_eqb n 65536 f) (ap Some (signed.kept w16 k g ∙ rw e))

pub certain_is :
    (rule : Rule) (low high a b p q : ℕ) (r : Bool) → a ≡ of_z w16 (to_z w16 (of_z w16 rule.mark)) → p ≡ rank_of a → b ≡ of_z w16 (to_z w16 (of_z w16 rule.scale)) →
    q ≡ rank_of b → mag rule.mark < 2 ^ hbits w16 → mag rule.scale < 2 ^ hbits w16 → r ≡ both (leb p low) (leb high q) → r ≡ certain_from rule low high
unfolding certain_from
certain_is rule low high a b p q r c d e f m k g = g ∙ rw (d, c, f, e, kept rule.mark m, kept rule.scale k)

pub run_is :
    (rule : Rule) (t : Run) (b : Bool) (y : Option ℤ) → b ≡ certain_from rule t.low t.high → y ≡ score_at t.low →
    ◌≡◌ {A = Tally} (record { fills = t.fills; certain = b; lowest = y }) (run_tally rule t)
unfolding run_tally
run_is rule t b y e f = rw (e, f)
