-- The walk that frees records and joins what is free. Assumes nothing.
use Prim.Native.Nat.{ℕ, ◌+◌, ◌-◌, ◌≤◌, ◌<◌}
use mathlib.Core.Path.{◌≡◌, refl, sym, ap, ◌∙◌}
use mathlib.Core.List.{List, [], ◌++◌, append_assoc}
use mathlib.Core.Bool.{Bool, true, false}
use mathlib.Core.Logic.{◌⊎◌, inl}
use native.Mathlib.Omega.{arith}
use lib.ListN.{length}
use lib.Dec.{leb}
use denote.Enum.Declared.{tag_of}
use borrow.Author.Tests.{le-leb, lt-leb, eq-eqb, ne_eqb}
use Rattle.wire.specs.Pick.{pick}
use Rattle.wire.specs.Bytes.{part}
use Rattle.wire.proofs.TestLaws.{yes, no}
use Rattle.record.specs.declared.Cursor.{Cursor}
use Rattle.record.specs.declared.Step.{Step}
use Rattle.record.specs.declared.Step.TheVariants.{Record}
use Rattle.record.specs.Record.{length_at, type_at, record_ok, step_at}
use Rattle.record.proofs.ChainLaws.{Stepped, stepped, starts_none, starts_record, less}
use Rattle.record.proofs.SeekLaws.{over}
use Rattle.record.specs.contracts.Step.{the_type}
use Rattle.bodies.specs.TileRecord.{tile_index}
use Rattle.tile_routes.specs.Ways.{carries}
use Rattle.pieces.specs.Pieces.{free_record}
use Rattle.stores.specs.Stores.{Write, Apart}
use Rattle.stores.specs.Writes.{one_write, whole_write}
use Rattle.stores.proofs.JoinLaws.{Ran, ran_none, ran_then, ran_room}
use Rattle.correct.specs.Front.{page_in}
use Rattle.correct.specs.RecordWrites.{free_run_writes, join_writes}
use Rattle.correct.proofs.RecordLaws.{free_length}
use Rattle.edit_walks.specs.declared.Wanted.{Wanted}
use Rattle.edit_walks.specs.declared.Wanted.TheVariants.{Tile, Unwanted}
use Rattle.edit_walks.specs.Walks.{wanted_by, freed_from}
use Rattle.edit_walks.specs.Runs.{loose_by, due_by}
use Rattle.edit_walks.proofs.AfterLaws.{After, after_same, after_more, after_trans, after_page, after_step, after_wanted, after_run}

-- what is asked of a record

pub tile_other : (s : List ℕ) (i kind x : ℕ) → kind ≡ type_at s x → (kind ≡ 2 → ⊥) → false ≡ wanted_by s (Tile i) x
unfolding wanted_by carries
tile_other s i kind x e z = no _ (λ h. z (e ∙ h.0))

pub tile_index_lem : (s : List ℕ) (i x : ℕ) {r : ℕ} → r ≡ tile_index s x → (r ≡ i → ⊥) → false ≡ wanted_by s (Tile i) x
unfolding wanted_by carries
tile_index_lem s i x e z = no _ (λ h. z (e ∙ h.1.0))

pub tile_is : (s : List ℕ) (i kind x : ℕ) {r : ℕ} → kind ≡ type_at s x → kind ≡ 2 → r ≡ tile_index s x → r ≡ i → true ≡ wanted_by s (Tile i) x
unfolding wanted_by carries
tile_is s i kind x e f g h = yes _ (sym e ∙ f, (sym g ∙ h, tt))

module _ (s : List ℕ) (kind x : ℕ) (e : kind ≡ type_at s x) where
  pub unwanted_space : (full : Bool) → kind ≡ 3 → true ≡ wanted_by s (Unwanted full) x
  unfolding wanted_by
  unwanted_space full f = rw (eq-eqb (type_at s x) 3 (sym e ∙ f))

  pub unwanted_full : (full : Bool) → (kind ≡ 3 → ⊥) → full ≡ true → false ≡ wanted_by s (Unwanted full) x
  unfolding wanted_by
  unwanted_full full z f = rw (ne_eqb (type_at s x) 3 (λ q. z (e ∙ q)), f)

  pub unwanted_not : (full : Bool) → (kind ≡ 3 → ⊥) → (kind ≡ 5 → ⊥) → false ≡ wanted_by s (Unwanted full) x
  unfolding wanted_by
  unwanted_not true z y = rw (ne_eqb (type_at s x) 3 (λ q. z (e ∙ q)))
  unwanted_not false z y = rw (ne_eqb (type_at s x) 3 (λ q. z (e ∙ q)), ne_eqb (type_at s x) 5 (λ q. y (e ∙ q)))

  pub unwanted_tiles : (full : Bool) → (kind ≡ 3 → ⊥) → full ≡ false → kind ≡ 5 → true ≡ wanted_by s (Unwanted full) x
  unfolding wanted_by
  unwanted_tiles full z f g = rw (ne_eqb (type_at s x) 3 (λ q. z (e ∙ q)), f, eq-eqb (type_at s x) 5 (sym e ∙ g))

pub loose_free : (kind : ℕ) (f : Bool) → kind ≡ 0 → true ≡ loose_by kind f
unfolding loose_by
loose_free kind f e = rw (eq-eqb kind 0 e)

pub loose_as : (kind : ℕ) (f : Bool) → (kind ≡ 0 → ⊥) → f ≡ loose_by kind f
unfolding loose_by
loose_as kind f e = rw (ne_eqb kind 0 e)

pub due_already : (due f : Bool) (from x : ℕ) → due ≡ true → true ≡ due_by due f from x
unfolding due_by
due_already due f from x e = rw e

pub due_freed : (due f : Bool) (from x : ℕ) → due ≡ false → f ≡ true → true ≡ due_by due f from x
unfolding due_by
due_freed due f from x e g = rw (e, g)

pub due_more : (due f : Bool) (from x : ℕ) → due ≡ false → f ≡ false → from < x → true ≡ due_by due f from x
unfolding due_by
due_more due f from x e g h = rw (e, g, le-leb (from + 1) x (omega arith))

pub due_not : (due f : Bool) (from x : ℕ) → due ≡ false → f ≡ false → x ≤ from → false ≡ due_by due f from x
unfolding due_by
due_not due f from x e g h = rw (e, g, lt-leb (from + 1) x (omega arith))

-- a run made one

pub run_due :
    {k : ℕ} {d : List ℕ} (flag from to n : ℕ) (due : Bool) {r : ℕ} {o : List ℕ} → due ≡ true → n ≡ to - from →
    Ran k (whole_write (length d) from (free_record flag n)) d r o → Ran k (free_run_writes (length d) flag from to due) d r o
unfolding free_run_writes
run_due flag from to n due e f q = rw (e, ← f) q

pub run_not : (k : ℕ) (d : List ℕ) (flag from to : ℕ) (due : Bool) → due ≡ false → Ran k (free_run_writes (length d) flag from to due) d k d
unfolding free_run_writes
run_not k d flag from to due e = rw e (ran_none k d)

-- it is written before its end

run_apart : (room flag from to : ℕ) (due : Bool) → (due ≡ true → from + 16 ≤ to) → (b : ℕ) → Apart to b (free_run_writes room flag from to due)
unfolding free_run_writes whole_write one_write
run_apart room flag from to false h b = tt
run_apart room flag from to true h b = go (leb (from + length (free_record flag (to - from))) room) refl
  where
    go :
        (c : Bool) → leb (from + length (free_record flag (to - from))) room ≡ c →
        Apart to b (pick (leb (from + length (free_record flag (to - from))) room) (one_write from (free_record flag (to - from))) [])
    go true e = rw e (inl (let z = h refl in omega (arith, free_length flag (to - from))), tt)
    go false e = rw e tt

-- what is ahead of a walk

module _ (room flag : ℕ) (s : List ℕ) (want : Wanted) (from x : ℕ) (due : Bool) where
  ahead_loose :
      record_ok s x ≡ true → loose_by (type_at s x) (wanted_by s want x) ≡ true →
      freed_from room flag s want from x due ≡ freed_from room flag s want from (x + length_at s x) (due_by due (wanted_by s want x) from x)
  unfolding freed_from join_writes loose_by due_by
  ahead_loose o e = rw (starts_record s x o, e)

  ahead_used :
      record_ok s x ≡ true → loose_by (type_at s x) (wanted_by s want x) ≡ false →
      freed_from room flag s want from x due
      ≡ free_run_writes room flag from x due ++ freed_from room flag s want (x + length_at s x) (x + length_at s x) false
  unfolding freed_from join_writes loose_by
  ahead_used o e = rw (starts_record s x o, e)

  ahead_end : record_ok s x ≡ false → freed_from room flag s want from x due ≡ free_run_writes room flag from x due
  unfolding freed_from join_writes
  ahead_end o = rw (starts_none s x o)

-- the walk with its cursor at x: the writes that are past and what is ahead are the whole; from x on the buffer is as it was

pub record Walking (k : ℕ) (d : List ℕ) (n flag : ℕ) (want : Wanted) (at x from : ℕ) (due : Bool) (m : ℕ) (l : List ℕ) : Type 0 where
  pub past : List Write
  pub ran : Ran k past d m l
  pub whole : freed_from (length d) flag (page_in d n) want at at false ≡ past ++ freed_from (length d) flag (page_in d n) want from x due
  pub order : from ≤ x
  pub wide : due ≡ true → from + 16 ≤ x
  pub same : After l d x

pub walk_begin : (k : ℕ) (d : List ℕ) (n flag : ℕ) (want : Wanted) (at : ℕ) → Walking k d n flag want at at at false k d
walk_begin k d n flag want at =
    record {
      past = [];
      ran = ran_none k d;
      whole = refl;
      order = omega arith;
      wide = λ e. let z : ◌≡◌ {A = ℕ} 0 1 = cc in absurd (omega arith);
      same = after_same d at;
    }

module _
    {k : ℕ} {d : List ℕ} {n flag : ℕ} {want : Wanted} {at x from : ℕ} {due : Bool} {m : ℕ} {l : List ℕ} (w : Walking k d n flag want at x from due m l)
  where
    pub walk_room : length l ≡ length d
    walk_room = ran_room w.ran

    page_step : {s : List ℕ} {t : Step} → s ≡ part l 0 n → t ≡ step_at s x → t ≡ step_at (page_in d n) x
    unfolding page_in
    page_step {s} {t} e v = v ∙ ap (λ (y : List ℕ). step_at y x) e ∙ after_step (after_page w.same n) x (omega arith)

    ended :
        {r : ℕ} {o : List ℕ} → Ran m (free_run_writes (length l) flag from x due) l r o → Ran k (w.past ++ free_run_writes (length d) flag from x due) d r o
    ended q = let e = walk_room in ran_then w.ran (rw e at q)

    pub walk_over :
        {s : List ℕ} {t : Step} {r : ℕ} {o : List ℕ} → s ≡ part l 0 n → t ≡ step_at s x → (tag_of the_type t ≡ 1) ⊎ (tag_of the_type t ≡ 2) →
        Ran m (free_run_writes (length l) flag from x due) l r o → Ran k (freed_from (length d) flag (page_in d n) want at at false) d r o
    walk_over {t = t} e v g q =
        let o = over (page_in d n) x t (page_step e v) g in
        let f = w.whole ∙ ap (λ (y : List Write). w.past ++ y) (ahead_end (length d) flag (page_in d n) want from x due o) in
        rw f (ended q)

    module _ {kind st long : ℕ} {nx : Cursor} {t : Step} {s : List ℕ} (e : s ≡ part l 0 n) (u : t ≡ Record kind st long nx) (v : t ≡ step_at s x) where
      there : Stepped (page_in d n) x kind st long nx
      there = stepped u (page_step e v)

      pub walk_less : length (page_in d n) - nx.at < length (page_in d n) - x
      walk_less = less (page_in d n) x kind st long nx t u (page_step e v)

      pub walk_kind : kind ≡ type_at s st
      walk_kind = (stepped u v).kind

      wanted_is : {f : Bool} → f ≡ wanted_by s want st → f ≡ wanted_by (page_in d n) want x
      unfolding page_in
      wanted_is h = h ∙ rw (e, there.start) (after_wanted (after_page w.same n) want x (omega arith))

      loose_is : {f b : Bool} → f ≡ wanted_by s want st → loose_by kind f ≡ b → loose_by (type_at (page_in d n) x) (wanted_by (page_in d n) want x) ≡ b
      loose_is {f} h g =
          let a : kind ≡ type_at (page_in d n) x = there.kind ∙ ap (type_at (page_in d n)) there.start in
          rw (← a, ← wanted_is h) g

      pub walk_loose :
          {f c : Bool} → f ≡ wanted_by s want st → loose_by kind f ≡ true → c ≡ due_by due f from st → Walking k d n flag want at nx.at from c m l
      walk_loose {f} {c} h g q =
          let p = page_in d n in
          let i = there.is.long in
          let a : c ≡ due_by due (wanted_by p want x) from x = q ∙ rw (there.start, wanted_is h) in
          record {
            past = w.past;
            ran = w.ran;
            whole =
                w.whole
                ∙ ap (λ (y : List Write). w.past ++ y)
                (ahead_loose (length d) flag p want from x due there.ok (loose_is h g) ∙ rw (← a, there.next));
            order = omega (arith, w.order, there.next);
            wide = λ z. omega (arith, w.order, there.next);
            same = after_more w.same nx.at (omega (arith, there.next));
          }

      pub walk_used :
          {f : Bool} {r : ℕ} {o : List ℕ} → f ≡ wanted_by s want st → loose_by kind f ≡ false →
          Ran m (free_run_writes (length l) flag from st due) l r o → Walking k d n flag want at nx.at nx.at false r o
      walk_used {f} {r} {o} h g q' =
          let p = page_in d n in
          let q : Ran m (free_run_writes (length l) flag from x due) l r o = rw there.start at q' in
          let a = run_apart (length l) flag from x due w.wide in
          record {
            past = w.past ++ free_run_writes (length d) flag from x due;
            ran = ended q;
            whole =
                w.whole
                ∙ ap (λ (y : List Write). w.past ++ y)
                (ahead_used (length d) flag p want from x due there.ok (loose_is h g) ∙ rw there.next)
                ∙ sym (append_assoc w.past (free_run_writes (length d) flag from x due) (freed_from (length d) flag p want nx.at nx.at false));
            order = omega arith;
            wide = λ z. let y : ◌≡◌ {A = ℕ} 0 1 = cc in absurd (omega arith);
            same =
                after_more (after_trans (rw q.holds (after_run m (free_run_writes (length l) flag from x due) l x a)) w.same) nx.at
                (omega (arith, there.next));
          }
