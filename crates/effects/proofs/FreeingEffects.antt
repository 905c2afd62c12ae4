-- What the writes make that free records and join what is free, with any bytes before and behind the records. Assumes nothing.
use Prim.Native.Nat.{ℕ, ◌+◌, ◌*◌, ◌-◌, ◌≤◌}
use mathlib.Core.Path.{◌≡◌, refl, sym, ap, ap₂, ◌∙◌}
use mathlib.Core.List.{List, [], ◌∷◌, ◌++◌, map, append_assoc, append-nil, Memᴰ}
use mathlib.Core.Bool.{Bool, true, false, ◌||◌}
use native.Mathlib.Omega.{arith}
use lib.ListN.{length, length-append}
use lib.Dec.{leb, eqb}
use borrow.Author.Tests.{le-leb, lt-leb}
use Rattle.wire.specs.Pick.{pick}
use Rattle.wire.proofs.TestLaws.{not_both}
use Rattle.record.specs.Record.{length_at, type_at, record_ok}
use Rattle.record.specs.Chain.{header_end, records, Whole, joined}
use Rattle.record.proofs.ChainLaws.{IsRecord, ok_means}
use Rattle.header.specs.Fields.{checksum_enabled}
use Rattle.pieces.specs.Pieces.{piece_at, pieces_of, pieces, free_record, is_free, attach, join_free, cleared, freeing}
use Rattle.pieces.proofs.FreeLaws.{free_length, free_is}
use Rattle.pieces.proofs.FreeingLaws.{attach_used, attach_twice}
use Rattle.pieces.proofs.SplitLaws.{piece_long, piece_free}
use Rattle.stores.specs.Stores.{Write, run}
use Rattle.stores.specs.Writes.{whole_write}
use Rattle.correct.specs.RecordWrites.{free_run_writes, join_writes}
use Rattle.correct.specs.Writes.{freeing_writes}
use Rattle.effects.proofs.MadeLaws.{run_append}
use Rattle.effects.proofs.LieLaws.{whole_middle, Lie, lie_none, lie_whole, lie_append, lie_more}

-- an open run of free records, whose bytes are m: there is none, one that stays as it is, or it is to be made one
abbrev Run : Bool → List ℕ → Type 0
Run true m = 16 ≤ length m
Run false [] = Unit {0}
Run false (b ∷ bs) = (is_free (b ∷ bs) ≡ true) × (16 ≤ length (b ∷ bs))

-- what stands in its place then
abbrev made : ℕ → Bool → List ℕ → List ℕ
made flag true m = free_record flag (length m)
made flag false m = m

-- the pieces rs with the run in front of them
abbrev before : ℕ → Bool → List ℕ → List (List ℕ) → List (List ℕ)
before flag true m rs = attach flag (free_record flag (length m)) rs
before flag false [] rs = rs
before flag false (b ∷ bs) rs = attach flag (b ∷ bs) rs

made_length : (flag : ℕ) (due : Bool) (m : List ℕ) → Run due m → length (made flag due m) ≡ length m
made_length flag true m o = free_length flag (length m) o
made_length flag false m o = refl

-- it ends before a record that is not free, or with the last one

before_used : (flag : ℕ) (due : Bool) (m r : List ℕ) (rs : List (List ℕ)) → is_free r ≡ false → joined (before flag due m (r ∷ rs)) ≡ made flag due m ++ (r ++ joined rs)
before_used flag true m r rs e = ap joined (attach_used flag (free_record flag (length m)) r rs e)
before_used flag false [] r rs e = refl
before_used flag false (b ∷ bs) r rs e = ap joined (attach_used flag (b ∷ bs) r rs e)

before_none : (flag : ℕ) (due : Bool) (m : List ℕ) → joined (before flag due m []) ≡ made flag due m
unfolding attach
before_none flag true m = append-nil (free_record flag (length m))
before_none flag false [] = refl
before_none flag false (b ∷ bs) = append-nil (b ∷ bs)

-- a record that is not free stays by itself
attach_apart : (flag : ℕ) (r : List ℕ) (rs : List (List ℕ)) → is_free r ≡ false → attach flag r rs ≡ r ∷ rs
unfolding attach
attach_apart flag r [] e = refl
attach_apart flag r (q ∷ qs) e = rw e

-- it goes on with a free record r, or one that is freed
module _ (flag : ℕ) (r : List ℕ) (h : 16 ≤ length r) where
  one_length : (freed : Bool) → length (pick freed (free_record flag (length r)) r) ≡ length r
  one_length true = free_length flag (length r) h
  one_length false = refl

  one_free : (freed : Bool) → (freed ≡ false → is_free r ≡ true) → is_free (pick freed (free_record flag (length r)) r) ≡ true
  one_free true i = free_is flag (length r) h
  one_free false i = i refl

  -- as one that is due
  due_more : (a m : List ℕ) (freed : Bool) (qs : List (List ℕ)) → is_free a ≡ true → length a ≡ length m → (freed ≡ false → is_free r ≡ true) → attach flag a (attach flag (pick freed (free_record flag (length r)) r) qs) ≡ attach flag (free_record flag (length (m ++ r))) qs
  due_more a m freed qs i e j =
      let l = one_length freed in
      let n : length a + length (pick freed (free_record flag (length r)) r) ≡ length (m ++ r) = omega (arith, length-append m r) in
      attach_twice flag a (pick freed (free_record flag (length r)) r) qs i (one_free freed j) (omega arith) ∙ ap (λ (k : ℕ). attach flag (free_record flag k) qs) n

  due_open : (m : List ℕ) → 16 ≤ length (m ++ r)
  due_open m = omega (arith, length-append m r)

  alone_more : (qs : List (List ℕ)) → before flag false r qs ≡ attach flag r qs
  alone_more qs = go r h
    where
      go : (a : List ℕ) → 16 ≤ length a → before flag false a qs ≡ attach flag a qs
      go [] l = absurd (omega arith)
      go (b ∷ bs) l = refl

  alone_open : is_free r ≡ true → Run false r
  alone_open i = go r h i
    where
      go : (a : List ℕ) → 16 ≤ length a → is_free a ≡ true → Run false a
      go [] l i = absurd (omega arith)
      go (b ∷ bs) l i = (i, l)

  module _ (from x : ℕ) (freed : Bool) (j : freed ≡ false → is_free r ≡ true) where
    abbrev Goes : Bool → List ℕ → Type 0
    Goes due m =
        Run (due || (freed || leb (from + 1) x)) (m ++ r)
        × ((qs : List (List ℕ)) → before flag due m (attach flag (pick freed (free_record flag (length r)) r) qs) ≡ before flag (due || (freed || leb (from + 1) x)) (m ++ r) qs)

    run_on : (due : Bool) (m : List ℕ) → Run due m → x ≡ from + length m → Goes due m
    run_on true m o e = (due_open m, λ qs. due_more (free_record flag (length m)) m freed qs (free_is flag (length m) o) (free_length flag (length m) o) j)
    run_on false [] o e = go freed refl
      where
        l : leb (from + 1) x ≡ false
        l = lt-leb (from + 1) x (omega arith)

        go : (c : Bool) → freed ≡ c → Goes false []
        go true i = rw (i) (h, λ qs. refl)
        go false i = rw (i, l) (alone_open (j i), λ qs. sym (alone_more qs))
    run_on false (b ∷ bs) o e = go freed refl
      where
        l : leb (from + 1) x ≡ true
        l = le-leb (from + 1) x (omega arith)

        go : (c : Bool) → freed ≡ c → Goes false (b ∷ bs)
        go true i = rw i (due_open (b ∷ bs), λ qs. due_more (b ∷ bs) (b ∷ bs) true qs o.0 refl (λ z. j (i ∙ z)))
        go false i = rw (i, l) (due_open (b ∷ bs), λ qs. due_more (b ∷ bs) (b ∷ bs) false qs o.0 refl (λ z. j i))

-- a record of the page: its length, and whether it is free
piece_least : (s : List ℕ) (x : ℕ) → record_ok s x ≡ true → 16 ≤ length (piece_at s x)
piece_least s x o = omega (arith, (ok_means s x o).long, piece_long s x o)

-- the open run made one, where it is due
module _ (room flag : ℕ) (due : Bool) (f m : List ℕ) (from at : ℕ) (o : Run due m) (i : length f ≡ from) (j : from + length m ≡ at) where
  run_made : (y : List ℕ) → at ≤ room → run (free_run_writes room flag from at due) (f ++ (m ++ y)) ≡ f ++ (made flag due m ++ y)
  unfolding free_run_writes run
  run_made y h = go due o
    where
      go : (c : Bool) → Run c m → run (pick c (whole_write room from (free_record flag (at - from))) []) (f ++ (m ++ y)) ≡ f ++ (made flag c m ++ y)
      go true k =
          let e : at - from ≡ length m = omega arith in
          let l = free_length flag (length m) k in
          rw e (whole_middle room f m (free_record flag (length m)) y i (sym l) (omega arith))
      go false k = refl

-- the writes from a record boundary on
module _ (room flag : ℕ) (s : List ℕ) (p : ℕ → Bool) (h : length s ≤ room) where
  join_free_lem : (from at x : ℕ) (due : Bool) (xs : List ℕ) → (eqb (type_at s x) 0 || p x) ≡ true → join_writes room flag s p from at due (x ∷ xs) ≡ join_writes room flag s p from (x + length_at s x) (due || (p x || leb (from + 1) x)) xs
  unfolding join_writes
  join_free_lem from at x due xs e = rw e

  join_used :
      (from at x : ℕ) (due : Bool) (xs : List ℕ) → (eqb (type_at s x) 0 || p x) ≡ false →
      join_writes room flag s p from at due (x ∷ xs)
      ≡ free_run_writes room flag from at due ++ join_writes room flag s p (x + length_at s x) (x + length_at s x) false xs
  unfolding join_writes
  join_used from at x due xs e = rw e

  module _ (q : List ℕ → Bool) (z : List ℕ) where
    -- the pieces freed and joined
    abbrev after : List ℕ → List (List ℕ)
    after xs = join_free flag (map (cleared flag q) (pieces_of s xs))

    after_more : (x : ℕ) (xs : List ℕ) → p x ≡ q (piece_at s x) → after (x ∷ xs) ≡ attach flag (pick (p x) (free_record flag (length (piece_at s x))) (piece_at s x)) (after xs)
    unfolding join_free pieces_of cleared
    after_more x xs e = rw (← e)

    joined_more : (x : ℕ) (xs : List ℕ) → joined (pieces_of s (x ∷ xs)) ≡ piece_at s x ++ joined (pieces_of s xs)
    unfolding pieces_of
    joined_more x xs = refl

    abbrev Told : List ℕ → Type 0
    Told xs = (x : ℕ) → Memᴰ x xs → p x ≡ q (piece_at s x)

    abbrev Makes : List ℕ → Type 0
    Makes xs =
        (from at : ℕ) (due : Bool) (f m : List ℕ) → Run due m → length f ≡ from → from + length m ≡ at → Whole s at xs → Told xs →
        run (join_writes room flag s p from at due xs) (f ++ (m ++ (joined (pieces_of s xs) ++ z))) ≡ f ++ (joined (before flag due m (after xs)) ++ z)

    makes_none : Makes []
    unfolding join_writes pieces_of join_free
    makes_none from at due f m o i j w t =
        run_made room flag due f m from at o i j z (omega arith) ∙ ap (λ (l : List ℕ). f ++ (l ++ z)) (sym (before_none flag due m))

    module _
        (x : ℕ) (xs : List ℕ) (ih : Makes xs) (from at : ℕ) (due : Bool) (f m : List ℕ) (o : Run due m) (i : length f ≡ from) (j : from + length m ≡ at)
        (w : Whole s at (x ∷ xs)) (t : Told (x ∷ xs))
      where
        abbrev r : List ℕ
        r = piece_at s x

        ok : record_ok s x ≡ true
        ok = w.1.0

        long : length r ≡ length_at s x
        long = piece_long s x ok

        least : 16 ≤ length r
        least = piece_least s x ok

        inside : x + length_at s x ≤ length s
        inside = (ok_means s x ok).inside

        abbrev rest : List ℕ
        rest = joined (pieces_of s xs) ++ z

        apart : joined (pieces_of s (x ∷ xs)) ++ z ≡ r ++ rest
        apart = ap (λ (l : List ℕ). l ++ z) (joined_more x xs) ∙ append_assoc r (joined (pieces_of s xs)) z

        abbrev Goal : Type 0
        Goal =
            run (join_writes room flag s p from at due (x ∷ xs)) (f ++ (m ++ (joined (pieces_of s (x ∷ xs)) ++ z)))
            ≡ f ++ (joined (before flag due m (after (x ∷ xs))) ++ z)

        free : (eqb (type_at s x) 0 || p x) ≡ true → (p x ≡ false → is_free r ≡ true) → Goal
        free e k =
            let g = run_on flag r least from x (p x) k due m o (omega (arith, w.0)) in
            let n : from + length (m ++ r) ≡ x + length_at s x = omega (arith, length-append m r, w.0, long) in
            ap₂ (λ (ws : List Write) (l : List ℕ). run ws (f ++ (m ++ l))) (join_free_lem from at x due xs e) apart
            ∙ ap (λ (l : List ℕ). run (join_writes room flag s p from (x + length_at s x) (due || (p x || leb (from + 1) x)) xs) (f ++ l)) (sym (append_assoc m r rest))
            ∙ ih from (x + length_at s x) (due || (p x || leb (from + 1) x)) f (m ++ r) g.0 i n w.1.1 (λ y n. t y (Memᴰ.tail n))
            ∙ ap (λ (l : List (List ℕ)). f ++ (joined l ++ z)) (sym (ap (before flag due m) (after_more x xs (t x (Memᴰ.head refl))) ∙ g.1 (after xs)))

        used : (eqb (type_at s x) 0 || p x) ≡ false → p x ≡ false → is_free r ≡ false → Goal
        used e k u =
            let v = made flag due m in
            let l = made_length flag due m o in
            let n : length (f ++ (v ++ r)) ≡ x + length_at s x = length-append f (v ++ r) ∙ omega (arith, length-append v r, w.0, long) in
            let a : after (x ∷ xs) ≡ r ∷ after xs = after_more x xs (t x (Memᴰ.head refl)) ∙ rw k (attach_apart flag r (after xs) u) in
            let moved : f ++ (v ++ (r ++ rest)) ≡ f ++ (v ++ r) ++ ([] ++ rest) = simp append_assoc in
            let back : f ++ (v ++ r) ++ (joined (after xs) ++ z) ≡ f ++ (v ++ (r ++ joined (after xs)) ++ z) = simp append_assoc in
            ap₂ (λ (ws : List Write) (l : List ℕ). run ws (f ++ (m ++ l))) (join_used from at x due xs e) apart
            ∙ run_append (free_run_writes room flag from at due) (join_writes room flag s p (x + length_at s x) (x + length_at s x) false xs) (f ++ (m ++ (r ++ rest)))
            ∙ ap (run (join_writes room flag s p (x + length_at s x) (x + length_at s x) false xs))
            (run_made room flag due f m from at o i j (r ++ rest) (omega (arith, w.0, inside, h)) ∙ moved)
            ∙ ih (x + length_at s x) (x + length_at s x) false (f ++ (v ++ r)) [] _ n (omega arith) w.1.1 (λ y n. t y (Memᴰ.tail n))
            ∙ back
            ∙ ap (λ (l : List ℕ). f ++ (l ++ z)) (sym (ap (λ (l : List (List ℕ)). joined (before flag due m l)) a ∙ before_used flag due m r (after xs) u))

        either : (a : Bool) → eqb (type_at s x) 0 ≡ a → (b : Bool) → p x ≡ b → Goal
        either true c b d = free (rw c) (λ k. piece_free s x ok ∙ c)
        either false c true d = free (rw (c, d)) (λ k. absurd (let n : ◌≡◌ {A = ℕ} 0 1 = cc in omega arith))
        either false c false d = used (rw (c, d)) d (piece_free s x ok ∙ c)

    makes_more : (x : ℕ) (xs : List ℕ) → Makes xs → Makes (x ∷ xs)
    makes_more x xs ih from at due f m o i j w t = either x xs ih from at due f m o i j w t (eqb (type_at s x) 0) refl (p x) refl

    makes : (xs : List ℕ) → Makes xs
    makes [] = makes_none
    makes (x ∷ xs) = makes_more x xs (makes xs)

-- the page's records, behind a front of the header's length
pub freeing_run :
    (s f z : List ℕ) (room : ℕ) (p : ℕ → Bool) (q : List ℕ → Bool) → Whole s (header_end s) (records s) → length f ≡ header_end s → length s ≤ room →
    ((x : ℕ) → Memᴰ x (records s) → p x ≡ q (piece_at s x)) →
    run (freeing_writes room s p) (f ++ joined (pieces s) ++ z) ≡ f ++ joined (freeing (checksum_enabled s) q (pieces s)) ++ z
unfolding freeing_writes pieces freeing
freeing_run s f z room p q w i h t =
    let flag = checksum_enabled s in
    let a = makes room flag s p h q z (records s) (header_end s) (header_end s) false f [] _ i (omega arith) w t in
    ap (run (join_writes room flag s p (header_end s) (header_end s) false (records s))) (append_assoc f (joined (pieces_of s (records s))) z)
    ∙ a ∙ sym (append_assoc f (joined (join_free flag (map (cleared flag q) (pieces_of s (records s))))) z)

-- where the writes go, and how many they are
module _ (room flag : ℕ) (s : List ℕ) (p : ℕ → Bool) (a : ℕ) where
  run_lies : (from at : ℕ) (due : Bool) → a ≤ from → from ≤ at → (due ≡ true → from + 16 ≤ at) → Lie a at 1 (free_run_writes room flag from at due)
  unfolding free_run_writes
  run_lies from at true g h d =
      let k : from + 16 ≤ at = d refl in
      let l = free_length flag (at - from) (omega arith) in
      lie_whole room a at 1 from (free_record flag (at - from)) g (omega arith) (omega arith)
  run_lies from at false g h d = lie_none a at 1

  abbrev Lies : List ℕ → Type 0
  Lies xs =
      (from at : ℕ) (due : Bool) → a ≤ from → from ≤ at → (due ≡ true → from + 16 ≤ at) → Whole s at xs →
      Lie a (length s) (length xs + 1) (join_writes room flag s p from at due xs)

  lies_none : Lies []
  unfolding join_writes
  lies_none from at due g h d w = lie_more (run_lies from at due g h d) (length s) 1 (omega arith) (omega arith)

  lies_more : (x : ℕ) (xs : List ℕ) → Lies xs → Lies (x ∷ xs)
  unfolding join_writes
  lies_more x xs ih from at due g h d w = go (eqb (type_at s x) 0 || p x)
    where
      i : IsRecord s x
      i = ok_means s x w.1.0

      go :
          (b : Bool) →
          Lie a (length s) (length (x ∷ xs) + 1)
          (pick b (join_writes room flag s p from (x + length_at s x) (due || (p x || leb (from + 1) x)) xs)
          (free_run_writes room flag from at due ++ join_writes room flag s p (x + length_at s x) (x + length_at s x) false xs))
      go true =
          lie_more
          (ih from (x + length_at s x) (due || (p x || leb (from + 1) x)) g (omega (arith, w.0)) (λ e. omega (arith, w.0, i.long)) w.1.1) (length s)
          (length (x ∷ xs) + 1) (omega arith) (omega arith)
      go false =
          let l = i.inside in
          let e : x ≡ at = w.0 in
          let y = ih (x + length_at s x) (x + length_at s x) false (omega arith) (omega arith) (λ n. not_both n refl) w.1.1 in
          lie_more (lie_append (lie_more (run_lies from at due g h d) (length s) 1 (omega arith) (omega arith)) y) (length s) (length (x ∷ xs) + 1)
          (omega arith) (omega arith)

  lies : (xs : List ℕ) → Lies xs
  lies [] = lies_none
  lies (x ∷ xs) = lies_more x xs (lies xs)

-- they start behind the header and end within the page, and are at most one more than the records
pub freeing_lies :
    (s : List ℕ) (room : ℕ) (p : ℕ → Bool) → Whole s (header_end s) (records s) →
    Lie (header_end s) (length s) (length (records s) + 1) (freeing_writes room s p)
unfolding freeing_writes
freeing_lies s room p w =
    lies room (checksum_enabled s) s p (header_end s) (records s) (header_end s) (header_end s) false (omega arith) (omega arith) (λ n. not_both n refl) w

-- records are 16 bytes at least
pub records_few : (s : List ℕ) (at : ℕ) (xs : List ℕ) → Whole s at xs → at + 16 * length xs ≤ length s
records_few s at [] w = omega arith
records_few s at (x ∷ xs) w =
    let i = ok_means s x w.1.0 in
    let r = records_few s (x + length_at s x) xs w.1.1 in
    omega (arith, w.0, i.long)
