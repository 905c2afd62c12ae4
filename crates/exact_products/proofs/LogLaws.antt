-- Req 14: a correction log as the bytes of its entries, both ways. Assumes nothing.
use Prim.Native.Nat.{ℕ, zero, suc, ◌+◌, ◌^◌, ◌≤◌, ◌<◌}
use mathlib.Core.Path.{◌≡◌, refl, sym, ap, ◌∙◌}
use mathlib.Core.Logic.{by_cases}
use mathlib.Core.List.{List, [], ◌∷◌, ◌++◌, map, append_assoc, append-nil}
use mathlib.Core.Bool.{Bool, true, false}
use native.Mathlib.Omega.{arith}
use native.Mathlib.Decide.{dec_le}
use lib.ListN.{length, get_or, drop, length-append, length-drop, take-append-drop}
use lib.Seq.{drop-cons, drop-drop}
use lib.Dec.{eqb}
use borrow.Author.Tests.{eqb-true, eqb-false}
use Rattle.wire.specs.Bytes.{Bytes, byte_at, part}
use Rattle.wire.specs.Big.{big_at, big_of}
use Rattle.wire.proofs.TestLaws.{means, yes}
use Rattle.wire.proofs.ByteLaws.{part_in, part_length, part_behind, part_before, part_whole, byte_behind}
use Rattle.wire.proofs.BigLaws.{big_behind, big_before, big_length, big_of_lem, big_part, big_small}
use Rattle.correction_logs.specs.Log.{is_store, entry_tile, entry_cells, end_of_entry, entry_whole, entry_right, entries_from, entries_end, log_right}
use Rattle.correction_logs.proofs.LogLaws.{store_is, end_store, end_other, end_least, whole_store, whole_remove, entry_yes, from_right, from_end, Walks, walks_first, walks_on, walks_right, right_least}
use Rattle.correct.specs.Calls.{Call}
use Rattle.replay.specs.Entries.{call_at, calls_from}
use Rattle.replay.proofs.EntryLaws.{calls_none, calls_next}
use Rattle.exact_products.specs.Logs.{LogEntry, entry_bytes, body_of, log_of, call_of, EntryFits, EachFits, Logged, LogWritten, LogRead}

-- a byte, an index and more behind some bytes

module _ (pre : List ℕ) (k i : ℕ) (more : List ℕ) (h : i < 4294967296) where
  abbrev here : List ℕ
  here = pre ++ (k ∷ (big_of 4 i ++ more))

  first_byte : k ≡ byte_at here (length pre)
  unfolding byte_at
  first_byte =
      let z : length pre + 0 ≡ length pre = omega arith in
      sym (ap (byte_at here) (sym z) ∙ byte_behind pre (k ∷ (big_of 4 i ++ more)) 0)

  index_is : i ≡ entry_tile here (length pre)
  unfolding entry_tile
  index_is =
      let l = big_length 4 i in
      let p : 256 ^ 4 ≡ 4294967296 = refl in
      sym
      (big_behind 4 pre (k ∷ (big_of 4 i ++ more)) 1 ∙ big_behind 4 (k ∷ []) (big_of 4 i ++ more) 0 ∙ big_before 4 (big_of 4 i) more 0 (omega arith)
      ∙ big_of_lem 4 i (omega arith))

  cells_behind : (n : ℕ) → part here (length pre + 5) n ≡ part more 0 n
  cells_behind n =
      let l : length (k ∷ big_of 4 i) + 0 ≡ 5 = omega (arith, big_length 4 i) in
      part_behind pre (k ∷ (big_of 4 i ++ more)) 5 n ∙ ap (λ (a : ℕ). part (k ∷ (big_of 4 i ++ more)) a n) (sym l) ∙ part_behind (k ∷ big_of 4 i) more 0 n

  here_long : length here ≡ length pre + 5 + length more
  here_long = length-append pre (k ∷ (big_of 4 i ++ more)) ∙ omega (arith, length-append (big_of 4 i) more, big_length 4 i)

-- an entry as it stands in a log

record EntryThere (m t : ℕ) (log : List ℕ) (p : ℕ) (x : LogEntry) : Type 0 where
  right : entry_right m t log p ≡ true
  ends : end_of_entry t log p ≡ p + length (entry_bytes x)
  call : call_at t log p ≡ call_of x

call_store : (t : ℕ) (log : List ℕ) (p i : ℕ) (c : List ℕ) → is_store log p ≡ true → entry_tile log p ≡ i → entry_cells t log p ≡ c → call_at t log p ≡ Call.Storing i c
unfolding call_at
call_store t log p i c e f g = rw (e, f, g)

call_remove : (t : ℕ) (log : List ℕ) (p i : ℕ) → is_store log p ≡ false → entry_tile log p ≡ i → call_at t log p ≡ Call.Removing i
unfolding call_at
call_remove t log p i e f = rw (e, f)

module _ (m t : ℕ) (many : m ≤ 4294967296) where
  there : (x : LogEntry) → EntryFits m t x → (pre rest : List ℕ) → EntryThere m t (pre ++ (entry_bytes x ++ rest)) (length pre) x
  unfolding entry_cells
  there (LogEntry.Store i c) f pre rest =
      let a : pre ++ (1 ∷ ((big_of 4 i ++ c) ++ rest)) ≡ pre ++ (1 ∷ (big_of 4 i ++ (c ++ rest))) = ap (λ (l : List ℕ). pre ++ (1 ∷ l)) (append_assoc (big_of 4 i) c rest) in
      let small : i < 4294967296 = omega (arith, f.0) in
      let b = first_byte pre 1 i (c ++ rest) small in
      let e = index_is pre 1 i (c ++ rest) small in
      let n = here_long pre 1 i (c ++ rest) small in
      let l = length-append c rest in
      let log = pre ++ (1 ∷ (big_of 4 i ++ (c ++ rest))) in
      let w = whole_store t log (length pre) 1 b refl (omega (arith, f.1)) in
      let cells : part log (length pre + 5) t ≡ c
      = cells_behind pre 1 i (c ++ rest) small t ∙ part_before c rest 0 t (omega (arith, f.1)) ∙ ap (part c 0) (sym f.1) ∙ part_whole c
      in
      rw a
      (record {
        right = sym (entry_yes m t log (length pre) i w refl e f.0);
        ends = end_store t log (length pre) 1 b refl ∙ omega (arith, length-append (big_of 4 i) c, big_length 4 i, f.1);
        call = call_store t log (length pre) i c (sym (store_is log (length pre) 1 b)) (sym e) cells;
      })
  there (LogEntry.Remove i) f pre rest =
      let small : i < 4294967296 = omega arith in
      let b = first_byte pre 2 i rest small in
      let e = index_is pre 2 i rest small in
      let n = here_long pre 2 i rest small in
      let log = pre ++ (2 ∷ (big_of 4 i ++ rest)) in
      let w = whole_remove t log (length pre) 2 b (λ z. omega arith) refl (omega arith) in
      record {
        right = sym (entry_yes m t log (length pre) i w refl e f);
        ends = end_other t log (length pre) 2 b (λ z. omega arith) ∙ omega (arith, big_length 4 i);
        call = call_remove t log (length pre) i (sym (store_is log (length pre) 2 b)) (sym e);
      }

  -- entries one behind the other

  record AllThere (log : List ℕ) (p : ℕ) (xs : List LogEntry) : Type 0 where
    calls : calls_from m t log p ≡ map call_of xs
    ends : entries_end t log p (entries_from m t log p) ≡ length log

  none_there : (log : List ℕ) (p : ℕ) → p ≡ length log → AllThere log p []
  unfolding entries_end
  none_there log p e = record { calls = calls_none m t log p (omega arith); ends = ap (entries_end t log p) (from_end m t log p (omega arith)) ∙ e }

  one_more_lem : (log : List ℕ) (p : ℕ) (x : LogEntry) (xs : List LogEntry) → EntryThere m t log p x → AllThere log (p + length (entry_bytes x)) xs → AllThere log p (x ∷ xs)
  unfolding entries_end
  one_more_lem log p x xs a w =
      let e = a.ends in
      record {
        calls = calls_next m t log p a.right ∙ rw (e, a.call, w.calls);
        ends = ap (entries_end t log p) (from_right m t log p a.right) ∙ ap (λ (q : ℕ). entries_end t log q (entries_from m t log q)) e ∙ w.ends;
      }

  all_there : (xs : List LogEntry) → EachFits m t xs → (pre : List ℕ) → AllThere (pre ++ body_of xs) (length pre) xs
  all_there [] f pre = none_there (pre ++ []) (length pre) (sym (ap length (append-nil pre)))
  all_there (x ∷ xs) f pre =
      let a : pre ++ entry_bytes x ++ body_of xs ≡ pre ++ (entry_bytes x ++ body_of xs) = append_assoc pre (entry_bytes x) (body_of xs) in
      let l = length-append pre (entry_bytes x) in
      one_more_lem (pre ++ (entry_bytes x ++ body_of xs)) (length pre) x xs (there x f.0 pre (body_of xs))
      (rw (a, l) at (all_there xs f.1 (pre ++ entry_bytes x)))

  -- the log of some entries

  module _ (xs : List LogEntry) (f : EachFits m t xs) (h : 1 + length (body_of xs) < 4294967296) where
    abbrev n : ℕ
    n = 1 + length (body_of xs)

    abbrev head : List ℕ
    head = big_of 4 n ++ (1 ∷ [])

    head_long : length head ≡ 5
    head_long = length-append (big_of 4 n) (1 ∷ []) ∙ omega (arith, big_length 4 n)

    as_head : head ++ body_of xs ≡ log_of xs
    unfolding log_of
    as_head = append_assoc (big_of 4 n) (1 ∷ []) (body_of xs)

    from_five : AllThere (log_of xs) 5 xs
    from_five = rw (as_head, head_long) at (all_there xs f head)

    log_long : length (log_of xs) ≡ 4 + n
    unfolding log_of
    log_long = length-append (big_of 4 n) (1 ∷ body_of xs) ∙ omega (arith, big_length 4 n)

    length_said : big_at 4 (log_of xs) 0 ≡ n
    unfolding log_of
    length_said =
        let p : 256 ^ 4 ≡ 4294967296 = refl in
        big_before 4 (big_of 4 n) (1 ∷ body_of xs) 0 (omega (arith, big_length 4 n)) ∙ big_of_lem 4 n (omega arith)

    version_said : byte_at (log_of xs) 4 ≡ 1
    unfolding log_of byte_at
    version_said =
        let l : length (big_of 4 n) + 0 ≡ 4 = omega (arith, big_length 4 n) in
        ap (byte_at (big_of 4 n ++ (1 ∷ body_of xs))) (sym l) ∙ byte_behind (big_of 4 n) (1 ∷ body_of xs) 0

    log_right_lem : log_right m t (log_of xs) ≡ true
    unfolding log_right
    log_right_lem = sym (yes _ (omega (arith, log_long), (omega (arith, log_long, length_said), (version_said, (from_five.ends, tt)))))

    written : Logged m t xs (log_of xs)
    written = record { fits = f; bytes = refl; right = log_right_lem; calls = from_five.calls }

pub log_written : LogWritten
log_written m t k xs f h = written m t k xs f h

-- what is behind a place, by its first bytes

drop_part : (s : List ℕ) (at n : ℕ) → at + n ≤ length s → drop at s ≡ part s at n ++ drop (at + n) s
drop_part s at n h =
    sym (take-append-drop n (drop at s)) ∙ ap (λ (l : List ℕ). l ++ drop n (drop at s)) (sym (part_in s at n h))
    ∙ ap (λ (l : List ℕ). part s at n ++ l) (drop-drop n at s)

drop_first : (s : List ℕ) (at : ℕ) → at < length s → drop at s ≡ byte_at s at ∷ drop (at + 1) s
unfolding byte_at
drop_first s at h = let e : suc at ≡ at + 1 = omega arith in drop-cons s at 0 h ∙ ap (λ (x : ℕ). get_or s at 0 ∷ drop x s) e

drop_none : (s : List ℕ) → drop (length s) s ≡ []
drop_none [] = refl
drop_none (x ∷ s) = drop_none s

-- the entries of a right log

module _ (m t : ℕ) (log : List ℕ) (v : Bytes log) (r : log_right m t log ≡ true) where
  record From (p : ℕ) : Type 0 where
    entries : List LogEntry
    fits : EachFits m t entries
    bytes : drop p log ≡ body_of entries

  head_from : (p : ℕ) → p + 5 ≤ length log → drop p log ≡ byte_at log p ∷ (big_of 4 (entry_tile log p) ++ drop (p + 5) log)
  unfolding entry_tile
  head_from p h =
      let a = drop_part log (p + 1) 4 (omega arith) in
      let e : p + 1 + 4 ≡ p + 5 = omega arith in
      drop_first log p (omega arith)
      ∙ ap (λ (l : List ℕ). byte_at log p ∷ l)
      (a ∙ ap (λ (l : List ℕ). l ++ drop (p + 1 + 4) log) (sym (big_part 4 log (p + 1) v (omega arith))) ∙ ap (λ (x : ℕ). big_of 4 (big_at 4 log (p + 1)) ++ drop x log) e)

  module _ (p : ℕ) (e : entry_right m t log p ≡ true) where
    whole : ((1 ≤ byte_at log p) × (byte_at log p ≤ 2)) × (end_of_entry t log p ≤ length log)
    unfolding entry_right entry_whole
    whole = let a = means _ (means _ e).0 in ((a.0, a.1.0), a.1.1.0)

    below : entry_tile log p < m
    unfolding entry_right
    below = omega (arith, (means _ e).1.0)

    stored : byte_at log p ≡ 1 → From (end_of_entry t log p) → From p
    unfolding entry_cells
    stored k w =
        let z = end_store t log p (byte_at log p) refl k in
        let h : p + 5 + t ≤ length log = omega (arith, whole.1) in
        let c = part log (p + 5) t in
        let rest : drop (p + 5) log ≡ c ++ body_of w.entries = drop_part log (p + 5) t h ∙ ap (λ (l : List ℕ). c ++ l) (ap (λ (x : ℕ). drop x log) (sym z) ∙ w.bytes) in
        record {
          entries = LogEntry.Store (entry_tile log p) c ∷ w.entries;
          fits = ((below, part_length log (p + 5) t h), w.fits);
          bytes =
              head_from p (omega arith) ∙ ap (λ (x : ℕ). x ∷ (big_of 4 (entry_tile log p) ++ drop (p + 5) log)) k
              ∙ ap (λ (l : List ℕ). 1 ∷ l) (ap (λ (l : List ℕ). big_of 4 (entry_tile log p) ++ l) rest ∙ sym (append_assoc (big_of 4 (entry_tile log p)) c (body_of w.entries)));
        }

    removed : (byte_at log p ≡ 1 → ⊥) → From (end_of_entry t log p) → From p
    removed k w =
        let z = end_other t log p (byte_at log p) refl k in
        let two : byte_at log p ≡ 2 = not_one (byte_at log p) whole.0.0 whole.0.1 k in
        record {
          entries = LogEntry.Remove (entry_tile log p) ∷ w.entries;
          fits = (below, w.fits);
          bytes =
              head_from p (omega (arith, whole.1)) ∙ ap (λ (x : ℕ). x ∷ (big_of 4 (entry_tile log p) ++ drop (p + 5) log)) two
              ∙ ap (λ (l : List ℕ). 2 ∷ (big_of 4 (entry_tile log p) ++ l)) (ap (λ (x : ℕ). drop x log) (sym z) ∙ w.bytes);
        }
      where
        not_one : (b : ℕ) → 1 ≤ b → b ≤ 2 → (b ≡ 1 → ⊥) → b ≡ 2
        not_one b h i k = omega arith

    entry_from_lem : From (end_of_entry t log p) → From p
    entry_from_lem w = go (eqb (byte_at log p) 1) refl
      where
        go : (b : Bool) → eqb (byte_at log p) 1 ≡ b → From p
        go true f = stored (eqb-true (byte_at log p) 1 f) w
        go false f = removed (eqb-false (byte_at log p) 1 f) w

  at_end : (p : ℕ) → p ≡ length log → From p
  at_end p e = record { entries = []; fits = tt; bytes = ap (λ (x : ℕ). drop x log) e ∙ drop_none log }

  from : (k p : ℕ) → length log ≤ p + k → Walks m t log p → From p
  from zero p h w = at_end p (omega (arith, w.inside))
  from (suc k) p h w =
      by_cases (dec_le (length log) p) (λ l. at_end p (omega (arith, w.inside)))
      (λ l.
      let e = walks_right m t log p w r (omega arith) in
      entry_from_lem p e (from k (end_of_entry t log p) (omega (arith, end_least t log p)) (walks_on m t log p (end_of_entry t log p) w (sym e) refl)))

  all_from : From 5
  all_from = from (length log) 5 (omega arith) (walks_first m t log (right_least m t log r))

  judged : (big_at 4 log 0 + 4 ≡ length log) × (byte_at log 4 ≡ 1)
  unfolding log_right
  judged = let a = means _ r in (a.1.0, a.1.1.0)

  read_bytes : log ≡ log_of all_from.entries
  unfolding log_of
  read_bytes =
      let xs = all_from.entries in
      let l = right_least m t log r in
      let four : drop 4 log ≡ 1 ∷ body_of xs = drop_first log 4 (omega arith) ∙ ap (λ (x : ℕ). x ∷ drop 5 log) judged.1 ∙ ap (λ (y : List ℕ). 1 ∷ y) all_from.bytes in
      let n : big_at 4 log 0 ≡ 1 + length (body_of xs) = omega (arith, judged.0, ap length four, length-drop 4 log) in
      drop_part log 0 4 (omega arith) ∙ ap (λ (y : List ℕ). y ++ drop 4 log) (sym (big_part 4 log 0 v (omega arith)))
      ∙ ap (λ (x : ℕ). big_of 4 x ++ drop 4 log) n ∙ ap (λ (y : List ℕ). big_of 4 (1 + length (body_of xs)) ++ y) four

  few : 1 + length (body_of all_from.entries) < 4294967296
  few =
      let xs = all_from.entries in
      let p : 256 ^ 4 ≡ 4294967296 = refl in
      let a : length log ≡ 5 + length (body_of xs) = omega (arith, ap length all_from.bytes, length-drop 5 log, right_least m t log r) in
      omega (arith, judged.0, big_small 4 log 0 v)

  read : m ≤ 4294967296 → (xs : List LogEntry) × Logged m t xs log
  read k =
      let w = log_written m t k all_from.entries all_from.fits few in
      let e = read_bytes in
      (all_from.entries, rw (← e) at w)

pub log_read : LogRead
log_read m t k log v r = read m t log v r k
