-- A sound page in a buffer: its front, its pieces and what is behind it; a record put behind it. Assumes nothing.
use Prim.Native.Nat.{ℕ, ◌+◌, ◌≤◌}
use mathlib.Core.Path.{◌≡◌, refl, sym, ap, ◌∙◌}
use mathlib.Core.List.{List, [], ◌∷◌, ◌++◌, append_assoc, append-nil}
use mathlib.Core.Bool.{Bool, true, false, not}
use native.Mathlib.Omega.{arith}
use lib.ListN.{length, take, drop, length-append, length-drop, take-append-drop}
use lib.Seq.{length-take-le, drop-drop}
use Rattle.wire.specs.Pick.{pick}
use Rattle.wire.proofs.ByteLaws.{part_in, part_length}
use Rattle.record.specs.Chain.{header_end, joined, records}
use Rattle.page_check.specs.Accepted.{Sound}
use Rattle.page_check.proofs.GivenLaws.{sound_range}
use Rattle.pieces.specs.Pieces.{pieces}
use Rattle.stores.specs.Stores.{run}
use Rattle.stores.specs.Writes.{whole_write}
use Rattle.writable.proofs.PartLaws.{sound_parted}
use Rattle.correct.specs.Front.{page_in}
use Rattle.page_laws.proofs.MoreLaws.{joined_append}
use Rattle.effects.proofs.LieLaws.{whole_middle, Lie, lie_none, lie_whole}

-- a page is the first bytes of its buffer

pub page_split : (b : List ℕ) (n : ℕ) → n ≤ length b → b ≡ page_in b n ++ drop n b
unfolding page_in
page_split b n h = sym (ap (λ (l : List ℕ). l ++ drop n b) (part_in b 0 n (omega arith)) ∙ take-append-drop n b)

pub page_long : (b : List ℕ) (n : ℕ) → n ≤ length b → length (page_in b n) ≡ n
unfolding page_in
page_long b n h = part_length b 0 n (omega arith)

pub pick_not : {A : Type 0} (b : Bool) (x y : A) → pick b x y ≡ pick (not b) y x
pick_not true x y = refl
pick_not false x y = refl

-- a record put behind the bytes p, where `there` says so

abbrev pub added : Bool → List ℕ → List ℕ
added there v = joined (pick there (v ∷ []) [])

module _ (room : ℕ) (there : Bool) (v : List ℕ) (n : ℕ) where
  end_run :
      (p z : List ℕ) → length p ≡ n → n + length (added there v) ≤ room → length (added there v) ≤ length z →
      run (pick there (whole_write room n v) []) (p ++ z) ≡ p ++ (added there v ++ drop (length (added there v)) z)
  unfolding run
  end_run p z e h k = go there h k
    where
      go :
          (c : Bool) → n + length (added c v) ≤ room → length (added c v) ≤ length z →
          run (pick c (whole_write room n v) []) (p ++ z) ≡ p ++ (added c v ++ drop (length (added c v)) z)
      go true i j =
          let a : v ++ [] ≡ v = append-nil v in
          let l : length (v ++ []) ≡ length v = ap length a in
          let m : length (take (length v) z) ≡ length v = length-take-le (length v) z (omega arith) in
          ap (λ (y : List ℕ). run (whole_write room n v) (p ++ y)) (sym (take-append-drop (length v) z))
          ∙ whole_middle room p (take (length v) z) v (drop (length v) z) e m (omega arith)
          ∙ ap (λ (y : List ℕ). p ++ (y ++ drop (length y) z)) (sym a)
      go false i j = refl

  pub end_lies : Lie 0 (n + length (added there v)) 1 (pick there (whole_write room n v) [])
  end_lies = go there
    where
      go : (c : Bool) → Lie 0 (n + length (added c v)) 1 (pick c (whole_write room n v) [])
      go true = lie_whole room 0 (n + length (v ++ [])) 1 n v (omega arith) (omega (arith, length-append v [])) (omega arith)
      go false = lie_none 0 (n + 0) 1

-- a sound page, and a record put behind it

module _ (b : List ℕ) (n : ℕ) (inside : n ≤ length b) (sound : Sound (page_in b n)) where
  abbrev s : List ℕ
  s = page_in b n

  pub buffer_split : b ≡ take (header_end s) s ++ (joined (pieces s) ++ drop n b)
  buffer_split =
      page_split b n inside ∙ ap (λ (l : List ℕ). l ++ drop n b) (sound_parted s sound).whole
      ∙ append_assoc (take (header_end s) s) (joined (pieces s)) (drop n b)

  pub front_ends : length (take (header_end s) s) ≡ header_end s
  front_ends = (sound_parted s sound).ends

  pub front_least : 288 ≤ length (take (header_end s) s)
  front_least = omega (arith, front_ends, (sound_range s (records s) sound).header_least)

  pub pieces_long : length (take (header_end s) s) + length (joined (pieces s)) ≡ n
  pieces_long =
      sym (length-append (take (header_end s) s) (joined (pieces s))) ∙ ap length (sym (sound_parted s sound).whole) ∙ page_long b n inside

  pub end_made :
      (g : List ℕ) (there : Bool) (v : List ℕ) → length g ≡ length (take (header_end s) s) → length s + length (added there v) ≤ length b →
      run (pick there (whole_write (length b) (length s) v) []) (g ++ (joined (pieces s) ++ drop n b))
      ≡ g ++ (joined (pieces s) ++ (added there v ++ drop (length (added there v)) (drop n b)))
  end_made g there v e h =
      let j = joined (pieces s) in
      let z = drop n b in
      let k = page_long b n inside in
      let l : length (g ++ j) ≡ length s = length-append g j ∙ omega (arith, pieces_long) in
      ap (run (pick there (whole_write (length b) (length s) v) [])) (sym (append_assoc g j z))
      ∙ end_run (length b) there v (length s) (g ++ j) z l h (omega (arith, length-drop n b)) ∙ append_assoc g j (added there v ++ drop (length (added there v)) z)

  -- pieces with others behind them, and what is behind all
  pub page_made :
      (g : List ℕ) (rs qs : List (List ℕ)) →
      g ++ (joined rs ++ (joined qs ++ drop (length (joined qs)) (drop n b))) ≡ g ++ joined (rs ++ qs) ++ drop (length s + length (joined qs)) b
  page_made g rs qs =
      let i : n + length (joined qs) ≡ length s + length (joined qs) = omega (arith, page_long b n inside) in
      let e : drop (length (joined qs)) (drop n b) ≡ drop (length s + length (joined qs)) b = drop-drop (length (joined qs)) n b ∙ ap (λ (k : ℕ). drop k b) i in
      rw (joined_append rs qs, ← e) (simp append_assoc)
