-- A walk over the records that looks whether two free ones adjoin. Assumes nothing.
use Prim.Native.Nat.{ℕ, ◌+◌}
use mathlib.Core.Path.{◌≡◌, refl, sym, ap, ◌∙◌}
use mathlib.Core.List.{List, [], ◌∷◌}
use mathlib.Core.Logic.{◌⊎◌}
use mathlib.Core.Bool.{Bool, true, false, ◌&&◌}
use lib.Dec.{eqb}
use denote.Enum.Declared.{tag_of}
use Rattle.wire.specs.Pick.{pick}
use Rattle.wire.specs.Tests.{◌≡?◌, passes}
use Rattle.record.specs.declared.Cursor.{Cursor}
use Rattle.record.specs.declared.Step.{Step}
use Rattle.record.specs.declared.Step.TheVariants.{Record}
use Rattle.record.specs.Record.{length_at, type_at, record_ok, step_at}
use Rattle.record.specs.Chain.{header_end, records, starts}
use Rattle.record.proofs.ChainLaws.{stepped, less, starts_none, starts_record}
use Rattle.record.proofs.SeekLaws.{over}
use Rattle.record.specs.contracts.Step.{the_type}
use Rattle.pieces.specs.Pieces.{piece_at, pieces_of, pieces, is_free, nothing_to_join}
use Rattle.pieces.proofs.SplitLaws.{piece_free}

-- no two of the records adjoin, nor the first of them and the one before, which is free where `free` says so
abbrev behind : Bool → List (List ℕ) → Bool
behind free [] = true
behind free (r ∷ rs) = pick (free && is_free r) false (nothing_to_join (r ∷ rs))

behind_used : (rs : List (List ℕ)) → behind false rs ≡ nothing_to_join rs
unfolding nothing_to_join
behind_used [] = refl
behind_used (r ∷ rs) = refl

behind_next : (r : List ℕ) (rs : List (List ℕ)) → nothing_to_join (r ∷ rs) ≡ behind (is_free r) rs
unfolding nothing_to_join
behind_next r [] = refl
behind_next r (q ∷ qs) = refl

-- what is left to look at decides, where the record before is of type `last`
pub record Joining (s : List ℕ) (at last : ℕ) : Type 0 where
  pub same : behind (eqb last 0) (pieces_of s (starts s at)) ≡ nothing_to_join (pieces s)

pub join_begin : (s : List ℕ) (at : ℕ) → at ≡ header_end s → Joining s at 6
unfolding pieces records
join_begin s at e = record { same = rw e (behind_used (pieces_of s (starts s (header_end s)))) }

both_is : (a b : ℕ) → passes ((a ≡? 0) ∷ (b ≡? 0) ∷ []) ≡ (eqb a 0 && eqb b 0)
unfolding passes
both_is a b = go (eqb a 0) refl (eqb b 0) refl
  where
    go : (c : Bool) → eqb a 0 ≡ c → (d : Bool) → eqb b 0 ≡ d → passes ((a ≡? 0) ∷ (b ≡? 0) ∷ []) ≡ (eqb a 0 && eqb b 0)
    go true e true f = rw (e, f)
    go true e false f = rw (e, f)
    go false e d f = rw e

-- the record at a position, and those behind it

here :
    (s : List ℕ) (at : ℕ) → record_ok s at ≡ true → (free : Bool) →
    behind free (pieces_of s (starts s at))
    ≡ pick (free && eqb (type_at s at) 0) false (behind (eqb (type_at s at) 0) (pieces_of s (starts s (at + length_at s at))))
unfolding pieces_of
here s at o free =
    rw (starts_record s at o, behind_next (piece_at s at) (pieces_of s (starts s (at + length_at s at))), piece_free s at o)

module _
    {s : List ℕ} {at last k st n : ℕ} {nx : Cursor} {x : Step} {r : Bool} (i : Joining s at last) (u : x ≡ Record k st n nx) (v : x ≡ step_at s at)
    (q : r ≡ passes ((last ≡? 0) ∷ (k ≡? 0) ∷ []))
  where
    kind_is : k ≡ type_at s at
    kind_is = let h = stepped u v in h.kind ∙ ap (type_at s) h.start

    told : (b : Bool) → r ≡ b → pick b false (behind (eqb k 0) (pieces_of s (starts s nx.at))) ≡ nothing_to_join (pieces s)
    told b e =
        let h = stepped u v in
        let w : (eqb last 0 && eqb k 0) ≡ b = sym (both_is last k) ∙ sym q ∙ e in
        rw (← w, kind_is, h.next) (sym (here s at h.ok (eqb last 0)) ∙ i.same)

    pub join_next : r ≡ false → Joining s nx.at k
    join_next e = record { same = told false e }

    pub join_found : r ≡ true → false ≡ nothing_to_join (pieces s)
    join_found e = told true e

pub join_over :
    {s : List ℕ} {at last : ℕ} {x : Step} → Joining s at last → x ≡ step_at s at → (tag_of the_type x ≡ 1) ⊎ (tag_of the_type x ≡ 2) →
    true ≡ nothing_to_join (pieces s)
unfolding pieces_of
join_over {s} {at} {last} {x} i v t = sym (rw (starts_none s at (over s at x v t))) ∙ i.same

pub ruleset join = (less, join_begin, join_next, join_found, join_over)
