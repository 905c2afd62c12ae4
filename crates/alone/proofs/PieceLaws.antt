-- Stages 7 and 8 of a page, piece by piece. Assumes nothing.
use Rattle.std.specs.Prelude.{None, Option, Some}
use Prim.Native.Nat.{ℕ, ◌+◌}
use mathlib.Core.Path.{◌≡◌, refl, sym, ap, ap₂, ◌∙◌}
use mathlib.Core.List.{List, [], ◌∷◌, ◌++◌, append_assoc}
use mathlib.Core.Bool.{Bool, true, false}
use native.Mathlib.Omega.{arith}
use lib.ListN.{length, length-append}
use Rattle.wire.specs.Bytes.{part}
use Rattle.wire.proofs.ByteLaws.{part_whole}
use Rattle.wire.proofs.PlaceLaws.{Placed, placed_last, placed_number, placed_part}
use Rattle.record.specs.Record.{length_at, record_ok}
use Rattle.record.specs.Chain.{find, find_not, records, starts, Whole, joined, starts_of, WellFormed}
use Rattle.record.proofs.ChainLaws.{ok_means, whole_starts, joined_whole}
use Rattle.check_records.specs.declared.Rule.{Rule}
use Rattle.check_records.specs.declared.Rule.TheVariants.{Checksum, Body}
use Rattle.check_records.specs.Checksum.{checksum_right}
use Rattle.check_records.specs.Faults.{right_of, first_wrong, checksum_fault, body_fault}
use Rattle.pieces.specs.Pieces.{piece_at, pieces_of}
use Rattle.pieces.proofs.SplitLaws.{piece_placed, piece_ok, piece_length, piece_long}
use Rattle.alone.specs.Alone.{SameRecord, SameHeader, Front, alone, AllAlone, ByPieces}
use Rattle.alone.proofs.HeaderLaws.{header_sym, header_trans, front_end, front_header}
use Rattle.alone.proofs.MovedLaws.{moved_placed}
use Rattle.alone.proofs.AloneLaws.{rule_same}

-- a record that stands at two places
pub placed_same : {s t r : List ℕ} {x y : ℕ} → Placed s x r → Placed t y r → record_ok r 0 ≡ true → length_at r 0 ≡ length r → SameRecord s x t y
placed_same {s} {t} {r} {x} {y} p q o l =
    let i = ok_means r 0 o in
    let z : x + 0 ≡ x = omega arith in
    let n : length_at s x ≡ length r = (rw z at (placed_number p 4 0 (omega (arith, i.long)))) ∙ l in
    record { long = omega (arith, i.long); moved = rw n (moved_placed p q) }

-- a record's rules are asked of the record alone
pub alone_is :
    {t r : List ℕ} {x : ℕ} (f : List ℕ) → Front f → SameHeader t f → Placed t x r → record_ok r 0 ≡ true → length_at r 0 ≡ length r → (rule : Rule) →
    right_of t rule x ≡ alone f rule r
unfolding alone
alone_is {t} {r} {x} f w h p o l rule =
    rule_same (placed_same p (placed_last f r refl) o l) (header_trans h (front_header w r)) rule

-- behind any front whose header says the same, as the times and the references do not matter
pub front_changes :
    (f g : List ℕ) → Front f → Front g → SameHeader f g → (rule : Rule) (rs : List (List ℕ)) → WellFormed rs → AllAlone f rule rs → AllAlone g rule rs
unfolding alone
front_changes f g w u h rule [] v a = _
front_changes f g w u h rule (r ∷ rs) v a =
    let k = header_trans (header_trans (header_sym (front_header w r)) h) (front_header u r) in
    let e = rule_same (placed_same (placed_last f r refl) (placed_last g r refl) v.0.0 v.0.1) k rule in
    (sym e ∙ a.0, front_changes f g w u h rule rs v.1 a.1)

-- the first that is wrong

pub none_here : (s : List ℕ) (rule : Rule) (x : ℕ) (xs : List ℕ) → right_of s rule x ≡ true → first_wrong s rule (x ∷ xs) ≡ first_wrong s rule xs
unfolding first_wrong find_not find
none_here s rule x xs e = rw e

found : {C : Type 0} {x : ℕ} {f : Option ℕ} → Some x ≡ f → f ≡ None → C
found p q = let z : ◌≡◌ {A = ℕ} 0 1 = cc in absurd (omega arith)

pub here_right : (s : List ℕ) (rule : Rule) (x : ℕ) (xs : List ℕ) → first_wrong s rule (x ∷ xs) ≡ None → right_of s rule x ≡ true
unfolding first_wrong find_not find
here_right s rule x xs e = go (right_of s rule x) refl
  where
    go : (b : Bool) → right_of s rule x ≡ b → right_of s rule x ≡ true
    go true p = p
    go false p = found refl (rw p at e)

-- the pieces of joined pieces are these
pub pieces_joined : (t a : List ℕ) (rs : List (List ℕ)) → t ≡ a ++ joined rs → WellFormed rs → pieces_of t (starts_of (length a) rs) ≡ rs
unfolding pieces_of piece_at
pieces_joined t a [] e v = refl
pieces_joined t a (r ∷ rs) e v =
    let p : Placed t (length a) r = record { before = a; behind = joined rs; whole = e; start = refl } in
    let i = ok_means r 0 v.0.0 in
    let z : length a + 0 ≡ length a = omega arith in
    let l : length_at t (length a) ≡ length r = (rw z at (placed_number p 4 0 (omega (arith, i.long, v.0.1)))) ∙ v.0.1 in
    let q : part t (length a) (length_at t (length a)) ≡ r = ap (part t (length a)) l ∙ (rw z at (placed_part p 0 (length r) (omega arith))) ∙ part_whole r in
    ap₂ (λ (x : List ℕ) (y : List (List ℕ)). x ∷ y) q
    (ap (λ (n : ℕ). pieces_of t (starts_of n rs)) (sym (length-append a r)) ∙ pieces_joined t (a ++ r) rs (e ∙ sym (append_assoc a r (joined rs))) v.1)

module _ (f : List ℕ) (w : Front f) where
  taken :
      (s : List ℕ) → SameHeader s f → (at : ℕ) (xs : List ℕ) → Whole s at xs → (rule : Rule) → first_wrong s rule xs ≡ None →
      AllAlone f rule (pieces_of s xs)
  unfolding pieces_of
  taken s h at [] c rule e = _
  taken s h at (x ∷ xs) c rule e =
      let o = c.1.0 in
      let k = here_right s rule x xs e in
      let l = piece_length s x o ∙ sym (piece_long s x o) in
      (sym (alone_is f w h (piece_placed s x o) (piece_ok s x o) l rule) ∙ k, taken s h (x + length_at s x) xs c.1.1 rule (sym (none_here s rule x xs k) ∙ e))

  -- behind other records that are already there
  kept :
      (t : List ℕ) → SameHeader t f → (a : List ℕ) (rs : List (List ℕ)) → t ≡ a ++ joined rs → WellFormed rs → (rule : Rule) → AllAlone f rule rs →
      first_wrong t rule (starts_of (length a) rs) ≡ None
  unfolding first_wrong find_not find
  kept t h a [] e v rule k = refl
  kept t h a (r ∷ rs) e v rule k =
      let p : Placed t (length a) r = record { before = a; behind = joined rs; whole = e; start = refl } in
      let i = alone_is f w h p v.0.0 v.0.1 rule ∙ k.0 in
      none_here t rule (length a) (starts_of (length a + length r) rs) i
      ∙ ap (λ (n : ℕ). first_wrong t rule (starts_of n rs)) (sym (length-append a r))
      ∙ kept t h (a ++ r) rs (e ∙ sym (append_assoc a r (joined rs))) v.1 rule k.1

  pub starts_are : (rs : List (List ℕ)) → WellFormed rs → records (f ++ joined rs) ≡ starts_of (length f) rs
  unfolding records
  starts_are rs v = ap (starts (f ++ joined rs)) (front_end w (joined rs)) ∙ whole_starts _ _ _ (joined_whole f rs v)

  -- a page that passes has pieces that keep the rule
  pub wrong_none : (rs : List (List ℕ)) → WellFormed rs → (rule : Rule) → first_wrong (f ++ joined rs) rule (records (f ++ joined rs)) ≡ None → AllAlone f rule rs
  wrong_none rs v rule e =
      rw (pieces_joined (f ++ joined rs) f rs refl v) at
      (taken (f ++ joined rs) (header_sym (front_header w (joined rs))) (length f) (starts_of (length f) rs) (joined_whole f rs v) rule
      (ap (first_wrong (f ++ joined rs) rule) (sym (starts_are rs v)) ∙ e))

  pub none_wrong : (rs : List (List ℕ)) → WellFormed rs → (rule : Rule) → AllAlone f rule rs → first_wrong (f ++ joined rs) rule (records (f ++ joined rs)) ≡ None
  none_wrong rs v rule k =
      ap (first_wrong (f ++ joined rs) rule) (starts_are rs v)
      ∙ kept (f ++ joined rs) (header_sym (front_header w (joined rs))) f rs refl v rule k

  pub checksums :
      (rs : List (List ℕ)) → WellFormed rs → checksum_right (f ++ joined rs) 16 ≡ true → AllAlone f Checksum rs → checksum_fault (f ++ joined rs) ≡ None
  unfolding checksum_fault right_of
  checksums rs v h k = none_here (f ++ joined rs) Checksum 16 (records (f ++ joined rs)) h ∙ none_wrong rs v Checksum k

  pub bodies : (rs : List (List ℕ)) → WellFormed rs → AllAlone f Body rs → body_fault (f ++ joined rs) ≡ None
  unfolding body_fault
  bodies rs v k = none_wrong rs v Body k

pub by_pieces : ByPieces
by_pieces f w = record { taken = taken f w; checksums = checksums f w; bodies = bodies f w }
