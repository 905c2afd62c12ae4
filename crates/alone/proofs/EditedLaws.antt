-- An edit of a page behind the same front, whole. Assumes nothing.
use Rattle.std.specs.Prelude.{None}
use Prim.Native.Nat.{ℕ, ◌+◌, ◌≤◌}
use mathlib.Core.Path.{◌≡◌, refl, sym, ap, ap₂, ◌∙◌}
use mathlib.Core.List.{List, [], ◌∷◌, ◌++◌, map}
use mathlib.Core.Bool.{Bool, true, false, ◌&&◌}
use native.Mathlib.Omega.{arith}
use lib.ListN.{length, length-append}
use lib.Dec.{eqb}
use borrow.Author.Tests.{eqb-true, eqb-false}
use Rattle.wire.specs.Pick.{pick}
use Rattle.wire.specs.Bytes.{Bytes, largest_integer}
use Rattle.wire.proofs.ByteLaws.{part_before, number_before}
use Rattle.wire.proofs.TestLaws.{no_true}
use Rattle.record.specs.Chain.{header_end, records, joined, starts_of, WellFormed}
use Rattle.record.specs.Record.{type_at}
use Rattle.record.proofs.ChainLaws.{joined_whole}
use Rattle.header.specs.Fields.{header_length}
use Rattle.check_records.specs.declared.Rule.{Rule}
use Rattle.check_records.specs.declared.Rule.TheVariants.{Checksum, Body}
use Rattle.check_records.specs.Checksum.{checksum_right}
use Rattle.check_records.specs.Faults.{right_of, chain_fault, checksum_fault, body_fault}
use Rattle.check_records.proofs.RecordLaws.{whole_chain}
use Rattle.check_lists.specs.Metadata.{metadata_directory_right}
use Rattle.pieces.specs.Pieces.{free_record, is_free, nothing_to_join, freeing}
use Rattle.pieces.specs.Edits.{placed}
use Rattle.pieces.specs.Standing.{AllOf, standing, without}
use Rattle.pieces.proofs.FreeingLaws.{standing_other, standing_tail, freeing_well, freeing_none, freeing_standing, freeing_all}
use Rattle.pieces.proofs.PlacedLaws.{placed_well, placed_all, placed_others, placed_new, placed_none}
use Rattle.alone.specs.Alone.{SameRecord, Front, alone, AllAlone}
use Rattle.alone.specs.Edited.{Piece, Touches, placed_each, edited, New, Edit, InsertedEach, touched, EditKeeps}
use Rattle.alone.proofs.HeaderLaws.{header_sym, header_trans, front_long, front_header, front_end}
use Rattle.alone.proofs.ChecksumLaws.{checksum_same}
use Rattle.alone.proofs.PieceLaws.{none_here, here_right, wrong_none, checksums, bodies}
use Rattle.alone.proofs.StandLaws.{standing_keeps}
use Rattle.alone.proofs.FreeLaws.{free_bytes, free_checksum, free_body}

-- pieces

pub well_formed : (rs : List (List ℕ)) → AllOf Piece rs → WellFormed rs
well_formed [] a = _
well_formed (r ∷ rs) a = ((a.0.ok, a.0.stated), well_formed rs a.1)

all_bytes : (rs : List (List ℕ)) → AllOf Piece rs → AllOf Bytes rs
all_bytes [] a = _
all_bytes (r ∷ rs) a = (a.0.bytes, all_bytes rs a.1)

pub all_pieces : (rs : List (List ℕ)) → WellFormed rs → AllOf Bytes rs → AllOf Piece rs
all_pieces [] w a = _
all_pieces (r ∷ rs) w a = (record { ok = w.0.0; stated = w.0.1; bytes = a.0 }, all_pieces rs w.1 a.1)

-- done to all

module _ (f : List ℕ) (P : List ℕ → Type 0) (kind : ℕ) (g : List ℕ → List ℕ) (h : Touches f P kind g) where
  pub mapped_pieces : (rs : List (List ℕ)) → AllOf P rs → AllOf Piece (map g rs)
  mapped_pieces [] a = _
  mapped_pieces (r ∷ rs) a = (h.piece r a.0, mapped_pieces rs a.1)

  pub mapped_alone : (rule : Rule) (rs : List (List ℕ)) → AllOf P rs → AllAlone f rule rs → AllAlone f rule (map g rs)
  mapped_alone rule [] w a = _
  mapped_alone rule (r ∷ rs) w a = (h.rules r w.0 rule a.0, mapped_alone rule rs w.1 a.1)

  -- of other types stand the same
  pub mapped_standing : (other : ℕ) → (other ≡ kind → ⊥) → (at : ℕ) (rs : List (List ℕ)) → AllOf P rs → standing other at (map g rs) ≡ standing other at rs
  mapped_standing other z at [] w = refl
  mapped_standing other z at (r ∷ rs) w = go (eqb (type_at r 0) kind) refl (mapped_standing other z (at + length r) rs w.1)
    where
      go :
          (b : Bool) → eqb (type_at r 0) kind ≡ b → standing other (at + length r) (map g rs) ≡ standing other (at + length r) rs →
          standing other at (g r ∷ map g rs) ≡ standing other at (r ∷ rs)
      go true e i =
          let own : type_at r 0 ≡ kind = eqb-true _ _ e in
          standing_other other at (g r) (map g rs) (λ j. z (sym j ∙ h.type r w.0 ∙ own))
          ∙ ap (λ (l : ℕ). standing other (at + l) (map g rs)) (h.long r w.0)
          ∙ i
          ∙ sym (standing_other other at r rs (λ j. z (sym j ∙ own)))
      go false e i = ap (λ (q : List ℕ). standing other at (q ∷ map g rs)) (h.others r (eqb-false _ _ e)) ∙ standing_tail other at r (map g rs) rs i

  -- those that it changes stand where they stood
  pub mapped_own : (at : ℕ) (rs : List (List ℕ)) → AllOf P rs → standing kind at (map g rs) ≡ map (touched g) (standing kind at rs)
  unfolding standing
  mapped_own at [] w = refl
  mapped_own at (r ∷ rs) w =
      rw (h.type r w.0, h.long r w.0) (go (eqb (type_at r 0) kind) (mapped_own (at + length r) rs w.1))
    where
      go :
          (b : Bool) → standing kind (at + length r) (map g rs) ≡ map (touched g) (standing kind (at + length r) rs) →
          pick b ((at, g r) ∷ standing kind (at + length r) (map g rs)) (standing kind (at + length r) (map g rs))
          ≡ map (touched g) (pick b ((at, r) ∷ standing kind (at + length r) rs) (standing kind (at + length r) rs))
      go true i = ap (λ (l : List (ℕ × List ℕ)). (at, g r) ∷ l) i
      go false i = i

  free_same : (r : List ℕ) → P r → is_free (g r) ≡ is_free r
  unfolding is_free
  free_same r o = rw (h.type r o)

  pub mapped_none : (rs : List (List ℕ)) → AllOf P rs → nothing_to_join (map g rs) ≡ nothing_to_join rs
  unfolding nothing_to_join
  mapped_none [] w = refl
  mapped_none (r ∷ []) w = refl
  mapped_none (r ∷ q ∷ qs) w =
      rw (free_same r w.0, free_same q w.1.0)
      (ap (λ (b : Bool). pick (is_free r && is_free q) false b) (mapped_none (q ∷ qs) w.1))

  pub mapped_length : (rs : List (List ℕ)) → AllOf P rs → length (joined (map g rs)) ≡ length (joined rs)
  mapped_length [] w = refl
  mapped_length (r ∷ rs) w =
      length-append (g r) (joined (map g rs)) ∙ ap₂ (λ (a b : ℕ). a + b) (h.long r w.0) (mapped_length rs w.1) ∙ sym (length-append r (joined rs))

-- none of them goes
pub without_none :
    (p : List ℕ → Bool) (kind at : ℕ) (rs : List (List ℕ)) → ((r : List ℕ) → p r ≡ true → type_at r 0 ≡ kind → ⊥) →
    without p (standing kind at rs) ≡ standing kind at rs
unfolding without standing
without_none p kind at [] h = refl
without_none p kind at (r ∷ rs) h = go (eqb (type_at r 0) kind) refl (without_none p kind (at + length r) rs h)
  where
    go :
        (b : Bool) → eqb (type_at r 0) kind ≡ b → without p (standing kind (at + length r) rs) ≡ standing kind (at + length r) rs →
        without p (pick b ((at, r) ∷ standing kind (at + length r) rs) (standing kind (at + length r) rs))
        ≡ pick b ((at, r) ∷ standing kind (at + length r) rs) (standing kind (at + length r) rs)
    go true e i =
        let n : p r ≡ false = sym (no_true (p r) (λ j. h r j (eqb-true _ _ e))) in
        rw (n, i)
    go false e i = i

-- the chain, and the header's own checksum

pub chain_none : (f : List ℕ) → Front f → (rs : List (List ℕ)) → WellFormed rs → chain_fault (f ++ joined rs) ≡ None
chain_none f w rs v = whole_chain (f ++ joined rs) (starts_of (length f) rs) (rw (front_end w (joined rs)) (joined_whole f rs v))

module _ (f : List ℕ) (w : Front f) (a b : List ℕ) where
  length_is : 16 + header_length f ≡ length f
  unfolding header_end
  length_is = w.whole

  header_record : SameRecord (f ++ a) 16 (f ++ b) 16
  header_record =
      let l = front_long w a in
      let n : header_length (f ++ a) ≡ header_length f = number_before 4 f a 16 (omega arith) in
      let k = length_is in
      record {
        long = omega arith;
        moved = record {
          in_first = omega (arith, length-append f a);
          in_second = omega (arith, length-append f b);
          bytes = part_before f a 16 (header_length (f ++ a)) (omega arith) ∙ sym (part_before f b 16 (header_length (f ++ a)) (omega arith));
        };
      }

  pub header_sum_same : checksum_right (f ++ a) 16 ≡ checksum_right (f ++ b) 16
  header_sum_same = checksum_same header_record (header_trans (header_sym (front_header w a)) (front_header w b)).flag

-- stages 7 and 8 and the metadata rules, from pieces to others behind the same front
module _ (f : List ℕ) (w : Front f) (rs qs : List (List ℕ)) (v : WellFormed rs) (u : WellFormed qs) where
  body_alone : body_fault (f ++ joined rs) ≡ None → AllAlone f Body rs
  unfolding body_fault
  body_alone b = wrong_none f w rs v Body b

  pub body_to : (AllAlone f Body rs → AllAlone f Body qs) → body_fault (f ++ joined rs) ≡ None → body_fault (f ++ joined qs) ≡ None
  body_to k b = bodies f w qs u (k (body_alone b))

  pub checksum_to :
      (AllAlone f Checksum rs → AllAlone f Checksum qs) → checksum_fault (f ++ joined rs) ≡ None → checksum_fault (f ++ joined qs) ≡ None
  unfolding checksum_fault right_of
  checksum_to k c =
      let h : checksum_right (f ++ joined rs) 16 ≡ true = here_right (f ++ joined rs) Checksum 16 (records (f ++ joined rs)) c in
      let a = wrong_none f w rs v Checksum (sym (none_here (f ++ joined rs) Checksum 16 (records (f ++ joined rs)) h) ∙ c) in
      checksums f w qs u (sym (header_sum_same f w (joined rs) (joined qs)) ∙ h) (k a)

  pub metadata_to :
      standing 1 (length f) rs ≡ standing 1 (length f) qs → standing 4 (length f) rs ≡ standing 4 (length f) qs → body_fault (f ++ joined rs) ≡ None →
      metadata_directory_right (f ++ joined rs) ≡ metadata_directory_right (f ++ joined qs)
  metadata_to a c b =
      standing_keeps f rs f qs
      (record { first = w; second = w; ends = refl; reference = refl; formed = v; formed_too = u; right = body_alone b; records = a; directories = c })

-- new records, one after the other

new_used : (f v : List ℕ) → New f v → is_free v ≡ false
unfolding is_free
new_used f v n = rw n.type

module _ (f : List ℕ) (flag : ℕ) where
  each_pieces : (vs : List (List ℕ)) → AllOf (New f) vs → (rs : List (List ℕ)) → AllOf Piece rs → AllOf Piece (placed_each flag vs rs)
  unfolding placed_each
  each_pieces [] n rs a = a
  each_pieces (v ∷ vs) n rs a =
      let w = well_formed rs a in
      let o = n.0.piece in
      each_pieces vs n.1 (placed flag v rs)
      (all_pieces (placed flag v rs) (placed_well flag v o.ok o.stated rs w)
      (placed_all flag v o.ok o.stated Bytes (λ m h k. free_bytes flag m) o.bytes rs w (all_bytes rs a)))

  each_alone :
      (rule : Rule) → ((n : ℕ) → 16 ≤ n → n ≤ largest_integer → alone f rule (free_record flag n) ≡ true) → ((v : List ℕ) → New f v → alone f rule v ≡ true) →
      (vs : List (List ℕ)) → AllOf (New f) vs → (rs : List (List ℕ)) → AllOf Piece rs → AllAlone f rule rs → AllAlone f rule (placed_each flag vs rs)
  unfolding placed_each
  each_alone rule keep right [] n rs w a = a
  each_alone rule keep right (v ∷ vs) n rs w a =
      let o = n.0.piece in
      each_alone rule keep right vs n.1 (placed flag v rs) (each_pieces (v ∷ []) (n.0, tt) rs w)
      (placed_all flag v o.ok o.stated (λ r. alone f rule r ≡ true) keep (right v n.0) rs (well_formed rs w) a)

  each_others :
      (kind : ℕ) → (kind ≡ 0 → ⊥) → (kind ≡ 2 → ⊥) → (at : ℕ) (vs : List (List ℕ)) → AllOf (New f) vs → (rs : List (List ℕ)) → AllOf Piece rs →
      standing kind at (placed_each flag vs rs) ≡ standing kind at rs
  unfolding placed_each
  each_others kind a b at [] n rs w = refl
  each_others kind a b at (v ∷ vs) n rs w =
      let o = n.0.piece in
      each_others kind a b at vs n.1 (placed flag v rs) (each_pieces (v ∷ []) (n.0, tt) rs w)
      ∙ placed_others flag v o.ok o.stated kind a (λ i. b (sym i ∙ n.0.type)) at rs (well_formed rs w)

  each_new :
      (at : ℕ) (vs : List (List ℕ)) → AllOf (New f) vs → (rs : List (List ℕ)) → AllOf Piece rs →
      InsertedEach flag at vs rs (standing 2 at rs) (standing 2 at (placed_each flag vs rs))
  unfolding placed_each
  each_new at [] n rs w = refl
  each_new at (v ∷ vs) n rs w =
      let o = n.0.piece in
      (placed_new flag v o.ok o.stated 2 (λ i. omega arith) n.0.type at rs (well_formed rs w), each_new at vs n.1 (placed flag v rs) (each_pieces (v ∷ []) (n.0, tt) rs w))

  each_none : (vs : List (List ℕ)) → AllOf (New f) vs → (rs : List (List ℕ)) → nothing_to_join rs ≡ true → nothing_to_join (placed_each flag vs rs) ≡ true
  unfolding placed_each
  each_none [] n rs e = e
  each_none (v ∷ vs) n rs e = each_none vs n.1 (placed flag v rs) (placed_none flag v (new_used f v n.0) rs e)

-- all of it

module _ (f : List ℕ) (rs : List (List ℕ)) (flag : ℕ) (p : List ℕ → Bool) (vs : List (List ℕ)) (g : List ℕ → List ℕ) (e : Edit f rs flag p vs g) where
  formed : WellFormed rs
  formed = well_formed rs e.pieces

  freed_pieces : AllOf Piece (freeing flag p rs)
  freed_pieces =
      all_pieces (freeing flag p rs) (freeing_well flag p rs formed e.room)
      (freeing_all flag p rs formed Bytes (λ n h k. free_bytes flag n) e.room (all_bytes rs e.pieces))

  placed_pieces : AllOf Piece (placed_each flag vs (freeing flag p rs))
  placed_pieces = each_pieces f flag vs e.new (freeing flag p rs) freed_pieces

  pieces : AllOf Piece (edited flag p vs g rs)
  unfolding edited
  pieces = mapped_pieces f Piece 5 g e.touches (placed_each flag vs (freeing flag p rs)) placed_pieces

  well : WellFormed (edited flag p vs g rs)
  well = well_formed (edited flag p vs g rs) pieces

  alone_to :
      (rule : Rule) → ((n : ℕ) → 16 ≤ n → n ≤ largest_integer → alone f rule (free_record flag n) ≡ true) → ((v : List ℕ) → New f v → alone f rule v ≡ true) →
      AllAlone f rule rs → AllAlone f rule (edited flag p vs g rs)
  unfolding edited
  alone_to rule keep right a =
      mapped_alone f Piece 5 g e.touches rule (placed_each flag vs (freeing flag p rs)) placed_pieces
      (each_alone f flag rule keep right vs e.new (freeing flag p rs) freed_pieces
      (freeing_all flag p rs formed (λ r. alone f rule r ≡ true) keep e.room a))

  -- of a type that is neither free nor a tile's
  placed_kept : (kind : ℕ) → (kind ≡ 0 → ⊥) → (kind ≡ 2 → ⊥) → standing kind (length f) (placed_each flag vs (freeing flag p rs)) ≡ standing kind (length f) rs
  placed_kept kind a b =
      each_others f flag kind a b (length f) vs e.new (freeing flag p rs) freed_pieces
      ∙ freeing_standing flag p rs formed kind a (length f)
      ∙ without_none p kind (length f) rs (λ r i j. b (sym j ∙ e.freed r i))

  stays : (kind : ℕ) → (kind ≡ 0 → ⊥) → (kind ≡ 2 → ⊥) → (kind ≡ 5 → ⊥) → standing kind (length f) rs ≡ standing kind (length f) (edited flag p vs g rs)
  unfolding edited
  stays kind a b c =
      sym (mapped_standing f Piece 5 g e.touches kind c (length f) (placed_each flag vs (freeing flag p rs)) placed_pieces ∙ placed_kept kind a b)

  directories : standing 5 (length f) (edited flag p vs g rs) ≡ map (touched g) (standing 5 (length f) rs)
  unfolding edited
  directories =
      mapped_own f Piece 5 g e.touches (length f) (placed_each flag vs (freeing flag p rs)) placed_pieces
      ∙ ap (map (touched g)) (placed_kept 5 (λ i. omega arith) (λ i. omega arith))

  tiles : InsertedEach flag (length f) vs (freeing flag p rs) (without p (standing 2 (length f) rs)) (standing 2 (length f) (edited flag p vs g rs))
  unfolding edited
  tiles =
      rw (mapped_standing f Piece 5 g e.touches 2 (λ i. omega arith) (length f) (placed_each flag vs (freeing flag p rs)) placed_pieces, ← freeing_standing flag p rs formed 2 (λ i. omega arith) (length f))
      (each_new f flag (length f) vs e.new (freeing flag p rs) freed_pieces)

  none : nothing_to_join (edited flag p vs g rs) ≡ true
  unfolding edited
  none =
      mapped_none f Piece 5 g e.touches (placed_each flag vs (freeing flag p rs)) placed_pieces
      ∙ each_none f flag vs e.new (freeing flag p rs) (freeing_none flag p rs formed)

  long : length (joined (edited flag p vs g rs)) ≡ length (joined (placed_each flag vs (freeing flag p rs)))
  unfolding edited
  long = mapped_length f Piece 5 g e.touches (placed_each flag vs (freeing flag p rs)) placed_pieces

pub edit_keeps : EditKeeps
edit_keeps f rs flag p vs g e =
    let v = formed f rs flag p vs g e in
    let w = well f rs flag p vs g e in
    let s = stays f rs flag p vs g e in
    record {
      pieces = pieces f rs flag p vs g e;
      chain = chain_none f e.front (edited flag p vs g rs) (well f rs flag p vs g e);
      checksums =
          checksum_to f e.front rs (edited flag p vs g rs) v w (alone_to f rs flag p vs g e Checksum (free_checksum f e.front flag e.flagged) (λ x n. n.checksum));
      bodies = body_to f e.front rs (edited flag p vs g rs) v w (alone_to f rs flag p vs g e Body (free_body f e.front flag e.flagged) (λ x n. n.body));
      metadata =
          metadata_to f e.front rs (edited flag p vs g rs) v w (s 1 (λ i. omega arith) (λ i. omega arith) (λ i. omega arith))
          (s 4 (λ i. omega arith) (λ i. omega arith) (λ i. omega arith));
      tiles = tiles f rs flag p vs g e;
      directories = directories f rs flag p vs g e;
      others = stays f rs flag p vs g e;
      none = none f rs flag p vs g e;
      long = long f rs flag p vs g e;
    }
