-- The pieces of an opened page: what is freed, what is put behind them, and which records stand where then. Assumes nothing.
use Prim.Native.Nat.{ℕ, ◌+◌, ◌≤◌}
use mathlib.Core.Path.{◌≡◌, refl, sym, ap, ap₂, ◌∙◌}
use mathlib.Core.List.{List, [], ◌∷◌, ◌++◌, append-nil}
use mathlib.Core.Bool.{Bool, true, false}
use native.Mathlib.Omega.{arith}
use lib.ListN.{length, take, length-append}
use lib.Dec.{eqb}
use borrow.Author.Tests.{eqb-true}
use Rattle.wire.specs.Pick.{pick}
use Rattle.wire.specs.Bytes.{largest_integer}
use Rattle.wire.proofs.TestLaws.{not_both}
use Rattle.wire.proofs.PlaceLaws.{placed_self}
use Rattle.record.specs.Record.{type_at}
use Rattle.record.specs.Chain.{header_end, joined, WellFormed}
use Rattle.header.specs.Fields.{checksum_enabled}
use Rattle.check_records.specs.declared.Rule.{Rule}
use Rattle.check_records.specs.declared.Rule.TheVariants.{Checksum, Body}
use Rattle.written_records.specs.Directory.{directory_of}
use Rattle.written_records.proofs.PieceLaws.{placed_kind}
use Rattle.written_records.proofs.DirectoryLaws.{directory_of_bytes}
use Rattle.pieces.specs.Pieces.{free_record, is_free, nothing_to_join, pieces, freeing}
use Rattle.pieces.specs.Standing.{AllOf, standing}
use Rattle.pieces.proofs.FreeingLaws.{long_of, standing_other, freeing_length, freeing_well, freeing_none, freeing_standing, freeing_all}
use Rattle.alone.specs.Alone.{alone, AllAlone}
use Rattle.alone.specs.Edited.{Piece}
use Rattle.alone.proofs.PieceLaws.{front_changes}
use Rattle.alone.proofs.FreeLaws.{body_unasked, free_checksum, free_body}
use Rattle.alone.proofs.EditedLaws.{well_formed, without_none}
use Rattle.writable.specs.Writable.{directory_full}
use Rattle.correct.specs.Opening.{compact_of, full_directory, opened_more, unwanted, opened_front, opened_page}
use Rattle.page_laws.proofs.PageLaws.{parted_alone}
use Rattle.written_rules.proofs.RecordLaws.{new_piece, new_checksum}
use Rattle.page_laws.proofs.MoreLaws.{well_append, all_append, joined_append, standing_append, without_all, used_behind}
use Rattle.opened_pages.specs.OpenedPages.{Opens}
use Rattle.opened_pages.proofs.FrontLaws.{parted, f, opened_length_lem, opened_front_lem, opened_header}

-- what is freed

module _ (s : List ℕ) where
  unwanted_space : (r : List ℕ) → type_at r 0 ≡ 3 → unwanted s r 0 ≡ true
  unfolding unwanted
  unwanted_space r e = rw e

  unwanted_tiles : directory_full s ≡ false → (r : List ℕ) → type_at r 0 ≡ 5 → unwanted s r 0 ≡ true
  unfolding unwanted
  unwanted_tiles n r e = rw (n, e)

  wanted : (kind : ℕ) → (kind ≡ 3 → ⊥) → (kind ≡ 5 → directory_full s ≡ true) → (r : List ℕ) → unwanted s r 0 ≡ true → type_at r 0 ≡ kind → ⊥
  unfolding unwanted
  wanted kind a b r u e = go (eqb (type_at r 0) 3) refl (directory_full s) refl (eqb (type_at r 0) 5) refl
    where
      go : (x : Bool) → eqb (type_at r 0) 3 ≡ x → (y : Bool) → directory_full s ≡ y → (z : Bool) → eqb (type_at r 0) 5 ≡ z → ⊥
      go true p y q z v = a (sym e ∙ eqb-true _ _ p)
      go false p true q z v = not_both u (rw (p, q))
      go false p false q true v = not_both (b (sym e ∙ eqb-true _ _ v)) q
      go false p false q false v = not_both u (rw (p, q, v))

module _ {s : List ℕ} {t : ℕ} (o : Opens s t) where
  abbrev pub freed : List (List ℕ)
  freed = freeing (checksum_enabled s) (λ r. unwanted s r 0) (pieces s)

  freed_well : WellFormed freed
  freed_well = freeing_well (checksum_enabled s) (λ r. unwanted s r 0) (pieces s) (parted o).formed (parted o).room

  -- the old pieces end where the page ended
  pub freed_ends : length (opened_front s t) + length (joined freed) ≡ length s
  freed_ends =
      let p = parted o in
      let a = freeing_length (checksum_enabled s) (λ r. unwanted s r 0) (pieces s) p.formed in
      let b : length s ≡ length (take (header_end s) s) + length (joined (pieces s)) = ap length p.whole ∙ length-append (take (header_end s) s) (joined (pieces s)) in
      omega (arith, opened_length_lem o)

  freed_stays :
      (kind : ℕ) → (kind ≡ 0 → ⊥) → (kind ≡ 3 → ⊥) → (kind ≡ 5 → directory_full s ≡ true) → (at : ℕ) → standing kind at freed ≡ standing kind at (pieces s)
  freed_stays kind z a b at =
      freeing_standing (checksum_enabled s) (λ r. unwanted s r 0) (pieces s) (parted o).formed kind z at
      ∙ without_none (λ r. unwanted s r 0) kind at (pieces s) (wanted s kind a b)

  freed_gone : (kind : ℕ) → (kind ≡ 0 → ⊥) → ((r : List ℕ) → type_at r 0 ≡ kind → unwanted s r 0 ≡ true) → (at : ℕ) → standing kind at freed ≡ []
  freed_gone kind z a at =
      freeing_standing (checksum_enabled s) (λ r. unwanted s r 0) (pieces s) (parted o).formed kind z at
      ∙ without_all (λ r. unwanted s r 0) kind at (pieces s) a

  freed_alone : (rule : Rule) → AllAlone (opened_front s t) rule freed
  freed_alone rule =
      let p = parted o in
      front_changes (f o) (opened_front s t) p.front (opened_front_lem o) (opened_header o) rule freed freed_well
      (freeing_all (checksum_enabled s) (λ r. unwanted s r 0) (pieces s) p.formed (λ r. alone (f o) rule r ≡ true) (keep rule) p.room (parted_alone p rule))
    where
      keep : (rule : Rule) (n : ℕ) → 16 ≤ n → n ≤ largest_integer → alone (f o) rule (free_record (checksum_enabled s) n) ≡ true
      keep Checksum n h k = free_checksum (f o) (parted o).front (checksum_enabled s) (parted o).header.flag n h k
      keep Body n h k = free_body (f o) (parted o).front (checksum_enabled s) (parted o).header.flag n h k

  -- what is put behind them

  more_full : directory_full s ≡ true → opened_more s ≡ []
  unfolding opened_more
  more_full e = rw e

  pub more_new : directory_full s ≡ false → opened_more s ≡ full_directory s ∷ []
  unfolding opened_more
  more_new e = rw e

  page_long : length (opened_front s t) + (length (joined freed) + length (joined (opened_more s))) ≤ 16777216
  unfolding opened_page
  page_long =
      let a = length-append (opened_front s t) (joined (freed ++ opened_more s)) in
      let b = ap length (joined_append freed (opened_more s)) ∙ length-append (joined freed) (joined (opened_more s)) in
      omega (arith, o.room)

  pub new_short : directory_full s ≡ false → length (full_directory s) ≤ largest_integer
  new_short e =
      let a : length (joined (opened_more s)) ≡ length (full_directory s) = rw (more_new e) (ap length (append-nil (full_directory s))) in
      omega (arith, page_long)

  more_all : (P : List ℕ → Type 0) → (directory_full s ≡ false → P (full_directory s)) → AllOf P (opened_more s)
  unfolding opened_more
  more_all P h = go (directory_full s) refl
    where
      go : (b : Bool) → directory_full s ≡ b → AllOf P (pick b [] (full_directory s ∷ []))
      go true e = _
      go false e = (h e, tt)

  new_type : type_at (full_directory s) 0 ≡ 5
  unfolding full_directory
  new_type = placed_kind (checksum_enabled s) 5 (directory_of s (compact_of s)) (placed_self _)

  piece_new : directory_full s ≡ false → Piece (full_directory s)
  unfolding full_directory
  piece_new e = new_piece (checksum_enabled s) 5 (directory_of s (compact_of s)) (directory_of_bytes s (compact_of s)) (omega arith) (new_short e)

  alone_new : (rule : Rule) → directory_full s ≡ false → alone (opened_front s t) rule (full_directory s) ≡ true
  unfolding full_directory
  alone_new Checksum e =
      new_checksum (checksum_enabled s) 5 (directory_of s (compact_of s)) (directory_of_bytes s (compact_of s)) (omega arith) (new_short e) (opened_front s t)
      (opened_front_lem o) ((parted o).header.flag ∙ (opened_header o).flag) (λ z. omega arith)
  alone_new Body e =
      let p = piece_new e in
      body_unasked (opened_front s t) (full_directory s) (long_of (full_directory s) p.ok p.stated).least (λ z. omega (arith, new_type)) (λ z. omega (arith, new_type))

  more_stands : (kind : ℕ) → (kind ≡ 5 → ⊥) → (at : ℕ) → standing kind at (opened_more s) ≡ []
  unfolding opened_more standing
  more_stands kind z at = go (directory_full s)
    where
      go : (b : Bool) → standing kind at (pick b [] (full_directory s ∷ [])) ≡ []
      go true = refl
      go false = standing_other kind at (full_directory s) [] (λ e. z (sym e ∙ new_type))

  -- all of them

  abbrev pub qs : List (List ℕ)
  qs = freed ++ opened_more s

  pub page_well : WellFormed qs
  page_well = well_append freed (opened_more s) freed_well (well_formed (opened_more s) (more_all Piece piece_new))

  pub page_alone : (rule : Rule) → AllAlone (opened_front s t) rule qs
  page_alone rule = all_append (λ r. alone (opened_front s t) rule r ≡ true) freed (opened_more s) (freed_alone rule) (more_all _ (alone_new rule))

  page_stands :
      (kind : ℕ) → (kind ≡ 5 → ⊥) → (l : List (ℕ × List ℕ)) → standing kind (length (opened_front s t)) freed ≡ l → standing kind (length (opened_front s t)) qs ≡ l
  page_stands kind z l e =
      standing_append kind (length (opened_front s t)) freed (opened_more s)
      ∙ ap₂ (λ (a b : List (ℕ × List ℕ)). a ++ b) e (more_stands kind z _)
      ∙ append-nil l

  -- tile records, metadata records and their directory stay
  pub page_stays :
      (kind : ℕ) → (kind ≡ 0 → ⊥) → (kind ≡ 3 → ⊥) → (kind ≡ 5 → ⊥) → standing kind (length (f o)) (pieces s) ≡ standing kind (length (opened_front s t)) qs
  page_stays kind z a b =
      sym
      (page_stands kind b _ (freed_stays kind z a (λ e. absurd (b e)) (length (opened_front s t))) ∙ ap (λ (n : ℕ). standing kind n (pieces s)) (opened_length_lem o))

  pub page_spaceless : standing 3 (length (opened_front s t)) qs ≡ []
  page_spaceless = page_stands 3 (λ e. omega arith) [] (freed_gone 3 (λ e. omega arith) (unwanted_space s) (length (opened_front s t)))

  -- and the tile directory, or the new one alone
  pub page_kept : directory_full s ≡ true → standing 5 (length (f o)) (pieces s) ≡ standing 5 (length (opened_front s t)) qs
  page_kept e =
      sym
      (ap (λ (l : List (List ℕ)). standing 5 (length (opened_front s t)) (freed ++ l)) (more_full e)
      ∙ ap (standing 5 (length (opened_front s t))) (append-nil freed)
      ∙ freed_stays 5 (λ z. omega arith) (λ z. omega arith) (λ z. e) (length (opened_front s t))
      ∙ ap (λ (n : ℕ). standing 5 n (pieces s)) (opened_length_lem o))

  pub page_new : directory_full s ≡ false → standing 5 (length (opened_front s t)) qs ≡ (length s, full_directory s) ∷ []
  unfolding standing
  page_new e =
      standing_append 5 (length (opened_front s t)) freed (opened_more s)
      ∙ ap₂ (λ (a b : List (ℕ × List ℕ)). a ++ b)
      (freed_gone 5 (λ z. omega arith) (unwanted_tiles s e) (length (opened_front s t)))
      (ap₂ (λ (n : ℕ) (l : List (List ℕ)). standing 5 n l) freed_ends (more_new e) ∙ rw new_type)

  new_used : is_free (full_directory s) ≡ false
  unfolding is_free
  new_used = rw new_type

  pub page_none : nothing_to_join qs ≡ true
  unfolding opened_more
  page_none = go (directory_full s)
    where
      freed_none : nothing_to_join freed ≡ true
      freed_none = freeing_none (checksum_enabled s) (λ r. unwanted s r 0) (pieces s) (parted o).formed

      go : (b : Bool) → nothing_to_join (freed ++ pick b [] (full_directory s ∷ [])) ≡ true
      go true = ap nothing_to_join (append-nil freed) ∙ freed_none
      go false = used_behind freed (full_directory s) new_used freed_none
