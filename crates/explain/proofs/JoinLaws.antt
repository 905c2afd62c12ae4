-- Rows that are asked one list after the other, and stages. Assumes nothing.
use Prim.Native.Nat.{ℕ, ◌≤◌, ◌<◌}
use mathlib.Core.Path.{◌≡◌, refl, sym, ap, ◌∙◌}
use mathlib.Core.List.{List, [], ◌∷◌, ◌++◌}
use mathlib.Core.Bool.{Bool, true, false}
use lib.ListN.{length}
use Rattle.wire.proofs.TestLaws.{means, not_both}
use Rattle.record.specs.Types.{tile_directory_type, metadata_directory_type, file_space_directory_type}
use Rattle.header.specs.Fields.{tile_directory_reference, metadata_reference, file_space_reference}
use Rattle.geometry.specs.Tiles.{tile_count}
use Rattle.bodies.specs.TileDirectory.{tile_directory_at}
use Rattle.check_header.specs.Ceilings.{within_ceilings}
use Rattle.check_directory.specs.References.{refers_or_zero, no_other}
use Rattle.check_lists.specs.FileSpace.{free_fits}
use Rattle.check_lists.specs.Metadata.{metadata_fits}
use Rattle.check_lists.specs.Stage.{directories_right}
use Rattle.reasons.specs.declared.Explanation.{Explanation}
use Rattle.reasons.specs.Rows.{first_failing, Reason}
use Rattle.reasons.specs.Stages.{Stage, refused_by, explained, Explained}
use Rattle.reasons.specs.HeadRows.{ceiling_rows, head_stages}
use Rattle.reasons.proofs.ReasonLaws.{or_kept, or_broken, or_end, first_none, first_more, first_joined, keeps_by, kept_by}
use Rattle.reasons.proofs.StageLaws.{stage_passed, stage_stopped, explained_none, explained_more, answer_kept, answer_broken}
use Rattle.reasons.proofs.HeadLaws.{ceilings_keep}
use Rattle.explain.specs.DirectoryRows.{tile_referred_rows, metadata_referred_rows, metadata_frame_rows, file_space_referred_rows, file_space_frame_rows, directory_rows}
use Rattle.explain.proofs.DirectoryLaws.{referred_inside}
use Rattle.explain.proofs.DirectoryRowLaws.{both_two, tile_referred_keeps, metadata_referred_keeps, metadata_frame_keeps, file_space_referred_keeps, file_space_frame_keeps, directory_keeps}
use Rattle.std.specs.Prelude.{Ok, Err}

-- what is known where rows are kept

module _ (s : List ℕ) (a : Reason) (e : a ≡ Ok tt) where
  pub tile_inside : a ≡ first_failing (tile_referred_rows s) → tile_directory_at s < length s
  unfolding tile_directory_at
  tile_inside q =
      referred_inside s tile_directory_type (tile_directory_reference s) (sym (tile_referred_keeps s) ∙ keeps_by _ (sym q ∙ e))

  pub metadata_refers : a ≡ first_failing (metadata_referred_rows s) → refers_or_zero s metadata_directory_type (metadata_reference s) ≡ true
  metadata_refers q = sym (metadata_referred_keeps s) ∙ keeps_by _ (sym q ∙ e)

  pub free_refers : a ≡ first_failing (file_space_referred_rows s) → refers_or_zero s file_space_directory_type (file_space_reference s) ≡ true
  free_refers q = sym (file_space_referred_keeps s) ∙ keeps_by _ (sym q ∙ e)

  pub metadata_framed : a ≡ first_failing (metadata_frame_rows s) → metadata_fits s ≡ true
  metadata_framed q = (both_two {a = no_other s metadata_directory_type (metadata_reference s)} (sym (metadata_frame_keeps s) ∙ keeps_by _ (sym q ∙ e))).1

  pub free_framed : a ≡ first_failing (file_space_frame_rows s) → free_fits s ≡ true
  free_framed q = (both_two {a = no_other s file_space_directory_type (file_space_reference s)} (sym (file_space_frame_keeps s) ∙ keeps_by _ (sym q ∙ e))).1

pub directory_kept : (s : List ℕ) (b : Bool) → b ≡ directories_right s → b ≡ true → Ok tt ≡ first_failing (directory_rows s)
directory_kept s b p q = sym (kept_by (directory_rows s) (directory_keeps s ∙ sym p ∙ q))

-- stages, and then others

abbrev is_refused : Explained → Bool
is_refused (Ok accepted) = false
is_refused (Err z) = true

accepted_more : (g : Stage) (gs : List Stage) → explained (g ∷ gs) ≡ Ok tt → (first_failing g.rows ≡ Ok tt) × (explained gs ≡ Ok tt)
accepted_more g gs e = go (first_failing g.rows) refl
  where
    go : (a : Reason) → first_failing g.rows ≡ a → (first_failing g.rows ≡ Ok tt) × (explained gs ≡ Ok tt)
    go (Ok kept) p = (p, sym (stage_passed g gs p) ∙ e)
    go (Err y) p = not_both refl (ap is_refused (sym (stage_stopped g gs y p) ∙ e))

pub joined_accepted : (l m : List Stage) → explained l ≡ Ok tt → explained (l ++ m) ≡ explained m
joined_accepted [] m e = refl
joined_accepted (g ∷ gs) m e =
    let h = accepted_more g gs e in
    stage_passed g (gs ++ m) h.0 ∙ joined_accepted gs m h.1

pub joined_refused : (l m : List Stage) (z : Explanation) → explained l ≡ Err z → explained (l ++ m) ≡ Err z
unfolding explained refused_by
joined_refused [] m z e = not_both refl (ap is_refused (sym e))
joined_refused (g ∷ gs) m z e = go (first_failing g.rows) (joined_refused gs m z) e
  where
    go :
        (a : Reason) → (explained gs ≡ Err z → explained (gs ++ m) ≡ Err z) → refused_by g.refusal a (explained gs) ≡ Err z →
        refused_by g.refusal a (explained (gs ++ m)) ≡ Err z
    go (Ok kept) h d = h d
    go (Err y) h d = d

-- what a chain of rules and of stages answers
pub ruleset parts = (first_none, first_more, first_joined, or_kept, or_broken, or_end, explained_none, explained_more, answer_kept, answer_broken, joined_accepted, joined_refused)

tiles_within : (s : List ℕ) (n : ℕ) → within_ceilings s n ≡ true → tile_count s ≤ 65536
unfolding within_ceilings
tiles_within s n e = (means _ e).1.1.0

module _ (s : List ℕ) (a : Explained) (q : a ≡ explained (head_stages s)) where
  ceilings_kept : a ≡ Ok tt → first_failing (ceiling_rows s) ≡ Ok tt
  unfolding head_stages
  ceilings_kept e =
      let h = accepted_more _ _ (sym q ∙ e) in
      let i = accepted_more _ _ h.1 in
      let j = accepted_more _ _ i.1 in
      (accepted_more _ _ j.1).0

  pub few_tiles : a ≡ Ok tt → tile_count s ≤ 65536
  few_tiles e = tiles_within s (length s) (sym (ceilings_keep s) ∙ keeps_by _ (ceilings_kept e))
