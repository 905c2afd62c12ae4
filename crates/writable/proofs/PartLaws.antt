-- A sound page is its front and its pieces, as an edit asks for them. Assumes nothing.
use Prim.Native.Nat.{ℕ, ◌+◌, ◌-◌, ◌≤◌}
use mathlib.Core.Path.{◌≡◌, sym, ap, ◌∙◌}
use mathlib.Core.List.{List, [], ◌∷◌, ◌++◌}
use mathlib.Core.Bool.{true}
use native.Mathlib.Omega.{arith}
use lib.ListN.{length, take, drop, take-append-drop, length-append}
use lib.Seq.{length-take-le}
use Rattle.wire.specs.Bytes.{Bytes, Same}
use Rattle.wire.proofs.ByteLaws.{same_append, same_sym, same_trans, same_part, number_same, bytes_part}
use Rattle.wire.proofs.TestLaws.{means, yes}
use Rattle.record.specs.Chain.{header_end, records, joined}
use Rattle.check_header.specs.Judged.{SameJudged}
use Rattle.check_header.specs.Identification.{identified}
use Rattle.check_header.specs.Stages.{closed}
use Rattle.check_header.specs.Passed.{Headed, InRange}
use Rattle.check_header.proofs.Judged.{end_same, identified_same, version_same, header_long, header_to, header_fit, ceilings_to}
use Rattle.check_records.specs.Faults.{checksum_fault, body_fault}
use Rattle.page_check.specs.Accepted.{Sound}
use Rattle.page_check.proofs.AcceptedLaws.{no_checksum_fault, no_body_fault}
use Rattle.page_check.proofs.GivenLaws.{sound_range}
use Rattle.pieces.specs.Pieces.{piece_at, pieces_of, pieces}
use Rattle.pieces.specs.Standing.{AllOf}
use Rattle.pieces.proofs.SplitLaws.{page_split}
use Rattle.alone.specs.Alone.{Front}
use Rattle.alone.proofs.HeaderLaws.{judged_header}
use Rattle.alone.proofs.EditedLaws.{all_pieces}
use Rattle.writable.specs.Parts.{SoundParted, FrontKept}

pieces_bytes : (s xs : List ℕ) → Bytes s → AllOf Bytes (pieces_of s xs)
unfolding pieces_of piece_at
pieces_bytes s [] b = _
pieces_bytes s (x ∷ xs) b = (bytes_part _ _ b, pieces_bytes s xs b)

module _ (s : List ℕ) (o : Sound s) where
  abbrev f : List ℕ
  f = take (header_end s) s

  range : InRange s (length s)
  range = sound_range s (records s) o

  front_ends : length f ≡ header_end s
  front_ends = length-take-le (header_end s) s range.header_inside

  front_same : (c d : ℕ) → d ≤ header_end s → Same s f c d
  front_same c d h =
      let p : d ≤ length f = omega (arith, front_ends) in
      same_sym (rw (take-append-drop (header_end s) s) at (same_append f (drop (header_end s) s) c d p))

  judged : SameJudged s f
  judged =
      let l = range.header_least in
      record {
        block = front_same 0 14 (omega arith);
        frame = front_same 16 21 (omega arith);
        sides = front_same 104 120 (omega arith);
        options = front_same 128 131 (omega arith);
        rest = front_same 280 (header_end s - 4) (omega arith);
        in_first = range.header_inside;
        in_second = omega (arith, front_ends);
      }

  front : Front f
  front =
      record {
        whole = sym (end_same judged.frame) ∙ sym front_ends;
        right = header_to s f judged (length s) (length f) o.headed.header (omega (arith, front_ends));
        few = rw (← (header_fit s f judged (length s) o.headed.header).count) range.elements.1;
      }

pub sound_parted : SoundParted
unfolding pieces
sound_parted s o =
    let p = page_split s o.chain in
    let w : s ≡ take (header_end s) s ++ joined (pieces s) = p.0 in
    let l : length s ≡ length (take (header_end s) s) + length (joined (pieces s)) = ap length w ∙ length-append (take (header_end s) s) (joined (pieces s)) in
    record {
      whole = w;
      ends = front_ends s o;
      front = front s o;
      judged = judged s o;
      header = judged_header s (take (header_end s) s) (length s) (judged s o) o.headed.header (range s o).elements.1;
      formed = p.1;
      each = λ b. all_pieces (pieces s) p.1 (pieces_bytes s (records s) b);
      room = omega (arith, (range s o).file);
      checksums = ap checksum_fault (sym w) ∙ no_checksum_fault s (records s) o;
      bodies = ap body_fault (sym w) ∙ no_body_fault s (records s) o;
    }

-- the header's judgement, where the judged bytes are the same

same_identified : {s t : List ℕ} → Same s t 0 14 → (n m : ℕ) → identified s n ≡ true → 16 ≤ m → identified t m ≡ true
unfolding identified
same_identified e n m p h = let a = means _ (sym (identified_same e n) ∙ p) in sym (yes _ (h, (a.1.0, tt)))

pub judged_headed : (s t : List ℕ) (n m : ℕ) → Headed s n → SameJudged s t → header_end s ≤ m → m ≤ 16777216 → Headed t m
judged_headed s t n m h j k l =
    record {
      block = same_identified j.block n m h.block (omega (arith, header_long s n h.header));
      version = sym (version_same j.block) ∙ h.version;
      header = header_to s t j n m h.header k;
      ceilings = ceilings_to s t j n m h.header h.ceilings l;
    }

-- a page with the same front

pub front_begins : (s b : List ℕ) → Sound s → Same s (take (header_end s) s ++ b) 0 (header_end s)
front_begins s b o =
    same_trans (front_same s o 0 (header_end s) (omega arith)) (same_append (take (header_end s) s) b 0 (header_end s) (omega (arith, front_ends s o)))

pub front_kept : FrontKept
unfolding closed
front_kept s t o e h =
    let r = sound_range s (records s) o in
    let l = r.header_least in
    let j : SameJudged s t = record {
      block = same_part e 0 14 (omega arith) (omega arith);
      frame = same_part e 16 21 (omega arith) (omega arith);
      sides = same_part e 104 120 (omega arith) (omega arith);
      options = same_part e 128 131 (omega arith) (omega arith);
      rest = same_part e 280 (header_end s - 4) (omega arith) (omega arith);
      in_first = r.header_inside;
      in_second = e.in_second;
    } in
    record {
      headed = judged_headed s t (length s) (length t) o.headed j e.in_second h;
      header = judged_header s t (length s) j o.headed.header r.elements.1;
      ends = end_same j.frame;
      open_same = rw (number_same e 8 48 (omega arith) (omega arith));
      space = number_same e 8 56 (omega arith) (omega arith);
      metadata = number_same e 8 64 (omega arith) (omega arith);
      tiles = number_same e 8 80 (omega arith) (omega arith);
    }
