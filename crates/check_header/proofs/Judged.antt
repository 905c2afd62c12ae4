-- Two lists of bytes that agree where stages 1 to 4 judge them: what holds of one holds of the other. Assumes nothing.
use Prim.Native.Nat.{ℕ, min, ◌+◌, ◌≤◌, ◌<◌}
use mathlib.Core.Path.{◌≡◌, sym, ap, ◌∙◌}
use mathlib.Core.List.{List}
use mathlib.Core.Bool.{true}
use mathlib.Core.Logic.{by_cases}
use native.Mathlib.Decide.{dec_le}
use native.Mathlib.Omega.{arith}
use borrow.Author.Tests.{le-leb, lt-leb}
use Rattle.wire.specs.Tests.{all_below, sum_below}
use Rattle.wire.specs.Bytes.{byte_at, number_at, Same}
use Rattle.wire.proofs.TestLaws.{means, yes, iff, below_same, sum_same}
use Rattle.wire.proofs.ByteLaws.{number_same, part_same, byte_same, same_sym}
use Rattle.header.specs.Fields.{grid_rows, grid_columns, tile_rows, tile_columns, element_count, header_limit}
use Rattle.record.specs.Chain.{header_end}
use Rattle.header.specs.Element.{entry_start, entries_read}
use Rattle.header.proofs.SameLaws.{SameRest, limit_same, start_same, start_least, limit_is, element_same, element_name_same, method_count_same, fields_end_same}
use Rattle.header.proofs.TextLaws.{element_texts_same, product_text_same}
use Rattle.geometry.specs.Tiles.{tile_count}
use Rattle.geometry.specs.Sizes.{element_bytes, tile_bytes}
use Rattle.check_header.specs.Identification.{identified, version_right}
use Rattle.check_header.specs.HeaderRecord.{length_right, frame_right, positive, sides_right, options_right, names_differ, element_right, elements_right, tail_right, header_right}
use Rattle.check_header.specs.Ceilings.{sides_within, within_ceilings}
use Rattle.check_header.specs.Judged.{SameJudged, NothingElseJudged}

pub end_same : {s t : List ℕ} → Same s t 16 21 → header_end s ≡ header_end t
unfolding header_end
end_same e = rw (number_same e 4 16 (omega arith) (omega arith))

pub judged_sym : {s t : List ℕ} → SameJudged s t → SameJudged t s
judged_sym j =
    let e = end_same j.frame in
    record {
      block = same_sym j.block;
      frame = same_sym j.frame;
      sides = same_sym j.sides;
      options = same_sym j.options;
      rest = rw (← e) (same_sym j.rest);
      in_first = omega (arith, j.in_second);
      in_second = omega (arith, j.in_first);
    }

-- stages 1 and 2

pub identified_same : {s t : List ℕ} → Same s t 0 14 → (n : ℕ) → identified s n ≡ identified t n
unfolding identified
identified_same e n = rw (part_same e 0 12 (omega arith) (omega arith))

pub identified_to : {s t : List ℕ} → Same s t 0 14 → (n m : ℕ) → identified s n ≡ true → n ≤ m → identified t m ≡ true
unfolding identified
identified_to e n m p h =
    let a = means _ (sym (identified_same e n) ∙ p) in
    sym (yes _ (omega (arith, a.0), (a.1.0, tt)))

pub version_same : {s t : List ℕ} → Same s t 0 14 → version_right s ≡ version_right t
unfolding version_right
version_same e = rw (byte_same e 12 (omega arith) (omega arith), byte_same e 13 (omega arith) (omega arith))

pub length_right_same : {s t : List ℕ} → Same s t 16 21 → (n : ℕ) → length_right s n ≡ length_right t n
unfolding length_right
length_right_same e n = rw (number_same e 4 16 (omega arith) (omega arith), end_same e)

-- a header that stage 3 passes has all its fixed fields
pub header_long : (s : List ℕ) (n : ℕ) → header_right s n ≡ true → 288 ≤ header_end s
unfolding header_right frame_right elements_right
header_long s n e =
    let a = means _ e in
    let b = means _ a.0 in
    let c = means _ a.1.1.1.0 in
    let l = limit_is s b.1.0 in
    let m = start_least s (entries_read s) in
    omega (arith, c.1.0)

-- and its length is lawful
pub header_lawful : (s : List ℕ) (n : ℕ) → header_right s n ≡ true → length_right s n ≡ true
unfolding header_right frame_right
header_lawful s n e = (means _ (means _ e).0).0

-- where the entries that are read fit
pub record Fit (s t : List ℕ) : Type 0 where
  pub count : element_count s ≡ element_count t
  pub read : entries_read s ≡ entries_read t
  pub last : entry_start s (entries_read s) ≤ header_limit s

module _ (s t : List ℕ) (j : SameJudged s t) where
  pub same_rest : SameRest s t
  same_rest =
      let e = end_same j.frame in
      record { length_same = e; in_first = j.in_first; in_second = omega (arith, j.in_second); rest = j.rest }

  side : (at : ℕ) → 104 ≤ at → at + 4 ≤ 120 → number_at 4 s at ≡ number_at 4 t at
  side at h k = number_same j.sides 4 at h k

  pub option : (at : ℕ) → 128 ≤ at → at < 131 → byte_at s at ≡ byte_at t at
  option at h k = byte_same j.options at h k

  pub rows : grid_rows s ≡ grid_rows t
  rows = side 104 (omega arith) (omega arith)

  pub columns : grid_columns s ≡ grid_columns t
  columns = side 108 (omega arith) (omega arith)

  pub tile_rows_lem : tile_rows s ≡ tile_rows t
  tile_rows_lem = side 112 (omega arith) (omega arith)

  pub tile_columns_lem : tile_columns s ≡ tile_columns t
  tile_columns_lem = side 116 (omega arith) (omega arith)

  -- the frame, in a file that is long enough
  frame_to : (n m : ℕ) → frame_right s n ≡ true → header_end s ≤ m → frame_right t m ≡ true
  unfolding frame_right length_right
  frame_to n m e h =
      let a = means _ e in
      let b = means _ a.0 in
      let l = number_same j.frame 4 16 (omega arith) (omega arith) in
      let k = byte_same j.frame 20 (omega arith) (omega arith) in
      let f = end_same j.frame in
      sym (yes _ (sym (yes _ (rw (← l) b.0, (omega (arith, b.1.0), (omega arith, tt)))), (omega (arith, j.in_second), (sym k ∙ a.1.1.0, tt))))

  sides_to : sides_right s ≡ sides_right t
  unfolding sides_right
  sides_to = rw (rows, columns, tile_rows_lem, tile_columns_lem)

  options_to : options_right s ≡ options_right t
  unfolding options_right
  options_to =
      rw (option 128 (omega arith) (omega arith), option 129 (omega arith) (omega arith), option 130 (omega arith) (omega arith))

  -- the elements

  fit : elements_right s ≡ true → Fit s t
  unfolding elements_right entries_read
  fit e =
      let a = means _ e in
      let l = start_least s (min (element_count s) 16) in
      let m = limit_is s j.in_first in
      let c : element_count s ≡ element_count t = number_same j.rest 4 280 (omega arith) (omega arith) in
      record { count = c; read = rw c; last = a.1.0 }

  element_to : Fit s t → (e : ℕ) → e < entries_read s → element_right s e ≡ element_right t e
  unfolding element_right names_differ
  element_to f e h =
      let d : all_below e (names_differ s e) ≡ all_below e (names_differ t e) =
      below_same e (names_differ s e) (names_differ t e)
      (λ i l. rw (element_name_same s t same_rest i (entries_read s) (omega arith) f.last, element_name_same s t same_rest e (entries_read s) h f.last)) in
      rw (
        element_same s t same_rest e (entries_read s) h f.last,
        element_name_same s t same_rest e (entries_read s) h f.last,
        d,
        element_texts_same s t same_rest e (entries_read s) h f.last,
      )

  bytes_to : Fit s t → tile_bytes s ≡ tile_bytes t
  unfolding tile_bytes element_bytes
  bytes_to f =
      sum_same (entries_read s) (element_bytes s) (element_bytes t)
      (λ i l. rw (tile_rows_lem, tile_columns_lem, element_same s t same_rest i (entries_read s) l f.last))
      ∙ ap (λ (n : ℕ). sum_below n (element_bytes t)) f.read

  elements_from : Fit s t → elements_right s ≡ true → elements_right t ≡ true
  unfolding elements_right
  elements_from f e =
      let a = means _ e in
      let p : entry_start s (entries_read s) ≡ entry_start t (entries_read t) = start_same s t same_rest (entries_read s) f.last ∙ ap (entry_start t) f.read in
      let q : all_below (entries_read s) (element_right s) ≡ all_below (entries_read t) (element_right t) =
      below_same (entries_read s) (element_right s) (element_right t) (element_to f) ∙ ap (λ (n : ℕ). all_below n (element_right t)) f.read in
      sym (yes _ (ap positive (sym f.count) ∙ a.0, (omega (arith, a.1.0, limit_same s t same_rest), (sym q ∙ a.1.1.0, tt))))

  tail_to : element_count s ≡ element_count t → tail_right s ≡ true → tail_right t ≡ true
  unfolding tail_right
  tail_to c e =
      by_cases (dec_le (element_count s) 16)
      (λ h.
      let a = means _ (rw (le-leb (element_count s) 16 h) at e) in
      let m = method_count_same s t same_rest c a.1.0 in
      let f = fields_end_same s t same_rest c a.1.0 in
      let l = limit_same s t same_rest in
      let p = product_text_same s t same_rest c a.1.0 in
      rw (← c, le-leb (element_count s) 16 h) (sym (yes _ (omega (arith, a.0), (omega (arith, a.1.0), (omega (arith, a.1.1.0), (sym p ∙ a.1.1.1.0, tt)))))))
      (λ n. let h : 16 < element_count s = omega arith in rw (← c, lt-leb (element_count s) 16 h))

  pub header_fit : (n : ℕ) → header_right s n ≡ true → Fit s t
  unfolding header_right
  header_fit n e = fit (means _ e).1.1.1.0

  -- stage 3, in a file that is long enough
  pub header_to : (n m : ℕ) → header_right s n ≡ true → header_end s ≤ m → header_right t m ≡ true
  unfolding header_right
  header_to n m e h =
      let a = means _ e in
      let f = header_fit n e in
      sym
      (yes _
      (frame_to n m a.0 h, (sym sides_to ∙ a.1.0, (sym options_to ∙ a.1.1.0, (elements_from f a.1.1.1.0, (tail_to f.count a.1.1.1.1.0, tt))))))

  -- stage 4, where stage 3 passes, in a file that keeps its own ceiling
  pub ceilings_to : (n m : ℕ) → header_right s n ≡ true → within_ceilings s n ≡ true → m ≤ 16777216 → within_ceilings t m ≡ true
  unfolding within_ceilings sides_within tile_count
  ceilings_to n m e g h =
      let f = header_fit n e in
      let b = means _ g in
      let c = means _ b.1.0 in
      let k = bytes_to f in
      sym
      (yes _ (
        h,
        (
          sym (yes _ (omega (arith, c.0, rows), (omega (arith, c.1.0, columns), (omega (arith, c.1.1.0, tile_rows_lem), (omega (arith, c.1.1.1.0, tile_columns_lem), tt))))),
          (rw (← rows, ← columns, ← tile_rows_lem, ← tile_columns_lem) b.1.1.0, (omega (arith, b.1.1.1.0, f.count), (omega (arith, b.1.1.1.1.0), tt))),
        ),
      ))

-- both ways

ceiling_holds : (s : List ℕ) (n : ℕ) → within_ceilings s n ≡ true → n ≤ 16777216
unfolding within_ceilings
ceiling_holds s n e = (means _ e).0

ends_inside : (s : List ℕ) (n : ℕ) → length_right s n ≡ true → header_end s ≤ n
unfolding length_right
ends_inside s n e = (means _ e).1.1.0

header_same : (s t : List ℕ) (n : ℕ) → SameJudged s t → header_right s n ≡ header_right t n
header_same s t n j =
    iff (header_right s n) (header_right t n) (λ e. header_to s t j n n e (ends_inside s n (header_lawful s n e)))
    (λ e. header_to t s (judged_sym j) n n e (ends_inside t n (header_lawful t n e)))

ceilings_same : (s t : List ℕ) (n : ℕ) → SameJudged s t → header_right s n ≡ true → within_ceilings s n ≡ within_ceilings t n
ceilings_same s t n j e =
    iff (within_ceilings s n) (within_ceilings t n) (λ g. ceilings_to s t j n n e g (ceiling_holds s n g))
    (λ g. ceilings_to t s (judged_sym j) n n (sym (header_same s t n j) ∙ e) g (ceiling_holds t n g))

pub nothing_else_judged : NothingElseJudged
nothing_else_judged s t n j =
    record {
      identification = identified_same j.block n;
      version = version_same j.block;
      header = header_same s t n j;
      ceilings = ceilings_same s t n j;
    }
