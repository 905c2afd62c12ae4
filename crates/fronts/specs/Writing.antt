-- What serves the functions inside: the pieces of a front as they are written, and its length by the numbers given.
use Rattle.std.specs.Prelude.{ℕ, min, ◌+◌, ◌-◌, ◌*◌, ◌/◌, ◌%◌, ◌≤◌, ◌<◌, ◌≡◌, Bool, true, eqb, List, [], ◌∷◌, ◌++◌, length, get_or}
use Rattle.wire.specs.Pick.{pick, round_up}
use Rattle.wire.specs.Tests.{◌≤?◌, ◌≡?◌, passes, all_below, sum_below}
use Rattle.wire.specs.Bytes.{bytes_of, part, zeros}
use Rattle.header.specs.Element.{block_size}
use Rattle.geometry.specs.Sizes.{uncompressed}
use Rattle.check_header.specs.Ceilings.{most_file_bytes}
use Rattle.written_records.specs.Pieces.{record_length}
use Rattle.fronts.specs.declared.entries.Numbers.{Numbers}
use Rattle.fronts.specs.declared.sides.Sides.{Sides}
use Rattle.fronts.specs.Front.{strung, string_of, range_count, range_number, entry_of}
use Rattle.fronts.specs.Judged.{sides_told, sides_allowed}
use Rattle.fronts.specs.Given.{number_of, texts_length, text_at, stated_by, method_length, method_at, texts_short, method_short}

-- the first n numbers of a block, which stand in a list from `first` on
unfoldable pub range_bytes : ℕ → ℕ → List ℕ → ℕ → List ℕ
range_bytes kind n l first = strung n (λ i. bytes_of 4 (range_number kind (get_or l (first + i) 0)))

-- up to the label
unfoldable pub head_length : ℕ → ℕ → ℕ
head_length kind n = round_up 4 (10 + n + block_size kind)

unfoldable pub head_bytes : ℕ → ℕ → List ℕ → List ℕ → ℕ → List ℕ
head_bytes kind continuous name l first =
    (kind ∷ continuous ∷ []) ++ zeros 6 ++ string_of name ++ range_bytes kind (range_count kind) l first
    ++ zeros (head_length kind (length name) - (10 + length name + block_size kind))

-- from the label on
unfoldable pub tail_length : ℕ → ℕ → ℕ → ℕ
tail_length a b c = round_up 4 (6 + a + b + c)

unfoldable pub tail_bytes : List ℕ → List ℕ → List ℕ → List ℕ
tail_bytes a b c =
    string_of a ++ string_of b ++ string_of c
    ++ zeros (tail_length (length a) (length b) (length c) - (6 + length a + length b + length c))

-- the sides among a page's numbers; whether each is a side, and none above its ceiling
abbrev pub sides_of : List ℕ → Sides
sides_of g = record { rows = get_or g 0 0; columns = get_or g 1 0; tile_rows = get_or g 2 0; tile_columns = get_or g 3 0 }

abbrev pub told : Sides → Bool
told s = sides_told s.rows s.columns s.tile_rows s.tile_columns

abbrev pub allowed : Sides → Bool
allowed s = sides_allowed s.rows s.columns s.tile_rows s.tile_columns

-- what an element's numbers say, as they are read at once
unfoldable pub numbers_at : List ℕ → ℕ → Numbers
numbers_at es e =
    record {
      kind = min (number_of es e 0) 255;
      continuous = pick (eqb (number_of es e 1) 0) 0 1;
      name = number_of es e 2;
      label = number_of es e 3;
      description = number_of es e 4;
      unit = number_of es e 5;
    }

-- an entry's length, and the front's, as they are counted: by the lengths that are given, before any string is looked at
unfoldable pub entry_counted : List ℕ → ℕ → ℕ
entry_counted es e =
    head_length (numbers_at es e).kind (numbers_at es e).name + tail_length (numbers_at es e).label (numbers_at es e).description (numbers_at es e).unit

unfoldable pub body_counted : List ℕ → List ℕ → ℕ
body_counted g es =
    274 + sum_below (length es / 14) (entry_counted es) + 2 * (length g - 6) + sum_below (length g - 6) (method_length g) + get_or g 5 0

unfoldable pub front_counted : List ℕ → List ℕ → ℕ
front_counted g es = 16 + record_length (body_counted g es)

-- the numbers of the first n elements are there, they are no more than a front could have, and their strings are short: so that their
-- lengths can be added up. The same of methods
pub record Summed (es : List ℕ) (n : ℕ) : Type 0 where
  pub there : n * 14 ≤ length es
  pub few : n ≤ most_file_bytes
  pub short : all_below n (texts_short es) ≡ true

pub record MethodsSummed (g : List ℕ) (n : ℕ) : Type 0 where
  pub there : 6 + n ≤ length g
  pub few : n ≤ most_file_bytes
  pub short : all_below n (method_short g) ≡ true

pub record Counted (g es : List ℕ) : Type 0 where
  pub elements : Summed es (length es / 14)
  pub methods : MethodsSummed g (length g - 6)
  pub label : get_or g 5 0 ≤ 65535

-- the rules of 12 in the order in which they are asked
unfoldable pub counts_right : List ℕ → List ℕ → List ℕ → Bool
counts_right g u es =
    passes
    ((6 ≤? length g) ∷ (length u ≡? 16) ∷ (length es % 14 ≡? 0) ∷ (length es / 14 ≤? most_file_bytes) ∷ (length g - 6 ≤? most_file_bytes)
    ∷ (get_or g 5 0 ≤? 65535) ∷ [])

unfoldable pub sums_right : List ℕ → List ℕ → List ℕ → Bool
sums_right g es ts =
    passes ((method_at g es (length g - 6) + get_or g 5 0 ≡? length ts) ∷ (front_counted g es ≤? most_file_bytes) ∷ [])

-- the uncompressed bytes of the first n elements in a tile
unfoldable pub tile_counted : List ℕ → ℕ → ℕ → ℕ → ℕ
tile_counted es n h w = sum_below n (λ e. uncompressed h w (numbers_at es e).kind)

-- the numbers of element e are there, its strings are short, and lie among the texts from `from` on
pub record Ready (es ts : List ℕ) (e from : ℕ) : Type 0 where
  pub there : e * 14 + 14 ≤ length es
  pub short : texts_short es e ≡ true
  pub start : from ≡ text_at es e
  pub inside : from + texts_length es e ≤ length ts

-- the fields at fixed places
unfoldable pub sides_bytes : ℕ → ℕ → ℕ → ℕ → List ℕ
sides_bytes a b c d = bytes_of 4 a ++ bytes_of 4 b ++ bytes_of 4 c ++ bytes_of 4 d

unfoldable pub fixed_bytes : List ℕ → ℕ → ℕ → ℕ → ℕ → ℕ → ℕ → List ℕ
fixed_bytes u a b c d flag n = u ++ zeros 64 ++ sides_bytes a b c d ++ zeros 8 ++ (flag ∷ []) ++ zeros 151 ++ bytes_of 4 n

-- the entries of the first n elements, and what their writer relies on
unfoldable pub entries_bytes : List ℕ → List ℕ → ℕ → List ℕ
entries_bytes es ts n = strung n (λ e. entry_of (stated_by es ts e))

pub record AllReady (es ts : List ℕ) (n : ℕ) : Type 0 where
  pub each : (e : ℕ) → e < n → Ready es ts e (text_at es e)

-- the names of the first n methods, whose bytes stand among the texts from `from` on, and what their writer relies on
unfoldable pub methods_bytes : List ℕ → List ℕ → ℕ → ℕ → List ℕ
methods_bytes g ts from n = strung n (λ i. string_of (part ts (from + sum_below i (method_length g)) (method_length g i)))

pub record MethodsReady (g ts : List ℕ) (from n : ℕ) : Type 0 where
  pub there : 6 + n ≤ length g
  pub inside : from + sum_below n (method_length g) ≤ length ts

-- what stands behind the entries: the number of methods, their names, the product label, eight bytes
unfoldable pub end_bytes : List ℕ → List ℕ → ℕ → List ℕ
end_bytes g ts from =
    bytes_of 4 (length g - 6) ++ methods_bytes g ts from (length g - 6)
    ++ string_of (part ts (from + sum_below (length g - 6) (method_length g)) (get_or g 5 0)) ++ zeros 8

pub record EndReady (g ts : List ℕ) (from : ℕ) : Type 0 where
  pub methods : MethodsSummed g (length g - 6)
  pub label : get_or g 5 0 ≤ 65535
  pub inside : from + sum_below (length g - 6) (method_length g) + get_or g 5 0 ≤ length ts
