-- A description as it is given: g are the page's numbers, u the UUID, es the elements' numbers, 14 each, ts the texts.
-- Of a page: grid rows, grid columns, tile rows, tile columns, whether checksums are on, the bytes of the product label, then the bytes
-- of each compression method's name. Of an element: type code, continuous, the bytes of its name, label, description and unit, then eight
-- numbers of its range and fill block. The texts stand in the order of the file, without lengths.
use Rattle.std.specs.Prelude.{ℕ, min, ◌+◌, ◌-◌, ◌*◌, ◌/◌, ◌%◌, ◌<◌, ◌≡◌, List, [], ◌∷◌, Bool, true, length, get_or, eqb, Err, Ok, Result, ⊤}
use Rattle.answer.specs.declared.Refusal.{Refusal}
use Rattle.wire.specs.Pick.{pick}
use Rattle.wire.specs.Tests.{◌≤?◌, ◌≡?◌, is, passes, all_below, sum_below}
use Rattle.wire.specs.Bytes.{Bytes, part}
use Rattle.answer.specs.declared.Refusal.TheVariants.{Input, Room}
use Rattle.answer.specs.Refusals.{gate, unless_refused}
use Rattle.check_header.specs.Ceilings.{most_file_bytes}
use Rattle.check_header.specs.Stages.{check_front}
use Rattle.fronts.specs.Front.{Stated, Description, front_of}
use Rattle.fronts.specs.Judged.{told_verdict, FrontSays}

-- number i of element e
unfoldable pub number_of : List ℕ → ℕ → ℕ → ℕ
number_of es e i = get_or es (e * 14 + i) 0

-- the bytes of its four strings, and where they start among the texts
unfoldable pub texts_length : List ℕ → ℕ → ℕ
texts_length es e = number_of es e 2 + number_of es e 3 + number_of es e 4 + number_of es e 5

unfoldable pub text_at : List ℕ → ℕ → ℕ
text_at es e = sum_below e (texts_length es)

-- a type code above 255 is told as 255; neither is one
unfoldable pub stated_by : List ℕ → List ℕ → ℕ → Stated
stated_by es ts e =
    record {
      kind = min (number_of es e 0) 255;
      continuous = pick (eqb (number_of es e 1) 0) 0 1;
      name = part ts (text_at es e) (number_of es e 2);
      label = part ts (text_at es e + number_of es e 2) (number_of es e 3);
      description = part ts (text_at es e + number_of es e 2 + number_of es e 3) (number_of es e 4);
      unit = part ts (text_at es e + number_of es e 2 + number_of es e 3 + number_of es e 4) (number_of es e 5);
      range = λ i. get_or es (e * 14 + 6 + i) 0;
    }

-- the methods' names stand behind the elements' strings, the product label behind them
unfoldable pub method_length : List ℕ → ℕ → ℕ
method_length g i = get_or g (6 + i) 0

unfoldable pub method_at : List ℕ → List ℕ → ℕ → ℕ
method_at g es i = text_at es (length es / 14) + sum_below i (method_length g)

unfoldable pub described_by : List ℕ → List ℕ → List ℕ → List ℕ → Description
described_by g u es ts =
    record {
      rows = get_or g 0 0;
      columns = get_or g 1 0;
      tile_rows_lem = get_or g 2 0;
      tile_columns_lem = get_or g 3 0;
      flag = min (get_or g 4 0) 255;
      uuid = u;
      elements = length es / 14;
      element = stated_by es ts;
      methods = length g - 6;
      method = λ i. part ts (method_at g es i) (method_length g i);
      label = part ts (method_at g es (length g - 6)) (get_or g 5 0);
    }

-- 12: too few numbers; a UUID or elements of another length; a string too long for its field; texts of another length than they are said
-- to have; a front longer than a file may be
unfoldable pub texts_short : List ℕ → ℕ → Bool
texts_short es e =
    passes ((number_of es e 2 ≤? 65535) ∷ (number_of es e 3 ≤? 65535) ∷ (number_of es e 4 ≤? 65535) ∷ (number_of es e 5 ≤? 65535) ∷ [])

unfoldable pub method_short : List ℕ → ℕ → Bool
method_short g i = passes ((method_length g i ≤? 65535) ∷ [])

unfoldable pub describable : List ℕ → List ℕ → List ℕ → List ℕ → Bool
describable g u es ts =
    passes
    ((6 ≤? length g) ∷ (length u ≡? 16) ∷ (length es % 14 ≡? 0) ∷ is (all_below (length es / 14) (texts_short es))
    ∷ is (all_below (length g - 6) (method_short g)) ∷ (get_or g 5 0 ≤? 65535) ∷ (method_at g es (length g - 6) + get_or g 5 0 ≡? length ts)
    ∷ (length (front_of (described_by g u es ts)) ≤? most_file_bytes) ∷ [])

-- 12; then 3 and 4 as the check gives them; then 13
unfoldable pub front_verdict : List ℕ → List ℕ → List ℕ → List ℕ → ℕ → Result ⊤ Refusal
front_verdict g u es ts room =
    gate (describable g u es ts) Input
    (unless_refused Err (told_verdict (described_by g u es ts))
    (gate (passes ((length (front_of (described_by g u es ts)) ≤? room) ∷ [])) Room (Ok tt)))

-- the answer is the front's length, or the refusal
unfoldable pub front_made : List ℕ → List ℕ → List ℕ → List ℕ → ℕ → Result ℕ Refusal
front_made g u es ts room = unless_refused Err (front_verdict g u es ts room) (Ok (length (front_of (described_by g u es ts))))

-- numbers of 32 bits, as a slice of u32 holds them
pub record Words (l : List ℕ) : Type 0 where
  pub small : (i : ℕ) → get_or l i 0 < 4294967296

-- an element's strings are whole: each has the length that was given
pub record WholeTexts (es ts : List ℕ) (e : ℕ) : Type 0 where
  pub name : length (stated_by es ts e).name ≡ number_of es e 2
  pub label : length (stated_by es ts e).label ≡ number_of es e 3
  pub description : length (stated_by es ts e).description ≡ number_of es e 4
  pub unit : length (stated_by es ts e).unit ≡ number_of es e 5

-- of every front that is made: its length, that it is a front for a lay-down, and that it says what it was told, each string whole
pub record Made (g u es ts : List ℕ) (n : ℕ) : Type 0 where
  pub long : length (front_of (described_by g u es ts)) ≡ n
  pub accepted : check_front (front_of (described_by g u es ts)) ≡ Ok tt
  pub says : FrontSays (front_of (described_by g u es ts)) (described_by g u es ts)
  pub bytes : Bytes (front_of (described_by g u es ts))
  pub whole : (e : ℕ) → e < length es / 14 → WholeTexts es ts e
  pub method : (i : ℕ) → i < length g - 6 → length ((described_by g u es ts).method i) ≡ method_length g i
  pub label : length (described_by g u es ts).label ≡ get_or g 5 0

abbrev pub FrontMade : Type 0
FrontMade = (g u es ts : List ℕ) (room n : ℕ) → Words g → Bytes u → Words es → Bytes ts → front_made g u es ts room ≡ Ok n → Made g u es ts n

-- and what is refused behind 12 and before 13 is what the check refuses
abbrev pub RefusedAsChecked : Type 0
RefusedAsChecked =
    (g u es ts : List ℕ) → Words g → Words es → (describable g u es ts ≡ true) →
    check_front (front_of (described_by g u es ts)) ≡ told_verdict (described_by g u es ts)
