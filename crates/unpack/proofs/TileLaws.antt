-- The rows of a tile, one after the other. Assumes nothing.
use Prim.Native.Nat.{ℕ, zero, suc, ◌+◌, ◌-◌, ◌*◌, ◌≤◌, ◌<◌}
use mathlib.Core.Path.{◌≡◌, refl, sym, ap, ap₂, subst, ◌∙◌}
use mathlib.Core.List.{List, [], ◌∷◌, ◌++◌, append_assoc, append-nil}
use mathlib.Core.Bool.{Bool, true, false}
use mathlib.Core.Logic.{by_cases}
use native.Mathlib.Omega.{arith}
use native.Mathlib.Decide.{dec_le}
use native.Mathlib.Nat.{suc-mul}
use lib.ListN.{length, get_or, take, length-append, length-take, drop_of_length-le}
use lib.Seq.{take_at, drop_at}
use Rattle.wire.specs.Tests.{both}
use Rattle.wire.specs.Bytes.{put}
use Rattle.wire.proofs.PutLaws.{put_fits, put_nil, put_put, length_put}
use Rattle.m32.specs.M32.{Next, Numbers, no_numbers, one_more, read_code, read_codes, code_of, codes}
use Rattle.m32.specs.declared.Found.{Found}
use Rattle.m32.proofs.ReadLaws.{read_full}
use Rattle.huffman.specs.Tree.{Tree}
use Rattle.huffman.specs.Jumps.{Coded}
use Rattle.predict.specs.Predict.{row_of, cell_rows}
use Rattle.std.specs.Prelude.{Option, Some, None}
use Rattle.unpack.specs.Unpack.{symbols, all_short, in_range, bits_of}
use Rattle.unpack.specs.Steps.{filling, Rowed, Few, fitted, tile_numbers, tile_values, Tiled}
use Rattle.unpack.specs.declared.rows.Made.{Made}
use Rattle.unpack.specs.declared.rows.Tile.{Tile}
use Rattle.unpack.proofs.RowLaws.{row_made}
use Rattle.unpack.proofs.ValueLaws.{range_append, bits_append, bits_length, fit_in, fit_out}

-- a tile that was made
abbrev pub tile_done : ℕ → ℕ → Option Tile
tile_done n v = Some (record { bytes = n; value = v })

-- numbers read in two parts

module _ (next : ℕ → Next) where
  split_full :
      (a b at : ℕ) → length (read_codes next a at).numbers ≡ a →
      (read_codes next (a + b) at).numbers ≡ (read_codes next a at).numbers ++ (read_codes next b (read_codes next a at).behind).numbers
  unfolding read_codes
  split_full zero b at e = let z : 0 + b ≡ b = omega arith in rw z
  split_full (suc a) b at e = let z : suc a + b ≡ suc (a + b) = omega arith in rw z (go (read_code next at) e (λ q. split_full a b q))
    where
      go :
          (f : Option Found) → length (one_more f at (λ q. read_codes next a q)).numbers ≡ suc a →
          ((q : ℕ) → length (read_codes next a q).numbers ≡ a → (read_codes next (a + b) q).numbers ≡ (read_codes next a q).numbers ++ (read_codes next b (read_codes next a q).behind).numbers) →
          (one_more f at (λ q. read_codes next (a + b) q)).numbers
          ≡ (one_more f at (λ q. read_codes next a q)).numbers ++ (read_codes next b (one_more f at (λ q. read_codes next a q)).behind).numbers
      go (Some f) g i = ap (λ (l : List ℕ). f.x ∷ l) (i f.at (omega arith))
      go None g i = absurd (omega arith)

  split_short : (a b at : ℕ) → length (read_codes next (a + b) at).numbers ≡ a + b → length (read_codes next a at).numbers ≡ a
  unfolding read_codes
  split_short zero b at e = refl
  split_short (suc a) b at e = let z : suc a + b ≡ suc (a + b) = omega arith in go (read_code next at) (rw z at e) (λ q. split_short a b q)
    where
      go :
          (f : Option Found) → length (one_more f at (λ q. read_codes next (a + b) q)).numbers ≡ suc (a + b) →
          ((q : ℕ) → length (read_codes next (a + b) q).numbers ≡ a + b → length (read_codes next a q).numbers ≡ a) →
          length (one_more f at (λ q. read_codes next a q)).numbers ≡ suc a
      go (Some f) g i = ap suc (i f.at (omega arith))
      go None g i = absurd (omega arith)

codes_length : (xs ys : List ℕ) → length (codes (xs ++ ys)) ≡ length (codes xs) + length (codes ys)
unfolding codes
codes_length [] ys = omega arith
codes_length (x ∷ xs) ys = omega (arith, length-append (code_of x) (codes (xs ++ ys)), length-append (code_of x) (codes xs), codes_length xs ys)

-- a first row, and the rows below it
rows_more : (p w l : ℕ) (above xs ys : List ℕ) → length xs ≡ w → cell_rows p w above (suc l) (xs ++ ys) ≡ row_of p above xs ++ cell_rows p w (row_of p above xs) l ys
unfolding cell_rows
rows_more p w l above xs ys e = rw (take_at xs ys w e, drop_at xs ys w e)

rows_none : (p w : ℕ) (above ys : List ℕ) → cell_rows p w above 0 ys ≡ []
unfolding cell_rows
rows_none p w above ys = refl

-- what is put

pub put_whole : (d v : List ℕ) → length d ≡ length v → put d 0 v ≡ v
put_whole d v e =
    let n : length d ≤ 0 + length v = omega arith in
    put_fits d 0 v (omega arith) ∙ ap (λ (l : List ℕ). v ++ l) (drop_of_length-le d n) ∙ append-nil v

fit_none : (n : ℕ) (d : List ℕ) → d ≡ fitted n d 0 []
fit_none n d = by_cases (dec_le n (length d)) (λ h. sym (fit_in n d 0 [] h ∙ put_nil d 0)) (λ f. fit_out n d 0 [] (omega arith))

fit_then : (n : ℕ) (d v w : List ℕ) → length v + length w ≤ n → fitted n (fitted n d 0 v) (length v) w ≡ fitted n d 0 (v ++ w)
fit_then n d v w h =
    by_cases (dec_le n (length d))
    (λ k.
    let e : put (put d 0 v) (0 + length v) w ≡ put d 0 (v ++ w) = put_put d 0 v w (omega arith) in
    let z : 0 + length v ≡ length v = omega arith in
    ap (λ (x : List ℕ). fitted n x (length v) w) (fit_in n d 0 v k)
    ∙ fit_in n (put d 0 v) (length v) w (omega (arith, length_put d 0 v))
    ∙ rw z at e
    ∙ sym (fit_in n d 0 (v ++ w) k))
    (λ f.
    ap (λ (x : List ℕ). fitted n x (length v) w) (sym (fit_out n d 0 v (omega arith)))
    ∙ sym (fit_out n d (length v) w (omega arith))
    ∙ fit_out n d 0 (v ++ w) (omega arith))

both_first : (a b : Bool) → both a b ≡ true → a ≡ true
both_first true b e = refl
both_first false b e = e

both_second : (a b : Bool) → both a b ≡ true → b ≡ true
both_second true b e = e
both_second false b e = absurd (let z : ◌≡◌ {A = ℕ} 0 1 = cc in omega arith)

range_none : (short : Bool) → in_range short [] ≡ true
unfolding in_range all_short
range_none true = refl
range_none false = refl

-- where the rows stand: `left` are to be made, `at` cells are made, `from` columns of the next row are filled already
pub record Sizes (w n lo : ℕ) (above row out : List ℕ) (left at from bytes : ℕ) : Type 0 where
  pub above_long : length above ≡ w
  pub row_long : length row ≡ w
  pub out_long : length out ≡ lo
  pub whole : at + left * w ≡ n
  pub first : from ≤ 1
  pub some : from ≤ left * w
  pub few : bytes + 24576 * left ≤ 100663296

pub one_less : (left w : ℕ) → 0 < left → left * w ≡ (left - 1) * w + w
one_less zero w h = absurd (omega arith)
one_less (suc l) w h = let e : suc l - 1 ≡ l = omega arith in rw e (suc-mul l w)

-- what was read and made: `done` are the numbers, `made` the cells; what is still to come makes up the whole tile
pub record Going (next : ℕ → Next) (p : ℕ) (short : Bool) (start rows inside n : ℕ) (a r d above row out : List ℕ) (left at from pos bytes value : ℕ) : Type 0 where
  pub done : List ℕ
  pub made : List ℕ
  pub numbers : done ++ (read_codes next (left * length r - from) pos).numbers ≡ tile_numbers next start rows (length r)
  pub values :
      made ++ cell_rows p (length r) above left (take from row ++ (read_codes next (left * length r - from) pos).numbers) ≡ tile_values next p start rows a r
  pub long : length made ≡ at
  pub count : length done + 1 ≡ at + from
  pub counted : bytes ≡ length (codes done)
  pub range : in_range short made ≡ true
  pub found : value ≡ get_or (bits_of short made) inside 0
  pub is : out ≡ fitted n d 0 (bits_of short made)

module _ (next : ℕ → Next) (p : ℕ) (short : Bool) (start rows inside n : ℕ) (a r d : List ℕ) where
  going_start : Going next p short start rows inside n a r d a r d rows 0 1 start 0 0
  unfolding tile_numbers tile_values codes bits_of
  going_start =
      record {
        done = [];
        made = [];
        numbers = refl;
        values = refl;
        long = refl;
        count = refl;
        counted = refl;
        range = range_none short;
        found = refl;
        is = fit_none n d;
      }

  module _ (above row out : List ℕ) (left at from pos bytes value : ℕ) (g : Going next p short start rows inside n a r d above row out left at from pos bytes value)
      (s : Sizes (length r) n (length d) above row out left at from bytes) where
    module _ (h : 0 < left) (w : 1 ≤ length r) where
      -- the numbers of the next row, its residuals, and the numbers behind it
      abbrev xs : List ℕ
      xs = (filling next pos from row).numbers

      abbrev ds : List ℕ
      ds = take from row ++ xs

      abbrev ys : List ℕ
      ys = (read_codes next ((left - 1) * length r) (filling next pos from row).behind).numbers

      parts : left * length r - from ≡ length row - from + (left - 1) * length r
      parts = omega (arith, s.row_long, s.first, one_less left (length r) h)

      module _ (full : length xs ≡ length row - from) where
        ahead : (read_codes next (left * length r - from) pos).numbers ≡ xs ++ ys
        ahead = ap (λ (m : ℕ). (read_codes next m pos).numbers) parts ∙ split_full next (length row - from) ((left - 1) * length r) pos full

        ds_long : length ds ≡ length r
        ds_long = length-append (take from row) xs ∙ omega (arith, length-take from row, s.row_long, s.first)

        numbers_ahead : g.done ++ xs ++ ys ≡ tile_numbers next start rows (length r)
        numbers_ahead = append_assoc g.done xs ys ∙ ap (λ (l : List ℕ). g.done ++ l) (sym ahead) ∙ g.numbers

        values_ahead : g.made ++ row_of p above ds ++ cell_rows p (length r) (row_of p above ds) (left - 1) ys ≡ tile_values next p start rows a r
        values_ahead =
            let e : suc (left - 1) ≡ left = omega arith in
            append_assoc g.made (row_of p above ds) (cell_rows p (length r) (row_of p above ds) (left - 1) ys)
            ∙ ap (λ (l : List ℕ). g.made ++ l)
            (sym (rows_more p (length r) (left - 1) above ds ys ds_long)
            ∙ ap₂ (λ (k : ℕ) (l : List ℕ). cell_rows p (length r) above k l) e
            (append_assoc (take from row) xs ys ∙ ap (λ (l : List ℕ). take from row ++ l) (sym ahead)))
            ∙ g.values

      -- where the next row can't be made, the tile can't
      going_not :
          (row' : List ℕ) → Rowed next p short pos from above row row' None → length (tile_numbers next start rows (length r)) ≡ rows * length r - 1 → n ≡ rows * length r →
          in_range short (tile_values next p start rows a r) ≡ true → ⊥
      unfolding Rowed
      going_not row' b e k i =
          let m : length (read_codes next (left * length r - from) pos).numbers ≡ left * length r - from =
          omega (arith, ap length (sym g.numbers), length-append g.done (read_codes next (left * length r - from) pos).numbers, g.count, s.whole, s.some) in
          let f : length xs ≡ length row - from = split_short next (length row - from) ((left - 1) * length r) pos (rw parts at m) in
          let u : both (both (in_range short g.made) (in_range short (row_of p above ds))) (in_range short (cell_rows p (length r) (row_of p above ds) (left - 1) ys)) ≡ true =
          ap (λ (x : Bool). both x (in_range short (cell_rows p (length r) (row_of p above ds) (left - 1) ys))) (sym (range_append short g.made (row_of p above ds)))
          ∙ sym (range_append short (g.made ++ row_of p above ds) (cell_rows p (length r) (row_of p above ds) (left - 1) ys))
          ∙ ap (in_range short) (values_ahead f)
          ∙ i in
          b f (both_second (in_range short g.made) (in_range short (row_of p above ds)) (both_first _ _ u))

      going_more :
          (above' row' out' : List ℕ) (q b v : ℕ) → Rowed next p short pos from above row row' (row_made q b) →
          above' ≡ row' → out' ≡ fitted n out at (bits_of short row') →
          ((vs : List ℕ) → length vs ≡ at → value ≡ get_or (bits_of short vs) inside 0 → v ≡ get_or (bits_of short (vs ++ row')) inside 0) → length row' ≡ length row →
          Going next p short start rows inside n a r d above' row' out' (left - 1) (at + length row') 0 q (bytes + b) v
      unfolding Rowed
      going_more above' row' out' q b v o e f k l =
          let z : above' ≡ row_of p above ds = e ∙ o.is in
          let y : (read_codes next ((left - 1) * length r - 0) q).numbers ≡ ys =
          ap₂ (λ (m j : ℕ). (read_codes next m j).numbers) (omega arith) o.behind in
          let m : length (bits_of short g.made) ≡ at = bits_length short g.made ∙ g.long in
          record {
            done = g.done ++ xs;
            made = g.made ++ row';
            numbers = ap (λ (u : List ℕ). g.done ++ xs ++ u) y ∙ numbers_ahead o.full;
            values =
                ap (λ (u : List ℕ). g.made ++ u ++ cell_rows p (length r) above' (left - 1) (read_codes next ((left - 1) * length r - 0) q).numbers) o.is
                ∙ ap₂ (λ (u t : List ℕ). g.made ++ row_of p above ds ++ cell_rows p (length r) u (left - 1) t) z y
                ∙ values_ahead o.full;
            long = length-append g.made row' ∙ omega (arith, g.long);
            count = omega (arith, length-append g.done xs, o.full, g.count, s.row_long, s.first);
            counted = omega (arith, codes_length g.done xs, g.counted, o.bytes);
            range = range_append short g.made row' ∙ rw (g.range, o.range);
            found = k g.made g.long g.found;
            is =
                f
                ∙ ap₂ (λ (x : List ℕ) (j : ℕ). fitted n x j (bits_of short row')) g.is (sym m)
                ∙ fit_then n d (bits_of short g.made) (bits_of short row') (omega (arith, bits_length short row', s.row_long, s.whole, one_less left (length r) h))
                ∙ ap (fitted n d 0) (sym (bits_append short g.made row'));
          }

    going_end : left ≤ 0 → 1 ≤ n → n ≡ rows * length r → Tiled next p short start rows inside a r d out (tile_done bytes value)
    unfolding Tiled
    going_end h w k =
        let z : left ≡ 0 = omega arith in
        let y : read_codes next (left * length r - from) pos ≡ no_numbers pos = read_full next (left * length r - from) pos (rw z (omega arith)) in
        let x : g.done ≡ tile_numbers next start rows (length r) =
        sym (append-nil g.done) ∙ ap (λ (ns : Numbers). g.done ++ ns.numbers) (sym y) ∙ g.numbers in
        let v : g.made ≡ tile_values next p start rows a r =
        sym (append-nil g.made)
        ∙ ap (λ (l : List ℕ). g.made ++ l) (sym (rows_none p (length r) above (take from row ++ (read_codes next (left * length r - from) pos).numbers)))
        ∙ ap (λ (j : ℕ). g.made ++ cell_rows p (length r) above j (take from row ++ (read_codes next (left * length r - from) pos).numbers)) (sym z)
        ∙ g.values in
        let u : left * length r ≡ 0 = rw z (omega arith) in
        record {
          full = ap length (sym x) ∙ omega (arith, g.count, s.whole, s.some);
          range = ap (in_range short) (sym v) ∙ g.range;
          bytes = g.counted ∙ ap (λ (l : List ℕ). length (codes l)) x;
          value = g.found ∙ ap (λ (l : List ℕ). get_or (bits_of short l) inside 0) v;
          is = g.is ∙ ap₂ (λ (j : ℕ) (l : List ℕ). fitted j d 0 (bits_of short l)) k v;
        }

-- one row more, and fewer to come
pub sizes_more :
    (w n lo : ℕ) (above row out above' row' out' : List ℕ) (left at from bytes b : ℕ) → Sizes w n lo above row out left at from bytes → 0 < left →
    length above' ≡ length above → length row' ≡ length row → length out' ≡ length out → b ≤ 24576 →
    Sizes w n lo above' row' out' (left - 1) (at + length row') 0 (bytes + b)
sizes_more w n lo above row out above' row' out' left at from bytes b s h x y z f =
    record {
      above_long = x ∙ s.above_long;
      row_long = y ∙ s.row_long;
      out_long = z ∙ s.out_long;
      whole = omega (arith, s.whole, s.row_long, one_less left w h);
      first = omega arith;
      some = omega arith;
      few = omega (arith, s.few);
    }

-- the same by whatever tree the nodes are

module _ (c nodes jumps : List ℕ) (p : ℕ) (short : Bool) (start rows inside n : ℕ) (a r d : List ℕ) where
  abbrev pub Goes : List ℕ → List ℕ → List ℕ → ℕ → ℕ → ℕ → ℕ → ℕ → ℕ → Type 0
  Goes above row out left at from pos bytes value =
      (t : Tree) → Coded nodes jumps t → Going (symbols t c) p short start rows inside n a r d above row out left at from pos bytes value

  abbrev Tiles : List ℕ → Option Tile → Type 0
  Tiles out x = (t : Tree) → Coded nodes jumps t → Tiled (symbols t c) p short start rows inside a r d out x

  pub goes_start : Goes a r d rows 0 1 start 0 0
  goes_start t i = going_start (symbols t c) p short start rows inside n a r d

  module _ (above row out : List ℕ) (left at from pos bytes value : ℕ) (g : Goes above row out left at from pos bytes value)
      (s : Sizes (length r) n (length d) above row out left at from bytes) where
    abbrev Rows : List ℕ → Option Made → Type 0
    Rows row' x = (t : Tree) → Coded nodes jumps t → Rowed (symbols t c) p short pos from above row row' x

    pub goes_not : (x : Option Made) (row' out' : List ℕ) → 0 < left → 1 ≤ length r → n ≡ rows * length r → Rows row' x → x ≡ None → Tiles out' None
    unfolding Tiled
    goes_not x row' out' h w k o e t i f j =
        going_not (symbols t c) p short start rows inside n a r d above row out left at from pos bytes value (g t i) s h w row'
        (subst (λ (y : Option Made). Rowed (symbols t c) p short pos from above row row' y) e (o t i)) f k j

    pub goes_more :
        (x : Option Made) (above' row' out' : List ℕ) (q b v : ℕ) → 0 < left → 1 ≤ length r → Rows row' x → x ≡ row_made q b →
        above' ≡ row' → out' ≡ fitted n out at (bits_of short row') →
        ((vs : List ℕ) → length vs ≡ at → value ≡ get_or (bits_of short vs) inside 0 → v ≡ get_or (bits_of short (vs ++ row')) inside 0) → length row' ≡ length row →
        Goes above' row' out' (left - 1) (at + length row') 0 q (bytes + b) v
    goes_more x above' row' out' q b v h w o e y z k l t i =
        going_more (symbols t c) p short start rows inside n a r d above row out left at from pos bytes value (g t i) s h w above' row' out' q b v
        (subst (λ (u : Option Made). Rowed (symbols t c) p short pos from above row row' u) e (o t i)) y z k l

    pub goes_end : left ≤ 0 → 1 ≤ n → n ≡ rows * length r → Tiles out (tile_done bytes value)
    goes_end h w k t i = going_end (symbols t c) p short start rows inside n a r d above row out left at from pos bytes value (g t i) s h w k

pub few_row : (x : Option Made) (q b : ℕ) → Few x → x ≡ row_made q b → b ≤ 24576
unfolding Few
few_row x q b f e = subst Few e f
