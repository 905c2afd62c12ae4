-- A row of numbers read, and the row of cells that they make. Assumes nothing.
use Prim.Native.Nat.{ℕ, zero, suc, ◌+◌, ◌-◌, ◌*◌, ◌%◌, ◌≤◌, ◌<◌}
use mathlib.Core.Path.{◌≡◌, refl, sym, ap, subst, ◌∙◌}
use mathlib.Core.List.{List, [], ◌∷◌, ◌++◌, append-nil}
use mathlib.Core.Bool.{Bool, true, false}
use native.Mathlib.Omega.{arith}
use native.Mathlib.Numerals.{add-one}
use lib.ListN.{length, set, take, drop, replicate, length-append, length-take, length-drop, length-replicate}
use lib.Seq.{take-suc-set, append_snoc, take_all, drop_at}
use lib.Dec.{leb, eqb}
use Rattle.wire.specs.Pick.{pick}
use Rattle.wire.proofs.TestLaws.{not_both}
use Rattle.m32.specs.M32.{found, bases, Next, Numbers, no_numbers, in_front, read_code, read_codes, absolute, reached, continued, wide, code_of, codes}
use Rattle.m32.specs.declared.Found.{Found}
use Rattle.m32.proofs.BackLaws.{read_more}
use Rattle.m32.proofs.ReadLaws.{read_none, read_full}
use Rattle.m32.proofs.CodeLaws.{wide_length}
use Rattle.huffman.specs.Tree.{Tree}
use Rattle.huffman.specs.Jumps.{Coded}
use Rattle.predict.specs.Predict.{row_of}
use Rattle.std.specs.Prelude.{Option, Some, None}
use Rattle.unpack.specs.declared.rows.Made.{Made}
use Rattle.unpack.specs.Unpack.{symbols, in_range}
use Rattle.unpack.specs.Steps.{filled_from, filling, LineGood, Lined, Rowed, Few}

-- a row that was made
abbrev pub row_made : ℕ → ℕ → Option Made
row_made q n = Some (record { pos = q; bytes = n })

-- a number whose code takes nothing is that of every code behind it
repeated : (next : ℕ → Next) (n x p : ℕ) → read_code next p ≡ found x p → read_codes next n p ≡ record { numbers = replicate n x; behind = p }
unfolding read_codes
repeated next zero x p e = refl
repeated next (suc n) x p e = read_more next n x p p e ∙ ap (in_front x) (repeated next n x p e)

-- a row under way: its columns below i are filled, and the code of column i is at `pos`
pub record Filling (next : ℕ → Next) (start from : ℕ) (a row : List ℕ) (i pos : ℕ) : Type 0 where
  pub numbers : take i row ++ (read_codes next (length a - i) pos).numbers ≡ take from a ++ (filling next start from a).numbers
  pub behind : (read_codes next (length a - i) pos).behind ≡ (filling next start from a).behind

module _ (next : ℕ → Next) (start from : ℕ) (a : List ℕ) where
  fill_start : Filling next start from a a from start
  fill_start = record { numbers = refl; behind = refl }

  module _ (row : List ℕ) (i pos : ℕ) (f : Filling next start from a row i pos) (l : length row ≡ length a) (h : from ≤ i) where
    fill_one : (x q : ℕ) → i < length a → found x q ≡ read_code next pos → Filling next start from a (set row i x) (i + 1) q
    fill_one x q k e =
        let m : length a - i ≡ suc (length a - (i + 1)) = omega arith in
        let r : read_codes next (length a - i) pos ≡ in_front x (read_codes next (length a - (i + 1)) q) = rw m (read_more next (length a - (i + 1)) x pos q (sym e)) in
        record {
          numbers =
              rw (add-one i, take-suc-set row i x (omega arith)) (append_snoc (take i row) x (read_codes next (length a - suc i) q).numbers)
              ∙ ap (λ (n : ℕ). take i row ++ x ∷ (read_codes next (length a - n) q).numbers) (sym (add-one i))
              ∙ ap (λ (ns : Numbers). take i row ++ ns.numbers) (sym r)
              ∙ f.numbers;
          behind = ap (λ (ns : Numbers). ns.behind) (sym r) ∙ f.behind;
        }

    -- no more are read
    long : read_codes next (length a - i) pos ≡ no_numbers pos → i ≤ length a → from + length (filling next start from a).numbers ≡ i
    long e k =
        let p : length (take i row ++ (read_codes next (length a - i) pos).numbers) ≡ i = rw (e, append-nil (take i row), length-take) (omega arith) in
        let q : length (take from a ++ (filling next start from a).numbers) ≡ from + length (filling next start from a).numbers = rw (length-append, length-take) (omega arith) in
        sym q ∙ ap length (sym f.numbers) ∙ p

    fill_short : i < length a → None ≡ read_code next pos → Lined next start from a row None
    unfolding Lined
    fill_short k e n = omega (arith, long (read_none next (length a - i) pos (omega arith) (sym e)) (omega arith))

    fill_end : i ≡ length a → Lined next start from a row (Some pos)
    unfolding Lined
    fill_end k =
        let e : read_codes next (length a - i) pos ≡ no_numbers pos = read_full next (length a - i) pos (omega arith) in
        record {
          full = omega (arith, long e (omega arith));
          behind = sym (ap (λ (ns : Numbers). ns.behind) e) ∙ f.behind;
          is = sym (rw (e, append-nil (take i row)) (take_all i row (omega arith))) ∙ f.numbers;
        }

    fill_same : (x q : ℕ) → i < length a → found x q ≡ read_code next pos → q ≡ pos → Lined next start from a (filled_from row i x) (Some pos)
    unfolding Lined filled_from
    fill_same x q k e u =
        let r : read_codes next (length a - i) pos ≡ record { numbers = replicate (length a - i) x; behind = pos } =
        repeated next (length a - i) x pos (sym e ∙ ap (found x) u) in
        let g : take i row ++ replicate (length row - i) x ≡ take from a ++ (filling next start from a).numbers =
        rw l (ap (λ (ns : Numbers). take i row ++ ns.numbers) (sym r)) ∙ f.numbers in
        let m : length (take i row ++ replicate (length row - i) x) ≡ length a = rw (length-append, length-take, length-replicate) (omega arith) in
        let o : length (take from a ++ (filling next start from a).numbers) ≡ from + length (filling next start from a).numbers = rw (length-append, length-take) (omega arith) in
        record { full = omega (arith, sym o ∙ ap length (sym g) ∙ m); behind = ap (λ (ns : Numbers). ns.behind) (sym r) ∙ f.behind; is = g }

-- the same by whatever tree the nodes are

module _ (c nodes jumps : List ℕ) (start from : ℕ) (a : List ℕ) where
  abbrev pub Fills : List ℕ → ℕ → ℕ → Type 0
  Fills row i pos = (t : Tree) → Coded nodes jumps t → Filling (symbols t c) start from a row i pos

  pub fills_start : Fills a from start
  fills_start t n = fill_start (symbols t c) start from a

  abbrev Lines : List ℕ → Option ℕ → Type 0
  Lines row r = (t : Tree) → Coded nodes jumps t → Lined (symbols t c) start from a row r

  module _ (row : List ℕ) (i pos : ℕ) (f : Fills row i pos) (l : length row ≡ length a) (h : from ≤ i) where
    abbrev Is : Option Found → Type 0
    Is r = (t : Tree) → Coded nodes jumps t → r ≡ read_code (symbols t c) pos

    pub fills_one : (r : Option Found) (x q : ℕ) → i < length a → Is r → r ≡ found x q → Fills (set row i x) (i + 1) q
    fills_one r x q k e g t n = fill_one (symbols t c) start from a row i pos (f t n) l h x q k (sym g ∙ e t n)

    pub fills_short : (r : Option Found) → i < length a → Is r → r ≡ None → Lines row None
    fills_short r k e g t n = fill_short (symbols t c) start from a row i pos (f t n) l h k (sym g ∙ e t n)

    pub fills_same : (r : Option Found) (x q : ℕ) → i < length a → Is r → r ≡ found x q → q ≡ pos → Lines (filled_from row i x) (Some pos)
    fills_same r x q k e g u t n = fill_same (symbols t c) start from a row i pos (f t n) l h x q k (sym g ∙ e t n) u

    pub fills_end : i ≡ length a → Lines row (Some pos)
    fills_end k t n = fill_end (symbols t c) start from a row i pos (f t n) l h k

-- six bytes a number are enough

reached_few : (m : ℕ) (bs : List ℕ) → reached m bs ≤ length bs
unfolding reached
reached_few m [] = omega arith
reached_few m (b ∷ bs) = go (leb b m) (reached_few m bs)
  where
    go : (t : Bool) → reached m bs ≤ length bs → pick t (suc (reached m bs)) 0 ≤ suc (length bs)
    go true h = omega arith
    go false h = omega arith

code_few : (x : ℕ) → length (code_of x) ≤ 6
unfolding code_of continued
code_few x = go (leb (absolute x) 126) (eqb (absolute x) 2147483648) (omega (arith, wide_length (absolute x), reached_few (absolute x) (drop 1 bases)))
  where
    go :
        (a b : Bool) → length (wide (absolute x)) ≤ 5 →
        length (pick a ((x % 256) ∷ []) (pick b (128 ∷ []) (pick (leb x 2147483647) 127 129 ∷ wide (absolute x)))) ≤ 6
    go true b h = omega arith
    go false true h = omega arith
    go false false h = omega arith

codes_few : (xs : List ℕ) → length (codes xs) ≤ 6 * length xs
unfolding codes
codes_few [] = omega arith
codes_few (x ∷ xs) = omega (arith, length-append (code_of x) (codes xs), code_few x, codes_few xs)

-- the row of cells

module _ (c nodes jumps : List ℕ) (start from : ℕ) (a b : List ℕ) (r : Option ℕ) (e : Lines c nodes jumps start from a b r) where
  module _ (p : ℕ) (short : Bool) (above : List ℕ) where
    pub row_short : (d : List ℕ) → r ≡ None → ((t : Tree) → Coded nodes jumps t → Rowed (symbols t c) p short start from above a d None) × Few None
    unfolding Rowed Lined Few
    row_short d f = ((λ t n g h. subst (λ (x : Option ℕ). Lined (symbols t c) start from a b x) f (e t n) g), tt)

    module _ (d : List ℕ) (s : Bool) (q : ℕ) (f : r ≡ Some q) (g : d ≡ row_of p above b) (h : s ≡ in_range short d) where
      line : (t : Tree) → Coded nodes jumps t → LineGood (symbols t c) start from a b q
      unfolding Lined
      line t n = subst (λ (x : Option ℕ). Lined (symbols t c) start from a b x) f (e t n)

      same_row : (t : Tree) (n : Coded nodes jumps t) → d ≡ row_of p above (take from a ++ (filling (symbols t c) start from a).numbers)
      same_row t n = g ∙ ap (row_of p above) (line t n).is

      pub row_out : s ≡ false → ((t : Tree) → Coded nodes jumps t → Rowed (symbols t c) p short start from above a d None) × Few None
      unfolding Rowed Few
      row_out k = ((λ t n u v. not_both v (ap (in_range short) (sym (same_row t n)) ∙ sym h ∙ k)), tt)

      pub row_good :
          (n : ℕ) → s ≡ true → n ≡ length (codes (take (length b - from) (drop from b))) → from ≤ length a → length b ≤ 4096 →
          ((t : Tree) → Coded nodes jumps t → Rowed (symbols t c) p short start from above a d (row_made q n)) × Few (row_made q n)
      unfolding Rowed Few
      row_good n k m l o = (
        λ t i.
            let u : length (take from a) ≡ from = rw length-take (omega arith) in
            let v : drop from b ≡ (filling (symbols t c) start from a).numbers =
            ap (drop from) (line t i).is ∙ drop_at (take from a) (filling (symbols t c) start from a).numbers from u in
            let w : take (length b - from) (drop from b) ≡ drop from b = take_all (length b - from) (drop from b) (rw length-drop (omega arith)) in
            record {
              full = (line t i).full;
              behind = (line t i).behind;
              bytes = m ∙ ap (λ (ys : List ℕ). length (codes ys)) (w ∙ v);
              is = same_row t i;
              range = sym h ∙ k;
            },
        let x : length (take (length b - from) (drop from b)) ≤ 4096 = rw (length-take, length-drop) (omega arith) in
            omega (arith, codes_few (take (length b - from) (drop from b))),
      )
