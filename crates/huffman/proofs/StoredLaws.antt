-- A tree is read just where it stands as G's writer stores it. Assumes nothing.
use Prim.Native.Nat.{ℕ, zero, suc, ◌+◌, ◌-◌, ◌*◌, ◌/◌, ◌%◌, ◌^◌, ◌<◌}
use mathlib.Core.Path.{◌≡◌, refl, ap, subst, ◌∙◌}
use mathlib.Core.List.{List, [], ◌∷◌, ◌++◌}
use mathlib.Core.Bool.{Bool, true, false}
use native.Mathlib.Omega.{arith}
use native.Mathlib.Nat.{pow-suc}
use lib.ListN.{length, get_or, length-append, get_or-append}
use lib.Seq.{get_or-append-add}
use lib.Dec.{eqb}
use borrow.Author.Tests.{eqb-true, eqb-false}
use Rattle.wire.specs.Pick.{pick}
use Rattle.huffman.specs.Bits.{bit_at, bits_at, octet_at}
use Rattle.huffman.specs.Tree.{Tree, leaf, branch, Parsed, got, bad, leaves, bind, leaf_at, read_tree, tree_at}
use Rattle.huffman.specs.Stored.{bits_of, store_tree, Stands, Stored, TreeStored}
use Rattle.huffman.proofs.BitLaws.{bit_small, bit_before, octet_in, octet_there, octet_small}
use Rattle.huffman.proofs.TreeLaws.{some, joined, at_leaf, at_branch, leaf_in}

-- bits one behind the other

module _ {c : List ℕ} {p : ℕ} where
  stands_head : {b : ℕ} {bs : List ℕ} → Stands c p (b ∷ bs) → bit_at c p ≡ b
  stands_head s = let z : p + 0 ≡ p = omega arith in rw z at (s.each 0 (omega arith))

  stands_tail : {b : ℕ} {bs : List ℕ} → Stands c p (b ∷ bs) → Stands c (p + 1) bs
  stands_tail s = record { each = λ i h. let e : p + 1 + i ≡ p + suc i = omega arith in rw e (s.each (suc i) (omega arith)) }

  stands_cons : {b : ℕ} {bs : List ℕ} → bit_at c p ≡ b → Stands c (p + 1) bs → Stands c p (b ∷ bs)
  stands_cons {b} {bs} h s = record { each = each }
    where
      each : (i : ℕ) → i < length (b ∷ bs) → bit_at c (p + i) ≡ get_or (b ∷ bs) i 0
      each zero k = let z : p + 0 ≡ p = omega arith in rw z h
      each (suc i) k = let e : p + suc i ≡ p + 1 + i = omega arith in rw e (s.each i (omega arith))

  stands_first : (a b : List ℕ) → Stands c p (a ++ b) → Stands c p a
  stands_first a b s = record { each = λ i h. s.each i (rw length-append (omega arith)) ∙ get_or-append a b 0 i h }

  stands_rest : (a b : List ℕ) → Stands c p (a ++ b) → Stands c (p + length a) b
  stands_rest a b s =
      record {
        each = λ i h.
            let e : p + length a + i ≡ p + (length a + i) = omega arith in
            rw e (s.each (length a + i) (rw length-append (omega arith)) ∙ get_or-append-add a b i 0);
      }

stands_none : (c : List ℕ) (p : ℕ) → Stands c p []
stands_none c p = record { each = λ i h. absurd (omega arith) }

stands_join : {c : List ℕ} (p : ℕ) (a b : List ℕ) → Stands c p a → Stands c (p + length a) b → Stands c p (a ++ b)
stands_join {c} p [] b s u = let z : p + 0 ≡ p = omega arith in rw z at u
stands_join {c} p (x ∷ a) b s u =
    let e : p + suc (length a) ≡ p + 1 + length a = omega arith in
    stands_cons (stands_head s) (stands_join (p + 1) a b (stands_tail s) (rw e at u))

-- symbols

bits_length : (n v : ℕ) → length (bits_of n v) ≡ n
unfolding bits_of
bits_length zero v = refl
bits_length (suc n) v = ap suc (bits_length n (v / 2))

bits_read : (c : List ℕ) (n p v : ℕ) → v < 2 ^ n → Stands c p (bits_of n v) → bits_at c p n ≡ v
unfolding bits_of bits_at
bits_read c zero p v h s = omega arith
bits_read c (suc n) p v h s =
    let e : 2 ^ suc n ≡ 2 ^ n * 2 = pow-suc 2 n in
    omega (arith, stands_head s, bits_read c n (p + 1) (v / 2) (omega arith) (stands_tail s))

bits_each : (c : List ℕ) (n p v : ℕ) → Stands c p (bits_of n v) → (k : ℕ) → k < n → bit_at c (p + k) < 2
unfolding bits_of
bits_each c zero p v s k h = absurd (omega arith)
bits_each c (suc n) p v s zero h = let z : p + 0 ≡ p = omega arith in rw z (omega (arith, stands_head s))
bits_each c (suc n) p v s (suc k) h =
    let e : p + suc k ≡ p + 1 + k = omega arith in
    rw e (bits_each c n (p + 1) (v / 2) (stands_tail s) k (omega arith))

bits_stored : (c : List ℕ) (n p : ℕ) → ((k : ℕ) → k < n → bit_at c (p + k) < 2) → Stands c p (bits_of n (bits_at c p n))
unfolding bits_of bits_at
bits_stored c zero p f = stands_none c p
bits_stored c (suc n) p f =
    let z : p + 0 ≡ p = omega arith in
    let b : bit_at c p < 2 = rw z at (f 0 (omega arith)) in
    let r : ℕ = bits_at c (p + 1) n in
    let d : (bit_at c p + 2 * r) / 2 ≡ r = omega arith in
    stands_cons (let e : bit_at c p ≡ (bit_at c p + 2 * r) % 2 = omega arith in e)
    (rw d (bits_stored c n (p + 1) (λ k h. let e : p + 1 + k ≡ p + suc k = omega arith in rw e (f (suc k) (omega arith)))))

-- a tree that is stored is read

stored_read : (t : Tree) (c : List ℕ) (left p q : ℕ) → Stored c left p t q → tree_at c left p ≡ got t q
unfolding store_tree leaves
stored_read (leaf y) c left p q s =
    let b = stands_tail s.stands in
    let i : bit_at c (p + 1 + 7) < 2 = bits_each c 8 (p + 1) y b 7 (omega arith) in
    let e : octet_at c (p + 1) ≡ y = octet_in c (p + 1) i ∙ bits_read c 8 (p + 1) y s.symbols b in
    let l : q ≡ p + 1 + 8 = omega (arith, s.behind, bits_length 8 y) in
    at_leaf c p left (omega (arith, s.few)) (stands_head s.stands)
    ∙ leaf_in c (p + 1) (λ z. omega (arith, s.symbols))
    ∙ rw (e, l)
stored_read (branch l r) c left p q s =
    let b : Stands c (p + 1) (store_tree l ++ store_tree r) = stands_tail s.stands in
    let m : ℕ = p + 1 + length (store_tree l) in
    let i : tree_at c (left - 1) (p + 1) ≡ got l m =
    stored_read l c (left - 1) (p + 1) m
    (record { few = omega (arith, s.few, some r); symbols = s.symbols.0; stands = stands_first (store_tree l) (store_tree r) b; behind = refl }) in
    let j : tree_at c (left - leaves l) m ≡ got r q =
    stored_read r c (left - leaves l) m q
    (record {
      few = omega (arith, s.few);
      symbols = s.symbols.1;
      stands = stands_rest (store_tree l) (store_tree r) b;
      behind = s.behind ∙ omega (arith, length-append (store_tree l) (store_tree r));
    }) in
    at_branch c p left (omega (arith, s.few, some l)) (stands_head s.stands) l m i ∙ rw j

-- and a tree that is read is stored

abbrev Fine : List ℕ → ℕ → ℕ → Parsed → Type 0
Fine c left p bad = Unit {0}
Fine c left p (got t q) = Stored c left p t q

leaf_stored : (c : List ℕ) (left p : ℕ) → 0 < left → bit_at c p ≡ 1 → Fine c left p (leaf_at c (p + 1))
unfolding leaf_at store_tree leaves
leaf_stored c left p h b = go (eqb (octet_at c (p + 1)) 256) refl
  where
    go : (t : Bool) → eqb (octet_at c (p + 1)) 256 ≡ t → Fine c left p (pick t bad (got (leaf (octet_at c (p + 1))) (p + 1 + 8)))
    go true e = tt
    go false e =
        let n : octet_at c (p + 1) ≡ 256 → ⊥ = eqb-false _ _ e in
        let i : bit_at c (p + 1 + 7) < 2 = octet_there c (p + 1) n in
        let f : octet_at c (p + 1) ≡ bits_at c (p + 1) 8 = octet_in c (p + 1) i in
        record {
          few = omega arith;
          symbols = octet_small c (p + 1) n;
          stands = stands_cons b (rw f (bits_stored c 8 (p + 1) (λ k l. bit_before c (p + 1 + k) (p + 1 + 7) (omega arith) i)));
          behind = omega (arith, bits_length 8 (octet_at c (p + 1)));
        }

branch_stored :
    (c : List ℕ) (left p : ℕ) (l : Tree) (q : ℕ) (r : Tree) (s : ℕ) → 0 < left → bit_at c p ≡ 0 → Stored c (left - 1) (p + 1) l q → Stored c (left - leaves l) q r s →
    Stored c left p (branch l r) s
unfolding store_tree leaves
branch_stored c left p l q r s h b x y =
    record {
      few = omega (arith, x.few, y.few);
      symbols = (x.symbols, y.symbols);
      stands = stands_cons b (stands_join (p + 1) (store_tree l) (store_tree r) x.stands (subst (λ (n : ℕ). Stands c n (store_tree r)) x.behind y.stands));
      behind = y.behind ∙ omega (arith, x.behind, length-append (store_tree l) (store_tree r));
    }

fine : (f : ℕ) (c : List ℕ) (left p : ℕ) → Fine c left p (read_tree f c left p)
unfolding read_tree
fine zero c left p = tt
fine (suc f) c left p =
    go (eqb left 0) refl (eqb (bit_at c p) 2) refl (eqb (bit_at c p) 1) refl (read_tree f c (left - 1) (p + 1)) (fine f c (left - 1) (p + 1))
    (λ l q. fine f c (left - leaves l) q)
  where
    last : (l : Tree) (q : ℕ) → 0 < left → bit_at c p ≡ 0 → Stored c (left - 1) (p + 1) l q → (x : Parsed) → Fine c (left - leaves l) q x → Fine c left p (joined l x)
    last l q h b s bad k = tt
    last l q h b s (got r z) k = branch_stored c left p l q r z h b s k

    go :
        (a : Bool) → eqb left 0 ≡ a → (b : Bool) → eqb (bit_at c p) 2 ≡ b → (d : Bool) → eqb (bit_at c p) 1 ≡ d → (x : Parsed) → Fine c (left - 1) (p + 1) x →
        ((l : Tree) (q : ℕ) → Fine c (left - leaves l) q (read_tree f c (left - leaves l) q)) →
        Fine c left p (pick a bad (pick b bad (pick d (leaf_at c (p + 1)) (bind x (λ l q. joined l (read_tree f c (left - leaves l) q))))))
    go true ea b eb d ed x i j = tt
    go false ea true eb d ed x i j = tt
    go false ea false eb true ed x i j = let n : left ≡ 0 → ⊥ = eqb-false _ _ ea in leaf_stored c left p (omega arith) (eqb-true _ _ ed)
    go false ea false eb false ed bad i j = tt
    go false ea false eb false ed (got l q) i j =
        let n : left ≡ 0 → ⊥ = eqb-false _ _ ea in
        let u : bit_at c p ≡ 2 → ⊥ = eqb-false _ _ eb in
        let v : bit_at c p ≡ 1 → ⊥ = eqb-false _ _ ed in
        last l q (omega arith) (omega (arith, bit_small c p)) i (read_tree f c (left - leaves l) q) (j l q)

pub read_stored : (c : List ℕ) (left p : ℕ) (t : Tree) (q : ℕ) → tree_at c left p ≡ got t q → Stored c left p t q
unfolding tree_at
read_stored c left p t q e = subst (λ (x : Parsed). Fine c left p x) e (fine left c left p)

pub tree_stored : TreeStored
tree_stored = record { is_read = λ c left p t q s. stored_read t c left p q s; is_stored_lem = read_stored }
