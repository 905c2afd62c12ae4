-- A tree laid down in nodes, as the reader does it. Assumes nothing.
use Prim.Native.Nat.{ℕ, zero, suc, ◌+◌, ◌-◌, ◌*◌, ◌≤◌, ◌<◌}
use mathlib.Core.Path.{◌≡◌, refl, sym, ap, ap₂, subst, ◌∙◌}
use mathlib.Core.List.{List, [], ◌∷◌, ◌++◌}
use mathlib.Core.Bool.{Bool, true}
use mathlib.Core.Logic.{inr, by_cases}
use native.Mathlib.Omega.{arith}
use native.Mathlib.Decide.{dec_le}
use lib.ListN.{length, get_or, set, length-set, length-append, get_or-append}
use lib.Seq.{get_or-append-add, get_or-set_same, get_or-set_other, ext_get_or}
use Rattle.wire.specs.Pick.{pick}
use Rattle.wire.specs.Tests.{◌≤?◌, passes}
use Rattle.wire.specs.Bytes.{byte_at, put, zeros}
use Rattle.wire.proofs.TestLaws.{yes, no}
use Rattle.wire.proofs.PutLaws.{length_put, put_each_lem, put_outside}
use Rattle.huffman.specs.Bits.{bit_at, octet_at}
use Rattle.std.specs.Prelude.{Option, Some, None}
use Rattle.huffman.specs.Tree.{Tree, leaf, branch, Parsed, got, bad, leaves, tree_at}
use Rattle.huffman.specs.Nodes.{tree_read, size, nodes_of, Nodes, outcome, Laid, Below, root_outcome, laid_in, root_nodes, RootIsLaid}
use Rattle.huffman.specs.Stored.{Symbols}
use Rattle.huffman.specs.declared.Read.{Read}
use Rattle.huffman.proofs.BitLaws.{octet_small}
use Rattle.huffman.proofs.TreeLaws.{some, joined, none, past, at_leaf, at_bad, at_branch, leaf_out, leaf_in}
use Rattle.huffman.proofs.StoredLaws.{read_stored}

pub sizes : (t : Tree) → size t + 1 ≡ 2 * leaves t
unfolding leaves size
sizes (leaf y) = refl
sizes (branch l r) = omega (arith, sizes l, sizes r)

-- what an answer tells

abbrev pos_of : Option Read → ℕ
pos_of (Some r) = r.pos
pos_of None = 0

abbrev next_of : Option Read → ℕ
next_of (Some r) = r.next
next_of None = 0

abbrev left_of : Option Read → ℕ
left_of (Some r) = r.left
left_of None = 0

abbrev is_tree : Option Read → ℕ
is_tree (Some r) = 1
is_tree None = 0

pub record Told (at left : ℕ) (x : Parsed) (p n l : ℕ) : Type 0 where
  pub tree : Tree
  pub is : x ≡ got tree p
  pub next : n ≡ at + size tree
  pub rest : l ≡ left - leaves tree

pub told : (at left : ℕ) (x : Parsed) (p n l : ℕ) → outcome at left x ≡ tree_read p n l → Told at left x p n l
unfolding outcome
told at left bad p n l h = let z : ◌≡◌ {A = ℕ} 0 1 = ap is_tree h in absurd (omega arith)
told at left (got t q) p n l h =
    record { tree = t; is = ap (λ (k : ℕ). got t k) (ap pos_of h); next = sym (ap next_of h); rest = sym (ap left_of h) }

pub told_bad : (at left : ℕ) (x : Parsed) → outcome at left x ≡ None → x ≡ bad
unfolding outcome
told_bad at left bad h = refl
told_bad at left (got t q) h = let z : ◌≡◌ {A = ℕ} 1 0 = ap is_tree h in absurd (omega arith)

-- nodes that stay
keep :
    (t : Tree) (a b : List ℕ) (i e : ℕ) → length a ≡ length b → i + size t ≤ e → ((j : ℕ) → i ≤ j → j < e → get_or a j 0 ≡ get_or b j 0) → Nodes a i t → Nodes b i t
unfolding Nodes size
keep (leaf y) a b i e q u h k = (subst (λ (m : ℕ). i < m) q k.0, (sym (h i (omega arith) (omega arith)) ∙ k.1.0, k.1.1))
keep (branch l r) a b i e q u h k = (
  subst (λ (m : ℕ). i < m) q k.0,
  (
    sym (h i (omega arith) (omega arith)) ∙ k.1.0,
    (
      keep l a b (i + 1) e q (omega arith) (λ j v w. h j (omega arith) w) k.1.1.0,
      keep r a b (i + 1 + size l) e q (omega arith) (λ j v w. h j (omega arith) w) k.1.1.1,
    ),
  ),
)

below_same : (a : List ℕ) (at : ℕ) → Below a a at
unfolding Below
below_same a at = (refl, λ j h. refl)

below_less : (a b : List ℕ) (at : ℕ) → Below a b (at + 1) → Below a b at
unfolding Below
below_less a b at h = (h.0, λ j k. h.1 j (omega arith))

below_set : (a b d : List ℕ) (at n y : ℕ) → at < n → Below a b (at + 1) → Below (set b at y) d n → Below a d at
unfolding Below
below_set a b d at n y u h k = (
  h.0 ∙ sym (length-set b at y) ∙ k.0,
  λ j v. h.1 j (omega arith) ∙ sym (get_or-set_other b at j y 0 (λ q. absurd (omega arith))) ∙ k.1 j (omega arith),
)

branch_nodes :
    (t q : Tree) (b d : List ℕ) (at n : ℕ) → n ≡ at + 1 + size t → at < length b → Nodes b (at + 1) t → Nodes d n q → Below (set b at (256 + n)) d n →
    Nodes d at (branch t q)
unfolding Nodes Below
branch_nodes t q b d at n e h x y k = (
  subst (λ (m : ℕ). at < m) (sym (length-set b at (256 + n)) ∙ k.0) h,
  (
    sym (k.1 at (omega arith)) ∙ get_or-set_same b at (256 + n) 0 h ∙ ap (λ (m : ℕ). 256 + m) e,
    (
      keep t b d (at + 1) n (sym (length-set b at (256 + n)) ∙ k.0) (omega arith)
          (λ j v w. sym (get_or-set_other b at j (256 + n) 0 (λ z. absurd (omega arith))) ∙ k.1 j w) x,
      subst (λ (m : ℕ). Nodes d m q) e y,
    ),
  ),
)

-- what is promised of an answer r, of the nodes a before and b behind it
abbrev pub Done : Option Read → ℕ → ℕ → List ℕ → List ℕ → Parsed → Type 0
Done r at left a b x = (r ≡ outcome at left x) × (Laid a b at x × Below a b at)

done_bad : (at left : ℕ) (a b : List ℕ) (x : Parsed) → x ≡ bad → Below a b at → Done None at left a b x
unfolding outcome Laid
done_bad at left a b x h k = rw h (refl, (tt, k))

module _ (c : List ℕ) (at left p : ℕ) (a : List ℕ) where
  pub done_none : left ≡ 0 → Done None at left a a (tree_at c left p)
  done_none h = done_bad at left a a (tree_at c left p) (rw h (none c p)) (below_same a at)

  pub done_past : (b : ℕ) → b ≡ bit_at c p → b ≡ 2 → Done None at left a a (tree_at c left p)
  done_past b e h = done_bad at left a a (tree_at c left p) (past c p left (sym e ∙ h)) (below_same a at)

  pub done_short : (b y : ℕ) → 0 < left → b ≡ bit_at c p → b ≡ 1 → y ≡ octet_at c (p + 1) → y ≡ 256 → Done None at left a a (tree_at c left p)
  done_short b y h e f g k =
      done_bad at left a a (tree_at c left p) (at_leaf c p left h (sym e ∙ f) ∙ leaf_out c (p + 1) (sym g ∙ k)) (below_same a at)

  pub done_leaf :
      (b y : ℕ) → 0 < left → b ≡ bit_at c p → b ≡ 1 → y ≡ octet_at c (p + 1) → (y ≡ 256 → ⊥) → at < length a →
      Done (tree_read (p + 9) (at + 1) (left - 1)) at left a (set a at y) (tree_at c left p)
  unfolding outcome Laid Below Nodes size leaves
  done_leaf b y h e f g n k =
      let x : tree_at c left p ≡ got (leaf y) (p + 9) =
      at_leaf c p left h (sym e ∙ f) ∙ leaf_in c (p + 1) (λ z. n (g ∙ z)) ∙ ap₂ (λ (u v : ℕ). got (leaf u) v) (sym g) (omega arith) in
      let m : y < 256 = rw g (octet_small c (p + 1) (λ z. n (g ∙ z))) in
      rw x (
        refl,
        (
          ((rw (length-set a at y) k, (get_or-set_same a at y 0 k, m)), λ j l. sym (get_or-set_other a at j y 0 (λ u. absurd (omega arith)))),
          (sym (length-set a at y), λ j l. sym (get_or-set_other a at j y 0 (λ u. absurd (omega arith)))),
        ),
      )

-- a branch whose left child was asked for

-- there is room for the right child, and fewer symbols are left
pub record Near (at left n l : ℕ) : Type 0 where
  pub room : n + 2 * (l + 1) ≤ 512
  pub falls : l + 1 < left
  pub up : at < n

module _ (c : List ℕ) (at left p : ℕ) (r : Option Read) (e : r ≡ outcome (at + 1) (left - 1) (tree_at c (left - 1) (p + 1))) where
  pub near : (q n l : ℕ) → at + 2 * left ≤ 512 → 1 ≤ left → r ≡ tree_read q n l → Near at left n l
  near q n l h u k = go (told (at + 1) (left - 1) (tree_at c (left - 1) (p + 1)) q n l (sym e ∙ k))
    where
      go : Told (at + 1) (left - 1) (tree_at c (left - 1) (p + 1)) q n l → Near at left n l
      go x =
          let a : leaves x.tree ≤ left - 1 = (read_stored c (left - 1) (p + 1) x.tree q x.is).few in
          let b : size x.tree + 1 ≡ 2 * leaves x.tree = sizes x.tree in
          let d : 1 ≤ leaves x.tree = some x.tree in
          let i : n ≡ at + 1 + size x.tree = x.next in
          let j : l ≡ left - 1 - leaves x.tree = x.rest in
          record { room = omega arith; falls = omega arith; up = omega arith }

  pub done_left : (a b : List ℕ) → 0 < left → bit_at c p ≡ 0 → r ≡ None → Below a b (at + 1) → Done None at left a b (tree_at c left p)
  done_left a b h f z w =
      done_bad at left a b (tree_at c left p) (at_bad c p left h f (told_bad (at + 1) (left - 1) (tree_at c (left - 1) (p + 1)) (sym e ∙ z))) (below_less a b at w)

  pub done_branch :
      (r2 : Option Read) (q n l : ℕ) (a b d : List ℕ) → 0 < left → bit_at c p ≡ 0 → at < length b → r ≡ tree_read q n l →
      Laid a b (at + 1) (tree_at c (left - 1) (p + 1)) → Below a b (at + 1) →
      Done r2 n (l + 1) (set b at (256 + n)) d (tree_at c (l + 1) q) → Done r2 at left a d (tree_at c left p)
  unfolding Laid outcome size leaves
  done_branch r2 q n l a b d h f i z lb w fin = go (told (at + 1) (left - 1) (tree_at c (left - 1) (p + 1)) q n l (sym e ∙ z))
    where
      last :
          (t : Tree) → n ≡ at + 1 + size t → l + 1 ≡ left - leaves t → leaves t ≤ left - 1 → Laid a b (at + 1) (got t q) → (x : Parsed) →
          Done r2 n (l + 1) (set b at (256 + n)) d x → Done r2 at left a d (joined t x)
      last t e1 e2 e3 nb bad k = (k.0, (tt, below_set a b d at n (256 + n) (omega arith) w k.1.1))
      last t e1 e2 e3 nb (got u m) k = (
        k.0 ∙ ap₂ (λ (x y : ℕ). tree_read m x y) (omega arith) (omega arith),
        (
          (
            branch_nodes t u b d at n e1 i nb.0 k.1.0.0 k.1.1,
            λ j g. nb.1 j (omega arith) ∙ sym (get_or-set_other b at j (256 + n) 0 (λ z. absurd (omega arith))) ∙ k.1.0.1 j (omega arith),
          ),
          below_set a b d at n (256 + n) (omega arith) w k.1.1,
        ),
      )

      go : Told (at + 1) (left - 1) (tree_at c (left - 1) (p + 1)) q n l → Done r2 at left a d (tree_at c left p)
      go x =
          let a1 : leaves x.tree ≤ left - 1 = (read_stored c (left - 1) (p + 1) x.tree q x.is).few in
          let c1 : 1 ≤ leaves x.tree = some x.tree in
          let j1 : l ≡ left - 1 - leaves x.tree = x.rest in
          let q1 : l + 1 ≡ left - leaves x.tree = omega arith in
          subst (λ (y : Parsed). Done r2 at left a d y) (sym (at_branch c p left h f x.tree q x.is))
          (subst (λ (m : ℕ). Done r2 at left a d (joined x.tree (tree_at c m q))) q1
          (last x.tree x.next q1 a1 (subst (λ (y : Parsed). Laid a b (at + 1) y) x.is lb) (tree_at c (l + 1) q) fin))

-- the nodes of a tree, one by one

pub nodes_length : (t : Tree) (i : ℕ) → length (nodes_of i t) ≡ size t
unfolding nodes_of size
nodes_length (leaf y) i = refl
nodes_length (branch l r) i =
    let e : length (nodes_of (i + 1) l ++ nodes_of (i + 1 + size l) r) ≡ size l + size r =
    length-append (nodes_of (i + 1) l) (nodes_of (i + 1 + size l) r) ∙ ap₂ ◌+◌ (nodes_length l (i + 1)) (nodes_length r (i + 1 + size l)) in
    omega arith

-- those of a branch behind its own
module _ (l r : Tree) (i : ℕ) where
  abbrev both : List ℕ
  both = nodes_of (i + 1) l ++ nodes_of (i + 1 + size l) r

  in_left : (k : ℕ) → k < size l → get_or both k 0 ≡ get_or (nodes_of (i + 1) l) k 0
  in_left k h = get_or-append (nodes_of (i + 1) l) (nodes_of (i + 1 + size l) r) 0 k (omega (arith, nodes_length l (i + 1)))

  in_right : (k : ℕ) → get_or both (size l + k) 0 ≡ get_or (nodes_of (i + 1 + size l) r) k 0
  in_right k =
      let e : size l ≡ length (nodes_of (i + 1) l) = sym (nodes_length l (i + 1)) in
      rw e (get_or-append-add (nodes_of (i + 1) l) (nodes_of (i + 1 + length (nodes_of (i + 1) l)) r) k 0)

abbrev Stand : List ℕ → ℕ → Tree → Type 0
Stand ns i t = (j : ℕ) → j < size t → get_or ns (i + j) 0 ≡ get_or (nodes_of i t) j 0

nodes_stand : (t : Tree) (ns : List ℕ) (i : ℕ) → Nodes ns i t → Stand ns i t
unfolding Nodes nodes_of size
nodes_stand (leaf y) ns i x j h = let z : j ≡ 0 = omega arith in let w : i + 0 ≡ i = omega arith in rw (z, w) x.1.0
nodes_stand (branch l r) ns i x j h = go j h (nodes_stand l ns (i + 1) x.1.1.0) (nodes_stand r ns (i + 1 + size l) x.1.1.1)
  where
    go :
        (j : ℕ) → j < 1 + (size l + size r) → Stand ns (i + 1) l → Stand ns (i + 1 + size l) r →
        get_or ns (i + j) 0 ≡ get_or ((256 + (i + 1 + size l)) ∷ both l r i) j 0
    go zero h a b = let w : i + 0 ≡ i = omega arith in rw w x.1.0
    go (suc k) h a b =
        by_cases (dec_le (size l) k)
        (λ m.
        let y : k ≡ size l + (k - size l) = omega arith in
        let w : i + suc k ≡ i + 1 + size l + (k - size l) = omega arith in
        ap (λ (n : ℕ). get_or ns n 0) w ∙ b (k - size l) (omega arith) ∙ sym (in_right l r i (k - size l)) ∙ ap (λ (n : ℕ). get_or (both l r i) n 0) (sym y))
        (λ m.
        let w : i + suc k ≡ i + 1 + k = omega arith in
        ap (λ (n : ℕ). get_or ns n 0) w ∙ a k (omega arith) ∙ sym (in_left l r i k (omega arith)))

stand_nodes : (t : Tree) (ns : List ℕ) (i : ℕ) → Symbols t → i + size t ≤ length ns → Stand ns i t → Nodes ns i t
unfolding Nodes nodes_of size
stand_nodes (leaf y) ns i s h f = let w : i + 0 ≡ i = omega arith in (omega arith, (rw w at (f 0 (omega arith)), s))
stand_nodes (branch l r) ns i s h f =
    let w : i + 0 ≡ i = omega arith in (
      omega arith,
      (
        rw w at (f 0 (omega arith)),
        (
          stand_nodes l ns (i + 1) s.0 (omega arith)
              (λ k m. let z : i + 1 + k ≡ i + suc k = omega arith in ap (λ (n : ℕ). get_or ns n 0) z ∙ f (suc k) (omega arith) ∙ in_left l r i k m),
          stand_nodes r ns (i + 1 + size l) s.1 (omega arith)
              (λ k m.
              let z : i + 1 + size l + k ≡ i + suc (size l + k) = omega arith in
              ap (λ (n : ℕ). get_or ns n 0) z ∙ f (suc (size l + k)) (omega arith) ∙ in_right l r i k),
        ),
      ),
    )

-- a whole tree

in_place : (a b : List ℕ) (t : Tree) → size t ≤ length a → length b ≡ length a → Nodes b 0 t → ((j : ℕ) → 0 + size t ≤ j → get_or a j 0 ≡ get_or b j 0) → b ≡ put a 0 (nodes_of 0 t)
unfolding byte_at
in_place a b t h e x f =
    let n : length (nodes_of 0 t) ≡ size t = nodes_length t 0 in
    ext_get_or 0 b (put a 0 (nodes_of 0 t)) (e ∙ sym (length_put a 0 (nodes_of 0 t)))
    (λ j g.
    let z : 0 + j ≡ j = omega arith in
    by_cases (dec_le (size t) j)
    (λ m. sym (f j (omega arith)) ∙ put_outside a 0 (nodes_of 0 t) j (inr (omega arith)))
    (λ m. (rw z at (nodes_stand t b 0 x j (omega arith))) ∙ sym (rw z at (put_each_lem a 0 (nodes_of 0 t) j (omega arith) (omega arith)))))

pub size_few : (c : List ℕ) (left p : ℕ) (t : Tree) (q : ℕ) → tree_at c left p ≡ got t q → left ≤ 256 → size t ≤ 511
size_few c left p t q e h = omega (arith, (read_stored c left p t q e).few, sizes t)

module _ (c a : List ℕ) (left p : ℕ) where
  pub root_out :
      (511 ≤ length a → left ≤ 256 → ⊥) → (None ≡ root_outcome (length a) left (tree_at c left p)) × (a ≡ root_nodes a left (tree_at c left p))
  unfolding root_outcome root_nodes
  root_out f =
      let t = no ((511 ≤? length a) ∷ (left ≤? 256) ∷ []) (λ h. f h.0 h.1.0) in (
        ap (λ (b : Bool). pick b (outcome 0 left (tree_at c left p)) None) t,
        ap (λ (b : Bool). pick b (laid_in a (tree_at c left p)) a) t,
      )

  module _ (h : 511 ≤ length a) (k : left ≤ 256) where
    room : true ≡ passes ((511 ≤? length a) ∷ (left ≤? 256) ∷ [])
    room = yes ((511 ≤? length a) ∷ (left ≤? 256) ∷ []) (h, (k, tt))

    root_outcome_lem : (r : Option Read) → r ≡ outcome 0 left (tree_at c left p) → r ≡ root_outcome (length a) left (tree_at c left p)
    unfolding root_outcome
    root_outcome_lem r e = e ∙ ap (λ (b : Bool). pick b (outcome 0 left (tree_at c left p)) None) room

    root_left : (x : Parsed) → tree_at c left p ≡ x → laid_in a x ≡ root_nodes a left (tree_at c left p)
    unfolding root_nodes
    root_left x e = ap (laid_in a) (sym e) ∙ ap (λ (b : Bool). pick b (laid_in a (tree_at c left p)) a) room

    module _ (r : Option Read) (e : r ≡ outcome 0 left (tree_at c left p)) where
      pub root_in :
          (q n l : ℕ) (b : List ℕ) → r ≡ tree_read q n l → length b ≡ length a → Laid a b 0 (tree_at c left p) →
          (tree_read q n l ≡ root_outcome (length a) left (tree_at c left p)) × (b ≡ root_nodes a left (tree_at c left p))
      unfolding Laid laid_in
      root_in q n l b f g d =
          let x = told 0 left (tree_at c left p) q n l (sym e ∙ f) in
          let w : Laid a b 0 (got x.tree q) = subst (λ (y : Parsed). Laid a b 0 y) x.is d in
          let s : size x.tree ≤ 511 = size_few c left p x.tree q x.is k in
          (sym f ∙ root_outcome_lem r e, in_place a b x.tree (omega arith) g w.0 w.1 ∙ root_left (got x.tree q) x.is)

      pub root_bad :
          (m : ℕ) (b : List ℕ) → r ≡ None → m ≡ length a → b ≡ zeros m →
          (None ≡ root_outcome (length a) left (tree_at c left p)) × (b ≡ root_nodes a left (tree_at c left p))
      unfolding laid_in
      root_bad m b f g d = (sym f ∙ root_outcome_lem r e, d ∙ ap zeros g ∙ root_left bad (told_bad 0 left (tree_at c left p) (sym e ∙ f)))

pub root_is_laid : RootIsLaid
unfolding laid_in
root_is_laid ns c left p t q h k e =
    let s : size t ≤ 511 = size_few c left p t q e k in
    let n : length (nodes_of 0 t) ≡ size t = nodes_length t 0 in
    let z : length (put ns 0 (nodes_of 0 t)) ≡ length ns = length_put ns 0 (nodes_of 0 t) in
    subst (λ (b : List ℕ). Nodes b 0 t) (root_left c ns left p h k (got t q) e)
    (stand_nodes t (put ns 0 (nodes_of 0 t)) 0 (read_stored c left p t q e).symbols (omega arith)
    (λ j m. put_each_lem ns 0 (nodes_of 0 t) j (omega arith) (omega arith)))
