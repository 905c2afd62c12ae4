-- How a description is judged by its numbers and texts. Assumes nothing.
use Rattle.std.specs.Prelude.{Err, Ok, Result, ⊤}
use Prim.Native.Nat.{ℕ, min, ◌+◌, ◌-◌, ◌*◌, ◌/◌, ◌≤◌, ◌<◌}
use mathlib.Core.Path.{◌≡◌, sym, ap, ◌∙◌}
use mathlib.Core.List.{List, []}
use mathlib.Core.Bool.{Bool, true, false}
use native.Mathlib.Omega.{arith}
use native.Mathlib.Nat.{mul-le-mul}
use lib.ListN.{length, get_or}
use borrow.Author.Tests.{le-leb, lt-leb}
use Rattle.wire.specs.Tests.{passes, all_below, sum_below}
use Rattle.wire.specs.Bytes.{part, put, same_bytes}
use Rattle.wire.proofs.PutLaws.{put_fits}
use Rattle.wire.proofs.TestLaws.{not_both, means, yes, no, either_way, sum_none}
use Rattle.utf8.specs.Utf8.{utf8}
use Rattle.answer.specs.declared.Refusal.{Refusal}
use Rattle.answer.specs.declared.Refusal.TheVariants.{Header, Ceiling, Input, Room}
use Rattle.answer.specs.Refusals.{gate, unless_refused}
use Rattle.answer.specs.Answers.{written}
use Rattle.answer.proofs.VerdictLaws.{gate_passed, behind_passed}
use Rattle.header.specs.Names.{identifier}
use Rattle.header.specs.Element.{cell_size}
use Rattle.geometry.specs.Tiles.{tiles_along, tiles_in}
use Rattle.geometry.specs.Sizes.{uncompressed}
use Rattle.geometry.proofs.SizeLaws.{size_range}
use Rattle.check_header.specs.HeaderRecord.{positive}
use Rattle.fronts.specs.declared.entries.Numbers.{Numbers}
use Rattle.fronts.specs.Front.{front_of}
use Rattle.fronts.specs.Judged.{sides_told, names_apart, texts_told, element_told, elements_told, label_told, header_told, sides_allowed, tile_told, counts_allowed, ceilings_told, told_verdict}
use Rattle.fronts.specs.Given.{text_at, stated_by, method_length, method_at, described_by, describable, front_verdict, front_made}
use Rattle.fronts.specs.Writing.{numbers_at, tile_counted, Summed, Counted, front_counted}
use Rattle.fronts.proofs.CountLaws.{right_of_lem, sum_step}

-- names

module _
    (es ts : List ℕ) (e i : ℕ) (x y : Numbers) (at place : ℕ) (same : Bool) (p : x ≡ numbers_at es i) (q : y ≡ numbers_at es e) (r : at ≡ text_at es i)
    (s : place ≡ text_at es e) (t : same ≡ same_bytes (part ts at x.name) (part ts place y.name))
  where
    names_same : same ≡ same_bytes (stated_by es ts i).name (stated_by es ts e).name
    unfolding numbers_at stated_by
    names_same = t ∙ rw (p, q, r, s)

    pub apart_not : same ≡ true → false ≡ names_apart (stated_by es ts) e i
    unfolding names_apart
    apart_not h = no _ (λ k. not_both (sym names_same ∙ h) k.0)

    pub apart_yes : same ≡ false → true ≡ names_apart (stated_by es ts) e i
    unfolding names_apart
    apart_yes h = yes _ (sym names_same ∙ h, tt)

-- an element: its type, its name, its texts

module _ (es ts : List ℕ) (e : ℕ) (x : Numbers) (p : x ≡ numbers_at es e) where
  kind_is : x.kind ≡ (stated_by es ts e).kind
  unfolding numbers_at stated_by
  kind_is = rw p

  pub kind_not : 3 < x.kind → false ≡ element_told (stated_by es ts) e
  unfolding element_told
  kind_not h = no _ (λ k. omega (arith, kind_is, k.0))

  module _ (at : ℕ) (q : at ≡ text_at es e) where
    pub name_is : (b : Bool) → b ≡ identifier 32 (part ts at x.name) → b ≡ identifier 32 (stated_by es ts e).name
    unfolding numbers_at stated_by
    name_is b r = r ∙ rw (p, q)

    module _ (l d u : List ℕ) where
      label_is : l ≡ part ts (at + x.name) x.label → l ≡ (stated_by es ts e).label
      unfolding numbers_at stated_by
      label_is r = r ∙ rw (p, q)

      description_is : d ≡ part ts (at + x.name + x.label) x.description → d ≡ (stated_by es ts e).description
      unfolding numbers_at stated_by
      description_is r = r ∙ rw (p, q)

      unit_is : u ≡ part ts (at + x.name + x.label + x.description) x.unit → u ≡ (stated_by es ts e).unit
      unfolding numbers_at stated_by
      unit_is r = r ∙ rw (p, q)

    pub label_not : (l : List ℕ) (a : Bool) → l ≡ part ts (at + x.name) x.label → a ≡ utf8 l → a ≡ false → false ≡ texts_told (stated_by es ts e)
    unfolding texts_told
    label_not l a r s h = no _ (λ k. not_both k.0 (ap utf8 (sym (label_is l [] [] r)) ∙ sym s ∙ h))

    pub description_not :
        (d : List ℕ) (a : Bool) → d ≡ part ts (at + x.name + x.label) x.description → a ≡ utf8 d → a ≡ false → false ≡ texts_told (stated_by es ts e)
    unfolding texts_told
    description_not d a r s h = no _ (λ k. not_both k.1.0 (ap utf8 (sym (description_is [] d [] r)) ∙ sym s ∙ h))

    pub texts_last :
        (l d u : List ℕ) (a b c : Bool) → l ≡ part ts (at + x.name) x.label → a ≡ utf8 l → a ≡ true → d ≡ part ts (at + x.name + x.label) x.description →
        b ≡ utf8 d → b ≡ true → u ≡ part ts (at + x.name + x.label + x.description) x.unit → c ≡ utf8 u → c ≡ texts_told (stated_by es ts e)
    unfolding texts_told
    texts_last l d u a b c rl sl hl rd sd hd ru su =
        let f : utf8 (stated_by es ts e).label ≡ true = ap utf8 (sym (label_is l d u rl)) ∙ sym sl ∙ hl in
        let g : utf8 (stated_by es ts e).description ≡ true = ap utf8 (sym (description_is l d u rd)) ∙ sym sd ∙ hd in
        let h : c ≡ utf8 (stated_by es ts e).unit = su ∙ ap utf8 (unit_is l d u ru) in
        either_way _ c (λ k. (f, (g, (sym h ∙ k, tt)))) (λ k m. not_both m.1.1.0 (sym h ∙ k))

    module _ (a : Bool) (r : a ≡ identifier 32 (part ts at x.name)) where
      pub name_not : a ≡ false → false ≡ element_told (stated_by es ts) e
      unfolding element_told
      name_not h = no _ (λ k. not_both k.1.0 (sym (name_is a r) ∙ h))

      module _ (h : a ≡ true) (b : Bool) (s : b ≡ all_below e (names_apart (stated_by es ts) e)) where
        pub new_not : b ≡ false → false ≡ element_told (stated_by es ts) e
        unfolding element_told
        new_not k = no _ (λ m. not_both m.1.1.0 (sym s ∙ k))

        pub element_last :
            (c : Bool) → x.kind ≤ 3 → b ≡ true → c ≡ texts_told (stated_by es ts e) → c ≡ element_told (stated_by es ts) e
        unfolding element_told
        element_last c l k t =
            either_way _ c (λ m. (omega (arith, kind_is), (sym (name_is a r) ∙ h, (sym s ∙ k, (sym t ∙ m, tt))))) (λ m n. not_both n.1.1.1.0 (sym t ∙ m))

-- all elements

module _ (es ts : List ℕ) (n : ℕ) where
  pub elements_none : n < 1 → false ≡ elements_told n (stated_by es ts)
  unfolding elements_told positive
  elements_none h = no _ (λ k. let m = means _ k.0 in omega (arith, m.0))

  pub elements_all :
      (k : ℕ) (r : Bool) → Summed es n → 1 ≤ n → k ≡ min n 16 → r ≡ all_below k (element_told (stated_by es ts)) → r ≡ elements_told n (stated_by es ts)
  unfolding elements_told positive
  elements_all k r w h e p =
      let q : r ≡ all_below (min n 16) (element_told (stated_by es ts)) = p ∙ rw e in
      either_way _ r (λ m. (sym (yes _ (h, (omega (arith, w.few), tt))), (sym q ∙ m, tt))) (λ m l. not_both l.1.0 (sym q ∙ m))

pub label_many : (n : ℕ) (t : List ℕ) → 16 < n → true ≡ label_told n t
unfolding label_told
label_many n t h = rw (lt-leb n 16 h)

pub label_few : (n : ℕ) (t : List ℕ) (r : Bool) → n ≤ 16 → r ≡ utf8 t → r ≡ label_told n t
unfolding label_told
label_few n t r h e = rw (le-leb n 16 h) e

pub label_place :
    (g es ts : List ℕ) (n names before at long : ℕ) (l : List ℕ) (r : Bool) → n ≡ length es / 14 → names ≡ sum_below (length g - 6) (method_length g) → before ≡ text_at es n →
    at ≡ before + names → long ≡ get_or g 5 0 → l ≡ part ts at long → r ≡ label_told n l →
    r ≡ label_told (length es / 14) (part ts (method_at g es (length g - 6)) (get_or g 5 0))
unfolding method_at
label_place g es ts n names before at long l r en em eb ea el pl pr = pr ∙ rw (pl, el, ea, eb, em, en)

-- the sides as they are read, and as they are given
module _
    (g : List ℕ) (r c h w : ℕ) (p : r ≡ get_or g 0 0) (q : c ≡ get_or g 1 0) (i : h ≡ get_or g 2 0) (j : w ≡ get_or g 3 0)
  where
    pub sides_given : (a : Bool) → a ≡ sides_told r c h w → a ≡ sides_told (get_or g 0 0) (get_or g 1 0) (get_or g 2 0) (get_or g 3 0)
    sides_given a e = e ∙ rw (p, q, i, j)

    pub sides_back : sides_told (get_or g 0 0) (get_or g 1 0) (get_or g 2 0) (get_or g 3 0) ≡ true → sides_told r c h w ≡ true
    sides_back e = rw (p, q, i, j) e

    pub allowed_given : (a : Bool) → a ≡ sides_allowed r c h w → a ≡ sides_allowed (get_or g 0 0) (get_or g 1 0) (get_or g 2 0) (get_or g 3 0)
    allowed_given a e = e ∙ rw (p, q, i, j)

    pub counts_given :
        (es : List ℕ) (a : Bool) → ((ts : List ℕ) → a ≡ counts_allowed r c h w (length es / 14) (stated_by es ts)) → (ts : List ℕ) →
        a ≡ counts_allowed (get_or g 0 0) (get_or g 1 0) (get_or g 2 0) (get_or g 3 0) (length es / 14) (stated_by es ts)
    counts_given es a e ts = e ts ∙ rw (p, q, i, j)

-- stage 3

module _ (g es ts : List ℕ) (a : Bool) (p : a ≡ sides_told (get_or g 0 0) (get_or g 1 0) (get_or g 2 0) (get_or g 3 0)) where
  pub header_sides : a ≡ false → (u : List ℕ) → false ≡ header_told (described_by g u es ts)
  unfolding header_told described_by
  header_sides h u = no _ (λ k. not_both k.0 (sym p ∙ h))

  module _ (h : a ≡ true) (flag : ℕ) (q : flag ≡ get_or g 4 0) where
    pub header_flag : 1 < flag → (u : List ℕ) → false ≡ header_told (described_by g u es ts)
    unfolding header_told described_by
    header_flag l u = no _ (λ k. omega (arith, k.1.0))

    module _ (b : Bool) (r : b ≡ elements_told (length es / 14) (stated_by es ts)) where
      pub header_elements : b ≡ false → (u : List ℕ) → false ≡ header_told (described_by g u es ts)
      unfolding header_told described_by
      header_elements l u = no _ (λ k. not_both k.1.1.0 (sym r ∙ l))

      pub header_last :
          (c : Bool) → b ≡ true → flag ≤ 1 → c ≡ label_told (length es / 14) (part ts (method_at g es (length g - 6)) (get_or g 5 0)) →
          (u : List ℕ) → c ≡ header_told (described_by g u es ts)
      unfolding header_told described_by
      header_last c l f s u =
          either_way _ c (λ k. (sym p ∙ h, (omega arith, (sym r ∙ l, (sym s ∙ k, tt))))) (λ k m. not_both m.1.1.1.0 (sym s ∙ k))

-- stage 4

module _ (rows columns h w : ℕ) (p : sides_told rows columns h w ≡ true) (q : sides_allowed rows columns h w ≡ true) where
  pub sides_in :
      ((1 ≤ h) × (1 ≤ w)) × ((rows ≤ 65536) × ((columns ≤ 65536) × ((h ≤ 4096) × (w ≤ 4096))))
  unfolding sides_told sides_allowed positive
  sides_in =
      let a = means _ p in
      let b = means _ q in
      let c = means _ a.1.1.0 in
      let d = means _ a.1.1.1.0 in
      ((c.0, d.0), (b.0, (b.1.0, (b.1.1.0, b.1.1.1.0))))

pub tiles_are : (rows columns h w a b : ℕ) → a ≡ tiles_along rows h → b ≡ tiles_along columns w → a * b ≡ tiles_in rows columns h w
unfolding tiles_in
tiles_are rows columns h w a b p q = rw (p, q)

pub tile_element : (h w k c z : ℕ) → h ≤ 4096 → w ≤ 4096 → c ≡ h * w → z ≡ cell_size k → (c * z ≡ uncompressed h w k) × (c * z ≤ 67108864)
unfolding uncompressed
tile_element h w k c z l m p q =
    let r = size_range k in
    let y : z ≤ 4 = omega arith in
    let a : h * w ≤ 4096 * 4096 = mul-le-mul l m in
    let b : c ≤ 16777216 = omega arith in
    let d : c * z ≤ 16777216 * 4 = mul-le-mul b y in
    (rw (p, q), omega arith)

-- the bytes of a tile, an element at a time, and how large they can be
pub record Tiled (es : List ℕ) (h w sum e : ℕ) : Type 0 where
  pub is : sum ≡ tile_counted es e h w
  pub small : sum ≤ 67108864 * e

pub tiled_none : (es : List ℕ) (h w : ℕ) → Tiled es h w 0 0
unfolding tile_counted
tiled_none es h w = record { is = sym (sum_none (λ e. uncompressed h w (numbers_at es e).kind)); small = omega arith }

pub tiled_more :
    (es : List ℕ) (h w sum e t : ℕ) (x : Numbers) → Tiled es h w sum e → x ≡ numbers_at es e → t ≡ uncompressed h w x.kind → t ≤ 67108864 →
    Tiled es h w (sum + t) (e + 1)
unfolding tile_counted
tiled_more es h w sum e t x v p q l =
    record {
      is = sum_step e sum t (λ i. uncompressed h w (numbers_at es i).kind) v.is (q ∙ rw p);
      small = omega (arith, v.small);
    }

pub tiled_all : (es : List ℕ) (h w sum e n : ℕ) → Tiled es h w sum e → e ≤ n → n ≤ e → sum ≡ tile_counted es n h w
tiled_all es h w sum e n v j k = let q : e ≡ n = omega arith in rw (← q) v.is

tile_told_same : (es ts : List ℕ) (n h w : ℕ) → n ≤ 16 → tile_told h w n (stated_by es ts) ≡ tile_counted es n h w
unfolding tile_told tile_counted stated_by numbers_at
tile_told_same es ts n h w l = let e : min n 16 ≡ n = omega arith in rw e

module _ (es : List ℕ) (rows columns h w n tiles : ℕ) (p : tiles ≡ tiles_in rows columns h w) where
  pub tiles_past : 65536 < tiles → (ts : List ℕ) → false ≡ counts_allowed rows columns h w n (stated_by es ts)
  unfolding counts_allowed
  tiles_past l ts = no _ (λ k. omega (arith, k.0))

  module _ (l : tiles ≤ 65536) where
    pub elements_past : 16 < n → (ts : List ℕ) → false ≡ counts_allowed rows columns h w n (stated_by es ts)
    unfolding counts_allowed
    elements_past m ts = no _ (λ k. omega (arith, k.1.0))

    module _ (m : n ≤ 16) (bytes : ℕ) (q : bytes ≡ tile_counted es n h w) where
      pub tile_too_large : 1048576 < bytes → (ts : List ℕ) → false ≡ counts_allowed rows columns h w n (stated_by es ts)
      unfolding counts_allowed
      tile_too_large j ts = no _ (λ k. omega (arith, tile_told_same es ts n h w m, k.1.1.0))

      pub counts_fine : bytes ≤ 1048576 → (ts : List ℕ) → true ≡ counts_allowed rows columns h w n (stated_by es ts)
      unfolding counts_allowed
      counts_fine j ts = yes _ (omega arith, (m, (omega (arith, tile_told_same es ts n h w m), tt)))

module _ (g es : List ℕ) (a : Bool) (p : a ≡ sides_allowed (get_or g 0 0) (get_or g 1 0) (get_or g 2 0) (get_or g 3 0)) where
  pub ceilings_sides :
      a ≡ false → (u ts : List ℕ) → length (front_of (described_by g u es ts)) ≤ 16777216 → false ≡ ceilings_told (described_by g u es ts)
  unfolding ceilings_told described_by
  ceilings_sides h u ts l = no _ (λ k. not_both k.1.0 (sym p ∙ h))

  pub ceilings_last :
      (c : Bool) → a ≡ true →
      ((ts : List ℕ) → c ≡ counts_allowed (get_or g 0 0) (get_or g 1 0) (get_or g 2 0) (get_or g 3 0) (length es / 14) (stated_by es ts)) →
      (u ts : List ℕ) → length (front_of (described_by g u es ts)) ≤ 16777216 → c ≡ ceilings_told (described_by g u es ts)
  unfolding ceilings_told described_by
  ceilings_last c h q u ts l =
      either_way _ c (λ k. (l, (sym p ∙ h, (sym (q ts) ∙ k, tt)))) (λ k m. not_both m.1.1.0 (sym (q ts) ∙ k))

-- the verdict

pub sides_of :
    (g es ts : List ℕ) (b : Bool) → ((u : List ℕ) → b ≡ header_told (described_by g u es ts)) → b ≡ true →
    sides_told (get_or g 0 0) (get_or g 1 0) (get_or g 2 0) (get_or g 3 0) ≡ true
unfolding header_told described_by
sides_of g es ts b q k = (means _ (sym (q []) ∙ k)).0

module _ (g u es ts : List ℕ) (room : ℕ) (a : Bool) (p : a ≡ describable g u es ts) where
  pub verdict_input : a ≡ false → Err Input ≡ front_verdict g u es ts room
  unfolding front_verdict gate
  verdict_input h = rw (← p, h)

  module _ (h : a ≡ true) (b : Bool) (q : (v : List ℕ) → b ≡ header_told (described_by g v es ts)) where
    pub verdict_header : b ≡ false → Err Header ≡ front_verdict g u es ts room
    unfolding front_verdict gate told_verdict unless_refused
    verdict_header k = rw (← p, h, ← q u, k)

    module _
        (k : b ≡ true) (c : Bool)
        (r : (v w : List ℕ) → length (front_of (described_by g v es w)) ≤ 16777216 → c ≡ ceilings_told (described_by g v es w))
      where
        ceilings_are : c ≡ ceilings_told (described_by g u es ts)
        ceilings_are = r u ts (right_of_lem g u es ts (sym p ∙ h)).allowed

        pub verdict_ceiling : c ≡ false → Err Ceiling ≡ front_verdict g u es ts room
        unfolding front_verdict gate told_verdict unless_refused
        verdict_ceiling l = rw (← p, h, ← q u, k, ← ceilings_are, l)

        module _ (l : c ≡ true) (n : ℕ) (e : n ≡ front_counted g es) where
          long : length (front_of (described_by g u es ts)) ≡ n
          long = (right_of_lem g u es ts (sym p ∙ h)).long ∙ sym e

          pub verdict_room : room < n → Err Room ≡ front_verdict g u es ts room
          unfolding front_verdict gate told_verdict unless_refused passes
          verdict_room m = rw (← p, h, ← q u, k, ← ceilings_are, l, long, lt-leb n room m)

          pub verdict_done : n ≤ room → Ok tt ≡ front_verdict g u es ts room
          unfolding front_verdict gate told_verdict unless_refused passes
          verdict_done m = rw (← p, h, ← q u, k, ← ceilings_are, l, long, le-leb n room m)

-- what is answered, and what the buffer holds

pub record Passed (g u es ts : List ℕ) (room : ℕ) : Type 0 where
  pub right : describable g u es ts ≡ true
  pub counted : Counted g es
  pub long : length (front_of (described_by g u es ts)) ≡ front_counted g es
  pub small : front_counted g es ≤ 16777216
  pub fits : front_counted g es ≤ room

pub passed_of : (g u es ts : List ℕ) (room : ℕ) → front_verdict g u es ts room ≡ Ok tt → Passed g u es ts room
unfolding front_verdict
passed_of g u es ts room e =
    let a = gate_passed _ _ _ e in
    let b = behind_passed _ _ a.1 in
    let c = gate_passed _ _ _ b.1 in
    let r = right_of_lem g u es ts a.0 in
    record {
      right = a.0;
      counted = r.counted;
      long = r.long;
      small = omega (arith, r.long, r.allowed);
      fits = omega (arith, r.long, (means _ c.0).0);
    }

module _ (g u es ts d : List ℕ) (v : Result ⊤ Refusal) (p : v ≡ front_verdict g u es ts (length d)) where
  pub made_refused : (r : Refusal) → v ≡ Err r → (Err r ≡ front_made g u es ts (length d)) × (d ≡ written (front_made g u es ts (length d)) (front_of (described_by g u es ts)) d)
  unfolding front_made unless_refused
  made_refused r e = (rw (← p, e), rw (← p, e))

  pub made_done :
      (n : ℕ) (l : List ℕ) → v ≡ Ok tt → n ≡ front_counted g es → l ≡ put d 0 (front_of (described_by g u es ts)) →
      (Ok n ≡ front_made g u es ts (length d)) × (l ≡ written (front_made g u es ts (length d)) (front_of (described_by g u es ts)) d)
  unfolding front_made unless_refused
  made_done n l e q s =
      let w = passed_of g u es ts (length d) (sym p ∙ e) in
      let k : length (front_of (described_by g u es ts)) ≡ n = w.long ∙ sym q in
      let z : 0 + length (front_of (described_by g u es ts)) ≤ length d = omega (arith, w.fits) in
      let o : 0 + length (front_of (described_by g u es ts)) ≡ length (front_of (described_by g u es ts)) = omega arith in
      (rw (← p, e, k), s ∙ put_fits d 0 (front_of (described_by g u es ts)) z ∙ rw (← p, e, o))
