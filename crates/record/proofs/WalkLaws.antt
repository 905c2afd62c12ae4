-- The records as an iterator: what it gives, and what std's `find`, and `filter` with `count`, answer of it. Assumes nothing.
use Rattle.std.specs.Prelude.{None, Some, Option}
use Prim.Native.Nat.{ℕ, ◌+◌, ◌<◌}
use mathlib.Core.Path.{◌≡◌, refl, sym, ap, ◌∙◌}
use mathlib.Core.Logic.{◌⊎◌}
use mathlib.Core.List.{List, [], ◌∷◌, ◌++◌, map}
use mathlib.Core.Bool.{Bool, true, false}
use native.Mathlib.Omega.{arith}
use lib.ListN.{length}
use denote.Enum.Declared.{tag_of}
use denote.Bor.{Bor}
use Rattle.std.specs.List.{FoldsTo}
use Rattle.std.proofs.lemmas.List.{length-map}
use Rattle.std.specs.Iterator.{Yields, YieldsThen, Drains, CallableAtEachTurn, FindsItem}
use Rattle.std.specs.Option.{option_map}
use Rattle.std.specs.Iterator.Adapters.{filter_steps, filter_source, filter_callee}
use Rattle.std.specs.Fn.{CalledAt, Mut}
use Rattle.std.specs.declared.iter.Filter.{Filter}
use Rattle.wire.specs.Lists.{select}
use Rattle.record.specs.declared.Cursor.{Cursor}
use Rattle.record.specs.declared.Step.{Step}
use Rattle.record.specs.declared.Step.TheVariants.{Record}
use Rattle.record.specs.declared.walk.Records.{Records}
use Rattle.record.specs.Record.{type_at, length_at, record_ok, step_at}
use Rattle.record.specs.Chain.{starts, find, first_record}
use Rattle.record.specs.Asked.{Askable, Decides}
use Rattle.record.specs.Walk.{Walked}
use Rattle.record.specs.contracts.Step.{the_type}
use Rattle.record.proofs.ChainLaws.{stepped, ok_means, starts_record, starts_none}
use Rattle.record.proofs.SeekLaws.{over}

-- the body of `next`

pub walked_some : {s : List ℕ} {at k st n : ℕ} {nx : Cursor} {x : Step} → x ≡ Record k st n nx → x ≡ step_at s at → Walked s at (Some (k, st)) s nx.at
walked_some u v = let h = stepped u v in (refl, h.ok, rw (h.kind, h.start) refl, h.next)

pub walked_none : {s : List ℕ} (at : ℕ) {x : Step} → x ≡ step_at s at → (tag_of the_type x ≡ 1) ⊎ (tag_of the_type x ≡ 2) → Walked s at None s at
walked_none {s} at {x} v t = (refl, over s at x v t, refl)

-- one call of it

abbrev pub steps : Records → Option (ℕ × ℕ) → Records → Type 0
steps a r b = Walked a.file.now a.at r b.file.now b.at

abbrev pub start_of : ℕ × ℕ → ℕ
start_of x = x.1

pub record Came (s : List ℕ) (a : Records) (x : ℕ × ℕ) (b : Records) : Type 0 where
  pub file : b.file.now ≡ s
  pub ok : record_ok s x.1 ≡ true
  pub inside : x.1 < length s
  pub is : x ≡ (type_at s x.1, x.1)
  pub starts : starts s a.at ≡ x.1 ∷ starts s b.at

pub came : {s : List ℕ} (a b : Records) (x : ℕ × ℕ) → a.file.now ≡ s → steps a (Some x) b → Came s a x b
came {s} a b x k w =
    let ok : record_ok s a.at ≡ true = rw (← k) w.1 in
    let m = ok_means s a.at ok in
    let is : x ≡ (type_at s a.at, a.at) = rw (← k) w.2 in
    let here : x.1 ≡ a.at = ap (λ (z : ℕ × ℕ). z.1) is in
    let next : b.at ≡ a.at + length_at s a.at = w.3 ∙ ap (λ (c : List ℕ). a.at + length_at c a.at) k in
    record {
      file = w.0 ∙ k;
      ok = rw here ok;
      inside = omega (arith, m.inside, m.long, here);
      is = is ∙ ap (λ (z : ℕ). (type_at s z, z)) (sym here);
      starts = starts_record s a.at ok ∙ ap (λ (z : ℕ). z ∷ starts s (a.at + length_at s a.at)) (sym here) ∙ ap (λ (z : ℕ). x.1 ∷ starts s z) (sym next);
    }

pub ended : {s : List ℕ} (a b : Records) → a.file.now ≡ s → steps a None b → starts s a.at ≡ []
ended {s} a b k w = starts_none s a.at (rw (← k) w.1)

-- any calls of it: what came are the records from here on, up to where it stands now

pub record Run (s : List ℕ) (a : Records) (xs : List (ℕ × ℕ)) (t : Records) : Type 0 where
  pub file : t.file.now ≡ s
  pub starts : starts s a.at ≡ map start_of xs ++ starts s t.at

pub yielded : {s : List ℕ} (xs : List (ℕ × ℕ)) (a t : Records) → a.file.now ≡ s → Yields steps a xs t → Run s a xs t
yielded {s} [] a t k y = record { file = ap (λ (z : Records). z.file.now) (sym y) ∙ k; starts = ap (λ (z : Records). starts s z.at) y }
yielded (x ∷ xs) a t k y =
    let h = came a y.0 x k y.1 in
    let r = yielded xs y.0 t h.file y.2 in
    record { file = r.file; starts = h.starts ∙ ap (λ (l : List ℕ). x.1 ∷ l) r.starts }

-- a closure that a call leaves as it was may be asked of each of them if it may be asked of each record

kept :
    {P : Type 0} (R : P → (ℕ × ℕ) → P → Type 0) (f : P) → ((x : ℕ × ℕ) (v : P) → R f x v → v ≡ f) → (xs : List (ℕ × ℕ)) (h q : P) → h ≡ f →
    FoldsTo R h xs q → q ≡ f
kept R f same [] h q e w = sym w ∙ e
kept R f same (x ∷ xs) h q e w = kept R f same xs w.0 q (same x w.0 (rw (← e) w.1)) w.2

pub callable :
    {P : Type 0} {R : P → (ℕ × ℕ) → P → Type 0} {Q : P → (ℕ × ℕ) → Type 0} {f : P} {s : List ℕ} {a : Records} → a.file.now ≡ s →
    ((x : ℕ × ℕ) (v : P) → R f x v → v ≡ f) → Askable s (λ k x. Q f (k, x)) → CallableAtEachTurn steps R Q a f
callable {R = R} {f = f} {a = a} k same may =
    record {
      at = λ xs t q x u y w z.
          let i = came t u x (yielded xs a t k y).file z in
          rw (kept R f same xs f q refl w, i.is) (may x.1 i.ok i.inside);
    }

-- those that pass a test, and the first of them

select_yes : (p : ℕ → Bool) (x : ℕ) (xs : List ℕ) → p x ≡ true → select p (x ∷ xs) ≡ x ∷ select p xs
unfolding select
select_yes p x xs e = rw e

select_no : (p : ℕ → Bool) (x : ℕ) (xs : List ℕ) → p x ≡ false → select p (x ∷ xs) ≡ select p xs
unfolding select
select_no p x xs e = rw e

find_yes : (p : ℕ → Bool) (x : ℕ) (xs : List ℕ) → p x ≡ true → find p (x ∷ xs) ≡ Some x
unfolding find
find_yes p x xs e = rw e

find_no : (p : ℕ → Bool) (x : ℕ) (xs : List ℕ) → p x ≡ false → find p (x ∷ xs) ≡ find p xs
unfolding find
find_no p x xs e = rw e

-- what the closure passes over and finds, where it decides p of each record

record Passed {F : Type 0} (f : F) (s : List ℕ) (p : ℕ → Bool) (a t : Records) (q : F) : Type 0 where
  file : t.file.now ≡ s
  same : q ≡ f
  first : find p (starts s a.at) ≡ find p (starts s t.at)
  left : select p (starts s a.at) ≡ select p (starts s t.at)

record Found {F : Type 0} (f : F) (s : List ℕ) (p : ℕ → Bool) (a u : Records) (x : ℕ × ℕ) (v : F) : Type 0 where
  file : u.file.now ≡ s
  same : v ≡ f
  first : find p (starts s a.at) ≡ Some x.1
  left : select p (starts s a.at) ≡ x.1 ∷ select p (starts s u.at)

module _
    {F : Type 0} {g : Mut F (Bor (ℕ × ℕ) × Unit {0}) Bool} {f : F} {s : List ℕ} {p : ℕ → Bool}
    (stays : (x : ℕ × ℕ) (b : Bool) (v : F) → CalledAt g f x b v → v ≡ f) (d : Decides s (λ k x b. (v : F) × CalledAt g f (k, x) b v) p)
  where
    passed :
        (xs : List (ℕ × ℕ)) (a t : Records) (h q : F) → h ≡ f → a.file.now ≡ s → Yields steps a xs t →
        FoldsTo (λ u x v. CalledAt g u x false v) h xs q → Passed f s p a t q
    passed [] a t h q e k y w =
        record {
          file = ap (λ (z : Records). z.file.now) (sym y) ∙ k;
          same = sym w ∙ e;
          first = ap (λ (z : Records). find p (starts s z.at)) y;
          left = ap (λ (z : Records). select p (starts s z.at)) y;
        }
    passed (x ∷ xs) a t h q e k y w =
        let i = came a y.0 x k y.1 in
        let c : CalledAt g f x false w.0 = rw (← e) w.1 in
        let no : false ≡ p x.1 = d x.1 i.ok i.inside false (w.0, rw (← i.is) c) in
        let r = passed xs y.0 t w.0 q (stays x false w.0 c) i.file y.2 w.2 in
        record {
          file = r.file;
          same = r.same;
          first = ap (find p) i.starts ∙ find_no p x.1 _ (sym no) ∙ r.first;
          left = ap (select p) i.starts ∙ select_no p x.1 _ (sym no) ∙ r.left;
        }

    found :
        (a u : Records) (h : F) → h ≡ f → a.file.now ≡ s → (x : ℕ × ℕ) (xs : List (ℕ × ℕ)) (q v : F) → YieldsThen steps a xs (Some x) u →
        FoldsTo (λ u x v. CalledAt g u x false v) h xs q → CalledAt g q x true v → Found f s p a u x v
    found a u h e k x xs q v y w m =
        let r = passed xs a y.0 h q e k y.1 w in
        let i = came y.0 u x r.file y.2 in
        let c : CalledAt g f x true v = rw (← r.same) m in
        let yes : true ≡ p x.1 = d x.1 i.ok i.inside true (v, rw (← i.is) c) in
        record {
          file = i.file;
          same = stays x true v c;
          first = r.first ∙ ap (find p) i.starts ∙ find_yes p x.1 _ (sym yes);
          left = r.left ∙ ap (select p) i.starts ∙ select_yes p x.1 _ (sym yes);
        }

    none :
        (a u : Records) (h : F) → h ≡ f → a.file.now ≡ s → (xs : List (ℕ × ℕ)) (q : F) → YieldsThen steps a xs None u →
        FoldsTo (λ u x v. CalledAt g u x false v) h xs q → (find p (starts s a.at) ≡ None) × (select p (starts s a.at) ≡ [])
    unfolding find select
    none a u h e k xs q y w =
        let r = passed xs a y.0 h q e k y.1 w in
        let l = ended y.0 u r.file y.2 in
        (r.first ∙ ap (find p) l, r.left ∙ ap (select p) l)

    -- so `find` gives the first
    pub first_from_find :
        (r : Option (ℕ × ℕ)) (a u : Records) {at : ℕ} → a.file.now ≡ s → a.at ≡ at → FindsItem steps g a f r u →
        option_map start_of r ≡ first_record s at p
    unfolding first_record
    first_from_find None a u k e w = sym (ap (λ (z : ℕ). find p (starts s z)) (sym e) ∙ (none a u f refl k w.0 w.1 w.2 w.3).0)
    first_from_find (Some x) a u k e w =
        sym (ap (λ (z : ℕ). find p (starts s z)) (sym e) ∙ (found a u f refl k x w.0 w.1 w.4.0 w.2 w.3 w.4.1).first)

    -- `filter` gives all
    pub starts_from_filter :
        (ys : List (ℕ × ℕ)) (m : Filter Records F) → filter_callee m ≡ f → (filter_source m).file.now ≡ s → Drains (filter_steps steps g) m ys →
        map start_of ys ≡ select p (starts s (filter_source m).at)
    starts_from_filter [] m z k w =
        let e = w.1.2 in
        let y : w.1.0 ≡ m = sym w.1.1 in
        let h = none (filter_source w.1.0) (filter_source w.0) (filter_callee w.1.0) (rw y z) (rw y k) e.0 e.1 e.2 e.3 in
        sym (ap (λ (c : Filter Records F). select p (starts s (filter_source c).at)) (sym y) ∙ h.1)
    starts_from_filter (y ∷ ys) m z k w =
        let n = w.1.1.0 in
        let e = w.1.1.1 in
        let h = found (filter_source m) (filter_source n) (filter_callee m) z k y e.0 e.1 (filter_callee n) e.2 e.3 e.4 in
        ap (λ (l : List ℕ). y.1 ∷ l) (starts_from_filter ys n h.same h.file (w.0, (w.1.0, w.1.1.2, w.1.2))) ∙ sym h.left

    -- and `count` on it their number
    pub length_from_filter :
        (n : ℕ) (a : Records) (m : Filter Records F) {at : ℕ} → a.file.now ≡ s → a.at ≡ at → filter_source m ≡ a → filter_callee m ≡ f →
        (ys : List (ℕ × ℕ)) × Drains (filter_steps steps g) m ys × (n ≡ length ys) → n ≡ length (select p (starts s at))
    length_from_filter n a m k e y z w =
        w.2 ∙ sym (length-map w.0 start_of) ∙ ap length (starts_from_filter w.0 m z (rw y k) w.1)
        ∙ ap (λ (c : ℕ). length (select p (starts s c))) (ap (λ (c : Records). c.at) y ∙ e)
