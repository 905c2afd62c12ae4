-- The tight plan, put into a list start by start. Assumes nothing.
use Rattle.std.specs.Prelude.{Err, None, Ok, Option, Some}
use Prim.Native.Nat.{ℕ, suc, ◌+◌, ◌≤◌, ◌<◌}
use mathlib.Core.Path.{◌≡◌, refl, sym, ap, ◌∙◌}
use mathlib.Core.List.{List, [], ◌∷◌}
use native.Mathlib.Omega.{arith}
use lib.ListN.{length, set, length-set}
use Rattle.wire.specs.Tests.{◌≤?◌}
use Rattle.wire.specs.Bytes.{put}
use Rattle.wire.proofs.PutLaws.{put_not, put_nil, put_one, put_put}
use Rattle.wire.proofs.TestLaws.{yes, no}
use Rattle.answer.specs.declared.Refusal.TheVariants.{Room}
use Rattle.answer.specs.Refusals.{gate, unless_refused}
use Rattle.record.specs.Record.{length_at}
use Rattle.record.specs.Chain.{header_end, first_record}
use Rattle.correct.specs.Plan.{is_kept, kept_starts, end_from, planned_end, tight_from, tight_plan}
use Rattle.correct.specs.Answers.{answered}
use Rattle.plans.specs.Tight.{starts_then}
use Rattle.plans.proofs.KeptLaws.{kept_from, kept_all, next_is, next_none}

-- one number set, the others put behind it
pub put_more : (d : List ℕ) (k v : ℕ) (w : List ℕ) → k + suc (length w) ≤ length d → put (set d k v) (k + 1) w ≡ put d k (v ∷ w)
put_more d k v w h = ap (λ (x : List ℕ). put x (k + 1) w) (put_one d k v (omega arith)) ∙ put_put d k (v ∷ []) w (omega arith)

pub tight_long : (s : List ℕ) (e : ℕ) (xs : List ℕ) → length (tight_from s e xs) ≡ length xs
unfolding tight_from
tight_long s e [] = refl
tight_long s e (x ∷ xs) = ap suc (tight_long s (e + length_at s x) xs)

tight_none : (s : List ℕ) (e : ℕ) → tight_from s e [] ≡ []
unfolding tight_from
tight_none s e = refl

tight_cons : (s : List ℕ) (e x : ℕ) (xs : List ℕ) → tight_from s e (x ∷ xs) ≡ e ∷ tight_from s (e + length_at s x) xs
unfolding tight_from
tight_cons s e x xs = refl

tight_all : (s : List ℕ) → tight_from s (header_end s) (kept_starts s) ≡ tight_plan s
unfolding tight_plan
tight_all s = refl

-- where the last record of the tight plan ends
unfoldable pub tight_end : List ℕ → ℕ → List ℕ → ℕ
tight_end s e xs = end_from s e xs (tight_from s e xs)

end_none : (s : List ℕ) (e : ℕ) → tight_end s e [] ≡ e
unfolding tight_end end_from
end_none s e = refl

end_cons : (s : List ℕ) (e x : ℕ) (xs : List ℕ) → tight_end s e (x ∷ xs) ≡ tight_end s (e + length_at s x) xs
unfolding tight_end end_from tight_from
end_cons s e x xs = refl

end_all : (s : List ℕ) → tight_end s (header_end s) (kept_starts s) ≡ planned_end s (tight_plan s)
unfolding tight_end planned_end tight_plan
end_all s = refl

-- the walk at `at`, k starts put into the list old, the last kept record ends at e
pub record Sliding (s old now : List ℕ) (at e k : ℕ) : Type 0 where
  pub plan : put now k (tight_from s e (kept_from s at)) ≡ put old 0 (tight_plan s)
  pub end : tight_end s e (kept_from s at) ≡ planned_end s (tight_plan s)
  pub room : k + length (kept_from s at) ≤ length now
  pub low : e ≤ at

pub sliding_begin : (s old : List ℕ) (at : ℕ) → length (kept_starts s) ≤ length old → at ≡ header_end s → Sliding s old old at at 0
sliding_begin s old at h e =
    record {
      plan = rw (e, kept_all s, tight_all s);
      end = rw (e, kept_all s) (end_all s);
      room = rw (e, kept_all s) (omega arith);
      low = omega arith;
    }

module _ {s old now : List ℕ} {at e k : ℕ} {r : Option ℕ} (t : Sliding s old now at e k) (u : r ≡ first_record s at (is_kept s)) where
  module _ (v : r ≡ None) where
    pub sliding_end : e ≡ planned_end s (tight_plan s)
    sliding_end = sym (end_none s e) ∙ ap (tight_end s e) (sym (next_none s at u v)) ∙ t.end

    pub sliding_plan : now ≡ put old 0 (tight_plan s)
    sliding_plan =
        sym (put_nil now k) ∙ ap (put now k) (sym (ap (tight_from s e) (next_none s at u v) ∙ tight_none s e)) ∙ t.plan

  module _ {x n : ℕ} (v : r ≡ Some x) (m : n ≡ length_at s x) where
    pub sliding_index : k < length now
    sliding_index = omega (arith, t.room, ap length (next_is s at x u v).here)

    pub sliding_room : e + n ≤ length s
    sliding_room = let h = next_is s at x u v in omega (arith, t.low, h.behind, h.is.inside)

    pub sliding_more : Sliding s old (set now k e) (x + n) (e + n) (k + 1)
    sliding_more =
        let h = next_is s at x u v in
        let y = kept_from s (x + length_at s x) in
        let f : length (kept_from s at) ≡ suc (length y) = ap length h.here in
        let g = tight_long s (e + length_at s x) y in
        let a : tight_from s e (kept_from s at) ≡ e ∷ tight_from s (e + length_at s x) y = ap (tight_from s e) h.here ∙ tight_cons s e x y in
        rw m
        (record {
          plan = put_more now k e (tight_from s (e + length_at s x) y) (omega (arith, t.room)) ∙ ap (put now k) (sym a) ∙ t.plan;
          end = sym (ap (tight_end s e) h.here ∙ end_cons s e x y) ∙ t.end;
          room = simp length-set (omega (arith, t.room));
          low = omega (arith, t.low, h.behind);
        })

-- the room

pub starts_not : (s ps : List ℕ) (n : ℕ) → length ps < length (kept_starts s) → Err Room ≡ answered (starts_then s ps (Ok tt)) n
unfolding starts_then answered gate unless_refused
starts_not s ps n h = rw (sym (no ((length (kept_starts s) ≤? length ps) ∷ []) (λ z. omega (arith, z.0))))

pub starts_fit : (s ps : List ℕ) (n m : ℕ) → length (kept_starts s) ≤ length ps → n ≡ m → Ok n ≡ answered (starts_then s ps (Ok tt)) m
unfolding starts_then answered gate unless_refused
starts_fit s ps n m h e = rw (sym (yes ((length (kept_starts s) ≤? length ps) ∷ []) (h, tt)), e)

pub tight_out_lem : (s ps : List ℕ) → length ps < length (kept_starts s) → ps ≡ put ps 0 (tight_plan s)
tight_out_lem s ps h = sym (put_not ps 0 (tight_plan s) (omega (arith, sym (ap length (tight_all s)) ∙ tight_long s (header_end s) (kept_starts s))))
