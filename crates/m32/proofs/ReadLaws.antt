-- Codes read from a list. Assumes nothing.
use Prim.Native.Nat.{ℕ, zero, suc, ◌+◌, ◌-◌, ◌≤◌, ◌<◌}
use mathlib.Core.Path.{◌≡◌, refl, sym, ap, ◌∙◌}
use mathlib.Core.List.{List, [], ◌∷◌, ◌++◌, append-nil}
use native.Mathlib.Omega.{arith}
use lib.ListN.{length, get_or, set, length-append}
use lib.Seq.{append_snoc}
use Rattle.wire.specs.Bytes.{put}
use Rattle.wire.proofs.PutLaws.{put_nil, put_one, put_put, length_put}
use Rattle.m32.specs.M32.{first_step, further_step, Next, found, bytes_next, Numbers, no_numbers, in_front, read_code, read_codes}
use Rattle.std.specs.Prelude.{None}
use Rattle.m32.specs.declared.Partial.{Partial}
use Rattle.m32.specs.declared.Step.{Step}
use Rattle.m32.specs.declared.Step.TheVariants.{Number, More, Bad}
use Rattle.m32.proofs.StepLaws.{outcome, is_number, is_bad, asks, lacks, begins, begins_not, next_byte, next_end}
use Rattle.m32.proofs.BackLaws.{read_more}

-- a code a step at a time: t stands for what the code at `from` comes to

module _ (s : List ℕ) (from : ℕ) where
  pub code_none : length s ≤ from → None ≡ read_code (bytes_next s) from
  code_none h = sym (begins_not (bytes_next s) from (next_end s from h))

  pub code_begun : (t : Step) → from < length s → t ≡ first_step (get_or s from 0) → outcome (bytes_next s) t (from + 1) ≡ read_code (bytes_next s) from
  code_begun t h e = rw e (sym (begins (bytes_next s) from (get_or s from 0) (from + 1) (next_byte s from h)))

  module _ (t : Step) (at : ℕ) (inv : outcome (bytes_next s) t at ≡ read_code (bytes_next s) from) where
    pub code_number : (x : ℕ) → t ≡ Number x → found x at ≡ read_code (bytes_next s) from
    code_number x e = sym (is_number (bytes_next s) x at) ∙ ap (λ (u : Step). outcome (bytes_next s) u at) (sym e) ∙ inv

    pub code_bad : t ≡ Bad → None ≡ read_code (bytes_next s) from
    code_bad e = sym (is_bad (bytes_next s) at) ∙ ap (λ (u : Step). outcome (bytes_next s) u at) (sym e) ∙ inv

    pub code_ended : (p : Partial) → t ≡ More p → length s ≤ at → None ≡ read_code (bytes_next s) from
    code_ended p e h = sym (lacks (bytes_next s) p at (next_end s at h)) ∙ ap (λ (u : Step). outcome (bytes_next s) u at) (sym e) ∙ inv

    pub code_more :
        (p : Partial) (u : Step) → t ≡ More p → at < length s → u ≡ further_step p (get_or s at 0) → outcome (bytes_next s) u (at + 1) ≡ read_code (bytes_next s) from
    code_more p u e h f =
        rw f
        (sym (asks (bytes_next s) p at (get_or s at 0) (at + 1) (next_byte s at h)) ∙ ap (λ (w : Step). outcome (bytes_next s) w at) (sym e) ∙ inv)

-- numbers one after the other: i are read, and the code behind them is at `at`

pub record Reading (next : ℕ → Next) (n : ℕ) (d out : List ℕ) (i at : ℕ) : Type 0 where
  pub done : List ℕ
  pub numbers : done ++ (read_codes next (n - i) at).numbers ≡ (read_codes next n 0).numbers
  pub behind : (read_codes next (n - i) at).behind ≡ (read_codes next n 0).behind
  pub is : out ≡ put d 0 done
  pub long : length done ≡ i

module _ (next : ℕ → Next) (d : List ℕ) where
  pub read_start : Reading next (length d) d d 0 0
  read_start =
      let e : length d - 0 ≡ length d = omega arith in
      record { done = []; numbers = rw e; behind = rw e; is = sym (put_nil d 0); long = refl }

  module _ (out : List ℕ) (i at : ℕ) (r : Reading next (length d) d out i at) where
    pub read_one : (x q : ℕ) → i < length d → read_code next at ≡ found x q → Reading next (length d) d (set out i x) (i + 1) q
    read_one x q h e =
        let m : length d - i ≡ suc (length d - (i + 1)) = omega arith in
        let f : read_codes next (length d - i) at ≡ in_front x (read_codes next (length d - (i + 1)) q) = rw m (read_more next (length d - (i + 1)) x at q e) in
        let z : i ≡ 0 + length r.done = omega (arith, r.long) in
        record {
          done = r.done ++ (x ∷ []);
          numbers = append_snoc r.done x (read_codes next (length d - (i + 1)) q).numbers ∙ ap (λ (ns : Numbers). r.done ++ ns.numbers) (sym f) ∙ r.numbers;
          behind = ap (λ (ns : Numbers). ns.behind) (sym f) ∙ r.behind;
          is =
              put_one out i x (rw (r.is, length_put) h)
              ∙ rw (r.is, z) (put_put d 0 r.done (x ∷ []) (omega (arith, r.long)));
          long = length-append r.done (x ∷ []) ∙ omega (arith, r.long);
        }

    -- no more are read
    pub read_stop :
        read_codes next (length d - i) at ≡ no_numbers at →
        (i ≡ length (read_codes next (length d) 0).numbers) × ((at ≡ (read_codes next (length d) 0).behind) × (out ≡ put d 0 (read_codes next (length d) 0).numbers))
    read_stop e =
        let f : (read_codes next (length d) 0).numbers ≡ r.done = sym r.numbers ∙ ap (λ (ns : Numbers). r.done ++ ns.numbers) e ∙ append-nil r.done in
        (sym (ap length f ∙ r.long), (sym (ap (λ (ns : Numbers). ns.behind) e) ∙ r.behind, rw f r.is))

pub read_none : (next : ℕ → Next) (n at : ℕ) → 0 < n → read_code next at ≡ None → read_codes next n at ≡ no_numbers at
unfolding read_codes
read_none next zero at h e = refl
read_none next (suc n) at h e = rw e

pub read_full : (next : ℕ → Next) (n at : ℕ) → n ≤ 0 → read_codes next n at ≡ no_numbers at
unfolding read_codes
read_full next n at h = let e : n ≡ 0 = omega arith in rw e
