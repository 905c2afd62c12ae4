-- A number read from the bits of a content, a symbol at a time. Assumes nothing.
use Prim.Native.Nat.{ℕ, suc, ◌+◌, ◌-◌, ◌*◌, ◌<◌}
use mathlib.Core.Path.{◌≡◌, refl, sym, ap, subst, ◌∙◌}
use mathlib.Core.List.{List, [], ◌∷◌}
use mathlib.Core.Bool.{Bool, true, false}
use native.Mathlib.Omega.{arith}
use lib.ListN.{get_or}
use lib.Dec.{leb}
use Rattle.wire.specs.Pick.{pick}
use Rattle.wire.specs.Tests.{◌≤?◌, passes}
use Rattle.wire.specs.Bytes.{largest_integer}
use Rattle.wire.proofs.TestLaws.{means}
use Rattle.m32.specs.M32.{found, bases, signed, byte, end, first_step, go_on, ended, further_step, read_code}
use Rattle.m32.specs.declared.Partial.{Partial}
use Rattle.m32.specs.declared.Step.{Step}
use Rattle.m32.specs.declared.Step.TheVariants.{Number, More, Bad}
use Rattle.m32.specs.declared.Found.{Found}
use Rattle.m32.proofs.StepLaws.{outcome, is_number, is_bad, asks, lacks, begins, begins_not, longer}
use Rattle.huffman.specs.Tree.{Tree}
use Rattle.huffman.specs.Jumps.{Coded, next_symbol}
use Rattle.huffman.specs.Symbols.{given, symbol_at}
use Rattle.huffman.specs.declared.Symbol.{Symbol}
use Rattle.huffman.proofs.NextLaws.{next_is_trees}
use Rattle.std.specs.Prelude.{Option, None}
use Rattle.unpack.specs.Unpack.{as_byte, symbols}

-- how many symbols more a step may ask for, and one
abbrev pub weight : Step → ℕ
weight (Number x) = 0
weight (More p) = suc (5 - p.digits)
weight Bad = 0

pub lighter : (u : Step) (p q : Partial) (y : ℕ) → u ≡ further_step p y → u ≡ More q → weight (More q) < weight (More p)
unfolding further_step go_on ended
lighter u p q y f e =
    subst (λ (v : Step). weight v < weight (More p)) (sym f ∙ e)
    (go (leb 128 y) (passes ((p.digits ≤? 3) ∷ (p.sum * 128 + (y - 128) ≤? largest_integer) ∷ [])) refl
    (passes ((p.digits ≤? 4) ∷ (p.sum * 128 + y + get_or bases p.digits 0 ≤? largest_integer) ∷ [])))
  where
    go :
        (a b : Bool) → passes ((p.digits ≤? 3) ∷ (p.sum * 128 + (y - 128) ≤? largest_integer) ∷ []) ≡ b → (d : Bool) →
        weight (pick a (pick b (More (longer p (p.sum * 128 + (y - 128)))) Bad) (pick d (Number (signed p.negative (p.sum * 128 + y + get_or bases p.digits 0))) Bad))
        < suc (5 - p.digits)
    go true true g d = omega (arith, (means ((p.digits ≤? 3) ∷ (p.sum * 128 + (y - 128) ≤? largest_integer) ∷ []) g).0)
    go true false g d = omega arith
    go false b g true = omega arith
    go false b g false = omega arith

module _ (c nodes jumps : List ℕ) where
  -- s is the symbol at a bit, by whatever tree the nodes are
  abbrev Gives : ℕ → Option Symbol → Type 0
  Gives at s = (t : Tree) → Coded nodes jumps t → s ≡ symbol_at t c at

  pub by_tree : (at : ℕ) (s : Option Symbol) → s ≡ next_symbol c nodes jumps at → Gives at s
  by_tree at s e t x = e ∙ next_is_trees c nodes jumps t at x

  a_byte : (t : Tree) (at y q : ℕ) (s : Option Symbol) → s ≡ symbol_at t c at → s ≡ given y q → symbols t c at ≡ byte y q
  unfolding symbols
  a_byte t at y q s e f = ap as_byte (sym e ∙ f)

  no_byte : (t : Tree) (at : ℕ) (s : Option Symbol) → s ≡ symbol_at t c at → s ≡ None → symbols t c at ≡ end
  unfolding symbols
  no_byte t at s e f = ap as_byte (sym e ∙ f)

  module _ (from : ℕ) where
    -- r is the number at the bit `from`
    abbrev Is : Option Found → Type 0
    Is r = (t : Tree) → Coded nodes jumps t → r ≡ read_code (symbols t c) from

    -- what the step u comes to at a bit is the number at `from`
    abbrev pub Coming : Step → ℕ → Type 0
    Coming u at = (t : Tree) → Coded nodes jumps t → outcome (symbols t c) u at ≡ read_code (symbols t c) from

    pub came_none : (s : Option Symbol) → Gives from s → s ≡ None → Is None
    came_none s g e t h = sym (begins_not (symbols t c) from (no_byte t from s (g t h) e))

    pub came_first : (s : Option Symbol) (y q : ℕ) (u : Step) → Gives from s → s ≡ given y q → u ≡ first_step y → Coming u q
    came_first s y q u g e f t h = rw f (sym (begins (symbols t c) from y q (a_byte t from y q s (g t h) e)))

    module _ (u : Step) (at : ℕ) (inv : Coming u at) where
      pub came_number : (x : ℕ) → u ≡ Number x → Is (found x at)
      came_number x e t h = sym (is_number (symbols t c) x at) ∙ ap (λ (w : Step). outcome (symbols t c) w at) (sym e) ∙ inv t h

      pub came_part : (p : Partial) → u ≡ More p → Coming (More p) at
      came_part p e t h = ap (λ (w : Step). outcome (symbols t c) w at) (sym e) ∙ inv t h

      pub came_bad : u ≡ Bad → Is None
      came_bad e t h = sym (is_bad (symbols t c) at) ∙ ap (λ (w : Step). outcome (symbols t c) w at) (sym e) ∙ inv t h

    module _ (p : Partial) (at : ℕ) (inv : Coming (More p) at) where
      pub came_ended : (s : Option Symbol) → Gives at s → s ≡ None → Is None
      came_ended s g f t h = sym (lacks (symbols t c) p at (no_byte t at s (g t h) f)) ∙ inv t h

      pub came_more : (s : Option Symbol) (y q : ℕ) (v : Step) → Gives at s → s ≡ given y q → v ≡ further_step p y → Coming v q
      came_more s y q v g f k t h = rw k (sym (asks (symbols t c) p at y q (a_byte t at y q s (g t h) f)) ∙ inv t h)
