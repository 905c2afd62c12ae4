-- Lists as they are handed back. Assumes nothing.
use Prim.Native.Nat.{ℕ}
use mathlib.Core.Path.{◌≡◌}
use mathlib.Core.List.{List}
use Rattle.says.specs.declared.lists.Listed.{Listed}
use Rattle.says.specs.Lists.{listed_number}
use Rattle.gvrs_c.specs.Report.{reported, list_numbers}

pub listed_handed :
    (o p f g : List ℕ) (x y : Listed) (n : ℕ) → x ≡ y → f ≡ g → n ≡ listed_number x → p ≡ reported (list_numbers x) o →
    (n ≡ listed_number y) × ((p ≡ reported (list_numbers y) o) × (f ≡ g))
listed_handed o p f g x y n e h i j = (rw (← e) i, (rw (← e) j, h))
