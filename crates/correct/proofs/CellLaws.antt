-- Cell bytes stored over those of a plain tile record. Assumes nothing.
use Prim.Native.Nat.{ℕ, ◌+◌, ◌*◌, ◌≤◌, ◌<◌}
use mathlib.Core.Path.{◌≡◌, sym, ap, ◌∙◌}
use mathlib.Core.List.{List, ◌++◌}
use native.Mathlib.Omega.{arith}
use native.Mathlib.Numerals.{add-one}
use lib.ListN.{get_or}
use Rattle.wire.specs.Tests.{sum_below}
use Rattle.wire.specs.Bytes.{part}
use Rattle.wire.proofs.TestLaws.{sum_none, sum_more}
use Rattle.geometry.specs.Sizes.{stored_size}
use Rattle.stores.specs.Writes.{one_write, seal_write}
use Rattle.stores.proofs.JoinLaws.{Ran, ran_on, ran_then, ran_none}
use Rattle.correct.specs.RecordWrites.{size_in, cell_writes, over_writes}
use Rattle.correct.proofs.TileLaws.{size_is, stored_most}

-- where the loop stands behind the first e elements

pub record Over (k : ℕ) (d : List ℕ) (x : ℕ) (us c : List ℕ) (e p from m : ℕ) (l : List ℕ) : Type 0 where
  pub place : p ≡ x + 16 + sum_below e (λ j. stored_size (size_in us j))
  pub start : from ≡ sum_below e (size_in us)
  pub place_small : p ≤ x + 16 + e * 4294967312
  pub start_small : from ≤ e * 4294967295
  pub ran : Ran k (cell_writes x (size_in us) c e) d m l

pub over_none : (k : ℕ) (d : List ℕ) (x : ℕ) (us c : List ℕ) → Over k d x us c 0 (x + 16) 0 k d
unfolding cell_writes
over_none k d x us c =
    record {
      place = omega (arith, sum_none (λ j. stored_size (size_in us j)));
      start = sym (sum_none (size_in us));
      place_small = omega arith;
      start_small = omega arith;
      ran = ran_none k d;
    }

pub over_more :
    {k : ℕ} {d : List ℕ} {x : ℕ} {us c : List ℕ} {e p from m : ℕ} {l : List ℕ} → Over k d x us c e p from m l → (u j : ℕ) {y : List ℕ} {r : ℕ} {o : List ℕ} →
    u ≡ get_or us e 0 → y ≡ part c from u → j ≡ stored_size u → Ran m (one_write p y) l r o → u < 4294967296 → Over k d x us c (e + 1) (p + j) (from + u) r o
unfolding cell_writes
over_more {k} {d} {x} {us} {c} {e} {p} {from} {m} {l} w u j {y} {r} {o} f g h q b =
    let s : u ≡ size_in us e = f ∙ sym (size_is us e) in
    let a : stored_size u ≡ stored_size (size_in us e) = ap stored_size s in
    let z : y ≡ part c (sum_below e (size_in us)) (size_in us e) = g ∙ rw (w.start, s) in
    let t : Ran k (cell_writes x (size_in us) c e ++ one_write p y) d r o = ran_then w.ran q in
    record {
      place = omega (arith, w.place, sum_more e (λ i. stored_size (size_in us i)));
      start = omega (arith, w.start, sum_more e (size_in us));
      place_small = omega (arith, w.place_small, stored_most u (omega arith));
      start_small = omega (arith, w.start_small);
      ran = rw (add-one e) (rw (w.place, z) at t);
    }

pub over_all :
    {k : ℕ} {d : List ℕ} {x : ℕ} {us c : List ℕ} {e p from m n : ℕ} {l : List ℕ} → Over k d x us c e p from m l → e ≤ n → n ≤ e →
    Ran k (cell_writes x (size_in us) c n) d m l
over_all {e = e} {n = n} w h g = let q : e ≡ n = omega arith in rw (← q) w.ran

-- and the record's checksum

pub over_ran :
    {k : ℕ} {d : List ℕ} (flag x n : ℕ) (u : ℕ → ℕ) (m : ℕ) (c : List ℕ) {a r : ℕ} {l o : List ℕ} → Ran k (cell_writes x u c m) d a l →
    Ran a (seal_write flag x n l) l r o → Ran k (over_writes flag x n u m c d) d r o
unfolding over_writes
over_ran flag x n u m c p q = ran_on (seal_write flag x n) p q
