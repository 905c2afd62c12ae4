-- `unpack::rows::unpack_rows` meets its contract. Assumes nothing.
use Rattle.unpack.proofs.TileLaws.{one_less, sizes_more, goes_start, goes_not, goes_more, goes_end, few_row}
use Prim.Native.Nat.{◌+◌, ◌-◌}
use lib.ListN.{length}
use mathlib.Core.Path.{◌≡◌, refl}
use native.Mathlib.Omega.{arith}
use borrow.Author.Rules.{rules}
use Rattle.unpack.proofs.rows.unpack_rows.Goals as goal

pub rows-init : goal.rows-init
rows-init c =
    let e : c.args.plan.rows - 0 ≡ c.args.plan.rows = omega arith in
    rw e (
      record {
        above_long = c.requires.shape.0;
        row_long = refl;
        out_long = refl;
        whole = omega (arith, c.requires.shape.1.0);
        first = omega arith;
        some = omega (arith, c.requires.sides, one_less c.args.plan.rows (length c.args.row.now) c.requires.sides.0);
        few = omega (arith, c.requires.sides);
      },
      goes_start _ _ _ _ _ _ _ _ _ _ _ _,
    )

pub next_row-requires : goal.next_row-requires
next_row-requires c = (omega (arith, c.requires.sides, c.rows.invariant.0), omega (arith, c.requires.sides, c.rows.invariant.0))

pub returns-in_err-made : goal.returns-in_err-made
returns-in_err-made c = rw c.from_residual.ensures (goes_not _ _ _ _ _ _ _ _ _ _ _ _ _ _ _ _ _ _ _ _ _ c.rows.invariant.1 c.rows.invariant.0 _ _ _ (omega arith) c.requires.sides.1.1.0 c.requires.shape.1.0 c.next_row.ensures.is c.in_err-made.was)

pub overflow_add-bytes : goal.overflow_add-bytes
overflow_add-bytes c = omega (arith, few_row _ _ _ c.next_row.ensures.few c.in_ok-made.was, c.rows.invariant.0.few)

pub overflow_add-at : goal.overflow_add-at
overflow_add-at c = omega (arith, c.requires.shape.1.1, c.rows.invariant.0, one_less (c.args.plan.rows - c.rows.counter) (length c.args.row.now) (omega arith))

pub rows-preserved : goal.rows-preserved
rows-preserved c =
    let e : c.args.plan.rows - (c.rows.counter + 1) ≡ c.args.plan.rows - c.rows.counter - 1 = omega arith in
    rw e (
      sizes_more _ _ _ _ _ _ _ _ _ _ _ _ _ _ c.rows.invariant.0 (omega arith) (search rules) (search rules) (search rules) (few_row _ _ _ c.next_row.ensures.few c.in_ok-made.was),
      goes_more _ _ _ _ _ _ _ _ _ _ _ _ _ _ _ _ _ _ _ _ _ c.rows.invariant.1 c.rows.invariant.0 _ _ _ _ _ _ _ (omega arith) c.requires.sides.1.1.0 c.next_row.ensures.is c.in_ok-made.was c.copy_from_slice.ensures.after c.put_of_tile.ensures c.cell_or-value.ensures (search rules),
    )

pub returns : goal.returns
returns c = goes_end _ _ _ _ _ _ _ _ _ _ _ _ _ _ _ _ _ _ _ _ _ c.rows.invariant.1 c.rows.invariant.0 (omega arith) (omega (arith, c.requires.sides, c.requires.shape, one_less c.args.plan.rows (length c.args.row.now) c.requires.sides.0)) c.requires.shape.1.0
