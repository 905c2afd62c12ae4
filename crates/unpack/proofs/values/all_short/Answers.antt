-- `unpack::values::all_short` meets its contract. Assumes nothing.
use Rattle.std.proofs.lemmas.Iterator.{cases_from_all, YieldsList-from_slice}
use Rattle.std.proofs.Common.{◌≡◌, true, false, rules}
use Rattle.unpack.specs.Unpack.{is_short}
use Rattle.unpack.proofs.ValueLaws.{row_shorts}
use Rattle.unpack.proofs.values.all_short.Goals as goal

pub returns : goal.returns
returns c = row_shorts _ _ (cases_from_all _ _ _ (λ v. is_short v ≡ true) (λ v. is_short v ≡ false) c.all.ensures.ran (YieldsList-from_slice c.args.row.now cc) (λ x q k. search rules) (λ x q k. search rules))
