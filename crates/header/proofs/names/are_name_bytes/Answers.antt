-- `header::names::are_name_bytes` meets its contract. Assumes nothing.
use borrow.Author.Rules.{rules}
use borrow.Author.Tests.{tests}
use mathlib.Core.Path.{◌∙◌}
use Rattle.std.proofs.lemmas.Iterator.{YieldsList-from_slice}
use Rattle.std.proofs.lemmas.Iterator.Search.{all_from_yields_List}
use Rattle.header.specs.Names.{name_byte}
use Rattle.header.proofs.NameLaws.{all_is}
use Rattle.header.proofs.names.are_name_bytes.Goals as goal

pub returns : goal.returns
returns c = all_from_yields_List name_byte _ _ _ c.all.ensures.ran (YieldsList-from_slice c.args.name.now cc) (λ x b q k. search (rules, tests)) ∙ all_is _
