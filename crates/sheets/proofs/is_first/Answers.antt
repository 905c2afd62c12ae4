-- `sheets::is_first` meets its contract. Assumes nothing.
use Rattle.sheets.proofs.GridLaws.{says_first, says_second, says_wrong}
use Rattle.sheets.proofs.is_first.Goals as goal

pub returns-in-First : goal.returns-in-First
returns-in-First c = says_first _ c.in-First.is

pub returns-in-Second : goal.returns-in-Second
returns-in-Second c = says_second _ c.in-Second.is

pub returns-in-Wrong : goal.returns-in-Wrong
returns-in-Wrong c = says_wrong _ c.in-Wrong.is
