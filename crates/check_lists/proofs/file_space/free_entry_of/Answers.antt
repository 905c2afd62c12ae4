-- `check_lists::file_space::free_entry_of` meets its contract. Assumes nothing.
use Rattle.check_lists.proofs.ListLaws.{other_start, other_length, free_entry_lem}
use borrow.Author.Rules.{rules}
use Rattle.check_lists.proofs.file_space.free_entry_of.Goals as goal

pub returns-then-u64_at-x : goal.returns-then-u64_at-x
returns-then-u64_at-x c = search (rules, other_start)

pub returns-then-u32_off-u32_at : goal.returns-then-u32_off-u32_at
returns-then-u32_off-u32_at c = search (rules, other_length)

pub returns : goal.returns
returns c = search (rules, free_entry_lem)
