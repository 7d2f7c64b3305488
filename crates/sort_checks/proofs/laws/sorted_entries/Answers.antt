use Rattle.sort_checks.proofs.EntryLemmas.{sorted-entries}
use Rattle.sort_checks.proofs.laws.sorted_entries.Goals as goal

pub returns : goal.returns
returns c = sorted-entries
