use Rattle.commands.proofs.AboutRuns.RowLemmas.{formed-is-valid}
use Rattle.commands.proofs.laws.formed_problems_are_valid.Goals as goal

pub returns : goal.returns
returns c = formed-is-valid
