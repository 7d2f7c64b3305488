use Rattle.std.proofs.Common.{subst, sym}
use Rattle.commands.specs.AnswerShape.{IsAdmissible}
use Rattle.commands.proofs.AboutMade.{made-admissible}
use Rattle.test_runs.proofs.made.made_is_admissible.Goals as goal

pub returns : goal.returns
returns c = subst IsAdmissible (sym c.requires.made) made-admissible
