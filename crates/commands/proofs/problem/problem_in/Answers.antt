use Rattle.commands.proofs.AboutPages.ReadLemmas.{read-admissible}
use Rattle.commands.proofs.problem.problem_in.Goals as goal

pub returns-in-Ok-clause-read : goal.returns-in-Ok-clause-read
returns-in-Ok-clause-read g c = record {
  read = c.in-Ok.ensures.read;
  admissible = read-admissible _ _ _ c.in-Ok.problem.formulas c.in-Ok.ensures.read c.in-Ok.ensures.size;
}
