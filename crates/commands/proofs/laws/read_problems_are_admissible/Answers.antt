use Rattle.commands.proofs.AboutReading.ClosedLemmas.{read_problems_are_closed}
use Rattle.commands.proofs.AboutReading.PrintableLemmas.{read_problems_are_printable}
use Rattle.commands.proofs.laws.read_problems_are_admissible.Goals as goal

pub returns-clause-closed : goal.returns-clause-closed
returns-clause-closed c = read_problems_are_closed

pub returns-clause-printable : goal.returns-clause-printable
returns-clause-printable c = read_problems_are_printable
