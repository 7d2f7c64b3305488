use Rattle.commands.proofs.AboutPages.OneAnswer.{checks-have-one-report}
use Rattle.commands.proofs.AboutPages.OnlyReport.{faults-are-the-only-report}
use Rattle.commands.proofs.laws.one_answer.Goals as goal

pub returns : goal.returns
returns c = record {
  of_check = checks-have-one-report c.texts_have_one_answer.ensures.at_most_one;
  of_faults = faults-are-the-only-report c.texts_have_one_answer.ensures.at_most_one;
}
