use Rattle.clausal_form.proofs.AboutDerivations.SpelledLemmas.{spelled_lines_are_answered}
use Rattle.clausal_form.proofs.laws.derivations.spelled_lines_are_answered.Goals as goal

pub returns : goal.returns
returns c = spelled_lines_are_answered
