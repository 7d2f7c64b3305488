use Rattle.clausal_form.proofs.AboutDerivations.TextLemmas.{texts_have_one_answer}
use Rattle.clausal_form.proofs.AboutDerivations.SomeAnswer.{texts_have_some_answer}
use Rattle.clausal_form.proofs.laws.derivations.texts_have_one_answer.Goals as goal

pub returns-clause-at_most_one : goal.returns-clause-at_most_one
returns-clause-at_most_one c = texts_have_one_answer c.one_source.ensures

pub returns-clause-some : goal.returns-clause-some
returns-clause-some c = texts_have_some_answer
