use Rattle.std.proofs.Common.{sym}
use Rattle.std.proofs.lemmas.Bool.{true≢false}
use Rattle.laws_calculus.proofs.laws.examples.symbol_examples.Goals as goal

pub returns-clause-another_symbol : goal.returns-clause-another_symbol
returns-clause-another_symbol c = λ h. true≢false (sym h)

pub returns-clause-another_later : goal.returns-clause-another_later
returns-clause-another_later c = λ h. true≢false (sym h)

pub returns-clause-two_arguments : goal.returns-clause-two_arguments
returns-clause-two_arguments c = λ h. true≢false (sym h)
