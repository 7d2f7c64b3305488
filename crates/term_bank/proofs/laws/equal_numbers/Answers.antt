use Rattle.term_bank.proofs.InterningLemmas.{numbers_once}
use Rattle.term_bank.proofs.laws.equal_numbers.Goals as goal

pub returns : goal.returns
returns c = numbers_once
