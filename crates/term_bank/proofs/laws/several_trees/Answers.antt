use Rattle.term_bank.proofs.InterningLemmas.{interns_none, interns_one, interns_onward, interns_partly_onward, interns_first_of_more, learns_only_these, interned_again, numbers_these, interns_after_first}
use Rattle.term_bank.proofs.laws.several_trees.Goals as goal

pub returns : goal.returns
returns c = record {
  none = interns_none;
  one = interns_one;
  onward = interns_onward;
  partly_onward = interns_partly_onward;
  first_of_more = interns_first_of_more;
  only_these = learns_only_these;
  again = interned_again;
  numbers = numbers_these;
  after_first = interns_after_first;
}
