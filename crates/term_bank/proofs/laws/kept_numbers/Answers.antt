use Rattle.term_bank.specs.Table.{entries}
use Rattle.term_bank.proofs.LookupLemmas.{number-kept}
use Rattle.term_bank.proofs.InterningLemmas.{keeps_all_numbers, keeps_numbers_on_the_way}
use Rattle.term_bank.proofs.laws.kept_numbers.Goals as goal

pub returns : goal.returns
returns c = record {
  one = λ old new t u n m e h. number-kept (entries old) (entries new) t u n m e h;
  several = keeps_all_numbers;
  on_the_way = keeps_numbers_on_the_way;
}
