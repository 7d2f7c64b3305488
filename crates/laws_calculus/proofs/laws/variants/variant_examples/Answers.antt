use Rattle.laws_calculus.proofs.AboutLifting.VariantLemmas.{renamed_example, bound_example, merged_example}
use Rattle.laws_calculus.proofs.laws.variants.variant_examples.Goals as goal

pub returns-clause-renamed : goal.returns-clause-renamed
returns-clause-renamed c = renamed_example

pub returns-clause-bound : goal.returns-clause-bound
returns-clause-bound c = bound_example

pub returns-clause-merged : goal.returns-clause-merged
returns-clause-merged c = merged_example
