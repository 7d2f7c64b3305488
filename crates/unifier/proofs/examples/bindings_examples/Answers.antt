use Rattle.unifier.proofs.AboutMatching.ExampleLemmas.{is_unified, leaves_others, are_renamed}
use Rattle.unifier.proofs.examples.bindings_examples.Goals as goal

pub returns-clause-unified : goal.returns-clause-unified
returns-clause-unified c = is_unified

pub returns-clause-others : goal.returns-clause-others
returns-clause-others c = leaves_others

pub returns-clause-lists : goal.returns-clause-lists
returns-clause-lists c = are_renamed
