use Rattle.pool_writer.proofs.AboutRetracing.ExampleLemmas.{two-parts-refuting, four-clauses-refuting}
use Rattle.pool_writer.proofs.laws.retracing.split_examples.Goals as goal

pub returns-clause-two_parts : goal.returns-clause-two_parts
returns-clause-two_parts c = two-parts-refuting

pub returns-clause-four_clauses : goal.returns-clause-four_clauses
returns-clause-four_clauses c = four-clauses-refuting
