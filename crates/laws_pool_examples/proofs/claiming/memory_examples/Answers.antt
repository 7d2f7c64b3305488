use Rattle.laws_pool_examples.proofs.WorkedExamples.AnswerExamples.{taken_with_memory, stale_with_memory, void_without_memory, spent_without_memory}
use Rattle.laws_pool_examples.proofs.claiming.memory_examples.Goals as goal

pub returns-clause-taken : goal.returns-clause-taken
returns-clause-taken c = taken_with_memory

pub returns-clause-stale : goal.returns-clause-stale
returns-clause-stale c = stale_with_memory

pub returns-clause-void : goal.returns-clause-void
returns-clause-void c = void_without_memory

pub returns-clause-spent : goal.returns-clause-spent
returns-clause-spent c = spent_without_memory
