use Rattle.std.proofs.Common.{arith}
use Rattle.skolem.proofs.AboutBindings.OccurringLemmas.{form-item-is}
use Rattle.skolem.proofs.clauses.+has_clauses.Goals as goal

pub some_have_clauses-has_clauses-requires : goal.some_have_clauses-has_clauses-requires
some_have_clauses-has_clauses-requires t c = (omega (arith, form-item-is _ _ _ c.loop-form-test.true c.form-item.is, c.decreases), tt)

pub all_have_clauses-has_clauses-requires : goal.all_have_clauses-has_clauses-requires
all_have_clauses-has_clauses-requires t c = (omega (arith, form-item-is _ _ _ c.loop-form-test.true c.form-item.is, c.decreases), tt)
