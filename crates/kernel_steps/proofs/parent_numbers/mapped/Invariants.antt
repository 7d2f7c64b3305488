use Rattle.kernel_steps.proofs.AboutCalls.ParentLemmas.{IsMapped}
use Rattle.kernel_steps.proofs.parent_numbers.mapped.Given as goal

abbrev pub invariant-loop-index : goal.invariant-loop-index
invariant-loop-index g l = IsMapped (goal.F-pre g l.number) (goal.F-post g l.number) l.fn.numbers l.index l.items.items
