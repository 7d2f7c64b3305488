use Rattle.std.proofs.Common.{arith}
use Rattle.tptp_problem.proofs.AboutReading.FaultLemmas.{fault-then, include-stopped, include-cut, include-whole, whole-wide}
use Rattle.tptp_problem.proofs.include.include_at.Goals as goal

pub overflow_add-first : goal.overflow_add-first
overflow_add-first c = let w = whole-wide c.args.source c.args.first c.in-Whole.next c.in-Whole.ensures.end in omega (arith, w.0, c.in-Whole.ensures.fits)

pub overflow_add-first-in-Whole : goal.overflow_add-first-in-Whole
overflow_add-first-in-Whole c = let w = whole-wide c.args.source c.args.first c.in-Whole.next c.in-Whole.ensures.end in omega (arith, w.0, c.in-Whole.ensures.fits)

pub overflow_sub-next : goal.overflow_sub-next
overflow_sub-next c = let w = whole-wide c.args.source c.args.first c.in-Whole.next c.in-Whole.ensures.end in omega (arith, w.0)

pub returns-in-Stopped-clause-fault : goal.returns-in-Stopped-clause-fault
returns-in-Stopped-clause-fault c =
    fault-then _ _ c.fault.result (include-stopped c.args.source c.args.first c.in-Stopped.index c.requires.lexed c.in-Stopped.ensures.end) c.fault.ensures

pub returns-in-Cut-clause-fault : goal.returns-in-Cut-clause-fault
returns-in-Cut-clause-fault c =
    fault-then _ _ c.end_fault.result (include-cut c.args.source c.args.first c.requires.lexed c.in-Cut.ensures.end) c.end_fault.ensures

pub returns-in_ok-names_between-in-Whole-clause-read : goal.returns-in_ok-names_between-in-Whole-clause-read
returns-in_ok-names_between-in-Whole-clause-read c =
    include-whole c.args.source c.args.first c.in-Whole.next c.in_ok-name_at-in-Whole.field-0 c.in_ok-names_between-in-Whole.field-0 c.requires.lexed
    c.in-Whole.ensures.end c.in_ok-name_at-in-Whole.ensures c.in_ok-names_between-in-Whole.ensures
