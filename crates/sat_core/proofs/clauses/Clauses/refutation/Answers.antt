use Rattle.std.proofs.Common.{List, subst}
use Rattle.sat_core.specs.Clause.{PropClause}
use Rattle.sat_core.specs.State.{AreDerived}
use Rattle.sat_core.specs.Known.{log_of}
use Rattle.sat_core.proofs.AboutConflicts.LogLemmas.{right_log}
use Rattle.sat_core.proofs.clauses.Clauses.refutation.Goals as goal

pub trimmed-requires-clause-log : goal.trimmed-requires-clause-log
trimmed-requires-clause-log c =
    right_log _ c.args.self.now.learned _
    (subst (λ (ls : List PropClause). AreDerived c.learn.new.self.inputs.now ls (log_of c.learn.new.self)) c.in_ok-learn.ensures.more c.in_ok-learn.ensures.known.derived)
