use Rattle.std.proofs.Common.{List, None, sym, subst}
use Rattle.std.specs.Prelude.{IfOk}
use Rattle.fol_base.specs.Literal.{clause_of}
use Rattle.bank_clause.specs.declared.member.Member.{Member}
use Rattle.demodulate.specs.Simplified.{IsSimplified}
use Rattle.demodulate.specs.declared.simplifying.Simplified.{Simplified}
use Rattle.given_work.specs.Dropped.{AreDropped}
use Rattle.given_work.proofs.entries.fate_by.Goals as goal

pub returns-in-Tautology-clause-dropped : goal.returns-in-Tautology-clause-dropped
returns-in-Tautology-clause-dropped c =
    subst
    (λ (o : Simplified). IfOk c.drop_as.result (λ _. (es us ms : List Member) → AreDropped es us ms c.args.dropped.now
    → IsSimplified es us ms None (clause_of c.args.clause) o → AreDropped es us ms c.drop_as.new.dropped))
    (sym c.in-Tautology.is) c.drop_as.ensures.dropped

pub returns-in-Subsumed-clause-dropped : goal.returns-in-Subsumed-clause-dropped
returns-in-Subsumed-clause-dropped c =
    subst
    (λ (o : Simplified). IfOk c.drop_as-in-Subsumed.result (λ _. (es us ms : List Member) → AreDropped es us ms c.args.dropped.now
    → IsSimplified es us ms None (clause_of c.args.clause) o → AreDropped es us ms c.drop_as-in-Subsumed.new.dropped))
    (sym c.in-Subsumed.is) c.drop_as-in-Subsumed.ensures.dropped
