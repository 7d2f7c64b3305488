use Rattle.std.proofs.Common.{subst}
use Rattle.std.specs.Prelude.{Option, MatchOption}
use Rattle.fol_base.specs.Literal.{clause_of}
use Rattle.rewriting.specs.Redex.{AreNormal}
use Rattle.rewriting.specs.Searching.{IsFoundOf, usable_by}
use Rattle.rewriting.specs.declared.searching.Found.{Found}
use Rattle.demodulate.proofs.AboutSteps.CallLemmas.{next-is}
use Rattle.demodulate.proofs.step.next_line.Goals as goal

pub returns-in_ok-line-in-Some-clause-clause-next : goal.returns-in_ok-line-in-Some-clause-clause-next
returns-in_ok-line-in-Some-clause-clause-next c =
    let by = c.args.by.now in
    let ls = (clause_of c.args.clause.now).literals in
    let found : IsFoundOf (usable_by by) ls c.in-Some.found =
    subst (λ (o : Option Found). MatchOption o (AreNormal (usable_by by) ls) (IsFoundOf (usable_by by) ls)) c.in-Some.is c.in_ok-find.ensures.found in
    next-is by.units.now by.left_out by.asserted.now (clause_of c.args.clause.now) c.in-Some.found found
    c.in-Some-clause.unit.now c.in-Some-clause.ensures.clause c.args.parent c.in_ok-line-in-Some-clause.line c.in_ok-line-in-Some-clause.ensures
    c.in-Some-clause.ensures.numbered c.literals-canonical.ensures.canonical
