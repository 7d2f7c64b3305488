use Rattle.std.proofs.Common.{ap, sym, ◌∙◌, true≢false}
use Rattle.sat_core.specs.Clause.{clauses_true, valuation_of}
use Rattle.sat_core.proofs.AboutAnswers.ModelLemmas.{clauses-agree}
use Rattle.sat_core.proofs.solver.solve_from.Goals as goal

-- the values make some clause false, since those that were given, extended by false, do
pub returns-clause-holds : goal.returns-clause-holds
returns-clause-holds c same =
    absurd (true≢false (sym
    (sym c.if-are_true.false
    ∙ c.are_true.ensures
    ∙ ap (λ ts. clauses_true (valuation_of ts) c.args.clauses.now) c.as_slice.ensures
    ∙ clauses-agree c.args.names (valuation_of c.in_ok-truths.truths) (valuation_of c.args.first.now) c.args.clauses.now
    c.in_ok-truths.ensures.values c.requires
    ∙ same)))
