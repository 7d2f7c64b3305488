use Rattle.clausal_form.proofs.AboutCounts.MeasureLemmas.{literal-measured, defining-then}
use Rattle.clausal_form.proofs.naming.define.Goals as goal

pub returns-clause-measured : goal.returns-clause-measured
returns-clause-measured c =
    defining-then _ _ _ _ _ _ _ _ c.in_ok-push-2.ensures.items c.requires.defining c.requires.part
    (literal-measured _ c.args.negated _ c.size.ensures c.one_clause.ensures) c.in_ok-clauses.ensures c.in_ok-naming.ensures
