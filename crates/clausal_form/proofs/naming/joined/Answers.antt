use Rattle.std.proofs.Common.{ap, ◌∙◌}
use Rattle.clausal_form.specs.Measure.{capped_measured}
use Rattle.clausal_form.proofs.AboutCounts.MeasureLemmas.{measured-sum, none-first, none-last}
use Rattle.clausal_form.proofs.naming.joined.Goals as goal

pub returns-then-second-eq0-clause-clauses : goal.returns-then-second-eq0-clause-clauses
returns-then-second-eq0-clause-clauses c = none-last c.args.second.measure _ _ c.requires.second c.if-second-eq0.true

pub returns-then-second-eq0-clause-measured : goal.returns-then-second-eq0-clause-measured
returns-then-second-eq0-clause-measured c =
    c.requires.first ∙ ap capped_measured (none-last c.args.second.measure _ _ c.requires.second c.if-second-eq0.true)

pub returns-then-first-eq0-clause-clauses : goal.returns-then-first-eq0-clause-clauses
returns-then-first-eq0-clause-clauses c = none-first c.args.first.measure _ _ c.requires.first c.if-first-eq0.true

pub returns-then-first-eq0-clause-measured : goal.returns-then-first-eq0-clause-measured
returns-then-first-eq0-clause-measured c =
    c.requires.second ∙ ap capped_measured (none-first c.args.first.measure _ _ c.requires.first c.if-first-eq0.true)

pub returns-clause-measured : goal.returns-clause-measured
returns-clause-measured c = measured-sum _ _ _ _ _ c.requires.first c.requires.second c.in_ok-measure.ensures
