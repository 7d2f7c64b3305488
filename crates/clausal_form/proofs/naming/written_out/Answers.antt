use Rattle.std.proofs.Common.{ap, sym, ◌∙◌}
use Rattle.clausal_form.specs.Measure.{capped_measured}
use Rattle.clausal_form.proofs.AboutCounts.MeasureLemmas.{measured-product, none-measured, unit-first, unit-last}
use Rattle.clausal_form.proofs.naming.written_out.Goals as goal

pub returns-then-is_empty_clause-clause-clauses : goal.returns-then-is_empty_clause-clause-clauses
returns-then-is_empty_clause-clause-clauses c = unit-last c.args.second.measure _ _ c.requires.second (sym c.if-is_empty_clause.ensures)

pub returns-then-is_empty_clause-clause-measured : goal.returns-then-is_empty_clause-clause-measured
returns-then-is_empty_clause-clause-measured c =
    c.requires.first ∙ ap capped_measured (unit-last c.args.second.measure _ _ c.requires.second (sym c.if-is_empty_clause.ensures))

pub returns-then-is_empty_clause-2-clause-clauses : goal.returns-then-is_empty_clause-2-clause-clauses
returns-then-is_empty_clause-2-clause-clauses c = unit-first c.args.first.measure _ _ c.requires.first (sym c.if-is_empty_clause-2.ensures)

pub returns-then-is_empty_clause-2-clause-measured : goal.returns-then-is_empty_clause-2-clause-measured
returns-then-is_empty_clause-2-clause-measured c =
    c.requires.second ∙ ap capped_measured (unit-first c.args.first.measure _ _ c.requires.first (sym c.if-is_empty_clause-2.ensures))

pub returns-then-measure-eq0-clause-clauses : goal.returns-then-measure-eq0-clause-clauses
returns-then-measure-eq0-clause-clauses c =
    sym
    (none-measured c.in_ok-measure.measure _ (measured-product _ _ _ _ _ c.requires.first c.requires.second c.in_ok-measure.ensures) c.if-measure-eq0.true)

pub returns-then-measure-eq0-clause-measured : goal.returns-then-measure-eq0-clause-measured
returns-then-measure-eq0-clause-measured c = measured-product _ _ _ _ _ c.requires.first c.requires.second c.in_ok-measure.ensures

pub returns-clause-measured : goal.returns-clause-measured
returns-clause-measured c = measured-product _ _ _ _ _ c.requires.first c.requires.second c.in_ok-measure.ensures
