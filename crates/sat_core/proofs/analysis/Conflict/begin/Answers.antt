use Rattle.std.proofs.Common.{subst, ◌∙◌}
use Rattle.sat_core.specs.Clause.{PropClause}
use Rattle.sat_core.specs.Conflict.{AddsOthers}
use Rattle.std.specs.Prelude.{None}
use Rattle.sat_core.proofs.AboutConflicts.ResolveLemmas.{begun}
use Rattle.sat_core.proofs.analysis.Conflict.begin.Goals as goal

pub returns-clause-resolving : goal.returns-clause-resolving
returns-clause-resolving c =
    rw (c.see.ensures.links, c.clear-2.ensures.items)
    (begun _ _ _ c.args.start _ _ c.literals-literals.result.now c.requires.sound.trail c.requires.false_clause
    c.in_ok-mark_others.ensures.marks (c.in_ok-mark_others.ensures.names ∙ c.clear.ensures.names ∙ c.requires.names)
    c.literals-literals.ensures
    (subst (λ (x : PropClause). AddsOthers c.literals-literals.result.now None x c.mark_others.new.marks.literals.items) c.clear.ensures.empty c.in_ok-mark_others.ensures.adds))
