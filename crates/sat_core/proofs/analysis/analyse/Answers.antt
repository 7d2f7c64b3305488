use Rattle.std.proofs.Common.{subst, sym, arith}
use Rattle.sat_core.specs.Clause.{PropClause}
use Rattle.sat_core.specs.Conflict.{IsTurnOf}
use Rattle.sat_core.proofs.AboutConflicts.ResolveLemmas.{analysis_of_none}
use Rattle.sat_core.proofs.AboutConflicts.ReduceLemmas.{last_marked, analysis_of_turn}
use Rattle.sat_core.proofs.analysis.analyse.Goals as goal

pub minimise-requires-clause-resolving : goal.minimise-requires-clause-resolving
minimise-requires-clause-resolving c = (rw c.in-Some.is at c.in_ok-turn.ensures.some).0

pub minimise-requires-clause-last : goal.minimise-requires-clause-last
minimise-requires-clause-last c =
    let both = rw c.in-Some.is at c.in_ok-turn.ensures.some in
    last_marked _ _ c.loop-bound.bound _ _ c.in-Some.turn both.0.marks both.1

pub returns-in-Some-clause-analysis : goal.returns-in-Some-clause-analysis
returns-in-Some-clause-analysis c =
    let both = rw c.in-Some.is at c.in_ok-turn.ensures.some in
    let r = rw (c.in_ok-minimise.ensures.start, c.in_ok-turn.ensures.start, c.loop-bound.invariant.start) at c.in_ok-minimise.ensures.reduced in
    let of = subst (λ (ls : PropClause). IsTurnOf c.args.trail.now.entries.items c.args.trail.now.slots.items ls c.loop-bound.bound c.in-Some.turn)
    (sym c.in_ok-minimise.ensures.literals) both.1 in
    analysis_of_turn _ _ _ c.args.start c.loop-bound.bound _ _ _ _ c.in-Some.turn c.requires.sound.trail
    c.loop-bound-test.true c.loop-bound.invariant.bound r of c.in_ok-list_marked.ensures

pub returns-clause-analysis : goal.returns-clause-analysis
returns-clause-analysis c =
    analysis_of_none _ _ _ c.args.start c.loop-bound.bound _ _ _ _ (omega arith) c.loop-bound.invariant.resolving c.clear.ensures.items
