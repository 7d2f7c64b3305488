use Rattle.std.proofs.Common.{ℕ, subst, sym}
use Rattle.std.specs.Global.{Vec}
use Rattle.congruence.specs.Joined.{AreSound}
use Rattle.congruence.proofs.AboutClasses.SoundLemmas.{one-by-equation, equation-between}
use Rattle.congruence.proofs.joining.join_all.Goals as goal

pub loop-number-preserved : goal.loop-number-preserved
loop-number-preserved c =
    subst (λ (v : Vec ℕ). AreSound c.args.problem.now.nodes.now c.args.problem.now.equations.now v.items) (sym c.meet.ensures)
    c.loop-number.invariant

pub join-requires-clause-left_there : goal.join-requires-clause-left_there
join-requires-clause-left_there c =
    (equation-between c.args.problem.now.nodes.now c.args.problem.now.equations.now c.loop-index.index c.requires.between c.loop-index-test.true).0

pub join-requires-clause-right_there : goal.join-requires-clause-right_there
join-requires-clause-right_there c =
    (equation-between c.args.problem.now.nodes.now c.args.problem.now.equations.now c.loop-index.index c.requires.between c.loop-index-test.true).1

pub join-requires-clause-one : goal.join-requires-clause-one
join-requires-clause-one c =
    one-by-equation c.args.problem.now.nodes.now c.args.problem.now.equations.now c.loop-index.index c.loop-index-test.true
