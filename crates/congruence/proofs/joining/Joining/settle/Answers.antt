use Rattle.std.proofs.Common.{List, ℕ, subst}
use Rattle.congruence.specs.Congruence.{class_in}
use Rattle.congruence.specs.Joined.{AreAlike}
use Rattle.congruence.proofs.AboutClasses.SoundLemmas.{one-by-signature}
use Rattle.congruence.proofs.joining.Joining.settle.Goals as goal

pub join-requires-clause-left_there : goal.join-requires-clause-left_there
join-requires-clause-left_there c = (c.in_ok-alike.ensures c.if-alike.true).left_there

pub join-requires-clause-right_there : goal.join-requires-clause-right_there
join-requires-clause-right_there c = (c.in_ok-alike.ensures c.if-alike.true).right_there

pub join-requires-clause-one : goal.join-requires-clause-one
join-requires-clause-one c =
    one-by-signature c.args.problem.now.nodes.now c.args.problem.now.equations.now c.pairs.self.classes.items c.in-Some.pair c.requires.nodes
    c.pairs.invariant
    (subst (λ (classes : List ℕ). AreAlike c.args.problem.now.nodes.now (class_in classes) c.in-Some.pair) c.as_slice.ensures.value
    (c.in_ok-alike.ensures c.if-alike.true))
