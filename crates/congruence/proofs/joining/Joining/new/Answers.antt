use Rattle.congruence.proofs.AboutClasses.SoundLemmas.{sound-own}
use Rattle.congruence.proofs.joining.Joining.new.Goals as goal

pub returns : goal.returns
returns c =
    sound-own c.args.problem.now.nodes.now c.args.problem.now.equations.now _ c.in_ok-own_classes.ensures.count c.in_ok-own_classes.ensures.own
