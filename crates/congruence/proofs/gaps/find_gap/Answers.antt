use Rattle.congruence.proofs.AboutClasses.GapLemmas.{gap-by-equation, gap-answered, holds-at-none}
use Rattle.congruence.proofs.gaps.find_gap.Goals as goal

pub returns-in-Some-clause-gap : goal.returns-in-Some-clause-gap
returns-in-Some-clause-gap c =
    gap-by-equation c.args.nodes.now c.args.equations.now c.args.classes.now c.in-Some.index c.requires.between c.in-Some.ensures.within
    c.in-Some.ensures.apart

pub returns-in-None-clause-gap : goal.returns-in-None-clause-gap
returns-in-None-clause-gap c =
    gap-answered c.args.nodes.now c.args.equations.now c.args.classes.now c.open_nodes.result c.requires.nodes c.requires.sound
    c.open_nodes.ensures.alike c.open_nodes.ensures.apart

pub returns-in-None-clause-contains : goal.returns-in-None-clause-contains
returns-in-None-clause-contains c = holds-at-none c.open_nodes.result _ c.in-None.ensures.none
