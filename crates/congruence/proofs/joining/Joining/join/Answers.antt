use Rattle.std.proofs.Common.{List, ℕ, ap, subst, sym, ◌∙◌}
use Rattle.std.specs.Global.{Vec}
use Rattle.congruence.specs.Congruence.{class_in}
use Rattle.congruence.specs.Joined.{AreSound}
use Rattle.congruence.proofs.AboutClasses.GapLemmas.{holds-at-ok}
use Rattle.congruence.proofs.AboutClasses.SoundLemmas.{sound-joined}
use Rattle.congruence.proofs.joining.Joining.join.Goals as goal

pub returns : goal.returns
returns c =
    let pair = c.smaller_first-pair.result in
    holds-at-ok _ _
    (subst (λ (v : Vec ℕ). AreSound c.args.problem.now.nodes.now c.args.problem.now.equations.now v.items) (sym c.loop-user.invariant)
    (sound-joined c.args.problem.now.nodes.now c.args.problem.now.equations.now c.args.self.now.classes.items c.relabel.new.classes.items
    c.args.pair pair c.class_of-from.result c.class_of-to.result c.requires.sound c.requires.one c.requires.left_there c.requires.right_there
    c.smaller_first-pair.ensures
    (c.class_of-from.ensures ∙ ap (λ (cs : List ℕ). class_in cs pair.left) c.as_slice.ensures.value)
    (c.class_of-to.ensures ∙ ap (λ (cs : List ℕ). class_in cs pair.right) c.as_slice-2.ensures.value)
    c.relabel.ensures))
