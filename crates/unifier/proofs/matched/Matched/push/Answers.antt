use Rattle.std.proofs.Common.{ap, ◌∙◌}
use Rattle.unifier.specs.Matching.{term_for}
use Rattle.unifier.proofs.AboutMatching.MatchLemmas.{NoVariableTwice-pushed}
use Rattle.unifier.proofs.matched.Matched.push.Goals as goal

pub invariant_of-self-2 : goal.invariant_of-self-2
invariant_of-self-2 c =
    NoVariableTwice-pushed _ _ _ c.in_ok-push.ensures.items c.self.invariant (ap (term_for c.args.variable) c.self.view_is ∙ c.requires)
