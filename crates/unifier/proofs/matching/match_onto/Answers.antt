use Rattle.std.proofs.Common.{ap, ◌∙◌, subst, sym}
use Rattle.unifier.specs.Laws.{AreFunctionPairs}
use Rattle.unifier.specs.Matching.{are_below}
use Rattle.unifier.proofs.AboutMatching.MatchLemmas.{extended-found, extended-none}
use Rattle.unifier.proofs.matching.match_onto.Goals as goal

pub returns-then-branch-clause-found : goal.returns-then-branch-clause-found
returns-then-branch-clause-found c = extended-found _ _ _ _ _ _ c.in_ok-found.ensures c.in_ok-extend.ensures.found c.if-branch.true

pub returns-clause-found : goal.returns-clause-found
returns-clause-found c = extended-none _ _ _ _ _ _ c.in_ok-found.ensures c.in_ok-extend.ensures.found c.if-branch.false

pub returns-then-branch-clause-below : goal.returns-then-branch-clause-below
returns-then-branch-clause-below c count below all =
    c.in_ok-extend.ensures.below count below (ap (are_below count) c.in_ok-found.ensures ∙ all)

pub returns-then-branch-clause-function_terms : goal.returns-then-branch-clause-function_terms
returns-then-branch-clause-function_terms c p kinds all =
    c.in_ok-extend.ensures.function_terms p kinds (subst (AreFunctionPairs p) (sym c.in_ok-found.ensures) all)
