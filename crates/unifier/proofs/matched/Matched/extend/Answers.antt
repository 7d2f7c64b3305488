use Rattle.std.proofs.Common.{take, ap, refl, ◌∙◌}
use Rattle.fol_base.specs.Term.{tree_of}
use Rattle.unifier.proofs.AboutMatching.MatchLemmas.{answer-below, extended, not-extended}
use Rattle.unifier.proofs.AboutLayouts.KindLemmas.{answer-functions}
use Rattle.unifier.proofs.matched.Matched.extend.Goals as goal

pub returns-in-Ok-true-clause-found : goal.returns-in-Ok-true-clause-found
returns-in-Ok-true-clause-found c =
    extended c.args.self.now c.follow.new.self (tree_of c.args.pattern.now) (tree_of c.args.target.now) c.in-Ok-true.field-0
    c.in-Ok-true.ensures.found c.in-Ok-true.field-0-test

pub returns-in-Ok-true-clause-below : goal.returns-in-Ok-true-clause-below
returns-in-Ok-true-clause-below c =
    answer-below c.args.self.now c.args.self.now c.follow.new.self (tree_of c.args.pattern.now) (tree_of c.args.target.now) c.in-Ok-true.field-0
    refl c.in-Ok-true.ensures.found c.in-Ok-true.field-0-test

pub returns-in-Ok-true-clause-function_terms : goal.returns-in-Ok-true-clause-function_terms
returns-in-Ok-true-clause-function_terms c =
    answer-functions c.args.self.now c.args.self.now c.follow.new.self (tree_of c.args.pattern.now) (tree_of c.args.target.now) c.in-Ok-true.field-0
    refl c.in-Ok-true.ensures.found c.in-Ok-true.field-0-test

pub returns-in-Ok-false-clause-found : goal.returns-in-Ok-false-clause-found
returns-in-Ok-false-clause-found c =
    not-extended c.args.self.now c.follow.new.self c.cut.new.self (tree_of c.args.pattern.now) (tree_of c.args.target.now) c.in-Ok-false.field-0
    c.in-Ok-false.ensures.found c.in-Ok-false.field-0-test
    (c.cut.ensures ∙ ap (λ n. take n c.follow.new.self) c.len-count.ensures ∙ c.follow.ensures.grows)
