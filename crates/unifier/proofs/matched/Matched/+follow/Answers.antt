use Rattle.std.proofs.Common.{◌≡◌, map, refl, sym, ◌∙◌, arith}
use Rattle.fol_base.specs.Term.{tree_of}
use Rattle.fol_base.proofs.AboutTerms.TermLemmas.{tree_size-item, length-trees}
use Rattle.unifier.proofs.AboutMatching.MatchLemmas.{walk_all-lengths}
use Rattle.unifier.proofs.matched.Matched.+follow.Goals as goal

pub follow_all-returns-then-patterns-targets-clause-found : goal.follow_all-returns-then-patterns-targets-clause-found
follow_all-returns-then-patterns-targets-clause-found t c =
    walk_all-lengths c.args.self.now (map tree_of c.args.patterns.now) (map tree_of c.args.targets.now)
    (λ e. c.if-patterns-targets.true (sym (length-trees c.args.patterns.now) ∙ e ∙ length-trees c.args.targets.now))

pub follow_all-follow-requires : goal.follow_all-follow-requires
follow_all-follow-requires t c =
    (omega (arith, tree_size-item _ _ _ _ (let e : map tree_of c.args.patterns.now ≡ map tree_of c.args.patterns.now = refl in e) c.loop-index-test.true c.index-patterns-index.is, c.decreases), tt)
