use Rattle.std.proofs.Common.{◌<◌, ◌+◌, ◌*◌, map, refl, arith, rules}
use Rattle.fol_base.specs.Tree.{tree_size, trees_size, trees_of}
use Rattle.fol_base.specs.Term.{tree_of}
use Rattle.fol_base.proofs.AboutTerms.TermLemmas.{tree_size-item}
use Rattle.given_work.proofs.AboutMeeting.OccurringLemmas.{others-then, removed-others}
use Rattle.given_work.proofs.occurring.+take_term.Goals as goal

pub take_arguments-take_term-requires : goal.take_arguments-take_term-requires
take_arguments-take_term-requires t c =
    let smaller : 2 * tree_size (tree_of c.index-arguments-index.result) < 2 * trees_size (trees_of (map tree_of c.args.arguments.now)) + 1 =
    omega (arith, tree_size-item c.args.arguments.now (map tree_of c.args.arguments.now) _ _ refl c.loop-index-test.true c.index-arguments-index.is) in
    search rules

pub take_arguments-loop-index-preserved : goal.take_arguments-loop-index-preserved
take_arguments-loop-index-preserved t c =
    others-then c.args.number c.args.terms.now c.loop-index.terms c.take_term.new.terms c.loop-index.invariant c.take_term.ensures

pub take_term-returns-in-App : goal.take_term-returns-in-App
take_term-returns-in-App t c =
    others-then c.args.number c.args.terms.now c.remove.new.self c.take_arguments.new.terms
    (removed-others c.args.number c.from.result (tree_of c.args.term.now) c.remove.result c.args.terms.now c.remove.new.self c.from.ensures
    c.remove.ensures.removed c.remove.ensures.unchanged)
    c.take_arguments.ensures

pub take_term-returns-in_default : goal.take_term-returns-in_default
take_term-returns-in_default t c =
    removed-others c.args.number c.from.result (tree_of c.args.term.now) c.remove.result c.args.terms.now c.remove.new.self c.from.ensures
    c.remove.ensures.removed c.remove.ensures.unchanged
