use Rattle.fol_base.specs.Term.{tree_of}
use Rattle.unifier.proofs.AboutLayouts.BoundLemmas.{found-some, found-leaves, found-fits, found-fits-together}
use Rattle.unifier.proofs.unifying.unify.Goals as goal

pub returns-in-Some-clause-others : goal.returns-in-Some-clause-others
returns-in-Some-clause-others c =
    found-leaves c.args.apart (tree_of c.args.left.now) (tree_of c.args.right.now) c.of_solution.result
    (found-some c.args.apart (tree_of c.args.left.now) (tree_of c.args.right.now) _ c.in-Some.solution c.of_solution.result c.in_ok-solution.ensures
    c.in-Some.is c.of_solution.ensures)

pub returns-in-Some-clause-fits : goal.returns-in-Some-clause-fits
returns-in-Some-clause-fits c =
    found-fits c.args.apart (tree_of c.args.left.now) (tree_of c.args.right.now) c.of_solution.result
    (found-some c.args.apart (tree_of c.args.left.now) (tree_of c.args.right.now) _ c.in-Some.solution c.of_solution.result c.in_ok-solution.ensures
    c.in-Some.is c.of_solution.ensures)

pub returns-in-Some-clause-fits_together : goal.returns-in-Some-clause-fits_together
returns-in-Some-clause-fits_together c =
    found-fits-together c.args.apart (tree_of c.args.left.now) (tree_of c.args.right.now) c.of_solution.result
    (found-some c.args.apart (tree_of c.args.left.now) (tree_of c.args.right.now) _ c.in-Some.solution c.of_solution.result c.in_ok-solution.ensures
    c.in-Some.is c.of_solution.ensures)
