use Rattle.std.proofs.Common.{List, sym, subst}
use Rattle.fol_base.specs.Tree.{tree_variables}
use Rattle.fol_base.specs.Term.{tree_of}
use Rattle.fol_base.specs.declared.clause.Side.TheVariants.{Right}
use Rattle.unifier.specs.declared.layout.Place.{Place}
use Rattle.unifier.specs.Layout.{HavePlaces}
use Rattle.unifier.proofs.AboutClasses.CodeLemmas.{left-have-places, right-have-places}
use Rattle.unifier.proofs.AboutEquations.UnifyLemmas.{found-answer}
use Rattle.unifier.proofs.solving.unify_by_classes.Goals as goal

pub lay_term-requires-clause-places : goal.lay_term-requires-clause-places
lay_term-requires-clause-places c =
    left-have-places c.args.apart (tree_of c.args.left.now) (tree_of c.args.right.now) c.in_ok-layout.layout c.in_ok-layout.ensures

pub lay_term-requires-2-clause-places : goal.lay_term-requires-2-clause-places
lay_term-requires-2-clause-places c =
    let P : List Place → Type 0 = λ ps. HavePlaces ps c.args.apart Right (tree_variables (tree_of c.args.right.now)) in
    subst P (sym c.in_ok-first.ensures.places)
    (right-have-places c.args.apart (tree_of c.args.left.now) (tree_of c.args.right.now) c.in_ok-layout.layout c.in_ok-layout.ensures)

pub returns : goal.returns
returns c =
    found-answer _ c.in_ok-layout.layout c.lay_term.new.self c.lay_term-2.new.self c.args.apart c.in_ok-first.first c.in_ok-second.second
    (tree_of c.args.left.now) (tree_of c.args.right.now) c.in_ok-layout.ensures c.in_ok-first.ensures c.in_ok-second.ensures c.solve.ensures
