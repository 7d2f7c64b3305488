use Rattle.std.proofs.Common.{List, refl, ap, ap₂, ◌∙◌}
use Rattle.fol_base.specs.Tree.{Tree, trees_of}
use Rattle.fol_base.specs.Instance.{instances}
use Rattle.fol_base.specs.Order.{trees_greater}
use Rattle.fol_base.specs.Term.{tree_of}
use Rattle.unifier.specs.Matching.{by_pairs}
use Rattle.rewriting.proofs.AboutSearches.DescentLemmas.{variable-below, heads-below, arguments-below}
use Rattle.rewriting.proofs.descent.differs_below.Goals as goal

pub returns-in-Var : goal.returns-in-Var
returns-in-Var c =
    variable-below (tree_of c.args.old.now) _ c.in-Var.field-0 (ap tree_of c.in-Var.is) c.requires.descends.0

pub returns-then-symbol-other : goal.returns-then-symbol-other
returns-then-symbol-other c =
    heads-below (tree_of c.args.old.now) (tree_of c.args.new.now) c.in-App.symbol c.in-App-new.other (trees_of c.in-App.ones) (trees_of c.in-App-new.others)
    (by_pairs c.args.terms.now) _ (ap tree_of c.in-App.is) (ap tree_of c.in-App-new.is) c.if-symbol-other.true c.requires.descends.0 c.requires.descends.1 refl

pub returns-else-symbol-other : goal.returns-else-symbol-other
returns-else-symbol-other c =
    arguments-below (tree_of c.args.old.now) (tree_of c.args.new.now) c.in-App.symbol c.in-App-new.other (trees_of c.in-App.ones) (trees_of c.in-App-new.others)
    (by_pairs c.args.terms.now) _ (ap tree_of c.in-App.is) (ap tree_of c.in-App-new.is) c.if-symbol-other.false c.requires.descends.0 c.requires.descends.1
    (c.is_first_smaller.ensures
    ∙ ap₂ (λ (xs ys : List Tree). trees_greater (trees_of xs) (instances (by_pairs c.args.terms.now) (trees_of ys)))
    c.as_slice-in-App-new.ensures c.as_slice.ensures)
