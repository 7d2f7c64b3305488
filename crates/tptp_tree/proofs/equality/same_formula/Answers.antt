use Rattle.std.proofs.Common.{◌≡◌, subst, sym, rules}
use Rattle.std.specs.Prelude.{◌↔◌, IsTrue}
use Rattle.tptp_tree.specs.Shape.{formula_of}
use Rattle.tptp_tree.proofs.AboutTrees.EqualityLemmas.{formulas-equal}
use Rattle.tptp_tree.proofs.equality.same_formula.Goals as goal

pub returns-clause-equal : goal.returns-clause-equal
returns-clause-equal c =
    subst (λ b. IsTrue b ↔ (formula_of c.args.left.now ≡ formula_of c.args.right.now))
    (sym (search rules)) (formulas-equal (formula_of c.args.left.now) (formula_of c.args.right.now))
