use Rattle.std.proofs.Common.{arith}
use Rattle.fol_base.specs.Tree.{tree_variables}
use Rattle.fol_base.specs.Term.{tree_of}
use Rattle.fol_base.proofs.AboutTerms.VariableLemmas.{bound_of-append}
use Rattle.fol_base.proofs.literal_ref.LiteralRef.variable_bound.Goals as goal

pub returns-clause-value : goal.returns-clause-value
returns-clause-value c =
    omega (arith, bound_of-append (tree_variables (tree_of c.args.self.left.now)) (tree_variables (tree_of c.args.self.right.now)))
