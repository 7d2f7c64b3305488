use Rattle.std.proofs.Common.{Option, subst}
use Rattle.std.specs.Prelude.{IfSome}
use Rattle.fol_base.specs.Tree.{Tree}
use Rattle.fol_base.specs.Term.{tree_of}
use Rattle.unifier.specs.declared.solution.Solution.{Solution}
use Rattle.unifier.specs.Agreeing.{AreForced}
use Rattle.unifier.specs.Bindings.{IsFound}
use Rattle.unifier.specs.Solution.{solved_form}
use Rattle.unifier.proofs.AboutClasses.FoundLemmas.{forced-from-none, clashed-unified}
use Rattle.unifier.proofs.attempt.unify_by_equations.Goals as goal

pub returns-in-Some : goal.returns-in-Some
returns-in-Some c =
    let P : Option Solution → Type 0 =
    λ o. IfSome o (λ solution. (s t : Tree) → AreForced c.args.apart c.walk.new.self.equations s t → IsFound c.args.apart s t (solved_form solution)) in
    subst P c.in-Some.is c.in_ok-solution-in-Agreed.ensures (tree_of c.args.left.now) (tree_of c.args.right.now)
    (forced-from-none c.args.apart c.new-walk.result.equations c.walk.new.self.equations (tree_of c.args.left.now) (tree_of c.args.right.now)
    c.new-walk.ensures c.in-Agreed.ensures)

pub returns-in-Clashed : goal.returns-in-Clashed
returns-in-Clashed c =
    clashed-unified c.args.apart c.new-walk.result.equations c.walk.new.self.equations (tree_of c.args.left.now) (tree_of c.args.right.now)
    c.new-walk.ensures c.in-Clashed.ensures
