-- Laws of ground lists.
use Rattle.std.specs.Prelude.{ℕ, Bool, List, All, Contains, IsTrue, IsFalse}
use Rattle.fol_base.specs.Tree.{Tree}
use Rattle.fol_base.specs.Clause.{TreeClause}
use Rattle.fol_base.specs.Symbols.{FunctionSymbols}
use Rattle.fol_base.specs.Ground.{ground_over}
use Rattle.fol_base.specs.Entails.{IsRefuted}
use Rattle.fol_base.specs.Covered.{InstanceOf}
use Rattle.kernel_steps.specs.Derivation.{IsDerivation, IsRefutation}
use Rattle.kernel_steps.specs.Soundness.{BindsOver}
use Rattle.kernel_steps.specs.declared.step.Line.{Line}
use Rattle.herbrand_list.specs.GroundList.{any_names, ground_list, first_constant}

-- no interpretation makes the ground list of a refutation without names true, whatever constant stands in for free variables
abbrev pub GroundListsAreRefuted : Type 0
GroundListsAreRefuted =
    (is_predicate : ℕ → Bool) (constant : Tree) (form : List TreeClause) (lines : List Line)
    → IsRefutation form lines → IsFalse (any_names lines) → IsRefuted is_predicate (ground_list constant lines)

-- each entry of the ground list of a derivation is a ground instance of a clause of the form, where the bindings and the constant are
-- over the function symbols
abbrev pub GroundListsAreInstances : Type 0
GroundListsAreInstances =
    (is_predicate : ℕ → Bool) (functions : FunctionSymbols is_predicate) (constant : Tree) (form : List TreeClause) (lines : List Line)
    → IsTrue (ground_over functions.symbols constant) → BindsOver functions.symbols lines → IsDerivation form lines
    → All (InstanceOf functions (Contains form)) (ground_list constant lines)

-- the first constant of function symbols is a ground term over them
abbrev pub FirstConstantsAreGround : Type 0
FirstConstantsAreGround =
    (is_predicate : ℕ → Bool) (functions : FunctionSymbols is_predicate)
    → IsTrue (ground_over functions.symbols (first_constant functions.symbols))
