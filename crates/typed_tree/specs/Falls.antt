-- Each member of a list is smaller than the list, which is why a recursion down a typed formula ends.
use Rattle.std.specs.Prelude.{◌≤◌, List, [], ◌∷◌, map}
use Rattle.std.proofs.Common.{arith}
use denote.Param.Weighed.{most}
use Rattle.typed_tree.specs.TypedFormula.{typed_size, all_typed_size, trees_of}
use Rattle.typed_tree.specs.Shape.{typed_of}
use Rattle.typed_tree.specs.declared.formula.TypedFormula.{TypedFormula}
use Rattle.typed_tree.specs.declared.formula.TypedFormula.TheVariants.{True, False, Pred, Equal, NotEqual, Not, And, Or, Implies, Implied, Iff, Xor, Nor, Nand, All, Ex}
use Rattle.typed_tree.specs.declared.formula.TypedBox.TheDeep.{deep-TypedFormula}

pub deep-TypedFormula-≤ : (f : TypedFormula) → deep-TypedFormula f ≤ typed_size (typed_of f)
deep-TypedFormula-≤ True = omega arith
deep-TypedFormula-≤ False = omega arith
deep-TypedFormula-≤ (Pred p ts) = omega arith
deep-TypedFormula-≤ (Equal s t) = omega arith
deep-TypedFormula-≤ (NotEqual s t) = omega arith
deep-TypedFormula-≤ (Not f) = omega arith
deep-TypedFormula-≤ (And fs) = omega arith
deep-TypedFormula-≤ (Or fs) = omega arith
deep-TypedFormula-≤ (Implies f g) = omega arith
deep-TypedFormula-≤ (Implied f g) = omega arith
deep-TypedFormula-≤ (Iff f g) = omega arith
deep-TypedFormula-≤ (Xor f g) = omega arith
deep-TypedFormula-≤ (Nor f g) = omega arith
deep-TypedFormula-≤ (Nand f g) = omega arith
deep-TypedFormula-≤ (All xs f) = omega arith
deep-TypedFormula-≤ (Ex xs f) = omega arith

pub most-deep-TypedFormula-≤ : (fs : List TypedFormula) → most deep-TypedFormula fs ≤ all_typed_size (trees_of (map typed_of fs))
most-deep-TypedFormula-≤ [] = omega arith
most-deep-TypedFormula-≤ (f ∷ fs) = omega (arith, deep-TypedFormula-≤ f, most-deep-TypedFormula-≤ fs)
