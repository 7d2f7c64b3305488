-- Each member of a list is smaller than the list, which is why a recursion down a normal form ends.
use Rattle.std.specs.Prelude.{◌≤◌, true, false, List, [], ◌∷◌, map}
use Rattle.std.proofs.Common.{arith}
use denote.Param.Weighed.{most}
use Rattle.tptp_tree.specs.Formula.{formula_size, formulas_size, formulas_of}
use Rattle.formula_nnf.specs.Shape.{nnf_tree}
use Rattle.formula_nnf.specs.declared.form.Nnf.{Nnf}
use Rattle.formula_nnf.specs.declared.form.Nnf.TheVariants.{True, False, Pred, Equal, And, Or, All, Ex}
use Rattle.formula_nnf.specs.declared.form.NnfBox.TheDeep.{deep-Nnf}

pub deep-Nnf-≤ : (f : Nnf) → deep-Nnf f ≤ formula_size (nnf_tree f)
deep-Nnf-≤ True = omega arith
deep-Nnf-≤ False = omega arith
deep-Nnf-≤ (Pred true p ts) = omega arith
deep-Nnf-≤ (Pred false p ts) = omega arith
deep-Nnf-≤ (Equal positive s t) = omega arith
deep-Nnf-≤ (And fs) = omega arith
deep-Nnf-≤ (Or fs) = omega arith
deep-Nnf-≤ (All xs f) = omega arith
deep-Nnf-≤ (Ex xs f) = omega arith

pub most-deep-Nnf-≤ : (fs : List Nnf) → most deep-Nnf fs ≤ formulas_size (formulas_of (map nnf_tree fs))
most-deep-Nnf-≤ [] = omega arith
most-deep-Nnf-≤ (f ∷ fs) = omega (arith, deep-Nnf-≤ f, most-deep-Nnf-≤ fs)
