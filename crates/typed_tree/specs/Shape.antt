-- The program's sorts, declarations and formulas in the words of the definitions.
use Rattle.std.specs.Prelude.{true, false, map, Option, None, Some}
use Rattle.tptp_tree.specs.Shape.{term_of}
use Rattle.tptp_tree.specs.Term.{terms_of}
use Rattle.tptp_tree.specs.Formula.{implies, implied, equivalent, different, nor, nand, for_all, exists_some}
use Rattle.typed_tree.specs.declared.sort.Sort.{Sort}
use Rattle.typed_tree.specs.declared.sort.Sort.TheVariants.{Individual, Named}
use Rattle.typed_tree.specs.declared.sort.Declaration.{Declaration}
use Rattle.typed_tree.specs.declared.sort.TypedVar.{TypedVar}
use Rattle.typed_tree.specs.declared.formula.TypedFormula.{TypedFormula}
use Rattle.typed_tree.specs.declared.formula.TypedFormula.TheVariants.{True, False, Pred, Equal, NotEqual, Not, And, Or, Implies, Implied, Iff, Xor, Nor, Nand, All, Ex}
use Rattle.typed_tree.specs.Sorts.{SortTree, individuals, named_sort, a_symbol, DeclarationTree}
use Rattle.typed_tree.specs.TypedFormula.{TypedVariable, TypedTree, truth, falsity, predicate, equation, negation, conjunction, disjunction, connected, quantified, trees_of}

abbrev pub sort_of : Sort → SortTree
sort_of Individual = individuals
sort_of (Named word) = named_sort word

abbrev pub variable_of : TypedVar → TypedVariable
variable_of x = record { name = x.name; sort = sort_of x.sort }

abbrev pub result_sort : Option Sort → Option SortTree
result_sort None = None
result_sort (Some s) = Some (sort_of s)

abbrev pub declaration_of : Declaration → DeclarationTree
declaration_of d = record {
  word = d.name;
  declared = a_symbol (record { arguments = map sort_of d.args; result = result_sort d.result });
}

-- the tree of a formula of the program
abbrev pub typed_of : TypedFormula → TypedTree
typed_of True = truth
typed_of False = falsity
typed_of (Pred p ts) = predicate p (terms_of ts)
typed_of (Equal s t) = equation true (term_of s) (term_of t)
typed_of (NotEqual s t) = equation false (term_of s) (term_of t)
typed_of (Not f) = negation f
typed_of (And fs) = conjunction (trees_of fs)
typed_of (Or fs) = disjunction (trees_of fs)
typed_of (Implies f g) = connected implies f g
typed_of (Implied f g) = connected implied f g
typed_of (Iff f g) = connected equivalent f g
typed_of (Xor f g) = connected different f g
typed_of (Nor f g) = connected nor f g
typed_of (Nand f g) = connected nand f g
typed_of (All xs f) = quantified for_all (map variable_of xs) f
typed_of (Ex xs f) = quantified exists_some (map variable_of xs) f
