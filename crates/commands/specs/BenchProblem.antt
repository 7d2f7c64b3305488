-- The problems of `bench`, which no file spells: in that of number N, N implications lead from p0(z) to pN(z), with terms that an equation takes
-- back to the first.
use Rattle.std.specs.Prelude.{ℕ, ◌-◌, true, false, List, [], ◌∷◌, ◌++◌, map, codes}
use Rattle.std.specs.Fmt.{decimal}
use Rattle.std.specs.List.{range_with_len}
use Rattle.tptp_tree.specs.Term.{TermTree, variable, application, no_terms, term_then}
use Rattle.tptp_tree.specs.Formula.{implies, FormulaTree, predicate, equation, connected}
use Rattle.tptp_tree.specs.declared.formula.Formula.{Formula}
use Rattle.tptp_tree.specs.declared.formula.Formula.TheVariants.{Pred, All}
use Rattle.tptp_tree.specs.declared.problem.Annotated.{Annotated}
use Rattle.tptp_tree.specs.declared.role.Role.{Role}
use Rattle.tptp_tree.specs.declared.role.Role.TheVariants.{Axiom, Conjecture}

-- ---- terms and atoms: X, z, g(X,z), and pI of a term

abbrev pub variable_x : TermTree
variable_x = variable (codes "X")

abbrev pub constant_z : TermTree
constant_z = application (codes "z") no_terms

abbrev pub applied_g : TermTree
applied_g = application (codes "g") (term_then variable_x (term_then constant_z no_terms))

abbrev pub chain_name : ℕ → List ℕ
chain_name i = codes "p" ++ decimal i

abbrev pub chained : ℕ → TermTree → FormulaTree
chained i t = predicate (chain_name i) (term_then t no_terms)

-- ---- formulas

-- a formula in `fof` that no file has
abbrev pub bench_formula : List ℕ → Role → Formula → Annotated
bench_formula name role formula = record { name = name; role = role; clause = false; formula = formula; file = []; place = 0 }

abbrev pub each_x : FormulaTree → Formula
each_x body = All (codes "X" ∷ []) body

-- `fof(s,axiom,p0(z))`
abbrev pub first_link : Annotated
first_link = bench_formula (codes "s") Axiom (Pred (chain_name 0) (constant_z ∷ []))

-- `fof(rI,axiom,! [X] : (pJ(X) => pI(g(X,z))))`, where J is I - 1
abbrev pub link : ℕ → Annotated
link i =
    bench_formula (codes "r" ++ decimal i) Axiom (each_x (connected implies (chained (i - 1) variable_x) (chained i applied_g)))

-- `fof(u,axiom,! [X] : g(X,z) = X)`
abbrev pub back_link : Annotated
back_link = bench_formula (codes "u") Axiom (each_x (equation true applied_g variable_x))

-- `fof(c,conjecture,pN(z))`
abbrev pub last_link : ℕ → Annotated
last_link number = bench_formula (codes "c") Conjecture (Pred (chain_name number) (constant_z ∷ []))

-- the problem of a number
abbrev pub bench_formulas : ℕ → List Annotated
bench_formulas number = (first_link ∷ map link (range_with_len 1 number)) ++ back_link ∷ last_link number ∷ []
