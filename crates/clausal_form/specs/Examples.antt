-- The matrices of the worked examples, and the state before a formula.
use Rattle.std.specs.Prelude.{ℕ, true, List, [], ◌∷◌, map}
use Rattle.fol_base.specs.Tree.{application, no_trees}
use Rattle.fol_base.specs.Clause.{TreeLiteral}
use Rattle.signature.specs.Clausal.{Made, atom_literal}
use Rattle.skolem.specs.Matrix.{MatrixTree, literal, conjunction, disjunction, matrices_of}

-- the proposition of a symbol
abbrev pub proposition : ℕ → TreeLiteral
proposition symbol = atom_literal true (application symbol no_trees)

abbrev pub all_of : List ℕ → MatrixTree
all_of symbols = conjunction (matrices_of (map (λ s. literal (proposition s)) symbols))

abbrev pub one_of : List MatrixTree → MatrixTree
one_of ms = disjunction 0 (matrices_of ms)

-- one Skolem constant was made so far
abbrev pub one_skolem_symbol_made : Made
one_skolem_symbol_made = record { variables = 0; skolem_arities = 0 ∷ []; naming_arities = []; defining = [] }
