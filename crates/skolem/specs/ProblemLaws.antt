-- Laws that lead from the matrix of a form of its own to the clausal form of a problem.
use Rattle.std.specs.Prelude.{◌≡◌, ℕ, ◌+◌, Bool, List, [], ◌++◌, length}
use Rattle.tptp_tree.specs.Formula.{FormulaTree}
use Rattle.signature.specs.declared.symbol.Symbol.{Symbol}
use Rattle.signature.specs.Symbol.{function_symbol}
use Rattle.signature.specs.Occurrences.{formula_symbols}
use Rattle.signature.specs.Prefix.{fresh_prefix_of}
use Rattle.signature.specs.Clausal.{SymbolNumbers, Made, clauses_of, begun}
use Rattle.signature.specs.Form.{AreUnused, numbered_symbols}
use Rattle.formula_nnf.specs.NormalForm.{normal_form}
use Rattle.skolem.specs.Skolemized.{Skolemized, skolemized, skolemized_form, skolemized_symbols, AreKnown}
use Rattle.skolem.specs.MatrixClauses.{matrix_clauses}

-- The state of a problem after a form: the Skolem symbols of the form come after those that were made before it, and no name is made
-- with them.
abbrev pub made_after : Made → Made → Made
made_after m own =
    record {
      variables = own.variables;
      skolem_arities = m.skolem_arities ++ own.skolem_arities;
      naming_arities = m.naming_arities;
      defining = [];
    }

-- The symbols that are known to a form: those of the problem, and as many others as Skolem symbols were made before.
abbrev pub AreAllSymbols : SymbolNumbers → List Symbol → Made → Type 0
AreAllSymbols n others m = length (n.symbols ++ others) ≡ n.first_skolem + length m.skolem_arities

-- A form has the same matrix by itself and in its problem.
abbrev pub MatrixOfFormIsThatInProblem : Type 0
MatrixOfFormIsThatInProblem =
    (n : SymbolNumbers) (others : List Symbol) (f : FormulaTree) (m : Made)
    → AreKnown n.symbols (formula_symbols f) → AreAllSymbols n others m
    → (let own : Skolemized = skolemized_form (n.symbols ++ others) f in
    skolemized n f [] (begun m) ≡ record { matrix = own.matrix; made = made_after m own.made })

-- The clauses of a formula of a problem are those of its normal form's matrix.
abbrev pub ClausesInProblemAreThoseOfMatrix : Type 0
ClausesInProblemAreThoseOfMatrix =
    (n : SymbolNumbers) (others : List Symbol) (f : FormulaTree) (sign : Bool) (m : Made)
    → AreKnown n.symbols (formula_symbols f) → AreAllSymbols n others m
    → (let own : Skolemized = skolemized_form (n.symbols ++ others) (normal_form f sign) in
    clauses_of n f sign [] (begun m) ≡ matrix_clauses n own.matrix (made_after m own.made))

-- A normal form has no symbols but the formula's.
abbrev pub NormalFormKeepsKnownSymbols : Type 0
NormalFormKeepsKnownSymbols =
    (known : List Symbol) (f : FormulaTree) (sign : Bool)
    → AreKnown known (formula_symbols f) → AreKnown known (formula_symbols (normal_form f sign))

-- The Skolem symbols of a form are named by the numbers after those that were made before it.
abbrev pub SkolemSymbolsAreNumberedOn : Type 0
SkolemSymbolsAreNumberedOn =
    (symbols : List Symbol) (prefix arities : List ℕ) (f : FormulaTree)
    → (let known : List Symbol = symbols ++ numbered_symbols function_symbol prefix 0 arities in
    skolemized_symbols known prefix (length arities) f
    ≡ symbols ++ numbered_symbols function_symbol prefix 0 (arities ++ (skolemized_form known f).made.skolem_arities))

-- The names with a fresh prefix are unused, and so are those with numbers after the ones that were given.
abbrev pub LaterNamesAreUnused : Type 0
LaterNamesAreUnused =
    (symbols : List Symbol) (base arities : List ℕ)
    → (let prefix : List ℕ = fresh_prefix_of symbols base in
    AreUnused (symbols ++ numbered_symbols function_symbol prefix 0 arities) prefix (length arities))
