-- The forms and clauses of the worked examples. Symbols are those of the examples of `fol_base`.
use Rattle.std.specs.Prelude.{ℕ, true, false, List, [], ◌∷◌, codes}
use Rattle.fol_base.specs.Tree.{application, no_trees}
use Rattle.fol_base.specs.Clause.{TreeLiteral, TreeClause}
use Rattle.fol_base.specs.Examples.{x, a, f, equation, p}
use Rattle.fol_base.specs.Interpretation.{Interpretation}
use Rattle.signature.specs.Symbol.{true_symbol, function_symbol}
use Rattle.signature.specs.Form.{ClausalForm}
use Rattle.finite_models.specs.declared.flat.FlatLiteral.TheVariants.{Entry}
use Rattle.finite_models.specs.declared.flat.FlatClause.{FlatClause}

abbrev pub clause : List TreeLiteral → TreeClause
clause ls = record { literals = ls; names = [] }

-- `a != b`, where a is number 1 and b number 2
abbrev pub two_differ : ClausalForm
two_differ =
    record {
      symbols = true_symbol ∷ function_symbol (codes "a") 0 ∷ function_symbol (codes "b") 0 ∷ [];
      clauses = clause (record { positive = false; left = application 1 no_trees; right = application 2 no_trees } ∷ []) ∷ [];
      origins = 0 ∷ [];
    }

-- so many values, of which 0 is a's value and b's the last
abbrev pub ends_differ : ℕ → ℕ → Interpretation
ends_differ size last = record { size = size; rows = record { symbol = 2; arguments = []; value = last } ∷ [] }

-- `f(x) = a`: x has slot 0 and a slot 1; f has a's value at x unless a's value isn't in slot 1
abbrev pub f_is_a : TreeClause
f_is_a = clause (equation (f (x 0)) a ∷ [])

abbrev pub f_is_a_flat : FlatClause
f_is_a_flat = record { slots = 2; literals = Entry false 1 (1 ∷ []) ∷ Entry true 4 (1 ∷ 0 ∷ []) ∷ [] }

-- `p(f(x))`: f(x) has slot 1
abbrev pub p_of_f : TreeClause
p_of_f = clause (p (f (x 0)) ∷ [])

abbrev pub p_of_f_flat : FlatClause
p_of_f_flat = record { slots = 2; literals = Entry false 4 (1 ∷ 0 ∷ []) ∷ Entry true 6 (1 ∷ []) ∷ [] }
