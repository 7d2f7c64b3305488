-- The symbols of the worked examples. Their numbers rise in the order a, b, c, f, g, p, q, r; the last three are predicates.
use Rattle.std.specs.Prelude.{ℕ, zero, suc, Bool, true, ◌||◌, ◌==◌, nat_le, if◌then◌else◌, List, [], ◌∷◌, refl}
use Rattle.fol_base.specs.Tree.{Tree, variable, application, no_trees, tree_then, true_tree}
use Rattle.fol_base.specs.Instance.{Substitution}
use Rattle.fol_base.specs.Clause.{TreeLiteral, TreeClause}
use Rattle.fol_base.specs.Symbols.{FunctionSymbol, FunctionSymbols}
use Rattle.fol_base.specs.WellFormed.{SymbolUse}
use Rattle.fol_base.specs.Interpretation.{Interpretation, Row}

abbrev pub x : ℕ → Tree
x v = variable v

abbrev pub a : Tree
a = application 1 no_trees

abbrev pub b : Tree
b = application 2 no_trees

abbrev pub c : Tree
c = application 3 no_trees

abbrev pub f : Tree → Tree
f t = application 4 (tree_then t no_trees)

abbrev pub f₂ : Tree → Tree → Tree
f₂ t u = application 4 (tree_then t (tree_then u no_trees))

abbrev pub g : Tree → Tree
g t = application 5 (tree_then t no_trees)

abbrev pub equation : Tree → Tree → TreeLiteral
equation t u = record { positive = true; left = t; right = u }

-- the atoms p(t), q(t) and q(t, u)
abbrev pub p : Tree → TreeLiteral
p t = equation (application 6 (tree_then t no_trees)) true_tree

abbrev pub q : Tree → TreeLiteral
q t = equation (application 7 (tree_then t no_trees)) true_tree

abbrev pub q₂ : Tree → Tree → TreeLiteral
q₂ t u = equation (application 7 (tree_then t (tree_then u no_trees))) true_tree

-- the nullary atom r
abbrev pub r : TreeLiteral
r = equation (application 8 no_trees) true_tree

abbrev pub is_predicate : ℕ → Bool
is_predicate symbol = (symbol == 6) || ((symbol == 7) || (symbol == 8))

-- a, b and f with one argument
abbrev pub symbols : List FunctionSymbol
symbols =
    record { number = 1; arity = 0 }
    ∷ record { number = 2; arity = 0 }
    ∷ record { number = 4; arity = 1 }
    ∷ []

-- a predicate among them
abbrev pub with_predicate : List FunctionSymbol
with_predicate = record { number = 6; arity = 1 } ∷ symbols

-- f with two numbers of arguments
abbrev pub with_two_arities : List FunctionSymbol
with_two_arities = record { number = 4; arity = 2 } ∷ symbols

abbrev pub functions : FunctionSymbols is_predicate
functions = record { symbols = symbols; functions_alone = refl; one_arity = refl; constant = refl }

-- the examples' symbols as they are used: a, b and c have no argument, f, g, p and q one, r none
abbrev pub use_of_symbols : SymbolUse
use_of_symbols = record { is_predicate = is_predicate; arity = λ symbol. if (symbol == 0 || nat_le symbol 3) || symbol == 8 then 0 else 1 }

-- a row at the value 0
abbrev pub row : ℕ → ℕ → Row
row symbol value = record { symbol = symbol; arguments = 0 ∷ []; value = value }

-- each variable becomes a
abbrev pub all_a : Substitution
all_a v = a

abbrev pub all_b : Substitution
all_b v = b

-- each variable becomes f(f(a))
abbrev pub all_towers : Substitution
all_towers v = f (f a)

-- two renamings whose variables differ
abbrev pub even : ℕ → ℕ
even zero = zero
even (suc v) = suc (suc (even v))

abbrev pub odd : ℕ → ℕ
odd v = suc (even v)

-- the variable 0 becomes that tree, and the others are renamed
abbrev pub first_is : Tree → (ℕ → ℕ) → Substitution
first_is t rename zero = t
first_is t rename (suc v) = variable (rename v)

-- the variable 0 becomes a, and the others stay
abbrev pub first_is_a : Substitution
first_is_a zero = a
first_is_a (suc v) = variable (suc v)

-- a clause without names
abbrev pub clause : List TreeLiteral → TreeClause
clause ls = record { literals = ls; names = [] }

-- two values; a is 0 and b is 1; p is true of 0 alone
abbrev pub p_of_a_alone : Interpretation
p_of_a_alone = record {
  size = 2;
  rows =
      record { symbol = 2; arguments = []; value = 1 }
      ∷ record { symbol = 6; arguments = 0 ∷ []; value = 1 }
      ∷ [];
}

-- two values, and p is true of both
abbrev pub p_of_each : Interpretation
p_of_each = record {
  size = 2;
  rows =
      record { symbol = 6; arguments = 0 ∷ []; value = 1 }
      ∷ record { symbol = 6; arguments = 1 ∷ []; value = 1 }
      ∷ [];
}
