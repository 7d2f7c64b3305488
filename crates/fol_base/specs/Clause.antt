-- Literals and clauses over trees.
use mathlib.Core.Bool.{beq}
use Rattle.std.specs.Prelude.{ℕ, ◌+◌, Bool, true, false, ◌&&◌, List, [], ◌∷◌, ◌++◌, map, flat_map, sum_by, All}
use Rattle.plain_types.specs.declared.sequence.NameLit.{NameLit}
use Rattle.plain_types.specs.Names.{same_name}
use Rattle.fol_base.specs.Tree.{Tree, tree_size, tree_eq, tree_variables, VariablesBelow}
use Rattle.fol_base.specs.Instance.{Substitution, instance}

-- a positive or negated equation
pub record TreeLiteral : Type 0 where
  pub positive : Bool
  pub left : Tree
  pub right : Tree

-- the ordinary literals, and the signed names of split-off parts
pub record TreeClause : Type 0 where
  pub literals : List TreeLiteral
  pub names : List NameLit

-- the literal with the substitution applied to both sides
abbrev pub literal_instance : Substitution → TreeLiteral → TreeLiteral
literal_instance σ l = record { positive = l.positive; left = instance σ l.left; right = instance σ l.right }

-- the clause with the substitution applied to each literal; its names stay
abbrev pub clause_instance : Substitution → TreeClause → TreeClause
clause_instance σ c = record { literals = map (literal_instance σ) c.literals; names = c.names }

-- equal signs, equal left sides and equal right sides
abbrev pub literal_eq : TreeLiteral → TreeLiteral → Bool
literal_eq l k = beq l.positive k.positive && tree_eq l.left k.left && tree_eq l.right k.right

-- two lists of equal length with equal literals at equal places
abbrev pub literals_eq : List TreeLiteral → List TreeLiteral → Bool
literals_eq [] [] = true
literals_eq [] (k ∷ ks) = false
literals_eq (l ∷ ls) [] = false
literals_eq (l ∷ ls) (k ∷ ks) = literal_eq l k && literals_eq ls ks

-- two lists of equal length with equal signed names at equal places
abbrev pub names_eq : List NameLit → List NameLit → Bool
names_eq [] [] = true
names_eq [] (m ∷ ms) = false
names_eq (n ∷ ns) [] = false
names_eq (n ∷ ns) (m ∷ ms) = same_name n m && names_eq ns ms

-- equal literals and equal names, each in order
abbrev pub clause_eq : TreeClause → TreeClause → Bool
clause_eq c d = literals_eq c.literals d.literals && names_eq c.names d.names

-- the occurrences of symbols and variables in both sides: f(X0) = a has size 3
abbrev pub literal_size : TreeLiteral → ℕ
literal_size l = tree_size l.left + tree_size l.right

-- the sizes of all literals together; names count nothing
abbrev pub clause_size : TreeClause → ℕ
clause_size c = sum_by literal_size c.literals

-- the variables of the left side, then those of the right side, with repetitions
abbrev pub literal_variables : TreeLiteral → List ℕ
literal_variables l = tree_variables l.left ++ tree_variables l.right

-- the variables of all literals in order, with repetitions
abbrev pub clause_variables : TreeClause → List ℕ
clause_variables c = flat_map literal_variables c.literals

-- each variable of both sides has a number below n
abbrev pub LiteralVariablesBelow : ℕ → TreeLiteral → Type 0
LiteralVariablesBelow n l = VariablesBelow n l.left × VariablesBelow n l.right

-- each variable of all literals has a number below n
abbrev pub ClauseVariablesBelow : ℕ → TreeClause → Type 0
ClauseVariablesBelow n c = All (LiteralVariablesBelow n) c.literals
