-- Finite interpretations, and the truth of literals and clauses in one (Tarski 1936; equality is sameness of values).
use Rattle.std.specs.Prelude.{◌≡◌, ℕ, ◌≤◌, ◌<◌, Bool, not, ◌&&◌, ◌==◌, nat_lt, if◌then◌else◌, List, [], ◌∷◌, Some, IsTrue}
use Rattle.std.specs.List.{list_any, list_all}
use lib.Pointwise.{pointwise}
use Rattle.fol_base.specs.Tree.{Tree, variable, application, Trees, no_trees, tree_then, true_symbol}
use Rattle.fol_base.specs.Instance.{Substitution, instance}
use Rattle.fol_base.specs.Place.{subterm, replaced}
use Rattle.fol_base.specs.Clause.{TreeLiteral, TreeClause}
use Rattle.fol_base.specs.Ground.{GroundClause, is_ground_clause, literals_instance}

-- one entry of a table: the value of the symbol at these arguments
pub record Row : Type 0 where
  pub symbol : ℕ
  pub arguments : List ℕ
  pub value : ℕ

-- how many values there are, 0 and up, and a table
pub record Interpretation : Type 0 where
  pub size : ℕ
  pub rows : List Row

-- a predicate's value is 0 for false or 1 for true, a function's is below the size
abbrev pub row_in_range : (ℕ → Bool) → ℕ → Row → Bool
row_in_range is_predicate size r = nat_lt r.value (if is_predicate r.symbol then 2 else size)

-- the test says which symbols are predicates; the others are functions
pub record IsInterpretation (is_predicate : ℕ → Bool) (i : Interpretation) : Type 0 where
  pub has_value : 1 ≤ i.size
  pub rows_in_range : IsTrue (list_all (row_in_range is_predicate i.size) i.rows)

-- whether the row is the table's entry for the symbol f at these argument values
abbrev pub is_row_of : ℕ → List ℕ → Row → Bool
is_row_of f values r = (r.symbol == f) && pointwise ◌==◌ r.arguments values

-- the first row counts, and where none stands the value is 0
abbrev pub table_value : List Row → ℕ → List ℕ → ℕ
table_value [] f values = 0
table_value (r ∷ rows) f values = if is_row_of f values r then r.value else table_value rows f values

-- `$true` has the value 1, whatever the table has
abbrev pub symbol_value : Interpretation → ℕ → List ℕ → ℕ
symbol_value i f values = if f == true_symbol then 1 else table_value i.rows f values

-- the values of variables
abbrev pub Assignment : Type 0
Assignment = ℕ → ℕ

-- the value of a tree, or the values of a list of trees, where the variables have the values of ρ
abbrev mutual
  pub tree_value : Interpretation → Assignment → Tree → ℕ
  tree_value i ρ (variable v) = ρ v
  tree_value i ρ (application f ts) = symbol_value i f (trees_values i ρ ts)

  pub trees_values : Interpretation → Assignment → Trees → List ℕ
  trees_values i ρ no_trees = []
  trees_values i ρ (tree_then t ts) = tree_value i ρ t ∷ trees_values i ρ ts

-- a positive literal is true where its sides have one value, a negative one where they have two
abbrev pub sides_true : Bool → ℕ → ℕ → Bool
sides_true positive v w = if positive then v == w else not (v == w)

-- the truth of a literal where its variables have the values of ρ
abbrev pub literal_true_under : Interpretation → Assignment → TreeLiteral → Bool
literal_true_under i ρ l = sides_true l.positive (tree_value i ρ l.left) (tree_value i ρ l.right)

-- the truth of a clause where its variables have the values of ρ: one of its literals is true
abbrev pub literals_true_under : Interpretation → Assignment → List TreeLiteral → Bool
literals_true_under i ρ ls = list_any (literal_true_under i ρ) ls

-- each variable has a value of the interpretation
abbrev pub HasValues : Interpretation → Assignment → Type 0
HasValues i ρ = (v : ℕ) → ρ v < i.size

-- a clause holds where it is true whatever values its variables have
abbrev pub HoldsIn : Interpretation → TreeClause → Type 0
HoldsIn i c = (ρ : Assignment) → HasValues i ρ → IsTrue (literals_true_under i ρ c.literals)

-- the assignment used for ground literals and clauses: they have no variables, so any would do
abbrev pub no_values : Assignment
no_values v = 0

-- the truth of a ground literal
abbrev pub literal_true : Interpretation → TreeLiteral → Bool
literal_true i l = literal_true_under i no_values l

-- the truth of a ground clause: one of its literals is true
abbrev pub clause_true : Interpretation → GroundClause → Bool
clause_true i c = literals_true_under i no_values c

-- a list of clauses is true where each of them is
abbrev pub clauses_true : Interpretation → List GroundClause → Bool
clauses_true i cs = list_all (clause_true i) cs

-- ---- laws

-- congruence: a subterm replaced by one of equal value keeps the value of the whole
abbrev pub CongruenceOfValues : Type 0
CongruenceOfValues =
    (i : Interpretation) (ρ : Assignment) (place : List ℕ) (whole old new made : Tree)
    → subterm place whole ≡ Some old → replaced place new whole ≡ Some made → tree_value i ρ new ≡ tree_value i ρ old
    → tree_value i ρ made ≡ tree_value i ρ whole

-- the value of an instance is that of the tree, where each variable has the value of the tree put in for it
abbrev pub ValuesOfInstances : Type 0
ValuesOfInstances =
    (i : Interpretation) (ρ : Assignment) (σ : Substitution) (t : Tree)
    → tree_value i ρ (instance σ t) ≡ tree_value i (λ v. tree_value i ρ (σ v)) t

-- the truth of an instance's literals is that of the literals, where each variable has the value of the tree put in for it
abbrev pub TruthOfInstances : Type 0
TruthOfInstances =
    (i : Interpretation) (ρ : Assignment) (σ : Substitution) (ls : List TreeLiteral)
    → literals_true_under i ρ (literals_instance σ ls) ≡ literals_true_under i (λ v. tree_value i ρ (σ v)) ls

-- a ground clause has one truth under every assignment
abbrev pub TruthOfGroundClauses : Type 0
TruthOfGroundClauses =
    (i : Interpretation) (ρ : Assignment) (c : GroundClause)
    → IsTrue (is_ground_clause c) → literals_true_under i ρ c ≡ clause_true i c
