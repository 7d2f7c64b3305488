-- The rank of a clause: how many terms are below its sides. It falls with each rewriting step, so rewriting ends.
use Rattle.std.specs.Prelude.{◌≡◌, ℕ, zero, suc, ◌+◌, ◌<◌, ◌≤◌, Bool, nat_lt, List, [], ◌∷◌, ◌++◌, map, flat_map, count_by, sum_by, IsTrue}
use Rattle.fol_base.specs.Tree.{Tree, application, Trees, no_trees, tree_then, true_tree}
use Rattle.fol_base.specs.Instance.{instance}
use Rattle.fol_base.specs.Clause.{TreeLiteral, TreeClause, clause_size}
use Rattle.fol_base.specs.Canonical.{canonical_clause}
use Rattle.fol_base.specs.Order.{tree_greater}
use Rattle.kernel_steps.specs.Inference.{RewritesBy}
use Rattle.kernel_steps.specs.Symbols.{clause_symbols_pass}

-- each variable becomes `$true`, so that its number doesn't count
abbrev pub grounded : Tree → Tree
grounded t = instance (λ v. true_tree) t

-- the lists of at most n trees of a list
abbrev pub lists_of : ℕ → List Tree → List Trees
lists_of zero ts = no_trees ∷ []
lists_of (suc n) ts = no_trees ∷ flat_map (λ t. map (tree_then t) (lists_of n ts)) ts

-- the symbols below a bound, applied to lists
abbrev pub applied : ℕ → List Trees → List Tree
applied zero tss = []
applied (suc f) tss = map (application f) tss ++ applied f tss

-- the ground trees of at most n symbols over the symbols below a bound, among others
abbrev pub ground_trees : ℕ → ℕ → List Tree
ground_trees bound zero = []
ground_trees bound (suc n) = applied bound (lists_of n (ground_trees bound n))

-- how many of them are below a tree
abbrev pub tree_rank : ℕ → ℕ → Tree → ℕ
tree_rank bound n t = count_by (tree_greater (grounded t)) (ground_trees bound n)

abbrev pub literal_rank : ℕ → ℕ → TreeLiteral → ℕ
literal_rank bound n l = tree_rank bound n l.left + tree_rank bound n l.right

abbrev pub clause_rank : ℕ → ℕ → TreeClause → ℕ
clause_rank bound n c = sum_by (literal_rank bound n) c.literals

-- each symbol is below the bound
abbrev pub has_symbols_below : ℕ → TreeClause → Bool
has_symbols_below bound c = clause_symbols_pass (λ f arity. nat_lt f bound) c

-- ---- laws

-- a rewriting step makes the rank smaller
abbrev pub RanksFall : Type 0
RanksFall =
    (is_predicate : ℕ → Bool) (bound n : ℕ) (unit c d : TreeClause)
    → 0 < bound → clause_size c ≤ n → IsTrue (has_symbols_below bound unit) → IsTrue (has_symbols_below bound c)
    → RewritesBy is_predicate unit c d → clause_rank bound n d < clause_rank bound n c

-- the canonical form has the same rank
abbrev pub RanksKept : Type 0
RanksKept = (bound n : ℕ) (c : TreeClause) → clause_rank bound n (canonical_clause c) ≡ clause_rank bound n c
