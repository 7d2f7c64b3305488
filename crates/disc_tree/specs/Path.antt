-- The path of a term: its heads in preorder, each variable a star (McCune 1992).
use Rattle.std.specs.Prelude.{ℕ, zero, suc, ◌+◌, Bool, true, false, ◌&&◌, ◌||◌, ◌==◌, nat_lt, List, [], ◌∷◌, ◌++◌, length}
use Rattle.fol_base.specs.Tree.{Tree, variable, application, Trees, no_trees, tree_then, list_of}
use Rattle.disc_tree.specs.declared.label.Label.{Label}
use Rattle.disc_tree.specs.declared.label.Label.TheVariants.{Star, Symbol}

-- a symbol's label has its number of arguments, so that no path begins another
abbrev pub head : Tree → Label
head (variable v) = Star
head (application f ts) = Symbol f (length (list_of ts))

abbrev pub arguments : Tree → List Tree
arguments (variable v) = []
arguments (application f ts) = list_of ts

abbrev mutual
  pub path : Tree → List Label
  path (variable v) = Star ∷ []
  path (application f ts) = Symbol f (length (list_of ts)) ∷ paths ts

  pub paths : Trees → List Label
  paths no_trees = []
  paths (tree_then t ts) = path t ++ paths ts

-- the path of terms that are read one after another
abbrev pub path_of_all : List Tree → List Label
path_of_all [] = []
path_of_all (t ∷ ts) = path t ++ path_of_all ts

abbrev pub arity : Label → ℕ
arity Star = 0
arity (Symbol f n) = n

abbrev pub same_label : Label → Label → Bool
same_label Star Star = true
same_label Star (Symbol g m) = false
same_label (Symbol f n) Star = false
same_label (Symbol f n) (Symbol g m) = (f == g) && (n == m)

-- the order of labels at a node: the star, then the symbols by number and then by arguments
abbrev pub comes_before : Label → Label → Bool
comes_before Star Star = false
comes_before Star (Symbol g m) = true
comes_before (Symbol f n) Star = false
comes_before (Symbol f n) (Symbol g m) = nat_lt f g || ((f == g) && nat_lt n m)

-- Whether a path can be read along terms of a query, after so many of its own terms that stand against nothing that is left. The
-- two answers say whether the entry's variables may stand for terms, and whether the query's may.
abbrev pub fits : Bool → Bool → ℕ → List Tree → List Label → Bool
fits entry_varies query_varies zero [] [] = true
fits entry_varies query_varies zero [] (l ∷ p) = false
fits entry_varies query_varies zero (t ∷ ts) [] = false
fits entry_varies query_varies zero (variable w ∷ ts) (Star ∷ p) =
    (entry_varies || query_varies) && fits entry_varies query_varies 0 ts p
fits entry_varies query_varies zero (variable w ∷ ts) (Symbol f n ∷ p) = query_varies && fits entry_varies query_varies n ts p
fits entry_varies query_varies zero (application g us ∷ ts) (Star ∷ p) = entry_varies && fits entry_varies query_varies 0 ts p
fits entry_varies query_varies zero (application g us ∷ ts) (Symbol f n ∷ p) =
    ((f == g) && (n == length (list_of us))) && fits entry_varies query_varies 0 (list_of us ++ ts) p
fits entry_varies query_varies (suc k) ts [] = false
fits entry_varies query_varies (suc k) ts (Star ∷ p) = fits entry_varies query_varies k ts p
fits entry_varies query_varies (suc k) ts (Symbol f n ∷ p) = fits entry_varies query_varies (n + k) ts p
