-- Compatible trees: those that an index by heads alone can't tell from unifiable trees, generalisations and instances (McCune 1992).
use Rattle.std.specs.Prelude.{Bool, true, false, ◌&&◌, ◌||◌, ◌==◌}
use Rattle.fol_base.specs.Tree.{Tree, variable, application, Trees, no_trees, tree_then}

-- One of the two is a variable that may stand for any tree, or the heads are equal and the arguments compatible one by one. The
-- two answers say whether the entry's variables may stand for trees, and whether the query's may.
abbrev mutual
  pub compatible_by : Bool → Bool → Tree → Tree → Bool
  compatible_by entry_varies query_varies (variable v) (variable w) = entry_varies || query_varies
  compatible_by entry_varies query_varies (variable v) (application g us) = entry_varies
  compatible_by entry_varies query_varies (application f ts) (variable w) = query_varies
  compatible_by entry_varies query_varies (application f ts) (application g us) =
      (f == g) && all_compatible_by entry_varies query_varies ts us

  pub all_compatible_by : Bool → Bool → Trees → Trees → Bool
  all_compatible_by entry_varies query_varies no_trees no_trees = true
  all_compatible_by entry_varies query_varies no_trees (tree_then u us) = false
  all_compatible_by entry_varies query_varies (tree_then t ts) no_trees = false
  all_compatible_by entry_varies query_varies (tree_then t ts) (tree_then u us) =
      compatible_by entry_varies query_varies t u && all_compatible_by entry_varies query_varies ts us

-- an entry that may unify with the query
abbrev pub compatible : Tree → Tree → Bool
compatible entry query = compatible_by true true entry query

-- an entry that may be a generalisation of the query
abbrev pub compatible_generalisation : Tree → Tree → Bool
compatible_generalisation entry query = compatible_by true false entry query

-- an entry that may be an instance of the query
abbrev pub compatible_instance : Tree → Tree → Bool
compatible_instance entry query = compatible_by false true entry query
