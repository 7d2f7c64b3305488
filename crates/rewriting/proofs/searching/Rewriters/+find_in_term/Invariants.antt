use Rattle.std.proofs.Common.{◌≡◌, ℕ, ◌+◌, ◌*◌, ◌<◌, map}
use Rattle.std.specs.Prelude.{Some, slice_get}
use Rattle.fol_base.specs.Tree.{Tree, tree_size, trees_size, trees_of}
use Rattle.fol_base.specs.Term.{tree_of}
use Rattle.rewriting.specs.Redex.{inner, IsNormal}
use Rattle.rewriting.specs.NormalTerms.{RemembersNormal}
use Rattle.rewriting.specs.Searching.{usable_by}
use Rattle.rewriting.proofs.searching.Rewriters.+find_in_term.Given as goal

abbrev pub decreases-find_in_term : goal.decreases-find_in_term
decreases-find_in_term l = 2 * tree_size (tree_of l.term.now)

abbrev pub decreases-find_in_terms : goal.decreases-find_in_terms
decreases-find_in_terms l = 2 * trees_size (trees_of (map tree_of l.terms.now)) + 1

abbrev pub invariant-find_in_terms-loop-index : goal.invariant-find_in_terms-loop-index
invariant-find_in_terms-loop-index l = record {
  path_kept : l.path.items ≡ l.initial.path.items;
  normal : (i : ℕ) (t : Tree) → i < l.index → slice_get (map tree_of l.terms) i ≡ Some t → IsNormal (usable_by l.self) inner t;
  remembers : RemembersNormal (usable_by l.self) l.normal;
}
