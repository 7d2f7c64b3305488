use Rattle.std.proofs.Common.{◌≤◌, length}
use Rattle.std.specs.List.{AllWithin}
use Rattle.fol_base.specs.Tree.{tree_variables}
use Rattle.fol_base.specs.Term.{tree_of}
use Rattle.disc_tree.specs.Rows.{number_of}
use Rattle.disc_tree.proofs.AboutChanges.RemoveLemmas.{IsOther}
use Rattle.disc_tree.proofs.sorted.place.Given as goal

abbrev pub invariant-loop-index : goal.invariant-loop-index
invariant-loop-index l = record {
  others : AllWithin (IsOther (tree_variables (tree_of l.term)) l.number) l.entries 0 l.index;
  later : AllWithin (λ e. l.number ≤ number_of e) l.entries l.index (length l.entries);
}
