use Rattle.std.proofs.Common.{sym, subst}
use Rattle.std.specs.List.Sorted.{IsNonDecreasing}
use Rattle.std.proofs.lemmas.List.Sorted.{IsNonDecreasingBy-from_sort}
use Rattle.fol_base.specs.Term.{tree_of}
use Rattle.unifier.proofs.AboutClasses.CodeLemmas.{sorted-variables}
use Rattle.unifier.proofs.layout.Layout.new.Goals as goal

pub with_variables-requires : goal.with_variables-requires
with_variables-requires c =
    subst IsNonDecreasing (sym c.as_slice.ensures.value) (IsNonDecreasingBy-from_sort (λ x. x) c.sort_unstable.new.self.items c.sort_unstable.ensures.sorted)

pub returns : goal.returns
returns c =
    sorted-variables _ c.args.apart (tree_of c.args.left.now) (tree_of c.args.right.now) c.in_ok-codes.codes.items c.push_codes.new.codes.items
    c.push_codes-2.new.codes.items c.sort_unstable.new.self.items c.as_slice.result.now c.in_ok-codes.ensures.items c.in_ok-push_codes.ensures
    c.in_ok-push_codes-2.ensures c.sort_unstable.ensures.permutation c.as_slice.ensures.value c.with_variables.ensures
