use Rattle.std.proofs.Common.{sym, ◌∙◌, ap, subst}
use Rattle.std.specs.List.Sorted.{IsNonDecreasingBy}
use Rattle.std.proofs.lemmas.List.Sorted.{IsNonDecreasingBy-from_sort}
use Rattle.signature.specs.Clausal.{made_in_order}
use Rattle.skolem.proofs.AboutBindings.OrderLemmas.{order-of-sorted}
use Rattle.list_lemmas.proofs.Results.{ok-then}
use Rattle.skolem.proofs.progress.made_in_order.Goals as goal

pub once_each-requires : goal.once_each-requires
once_each-requires c =
    record {
      sorted =
          subst (IsNonDecreasingBy (λ v. v)) (sym c.as_slice.ensures.value)
          (IsNonDecreasingBy-from_sort (λ v. v) c.sort.new.self.items c.in_ok-sort.ensures.sorted);
    }

pub returns-clause-found : goal.returns-clause-found
returns-clause-found c =
    ok-then c.once_each.result _ _
    (λ found h. order-of-sorted c.args.variables c.args.occurring.now.items c.sort.new.self.items found.items c.sort.ensures.permutation
    (h ∙ ap (made_in_order c.args.variables) c.as_slice.ensures.value)) c.once_each.ensures
