use Rattle.std.proofs.Common.{refl, ap, sym, ◌∙◌, rules}
use Rattle.std.proofs.lemmas.List.Filters.{dedup_is}
use Rattle.std.proofs.lemmas.List.Sorted.{IsNonDecreasingBy-from_sort_by_key}
use Rattle.kernel_steps.specs.Names.{name_rank, are_sorted}
use Rattle.kernel_steps.proofs.AboutNames.NameRanks.{sorted-same}
use Rattle.kernel_steps.proofs.AboutNames.NameSorts.{sorted-deduped}
use Rattle.pool_core.proofs.sorting.sort_names.Goals as goal

pub returns-then-not-are_sorted : goal.returns-then-not-are_sorted
returns-then-not-are_sorted c =
    sorted-deduped _ (λ x y. refl) _ _ _ c.sort_unstable_by_key.ensures.permutation
    (IsNonDecreasingBy-from_sort_by_key name_rank _ c.sort_unstable_by_key.ensures.sorted (λ a r q k. search rules))
    (dedup_is _ _ _ c.dedup.ensures.filtered)

pub returns-else-not-are_sorted : goal.returns-else-not-are_sorted
returns-else-not-are_sorted c =
    sorted-same _ (ap are_sorted (sym c.as_slice.ensures.value) ∙ sym c.are_sorted.ensures ∙ c.if-not-are_sorted.false)
