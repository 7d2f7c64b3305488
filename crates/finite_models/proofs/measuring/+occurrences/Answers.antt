use Rattle.std.proofs.Common.{arith, ap, sym, ◌∙◌}
use Rattle.plain_types.specs.Capped.{capped}
use Rattle.fol_base.proofs.ListLemmas.{stopped_sum}
use Rattle.fol_base.proofs.AboutTerms.TermLemmas.{tree_size-item}
use Rattle.finite_models.proofs.AboutLoops.WalkLemmas.{occurrences-more}
use Rattle.finite_models.proofs.measuring.+occurrences.Goals as goal

pub all_occurrences-occurrences-requires : goal.all_occurrences-occurrences-requires
all_occurrences-occurrences-requires t c =
    (omega (arith, tree_size-item _ _ _ _ c.as_slice-term-items.ensures c.loop-term-test.true c.term-item.is, c.decreases), tt)

pub all_occurrences-loop-term-preserved : goal.all_occurrences-loop-term-preserved
all_occurrences-loop-term-preserved t c =
    stopped_sum _ _ _ _ _ _ c.loop-term.invariant c.occurrences.ensures c.saturating_add-total.ensures
    ∙ ap capped (sym (occurrences-more _ _ _ c.loop-term-test.true c.term-item.is))
