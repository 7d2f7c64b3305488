use Rattle.std.proofs.Common.{arith, ◌∙◌, ap, sym, min, ◌^◌, ◌-◌}
use Rattle.fol_base.proofs.ListLemmas.{stopped_sum}
use Rattle.fol_base.proofs.AboutTerms.TermLemmas.{tree_size-item, trees_size-take_more}
use Rattle.fol_base.proofs.term.+size.Goals as goal

pub Terms::size-size-requires : goal.Terms::size-size-requires
Terms::size-size-requires t c =
    (omega (arith, tree_size-item _ _ _ _ c.as_slice-term-items.ensures c.loop-term-test.true c.term-item.is, c.decreases), tt)

pub Terms::size-loop-term-preserved : goal.Terms::size-loop-term-preserved
Terms::size-loop-term-preserved t c =
    stopped_sum _ _ _ _ _ _ c.loop-term.invariant c.size.ensures c.saturating_add-total.ensures
    ∙ ap (λ n. min n (2 ^ 64 - 1)) (sym (trees_size-take_more _ _ _ c.loop-term-test.true c.term-item.is))
