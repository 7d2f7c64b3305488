use Rattle.std.proofs.Common.{map, take, arith, ap, sym, ◌∙◌, Some}
use Rattle.fol_base.specs.Tree.{trees_of, tree_variables, trees_variables}
use Rattle.fol_base.specs.Term.{tree_of}
use Rattle.fol_base.proofs.AboutTerms.TermLemmas.{tree_size-item}
use Rattle.fol_base.proofs.AboutTerms.VariableLemmas.{trees_variables-take_more}
use Rattle.disc_tree.specs.Entries.{without_front}
use Rattle.disc_tree.proofs.AboutQueries.FrontLemmas.{front-then, front-item-none}
use Rattle.disc_tree.proofs.entry.+without_variables.Goals as goal

pub without_all_variables-without_variables-requires : goal.without_all_variables-without_variables-requires
without_all_variables-without_variables-requires t c =
    (omega (arith, tree_size-item _ _ _ _ c.as_slice-term-items.ensures c.loop-term-test.true c.term-item.is, c.decreases), tt)

pub without_all_variables-loop-term-preserved : goal.without_all_variables-loop-term-preserved
without_all_variables-loop-term-preserved t c =
    ap (λ vs. without_front vs c.args.numbers.now)
    (trees_variables-take_more c.as_slice-term-items.result.now c.loop-term.term-index c.term-item.result c.loop-term-test.true c.term-item.is)
    ∙ front-then (trees_variables (trees_of (map tree_of (take c.loop-term.term-index c.as_slice-term-items.result.now))))
    (tree_variables (tree_of c.term-item.result)) c.args.numbers.now c.loop-term.others.now (Some c.in-Some.fewer.now) c.loop-term.invariant
    c.in-Some.ensures

pub without_all_variables-returns-in-None : goal.without_all_variables-returns-in-None
without_all_variables-returns-in-None t c =
    ap (λ ts. without_front (trees_variables (trees_of ts)) c.args.numbers.now) (sym c.as_slice-term-items.ensures)
    ∙ front-item-none c.as_slice-term-items.result.now c.loop-term.term-index c.term-item.result c.args.numbers.now c.loop-term.others.now
    c.loop-term-test.true c.term-item.is c.loop-term.invariant c.in-None.ensures
