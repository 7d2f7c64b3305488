use Rattle.std.proofs.Common.{refl, arith}
use Rattle.tptp_tree.proofs.SizeLemmas.{term-item-is}
use Rattle.tstp_lines.proofs.AboutReadings.NumberLemmas.{variable-term, term-met, term-tree, walk-begins, walk-goes}
use Rattle.tstp_lines.proofs.numbers.LineNumbers.+term.Goals as goal

pub term-returns-in_ok-meet-in-Var-clause-tree : goal.term-returns-in_ok-meet-in-Var-clause-tree
term-returns-in_ok-meet-in-Var-clause-tree t c =
    variable-term _ _ _ _ _ _ _ c.in-Var.is c.as_slice.ensures c.in_ok-meet-in-Var.ensures.names c.in_ok-meet-in-Var.ensures.number refl

pub term-returns-in_ok-terms-in-App-clause-met : goal.term-returns-in_ok-terms-in-App-clause-met
term-returns-in_ok-terms-in-App-clause-met t c =
    term-met _ _ _ c.args.term.now _ _ _ _ c.in-App.is c.as_slice-in-App.ensures c.as_slice-arguments.ensures c.in_ok-symbol-in-App.ensures.met
    c.in_ok-terms-in-App.ensures.met

pub term-returns-in_ok-terms-in-App-clause-tree : goal.term-returns-in_ok-terms-in-App-clause-tree
term-returns-in_ok-terms-in-App-clause-tree t c =
    term-tree _ _ _ c.args.term.now _ _ _ _ _ _ c.in-App.is c.as_slice-in-App.ensures c.as_slice-arguments.ensures
    c.in_ok-symbol-in-App.ensures.met c.in_ok-symbol-in-App.ensures.number c.in_ok-terms-in-App.ensures.met
    c.in_ok-terms-in-App.ensures.trees

pub terms-loop-term-init : goal.terms-loop-term-init
terms-loop-term-init t c = walk-begins _ _ _ c.new-trees.ensures

pub terms-term-requires : goal.terms-term-requires
terms-term-requires t c = (omega (arith, term-item-is _ _ _ c.loop-term-test.true c.term-item.is, c.decreases), tt)

pub terms-loop-term-preserved : goal.terms-loop-term-preserved
terms-loop-term-preserved t c =
    walk-goes _ _ _ _ _ _ _ _ _ c.loop-term-test.true c.term-item.is c.in_ok-term.ensures.met c.in_ok-term.ensures.tree c.in_ok-push.ensures.ok
    c.loop-term.invariant
