use Rattle.std.proofs.Common.{◌∙◌, refl, arith}
use Rattle.tstp_lines.proofs.AboutReadings.BindingLemmas.{general-item-is, next-general, word-size, word-terms, word-met, word-tree, variable-general, generals-go}
use Rattle.tstp_lines.proofs.numbers.LineNumbers.+general_term.Goals as goal

pub general_term-general_terms-requires : goal.general_term-general_terms-requires
general_term-general_terms-requires t c = (
  omega (arith, word-size _ _ _ _ c.in-Word.is c.as_slice-arguments.ensures, c.decreases),
  word-terms _ _ _ _ c.in-Word.is c.as_slice-arguments.ensures ∙ c.requires,
)

pub general_term-returns-in_ok-general_terms-in-Word-clause-met :
    goal.general_term-returns-in_ok-general_terms-in-Word-clause-met
general_term-returns-in_ok-general_terms-in-Word-clause-met t c =
    word-met _ _ _ c.args.term.now _ _ _ _ c.in-Word.is c.as_slice.ensures c.as_slice-arguments.ensures c.in_ok-symbol-in-Word.ensures.met
    c.in_ok-general_terms-in-Word.ensures.met

pub general_term-returns-in_ok-general_terms-in-Word-clause-tree :
    goal.general_term-returns-in_ok-general_terms-in-Word-clause-tree
general_term-returns-in_ok-general_terms-in-Word-clause-tree t c =
    word-tree _ _ _ c.args.term.now _ _ _ _ _ _ c.in-Word.is c.as_slice.ensures c.as_slice-arguments.ensures
    c.in_ok-symbol-in-Word.ensures.met c.in_ok-symbol-in-Word.ensures.number c.in_ok-general_terms-in-Word.ensures.met
    c.in_ok-general_terms-in-Word.ensures.trees

pub general_term-returns-in_ok-meet-in-Variable-clause-tree : goal.general_term-returns-in_ok-meet-in-Variable-clause-tree
general_term-returns-in_ok-meet-in-Variable-clause-tree t c =
    variable-general _ _ c.args.term.now _ _ _ _ c.in-Variable.is c.as_slice-in-Variable.ensures c.in_ok-meet-in-Variable.ensures.names
    c.in_ok-meet-in-Variable.ensures.number refl

pub general_terms-general_term-requires : goal.general_terms-general_term-requires
general_terms-general_term-requires t c = (
  omega (arith, general-item-is _ _ _ c.loop-term-test.true c.term-item.is, c.decreases),
  next-general _ _ _ _ _ _ c.loop-term-test.true c.term-item.is c.loop-term.invariant,
)

pub general_terms-loop-term-preserved : goal.general_terms-loop-term-preserved
general_terms-loop-term-preserved t c =
    generals-go _ _ _ _ _ _ _ _ _ c.loop-term-test.true c.term-item.is c.in_ok-general_term.ensures.met c.in_ok-general_term.ensures.tree
    c.in_ok-push.ensures.ok c.loop-term.invariant
