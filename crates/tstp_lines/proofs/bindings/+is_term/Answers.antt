use Rattle.std.proofs.Common.{◌∙◌, arith}
use Rattle.tstp_lines.proofs.AboutReadings.BindingLemmas.{general-item-is, word-terms}
use Rattle.tstp_lines.proofs.bindings.+is_term.Goals as goal

pub are_terms-is_term-requires : goal.are_terms-is_term-requires
are_terms-is_term-requires t c = (omega (arith, general-item-is _ _ _ c.loop-term-test.true c.term-item.is, c.decreases), tt)

pub is_term-returns-in-Word : goal.is_term-returns-in-Word
is_term-returns-in-Word t c = c.are_terms.ensures ∙ word-terms _ _ _ _ c.in-Word.is c.as_slice.ensures
