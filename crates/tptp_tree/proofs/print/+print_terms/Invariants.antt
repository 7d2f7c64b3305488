use Rattle.std.proofs.Common.{◌≡◌, ◌+◌, ◌*◌, ◌++◌, map, drop}
use Rattle.tptp_tree.specs.Term.{term_size, terms_size, terms_of}
use Rattle.tptp_tree.specs.Shape.{term_of}
use Rattle.tptp_tree.specs.Printing.{more_arguments_text}
use Rattle.tptp_tree.proofs.print.+print_terms.Given as goal

abbrev pub decreases-push_term : goal.decreases-push_term
decreases-push_term l = 3 * term_size (term_of l.term.now)

abbrev pub decreases-push_arguments : goal.decreases-push_arguments
decreases-push_arguments l = 3 * terms_size (terms_of (map term_of l.arguments.now)) + 2

abbrev pub decreases-push_more_arguments : goal.decreases-push_more_arguments
decreases-push_more_arguments l = 3 * terms_size (terms_of (map term_of l.arguments.now)) + 1

abbrev pub invariant-push_more_arguments-loop-argument : goal.invariant-push_more_arguments-loop-argument
invariant-push_more_arguments-loop-argument l =
    l.page.items ++ more_arguments_text (terms_of (map term_of (drop l.argument-index l.arguments)))
    ≡ l.initial.page.items ++ more_arguments_text (terms_of (map term_of l.arguments))
