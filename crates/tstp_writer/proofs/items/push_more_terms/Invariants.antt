use Rattle.std.proofs.Common.{◌≡◌, ◌++◌, map, drop}
use Rattle.fol_base.specs.Term.{tree_of}
use Rattle.kernel_steps.specs.Keys.{commas_before}
use Rattle.tptp_tree.specs.Printing.{term_text}
use Rattle.tstp_writer.specs.ClauseTrees.{term_tree}
use Rattle.tstp_writer.proofs.items.push_more_terms.Given as goal

abbrev pub invariant-loop-term : goal.invariant-loop-term
invariant-loop-term l =
    l.page ++ commas_before (map (λ t. term_text (term_tree l.symbols t)) (map tree_of (drop l.term-index l.terms)))
    ≡ l.initial.page ++ commas_before (map (λ t. term_text (term_tree l.symbols t)) (map tree_of l.terms))
