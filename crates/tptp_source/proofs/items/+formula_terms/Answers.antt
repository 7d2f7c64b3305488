use Rattle.std.proofs.Common.{sym, ap, ◌∙◌, arith}
use Rattle.std.specs.Option.{option_map}
use Rattle.std.proofs.Math.ListN.{drop_of_length-le}
use Rattle.tptp_tree.specs.Shape.{term_of}
use Rattle.tptp_source.proofs.AboutParts.FormulaTerms.{tree-item-is, terms-more, terms-none, terms-all}
use Rattle.tptp_source.proofs.items.+formula_terms.Goals as goal

pub formula_terms_of-formula_term_of-requires : goal.formula_terms_of-formula_term_of-requires
formula_terms_of-formula_term_of-requires t c =
    (omega (arith, tree-item-is _ _ _ c.loop-term-test.true c.term-item.is, c.decreases), tt)

pub formula_terms_of-returns-in-None : goal.formula_terms_of-returns-in-None
formula_terms_of-returns-in-None t c =
    terms-none c.args.terms.now c.loop-term.term-index c.term-item.result c.loop-term.made c.loop-term.invariant c.loop-term-test.true c.term-item.is
    (ap (option_map term_of) (sym c.in-None.is) ∙ c.in_ok-read.ensures)

pub formula_terms_of-loop-term-preserved : goal.formula_terms_of-loop-term-preserved
formula_terms_of-loop-term-preserved t c =
    terms-more c.args.terms.now c.loop-term.term-index c.term-item.result (term_of c.in-Some.term) _ _ c.loop-term.invariant c.loop-term-test.true
    c.term-item.is (ap (option_map term_of) (sym c.in-Some.is) ∙ c.in_ok-read.ensures) c.in_ok-push-in-Some.ensures.ok

pub formula_terms_of-returns : goal.formula_terms_of-returns
formula_terms_of-returns t c =
    terms-all c.args.terms.now c.loop-term.term-index c.loop-term.made c.loop-term.invariant
    (drop_of_length-le c.args.terms.now c.loop-term-test.false)
