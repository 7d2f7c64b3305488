use Rattle.std.proofs.Common.{◌≡◌, map, refl, arith}
use Rattle.fol_base.specs.Term.{tree_of}
use Rattle.fol_base.proofs.AboutTerms.TermLemmas.{tree_size-item}
use Rattle.unifier.specs.Solution.{solved_form}
use Rattle.unifier.specs.SolvedForm.{substitution_of}
use Rattle.unifier.proofs.AboutLayouts.SizeLemmas.{size-more}
use Rattle.unifier.proofs.solution.Solution.+instance.Goals as goal

pub terms_size-loop-term-preserved : goal.terms_size-loop-term-preserved
terms_size-loop-term-preserved t c =
    size-more (substitution_of (solved_form c.args.self.now) c.args.side) c.args.terms.now c.loop-term.term-index _ _ _ _ c.loop-term-test.true c.term-item.is
    c.loop-term.invariant c.term_size.ensures c.saturating_add-total.ensures

pub terms_size-term_size-requires : goal.terms_size-term_size-requires
terms_size-term_size-requires t c =
    (omega (arith, tree_size-item _ _ _ _ (let e : map tree_of c.args.terms.now ≡ map tree_of c.args.terms.now = refl in e) c.loop-term-test.true c.term-item.is, c.decreases), c.requires)
