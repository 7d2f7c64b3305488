use Rattle.std.proofs.Common.{◌≡◌, ℕ, List, map, drop, refl, ap, sym, subst, arith}
use Rattle.fol_base.specs.Tree.{Tree, Trees, tree_variables, trees_of}
use Rattle.fol_base.specs.Term.{tree_of}
use Rattle.fol_base.proofs.AboutTerms.TermLemmas.{tree_size-item}
use Rattle.unifier.specs.declared.layout.Place.{Place}
use Rattle.unifier.specs.SolvedForm.{code_of}
use Rattle.unifier.specs.Layout.{has_place, HavePlaces, TermLaidOut, TermsLaidOut}
use Rattle.unifier.proofs.AboutClasses.CodeLemmas.{item-has-places}
use Rattle.unifier.proofs.AboutLayouts.LayoutLemmas.{variable-laid_out, application-answer, more-terms-laid_out, drop-before}
use Rattle.unifier.proofs.layout.Layout.+lay.Goals as goal

pub lay_term-returns-in_ok-list-in-App : goal.lay_term-returns-in_ok-list-in-App
lay_term-returns-in_ok-list-in-App t c =
    application-answer _ c.args.self.now c.lay_terms.new.self c.push.new.self c.args.apart c.args.side c.in-App.symbol c.in_ok-list-in-App.list _ _ _
    (ap tree_of c.in-App.is) c.as_slice.ensures c.in_ok-list-in-App.ensures c.push.ensures

pub lay_term-returns-in-Var : goal.lay_term-returns-in-Var
lay_term-returns-in-Var t c =
    let P : Tree → Type 0 = λ u. TermLaidOut c.args.self.now c.args.self.now c.args.apart c.args.side u c.variable_cell.result in
    subst P (ap tree_of (sym c.in-Var.is))
    (variable-laid_out c.args.self.now c.args.apart c.args.side c.in-Var.variable c.code.result c.variable_cell.result c.requires.layout c.code.ensures c.variable_cell.ensures)

pub lay_terms-lay_term-requires : goal.lay_terms-lay_term-requires
lay_terms-lay_term-requires t c = (
  omega (arith, tree_size-item _ _ _ _ (let e : map tree_of c.args.terms.now ≡ map tree_of c.args.terms.now = refl in e) (omega (arith, c.loop-index-test.true)) c.index-terms-index.is, c.decreases),
  (
    c.loop-index.invariant.layout,
    let P : List Place → Type 0 = λ ps. HavePlaces ps c.args.apart c.args.side (tree_variables (tree_of c.index-terms-index.result)) in
        subst P (sym c.loop-index.invariant.places)
        (item-has-places (λ v. has_place c.args.self.now.places.items (code_of c.args.apart c.args.side v)) c.args.terms.now _ c.index-terms-index.result
        (omega (arith, c.loop-index-test.true)) c.index-terms-index.is c.requires.places),
  ),
)

pub lay_terms-loop-index-preserved : goal.lay_terms-loop-index-preserved
lay_terms-loop-index-preserved t c =
    let P : Trees → Type 0 = λ ts. TermsLaidOut c.args.self.now c.push.new.self c.args.apart c.args.side ts c.in_ok-list.list in
    subst P (sym (drop-before c.args.terms.now c.loop-index.index _ c.loop-index-test.true (omega arith) c.index-terms-index.is))
    (more-terms-laid_out c.args.self.now c.loop-index.self c.lay_term.new.self c.push.new.self c.args.apart c.args.side _ _ c.loop-index.list
    c.in_ok-first.first c.in_ok-list.list c.loop-index.invariant c.in_ok-first.ensures c.in_ok-list.ensures)

pub lay_terms-returns : goal.lay_terms-returns
lay_terms-returns t c =
    let done : c.loop-index.index ≡ 0 = omega arith in
    let P : ℕ → Type 0 = λ n. TermsLaidOut c.args.self.now c.loop-index.self c.args.apart c.args.side (trees_of (map tree_of (drop n c.args.terms.now))) c.loop-index.list in
    subst P done c.loop-index.invariant
