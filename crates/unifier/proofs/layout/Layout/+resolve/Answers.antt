use Rattle.std.proofs.Common.{ℕ, Option, length, map, drop, ap, sym, ◌∙◌, subst, arith}
use Rattle.std.specs.Prelude.{IfSome}
use Rattle.fol_base.specs.Tree.{Trees, application, trees_of}
use Rattle.fol_base.specs.Term.{tree_of}
use Rattle.fol_base.specs.declared.term.Term.{Term}
use Rattle.unifier.specs.Layout.{cell_of}
use Rattle.unifier.specs.Equations.{item_of}
use Rattle.unifier.specs.Resolving.{IsTermResolved, AreTermsResolved}
use Rattle.unifier.proofs.AboutLayouts.LayoutLemmas.{drop-before}
use Rattle.unifier.proofs.AboutLayouts.WalkLemmas.{rest-none}
use Rattle.unifier.proofs.AboutEquations.ResolveLemmas.{already-resolved, free-resolved, bound-resolved, application-resolved, no-terms-resolved, more-terms-resolved}
use Rattle.list_lemmas.proofs.Results.{not-some}
use Rattle.unifier.proofs.layout.Layout.+resolve.Goals as goal

pub resolve_variable-returns-in-Some : goal.resolve_variable-returns-in-Some
resolve_variable-returns-in-Some t c =
    already-resolved c.args.apart c.args.equations.now c.args.self.now c.args.variable c.in-Some.cell c.requires
    (sym (c.in-Some.ensures ∙ ap (cell_of c.args.variable) c.as_slice.ensures.value))

pub resolve_variable-returns-in_ok-add_place-in-None : goal.resolve_variable-returns-in_ok-add_place-in-None
resolve_variable-returns-in_ok-add_place-in-None t c =
    free-resolved c.args.apart c.args.equations.now c.args.self.now c.add_cell.new.self c.add_place.new.self c.args.variable c.in_ok-cell-in-None.cell c.requires
    (sym (c.in_default.ensures ∙ ap (cell_of c.args.variable) c.as_slice.ensures.value)) (sym c.in-None.ensures) c.in_ok-cell-in-None.ensures
    c.in_ok-add_place-in-None.ensures

pub resolve_bound-returns : goal.resolve_bound-returns
resolve_bound-returns t c =
    let P : Option ℕ → Type 0 = λ o. IfSome o (IsTermResolved c.args.apart c.args.equations.now c.args.self.now c.resolve_term.new.self (item_of c.args.bound)) in
    bound-resolved c.args.apart c.args.equations.now c.args.self.now c.resolve_term.new.self c.add_place.new.self c.args.variable c.in-Some.cell
    (item_of c.args.bound) (subst P c.in-Some.is c.in_ok-cell.ensures) c.requires.bound
    (sym (c.place_among.ensures ∙ ap (cell_of c.args.variable) c.as_slice.ensures.value) ∙ not-some c.place_among.result (sym c.is_some.ensures ∙ c.if-is_some.false))
    c.in_ok-add_place.ensures

pub resolve_term-returns-in_ok-add_cell-in-Some : goal.resolve_term-returns-in_ok-add_cell-in-Some
resolve_term-returns-in_ok-add_cell-in-Some t c =
    let ts : Trees = trees_of (map tree_of c.as_slice.result.now) in
    let P : Option ℕ → Type 0 = λ o. IfSome o (AreTermsResolved c.args.apart c.args.equations.now c.args.self.now c.resolve_terms.new.self c.args.bound.side ts) in
    application-resolved c.args.apart c.args.equations.now c.args.self.now c.resolve_terms.new.self c.add_cell.new.self c.args.bound.side
    (tree_of c.args.bound.term.now) c.in-App.symbol c.in-Some.list c.in_ok-add_cell-in-Some.field-0 ts
    (ap tree_of c.in-App.is ∙ ap (λ us. application c.in-App.symbol (trees_of us)) (sym c.as_slice.ensures))
    (subst P c.in-Some.is c.in_ok-list-in-App.ensures) c.in_ok-add_cell-in-Some.ensures

pub resolve_terms-loop-index-init : goal.resolve_terms-loop-index-init
resolve_terms-loop-index-init t c =
    let P : Trees → Type 0 = λ us. AreTermsResolved c.args.apart c.args.equations.now c.args.self.now c.add_cell.new.self c.args.bound.side us c.in_ok-list.list in
    subst P (sym (rest-none c.args.bound.terms.now (length c.args.bound.terms.now) (omega arith)))
    (no-terms-resolved c.args.apart c.args.equations.now c.args.self.now c.add_cell.new.self c.args.bound.side c.in_ok-list.list c.requires c.in_ok-list.ensures)

pub resolve_terms-loop-index-preserved : goal.resolve_terms-loop-index-preserved
resolve_terms-loop-index-preserved t c =
    let P : Trees → Type 0 =
    λ us. AreTermsResolved c.args.apart c.args.equations.now c.args.self.now c.add_cell-in-Some.new.self c.args.bound.side us c.in_ok-list-in-Some.list in
    let Q : Option ℕ → Type 0 =
    λ o. IfSome o (IsTermResolved c.args.apart c.args.equations.now c.loop-index.self c.resolve_term.new.self (c.args.bound.side, tree_of c.index-bound-index.result)) in
    let R : Term → Type 0 =
    λ x. IfSome c.in_ok-first.field-0 (IsTermResolved c.args.apart c.args.equations.now c.loop-index.self c.resolve_term.new.self (c.args.bound.side, tree_of x)) in
    subst P (sym (drop-before c.args.bound.terms.now c.loop-index.index _ c.loop-index-test.true (omega arith) c.index-bound-index.is))
    (more-terms-resolved c.args.apart c.args.equations.now c.args.self.now c.loop-index.self c.resolve_term.new.self c.add_cell-in-Some.new.self c.args.bound.side
    (tree_of c.index-bound-index.result) (trees_of (map tree_of (drop c.loop-index.index c.args.bound.terms.now))) c.loop-index.list c.in-Some.first
    c.in_ok-list-in-Some.list c.loop-index.invariant (subst Q c.in-Some.is (subst R (sym c.index-bound-index.is) c.in_ok-first.ensures)) c.in_ok-list-in-Some.ensures)
