use Rattle.std.proofs.Common.{map, drop, get_or, ◌+◌, ap, sym, ◌∙◌, subst, arith}
use Rattle.fol_base.specs.Tree.{Trees, application, no_trees, tree_then, trees_of}
use Rattle.fol_base.specs.Term.{tree_of}
use Rattle.fol_base.specs.declared.term.Term.{Term}
use Rattle.fol_base.proofs.AboutTerms.TermLemmas.{length-trees}
use Rattle.unifier.specs.declared.agreeing.Walked.{Walked}
use Rattle.unifier.specs.Equations.{item_of}
use Rattle.unifier.specs.Agreeing.{Agrees}
use Rattle.unifier.proofs.AboutLayouts.WalkLemmas.{Agreeing, left-variable, right-variable, with-bound, applications, lengths-clash, agreeing-more, agreeing-done, rest-from, rest-none}
use Rattle.unifier.proofs.agreeing.Walk.+agree.Goals as goal

pub agree-returns-in-Var : goal.agree-returns-in-Var
agree-returns-in-Var t c =
    left-variable c.args.apart c.args.self.now.equations c.agree_with.new.self.equations c.args.one.side (tree_of c.args.one.term.now) c.in-Var.variable
    c.code.result (item_of c.args.other) c.agree_with.result (ap tree_of c.in-Var.is) c.code.ensures c.agree_with.ensures

pub agree-returns-in-Var-term : goal.agree-returns-in-Var-term
agree-returns-in-Var-term t c =
    right-variable c.args.apart c.args.self.now.equations c.agree_with-in-Var-term.new.self.equations c.args.other.side (tree_of c.args.other.term.now)
    c.in-Var-term.variable c.code-in-Var-term.result (item_of c.args.one) c.agree_with-in-Var-term.result (ap tree_of c.in-Var-term.is)
    c.code-in-Var-term.ensures c.agree_with-in-Var-term.ensures

pub agree-returns-else-symbol-other_symbol : goal.agree-returns-else-symbol-other_symbol
agree-returns-else-symbol-other_symbol t c =
    applications c.args.apart c.args.self.now.equations c.agree_in_all.new.self.equations c.args.one.side c.args.other.side (tree_of c.args.one.term.now)
    (tree_of c.args.other.term.now) c.in-App.symbol c.in-App-term.other_symbol (trees_of (map tree_of c.as_slice.result.now))
    (trees_of (map tree_of c.as_slice-in-App-term.result.now)) c.agree_in_all.result
    (ap tree_of c.in-App.is ∙ ap (λ us. application c.in-App.symbol (trees_of us)) (sym c.as_slice.ensures))
    (ap tree_of c.in-App-term.is ∙ ap (λ us. application c.in-App-term.other_symbol (trees_of us)) (sym c.as_slice-in-App-term.ensures))
    c.if-symbol-other_symbol.false c.agree_in_all.ensures

pub agree_in_all-returns-then-one-other : goal.agree_in_all-returns-then-one-other
agree_in_all-returns-then-one-other t c =
    lengths-clash c.args.apart c.args.self.now.equations c.args.self.now.equations c.args.one.side c.args.other.side (map tree_of c.args.one.terms.now)
    (map tree_of c.args.other.terms.now)
    (λ e. c.if-one-other.true (sym (length-trees c.args.one.terms.now) ∙ e ∙ length-trees c.args.other.terms.now))

pub agree_in_all-loop-index-preserved : goal.agree_in_all-loop-index-preserved
agree_in_all-loop-index-preserved t c =
    let ts : Trees = trees_of (map tree_of c.args.one.terms.now) in
    let us : Trees = trees_of (map tree_of c.args.other.terms.now) in
    let P : Trees → Trees → Type 0 = λ x y. Agreeing c.args.apart c.args.self.now.equations c.loop-index.self.equations c.args.one.side ts x c.args.other.side us y in
    let rts : Trees = trees_of (map tree_of (drop (c.loop-index.index + 1) c.args.one.terms.now)) in
    let rus : Trees = trees_of (map tree_of (drop (c.loop-index.index + 1) c.args.other.terms.now)) in
    let one_is = rest-from c.args.one.terms.now c.loop-index.index c.index-one-index.result c.loop-index-test.true c.index-one-index.is in
    let other_is =
    rest-from c.args.other.terms.now c.loop-index.index c.index-other-index.result (omega (arith, c.loop-index-test.true, c.if-one-other.false)) c.index-other-index.is in
    let Q : Trees → Type 0 = λ x. P x (trees_of (map tree_of (drop c.loop-index.index c.args.other.terms.now))) in
    let R : Trees → Type 0 = λ y. P (tree_then (tree_of c.index-one-index.result) rts) y in
    let B : Term → Term → Type 0 =
    λ x y. Agrees c.args.apart c.loop-index.self.equations c.agree.new.self.equations (c.args.one.side, tree_of x) (c.args.other.side, tree_of y) c.agree.result in
    let D : Term → Type 0 = λ x. B x (get_or c.args.other.terms.now c.loop-index.index c.index-other-index.result) in
    let A : Walked → Type 0 =
    λ answer. Agrees c.args.apart c.loop-index.self.equations c.agree.new.self.equations (c.args.one.side, tree_of c.index-one-index.result) (c.args.other.side, tree_of c.index-other-index.result) answer in
    agreeing-more c.args.apart c.args.self.now.equations c.loop-index.self.equations c.agree.new.self.equations c.args.one.side c.args.other.side ts us rts rus
    (tree_of c.index-one-index.result) (tree_of c.index-other-index.result) (subst R other_is (subst Q one_is c.loop-index.invariant))
    (subst A c.in-Agreed.is (subst (B c.index-one-index.result) (sym c.index-other-index.is)
    (subst D (sym c.index-one-index.is) c.agree.ensures)))

pub agree_in_all-returns : goal.agree_in_all-returns
agree_in_all-returns t c =
    let ts : Trees = trees_of (map tree_of c.args.one.terms.now) in
    let us : Trees = trees_of (map tree_of c.args.other.terms.now) in
    let P : Trees → Trees → Type 0 = λ x y. Agreeing c.args.apart c.args.self.now.equations c.loop-index.self.equations c.args.one.side ts x c.args.other.side us y in
    let Q : Trees → Type 0 = λ x. P x (trees_of (map tree_of (drop c.loop-index.index c.args.other.terms.now))) in
    let R : Trees → Type 0 = λ y. P no_trees y in
    agreeing-done c.args.apart c.args.self.now.equations c.loop-index.self.equations c.args.one.side c.args.other.side ts us
    (subst R (rest-none c.args.other.terms.now c.loop-index.index (omega (arith, c.loop-index-test.false, c.if-one-other.false)))
    (subst Q (rest-none c.args.one.terms.now c.loop-index.index (omega (arith, c.loop-index-test.false))) c.loop-index.invariant))

pub agree_with-returns-in-Some : goal.agree_with-returns-in-Some
agree_with-returns-in-Some t c =
    with-bound c.args.apart c.args.self.now.equations c.agree.new.self.equations c.args.code (item_of c.in-Some.bound) (item_of c.args.other) c.agree.result
    c.in-Some.ensures c.agree.ensures
