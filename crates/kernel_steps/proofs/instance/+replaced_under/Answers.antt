use Rattle.std.proofs.Common.{◌<◌, length, ap, sym, ◌∙◌, arith}
use Rattle.std.specs.Prelude.{option_map}
use Rattle.fol_base.specs.Tree.{variable}
use Rattle.fol_base.specs.Term.{tree_of}
use Rattle.kernel_steps.specs.Bound.{under}
use Rattle.kernel_steps.proofs.AboutCalls.BoundLemmas.{replaced_stop-under, replaced_past-under, replaced_none-under, replaced_some-under}
use Rattle.kernel_steps.proofs.instance.+replaced_under.Goals as goal

pub returns-then-is_bound : goal.returns-then-is_bound
returns-then-is_bound g t c =
    let h : c.args.depth < length c.args.place.now = grind (arith, c.requires, c.if-depth-place.false) in
    let σ = g.T.LendsTerms.meaning c.args.bind.now in
    replaced_stop-under c.args.is_bound σ c.args.place.now c.args.depth (tree_of c.args.new) (tree_of c.args.term.now) c.in-Var.variable h
    (ap tree_of c.in-Var.is) (ap (λ b. under b σ (variable c.in-Var.variable)) c.if-is_bound.true)

pub returns-in-None : goal.returns-in-None
returns-in-None g t c =
    let h : c.args.depth < length c.args.place.now = grind (arith, c.requires, c.if-depth-place.false) in
    let σ = g.T.LendsTerms.meaning c.args.bind.now in
    replaced_stop-under c.args.is_bound σ c.args.place.now c.args.depth (tree_of c.args.new) (tree_of c.args.term.now) c.in-Var.variable h
    (ap tree_of c.in-Var.is) (ap (λ b. under b σ (variable c.in-Var.variable)) c.if-is_bound.false ∙ sym c.in-None.ensures)

pub returns-then-index-items : goal.returns-then-index-items
returns-then-index-items g t c =
    let h : c.args.depth < length c.args.place.now = grind (arith, c.requires, c.if-depth-place.false) in
    replaced_past-under c.args.is_bound (g.T.LendsTerms.meaning c.args.bind.now) c.args.place.now c.args.depth (tree_of c.args.new)
    (tree_of c.args.term.now) _ _ c.in-App.symbol h (ap tree_of c.in-App.is) c.as_slice-items.ensures c.if-index-items.true

pub returns-in_ok-made-in-Some-2 : goal.returns-in_ok-made-in-Some-2
returns-in_ok-made-in-Some-2 g t c =
    let h : c.args.depth < length c.args.place.now = grind (arith, c.requires, c.if-depth-place.false) in
    replaced_some-under c.args.is_bound (g.T.LendsTerms.meaning c.args.bind.now) c.args.place.now c.args.depth (tree_of c.args.new)
    (tree_of c.args.term.now) _ _ _ c.in-App.symbol _ _ h (ap tree_of c.in-App.is) c.as_slice-items.ensures c.if-index-items.false
    c.index-items-index.is (ap (option_map tree_of) (sym c.in-Some-2.is) ∙ c.in_ok-inner-in-App.ensures) c.in_ok-made-in-Some-2.ensures

pub returns-in-None-2 : goal.returns-in-None-2
returns-in-None-2 g t c =
    let h : c.args.depth < length c.args.place.now = grind (arith, c.requires, c.if-depth-place.false) in
    replaced_none-under c.args.is_bound (g.T.LendsTerms.meaning c.args.bind.now) c.args.place.now c.args.depth (tree_of c.args.new)
    (tree_of c.args.term.now) _ _ c.in-App.symbol _ h (ap tree_of c.in-App.is) c.as_slice-items.ensures c.if-index-items.false
    c.index-items-index.is (ap (option_map tree_of) (sym c.in-None-2.is) ∙ c.in_ok-inner-in-App.ensures)
