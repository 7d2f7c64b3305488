use Rattle.std.proofs.Common.{◌<◌, length, get_or, drop, ap, sym, ◌∙◌, arith}
use Rattle.std.specs.Option.{option_map}
use Rattle.std.specs.Prelude.{slice_set}
use Rattle.fol_base.specs.Place.{argument, replaced, with_argument}
use Rattle.fol_base.specs.Term.{tree_of}
use Rattle.fol_base.proofs.AboutInstances.PlaceLemmas.{argument-item, argument-past, replaced_step, replaced_stop, replaced-made}
use Rattle.fol_base.proofs.place.+replace_from.Goals as goal

pub returns-then-index-items : goal.returns-then-index-items
returns-then-index-items t c =
    let h : c.args.depth < length c.args.place.now = grind (arith, c.requires, c.if-depth-place.false) in
    sym (replaced_stop _ _ _ _ h
    (ap (λ u. argument (get_or c.args.place.now c.args.depth 0) (tree_of u)) c.in-App.is
    ∙ argument-past _ _ c.in-App.symbol _ c.as_slice-items.ensures c.if-index-items.true))

pub returns-in-Var : goal.returns-in-Var
returns-in-Var t c =
    let h : c.args.depth < length c.args.place.now = grind (arith, c.requires, c.if-depth-place.false) in
    sym (replaced_stop _ _ _ _ h
    (ap (λ u. argument (get_or c.args.place.now c.args.depth 0) (tree_of u)) c.in-Var.is))

pub returns-in_ok-made-in-Some : goal.returns-in_ok-made-in-Some
returns-in_ok-made-in-Some t c =
    let h : c.args.depth < length c.args.place.now = grind (arith, c.requires, c.if-depth-place.false) in
    sym (ap (λ u. replaced (drop c.args.depth c.args.place.now) (tree_of c.args.new.now) (tree_of u)) c.in-App.is
    ∙ replaced-made _ _ _ _ _ _ c.in-App.arguments _ h
    (argument-item _ _ c.in-App.symbol _ _ c.as_slice-items.ensures c.if-index-items.false c.index-items-index.is)
    (sym c.in_ok-inner-in-App.ensures ∙ ap (option_map tree_of) c.in-Some.is)
    (c.in_ok-made-in-Some.ensures
    ∙ ap (λ us. slice_set us (get_or c.args.place.now c.args.depth 0) (tree_of c.in-Some.inner)) c.as_slice-items.ensures))

pub returns-in-None : goal.returns-in-None
returns-in-None t c =
    let h : c.args.depth < length c.args.place.now = grind (arith, c.requires, c.if-depth-place.false) in
    sym (replaced_step _ _ _ _ _ h
    (ap (λ u. argument (get_or c.args.place.now c.args.depth 0) (tree_of u)) c.in-App.is
    ∙ argument-item _ _ c.in-App.symbol _ _ c.as_slice-items.ensures c.if-index-items.false c.index-items-index.is)
    ∙ ap (option_map (λ b. with_argument (get_or c.args.place.now c.args.depth 0) b (tree_of c.args.term.now)))
    (sym c.in_ok-inner-in-App.ensures ∙ ap (option_map tree_of) c.in-None.is))
