use Rattle.std.proofs.Common.{◌≡◌, ◌+◌, ◌-◌, ◌<◌, true, Some, drop, get_or, length, take, arith, rules, ap}
use Rattle.std.specs.Option.{is_some}
use Rattle.std.specs.Prelude.{flat_map}
use Rattle.std.proofs.lemmas.Result.{IfOk-weaker}
use Rattle.fol_base.specs.Tree.{Tree, tree_variables}
use Rattle.fol_base.specs.Instance.{instance}
use Rattle.fol_base.specs.Place.{subterm, replaced}
use Rattle.fol_base.specs.Numbering.{with_variables}
use Rattle.fol_base.specs.Term.{tree_of}
use Rattle.superpose.specs.Concluding.{instance_variables}
use Rattle.superpose.proofs.AboutSteps.NumberingLemmas.{no_variable_there, item_there, next_there, replaced_below, three_parts}
use Rattle.superpose.proofs.numbering.+number_replaced.Goals as goal

pub unreachable-requires : goal.unreachable-requires
unreachable-requires g t c =
    let less : c.args.depth < length c.args.place.now = grind (arith, c.requires.within, c.if-depth-place.false) in
    no_variable_there c.args.place.now c.args.depth (tree_of c.args.host.now) less c.requires.there c.in-Var.field-0 (ap tree_of c.in-Var.is)

pub number_items-requires-clause-within : goal.number_items-requires-clause-within
number_items-requires-clause-within g t c =
    let less : c.args.depth < length c.args.place.now = grind (arith, c.requires.within, c.if-depth-place.false) in
    let here =
    item_there c.args.place.now c.args.depth (tree_of c.args.host.now) less c.requires.there c.in-App.field-0 c.in-App.arguments
    c.as_slice-items.result.now (ap tree_of c.in-App.is) c.as_slice-items.ensures in
    omega (arith, here)

pub bounds-items-index : goal.bounds-items-index
bounds-items-index g t c =
    let less : c.args.depth < length c.args.place.now = grind (arith, c.requires.within, c.if-depth-place.false) in
    item_there c.args.place.now c.args.depth (tree_of c.args.host.now) less c.requires.there c.in-App.field-0 c.in-App.arguments
    c.as_slice-items.result.now (ap tree_of c.in-App.is) c.as_slice-items.ensures

pub offset_bounds-items-index : goal.offset_bounds-items-index
offset_bounds-items-index g t c =
    let less : c.args.depth < length c.args.place.now = grind (arith, c.requires.within, c.if-depth-place.false) in
    let here =
    item_there c.args.place.now c.args.depth (tree_of c.args.host.now) less c.requires.there c.in-App.field-0 c.in-App.arguments
    c.as_slice-items.result.now (ap tree_of c.in-App.is) c.as_slice-items.ensures in
    omega (arith, here, c.as_slice-items.type_inv.0, c.as_slice-items.type_inv.1)

pub overflow_add-index : goal.overflow_add-index
overflow_add-index g t c =
    let less : c.args.depth < length c.args.place.now = grind (arith, c.requires.within, c.if-depth-place.false) in
    let here =
    item_there c.args.place.now c.args.depth (tree_of c.args.host.now) less c.requires.there c.in-App.field-0 c.in-App.arguments
    c.as_slice-items.result.now (ap tree_of c.in-App.is) c.as_slice-items.ensures in
    omega (arith, here, c.as_slice-items.type_inv.0, c.as_slice-items.type_inv.1)

pub number_items-requires-in-App-clause-rising : goal.number_items-requires-in-App-clause-rising
number_items-requires-in-App-clause-rising g t c =
    let less : c.args.depth < length c.args.place.now = grind (arith, c.requires.within, c.if-depth-place.false) in
    let here =
    item_there c.args.place.now c.args.depth (tree_of c.args.host.now) less c.requires.there c.in-App.field-0 c.in-App.arguments
    c.as_slice-items.result.now (ap tree_of c.in-App.is) c.as_slice-items.ensures in
    omega (arith, here)

pub number_replaced-requires : goal.number_replaced-requires
number_replaced-requires g t c κs within =
    let less : c.args.depth < length c.args.place.now = grind (arith, c.requires.within, c.if-depth-place.false) in
    let next : is_some (subterm (drop (c.args.depth + 1) c.args.place.now) (tree_of c.index-items-index.result)) ≡ true =
    next_there c.args.place.now c.args.depth (tree_of c.args.host.now) less c.requires.there c.in-App.field-0 c.in-App.arguments
    c.as_slice-items.result.now (ap tree_of c.in-App.is) c.as_slice-items.ensures c.index-items-index.result c.index-items-index.is in
    let falls : length c.args.place.now - (c.args.depth + 1) < length c.args.place.now - c.args.depth = omega (arith, less) in
    search rules

pub returns : goal.returns
returns g t c =
    let less : c.args.depth < length c.args.place.now = grind (arith, c.requires.within, c.if-depth-place.false) in
    let σ = g.S.LendsTerms.meaning c.args.new_bind.now in
    let τ = g.T.LendsTerms.meaning c.args.bind.now in
    let items = c.as_slice-items.result.now in
    let here =
    item_there c.args.place.now c.args.depth (tree_of c.args.host.now) less c.requires.there c.in-App.field-0 c.in-App.arguments
    items (ap tree_of c.in-App.is) c.as_slice-items.ensures in
    let k = get_or c.args.place.now c.args.depth 0 in
    IfOk-weaker c.number_items-in-App.result
    (λ _.
    c.number_items-in-App.new.numbers
    ≡ with_variables c.number_replaced.new.numbers (flat_map (instance_variables τ) (take (length items - (k + 1)) (drop (k + 1) items))))
    (λ _.
    (made : Tree) → replaced (drop c.args.depth c.args.place.now) (instance σ (tree_of c.args.new.now)) (instance τ (tree_of c.args.host.now)) ≡ Some made
    → c.number_items-in-App.new.numbers ≡ with_variables c.args.numbers.now (tree_variables made))
    (λ _ last made put.
    let r =
    replaced_below τ (instance σ (tree_of c.args.new.now)) c.args.place.now c.args.depth (tree_of c.args.host.now) c.in-App.field-0
    c.in-App.arguments items c.index-items-index.result made less (ap tree_of c.in-App.is) c.as_slice-items.ensures here c.index-items-index.is put in
    three_parts τ items k c.args.numbers.now c.number_items.new.numbers c.number_replaced.new.numbers c.number_items-in-App.new.numbers
    (tree_variables r.inner) (tree_variables made) c.in_ok-number_items-in-App.ensures (c.in_ok-number_replaced-in-App.ensures r.inner r.inner_made)
    last r.variables)
    c.number_items-in-App.ensures
