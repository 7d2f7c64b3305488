use Rattle.std.proofs.Common.{◌≡◌, ℕ, ◌*◌, ◌<◌, ◌≤◌, ◌^◌, Bool, List, nat_le, get_or, length, ap, ◌∙◌, le-leb, arith}
use Rattle.axiom_filter.proofs.AboutTables.TriggerLemmas.{filter-begins, filter-passes, filter-fails, filter-done, product-fits, not-at-most}
use Rattle.axiom_filter.proofs.triggers.triggered_by.Goals as goal
use Rattle.axiom_filter.proofs.triggers.triggered_by.Goals.{then-count-from+in_ok-push, else-count-from}

abbrev passes : List ℕ → List ℕ → ℕ → ℕ → Bool
passes places rarest tolerance place = nat_le (100 * length places) (tolerance * get_or rarest place 0)

pub bounds-rarest-place : goal.bounds-rarest-place
bounds-rarest-place c = omega (arith, c.requires c.loop-place.place-index 0 c.loop-place-test.true)

pub offset_bounds-rarest-place : goal.offset_bounds-rarest-place
offset_bounds-rarest-place c = record { fits = omega (arith, c.requires c.loop-place.place-index 0 c.loop-place-test.true, c.well_formed) }

pub loop-place-init : goal.loop-place-init
loop-place-init c = filter-begins (passes c.args.places.now c.args.rarest.now c.args.tolerance) c.args.places.now c.new-list.result c.new-list.ensures

pub overflow_mul-from : goal.overflow_mul-from
overflow_mul-from c =
    let place : ℕ = get_or c.args.places.now c.loop-place.place-index 0 in
    let few : c.from.result < 2 ^ 32 = omega (arith, c.from.ensures, c.ranges.tolerance) in
    let count : c.from-in-loop-place.result < 2 ^ 64 = omega (arith, c.from-in-loop-place.ensures, c.type_inv.rarest place) in
    record { fits = omega (arith, product-fits c.from.result c.from-in-loop-place.result few count) }

pub loop-place-preserved : goal.loop-place-preserved
loop-place-preserved c =
    let place : ℕ = get_or c.args.places.now c.loop-place.place-index 0 in
    let product : c.from.result * c.from-in-loop-place.result ≡ c.args.tolerance * get_or c.args.rarest.now place 0 =
    ap (λ k. k * c.from-in-loop-place.result) c.from.ensures ∙ ap (λ k. c.args.tolerance * k) c.from-in-loop-place.ensures in
    elim c.if-count-from.branch [
      | then-count-from+in_ok-push w ↦
          filter-passes (passes c.args.places.now c.args.rarest.now c.args.tolerance) c.args.places.now c.loop-place.place-index c.loop-place.list c.if-count-from.list
          c.loop-place-test.true
          (let small : 100 * length c.args.places.now ≤ c.args.tolerance * get_or c.args.rarest.now place 0 = omega (arith, w.if-count-from.true, product) in
          le-leb (100 * length c.args.places.now) (c.args.tolerance * get_or c.args.rarest.now place 0) small)
          (w.list-is ∙ w.in_ok-push.ensures.ok) c.loop-place.invariant
      | else-count-from w ↦
          filter-fails (passes c.args.places.now c.args.rarest.now c.args.tolerance) c.args.places.now c.loop-place.place-index c.loop-place.list c.if-count-from.list
          c.loop-place-test.true
          (let large : c.args.tolerance * get_or c.args.rarest.now place 0 < 100 * length c.args.places.now = omega (arith, w.if-count-from.false, product) in
          not-at-most (100 * length c.args.places.now) (c.args.tolerance * get_or c.args.rarest.now place 0) large)
          w.list-is c.loop-place.invariant
    ]

pub returns : goal.returns
returns c =
    filter-done (passes c.args.places.now c.args.rarest.now c.args.tolerance) c.args.places.now c.loop-place.place-index c.loop-place.list c.loop-place-test.false
    c.loop-place.invariant
