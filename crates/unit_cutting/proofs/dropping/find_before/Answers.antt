use Rattle.std.proofs.Common.{◌≡◌, ◌<◌, Some, map, length, ap, ap₂, sym, ◌∙◌, arith}
use Rattle.std.specs.Prelude.{slice_get}
use Rattle.std.proofs.lemmas.List.{length-map}
use Rattle.fol_base.specs.Literal.{clause_of, literal_of}
use Rattle.fol_base.specs.Order.{equivalent_literals}
use Rattle.unit_cutting.proofs.AboutLeaving.DroppingLemmas.{before-more, equal-there}
use Rattle.list_lemmas.proofs.Places.{get-mapped}
use Rattle.unit_cutting.proofs.dropping.find_before.Goals as goal

pub returns-then-equivalent_literals : goal.returns-then-equivalent_literals
returns-then-equivalent_literals c =
    let ls = c.args.clause.now.literals in
    let many : length c.as_slice-literals.result.now ≡ length (map literal_of ls) = ap length c.as_slice-literals.ensures ∙ sym (length-map ls literal_of) in
    let goes_less : c.args.goes < length c.as_slice-literals.result.now = omega (arith, many, c.requires) in
    let stays_less : c.loop-stays.stays < length c.as_slice-literals.result.now = omega (arith, goes_less, c.loop-stays-test.true) in
    let stays_there : slice_get (map literal_of ls) c.loop-stays.stays ≡ Some (literal_of c.index-literals-stays.result) =
    ap (λ xs. slice_get (map literal_of xs) c.loop-stays.stays) (sym c.as_slice-literals.ensures)
    ∙ get-mapped literal_of c.as_slice-literals.result.now c.loop-stays.stays c.index-literals-stays.result stays_less c.index-literals-stays.is in
    let goes_there : slice_get (map literal_of ls) c.args.goes ≡ Some (literal_of c.index-literals-goes.result) =
    ap (λ xs. slice_get (map literal_of xs) c.args.goes) (sym c.as_slice-literals.ensures)
    ∙ get-mapped literal_of c.as_slice-literals.result.now c.args.goes c.index-literals-goes.result goes_less c.index-literals-goes.is in
    record {
      goes_inside = c.requires;
      applies =
          equal-there (map literal_of ls) c.loop-stays.stays c.args.goes (literal_of c.index-literals-stays.result) (literal_of c.index-literals-goes.result)
          c.loop-stays-test.true stays_there goes_there
          (ap₂ equivalent_literals (sym c.lend.ensures) (sym c.lend-literal.ensures) ∙ sym c.equivalent_literals.ensures ∙ c.if-equivalent_literals.true);
    }

pub loop-stays-preserved : goal.loop-stays-preserved
loop-stays-preserved c =
    let ls = c.args.clause.now.literals in
    let many : length c.as_slice-literals.result.now ≡ length (map literal_of ls) = ap length c.as_slice-literals.ensures ∙ sym (length-map ls literal_of) in
    let goes_less : c.args.goes < length c.as_slice-literals.result.now = omega (arith, many, c.requires) in
    let stays_less : c.loop-stays.stays < length c.as_slice-literals.result.now = omega (arith, goes_less, c.loop-stays-test.true) in
    let stays_there : slice_get (map literal_of ls) c.loop-stays.stays ≡ Some (literal_of c.index-literals-stays.result) =
    ap (λ xs. slice_get (map literal_of xs) c.loop-stays.stays) (sym c.as_slice-literals.ensures)
    ∙ get-mapped literal_of c.as_slice-literals.result.now c.loop-stays.stays c.index-literals-stays.result stays_less c.index-literals-stays.is in
    let goes_there : slice_get (map literal_of ls) c.args.goes ≡ Some (literal_of c.index-literals-goes.result) =
    ap (λ xs. slice_get (map literal_of xs) c.args.goes) (sym c.as_slice-literals.ensures)
    ∙ get-mapped literal_of c.as_slice-literals.result.now c.args.goes c.index-literals-goes.result goes_less c.index-literals-goes.is in
    before-more (clause_of c.args.clause.now) c.loop-stays.stays c.args.goes (literal_of c.index-literals-stays.result)
    (literal_of c.index-literals-goes.result) stays_there goes_there
    (ap₂ equivalent_literals (sym c.lend.ensures) (sym c.lend-literal.ensures) ∙ sym c.equivalent_literals.ensures ∙ c.if-equivalent_literals.false)
    c.loop-stays.invariant
