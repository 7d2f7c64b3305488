use Rattle.std.proofs.Common.{◌≡◌, Some, map, length, ap, sym, ◌∙◌, arith}
use Rattle.std.specs.Prelude.{slice_get}
use Rattle.std.proofs.lemmas.List.{length-map}
use Rattle.std.proofs.lemmas.Option.{slice_get_within}
use Rattle.fol_base.specs.Literal.{literal_of}
use Rattle.unit_cutting.proofs.AboutLeaving.DroppingLemmas.{trivial-all, trivial-more, trivial-not, trivial-there}
use Rattle.list_lemmas.proofs.Places.{get-mapped}
use Rattle.unit_cutting.proofs.dropping.find_trivial.Goals as goal

pub loop-index-preserved : goal.loop-index-preserved
loop-index-preserved c =
    let ls = c.args.clause.now.literals in
    let i = c.loop-index.index in
    let l = c.index-literals-index.result in
    let at : slice_get (map literal_of ls) i ≡ Some (literal_of l) =
    ap (λ xs. slice_get (map literal_of xs) i) (sym c.as_slice-literals.ensures)
    ∙ get-mapped literal_of c.as_slice-literals.result.now i l c.loop-index-test.true c.index-literals-index.is in
    trivial-more (map literal_of ls) i c.loop-index.invariant
    (trivial-not (map literal_of ls) i (literal_of l) at (sym c.is_trivial.ensures ∙ c.if-is_trivial.false))

pub returns : goal.returns
returns c =
    let ls = c.args.clause.now.literals in
    let end : length c.as_slice-literals.result.now ≡ c.loop-index.index = omega arith in
    let many : length (map literal_of ls) ≡ c.loop-index.index = length-map ls literal_of ∙ ap length (sym c.as_slice-literals.ensures) ∙ end in
    trivial-all (map literal_of ls) (λ i less. c.loop-index.invariant i (omega (arith, many, less)))

pub returns-then-is_trivial : goal.returns-then-is_trivial
returns-then-is_trivial c =
    let ls = c.args.clause.now.literals in
    let i = c.loop-index.index in
    let l = c.index-literals-index.result in
    let at : slice_get (map literal_of ls) i ≡ Some (literal_of l) =
    ap (λ xs. slice_get (map literal_of xs) i) (sym c.as_slice-literals.ensures)
    ∙ get-mapped literal_of c.as_slice-literals.result.now i l c.loop-index-test.true c.index-literals-index.is in (
      slice_get_within (map literal_of ls) i (literal_of l) at,
      trivial-there (map literal_of ls) i (literal_of l) at (sym c.is_trivial.ensures ∙ c.if-is_trivial.true),
    )
