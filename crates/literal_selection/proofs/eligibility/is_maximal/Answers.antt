use Rattle.std.proofs.Common.{ap, not, sym, ◌∙◌, arith}
use Rattle.fol_base.specs.Clause.{literal_instance}
use Rattle.fol_base.specs.Ground.{literals_instance}
use Rattle.fol_base.specs.Lent.{lent_of}
use Rattle.kbo_order.proofs.AboutMultisets.ClauseLoops.{item-size}
use Rattle.literal_selection.proofs.EligibleLemmas.{instance-item, itself-passed, other-passed, other-outdoes}
use Rattle.literal_selection.proofs.eligibility.is_maximal.Goals as goal
use Rattle.literal_selection.proofs.eligibility.is_maximal.Goals.{else-other-index-via-then-other-index+else-outdoes, else-other-index-via-else-other-index}

pub outdoes-requires-clause-size : goal.outdoes-requires-clause-size
outdoes-requires-clause-size g c =
    let σ = g.S.LendsTerms.meaning c.args.bind.now in
    let ls = g.L.LendsLiterals.meaning c.args.literals.now in
    let l = lent_of c.literal-literal.result in
    omega (
      arith,
      item-size (literals_instance σ ls) c.args.index (literal_instance σ l) (instance-item σ ls c.args.index l c.literal-literal.ensures),
      c.requires.size,
    )

pub outdoes-requires-clause-other_size : goal.outdoes-requires-clause-other_size
outdoes-requires-clause-other_size g c =
    let σ = g.S.LendsTerms.meaning c.args.bind.now in
    let ls = g.L.LendsLiterals.meaning c.args.literals.now in
    let m = lent_of c.literal.result in
    omega (
      arith,
      item-size (literals_instance σ ls) c.loop-other.other (literal_instance σ m) (instance-item σ ls c.loop-other.other m c.literal.ensures),
      c.requires.size,
    )

pub returns-then-outdoes : goal.returns-then-outdoes
returns-then-outdoes g c =
    let σ = g.S.LendsTerms.meaning c.args.bind.now in
    let ls = g.L.LendsLiterals.meaning c.args.literals.now in
    let l = lent_of c.literal-literal.result in
    let m = lent_of c.literal.result in
    other-outdoes c.args.strict (literals_instance σ ls) c.args.index c.loop-other.other (literal_instance σ l) (literal_instance σ m)
    (instance-item σ ls c.args.index l c.literal-literal.ensures) (instance-item σ ls c.loop-other.other m c.literal.ensures)
    c.if-other-index.true
    (sym c.outdoes.ensures ∙ ap not c.if-outdoes.true)

pub loop-other-preserved : goal.loop-other-preserved
loop-other-preserved g c =
    let σ = g.S.LendsTerms.meaning c.args.bind.now in
    let ls = g.L.LendsLiterals.meaning c.args.literals.now in
    let l = lent_of c.literal-literal.result in
    elim c.else-other-index.branch [
      | else-other-index-via-then-other-index+else-outdoes w ↦
          other-passed c.args.strict (literals_instance σ ls) c.args.index c.loop-other.other (literal_instance σ l)
          (literal_instance σ (lent_of w.literal.result))
          (instance-item σ ls c.loop-other.other (lent_of w.literal.result) w.literal.ensures)
          w.if-other-index.true c.loop-other.invariant (sym w.outdoes.ensures ∙ ap not w.if-outdoes.false)
      | else-other-index-via-else-other-index w ↦
          itself-passed c.args.strict (literals_instance σ ls) c.args.index c.loop-other.other (literal_instance σ l)
          (instance-item σ ls c.args.index l c.literal-literal.ensures) w.if-other-index.false c.loop-other.invariant
    ]
