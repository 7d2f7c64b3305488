use Rattle.std.proofs.Common.{arith, inl, inr}
use Rattle.fol_base.specs.Lent.{lent_of}
use Rattle.unifier.specs.SolvedForm.{substitution_of}
use Rattle.eq_rules.specs.Outsizing.{larger_size}
use Rattle.eq_rules.proofs.AboutConclusions.OutsizeLemmas.{outsizes-all, outsizes-more, outsizes-past}
use Rattle.eq_rules.proofs.outsizing.outsizes_others.Goals as goal
use Rattle.eq_rules.proofs.outsizing.outsizes_others.Goals.{then-other-index+then-other-but+in_ok-other_size+else-other_size-size, else-other-index, else-other-index-via-then-other-index+else-other-but, else-other-index-via-else-other-index}

pub loop-other-init : goal.loop-other-init
loop-other-init g c = λ j m less at not_i not_but. absurd (omega (arith, less))

pub loop-other-preserved : goal.loop-other-preserved
loop-other-preserved g c =
    let σ = substitution_of c.args.unifier.now c.args.of in
    let ls = g.L.LendsLiterals.meaning c.args.literals.now in
    let n = c.loop-other.other in
    let size = c.in_ok-size.size in
    elim c.if-other-index.branch [
      | then-other-index+then-other-but+in_ok-other_size+else-other_size-size w ↦
          outsizes-more σ ls c.args.index c.args.but n size w.in_ok-other_size.other_size (lent_of w.literal.result)
          (larger_size σ (lent_of c.literal-literal.result)) w.literal.ensures w.in_ok-other_size.ensures c.in_ok-size.ensures
          (omega (arith, w.if-other_size-size.false)) c.loop-other.invariant
      | else-other-index w ↦
          elim w.else-other-index.branch [
            | else-other-index-via-then-other-index+else-other-but w' ↦
                outsizes-past σ ls c.args.index c.args.but n size (inr (omega (arith, w'.if-other-but.false))) c.loop-other.invariant
            | else-other-index-via-else-other-index w' ↦
                outsizes-past σ ls c.args.index c.args.but n size (inl (omega (arith, w'.if-other-index.false))) c.loop-other.invariant
          ]
    ]

pub returns : goal.returns
returns g c yes_ =
    outsizes-all (substitution_of c.args.unifier.now c.args.of) (g.L.LendsLiterals.meaning c.args.literals.now) c.args.index c.args.but
    c.loop-other.other c.in_ok-size.size (lent_of c.literal-literal.result)
    (omega (arith, c.loop-other-test.false, c.count-other-end.ensures)) c.literal-literal.ensures c.in_ok-size.ensures c.loop-other.invariant
