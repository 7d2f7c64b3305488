use Rattle.std.proofs.Common.{true, arith}
use Rattle.std.proofs.lemmas.Result.{IfOk-weaker}
use Rattle.fol_base.specs.Lent.{lent_of}
use Rattle.fol_base.specs.declared.clause.Side.TheVariants.{Left}
use Rattle.unifier.specs.SolvedForm.{substitution_of}
use Rattle.eq_rules.proofs.AboutConclusions.OutsizeLemmas.{outsizes-eligible}
use Rattle.superpose.proofs.AboutSites.SettledLemmas.{settled-starts, starts-by}
use Rattle.superpose.proofs.overweight.starts_by_sizes.Goals as goal

pub starts_settled-requires : goal.starts_settled-requires
starts_settled-requires c = omega (arith, c.requires.settled.many, c.requires.inside)

pub returns-then-starts_settled : goal.returns-then-starts_settled
returns-then-starts_settled c yes_ =
    settled-starts c.args.literals.now c.args.from
    (c.starts_settled.ensures c.args.literals.now c.requires.settled c.if-starts_settled.true) (substitution_of c.args.unifier.now Left)

pub returns-then-larger : goal.returns-then-larger
returns-then-larger c =
    let ls = c.args.literals.now in
    let s = c.args.from in
    let σ = substitution_of c.args.unifier.now Left in
    IfOk-weaker c.outsizes_others.result _ _
    (λ sure outsizes yes_.
    starts-by ls s (lent_of c.literal-equation.result) σ c.literal-equation.ensures (c.in_ok-larger.ensures c.if-larger.true)
    (outsizes-eligible σ ls s.literal c.requires.inside (outsizes yes_) true))
    c.outsizes_others.ensures
