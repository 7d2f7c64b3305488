use Rattle.std.proofs.Common.{arith, ap, sym, ◌∙◌, eq-eqb}
use Rattle.std.proofs.lemmas.Bool.{eqb-true}
use Rattle.std.proofs.lemmas.Result.{IfOk-weaker}
use Rattle.fol_base.specs.Ground.{literals_instance}
use Rattle.fol_base.specs.Lent.{lent_of}
use Rattle.fol_base.specs.Selection.{eligible}
use Rattle.fol_base.specs.declared.clause.Side.TheVariants.{Right}
use Rattle.unifier.specs.SolvedForm.{substitution_of}
use Rattle.eq_rules.proofs.AboutConclusions.OutsizeLemmas.{outsizes-eligible}
use Rattle.superpose.proofs.AboutSites.SettledLemmas.{settled-in-order}
use Rattle.superpose.proofs.overweight.enters_by_sizes.Goals as goal

pub is_settled-requires : goal.is_settled-requires
is_settled-requires c = omega (arith, c.requires.settled.many, c.requires.inside)

pub returns-then-is_settled : goal.returns-then-is_settled
returns-then-is_settled c yes_ =
    settled-in-order c.args.literals.now c.args.sites.now.choice c.args.at
    (c.is_settled.ensures c.args.literals.now c.requires.settled c.if-is_settled.true) (substitution_of c.args.unifier.now Right)

pub returns-in-Some : goal.returns-in-Some
returns-in-Some c yes_ =
    let i = c.args.at.literal in
    let l = lent_of c.literal-target.result in
    let ls = literals_instance (substitution_of c.args.unifier.now Right) c.args.literals.now in
    record {
      literal = l;
      there = c.literal-target.ensures;
      beside = c.in_ok-larger.ensures c.if-not-larger.false;
      eligible_there =
          ap (λ o. eligible ls i o l.positive) c.in-Some.is ∙ eq-eqb i c.in-Some.chosen (sym (eqb-true c.in-Some.chosen i yes_));
    }

pub returns-in-None : goal.returns-in-None
returns-in-None c =
    let i = c.args.at.literal in
    let l = lent_of c.literal-target.result in
    let σ = substitution_of c.args.unifier.now Right in
    let ls = literals_instance σ c.args.literals.now in
    IfOk-weaker c.outsizes_others.result _ _
    (λ sure outsizes yes_. record {
      literal = l;
      there = c.literal-target.ensures;
      beside = c.in_ok-larger.ensures c.if-not-larger.false;
      eligible_there =
          ap (λ o. eligible ls i o l.positive) c.in-None.is
          ∙ outsizes-eligible σ c.args.literals.now i c.requires.inside (outsizes yes_) l.positive;
    })
    c.outsizes_others.ensures
