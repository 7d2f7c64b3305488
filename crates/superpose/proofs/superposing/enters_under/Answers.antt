use Rattle.std.proofs.Common.{sym, arith}
use Rattle.fol_base.specs.Instance.{substitution}
use Rattle.fol_base.specs.Lent.{lent_of}
use Rattle.superpose.proofs.AboutSites.SettledLemmas.{settled-enters}
use Rattle.kbo_order.proofs.AboutMultisets.ClauseLoops.{mapped-size}
use Rattle.superpose.proofs.superposing.enters_under.Goals as goal

pub is_settled-requires : goal.is_settled-requires
is_settled-requires c = omega (arith, c.requires.settled.many, c.requires.into_inside)

pub returns-then-is_settled : goal.returns-then-is_settled
returns-then-is_settled c =
    sym (settled-enters c.args.first.now c.args.from c.args.second.now c.args.into.now c.args.sites.now.choice
    (lent_of c.literal-equation.result) (lent_of c.literal-target.result) c.literal-equation.ensures c.literal-target.ensures
    (c.is_settled.ensures c.args.second.now c.requires.settled c.if-is_settled.true)
    (substitution c.args.first_terms.now) (substitution c.args.second_terms.now) (sym c.if-others_coincide.ensures))

pub is_not_below-requires : goal.is_not_below-requires
is_not_below-requires c =
    let low =
    mapped-size (substitution c.args.second_terms.now) c.args.second.now c.args.into.now.at.literal (lent_of c.literal-target.result) c.literal-target.ensures in
    omega (arith, low, c.requires.size)
