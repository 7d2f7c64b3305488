use Rattle.std.proofs.Common.{sym, arith}
use Rattle.fol_base.specs.Instance.{substitution}
use Rattle.fol_base.specs.Lent.{lent_of}
use Rattle.superpose.proofs.AboutSites.SettledLemmas.{settled-starts}
use Rattle.kbo_order.proofs.AboutMultisets.ClauseLoops.{mapped-size}
use Rattle.superpose.proofs.superposing.starts_under.Goals as goal

pub starts_settled-requires : goal.starts_settled-requires
starts_settled-requires c = omega (arith, c.requires.settled.many, c.requires.inside)

pub returns-then-starts_settled : goal.returns-then-starts_settled
returns-then-starts_settled c =
    sym (settled-starts c.args.literals.now c.args.from
    (c.starts_settled.ensures c.args.literals.now c.requires.settled c.if-starts_settled.true) (substitution c.args.terms.now))

pub is_not_below-requires : goal.is_not_below-requires
is_not_below-requires c =
    let low = mapped-size (substitution c.args.terms.now) c.args.literals.now c.args.from.literal (lent_of c.literal-equation.result) c.literal-equation.ensures in
    omega (arith, low, c.requires.size)
