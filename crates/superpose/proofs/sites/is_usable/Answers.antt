use Rattle.std.proofs.Common.{◌<◌, arith}
use Rattle.fol_base.specs.Tree.{variable}
use Rattle.fol_base.specs.Clause.{literal_size, literal_instance}
use Rattle.fol_base.specs.Lent.{lent_of}
use Rattle.kbo_order.specs.declared.limits.TheConstants.{COMPARED_SIZE_LIMIT}
use Rattle.eq_rules.proofs.AboutFactoring.FactorAnswers.{unbound_size}
use Rattle.superpose.proofs.sites.is_usable.Goals as goal

pub is_not_below-requires : goal.is_not_below-requires
is_not_below-requires c =
    let same = unbound_size (lent_of c.args.literal) in
    let small : literal_size (literal_instance variable (lent_of c.args.literal)) < COMPARED_SIZE_LIMIT = omega (arith, same, c.requires) in
    small
