use Rattle.std.proofs.Common.{◌<◌, ap, ap₂, ◌∙◌, arith}
use Rattle.fol_base.specs.Tree.{tree_size, variable}
use Rattle.fol_base.specs.Instance.{instance}
use Rattle.fol_base.specs.Order.{tree_greater}
use Rattle.fol_base.specs.Term.{tree_of}
use Rattle.kbo_order.specs.declared.limits.TheConstants.{COMPARED_SIZE_LIMIT}
use Rattle.kbo_order.proofs.AboutReading.ReadingLemmas.{instance-itself}
use Rattle.kbo_order.proofs.greater.is_greater.Goals as goal

pub greater_under-requires-clause-left_size : goal.greater_under-requires-clause-left_size
greater_under-requires-clause-left_size c =
    let t = tree_of c.args.one.now in
    let small : tree_size (instance variable t) < COMPARED_SIZE_LIMIT = omega (arith, ap tree_size (instance-itself t), c.requires.one) in
    small

pub greater_under-requires-clause-right_size : goal.greater_under-requires-clause-right_size
greater_under-requires-clause-right_size c =
    let t = tree_of c.args.other.now in
    let small : tree_size (instance variable t) < COMPARED_SIZE_LIMIT = omega (arith, ap tree_size (instance-itself t), c.requires.other) in
    small

pub returns : goal.returns
returns c =
    c.greater_under.ensures
    ∙ ap₂ tree_greater (instance-itself (tree_of c.args.one.now)) (instance-itself (tree_of c.args.other.now))
