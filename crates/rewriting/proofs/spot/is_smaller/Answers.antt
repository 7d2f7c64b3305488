use Rattle.std.proofs.Common.{◌≡◌, ◌<◌, ap, ◌∙◌, arith}
use Rattle.fol_base.specs.Order.{tree_greater}
use Rattle.unifier.specs.Matching.{by_pairs}
use Rattle.fol_base.specs.Tree.{tree_size, variable}
use Rattle.fol_base.specs.Instance.{instance}
use Rattle.fol_base.specs.Term.{tree_of}
use Rattle.kbo_order.specs.declared.limits.TheConstants.{COMPARED_SIZE_LIMIT}
use Rattle.kbo_order.proofs.AboutReading.ReadingLemmas.{instance-itself}
use Rattle.rewriting.proofs.spot.is_smaller.Goals as goal

pub greater_under-requires-clause-left_size : goal.greater_under-requires-clause-left_size
greater_under-requires-clause-left_size c =
    let t = tree_of c.args.old.now in
    let small : tree_size (instance variable t) < COMPARED_SIZE_LIMIT = omega (arith, ap tree_size (instance-itself t), c.requires.size, c.requires.small) in
    small

pub returns-clause-exact : goal.returns-clause-exact
returns-clause-exact c =
    c.greater_under.ensures
    ∙ ap (λ t. tree_greater t (instance (by_pairs c.args.terms.now) (tree_of c.args.new.now))) (instance-itself (tree_of c.args.old.now))

pub greater_at_equal_sizes-requires-clause-size : goal.greater_at_equal_sizes-requires-clause-size
greater_at_equal_sizes-requires-clause-size c =
    let t = tree_of c.args.old.now in
    let small : tree_size (instance variable t) < COMPARED_SIZE_LIMIT = omega (arith, ap tree_size (instance-itself t), c.requires.size, c.requires.small) in
    small

pub greater_at_equal_sizes-requires-clause-same : goal.greater_at_equal_sizes-requires-clause-same
greater_at_equal_sizes-requires-clause-same c =
    let t = tree_of c.args.old.now in
    let new = instance (by_pairs c.args.terms.now) (tree_of c.args.new.now) in
    let same : tree_size (instance variable t) ≡ tree_size new =
    omega (arith, ap tree_size (instance-itself t), c.requires.size, c.instance_size-new_size.ensures, c.if-new_size-size-2.true) in
    same

pub returns-then-new_size-size-2-clause-exact : goal.returns-then-new_size-size-2-clause-exact
returns-then-new_size-size-2-clause-exact c =
    c.greater_at_equal_sizes.ensures
    ∙ ap (λ t. tree_greater t (instance (by_pairs c.args.terms.now) (tree_of c.args.new.now))) (instance-itself (tree_of c.args.old.now))
