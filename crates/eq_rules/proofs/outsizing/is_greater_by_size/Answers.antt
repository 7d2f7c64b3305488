use Rattle.std.proofs.Common.{◌<◌, arith, sym}
use Rattle.fol_base.specs.Instance.{instance}
use Rattle.fol_base.specs.Term.{tree_of}
use Rattle.fol_base.specs.Tree.{tree_size}
use Rattle.unifier.specs.SolvedForm.{substitution_of}
use Rattle.kbo_order.proofs.AboutReading.HeadLemmas.{smaller-not_greater}
use Rattle.eq_rules.proofs.outsizing.is_greater_by_size.Goals as goal

pub returns-then-one_size-other_size : goal.returns-then-one_size-other_size
returns-then-one_size-other_size c =
    let σ = substitution_of c.args.unifier.now c.args.of in
    let one = instance σ (tree_of c.args.one.now) in
    let other = instance σ (tree_of c.args.other.now) in
    let less : tree_size one < tree_size other =
    omega (arith, c.in_ok-one_size.ensures, c.in_ok-other_size.ensures, c.if-one_size-other_size.true) in
    sym (smaller-not_greater one other less)
