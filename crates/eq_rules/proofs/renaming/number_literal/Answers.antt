use Rattle.fol_base.specs.Tree.{tree_variables}
use Rattle.fol_base.specs.Instance.{instance}
use Rattle.fol_base.specs.Term.{tree_of}
use Rattle.eq_rules.proofs.AboutConclusions.KeptLemmas.{kept-after}
use Rattle.eq_rules.proofs.renaming.number_literal.Goals as goal

pub returns-clause-kept : goal.returns-clause-kept
returns-clause-kept g c =
    let σ = g.S.LendsTerms.meaning c.args.bind.now in
    kept-after c.number_instance-2.result c.args.numbers.now (tree_variables (instance σ (tree_of c.args.literal.left.now)))
    c.number_instance.new.numbers c.number_instance-2.new.numbers c.in_ok-number_instance.ensures.met c.number_instance-2.ensures.kept
