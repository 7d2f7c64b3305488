use Rattle.std.proofs.Common.{ap, ap₂, ◌∙◌, arith}
use Rattle.fol_base.specs.Clause.{literal_size}
use Rattle.fol_base.specs.Lent.{lent_of}
use Rattle.fol_base.specs.Order.{compare_literals}
use Rattle.kbo_order.proofs.AboutMultisets.LiteralLemmas.{literal-itself}
use Rattle.kbo_order.proofs.literals.compare_literals.Goals as goal

pub compare_literals_under-requires : goal.compare_literals_under-requires
compare_literals_under-requires c = record {
  left_size = omega (arith, ap literal_size (literal-itself (lent_of c.args.left)), c.requires.left_size);
  right_size = omega (arith, ap literal_size (literal-itself (lent_of c.args.right)), c.requires.right_size);
}

pub returns : goal.returns
returns c =
    c.compare_literals_under.ensures
    ∙ ap₂ compare_literals (literal-itself (lent_of c.args.left)) (literal-itself (lent_of c.args.right))
