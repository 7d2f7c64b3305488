use Rattle.fol_base.specs.Literal.{clause_of}
use Rattle.unit_cutting.proofs.AboutLeaving.RemovalLemmas.{renumbered}
use Rattle.unit_cutting.proofs.removing.renumbered_without.Goals as goal

pub returns : goal.returns
returns c =
    renumbered (clause_of c.args.clause.now) c.args.index c.count-count.result c.in_ok-terms.terms c.in_ok-bind.bind c.new-numbers.result
    c.number_literals.new.numbers c.number_literals-2.new.numbers c.renamed_terms.new.numbers c.requires c.count-count.ensures c.in_ok-terms.ensures
    c.new-numbers.ensures c.in_ok-number_literals.ensures.met c.in_ok-number_literals-2.ensures.met c.in_ok-bind.ensures.met c.in_ok-bind.ensures.form
