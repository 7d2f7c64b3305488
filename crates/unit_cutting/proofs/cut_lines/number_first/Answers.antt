use Rattle.fol_base.specs.Literal.{clause_of}
use Rattle.fol_base.specs.Term.{tree_of}
use Rattle.unit_cutting.proofs.AboutCuts.CutAnswers.{numbered-first}
use Rattle.unit_cutting.proofs.cut_lines.number_first.Goals as goal

pub returns : goal.returns
returns c =
    numbered-first (clause_of c.args.clause.now) c.args.index c.count-count.result c.args.own.now (tree_of c.args.kept.now) c.requires.inside c.count-count.ensures
    c.requires.own c.args.numbers.now c.number_term.new.numbers c.number_term-2.new.numbers c.number_literals.new.numbers c.number_literals-2.new.numbers c.in_ok-number_term.ensures.met c.in_ok-number_term-2.ensures.met c.in_ok-number_literals.ensures.met c.in_ok-number_literals-2.ensures.met
