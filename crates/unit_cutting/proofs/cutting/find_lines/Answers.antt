use Rattle.std.proofs.Common.{ap, sym, ◌∙◌}
use Rattle.fol_base.specs.Literal.{clause_of}
use Rattle.fol_base.specs.Subsumption.{assertions, is_among}
use Rattle.unit_cutting.proofs.AboutCuts.CutAnswers.{cut-made, none-asserted, none-fits}
use Rattle.unit_cutting.proofs.cutting.find_lines.Goals as goal

pub returns-then-not-has_asserted : goal.returns-then-not-has_asserted
returns-then-not-has_asserted c =
    none-asserted c.args.unit.now (clause_of c.args.clause.now)
    (ap (λ xs. is_among xs (assertions c.args.clause.now.names)) (sym c.names.ensures.names)
    ∙ ap (λ xs. is_among c.names.result.now (assertions xs)) (sym c.as_slice.ensures)
    ∙ sym c.has_asserted.ensures ∙ c.if-not-has_asserted.true)

pub cut_lines-requires-clause-cut : goal.cut_lines-requires-clause-cut
cut_lines-requires-clause-cut c = rw c.in-Some.is at c.in_ok-find_cut_by.ensures

pub returns-in-None : goal.returns-in-None
returns-in-None c = none-fits c.args.unit.now (clause_of c.args.clause.now) (rw c.in-None.is at c.in_ok-find_cut_by.ensures)

pub returns-in_ok-lines-in-Some : goal.returns-in_ok-lines-in-Some
returns-in_ok-lines-in-Some c =
    cut-made c.args.unit.now (clause_of c.args.clause.now) c.args.number c.in-Some.cut c.in_ok-lines-in-Some.lines
    (rw c.in-Some.is at c.in_ok-find_cut_by.ensures)
    (ap (λ xs. is_among xs (assertions c.args.clause.now.names)) (sym c.names.ensures.names)
    ∙ ap (λ xs. is_among c.names.result.now (assertions xs)) (sym c.as_slice.ensures)
    ∙ sym c.has_asserted.ensures ∙ c.if-not-has_asserted.false)
    c.in_ok-lines-in-Some.ensures
