use Rattle.std.proofs.Common.{◌≡◌, List, length, ap, sym, ◌∙◌, arith}
use Rattle.std.specs.Prelude.{slice_get}
use Rattle.std.proofs.lemmas.List.{length-map}
use Rattle.std.proofs.lemmas.Result.{IfOk-weaker}
use Rattle.fol_base.specs.Clause.{TreeLiteral}
use Rattle.fol_base.specs.Lent.{lent_of}
use Rattle.term_bank.specs.Literal.{literal_at}
use Rattle.bank_clause.specs.Clause.{clause_at}
use Rattle.unit_cutting.proofs.AboutCuts.CutAnswers.{of-unit, single}
use Rattle.unit_cutting.proofs.cutting.find_cut_by.Goals as goal

pub returns-then-literals-ne1 : goal.returns-then-literals-ne1
returns-then-literals-ne1 g c = λ u alone.
    let one : length c.literals.result.now ≡ 1 =
    ap length c.literals.ensures.literals ∙ sym (length-map c.args.unit.now.clause.literals literal_at) ∙ ap length alone in
    absurd (omega (arith, one, c.if-literals-ne1.true))

pub returns : goal.returns
returns g c =
    let uc = clause_at c.args.unit.now.clause in
    let u = lent_of c.literal.result in
    let one : length uc.literals ≡ 1 =
    length-map c.args.unit.now.clause.literals literal_at ∙ ap length (sym c.literals.ensures.literals) ∙ c.if-literals-ne1.false in
    IfOk-weaker c.find_cut.result _ _
    (of-unit uc u (lent_of c.complement.result) (g.L.LendsLiterals.meaning c.args.literals.now)
    (single uc.literals u one (ap (λ (ls : List TreeLiteral). slice_get ls 0) (sym c.lend-own.ensures) ∙ c.literal.ensures)) c.complement.ensures)
    c.find_cut.ensures
