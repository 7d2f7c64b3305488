use Rattle.std.proofs.Common.{◌≡◌, Bool, List, ℕ, true, length, ap, sym, ◌∙◌}
use Rattle.std.specs.Prelude.{slice_get}
use Rattle.std.proofs.lemmas.Result.{IfOk-weaker}
use Rattle.fol_base.specs.Clause.{TreeLiteral}
use Rattle.fol_base.specs.Lent.{lent_of}
use Rattle.fol_base.specs.Subsumption.{assertions, is_among}
use Rattle.bank_clause.specs.Clause.{clause_at}
use Rattle.subsume.proofs.AboutSearch.SubsumingLemmas.{asserted}
use Rattle.unit_cutting.proofs.AboutCuts.CutAnswers.{single}
use Rattle.unit_cutting.proofs.SubsumerLemmas.{asserts-more, covering, differ, other-sign}
use Rattle.unit_cutting.proofs.subsuming.covers.Goals as goal

pub returns-then-is_positive-literal : goal.returns-then-is_positive-literal
returns-then-is_positive-literal c =
    other-sign (clause_at c.args.unit.now.clause) (lent_of c.args.literal) c.args.names.now c.is_positive.result c.is_positive.ensures
    (differ c.is_positive.result (lent_of c.args.literal).positive c.if-is_positive-literal.true)

pub returns-then-not-has_asserted : goal.returns-then-not-has_asserted
returns-then-not-has_asserted c =
    asserts-more (clause_at c.args.unit.now.clause) (lent_of c.args.literal) c.args.names.now
    (ap (λ xs. is_among xs (assertions c.args.names.now)) (asserted c.args.unit.now.clause.names ∙ sym c.names.ensures.names)
    ∙ sym c.has_asserted.ensures ∙ c.if-not-has_asserted.true)

pub returns : goal.returns
returns c =
    let uc = clause_at c.args.unit.now.clause in
    let k = lent_of c.literal.result in
    IfOk-weaker c.becomes.result _ _
    (λ answer h.
    covering uc k (lent_of c.args.literal) c.args.names.now answer
    (single uc.literals k c.requires.one (ap (λ (ls : List TreeLiteral). slice_get ls 0) (sym c.lend-own.ensures) ∙ c.literal.ensures))
    (ap (λ xs. is_among xs (assertions c.args.names.now)) (asserted c.args.unit.now.clause.names ∙ sym c.names.ensures.names)
    ∙ sym c.has_asserted.ensures ∙ c.if-not-has_asserted.false)
    h)
    c.becomes.ensures
