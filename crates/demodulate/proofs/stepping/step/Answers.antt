use Rattle.std.proofs.Common.{◌∙◌, subst}
use Rattle.std.proofs.lemmas.Result.{IfOk-weaker}
use Rattle.fol_base.specs.Literal.{clause_of}
use Rattle.fol_base.specs.WellFormed.{SymbolUse}
use Rattle.kernel_steps.specs.declared.step.Reduced.{Reduced}
use Rattle.rewriting.specs.Laws.{AreWellFormed, NoneRewrites}
use Rattle.demodulate.specs.Normal.{IsLeft, IsRewritten, kept}
use Rattle.unit_cutting.specs.Fit.{HasNoEqual, HasNoTrivial, IsMadeOrNone}
use Rattle.demodulate.proofs.StepLemmas.{refused, step-answer}
use Rattle.demodulate.proofs.stepping.step.Goals as goal

pub returns-clause-ok : goal.returns-clause-ok
returns-clause-ok c =
    let clauses = kept c.args.by.now.units.now c.args.by.now.left_out in
    let old = c.args.reduced.now in
    let first = c.drop_trivial.new.reduced in
    let second = c.merge_equal.new.reduced in
    let third = c.rewrite_once.new.reduced in
    let dropped = subst (λ b. IsMadeOrNone old first HasNoTrivial b) c.if-branch.false c.in_ok-drop_trivial.ensures.step in
    let merged = subst (λ b. IsMadeOrNone first second HasNoEqual b) c.if-branch-2.false c.in_ok-merge_equal.ensures.step in
    let left =
    refused (IsRewritten clauses second third) (IsLeft clauses second third) c.in_ok-rewrite_once.field-0 c.in_ok-rewrite_once.ensures.ok c.if-branch-3.false in
    IfOk-weaker c.cut_once.result _ _
    (step-answer c.args.by.now.units.now c.args.units.now c.args.by.now.left_out old third c.cut_once.new.reduced
    (left.same ∙ merged.0 ∙ dropped.0)
    dropped.1
    (subst (λ (r : Reduced). HasNoEqual (clause_of r.clause)) dropped.0 merged.1)
    (subst
    (λ (r : Reduced). (usage : SymbolUse) → AreWellFormed usage clauses (clause_of r.clause) → NoneRewrites usage.is_predicate clauses (clause_of r.clause))
    (merged.0 ∙ dropped.0) left.normal))
    c.cut_once.ensures.ok
