use Rattle.std.proofs.Common.{◌≡◌, false, None, List, ap, sym, ◌∙◌, subst}
use Rattle.std.proofs.lemmas.Result.{IfOk-weaker}
use Rattle.fol_base.specs.Clause.{TreeLiteral}
use Rattle.fol_base.specs.Ground.{literals_instance}
use Rattle.fol_base.specs.Selection.{eligible}
use Rattle.fol_base.specs.declared.clause.Side.TheVariants.{Left}
use Rattle.bank_clause.specs.Clause.{clause_at}
use Rattle.unifier.specs.SolvedForm.{substitution_of}
use Rattle.eq_rules.specs.Outsizing.{Outsizes}
use Rattle.eq_rules.proofs.AboutConclusions.OutsizeLemmas.{outsizes-eligible}
use Rattle.eq_rules.proofs.AboutFactoring.FactorAnswers.{none_there}
use Rattle.eq_rules.proofs.AboutResolution.ResolutionLemmas.{chosen_eligible}
use Rattle.eq_rules.proofs.resolving.is_eligible_by_size.Goals as goal

pub returns-then-is_some : goal.returns-then-is_some
returns-then-is_some c yes_ =
    let d = clause_at c.args.given.now.clause in
    chosen_eligible c.args.choice (literals_instance (substitution_of c.args.unifier.now Left) d.literals) c.args.index false
    (sym c.is_some.ensures ∙ c.if-is_some.true) c.requires.not_other

pub returns : goal.returns
returns c =
    let ls = (clause_at c.args.given.now.clause).literals in
    let i = c.args.index in
    let σ = substitution_of c.args.unifier.now Left in
    let none : c.args.choice ≡ None = none_there c.args.choice (sym c.is_some.ensures ∙ c.if-is_some.false) in
    IfOk-weaker c.outsizes_others.result _ _
    (λ sure outsizes yes_.
    ap (λ o. eligible (literals_instance σ ls) i o false) none
    ∙ outsizes-eligible σ ls i c.requires.inside
    (subst (λ (ks : List TreeLiteral). Outsizes σ ks i i) c.lend.ensures (outsizes yes_)) false)
    c.outsizes_others.ensures
