use Rattle.std.proofs.Common.{◌≡◌, false, Some, List, ap, sym, refl, ◌∙◌, subst}
use Rattle.std.specs.Prelude.{slice_get}
use Rattle.fol_base.specs.Clause.{TreeLiteral, clause_variables}
use Rattle.fol_base.specs.Canonical.{bound_of}
use Rattle.fol_base.specs.Lent.{lent_of}
use Rattle.bank_clause.specs.Clause.{clause_at}
use Rattle.unifier.specs.Bindings.{IsUnified}
use Rattle.eq_rules.proofs.AboutConclusions.PremiseLemmas.{literal-below}
use Rattle.eq_rules.proofs.AboutResolution.ResolutionAnswers.{fits_one}
use Rattle.eq_rules.proofs.resolving.resolution.Goals as goal

pub resolution_by-requires-clause-unified : goal.resolution_by-requires-clause-unified
resolution_by-requires-clause-unified c =
    let d = clause_at c.args.given.now.clause in
    let i = c.args.index in
    let l : TreeLiteral = lent_of c.literal-literal.result in
    let there : slice_get d.literals i ≡ Some l =
    ap (λ (ls : List TreeLiteral). slice_get ls i) (sym c.lend-literals.ensures) ∙ c.literal-literal.ensures in
    let below = literal-below d i l there in
    record {
      literal = l;
      there = there;
      negative = c.if-literal.false;
      unified = subst (λ o. IsUnified false l.left l.right o) c.in-Some.is c.in_ok-unify.ensures.unified;
      counted =
          fits_one c.in_ok-unify.field-0 c.in-Some.unifier (bound_of (clause_variables d)) c.in-Some.is
          (c.in_ok-unify.ensures.fits_together refl (bound_of (clause_variables d)) below.0 below.1);
    }
