use Rattle.std.proofs.Common.{◌≡◌, ◌==◌, false, Some, List, ap, sym, refl, ◌∙◌, subst}
use Rattle.std.specs.Prelude.{slice_get}
use Rattle.std.proofs.lemmas.Bool.{eqb-true, false_from_ne_true}
use Rattle.fol_base.specs.Tree.{Tree, VariablesBelow}
use Rattle.fol_base.specs.Term.{tree_of}
use Rattle.fol_base.specs.Clause.{TreeLiteral, clause_variables}
use Rattle.fol_base.specs.Canonical.{bound_of}
use Rattle.fol_base.specs.Lent.{lent_of}
use Rattle.fol_base.specs.Sides.{side_of}
use Rattle.bank_clause.specs.Clause.{clause_at}
use Rattle.unifier.specs.Bindings.{IsUnified}
use Rattle.eq_rules.specs.Inferences.{alone}
use Rattle.eq_rules.proofs.AboutFactoring.FactorRefused.{unlike_unfactored}
use Rattle.eq_rules.proofs.AboutConclusions.SideLemmas.{side-below}
use Rattle.eq_rules.proofs.AboutConclusions.MadeLemmas.{alone_there}
use Rattle.eq_rules.proofs.AboutConclusions.PremiseLemmas.{literal-below, literal-kind}
use Rattle.eq_rules.proofs.AboutResolution.ResolutionAnswers.{fits_one}
use Rattle.eq_rules.proofs.factoring.factoring.Goals as goal

pub returns-then-not-are_alike : goal.returns-then-not-are_alike
returns-then-not-are_alike c mode none usage used e it =
    let m = c.args.given.now in
    let d = clause_at m.clause in
    let place = c.args.place in
    let l : TreeLiteral = lent_of c.literal-becomes.result in
    let k : TreeLiteral = lent_of c.literal-other.result in
    let at_i : slice_get d.literals place.becomes.literal ≡ Some l =
    ap (λ (ls : List TreeLiteral). slice_get ls place.becomes.literal) (sym c.lend-literals.ensures) ∙ c.literal-becomes.ensures in
    let at_j : slice_get d.literals place.other.literal ≡ Some k =
    ap (λ (ls : List TreeLiteral). slice_get ls place.other.literal) (sym c.lend-literals.ensures) ∙ c.literal-other.ensures in
    unlike_unfactored usage.is_predicate mode (alone m) m.number d (alone_there m) place.becomes.literal place.becomes.side place.other.literal place.other.side
    l k at_i at_j (literal-kind usage d place.becomes.literal l used at_i) (literal-kind usage d place.other.literal k used at_j)
    (sym c.if-not-are_alike.ensures) e it

pub factoring_by-requires-clause-unified : goal.factoring_by-requires-clause-unified
factoring_by-requires-clause-unified c =
    let m = c.args.given.now in
    let d = clause_at m.clause in
    let place = c.args.place in
    let n = bound_of (clause_variables d) in
    let l : TreeLiteral = lent_of c.literal-becomes.result in
    let k : TreeLiteral = lent_of c.literal-other.result in
    let at_i : slice_get d.literals place.becomes.literal ≡ Some l =
    ap (λ (ls : List TreeLiteral). slice_get ls place.becomes.literal) (sym c.lend-literals.ensures) ∙ c.literal-becomes.ensures in
    let at_j : slice_get d.literals place.other.literal ≡ Some k =
    ap (λ (ls : List TreeLiteral). slice_get ls place.other.literal) (sym c.lend-literals.ensures) ∙ c.literal-other.ensures in
    let fit = c.in_ok-unify.ensures.fits_together in
    record {
      literal_i = l;
      i_there = at_i;
      literal_j = k;
      j_there = at_j;
      differ =
          false_from_ne_true (place.becomes.literal == place.other.literal) (λ e.
          c.if-place.false (eqb-true place.becomes.literal place.other.literal e));
      alike = sym c.if-not-are_alike.ensures;
      unified =
          subst (λ o. IsUnified false (side_of place.becomes.side l) (side_of place.other.side k) o) c.in-Some.is
          (subst (λ (t : Tree). IsUnified false t (side_of place.other.side k) c.in_ok-unify.field-0) c.side-left.ensures
          (subst (λ (t : Tree). IsUnified false (tree_of c.side-left.result.now) t c.in_ok-unify.field-0) c.side-right.ensures c.in_ok-unify.ensures.unified));
      counted =
          fits_one c.in_ok-unify.field-0 c.in-Some.unifier n c.in-Some.is
          (fit refl n
          (subst (λ (t : Tree). VariablesBelow n t) (sym c.side-left.ensures)
          (side-below n place.becomes.side l (literal-below d place.becomes.literal l at_i)))
          (subst (λ (t : Tree). VariablesBelow n t) (sym c.side-right.ensures)
          (side-below n place.other.side k (literal-below d place.other.literal k at_j))));
    }
