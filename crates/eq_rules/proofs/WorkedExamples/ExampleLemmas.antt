-- Proofs of the worked examples.
use Rattle.std.proofs.Common.{◌≡◌, ℕ, Bool, true, false, ◌&&◌, List, [], ◌∷◌, refl, ap, sym, arith}
use Rattle.std.proofs.lemmas.Bool.{true≢false}
use Rattle.fol_base.specs.Unifier.{IsMostGeneralUnifier}
use Rattle.fol_base.specs.Canonical.{bound_of}
use Rattle.fol_base.specs.Examples.{x, a, p, clause, is_predicate, first_is_a}
use Rattle.fol_base.specs.Rules.{disequation}
use Rattle.fol_base.specs.Selection.{select_nothing, select_negative}
use Rattle.fol_base.specs.declared.clause.Side.TheVariants.{Left}
use Rattle.fol_base.proofs.WorkedExamples.MatchingExamples.{first_argument, first_is_a_general}
use Rattle.kernel_steps.specs.Examples.{not_true}
use Rattle.kernel_steps.specs.Symbols.{literal_symbols_pass}
use Rattle.kernel_steps.specs.declared.key.Key.TheVariants.{Refl}
use Rattle.kernel_steps.specs.declared.step.Step.TheVariants as step
use Rattle.kernel_steps.specs.Sized.{SizedFactoring, SizedResolution}
use Rattle.eq_rules.specs.Inferences.{IsConcluded}
use Rattle.eq_rules.specs.Examples.{found_at_three, found_at_four}
use Rattle.eq_rules.specs.Renumbered.{AreNumberedInOrder}

pub resolution : SizedResolution select_negative (clause (disequation (x 0) a ∷ p (x 0) ∷ [])) 0 (clause (p a ∷ [])) false
resolution = record {
  named = record {
    literal = disequation (x 0) a;
    literal_there = refl;
    unifier = first_is_a;
    most_general = first_is_a_general;
    is_eligible = refl;
    concludes = refl;
    names = refl;
  };
  size = refl;
}

atoms_general : IsMostGeneralUnifier (p (x 0)).left (p a).left first_is_a
atoms_general = record { unifies = refl; is_general = λ ρ unifies. first_is_a_general.is_general ρ (ap first_argument unifies) }

pub factoring : SizedFactoring is_predicate select_nothing (clause (p (x 0) ∷ p a ∷ [])) 0 Left 1 Left (clause (not_true ∷ p a ∷ [])) false
factoring = record {
  named = record {
    literal_i = p (x 0);
    i_there = refl;
    literal_j = p a;
    j_there = refl;
    one_kind = refl;
    unifier = first_is_a;
    most_general = atoms_general;
    i_ordered = refl;
    i_eligible = record { nothing_chosen = refl; is_eligible = refl };
    concludes = refl;
    names = refl;
  };
  size = refl;
}

a_passes : (b rest : Bool) → ((b && true) && rest) ≡ true → (((b && true) && true) && true) ≡ true
a_passes true rest h = refl
a_passes false rest h = h

pub concluded : IsConcluded is_predicate select_negative found_at_three (Refl 3 0) (step.Refl 3 0 (a ∷ [])) (clause (p a ∷ []))
concluded = record {
  inferred = record { clause = clause (disequation (x 0) a ∷ p (x 0) ∷ []); there = refl; infers = resolution };
  of_key = refl;
  right_step = refl;
  numbered = refl;
  bindings_numbered = refl;
  terms = refl;
  small = refl;
  symbols = λ test pass. a_passes (test 1 0) (literal_symbols_pass test (p (x 0)) && true) (pass (clause (disequation (x 0) a ∷ p (x 0) ∷ [])) refl);
}

pub no_predicates_bound :
    IsConcluded is_predicate select_negative found_at_four (Refl 4 0) (step.Refl 4 0 ((p a).left ∷ (p a).left ∷ [])) (clause (p a ∷ [])) → ⊥
no_predicates_bound h = true≢false (sym h.terms)

pub not_from_zero : AreNumberedInOrder (1 ∷ []) → ⊥
not_from_zero h = let e : 2 ≡ 1 = ap (λ (vs : List ℕ). bound_of vs) h in absurd (omega (arith, e))
