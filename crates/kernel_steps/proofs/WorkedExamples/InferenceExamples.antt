-- The worked inferences from one clause, by most general unifiers.
use Rattle.std.proofs.Common.{[], ◌∷◌, refl, sym, ap}
use Rattle.fol_base.specs.Unifier.{IsMostGeneralUnifier}
use Rattle.fol_base.specs.Selection.{select_nothing, select_negative}
use Rattle.fol_base.specs.Examples.{x, a, p, clause, is_predicate, first_is_a}
use Rattle.fol_base.specs.Rules.{disequation}
use Rattle.fol_base.specs.declared.clause.Side.TheVariants.{Left}
use Rattle.fol_base.proofs.WorkedExamples.MatchingExamples.{first_argument, first_is_a_general}
use Rattle.kernel_steps.specs.Inference.{NamedResolution, NamedFactoring}
use Rattle.kernel_steps.specs.Examples.{not_true}

-- X0 != a | p(X0)
pub resolution : NamedResolution select_negative (clause (disequation (x 0) a ∷ p (x 0) ∷ [])) 0 (clause (p a ∷ []))
resolution = record {
  literal = disequation (x 0) a;
  literal_there = refl;
  unifier = first_is_a;
  most_general = first_is_a_general;
  is_eligible = refl;
  concludes = refl;
  names = refl;
}

-- ---- p(X0) and p(a)

atoms_general : IsMostGeneralUnifier (p (x 0)).left (p a).left first_is_a
atoms_general = record { unifies = refl; is_general = λ ρ unifies. first_is_a_general.is_general ρ (ap first_argument unifies) }

atoms_general' : IsMostGeneralUnifier (p a).left (p (x 0)).left first_is_a
atoms_general' = record { unifies = refl; is_general = λ ρ unifies. first_is_a_general.is_general ρ (sym (ap first_argument unifies)) }

pub first_factored :
    NamedFactoring is_predicate select_nothing (clause (p (x 0) ∷ p a ∷ [])) 0 Left 1 Left (clause (not_true ∷ p a ∷ []))
first_factored = record {
  literal_i = p (x 0);
  i_there = refl;
  literal_j = p a;
  j_there = refl;
  one_kind = refl;
  unifier = first_is_a;
  most_general = atoms_general;
  i_ordered = refl;
  i_eligible = record { nothing_chosen = refl; is_eligible = refl };
  concludes = refl;
  names = refl;
}

pub second_factored :
    NamedFactoring is_predicate select_nothing (clause (p (x 0) ∷ p a ∷ [])) 1 Left 0 Left (clause (p a ∷ not_true ∷ []))
second_factored = record {
  literal_i = p a;
  i_there = refl;
  literal_j = p (x 0);
  j_there = refl;
  one_kind = refl;
  unifier = first_is_a;
  most_general = atoms_general';
  i_ordered = refl;
  i_eligible = record { nothing_chosen = refl; is_eligible = refl };
  concludes = refl;
  names = refl;
}
