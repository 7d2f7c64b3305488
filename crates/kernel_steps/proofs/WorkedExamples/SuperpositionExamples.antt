-- The worked superpositions, by most general unifiers.
use Rattle.std.proofs.Common.{◌≡◌, ℕ, zero, suc, [], ◌∷◌, refl, sym, ap, inl, inr}
use Rattle.std.proofs.lemmas.Bool.{true≢false}
use Rattle.plain_types.specs.Names.{positive_of, negative_of}
use Rattle.fol_base.specs.Tree.{variable, application, no_trees, tree_then}
use Rattle.fol_base.specs.Instance.{Substitution, instance}
use Rattle.fol_base.specs.Unifier.{IsMostGeneralUnifierApart}
use Rattle.fol_base.specs.Selection.{select_negative}
use Rattle.fol_base.specs.Examples.{x, a, b, f, p, q, equation, clause, is_predicate, even, odd, first_is}
use Rattle.fol_base.specs.declared.clause.Side.TheVariants.{Left}
use Rattle.fol_base.proofs.AboutInstances.Shuffled.{shuffled, shuffled-even, shuffled-odd}
use Rattle.fol_base.proofs.WorkedExamples.MatchingExamples.{first_argument}
use Rattle.kernel_steps.specs.Derivation.{under_names}
use Rattle.kernel_steps.specs.Inference.{NamedSuperposition}
use Rattle.kernel_steps.specs.Examples.{not_p, not_true}

-- an application to a and one to X0, with different variables
apart_general :
    (symbol : ℕ)
    → IsMostGeneralUnifierApart (application symbol (tree_then a no_trees)) (application symbol (tree_then (x 0) no_trees)) (λ v. variable (even v)) (first_is a odd)
apart_general symbol = record { unifies = refl; is_general = λ ρ π unifies. (then_by ρ π, left ρ π, right ρ π (ap first_argument unifies)) }
  where
    then_by : Substitution → Substitution → Substitution
    then_by ρ π = shuffled ρ (λ w. π (suc w))

    left : (ρ π : Substitution) (v : ℕ) → ρ v ≡ instance (then_by ρ π) (variable (even v))
    left ρ π v = shuffled-even ρ (λ w. π (suc w)) v

    right : (ρ π : Substitution) → a ≡ π 0 → (v : ℕ) → π v ≡ instance (then_by ρ π) (first_is a odd v)
    right ρ π e zero = sym e
    right ρ π e (suc v) = shuffled-odd ρ (λ w. π (suc w)) v

-- p(a) into ~p(X0) | q(X0)
pub superposition :
    NamedSuperposition is_predicate select_negative (clause (p a ∷ [])) 0 Left (clause (not_p (x 0) ∷ q (x 0) ∷ [])) 0 Left []
    (clause (not_true ∷ q a ∷ []))
superposition = record {
  from = p a;
  from_there = refl;
  into = not_p (x 0);
  into_there = refl;
  old = (p (x 0)).left;
  old_there = refl;
  no_variable = refl;
  one_kind = refl;
  first_unifier = λ v. variable (even v);
  second_unifier = first_is a odd;
  most_general = apart_general 6;
  from_ordered = refl;
  into_ordered = refl;
  from_eligible = record { nothing_chosen = refl; is_eligible = refl };
  into_eligible = inl (refl, refl);
  others_differ = λ positive root. absurd (true≢false (sym positive));
  concludes = refl;
  names = refl;
}

-- f(a) = b into p(f(X0)), each under a name
pub names_of_both :
    NamedSuperposition is_predicate select_negative
    (under_names (equation (f a) b ∷ []) (positive_of 1 ∷ [])) 0 Left
    (under_names (p (f (x 0)) ∷ []) (negative_of 0 ∷ [])) 0 Left (0 ∷ [])
    (under_names (p b ∷ []) (negative_of 0 ∷ positive_of 1 ∷ []))
names_of_both = record {
  from = equation (f a) b;
  from_there = refl;
  into = p (f (x 0));
  into_there = refl;
  old = f (x 0);
  old_there = refl;
  no_variable = refl;
  one_kind = refl;
  first_unifier = λ v. variable (even v);
  second_unifier = first_is a odd;
  most_general = apart_general 4;
  from_ordered = refl;
  into_ordered = refl;
  from_eligible = record { nothing_chosen = refl; is_eligible = refl };
  into_eligible = inr (refl, record { nothing_chosen = refl; is_eligible = refl });
  others_differ = λ positive root. refl;
  concludes = refl;
  names = refl;
}
