-- What is no refutation, and which forms are Herbrand-refuted.
use Rattle.std.proofs.Common.{◌≡◌, ℕ, zero, suc, ◌<◌, Bool, true, false, ◌&&◌, ◌||◌, List, [], ◌∷◌, length, take, get_or, refl, ap, sym, ◌∙◌, subst, arith}
use Rattle.std.specs.Prelude.{not, slice_get, Contains}
use Rattle.std.proofs.lemmas.Bool.{true≢false}
use Rattle.std.proofs.lemmas.Option.{none-some, same_Some}
use Rattle.std.proofs.lemmas.List.{length_push}
use Rattle.std.proofs.lemmas.List.Elements.{All-nil, All-cons}
use Rattle.std.proofs.lemmas.List.Sums.{list_all-from_AllPass}
use Rattle.fol_base.specs.Instance.{Substitution}
use Rattle.fol_base.specs.Clause.{TreeLiteral, TreeClause}
use Rattle.fol_base.specs.Ground.{GroundClause, literals_instance}
use Rattle.fol_base.specs.Interpretation.{literal_true, clause_true}
use Rattle.fol_base.specs.Covered.{InstanceOf}
use Rattle.fol_base.specs.Literal.{clause_of}
use Rattle.fol_base.specs.Examples.{x, a, p, clause, functions, all_a, p_of_a_alone}
use Rattle.fol_base.specs.declared.clause.Side.TheVariants.{Left}
use Rattle.kernel_steps.specs.Conclusion.{empty_clause, rule_fault, concludes}
use Rattle.kernel_steps.specs.Derivation.{IsRefutation}
use Rattle.kernel_steps.specs.Soundness.{HerbrandRefuted}
use Rattle.kernel_steps.specs.Examples.{not_p, not_true, line, opposites, unrelated, general, opposites_lines, opposites_with}
use Rattle.kernel_steps.specs.declared.step.Step.TheVariants.{Clausify, Para, Refl}
use Rattle.kernel_steps.specs.declared.step.Line.{Line}
use Rattle.kernel_steps.proofs.AboutCalls.LineLemmas.{slice_get-last}

-- the negation of p(a) has sides that differ
pub other_parent : IsRefutation opposites (opposites_lines 2) → ⊥
other_parent refutation =
    let h : rule_fault ≡ concludes empty_clause = refutation.derived 4 (line (Refl 2 0 []) []) refl in cc

-- clause number 0 is p(a)
pub other_index : IsRefutation opposites (opposites_with (line (Clausify 0) (not_p a ∷ [])) 3) → ⊥
other_index refutation =
    true≢false
    (ap first_sign (same_Some (clause (p a ∷ [])) (clause (not_p a ∷ [])) (refutation.derived 2 (line (Clausify 0) (not_p a ∷ [])) refl)))
  where
    sign : List TreeLiteral → Bool
    sign [] = true
    sign (l ∷ ls) = l.positive

    first_sign : TreeClause → Bool
    first_sign c = sign c.literals

-- clause number 1 has a literal
pub one_literal_fewer : IsRefutation opposites (opposites_with (line (Clausify 1) []) 3) → ⊥
one_literal_fewer refutation =
    none-some (not_p a)
    (ap (λ (c : TreeClause). slice_get c.literals 0)
    (sym (same_Some (clause (not_p a ∷ [])) empty_clause (refutation.derived 2 (line (Clausify 1) []) refl))))

-- the last line is then the negation of `$true`
pub last_line_left_out : IsRefutation opposites (take 4 (opposites_lines 3)) → ⊥
last_line_left_out refutation =
    none-some not_true
    (ap (λ (c : TreeClause). slice_get c.literals 0) (sym (ap (λ (l : Line). clause_of l.clause) last_is ∙ refutation.is_empty)))
  where
    place : length refutation.before ≡ 3
    place = omega (arith, ap length refutation.ends, length_push refutation.before refutation.last)

    last_is : line (Para 1 2 0 Left 0 Left [] [] []) (not_true ∷ []) ≡ refutation.last
    last_is =
        same_Some (line (Para 1 2 0 Left 0 Left [] [] []) (not_true ∷ [])) refutation.last
        (ap (slice_get (take 4 (opposites_lines 3))) (sym place)
        ∙ ap (λ ls. slice_get ls (length refutation.before)) refutation.ends
        ∙ slice_get-last refutation.before refutation.last)

-- ---- ground instances

-- p(a) and its negation
pub general_refuted : HerbrandRefuted functions general
general_refuted = record {
  by = (p a ∷ []) ∷ (not_p a ∷ []) ∷ [];
  instances =
      All-cons (InstanceOf functions (Contains general)) (p a ∷ []) ((not_p a ∷ []) ∷ [])
      (record {
        clause = clause (p (x 0) ∷ []);
        holds = (0, omega arith, refl);
        is_instance = record { trees = all_a; trees_ground = λ v. refl; literals = refl };
      })
      (All-cons (InstanceOf functions (Contains general)) (not_p a ∷ []) []
      (record {
        clause = clause (not_p a ∷ []);
        holds = (1, omega arith, refl);
        is_instance = record { trees = all_a; trees_ground = λ v. refl; literals = refl };
      })
      (All-nil (InstanceOf functions (Contains general))));
  refuted = λ i ok. never_both (literal_true i (p a));
}
  where
    never_both : (holds : Bool) → ((holds || false) && ((not holds || false) && true)) ≡ false
    never_both true = refl
    never_both false = refl

-- p(a) is true and p(b) false in an interpretation
pub unrelated_not_refuted : HerbrandRefuted functions unrelated → ⊥
unrelated_not_refuted refuted =
    true≢false
    (sym (list_all-from_AllPass (clause_true p_of_a_alone) refuted.by (λ k d within. instance-true (get_or refuted.by k d) (refuted.instances k d within)))
    ∙ refuted.refuted p_of_a_alone (record { has_value = omega arith; rows_in_range = refl }))
  where
    clause-true :
        (c : TreeClause) (k : ℕ) → k < 2 → get_or unrelated k c ≡ c → (σ : Substitution) → clause_true p_of_a_alone (literals_instance σ c.literals) ≡ true
    clause-true c zero within is σ =
        subst (λ (d : TreeClause). clause_true p_of_a_alone (literals_instance σ d.literals) ≡ true) is refl
    clause-true c (suc zero) within is σ =
        subst (λ (d : TreeClause). clause_true p_of_a_alone (literals_instance σ d.literals) ≡ true) is refl
    clause-true c (suc (suc k)) within is σ = absurd (omega arith)

    instance-true : (g : GroundClause) → InstanceOf functions (Contains unrelated) g → clause_true p_of_a_alone g ≡ true
    instance-true g it =
        ap (clause_true p_of_a_alone) it.is_instance.literals
        ∙ clause-true it.clause it.holds.0 it.holds.1 it.holds.2 it.is_instance.trees
