-- Superpositions at the root under terms by new numbers.
use Rattle.std.proofs.Common.{◌≡◌, ℕ, true, None, Some, List, [], ◌∷◌, ◌++◌, length, map, refl, ap, ap₂, sym, ◌∙◌}
use Rattle.std.specs.Prelude.{is_some}
use Rattle.std.specs.List.{AllByRecursion}
use Rattle.std.proofs.lemmas.Bool.{true≢false}
use Rattle.std.proofs.lemmas.List.{append_assoc}
use Rattle.fol_base.specs.Tree.{Tree, trees_of, tree_variables, trees_variables}
use Rattle.fol_base.specs.Instance.{Substitution, instance, substitution}
use Rattle.fol_base.specs.Clause.{TreeLiteral, LiteralVariablesBelow}
use Rattle.fol_base.specs.Ground.{literals_instance}
use Rattle.fol_base.specs.Canonical.{renaming}
use Rattle.fol_base.specs.Numbering.{with_variables}
use Rattle.fol_base.specs.Rules.{superposed}
use Rattle.fol_base.specs.declared.clause.Side.{Side}
use Rattle.fol_base.proofs.AboutClauses.InferenceLemmas.{superpositions_in_instances}
use Rattle.fol_base.proofs.AboutInstances.InstanceLemmas.{Agree, instance-agree}
use Rattle.fol_base.proofs.AboutCanonical.WalkLemmas.{renaming-kept}
use Rattle.eq_rules.proofs.AboutConclusions.RenumberedLemmas.{met_onward}
use Rattle.eq_rules.proofs.AboutConclusions.StepLemmas.{renaming-no_truth}
use Rattle.eq_rules.proofs.AboutConclusions.WideLemmas.{renamed-literals}
use Rattle.unit_cutting.specs.Superposing.{superposed_under}
use Rattle.list_lemmas.proofs.Results.{some-there}
use Rattle.list_lemmas.proofs.Members.{all-front, all-back}
use Rattle.eq_rules.proofs.AboutConclusions.ConclusionLemmas.{appended_variables}

-- ---- variables that have numbers keep them

terms-agree :
    (σ τ : Substitution) (ts : List Tree) → Agree σ τ (trees_variables (trees_of ts)) → map (instance σ) ts ≡ map (instance τ) ts
terms-agree σ τ [] h = refl
terms-agree σ τ (t ∷ ts) h =
    ap₂ ◌∷◌
    (instance-agree σ τ t (all-front (λ v. σ v ≡ τ v) (tree_variables t) (trees_variables (trees_of ts)) h))
    (terms-agree σ τ ts (all-back (λ v. σ v ≡ τ v) (tree_variables t) (trees_variables (trees_of ts)) h))

-- the terms of the first premise by the numbers after both
pub renamed-onward :
    (met first second : List ℕ) (left : List Tree) (ws : List ℕ) (bind : List Tree)
    → first ≡ with_variables met (trees_variables (trees_of left)) → second ≡ with_variables first ws
    → bind ≡ map (instance (renaming first)) left → bind ≡ map (instance (renaming second)) left
renamed-onward met first second left ws bind first_met second_met renamed =
    renamed
    ∙ ap (λ o. map (instance (renaming o)) left) first_met
    ∙ terms-agree (renaming (with_variables met vs)) (renaming (with_variables (with_variables met vs) ws)) left (renaming-kept met vs ws)
    ∙ ap (λ o. map (instance (renaming (with_variables o ws))) left) (sym first_met)
    ∙ ap (λ o. map (instance (renaming o)) left) (sym second_met)
  where
    vs : List ℕ
    vs = trees_variables (trees_of left)

pub both-met :
    (met first second : List ℕ) (left right : List Tree)
    → first ≡ with_variables met (trees_variables (trees_of left)) → second ≡ with_variables first (trees_variables (trees_of right))
    → second ≡ with_variables met (trees_variables (trees_of (left ++ right)))
both-met met first second left right first_met second_met =
    met_onward met first second (trees_variables (trees_of left)) (trees_variables (trees_of right)) first_met second_met
    ∙ ap (with_variables met) (sym (appended_variables left right))

-- ---- the rule under them

module _
    (ls ks : List TreeLiteral) (i : ℕ) (s : Side) (j : ℕ) (z : Side) (left right first_bind second_bind : List Tree) (order : List ℕ)
    (left_below : AllByRecursion (LiteralVariablesBelow (length left)) ls)
    (right_below : AllByRecursion (LiteralVariablesBelow (length right)) ks)
    (first_renamed : first_bind ≡ map (instance (renaming order)) left)
    (second_renamed : second_bind ≡ map (instance (renaming order)) right) where
  pub under-renamed :
      (plain : List TreeLiteral) → superposed_under left ls i s right ks j z ≡ Some plain
      → superposed_under first_bind ls i s second_bind ks j z ≡ Some (literals_instance (renaming order) plain)
  under-renamed plain given =
      ap₂ (λ (xs ys : List TreeLiteral). superposed xs i s ys j z [])
      (renamed-literals order left first_bind ls first_renamed left_below)
      (renamed-literals order right second_bind ks second_renamed right_below)
      ∙ superpositions_in_instances (renaming order) (literals_instance (substitution left) ls) (literals_instance (substitution right) ks)
      plain i j s z [] (renaming-no_truth order) given

  pub superposition-applies :
      is_some (superposed_under left ls i s right ks j z) ≡ true → None ≡ superposed_under first_bind ls i s second_bind ks j z → ⊥
  superposition-applies applies h =
      let found = some-there (superposed_under left ls i s right ks j z) applies in
      true≢false (sym (ap is_some (h ∙ under-renamed found.0 found.1)))
