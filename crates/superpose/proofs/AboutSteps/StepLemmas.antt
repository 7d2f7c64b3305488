-- The walk that numbers the variables of a superposition's conclusion, and what is built after it.
use Rattle.std.proofs.Common.{◌≡◌, ℕ, true, None, Some, List, [], ◌++◌, length, map, ap, ap₂, sym, ◌∙◌, subst}
use Rattle.std.specs.Prelude.{flat_map}
use Rattle.std.specs.List.{AllByRecursion}
use Rattle.std.specs.Option.{is_some}
use Rattle.std.proofs.lemmas.Bool.{true≢false}
use Rattle.fol_base.specs.Tree.{Tree, variable, application, trees_of, list_of, trees_variables}
use Rattle.fol_base.specs.Instance.{instance, substitution}
use Rattle.fol_base.specs.Clause.{TreeLiteral, TreeClause, LiteralVariablesBelow, literal_variables, clause_variables}
use Rattle.fol_base.specs.Ground.{literals_instance}
use Rattle.fol_base.specs.Canonical.{renaming, bound_of}
use Rattle.fol_base.specs.Numbering.{with_variables}
use Rattle.fol_base.proofs.AboutClauses.InferenceLemmas.{superpositions_in_instances}
use Rattle.fol_base.proofs.AboutTerms.TreeLemmas.{list_of-trees_of, instances-trees_of}
use Rattle.fol_base.proofs.AboutCanonical.WalkLemmas.{left-kept}
use Rattle.kernel_steps.specs.Names.{sorted_names}
use Rattle.eq_rules.proofs.AboutConclusions.PremiseLemmas.{clause-below}
use Rattle.eq_rules.proofs.AboutConclusions.RenumberedLemmas.{met_onward}
use Rattle.eq_rules.proofs.AboutConclusions.StepLemmas.{renaming-no_truth}
use Rattle.eq_rules.proofs.AboutConclusions.WideLemmas.{renamed-literals}
use Rattle.superpose.specs.Concluding.{superposed_at, GivesNumbered}
use Rattle.eq_rules.specs.declared.concluding.LiteralSide.{LiteralSide}
use Rattle.superpose.specs.declared.sites.LiteralPlace.{LiteralPlace}
use Rattle.list_lemmas.proofs.Results.{some-there}
use Rattle.eq_rules.proofs.AboutConclusions.ConclusionLemmas.{appended_variables}

abbrev arguments_of : Tree → List Tree
arguments_of (variable v) = []
arguments_of (application f ts) = list_of ts

instances_listed : (order : List ℕ) (terms : List Tree) → arguments_of (instance (renaming order) (application 0 (trees_of terms))) ≡ map (instance (renaming order)) terms
instances_listed order terms =
    ap list_of (instances-trees_of (renaming order) terms) ∙ list_of-trees_of (map (instance (renaming order)) terms)

-- terms keep their numbers when others are walked
terms_kept :
    (order now new : List ℕ) (terms : List Tree) (vs : List ℕ)
    → now ≡ with_variables order (trees_variables (trees_of terms)) → new ≡ with_variables now vs
    → map (instance (renaming now)) terms ≡ map (instance (renaming new)) terms
terms_kept order now new terms vs before step =
    sym (instances_listed now terms) ∙ ap arguments_of (left-kept order now new (application 0 (trees_of terms)) vs before step) ∙ instances_listed new terms

module _
    (c : TreeClause) (lent : List TreeLiteral) (same : lent ≡ c.literals) (s : LiteralSide)
    (d : TreeClause) (second_lent : List TreeLiteral) (second_same : second_lent ≡ d.literals) (t : LiteralPlace)
    (left right first_bind second_bind : List Tree)
    (covers : length left ≡ bound_of (clause_variables c)) (second_covers : length right ≡ bound_of (clause_variables d))
    (none walked now order : List ℕ) (no_variables : none ≡ [])
    (walked_met :
    (plain : List TreeLiteral)
    → superposed_at s t (literals_instance (substitution left) lent) (literals_instance (substitution right) second_lent) ≡ Some plain
    → walked ≡ with_variables none (flat_map literal_variables plain))
    (now_met : now ≡ with_variables walked (trees_variables (trees_of left)))
    (first_form : first_bind ≡ map (instance (renaming now)) left)
    (order_met : order ≡ with_variables now (trees_variables (trees_of right)))
    (second_form : second_bind ≡ map (instance (renaming order)) right)
    (applies : is_some (superposed_at s t (literals_instance (substitution left) c.literals) (literals_instance (substitution right) d.literals)) ≡ true) where
  given :
      (plain : List TreeLiteral)
      × (superposed_at s t (literals_instance (substitution left) c.literals) (literals_instance (substitution right) d.literals) ≡ Some plain)
  given = some-there (superposed_at s t (literals_instance (substitution left) c.literals) (literals_instance (substitution right) d.literals)) applies

  first_renamed : first_bind ≡ map (instance (renaming order)) left
  first_renamed = first_form ∙ terms_kept walked now order left (trees_variables (trees_of right)) now_met order_met

  below : AllByRecursion (LiteralVariablesBelow (length left)) c.literals
  below = subst (λ (n : ℕ). AllByRecursion (LiteralVariablesBelow n) c.literals) (sym covers) (clause-below c)

  second_below : AllByRecursion (LiteralVariablesBelow (length right)) d.literals
  second_below = subst (λ (n : ℕ). AllByRecursion (LiteralVariablesBelow n) d.literals) (sym second_covers) (clause-below d)

  under_bind :
      superposed_at s t (literals_instance (substitution first_bind) lent) (literals_instance (substitution second_bind) second_lent)
      ≡ Some (literals_instance (renaming order) given.0)
  under_bind =
      ap₂ (superposed_at s t)
      (ap (literals_instance (substitution first_bind)) same ∙ renamed-literals order left first_bind c.literals first_renamed below)
      (ap (literals_instance (substitution second_bind)) second_same ∙ renamed-literals order right second_bind d.literals second_form second_below)
      ∙ superpositions_in_instances (renaming order) (literals_instance (substitution left) c.literals) (literals_instance (substitution right) d.literals)
      given.0 s.literal t.at.literal s.side t.at.side t.place (renaming-no_truth order) given.1

  pub superposition-applies :
      None ≡ superposed_at s t (literals_instance (substitution first_bind) lent) (literals_instance (substitution second_bind) second_lent) → ⊥
  superposition-applies h = true≢false (sym (ap is_some (h ∙ under_bind)))

  pub superposition-numbered :
      (e : TreeClause)
      → Some e.literals ≡ superposed_at s t (literals_instance (substitution first_bind) lent) (literals_instance (substitution second_bind) second_lent)
      → e.names ≡ sorted_names (c.names ++ d.names) → GivesNumbered c s d t left right first_bind second_bind e
  superposition-numbered e made names = record {
    plain = given.0;
    given = given.1;
    order = order;
    met =
        met_onward walked now order (trees_variables (trees_of left)) (trees_variables (trees_of right)) now_met order_met
        ∙ ap₂ with_variables
        (walked_met given.0
        (ap₂ (λ ls ks. superposed_at s t (literals_instance (substitution left) ls) (literals_instance (substitution right) ks)) same second_same ∙ given.1)
        ∙ ap (λ o. with_variables o (flat_map literal_variables given.0)) no_variables)
        (sym (appended_variables left right));
    first_renamed = first_renamed;
    second_renamed = second_form;
    gives =
        ap₂ (λ ls ks. superposed_at s t (literals_instance (substitution first_bind) ls) (literals_instance (substitution second_bind) ks))
        (sym same) (sym second_same)
        ∙ sym made;
    names = names;
  }
