-- The walk that numbers the variables of a factoring's conclusion, and what is built after it.
use Rattle.std.proofs.Common.{◌≡◌, ℕ, ◌+◌, true, Option, None, Some, List, [], ◌++◌, length, map, ap, ap₂, sym, ◌∙◌, subst}
use Rattle.std.specs.Prelude.{flat_map, slice_get, slice_set, option_and_then, unwrap_or}
use Rattle.std.specs.List.{AllByRecursion}
use Rattle.std.specs.Option.{is_some, option_map}
use Rattle.std.proofs.lemmas.Bool.{true≢false}
use Rattle.std.proofs.lemmas.Option.{slice_get_within, slice_get-map}
use Rattle.fol_base.specs.Tree.{Tree, tree_variables, trees_of, trees_variables}
use Rattle.fol_base.specs.Instance.{Substitution, instance, substitution}
use Rattle.fol_base.specs.Clause.{TreeLiteral, TreeClause, LiteralVariablesBelow, literal_instance, literal_variables, clause_variables}
use Rattle.fol_base.specs.Ground.{literals_instance}
use Rattle.fol_base.specs.Canonical.{renaming, bound_of}
use Rattle.fol_base.specs.Numbering.{with_variables}
use Rattle.fol_base.specs.Rules.{factored, disequation}
use Rattle.fol_base.specs.Sides.{other_side_of}
use Rattle.fol_base.proofs.AboutClauses.InferenceLemmas.{factorings_in_instances, other_side_of-instance}
use Rattle.fol_base.proofs.AboutClauses.RuleLemmas.{factored-parts}
use Rattle.fol_base.proofs.WorkedExamples.TestLemmas.{option_map-some}
use Rattle.kernel_steps.specs.Names.{sorted_names}
use Rattle.eq_rules.specs.Concluding.{GivesNumbered}
use Rattle.eq_rules.specs.Steps.{factored_plain}
use Rattle.eq_rules.specs.declared.concluding.FactorPlace.{FactorPlace}
use Rattle.eq_rules.proofs.AboutConclusions.RenumberedLemmas.{variables_between, met_onward}
use Rattle.eq_rules.proofs.AboutConclusions.WideLemmas.{renamed-literals}
use Rattle.eq_rules.proofs.AboutConclusions.PremiseLemmas.{clause-below}
use Rattle.eq_rules.proofs.AboutConclusions.StepLemmas.{renaming-no_truth, exchanged-variables}
use Rattle.list_lemmas.proofs.Results.{some-there}

-- the plain literals, where both literals are there
plain_is :
    (ls : List TreeLiteral) (σ : Substitution) (place : FactorPlace) (l m : TreeLiteral)
    → slice_get ls place.becomes.literal ≡ Some l → slice_get ls place.other.literal ≡ Some m
    → factored_plain ls σ place
    ≡ slice_set (literals_instance σ ls) place.becomes.literal
    (disequation (instance σ (other_side_of place.becomes.side l)) (instance σ (other_side_of place.other.side m)))
plain_is ls σ place l m at_i at_j =
    let made : TreeLiteral → TreeLiteral → List TreeLiteral =
    λ k n. slice_set (literals_instance σ ls) place.becomes.literal
    (disequation (instance σ (other_side_of place.becomes.side k)) (instance σ (other_side_of place.other.side n))) in
    let none : List TreeLiteral = [] in
    ap (λ o. unwrap_or (option_and_then (λ k. option_map (made k) (slice_get ls place.other.literal)) o) none) at_i
    ∙ ap (λ o. unwrap_or (option_map (made l) o) none) at_j

pub factored_met :
    (σ : Substitution) (ls : List TreeLiteral) (place : FactorPlace) (l m : TreeLiteral) (count : ℕ) (none first second third order : List ℕ)
    → slice_get ls place.becomes.literal ≡ Some l → slice_get ls place.other.literal ≡ Some m → count ≡ length ls
    → first ≡ with_variables none (variables_between σ ls 0 place.becomes.literal)
    → second ≡ with_variables first (tree_variables (instance σ (other_side_of place.becomes.side l)))
    → third ≡ with_variables second (tree_variables (instance σ (other_side_of place.other.side m)))
    → order ≡ with_variables third (variables_between σ ls (place.becomes.literal + 1) count)
    → order ≡ with_variables none (flat_map literal_variables (factored_plain ls σ place))
factored_met σ ls place l m count none first second third order at_i at_j many first_met second_met third_met order_met =
    let i : ℕ = place.becomes.literal in
    let a : List ℕ = variables_between σ ls 0 i in
    let t : List ℕ = tree_variables (instance σ (other_side_of place.becomes.side l)) in
    let v : List ℕ = tree_variables (instance σ (other_side_of place.other.side m)) in
    let z : List ℕ = variables_between σ ls (i + 1) count in
    let new : TreeLiteral = disequation (instance σ (other_side_of place.becomes.side l)) (instance σ (other_side_of place.other.side m)) in
    let both : third ≡ with_variables first (t ++ v) = met_onward first second third t v second_met third_met in
    let front : third ≡ with_variables none (a ++ (t ++ v)) = met_onward none first third a (t ++ v) first_met both in
    met_onward none third order (a ++ (t ++ v)) z front order_met
    ∙ ap (with_variables none)
    (exchanged-variables σ ls i count new (slice_get_within ls i l at_i) many
    ∙ ap (flat_map literal_variables) (sym (plain_is ls σ place l m at_i at_j)))

literal_before :
    (σ : Substitution) (ls : List TreeLiteral) (i : ℕ) (l : TreeLiteral)
    → slice_get (literals_instance σ ls) i ≡ Some l → (m : TreeLiteral) × (slice_get ls i ≡ Some m) × (literal_instance σ m ≡ l)
literal_before σ ls i l there =
    option_map-some (literal_instance σ) (slice_get ls i) l (sym (slice_get-map (literal_instance σ) ls i) ∙ there)
    (λ m at gives. (m, at, gives))

-- what the rule gives is that
gives_plain :
    (ls : List TreeLiteral) (σ : Substitution) (place : FactorPlace) (made : List TreeLiteral)
    → factored (literals_instance σ ls) place.becomes.literal place.becomes.side place.other.literal place.other.side ≡ Some made
    → factored_plain ls σ place ≡ made
gives_plain ls σ place made h =
    let parts =
    factored-parts (literals_instance σ ls) place.becomes.literal place.becomes.side place.other.literal place.other.side made h in
    let first = literal_before σ ls place.becomes.literal parts.literal_i parts.i_there in
    let second = literal_before σ ls place.other.literal parts.literal_j parts.j_there in
    plain_is ls σ place first.0 second.0 first.1 second.1
    ∙ ap₂ (λ x y. slice_set (literals_instance σ ls) place.becomes.literal (disequation x y))
    (sym (other_side_of-instance σ place.becomes.side first.0) ∙ ap (other_side_of place.becomes.side) first.2)
    (sym (other_side_of-instance σ place.other.side second.0) ∙ ap (other_side_of place.other.side) second.2)
    ∙ parts.gives

module _
    (c : TreeClause) (lent : List TreeLiteral) (same : lent ≡ c.literals) (place : FactorPlace)
    (terms bind : List Tree) (covers : length terms ≡ bound_of (clause_variables c))
    (none second order : List ℕ) (no_variables : none ≡ [])
    (second_met : second ≡ with_variables none (flat_map literal_variables (factored_plain lent (substitution terms) place)))
    (order_met : order ≡ with_variables second (trees_variables (trees_of terms)))
    (renamed : bind ≡ map (instance (renaming order)) terms)
    (applies : is_some (factored (literals_instance (substitution terms) c.literals) place.becomes.literal place.becomes.side place.other.literal place.other.side) ≡ true) where
  given :
      factored (literals_instance (substitution terms) c.literals) place.becomes.literal place.becomes.side place.other.literal place.other.side
      ≡ Some (factored_plain c.literals (substitution terms) place)
  given =
      let found =
      some-there (factored (literals_instance (substitution terms) c.literals) place.becomes.literal place.becomes.side place.other.literal place.other.side)
      applies in
      found.1 ∙ ap (λ ls. let o : Option (List TreeLiteral) = Some ls in o) (sym (gives_plain c.literals (substitution terms) place found.0 found.1))

  below : AllByRecursion (LiteralVariablesBelow (length terms)) c.literals
  below = subst (λ (n : ℕ). AllByRecursion (LiteralVariablesBelow n) c.literals) (sym covers) (clause-below c)

  under_bind : literals_instance (substitution bind) lent ≡ literals_instance (renaming order) (literals_instance (substitution terms) c.literals)
  under_bind = ap (literals_instance (substitution bind)) same ∙ renamed-literals order terms bind c.literals renamed below

  pub factoring-applies :
      None ≡ factored (literals_instance (substitution bind) lent) place.becomes.literal place.becomes.side place.other.literal place.other.side → ⊥
  factoring-applies h =
      let made : factored (literals_instance (substitution bind) lent) place.becomes.literal place.becomes.side place.other.literal place.other.side
      ≡ Some (literals_instance (renaming order) (factored_plain c.literals (substitution terms) place)) =
      ap (λ ls. factored ls place.becomes.literal place.becomes.side place.other.literal place.other.side) under_bind
      ∙ factorings_in_instances (renaming order) (literals_instance (substitution terms) c.literals) (factored_plain c.literals (substitution terms) place)
      place.becomes.literal place.other.literal place.becomes.side place.other.side (renaming-no_truth order) given in
      true≢false (sym (ap is_some (h ∙ made)))

  pub factoring-numbered :
      (d : TreeClause)
      → Some d.literals ≡ factored (literals_instance (substitution bind) lent) place.becomes.literal place.becomes.side place.other.literal place.other.side
      → d.names ≡ sorted_names c.names
      → GivesNumbered (λ ls. factored ls place.becomes.literal place.becomes.side place.other.literal place.other.side) c terms bind d
  factoring-numbered d made names = record {
    plain = factored_plain c.literals (substitution terms) place;
    given = given;
    order = order;
    met =
        order_met
        ∙ ap (λ vs. with_variables vs (trees_variables (trees_of terms)))
        (second_met
        ∙ ap₂ (λ o ls. with_variables o (flat_map literal_variables (factored_plain ls (substitution terms) place))) no_variables same);
    renamed = renamed;
    gives =
        ap (λ ls. factored (literals_instance (substitution bind) ls) place.becomes.literal place.becomes.side place.other.literal place.other.side)
        (sym same)
        ∙ sym made;
    names = names;
  }
