-- A rule by which one literal of a clause goes, under new numbers of the variables.
use Rattle.std.proofs.Common.{◌≡◌, ℕ, ◌+◌, ◌<◌, true, Option, None, Some, List, [], length, map, ap, ap₂, sym, ◌∙◌}
use Rattle.std.specs.Prelude.{flat_map, remove, is_some}
use Rattle.std.proofs.lemmas.Bool.{true≢false}
use Rattle.fol_base.specs.Tree.{Tree, trees_of, trees_variables}
use Rattle.fol_base.specs.Instance.{Substitution, instance, substitution}
use Rattle.fol_base.specs.Numbering.{with_variables}
use Rattle.fol_base.specs.Clause.{TreeLiteral, TreeClause, literal_variables}
use Rattle.fol_base.specs.Ground.{literals_instance}
use Rattle.fol_base.specs.Canonical.{renaming}
use Rattle.fol_base.specs.Rules.{resolved, merged}
use Rattle.fol_base.proofs.AboutClauses.InferenceLemmas.{resolutions_in_instances, merges_in_instances}
use Rattle.fol_base.proofs.AboutClauses.RuleLemmas.{resolved-parts, merged-parts}
use Rattle.kernel_steps.specs.Names.{sorted_names}
use Rattle.eq_rules.specs.Concluding.{GivesNumbered}
use Rattle.eq_rules.proofs.AboutConclusions.RenumberedLemmas.{met_onward, variables_between}
use Rattle.eq_rules.proofs.AboutConclusions.StepLemmas.{others-variables}
use Rattle.eq_rules.proofs.AboutConclusions.WideLemmas.{renamed-literals}
use Rattle.unit_cutting.specs.Removing.{AreRenumbered, plain_without}
use Rattle.kernel_steps.specs.Lines.{own_terms}
use Rattle.unit_cutting.proofs.AboutCuts.OwnLemmas.{own-literals, own-below}
use Rattle.list_lemmas.proofs.Results.{some-there}

abbrev pub Rule : Type 0
Rule = List TreeLiteral → Option (List TreeLiteral)

-- the own terms by the numbers of a walk over all literals but one, and then over themselves
pub renumbered :
    (c : TreeClause) (i count : ℕ) (terms bind : List Tree) (none first second order : List ℕ)
    → i < length c.literals → count ≡ length c.literals → terms ≡ own_terms c → none ≡ []
    → first ≡ with_variables none (variables_between (substitution terms) c.literals 0 i)
    → second ≡ with_variables first (variables_between (substitution terms) c.literals (i + 1) count)
    → order ≡ with_variables second (trees_variables (trees_of terms))
    → bind ≡ map (instance (renaming order)) terms
    → AreRenumbered c (plain_without c i) bind
renumbered c i count terms bind none first second order within many is no_variables first_met second_met order_met renamed = record {
  order = order;
  met =
      order_met
      ∙ ap (λ vs. with_variables vs (trees_variables (trees_of terms)))
      (met_onward none first second (variables_between (substitution terms) c.literals 0 i)
      (variables_between (substitution terms) c.literals (i + 1) count) first_met second_met
      ∙ ap₂ with_variables no_variables (others-variables (substitution terms) c.literals i count within many))
      ∙ ap
      (λ (ts : List Tree). with_variables (with_variables [] (flat_map literal_variables (remove (literals_instance (substitution ts) c.literals) i)))
      (trees_variables (trees_of ts))) is;
  renamed = renamed ∙ ap (map (instance (renaming order))) is;
}

-- the rule takes literal i away, of instances too
pub record Removes (rule : Rule) (i : ℕ) : Type 0 where
  pub parts : (ls made : List TreeLiteral) → rule ls ≡ Some made → remove ls i ≡ made
  pub onward :
      (σ : Substitution) (ls made : List TreeLiteral) → rule ls ≡ Some made → rule (literals_instance σ ls) ≡ Some (literals_instance σ made)

pub resolved-removes : (i : ℕ) → Removes (λ ls. resolved ls i) i
resolved-removes i = record {
  parts = λ ls made h. (resolved-parts ls i made h).gives;
  onward = λ σ ls made h. resolutions_in_instances σ ls made i h;
}

pub merged-removes : (i j : ℕ) → Removes (λ ls. merged ls i j) j
merged-removes i j = record {
  parts = λ ls made h. (merged-parts ls i j made h).gives;
  onward = λ σ ls made h. merges_in_instances σ ls made i j h;
}

module _
    (rule : Rule) (i : ℕ) (removes : Removes rule i) (c : TreeClause) (bind : List Tree)
    (own : AreRenumbered c (plain_without c i) bind) (applies : is_some (rule c.literals) ≡ true) where
  abbrev own_literals : List TreeLiteral
  own_literals = literals_instance (substitution (own_terms c)) c.literals

  given : rule own_literals ≡ Some (plain_without c i)
  given =
      let found = some-there (rule own_literals) (ap (λ ls. is_some (rule ls)) (own-literals c) ∙ applies) in
      found.1 ∙ ap (λ ls. let o : Option (List TreeLiteral) = Some ls in o) (sym (removes.parts own_literals found.0 found.1))

  under : rule (literals_instance (substitution bind) c.literals) ≡ Some (literals_instance (renaming own.order) (plain_without c i))
  under =
      ap rule (renamed-literals own.order (own_terms c) bind c.literals own.renamed (own-below c))
      ∙ removes.onward (renaming own.order) own_literals (plain_without c i) given

  pub removal-applies : None ≡ rule (literals_instance (substitution bind) c.literals) → ⊥
  removal-applies h = true≢false (sym (ap is_some (h ∙ under)))

  pub removal-numbered :
      (d : TreeClause) → Some d.literals ≡ rule (literals_instance (substitution bind) c.literals) → d.names ≡ sorted_names c.names
      → GivesNumbered rule c (own_terms c) bind d
  removal-numbered d made names = record {
    plain = plain_without c i;
    given = given;
    order = own.order;
    met = own.met;
    renamed = own.renamed;
    gives = sym made;
    names = names;
  }
