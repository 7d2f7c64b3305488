-- What is known on the way from a unifier to a conclusion.
use Rattle.std.specs.Prelude.{◌≡◌, ℕ, ◌<◌, Bool, false, ◌==◌, not, List, [], map, flat_map, length, Option, None, Some}
use Rattle.fol_base.specs.Tree.{Tree, trees_of, trees_variables}
use Rattle.fol_base.specs.Instance.{Substitution, instance, substitution}
use Rattle.fol_base.specs.Clause.{TreeLiteral, TreeClause, literal_variables}
use Rattle.fol_base.specs.Ground.{literals_instance}
use Rattle.fol_base.specs.Canonical.{renaming}
use Rattle.fol_base.specs.Numbering.{with_variables}
use Rattle.fol_base.specs.Unifier.{IsUnifier}
use Rattle.kernel_steps.specs.Names.{sorted_names}

-- terms for the first variables that make two trees equal, and which every substitution that does so goes on from
pub record IsGeneralBelow (s t : Tree) (terms : List Tree) : Type 0 where
  pub unifies : IsUnifier s t (substitution terms)
  pub is_general :
      (ρ : Substitution) → IsUnifier s t ρ
      → (another : Substitution) × ((v : ℕ) → v < length terms → ρ v ≡ instance another (substitution terms v))

-- What a rule gives of one premise under terms, with the variables numbered by first occurrence in it and then in the terms: the terms
-- by these numbers, and the clause that the rule gives under them.
pub record GivesNumbered
    (rule : List TreeLiteral → Option (List TreeLiteral)) (c : TreeClause) (terms bind : List Tree) (d : TreeClause) : Type 0 where
  pub plain : List TreeLiteral
  pub given : rule (literals_instance (substitution terms) c.literals) ≡ Some plain
  pub order : List ℕ
  pub met : order ≡ with_variables (with_variables [] (flat_map literal_variables plain)) (trees_variables (trees_of terms))
  pub renamed : bind ≡ map (instance (renaming order)) terms
  pub gives : rule (literals_instance (substitution bind) c.literals) ≡ Some d.literals
  pub names : d.names ≡ sorted_names c.names

-- another literal is chosen than that of the index
abbrev pub other_chosen : Option ℕ → ℕ → Bool
other_chosen None i = false
other_chosen (Some c) i = not (i == c)
