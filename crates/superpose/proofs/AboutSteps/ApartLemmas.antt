-- Terms for the first variables of two sides, most general among all that unify two trees of different variables, with their variables
-- numbered anew, make a most general unifier: beyond them each variable of a side becomes one that is new.
use Rattle.std.proofs.Common.{◌≡◌, ℕ, ◌+◌, ◌*◌, ◌<◌, ◌≤◌, nat_lt, if◌then◌else◌, List, length, ap, sym, ◌∙◌, inl, inr}
use Rattle.std.specs.List.{AllByRecursion}
use Rattle.std.proofs.lemmas.Bool.{cond-true, cond-false, lt-ltb, cases_lt}
use Rattle.fol_base.specs.Tree.{Tree, variable, tree_variables, trees_variables, trees_of, VariablesBelow}
use Rattle.fol_base.specs.Instance.{Substitution, instance, substitution}
use Rattle.fol_base.specs.InstanceLaws.{after}
use Rattle.fol_base.specs.Clause.{TreeLiteral, LiteralVariablesBelow}
use Rattle.fol_base.specs.Ground.{literals_instance}
use Rattle.fol_base.specs.Canonical.{renaming}
use Rattle.fol_base.specs.Unifier.{IsUnifierApart, IsMostGeneralUnifierApart}
use Rattle.fol_base.proofs.AboutInstances.InstanceLemmas.{instance-agree, instances_of_instances, instances_agree_below, literals_instance-again}
use Rattle.unifier.proofs.AboutEquations.UnifyLemmas.{joint_of, joint_of-left, joint_of-right}
use Rattle.eq_rules.proofs.AboutConclusions.PremiseLemmas.{has-literals}
use Rattle.eq_rules.proofs.AboutConclusions.WideLemmas.{Has, Has-item, numbered, literals_back, literals-below, onward-agrees, onward-past, onward}
use Rattle.list_lemmas.proofs.Numbers.{not-less}

-- terms for the first variables of each side that make two trees equal, and after which every two substitutions go on that do so
pub record IsGeneralApart (s : Tree) (t : Tree) (left : List Tree) (right : List Tree) : Type 0 where
  pub unifies : IsUnifierApart s t (substitution left) (substitution right)
  pub is_general :
      (ρ π : Substitution) → IsUnifierApart s t ρ π
      → (another : Substitution)
      × ((v : ℕ) → v < length left → ρ v ≡ instance another (substitution left v))
      × ((v : ℕ) → v < length right → π v ≡ instance another (substitution right v))

-- ---- one side

abbrev pub wide_by : (ℕ → ℕ) → List ℕ → List Tree → Substitution
wide_by fresh order terms v =
    if nat_lt v (length terms) then instance (renaming order) (substitution terms v) else variable (length order + fresh v)

module _ (fresh : ℕ → ℕ) (order : List ℕ) (terms : List Tree) where
  within : (v : ℕ) → v < length terms → wide_by fresh order terms v ≡ instance (renaming order) (substitution terms v)
  within v less =
      cond-true (nat_lt v (length terms)) (instance (renaming order) (substitution terms v)) (variable (length order + fresh v))
      (lt-ltb v (length terms) less)

  past : (v : ℕ) → length terms ≤ v → wide_by fresh order terms v ≡ variable (length order + fresh v)
  past v beyond =
      cond-false (nat_lt v (length terms)) (instance (renaming order) (substitution terms v)) (variable (length order + fresh v))
      (not-less v (length terms) beyond)

  pub wide_by-instance :
      (t : Tree) → VariablesBelow (length terms) t → instance (wide_by fresh order terms) t ≡ instance (renaming order) (instance (substitution terms) t)
  wide_by-instance t below =
      instances_agree_below (length terms) (wide_by fresh order terms) (after (renaming order) (substitution terms)) t below
      (λ v less. within v less)
      ∙ sym (instances_of_instances (renaming order) (substitution terms) t)

  pub wide_by-literals :
      (ls : List TreeLiteral) → AllByRecursion (LiteralVariablesBelow (length terms)) ls
      → literals_instance (wide_by fresh order terms) ls ≡ literals_instance (renaming order) (literals_instance (substitution terms) ls)
  wide_by-literals ls all =
      literals-below (length terms) (wide_by fresh order terms) (after (renaming order) (substitution terms)) ls all (λ v less. within v less)
      ∙ sym (literals_instance-again (renaming order) (substitution terms) ls)

  -- what has numbers comes back
  pub wide_by-back :
      (ls : List TreeLiteral) → Has order (trees_variables (trees_of terms)) → AllByRecursion (LiteralVariablesBelow (length terms)) ls
      → literals_instance (numbered order) (literals_instance (wide_by fresh order terms) ls) ≡ literals_instance (substitution terms) ls
  wide_by-back ls has all =
      ap (literals_instance (numbered order)) (wide_by-literals ls all)
      ∙ literals_back order (literals_instance (substitution terms) ls) (has-literals order terms ls has all)

wide_by-general :
    (fresh : ℕ → ℕ) (order : List ℕ) (terms : List Tree) (another rest ρ : Substitution)
    → Has order (trees_variables (trees_of terms))
    → ((v : ℕ) → v < length terms → ρ v ≡ instance another (substitution terms v)) → ((v : ℕ) → rest (fresh v) ≡ ρ v)
    → (v : ℕ) → ρ v ≡ instance (onward order another rest) (wide_by fresh order terms v)
wide_by-general fresh order terms another rest ρ has goes_on new v =
    elim (cases_lt v (length terms)) [
      | inl less ↦
          (let put : Tree = substitution terms v in
          goes_on v less
          ∙ sym (instance-agree (after (onward order another rest) (renaming order)) another put
          (onward-agrees order another rest (tree_variables put) (Has-item order terms v (variable v) less has)))
          ∙ sym (instances_of_instances (onward order another rest) (renaming order) put)
          ∙ ap (instance (onward order another rest)) (sym (within fresh order terms v less)))
      | inr beyond ↦
          (sym (new v) ∙ sym (onward-past order another rest (fresh v))
          ∙ ap (instance (onward order another rest)) (sym (past fresh order terms v beyond)))
    ]

-- ---- both sides

-- new variables: even ones for the left side, odd ones for the right side
abbrev pub left_fresh : ℕ → ℕ
left_fresh v = 2 * v

abbrev pub right_fresh : ℕ → ℕ
right_fresh v = 2 * v + 1

pub wide_apart :
    (order : List ℕ) (left right : List Tree) (s t : Tree)
    → VariablesBelow (length left) s → VariablesBelow (length right) t
    → Has order (trees_variables (trees_of left)) → Has order (trees_variables (trees_of right))
    → IsGeneralApart s t left right
    → IsMostGeneralUnifierApart s t (wide_by left_fresh order left) (wide_by right_fresh order right)
wide_apart order left right s t s_below t_below has_left has_right general = record {
  unifies =
      wide_by-instance left_fresh order left s s_below ∙ ap (instance (renaming order)) general.unifies
      ∙ sym (wide_by-instance right_fresh order right t t_below);
  is_general = λ ρ π e.
      let by = general.is_general ρ π e in (
        onward order by.0 (joint_of ρ π),
        wide_by-general left_fresh order left by.0 (joint_of ρ π) ρ has_left by.1 (joint_of-left ρ π),
        wide_by-general right_fresh order right by.0 (joint_of ρ π) π has_right by.2 (joint_of-right ρ π),
      );
}
