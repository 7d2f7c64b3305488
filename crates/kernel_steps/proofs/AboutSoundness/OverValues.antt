-- Truth of clauses under all assignments of certain numbers: of the values of an interpretation, or of all numbers.
use Rattle.std.proofs.Common.{◌≡◌, ℕ, Bool, true, false, ◌||◌, ◌==◌, List, [], ◌∷◌, refl, ap, ap₂, sym, ◌∙◌, ⊎_elim}
use Rattle.std.specs.Prelude.{not, flat_map, if◌then◌else◌}
use Rattle.std.specs.List.{list_all}
use Rattle.std.proofs.lemmas.Bool.{and_parts, and_from, or_cases, or_left, or_right, not_from_false, cond-true, cond-false, cond_both, eq-eqb, true≢false}
use Rattle.std.proofs.lemmas.List.Folds.{list_any-append}
use Rattle.fol_base.specs.Tree.{Tree, variable, application, Trees, no_trees, tree_then, tree_variables, trees_variables}
use Rattle.fol_base.specs.Instance.{substitution}
use Rattle.fol_base.specs.Clause.{TreeLiteral, TreeClause, literal_variables}
use Rattle.fol_base.specs.Interpretation.{Interpretation, Assignment, symbol_value, tree_value, trees_values, sides_true, literal_true_under, literals_true_under}
use Rattle.fol_base.proofs.AboutClauses.MeaningLemmas.{truth_of_instances}
use Rattle.kernel_steps.specs.Split.{has_number, share_variable, share_no_variables}
use Rattle.kernel_steps.specs.Conclusion.{bound_literals}
use Rattle.kernel_steps.specs.Soundness.{NameTruth, names_true}
use Rattle.kernel_steps.proofs.AboutSplits.SplitTests.{share_variable-fails, list_all-both}

abbrev pub Within : (ℕ → Type 0) → Assignment → Type 0
Within Value ρ = (v : ℕ) → Value (ρ v)

abbrev pub HoldsOver : (ℕ → Type 0) → Interpretation → List TreeLiteral → Type 0
HoldsOver Value i ls = (ρ : Assignment) → Within Value ρ → literals_true_under i ρ ls ≡ true

pub record FailsOver (Value : ℕ → Type 0) (i : Interpretation) (ls : List TreeLiteral) : Type 0 where
  pub values : Assignment
  pub within : Within Value values
  pub is_false : literals_true_under i values ls ≡ false

abbrev pub MeansOver : (ℕ → Type 0) → Interpretation → List TreeLiteral → Bool → Type 0
MeansOver Value i ls b = (b ≡ true → HoldsOver Value i ls) × (b ≡ false → FailsOver Value i ls)

-- one of the literals or of the names is true
abbrev pub ClauseOver : (ℕ → Type 0) → Interpretation → NameTruth → TreeClause → Type 0
ClauseOver Value i truth c =
    (ρ : Assignment) → Within Value ρ → (literals_true_under i ρ c.literals || names_true truth c.names) ≡ true

-- what a binding puts in has values of these
abbrev pub KeepsOver : (ℕ → Type 0) → Interpretation → List Tree → Type 0
KeepsOver Value i bind = (ρ : Assignment) → Within Value ρ → Within Value (λ v. tree_value i ρ (substitution bind v))

-- the bound literals are true where none of the names is
pub bound-over :
    (Value : ℕ → Type 0) (i : Interpretation) (truth : NameTruth) (bind : List Tree) (c : TreeClause) (ρ : Assignment)
    → ClauseOver Value i truth c → KeepsOver Value i bind → Within Value ρ → names_true truth c.names ≡ false
    → literals_true_under i ρ (bound_literals bind c) ≡ true
bound-over Value i truth bind c ρ over keeps within no_name =
    truth_of_instances i ρ (substitution bind) c.literals
    ∙ ⊎_elim (λ holds. holds) (λ name. absurd (true≢false (sym name ∙ no_name)))
    (or_cases (literals_true_under i (λ v. tree_value i ρ (substitution bind v)) c.literals) (names_true truth c.names)
    (over (λ v. tree_value i ρ (substitution bind v)) (keeps ρ within)))

-- ---- assignments that agree on variables

mutual
  tree_value-agree :
      (i : Interpretation) (ρ π : Assignment) (t : Tree)
      → ((v : ℕ) → has_number v (tree_variables t) ≡ true → ρ v ≡ π v) → tree_value i ρ t ≡ tree_value i π t
  tree_value-agree i ρ π (variable v) agree = agree v (or_left (v == v) false (eq-eqb v v refl))
  tree_value-agree i ρ π (application f ts) agree = ap (symbol_value i f) (trees_values-agree i ρ π ts agree)

  trees_values-agree :
      (i : Interpretation) (ρ π : Assignment) (ts : Trees)
      → ((v : ℕ) → has_number v (trees_variables ts) ≡ true → ρ v ≡ π v) → trees_values i ρ ts ≡ trees_values i π ts
  trees_values-agree i ρ π no_trees agree = refl
  trees_values-agree i ρ π (tree_then t ts) agree =
      ap₂ ◌∷◌
      (tree_value-agree i ρ π t
      (λ v h. agree v (list_any-append (λ k. v == k) (tree_variables t) (trees_variables ts) ∙ or_left (has_number v (tree_variables t)) (has_number v (trees_variables ts)) h)))
      (trees_values-agree i ρ π ts
      (λ v h. agree v (list_any-append (λ k. v == k) (tree_variables t) (trees_variables ts) ∙ or_right (has_number v (tree_variables t)) (has_number v (trees_variables ts)) h)))

literal_true-agree :
    (i : Interpretation) (ρ π : Assignment) (l : TreeLiteral)
    → ((v : ℕ) → has_number v (literal_variables l) ≡ true → ρ v ≡ π v) → literal_true_under i ρ l ≡ literal_true_under i π l
literal_true-agree i ρ π l agree =
    ap₂ (sides_true l.positive)
    (tree_value-agree i ρ π l.left
    (λ v h. agree v (list_any-append (λ k. v == k) (tree_variables l.left) (tree_variables l.right) ∙ or_left (has_number v (tree_variables l.left)) (has_number v (tree_variables l.right)) h)))
    (tree_value-agree i ρ π l.right
    (λ v h. agree v (list_any-append (λ k. v == k) (tree_variables l.left) (tree_variables l.right) ∙ or_right (has_number v (tree_variables l.left)) (has_number v (tree_variables l.right)) h)))

pub literals_true-agree :
    (i : Interpretation) (ρ π : Assignment) (ls : List TreeLiteral)
    → ((v : ℕ) → has_number v (flat_map literal_variables ls) ≡ true → ρ v ≡ π v)
    → literals_true_under i ρ ls ≡ literals_true_under i π ls
literals_true-agree i ρ π [] agree = refl
literals_true-agree i ρ π (l ∷ ls) agree =
    ap₂ ◌||◌
    (literal_true-agree i ρ π l
    (λ v h. agree v (list_any-append (λ k. v == k) (literal_variables l) (flat_map literal_variables ls) ∙ or_left (has_number v (literal_variables l)) (has_number v (flat_map literal_variables ls)) h)))
    (literals_true-agree i ρ π ls
    (λ v h. agree v (list_any-append (λ k. v == k) (literal_variables l) (flat_map literal_variables ls) ∙ or_right (has_number v (literal_variables l)) (has_number v (flat_map literal_variables ls)) h)))

-- ---- lists that share no variables fail together

abbrev pub EachFails : (ℕ → Type 0) → Interpretation → List (List TreeLiteral) → Type 0
EachFails Value i [] = Unit {0}
EachFails Value i (ls ∷ lss) = FailsOver Value i ls × EachFails Value i lss

pub record AllFail (Value : ℕ → Type 0) (i : Interpretation) (lss : List (List TreeLiteral)) : Type 0 where
  pub values : Assignment
  pub within : Within Value values
  pub are_false : list_all (λ ls. not (literals_true_under i values ls)) lss ≡ true

fail_with :
    (Value : ℕ → Type 0) (i : Interpretation) (ls : List TreeLiteral) (lss : List (List TreeLiteral))
    → FailsOver Value i ls → AllFail Value i lss → list_all (λ ks. not (share_variable ls ks)) lss ≡ true → AllFail Value i (ls ∷ lss)
fail_with Value i ls lss first rest apart = record {
  values = ρ;
  within = λ v. cond_both (here v) (first.values v) (rest.values v) Value (λ h. first.within v) (λ h. rest.within v);
  are_false =
      and_from (not (literals_true_under i ρ ls)) (list_all (λ ks. not (literals_true_under i ρ ks)) lss)
      (not_from_false (literals_true_under i ρ ls)
      (literals_true-agree i ρ first.values ls (λ v h. cond-true (here v) (first.values v) (rest.values v) h) ∙ first.is_false))
      (list_all-both (λ ks. not (share_variable ls ks)) (λ ks. not (literals_true_under i rest.values ks)) (λ ks. not (literals_true_under i ρ ks))
      (λ ks no_shared fails.
      ap not
      (literals_true-agree i ρ rest.values ks
      (λ v h. cond-false (here v) (first.values v) (rest.values v) (share_variable-fails ls ks v no_shared h)))
      ∙ fails)
      lss apart rest.are_false);
}
  where
    here : ℕ → Bool
    here v = has_number v (flat_map literal_variables ls)

    ρ : Assignment
    ρ v = if here v then first.values v else rest.values v

pub fail_together :
    (Value : ℕ → Type 0) (i : Interpretation) (some : Assignment) → Within Value some
    → (lss : List (List TreeLiteral)) → share_no_variables lss ≡ true → EachFails Value i lss → AllFail Value i lss
fail_together Value i some some_within [] apart each = record { values = some; within = some_within; are_false = refl }
fail_together Value i some some_within (ls ∷ lss) apart each =
    let both = and_parts (list_all (λ ks. not (share_variable ls ks)) lss) (share_no_variables lss) apart in
    fail_with Value i ls lss each.0 (fail_together Value i some some_within lss both.1 each.1) both.0
