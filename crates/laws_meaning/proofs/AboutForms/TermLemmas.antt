-- The table of a structure gives well-formed terms the structure's values, and well-formed clauses its truth.
use Rattle.std.proofs.Common.{◌≡◌, ℕ, ◌<◌, ◌==◌, Bool, true, not, ◌&&◌, ◌||◌, List, [], ◌∷◌, length, ⊎_elim, refl, ap, ap₂, sym, ◌∙◌, subst, arith}
use Rattle.std.specs.List.{AllByRecursion}
use Rattle.std.proofs.lemmas.Bool.{and_parts, eqb-true, true≢false}
use Rattle.fol_base.specs.Tree.{Tree, variable, application, Trees, no_trees, tree_then, trees_count, true_symbol, true_tree, is_truth}
use Rattle.fol_base.specs.Kind.{is_function_term, are_function_terms, is_predicate_term, is_literal}
use Rattle.fol_base.specs.Clause.{TreeLiteral}
use Rattle.fol_base.specs.WellFormed.{has_arities, have_arities, is_literal_of, are_literals_of}
use Rattle.fol_base.specs.Interpretation.{Interpretation, Assignment, tree_value, trees_values, sides_true, literal_true_under, literals_true_under}
use Rattle.fol_base.proofs.AboutTerms.TreeLemmas.{tree_eq-true}
use Rattle.fol_base.proofs.AboutTerms.WellFormedLemmas.{is_literal-cases}
use Rattle.kernel_steps.proofs.AboutSoundness.SoundLemmas.{function_term-value}
use Rattle.laws_meaning.proofs.AboutStructures.Structures.{Structure, value, values, literal_holds, holds}
use Rattle.laws_meaning.proofs.AboutStructures.Search.{HasSize}
use Rattle.laws_meaning.proofs.AboutForms.TableLemmas.{tabulated, Tabulates, symbol-same, table-proper}

module _ (p q : ℕ → Bool) (i : Interpretation) (s : Structure) (arity : ℕ → ℕ) (first count : ℕ) (t : Tabulates p q i s first count) where
  abbrev made : Interpretation
  made = tabulated i s arity first count

  record AreSame (ρ : Assignment) (ts : Trees) : Type 0 where
    same : trees_values made ρ ts ≡ values s ρ ts
    long : length (trees_values made ρ ts) ≡ trees_count ts
    within : AllByRecursion (λ v. v < i.size) (trees_values made ρ ts)

  -- a symbol at terms whose values are the same
  applied-same : (ρ : Assignment) (g : ℕ) (ts : Trees) → AreSame ρ ts → (arity g == trees_count ts) ≡ true → tree_value made ρ (application g ts) ≡ value s ρ (application g ts)
  applied-same ρ g ts a h =
      symbol-same p q i s arity first count t g (trees_values made ρ ts) (a.long ∙ sym (eqb-true (arity g) (trees_count ts) h)) a.within ∙ ap (s g) a.same

  mutual
    term-same :
        (ρ : Assignment) → HasSize i.size ρ → (u : Tree) → is_function_term p u ≡ true → has_arities arity u ≡ true
        → tree_value made ρ u ≡ value s ρ u
    term-same ρ has (variable v) f h = refl
    term-same ρ has (application g us) f h =
        let kind = and_parts (not (g == true_symbol)) (not (p g) && are_function_terms p us) f in
        let rest = and_parts (not (p g)) (are_function_terms p us) kind.1 in
        let takes = and_parts (arity g == trees_count us) (have_arities arity us) h in
        applied-same ρ g us (terms-same ρ has us rest.1 takes.1) takes.0

    terms-same : (ρ : Assignment) → HasSize i.size ρ → (us : Trees) → are_function_terms p us ≡ true → have_arities arity us ≡ true → AreSame ρ us
    terms-same ρ has no_trees f h = record { same = refl; long = refl; within = tt }
    terms-same ρ has (tree_then u us) f h =
        let kind = and_parts (is_function_term p u) (are_function_terms p us) f in
        let takes = and_parts (has_arities arity u) (have_arities arity us) h in
        let rest = terms-same ρ has us kind.1 takes.1 in
        record {
          same = ap₂ ◌∷◌ (term-same ρ has u kind.0 takes.0) rest.same;
          long = omega (arith, rest.long);
          within = (function_term-value p made ρ u (table-proper p q i s arity first count t) has kind.0, rest.within);
        }

  atom-same :
      (ρ : Assignment) → HasSize i.size ρ → (u : Tree) → is_predicate_term p u ≡ true → has_arities arity u ≡ true
      → tree_value made ρ u ≡ value s ρ u
  atom-same ρ has (variable v) f h = absurd (true≢false (sym f))
  atom-same ρ has (application g us) f h =
      let kind = and_parts (not (g == true_symbol)) (p g && are_function_terms p us) f in
      let rest = and_parts (p g) (are_function_terms p us) kind.1 in
      let takes = and_parts (arity g == trees_count us) (have_arities arity us) h in
      applied-same ρ g us (terms-same ρ has us rest.1 takes.1) takes.0

  truth-same : (ρ : Assignment) (u : Tree) → is_truth u ≡ true → tree_value made ρ u ≡ value s ρ u
  truth-same ρ u h =
      subst (λ (v : Tree). tree_value made ρ v ≡ value s ρ v) (sym (tree_eq-true u true_tree h))
      (sym (ap (λ (f : List ℕ → ℕ). f []) (t.base 0 t.positive)))

  literal-same :
      (ρ : Assignment) → HasSize i.size ρ → (l : TreeLiteral) → is_literal_of (record { is_predicate = p; arity = arity }) l ≡ true
      → literal_true_under made ρ l ≡ literal_holds s ρ l
  literal-same ρ has l h =
      let parts = and_parts (is_literal p l) (has_arities arity l.left && has_arities arity l.right) h in
      let takes = and_parts (has_arities arity l.left) (has_arities arity l.right) parts.1 in
      ⊎_elim
      (λ e. ap₂ (sides_true l.positive) (term-same ρ has l.left e.0 takes.0) (term-same ρ has l.right e.1 takes.1))
      (λ a.
      ap₂ (sides_true l.positive)
      (⊎_elim (λ f. atom-same ρ has l.left f takes.0) (λ f. truth-same ρ l.left f) a.0)
      (truth-same ρ l.right a.1))
      (is_literal-cases p l parts.0)

  pub clause-same :
      (ρ : Assignment) → HasSize i.size ρ → (ls : List TreeLiteral) → are_literals_of (record { is_predicate = p; arity = arity }) ls ≡ true
      → literals_true_under made ρ ls ≡ holds s ρ ls
  clause-same ρ has [] h = refl
  clause-same ρ has (l ∷ ls) h =
      let parts = and_parts (is_literal_of (record { is_predicate = p; arity = arity }) l) (are_literals_of (record { is_predicate = p; arity = arity }) ls) h in
      ap₂ ◌||◌ (literal-same ρ has l parts.0) (clause-same ρ has ls parts.1)
