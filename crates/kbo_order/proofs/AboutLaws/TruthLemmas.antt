-- What a term is to `$true`.
use Rattle.std.proofs.Common.{◌≡◌, ℕ, true, false, List, refl, ap, sym, ◌∙◌, subst, inl, inr, ⊎_elim, arith}
use Rattle.std.proofs.lemmas.Bool.{cases_lt, true≢false}
use Rattle.fol_base.specs.Tree.{Tree, variable, application, Trees, no_trees, tree_then, trees_of, true_tree, is_truth}
use Rattle.fol_base.specs.Instance.{Substitution, instance, instances}
use Rattle.fol_base.specs.Term.{tree_of}
use Rattle.fol_base.specs.declared.term.Term.{Term}
use Rattle.fol_base.specs.declared.term.Term.TheVariants.{App}
use Rattle.fol_base.specs.Order.{compare_trees, TreeGreater}
use Rattle.fol_base.proofs.AboutTerms.TreeLemmas.{tree_size-positive}
use Rattle.fol_base.proofs.AboutOrders.OrderLemmas.{tree_equality_decided}
use Rattle.kbo_order.specs.declared.cmp.Cmp.{Cmp}
use Rattle.kbo_order.specs.declared.cmp.Cmp.TheVariants.{Greater, Equal, Unordered}
use Rattle.kbo_order.specs.Cmp.{comparison_of, is_equal}
use Rattle.kbo_order.proofs.AboutReading.FurtherLemmas.{answer-compared}
use Rattle.kbo_order.proofs.AboutReading.AnswerLemmas.{compared-answer, equal-decides}

pub truth-is : (c : Cmp) (t : Tree) → comparison_of c ≡ compare_trees t true_tree → is_equal c ≡ true → t ≡ true_tree
truth-is c t compared equal = (equal-decides c t true_tree (compared-answer c t true_tree compared)).0 equal

pub against-variable : (v : ℕ) → comparison_of Unordered ≡ compare_trees (variable v) true_tree
against-variable v =
    answer-compared Unordered (variable v) true_tree (
      λ e. differ e,
      λ g. ⊎_elim (λ less. absurd (omega arith)) (λ e. e.1) g.1,
      λ g. ⊎_elim (λ less. absurd (omega arith)) (λ e. e.1) g.1,
    )
  where
    differ : variable v ≡ true_tree → ⊥
    differ e = cc

pub against-equal : (ρ : Substitution) (t : Tree) → is_truth t ≡ true → comparison_of Equal ≡ compare_trees (instance ρ t) true_tree
against-equal ρ t e =
    answer-compared Equal (instance ρ t) true_tree (ap (instance ρ) ((tree_equality_decided t true_tree).0 e))

-- `$true` is below every other term that isn't a variable
truth-least : (f : ℕ) (ts : Trees) → (f ≡ 0 → ts ≡ no_trees → ⊥) → TreeGreater (application f ts) true_tree
truth-least f no_trees other =
    (λ v. omega arith, inr (refl, ⊎_elim (λ more. inl more) (λ none. absurd (other (omega arith) refl)) (cases_lt 0 f)))
truth-least f (tree_then t ts) other = (λ v. omega arith, inl (omega (arith, tree_size-positive t)))

no_instances : (ρ : Substitution) (ts : Trees) → instances ρ ts ≡ no_trees → ts ≡ no_trees
no_instances ρ no_trees e = refl
no_instances ρ (tree_then t ts) e = absurd (cc)

above-truth :
    (ρ : Substitution) (f : ℕ) (ts : Trees) → is_truth (application f ts) ≡ false
    → comparison_of Greater ≡ compare_trees (instance ρ (application f ts)) true_tree
above-truth ρ f ts other =
    answer-compared Greater (instance ρ (application f ts)) true_tree
    (truth-least f (instances ρ ts) (λ e d.
    true≢false
    (sym ((tree_equality_decided (application f ts) true_tree).1 (ap (λ (g : ℕ). application g ts) e ∙ ap (application 0) (no_instances ρ ts d)))
    ∙ other)))

pub against-greater :
    (ρ : Substitution) (x : Term) (f : ℕ) (ts : List Tree) → x ≡ App f ts → is_truth (tree_of x) ≡ false
    → comparison_of Greater ≡ compare_trees (instance ρ (tree_of x)) true_tree
against-greater ρ x f ts e other =
    subst (λ (y : Term). comparison_of Greater ≡ compare_trees (instance ρ (tree_of y)) true_tree) (sym e)
    (above-truth ρ f (trees_of ts) (ap (λ (y : Term). is_truth (tree_of y)) (sym e) ∙ other))
