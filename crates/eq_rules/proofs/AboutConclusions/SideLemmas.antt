-- Two sides of a clause that are alike: their kinds, their order and their sizes.
use mathlib.Core.Bool.{beq}
use Rattle.std.proofs.Common.{◌≡◌, ℕ, ◌+◌, Bool, true, false, ◌&&◌, ◌||◌, ◌==◌, not, List, length, refl, ap, ap₂, sym, ◌∙◌, ⊎_elim, arith}
use Rattle.std.proofs.lemmas.Bool.{true≢false, not-true, not_from_false, and_parts, and_from, or_left, or_right, false_from_ne_true}
use Rattle.std.proofs.Math.Bool.{and-false}
use Rattle.fol_base.specs.Tree.{Tree, variable, application, tree_size, tree_eq, VariablesBelow, is_truth, true_symbol}
use Rattle.fol_base.specs.Instance.{Substitution, instance, substitution}
use Rattle.fol_base.specs.Clause.{TreeLiteral, LiteralVariablesBelow, literal_size}
use Rattle.fol_base.specs.Kind.{is_function_term, is_predicate_term, is_literal}
use Rattle.fol_base.specs.Order.{tree_greater}
use Rattle.fol_base.specs.Sides.{side_of, other_side_of}
use Rattle.fol_base.specs.declared.clause.Side.{Side}
use Rattle.fol_base.specs.declared.clause.Side.TheVariants.{Left, Right}
use Rattle.fol_base.proofs.AboutClauses.InferenceLemmas.{is_truth-instance}
use Rattle.fol_base.proofs.AboutTerms.KindLemmas.{is_function_term-parts, is_predicate_term-parts, function_term-no_truth}
use Rattle.fol_base.proofs.AboutTerms.TreeLemmas.{tree_eq-refl, tree_eq-true}
use Rattle.fol_base.proofs.AboutTerms.WellFormedLemmas.{sides_of_one_kind}
use Rattle.kbo_order.proofs.AboutLaws.StableLemmas.{trees_stable}
use Rattle.kernel_steps.proofs.AboutCalls.BoundLemmas.{is_truth-application}
use Rattle.kernel_steps.specs.Inference.{has_predicate_head, other_side_not_above}
use Rattle.eq_rules.specs.Concluding.{IsGeneralBelow}
use Rattle.eq_rules.specs.Factoring.{are_alike}
use Rattle.list_lemmas.proofs.Bools.{beq-turned}
use Rattle.kernel_steps.specs.Inference as kernel
use Rattle.unifier.specs.Laws as unifying

-- ---- kinds

-- what are_alike says, part by part
pub record Alike (l : TreeLiteral) (s : Side) (m : TreeLiteral) (z : Side) : Type 0 where
  pub first_positive : l.positive ≡ true
  pub second_positive : m.positive ≡ true
  pub first_no_truth : is_truth (side_of s l) ≡ false
  pub second_no_truth : is_truth (side_of z m) ≡ false
  pub others : beq (is_truth (other_side_of s l)) (is_truth (other_side_of z m)) ≡ true

pub alike-parts : (l : TreeLiteral) (s : Side) (m : TreeLiteral) (z : Side) → are_alike l s m z ≡ true → Alike l s m z
alike-parts l s m z h =
    let a : Bool = l.positive in
    let b : Bool = m.positive in
    let d : Bool = not (is_truth (side_of s l)) in
    let e : Bool = not (is_truth (side_of z m)) in
    let f : Bool = beq (is_truth (other_side_of s l)) (is_truth (other_side_of z m)) in
    let one = and_parts (((a && b) && d) && e) f h in
    let two = and_parts ((a && b) && d) e one.0 in
    let three = and_parts (a && b) d two.0 in
    let four = and_parts a b three.0 in
    record {
      first_positive = four.0;
      second_positive = four.1;
      first_no_truth = not-true (is_truth (side_of s l)) three.1;
      second_no_truth = not-true (is_truth (side_of z m)) two.1;
      others = one.1;
    }

pub function-head : (p : ℕ → Bool) (t : Tree) → is_function_term p t ≡ true → has_predicate_head p t ≡ false
function-head p (variable v) h = refl
function-head p (application f ts) h =
    ap (λ b. not (f == true_symbol) && b) (is_function_term-parts p f ts h).no_predicate ∙ and-false (not (f == true_symbol))

pub predicate-head : (p : ℕ → Bool) (t : Tree) → is_predicate_term p t ≡ true → has_predicate_head p t ≡ true
predicate-head p (variable v) h = absurd (true≢false (sym h))
predicate-head p (application f ts) h =
    let parts = is_predicate_term-parts p f ts h in
    and_from (not (f == true_symbol)) (p f) (not_from_false (f == true_symbol) parts.no_truth) parts.predicate

-- of one kind for the calculus, and for a unifier
pub record Kinds (p : ℕ → Bool) (s u : Tree) : Type 0 where
  pub calculus : kernel.have_heads_of_one_kind p s u ≡ true
  pub unifier : unifying.are_of_one_kind p s u ≡ true

beq-differ : (a b : Bool) → a ≡ true → b ≡ false → beq a b ≡ true → ⊥
beq-differ true true e f h = true≢false f
beq-differ true false e f h = true≢false (sym h)
beq-differ false b e f h = true≢false (sym e)

pub alike-kinds :
    (p : ℕ → Bool) (l : TreeLiteral) (s : Side) (m : TreeLiteral) (z : Side)
    → is_literal p l ≡ true → is_literal p m ≡ true → are_alike l s m z ≡ true → Kinds p (side_of s l) (side_of z m)
alike-kinds p l s m z l_kind m_kind h =
    let parts = alike-parts l s m z h in
    let t : Tree = side_of s l in
    let u : Tree = side_of z m in
    let both_functions : is_function_term p t ≡ true → is_function_term p u ≡ true → Kinds p t u = λ e f. record {
      calculus =
          or_right (has_predicate_head p t && has_predicate_head p u)
          ((not (has_predicate_head p t) && not (is_truth t)) && (not (has_predicate_head p u) && not (is_truth u)))
          (and_from (not (has_predicate_head p t) && not (is_truth t)) (not (has_predicate_head p u) && not (is_truth u))
          (and_from (not (has_predicate_head p t)) (not (is_truth t)) (ap not (function-head p t e)) (ap not parts.first_no_truth))
          (and_from (not (has_predicate_head p u)) (not (is_truth u)) (ap not (function-head p u f)) (ap not parts.second_no_truth)));
      unifier =
          or_left (is_function_term p t && is_function_term p u) _ (and_from (is_function_term p t) (is_function_term p u) e f);
    } in
    let both_predicates : is_predicate_term p t ≡ true → is_predicate_term p u ≡ true → Kinds p t u = λ e f. record {
      calculus =
          or_left (has_predicate_head p t && has_predicate_head p u) _
          (and_from (has_predicate_head p t) (has_predicate_head p u) (predicate-head p t e) (predicate-head p u f));
      unifier =
          or_right (is_function_term p t && is_function_term p u) _
          (and_from (is_predicate_term p t || is_truth t) (is_predicate_term p u || is_truth u)
          (or_left (is_predicate_term p t) (is_truth t) e) (or_left (is_predicate_term p u) (is_truth u) f));
    } in
    ⊎_elim
    (λ l_function.
    ⊎_elim
    (λ m_function. both_functions l_function.0 m_function.0)
    (λ m_predicate.
    absurd (beq-differ (is_truth (other_side_of z m)) (is_truth (other_side_of s l)) m_predicate.1
    (function_term-no_truth p (other_side_of s l) l_function.1)
    (beq-turned (is_truth (other_side_of s l)) (is_truth (other_side_of z m)) parts.others)))
    (sides_of_one_kind p z m m_kind parts.second_no_truth))
    (λ l_predicate.
    ⊎_elim
    (λ m_function.
    absurd (beq-differ (is_truth (other_side_of s l)) (is_truth (other_side_of z m)) l_predicate.1
    (function_term-no_truth p (other_side_of z m) m_function.1) parts.others))
    (λ m_predicate. both_predicates l_predicate.0 m_predicate.0)
    (sides_of_one_kind p z m m_kind parts.second_no_truth))
    (sides_of_one_kind p s l l_kind parts.first_no_truth)

-- ---- the order

-- what isn't above in an instance isn't before
pub not_above_lifts :
    (κ : Substitution) (t s : Tree)
    → (not (tree_greater (instance κ t) (instance κ s)) && not (tree_eq (instance κ t) (instance κ s))) ≡ true
    → (not (tree_greater t s) && not (tree_eq t s)) ≡ true
not_above_lifts κ t s h =
    let parts = and_parts (not (tree_greater (instance κ t) (instance κ s))) (not (tree_eq (instance κ t) (instance κ s))) h in
    and_from (not (tree_greater t s)) (not (tree_eq t s))
    (not_from_false (tree_greater t s)
    (false_from_ne_true (tree_greater t s) (λ e.
    true≢false (sym (trees_stable κ t s e) ∙ not-true (tree_greater (instance κ t) (instance κ s)) parts.0))))
    (not_from_false (tree_eq t s)
    (false_from_ne_true (tree_eq t s) (λ e.
    true≢false
    (sym (ap (tree_eq (instance κ t)) (ap (instance κ) (sym (tree_eq-true t s e))) ∙ tree_eq-refl (instance κ t))
    ∙ not-true (tree_eq (instance κ t) (instance κ s)) parts.1))))

-- so a side is, where the sides of an instance are instances of those of another
pub not_above_by :
    (κ σ τ : Substitution) (side : Side) (l : TreeLiteral)
    → instance κ (instance σ (other_side_of side l)) ≡ instance τ (other_side_of side l)
    → instance κ (instance σ (side_of side l)) ≡ instance τ (side_of side l)
    → other_side_not_above τ side l ≡ true → other_side_not_above σ side l ≡ true
not_above_by κ σ τ side l other_is side_is h =
    not_above_lifts κ (instance σ (other_side_of side l)) (instance σ (side_of side l))
    (ap₂ (λ t s. not (tree_greater t s) && not (tree_eq t s)) other_is side_is ∙ h)

-- ---- sizes

pub sides-size : (s : Side) (l : TreeLiteral) → literal_size l ≡ tree_size (side_of s l) + tree_size (other_side_of s l)
sides-size Left l = refl
sides-size Right l = let swap : tree_size l.left + tree_size l.right ≡ tree_size l.right + tree_size l.left = omega arith in swap

pub side-below : (n : ℕ) (s : Side) (l : TreeLiteral) → LiteralVariablesBelow n l → VariablesBelow n (side_of s l)
side-below n Left l h = h.0
side-below n Right l h = h.1

pub other_side-below : (n : ℕ) (s : Side) (l : TreeLiteral) → LiteralVariablesBelow n l → VariablesBelow n (other_side_of s l)
other_side-below n Left l h = h.1
other_side-below n Right l h = h.0

-- ---- a side is no `$true` under a unifier, where neither of the two is

pub side_no_truth :
    (s u : Tree) (terms : List Tree) → IsGeneralBelow s u terms → VariablesBelow (length terms) s
    → is_truth s ≡ false → is_truth u ≡ false → is_truth (instance (substitution terms) s) ≡ false
side_no_truth (application f ts) u terms general below s_no u_no = is_truth-application (substitution terms) f ts ∙ s_no
side_no_truth (variable v) (application g us) terms general below s_no u_no =
    ap is_truth general.unifies ∙ is_truth-application (substitution terms) g us ∙ u_no
side_no_truth (variable v) (variable w) terms general below s_no u_no =
    let by = general.is_general (λ x. variable 0) refl in
    false_from_ne_true (is_truth (substitution terms v)) (λ e.
    true≢false (sym (is_truth-instance by.0 (substitution terms v) e) ∙ ap is_truth (sym (by.1 v below))))
