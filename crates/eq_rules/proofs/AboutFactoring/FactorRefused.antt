-- Sides of a clause by which nothing is factored.
use mathlib.Core.Bool.{beq}
use Rattle.std.proofs.Common.{◌≡◌, ℕ, Bool, true, false, ◌&&◌, ◌==◌, not, Option, None, Some, ap, ap₂, sym, ◌∙◌, subst, ⊎_elim}
use Rattle.std.specs.Prelude.{slice_get}
use Rattle.std.proofs.lemmas.Bool.{true≢false, not-true, not_from_false, and_parts, and_from, or_cases, false_from_ne_true}
use Rattle.std.proofs.lemmas.Option.{same_Some}
use Rattle.fol_base.specs.Tree.{Tree, variable, application, is_truth, true_symbol}
use Rattle.fol_base.specs.Instance.{Substitution, instance}
use Rattle.fol_base.specs.Clause.{TreeLiteral, TreeClause, literal_instance}
use Rattle.fol_base.specs.Ground.{literals_instance}
use Rattle.fol_base.specs.Kind.{is_literal}
use Rattle.fol_base.specs.Selection.{SelectionMode, chosen, eligible}
use Rattle.fol_base.specs.Sides.{side_of, other_side_of}
use Rattle.fol_base.specs.Unifier.{IsUnifier}
use Rattle.fol_base.specs.declared.clause.Side.{Side}
use Rattle.fol_base.proofs.AboutClauses.InferenceLemmas.{literal_in_instance}
use Rattle.fol_base.proofs.AboutTerms.KindLemmas.{function_term-no_truth}
use Rattle.fol_base.proofs.AboutClauses.RuleLemmas.{factored-parts}
use Rattle.fol_base.proofs.AboutTerms.WellFormedLemmas.{sides_of_one_kind}
use Rattle.literal_selection.proofs.EligibleLemmas.{eligible_lifts}
use Rattle.kernel_steps.specs.Inference.{NamedFactoring, has_predicate_head, have_heads_of_one_kind, other_side_not_above}
use Rattle.kernel_steps.specs.Named.{IsInference}
use Rattle.kernel_steps.specs.declared.key.Key.TheVariants.{Factor}
use Rattle.eq_rules.specs.Factoring.{are_alike, literal_may_become, may_become}
use Rattle.eq_rules.proofs.AboutConclusions.SideLemmas.{function-head, predicate-head, not_above_by}
use Rattle.eq_rules.proofs.AboutConclusions.WideLemmas.{itself}

-- a predicate's head is no `$true`
headed-no_truth : (p : ℕ → Bool) (t : Tree) → has_predicate_head p t ≡ true → is_truth t ≡ false
headed-no_truth p (variable v) h = absurd (true≢false (sym h))
headed-no_truth p (application f ts) h =
    let parts = and_parts (not (f == true_symbol)) (p f) h in
    false_from_ne_true (is_truth (application f ts)) (λ e.
    true≢false (sym (and_parts (f == true_symbol) _ e).0 ∙ not-true (f == true_symbol) parts.0))

alike-from :
    (l : TreeLiteral) (s : Side) (m : TreeLiteral) (z : Side)
    → l.positive ≡ true → m.positive ≡ true → is_truth (side_of s l) ≡ false → is_truth (side_of z m) ≡ false
    → beq (is_truth (other_side_of s l)) (is_truth (other_side_of z m)) ≡ true → are_alike l s m z ≡ true
alike-from l s m z a b d e f =
    and_from (((l.positive && m.positive) && not (is_truth (side_of s l))) && not (is_truth (side_of z m))) _
    (and_from ((l.positive && m.positive) && not (is_truth (side_of s l))) (not (is_truth (side_of z m)))
    (and_from (l.positive && m.positive) (not (is_truth (side_of s l))) (and_from l.positive m.positive a b)
    (not_from_false (is_truth (side_of s l)) d))
    (not_from_false (is_truth (side_of z m)) e))
    f

both_true : (a b : Bool) → a ≡ true → b ≡ true → beq a b ≡ true
both_true a b e f = ap₂ beq e f

both_false : (a b : Bool) → a ≡ false → b ≡ false → beq a b ≡ true
both_false a b e f = ap₂ beq e f

-- sides of one kind are alike
kind-alike :
    (p : ℕ → Bool) (l : TreeLiteral) (s : Side) (m : TreeLiteral) (z : Side)
    → is_literal p l ≡ true → is_literal p m ≡ true → l.positive ≡ true → m.positive ≡ true
    → have_heads_of_one_kind p (side_of s l) (side_of z m) ≡ true → are_alike l s m z ≡ true
kind-alike p l s m z l_kind m_kind a b h =
    let t : Tree = side_of s l in
    let u : Tree = side_of z m in
    ⊎_elim
    (λ predicates.
    let heads = and_parts (has_predicate_head p t) (has_predicate_head p u) predicates in
    let d = headed-no_truth p t heads.0 in
    let e = headed-no_truth p u heads.1 in
    alike-from l s m z a b d e
    (both_true (is_truth (other_side_of s l)) (is_truth (other_side_of z m))
    (⊎_elim
    (λ f. absurd (true≢false (sym heads.0 ∙ function-head p t f.0)))
    (λ f. f.1)
    (sides_of_one_kind p s l l_kind d))
    (⊎_elim
    (λ f. absurd (true≢false (sym heads.1 ∙ function-head p u f.0)))
    (λ f. f.1)
    (sides_of_one_kind p z m m_kind e))))
    (λ neither.
    let both = and_parts (not (has_predicate_head p t) && not (is_truth t)) (not (has_predicate_head p u) && not (is_truth u)) neither in
    let first = and_parts (not (has_predicate_head p t)) (not (is_truth t)) both.0 in
    let second = and_parts (not (has_predicate_head p u)) (not (is_truth u)) both.1 in
    let d = not-true (is_truth t) first.1 in
    let e = not-true (is_truth u) second.1 in
    alike-from l s m z a b d e
    (both_false (is_truth (other_side_of s l)) (is_truth (other_side_of z m))
    (⊎_elim
    (λ f. function_term-no_truth p (other_side_of s l) f.1)
    (λ f. absurd (true≢false (sym (predicate-head p t f.0) ∙ not-true (has_predicate_head p t) first.0)))
    (sides_of_one_kind p s l l_kind d))
    (⊎_elim
    (λ f. function_term-no_truth p (other_side_of z m) f.1)
    (λ f. absurd (true≢false (sym (predicate-head p u f.0) ∙ not-true (has_predicate_head p u) second.0)))
    (sides_of_one_kind p z m m_kind e))))
    (or_cases (has_predicate_head p t && has_predicate_head p u)
    ((not (has_predicate_head p t) && not (is_truth t)) && (not (has_predicate_head p u) && not (is_truth u))) h)

module _
    (p : ℕ → Bool) (mode : SelectionMode) (clauses : ℕ → Option TreeClause) (number : ℕ) (c : TreeClause)
    (there : clauses number ≡ Some c) (i : ℕ) (s : Side) (j : ℕ) (z : Side) where
  named_at : (e : TreeClause) → IsInference p mode clauses (Factor number i s j z) e → NamedFactoring p mode c i s j z e
  named_at e it = subst (λ (q : TreeClause). NamedFactoring p mode q i s j z e) (same_Some it.clause c (sym it.there ∙ there)) it.infers

  pub same_literal_unfactored : (i == j) ≡ true → (e : TreeClause) → IsInference p mode clauses (Factor number i s j z) e → ⊥
  same_literal_unfactored same e it =
      let n = named_at e it in
      true≢false (sym same ∙ (factored-parts (literals_instance n.unifier c.literals) i s j z e.literals n.concludes).differ)

  -- the literals are positive
  positives :
      (e : TreeClause) (n : NamedFactoring p mode c i s j z e) → (n.literal_i.positive ≡ true) × (n.literal_j.positive ≡ true)
  positives e n =
      let parts = factored-parts (literals_instance n.unifier c.literals) i s j z e.literals n.concludes in
      let first : literal_instance n.unifier n.literal_i ≡ parts.literal_i =
      same_Some (literal_instance n.unifier n.literal_i) parts.literal_i
      (sym (literal_in_instance n.unifier c.literals i n.literal_i n.i_there) ∙ parts.i_there) in
      let second : literal_instance n.unifier n.literal_j ≡ parts.literal_j =
      same_Some (literal_instance n.unifier n.literal_j) parts.literal_j
      (sym (literal_in_instance n.unifier c.literals j n.literal_j n.j_there) ∙ parts.j_there) in (
        ap (λ (k : TreeLiteral). k.positive) first ∙ parts.i_positive,
        ap (λ (k : TreeLiteral). k.positive) second ∙ parts.j_positive,
      )

  pub side_unfactored :
      chosen mode c.literals ≡ None → may_become c.literals i s ≡ false
      → (e : TreeClause) → IsInference p mode clauses (Factor number i s j z) e → ⊥
  side_unfactored none refused e it =
      let n = named_at e it in
      let ordered : other_side_not_above variable s n.literal_i ≡ true =
      not_above_by n.unifier variable n.unifier s n.literal_i
      (ap (instance n.unifier) (itself (other_side_of s n.literal_i))) (ap (instance n.unifier) (itself (side_of s n.literal_i))) n.i_ordered in
      let is_eligible : eligible c.literals i None false ≡ true =
      eligible_lifts c.literals None n.unifier i false
      (ap (λ o. eligible (literals_instance n.unifier c.literals) i o false) (sym none) ∙ n.i_eligible.is_eligible) in
      let may : may_become c.literals i s ≡ true =
      and_from (literal_may_become s (slice_get c.literals i)) (eligible c.literals i None false)
      (ap (literal_may_become s) n.i_there
      ∙ and_from n.literal_i.positive (other_side_not_above variable s n.literal_i) (positives e n).0 ordered)
      is_eligible in
      true≢false (sym may ∙ refused)

  module _ (l m : TreeLiteral) (at_i : slice_get c.literals i ≡ Some l) (at_j : slice_get c.literals j ≡ Some m) where
    pub unlike_unfactored :
        is_literal p l ≡ true → is_literal p m ≡ true → are_alike l s m z ≡ false
        → (e : TreeClause) → IsInference p mode clauses (Factor number i s j z) e → ⊥
    unlike_unfactored l_kind m_kind refused e it =
        let n = named_at e it in
        let l_is : n.literal_i ≡ l = same_Some n.literal_i l (sym n.i_there ∙ at_i) in
        let m_is : n.literal_j ≡ m = same_Some n.literal_j m (sym n.j_there ∙ at_j) in
        let both = positives e n in
        true≢false
        (sym
        (kind-alike p l s m z l_kind m_kind
        (sym (ap (λ (k : TreeLiteral). k.positive) l_is) ∙ both.0) (sym (ap (λ (k : TreeLiteral). k.positive) m_is) ∙ both.1)
        (sym (ap₂ (λ (k n : TreeLiteral). have_heads_of_one_kind p (side_of s k) (side_of z n)) l_is m_is) ∙ n.one_kind))
        ∙ refused)

    pub apart_unfactored :
        ((σ : Substitution) → IsUnifier (side_of s l) (side_of z m) σ → ⊥)
        → (e : TreeClause) → IsInference p mode clauses (Factor number i s j z) e → ⊥
    apart_unfactored none e it =
        let n = named_at e it in
        none n.unifier
        (sym (ap (λ (k : TreeLiteral). instance n.unifier (side_of s k)) (same_Some n.literal_i l (sym n.i_there ∙ at_i)))
        ∙ n.most_general.unifies
        ∙ ap (λ (k : TreeLiteral). instance n.unifier (side_of z k)) (same_Some n.literal_j m (sym n.j_there ∙ at_j)))
