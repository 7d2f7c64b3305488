-- Ground terms, literals and clauses are never unordered, and "not greater" is a total preorder on them.
use Rattle.std.proofs.Common.{◌≡◌, ◌⊎◌, Bool, true, false, if◌then◌else◌, sym, ◌∙◌, inl, inr, ⊎_elim}
use Rattle.std.proofs.lemmas.Bool.{cases_Bool, false_from_ne_true, true≢false}
use Rattle.fol_base.specs.Tree.{tree_eq}
use Rattle.fol_base.specs.Multiset.{greater, less, equal, unordered, IsTotalOrderOn}
use Rattle.fol_base.specs.Order.{tree_greater, equivalent_literals, literal_greater, equivalent_clauses, clause_greater}
use Rattle.fol_base.proofs.AboutOrders.TreeOrderLemmas.{trees_totally_ordered}
use Rattle.fol_base.proofs.AboutOrders.ClauseOrderLemmas.{literals_totally_ordered, clauses_totally_ordered}
use Rattle.kbo_order.specs.StrictOrder.{IsStrictOrder}
use Rattle.kbo_order.specs.Laws.{GroundTreesCompare, GroundLiteralsCompare, GroundClausesCompare, IsTotalPreorderOn, GroundLiteralsPreordered, GroundClausesPreordered}
use Rattle.kbo_order.proofs.AboutLaws.StrictOrderLemmas.{literals_ordered, clauses_ordered}

tests-ordered :
    (a b c : Bool) → (a ≡ true) ⊎ ((b ≡ true) ⊎ (c ≡ true))
    → (if a then equal else (if b then greater else (if c then less else unordered))) ≡ unordered → ⊥
tests-ordered true b c h e = cc
tests-ordered false true c h e = cc
tests-ordered false false true h e = cc
tests-ordered false false false h e =
    ⊎_elim (λ k. true≢false (sym k)) (λ k. ⊎_elim (λ d. true≢false (sym d)) (λ d. true≢false (sym d)) k) h

pub ground_trees_compare : GroundTreesCompare
ground_trees_compare s t hs ht e =
    tests-ordered (tree_eq s t) (tree_greater s t) (tree_greater t s) (trees_totally_ordered.is_total s t hs ht) e

pub ground_literals_compare : GroundLiteralsCompare
ground_literals_compare l m hl hm e =
    tests-ordered (equivalent_literals l m) (literal_greater l m) (literal_greater m l) (literals_totally_ordered.is_total l m hl hm) e

pub ground_clauses_compare : GroundClausesCompare
ground_clauses_compare c d hc hd e =
    tests-ordered (equivalent_clauses c d) (clause_greater c d) (clause_greater d c) (clauses_totally_ordered.is_total c d hc hd) e

preordered :
    {X : Type 0} (same exceeds : X → X → Bool) (Within : X → Type 0)
    → IsStrictOrder same exceeds → IsTotalOrderOn same exceeds Within → IsTotalPreorderOn exceeds Within
preordered same exceeds Within strict total = record {
  is_transitive = λ x y z hx hy hz not_xy not_yz.
      false_from_ne_true (exceeds x z) (λ h.
      ⊎_elim
      (λ e. true≢false (sym (strict.same_left x y z e h) ∙ not_yz))
      (λ e.
      ⊎_elim
      (λ k. true≢false (sym k ∙ not_xy))
      (λ k. true≢false (sym (strict.is_transitive y x z k h) ∙ not_yz))
      e)
      (total.is_total x y hx hy));
  is_total = λ x y hx hy.
      ⊎_elim
      (λ above.
      inr (false_from_ne_true (exceeds y x) (λ below. true≢false (sym (strict.is_transitive x y x above below) ∙ strict.is_irreflexive x))))
      (λ not_above. inl not_above)
      (cases_Bool (exceeds x y));
}

pub ground_literals_preordered : GroundLiteralsPreordered
ground_literals_preordered = preordered equivalent_literals literal_greater _ literals_ordered literals_totally_ordered

pub ground_clauses_preordered : GroundClausesPreordered
ground_clauses_preordered = preordered equivalent_clauses clause_greater _ clauses_ordered clauses_totally_ordered
