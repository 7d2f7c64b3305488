-- The order on trees, literals and clauses is a strict order.
use Rattle.std.proofs.Common.{◌≡◌, Bool, List, [], ◌∷◌, if◌then◌else◌, ap, ap₂, sym, ◌∙◌, ⊎_elim, true, false, arith}
use Rattle.fol_base.specs.Tree.{Tree, tree_eq}
use Rattle.fol_base.specs.Clause.{TreeLiteral}
use Rattle.fol_base.specs.Multiset.{times, same_multiset, multiset_greater}
use Rattle.fol_base.specs.Order.{tree_greater, sides_multiset, equivalent_literals, literal_greater}
use Rattle.fol_base.proofs.AboutClauses.CountLemmas.{same_multiset-from}
use Rattle.fol_base.proofs.AboutOrders.OrderLemmas.{trees_equivalence, SameLiteral, equivalent_literals-decided, literals_equivalence}
use Rattle.fol_base.proofs.AboutTerms.TreeLemmas.{tree_eq-true}
use Rattle.fol_base.proofs.AboutOrders.TreeOrderLemmas.{tree_greater-itself, tree_greater-trans}
use Rattle.kbo_order.specs.StrictOrder.{IsStrictOrder}
use Rattle.kbo_order.specs.Laws.{TreesOrdered, LiteralsOrdered, ClausesOrdered}
use Rattle.kbo_order.proofs.AboutMultisets.MultisetLemmas.{multisets_ordered}

pub trees_ordered : TreesOrdered
trees_ordered = record {
  is_equivalence = trees_equivalence;
  same_left = λ s t u e h. ap (λ (x : Tree). tree_greater x u) (sym (tree_eq-true s t e)) ∙ h;
  same_right = λ s t u e h. ap (tree_greater u) (sym (tree_eq-true s t e)) ∙ h;
  is_irreflexive = tree_greater-itself;
  is_transitive = tree_greater-trans;
}

-- ---- literals, by their sides

abbrev pub sides : Bool → Tree → Tree → List Tree
sides positive t u = if positive then (t ∷ u ∷ []) else (t ∷ t ∷ u ∷ u ∷ [])

pub sides-swapped : (positive : Bool) (t u z : Tree) → times tree_eq z (sides positive t u) ≡ times tree_eq z (sides positive u t)
sides-swapped true t u z = omega arith
sides-swapped false t u z = omega arith

sides-alike : (l m : TreeLiteral) → SameLiteral l m → (z : Tree) → times tree_eq z (sides_multiset l) ≡ times tree_eq z (sides_multiset m)
sides-alike l m h z =
    ⊎_elim
    (λ e. ap (λ (p : Bool). times tree_eq z (sides p l.left l.right)) h.0 ∙ ap₂ (λ t u. times tree_eq z (sides m.positive t u)) e.0 e.1)
    (λ e.
    ap (λ (p : Bool). times tree_eq z (sides p l.left l.right)) h.0
    ∙ ap₂ (λ t u. times tree_eq z (sides m.positive t u)) e.0 e.1
    ∙ sides-swapped m.positive m.right m.left z)
    h.1

pub equivalent-same_sides :
    (l m : TreeLiteral) → equivalent_literals l m ≡ true → same_multiset tree_eq (sides_multiset l) (sides_multiset m) ≡ true
equivalent-same_sides l m e =
    same_multiset-from tree_eq (sides_multiset l) (sides_multiset m) (sides-alike l m ((equivalent_literals-decided l m).0 e))

sides_ordered : IsStrictOrder (same_multiset tree_eq) (multiset_greater tree_eq tree_greater)
sides_ordered = multisets_ordered tree_eq tree_greater trees_ordered

pub literals_ordered : LiteralsOrdered
literals_ordered = record {
  is_equivalence = literals_equivalence;
  same_left = λ l m n e h.
      sides_ordered.same_left (sides_multiset l) (sides_multiset m) (sides_multiset n) (equivalent-same_sides l m e) h;
  same_right = λ l m n e h.
      sides_ordered.same_right (sides_multiset l) (sides_multiset m) (sides_multiset n) (equivalent-same_sides l m e) h;
  is_irreflexive = λ l. sides_ordered.is_irreflexive (sides_multiset l);
  is_transitive = λ l m n h k. sides_ordered.is_transitive (sides_multiset l) (sides_multiset m) (sides_multiset n) h k;
}

-- ---- clauses, by their literals

pub clauses_ordered : ClausesOrdered
clauses_ordered = multisets_ordered equivalent_literals literal_greater literals_ordered
