-- A clause with a smaller side, with a smaller literal, or with fewer literals.
use Rattle.std.proofs.Common.{◌≡◌, ℕ, zero, suc, ◌+◌, ◌<◌, Bool, List, [], ◌∷◌, Some, refl, ap, sym, ◌∙◌, inl, ⊎_elim, arith}
use Rattle.std.specs.Prelude.{slice_get, slice_set, remove}
use Rattle.std.proofs.lemmas.Bool.{false_from_ne_true, true≢false}
use Rattle.std.proofs.lemmas.Option.{same_Some}
use Rattle.fol_base.specs.Tree.{Tree}
use Rattle.fol_base.specs.Clause.{TreeLiteral}
use Rattle.fol_base.specs.Sides.{with_side}
use Rattle.fol_base.specs.declared.clause.Side.TheVariants.{Left, Right}
use Rattle.fol_base.specs.Multiset.{times}
use Rattle.fol_base.specs.Order.{TreeGreater, equivalent_literals, literal_greater}
use Rattle.fol_base.proofs.AboutClauses.CountLemmas.{times-cons}
use Rattle.fol_base.proofs.AboutOrders.OrderLemmas.{literal_greater_decided, clause_greater_decided, clauses_equivalence}
use Rattle.kbo_order.specs.Laws.{SmallerSidesMakeSmaller, SmallerLiteralsMakeSmaller, PartsAreNotGreater, ProperPartsAreSmaller}
use Rattle.kbo_order.proofs.AboutReading.BitLemmas.{bit}
use Rattle.kbo_order.proofs.AboutMultisets.MultisetLemmas.{make, greater-some, dominating-greater}
use Rattle.kbo_order.proofs.AboutLaws.StrictOrderLemmas.{sides, literals_ordered}
use Rattle.kbo_order.proofs.AboutReading.SideLemmas.{Exceeds, copies-count, greater_is, greater-differ, beside}

-- ---- a smaller side

pub smaller-left : (p : Bool) (s t u : Tree) → TreeGreater s t → Exceeds (sides p s u) (sides p t u)
smaller-left p s t u g =
    (beside p (sides p s u) (sides p t u) u s t
    (λ z. omega (arith, copies-count p z s u)) (λ z. omega (arith, copies-count p z t u)) (greater-differ s t g)).1
    g

pub smaller-right : (p : Bool) (s t u : Tree) → TreeGreater s t → Exceeds (sides p u s) (sides p u t)
smaller-right p s t u g =
    (beside p (sides p u s) (sides p u t) u s t (λ z. copies-count p z u s) (λ z. copies-count p z u t) (greater-differ s t g)).1 g

pub smaller_sides_make_smaller : SmallerSidesMakeSmaller
smaller_sides_make_smaller Left l t h =
    (literal_greater_decided l (with_side Left t l)).1 (smaller-left l.positive l.left t l.right (greater_is l.left t h))
smaller_sides_make_smaller Right l t h =
    (literal_greater_decided l (with_side Right t l)).1 (smaller-right l.positive l.right t l.left (greater_is l.right t h))

-- ---- a smaller literal

-- a clause is its other literals and the one at an index
pub set-counts :
    (z : TreeLiteral) (c : List TreeLiteral) (i : ℕ) (l m : TreeLiteral) → slice_get c i ≡ Some l
    → (times equivalent_literals z c ≡ times equivalent_literals z (remove c i) + times equivalent_literals z (l ∷ []))
    × (times equivalent_literals z (slice_set c i m) ≡ times equivalent_literals z (remove c i) + times equivalent_literals z (m ∷ []))
set-counts z [] i l m e = absurd (cc)
set-counts z (x ∷ xs) zero l m e =
    let same : bit (equivalent_literals z x) ≡ bit (equivalent_literals z l) =
    ap (λ (y : TreeLiteral). bit (equivalent_literals z y)) (same_Some x l e) in (
      omega (arith, times-cons equivalent_literals z x xs, times-cons equivalent_literals z l [], same),
      omega (arith, times-cons equivalent_literals z m xs, times-cons equivalent_literals z m []),
    )
set-counts z (x ∷ xs) (suc i) l m e =
    let later = set-counts z xs i l m e in (
      omega (arith, times-cons equivalent_literals z x xs, times-cons equivalent_literals z x (remove xs i), later.0),
      omega (arith, times-cons equivalent_literals z x (slice_set xs i m), times-cons equivalent_literals z x (remove xs i), later.1),
    )

pub smaller_literals_make_smaller : SmallerLiteralsMakeSmaller
smaller_literals_make_smaller c i l m e h =
    (clause_greater_decided c (slice_set c i m)).1
    (dominating-greater equivalent_literals literal_greater literals_ordered c (slice_set c i m) (remove c i) (l ∷ []) (m ∷ [])
    (λ z. (set-counts z c i l m e).0) (λ z. (set-counts z c i l m e).1) l (inl refl)
    (λ y there. ⊎_elim (λ same. (l, inl refl, ap (literal_greater l) same ∙ h)) (λ none. absurd none) there))

-- ---- fewer literals

pub parts_are_not_greater : PartsAreNotGreater
parts_are_not_greater c d part =
    false_from_ne_true _ (λ h.
    let more = greater-some equivalent_literals literal_greater literals_ordered c d ((clause_greater_decided c d).0 h) in
    let over : times equivalent_literals more.0 d < times equivalent_literals more.0 c = more.2 in
    absurd (omega (arith, part more.0)))

pub proper_parts_are_smaller : ProperPartsAreSmaller
proper_parts_are_smaller c d part proper =
    (clause_greater_decided d c).1
    (make equivalent_literals literal_greater literals_ordered d c
    (λ same. true≢false (sym (clauses_equivalence.symm c d ∙ same) ∙ proper))
    (λ z over.
    let more : times equivalent_literals z d < times equivalent_literals z c = over in
    absurd (omega (arith, part z))))
