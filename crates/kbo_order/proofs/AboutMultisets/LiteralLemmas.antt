-- The answer for two literals by the answers for their sides.
use mathlib.Core.Bool.{beq}
use Rattle.std.proofs.Common.{◌≡◌, List, [], ◌∷◌, Bool, true, false, refl, ap₂, sym, ◌∙◌, subst, inl, inr, ⊎_elim, arith}
use Rattle.std.proofs.lemmas.Bool.{false_from_ne_true, true≢false}
use Rattle.std.proofs.lemmas.Bool.Decides.{same_from_decides}
use Rattle.fol_base.specs.Tree.{Tree}
use Rattle.fol_base.specs.Tree.{variable}
use Rattle.fol_base.specs.Clause.{TreeLiteral, literal_instance}
use Rattle.fol_base.specs.Ground.{literals_instance}
use Rattle.fol_base.specs.Order.{compare_trees, TreeGreater, equivalent_literals, literal_greater, LiteralGreater, compare_literals}
use Rattle.fol_base.proofs.AboutOrders.OrderLemmas.{equivalent_literals-decided, literal_greater_decided, SameLiteral}
use Rattle.kbo_order.specs.declared.cmp.Cmp.{Cmp}
use Rattle.kbo_order.specs.declared.cmp.Cmp.TheVariants.{Greater, Less, Equal, Unordered}
use Rattle.kbo_order.specs.Cmp.{comparison_of, is_greater, is_equal, reversed}
use Rattle.kbo_order.proofs.AboutReading.FurtherLemmas.{by_tests, tests-agree}
use Rattle.kbo_order.proofs.AboutReading.AnswerLemmas.{Decides-same, compared-answer, compared-reversed, greater-decides, equal-decides}
use Rattle.kbo_order.proofs.AboutLaws.StrictOrderLemmas.{sides, literals_ordered}
use Rattle.kbo_order.proofs.AboutReading.ReadingLemmas.{instance-itself}
use Rattle.kbo_order.proofs.AboutReading.SideLemmas.{Exceeds, AllBelow-greater, cases_same, copies-count, beside}
use Rattle.kbo_order.proofs.AboutMultisets.PartLemmas.{smaller-left, smaller-right}

abbrev with_sides : Bool → Tree → Tree → TreeLiteral
with_sides p s t = record { positive = p; left = s; right = t }

pub literal-itself : (l : TreeLiteral) → literal_instance variable l ≡ l
literal-itself l = ap₂ (with_sides l.positive) (instance-itself l.left) (instance-itself l.right)

pub literals-themselves : (ls : List TreeLiteral) → literals_instance variable ls ≡ ls
literals-themselves [] = refl
literals-themselves (l ∷ ls) = ap₂ (λ (k : TreeLiteral) (ks : List TreeLiteral). k ∷ ks) (literal-itself l) (literals-themselves ls)

-- ---- the answer by its three tests

own-tests : (c : Cmp) → comparison_of c ≡ by_tests (is_equal c) (is_greater c) (is_greater (reversed c))
own-tests Greater = refl
own-tests Less = refl
own-tests Equal = refl
own-tests Unordered = refl

by_answers :
    (c : Cmp) (l m : TreeLiteral) → is_equal c ≡ equivalent_literals l m → is_greater c ≡ literal_greater l m
    → is_greater (reversed c) ≡ literal_greater m l → comparison_of c ≡ compare_literals l m
by_answers c l m same above below =
    own-tests c
    ∙ tests-agree (is_equal c) (is_greater c) (is_greater (reversed c))
    (equivalent_literals l m) (literal_greater l m) (literal_greater m l) same above below

not-itself : (l : TreeLiteral) → LiteralGreater l l → ⊥
not-itself l h = true≢false (sym ((literal_greater_decided l l).1 h) ∙ literals_ordered.is_irreflexive l)

-- ---- one sign, and two equal sides: the other two decide

pub same-sign : (p q : Bool) → beq p q ≡ true → p ≡ q
same-sign true true e = refl
same-sign true false e = absurd (true≢false (sym e))
same-sign false true e = absurd (true≢false (sym e))
same-sign false false e = refl

beside-right : (p : Bool) (s u t : Tree) → Exceeds (sides p s t) (sides p u t) → TreeGreater s u
beside-right p s u t h =
    ⊎_elim
    (λ e. absurd (not-itself (with_sides p u t) (subst (λ (x : Tree). Exceeds (sides p x t) (sides p u t)) e h)))
    (λ differ.
    (beside p (sides p s t) (sides p u t) t s u
    (λ z. omega (arith, copies-count p z s t)) (λ z. omega (arith, copies-count p z u t)) differ).0
    h)
    (cases_same s u)

beside-left : (p : Bool) (s u t : Tree) → Exceeds (sides p t s) (sides p t u) → TreeGreater s u
beside-left p s u t h =
    ⊎_elim
    (λ e. absurd (not-itself (with_sides p t u) (subst (λ (x : Tree). Exceeds (sides p t x) (sides p t u)) e h)))
    (λ differ.
    (beside p (sides p t s) (sides p t u) t s u (λ z. copies-count p z t s) (λ z. copies-count p z t u) differ).0 h)
    (cases_same s u)

above-by_left :
    (c : Cmp) (l m : TreeLiteral) → l.positive ≡ m.positive → l.right ≡ m.right → comparison_of c ≡ compare_trees l.left m.left
    → is_greater c ≡ literal_greater l m
above-by_left c l m sign right compared =
    let e = ap₂ (λ (p : Bool) (t : Tree). sides p m.left t) sign right in
    same_from_decides {P = LiteralGreater l m} (is_greater c) (literal_greater l m)
    (Decides-same (is_greater c) (TreeGreater l.left m.left) (LiteralGreater l m)
    (λ g. subst (Exceeds (sides l.positive l.left l.right)) e (smaller-left l.positive l.left m.left l.right g))
    (λ h. beside-right l.positive l.left m.left l.right (subst (Exceeds (sides l.positive l.left l.right)) (sym e) h))
    (greater-decides c l.left m.left (compared-answer c l.left m.left compared)))
    (literal_greater_decided l m)

above-by_right :
    (c : Cmp) (l m : TreeLiteral) → l.positive ≡ m.positive → l.left ≡ m.left → comparison_of c ≡ compare_trees l.right m.right
    → is_greater c ≡ literal_greater l m
above-by_right c l m sign left compared =
    let e = ap₂ (λ (p : Bool) (t : Tree). sides p t m.right) sign left in
    same_from_decides {P = LiteralGreater l m} (is_greater c) (literal_greater l m)
    (Decides-same (is_greater c) (TreeGreater l.right m.right) (LiteralGreater l m)
    (λ g. subst (Exceeds (sides l.positive l.left l.right)) e (smaller-right l.positive l.right m.right l.left g))
    (λ h. beside-left l.positive l.right m.right l.left (subst (Exceeds (sides l.positive l.left l.right)) (sym e) h))
    (greater-decides c l.right m.right (compared-answer c l.right m.right compared)))
    (literal_greater_decided l m)

pub left-decides :
    (c : Cmp) (l m : TreeLiteral) → l.positive ≡ m.positive → l.right ≡ m.right → comparison_of c ≡ compare_trees l.left m.left
    → comparison_of c ≡ compare_literals l m
left-decides c l m sign right compared =
    by_answers c l m
    (same_from_decides {P = SameLiteral l m} (is_equal c) (equivalent_literals l m)
    (Decides-same (is_equal c) (l.left ≡ m.left) (SameLiteral l m)
    (λ e. (sign, inl (e, right)))
    (λ same. ⊎_elim (λ k. k.0) (λ k. k.0 ∙ sym right ∙ k.1) same.1)
    (equal-decides c l.left m.left (compared-answer c l.left m.left compared)))
    (equivalent_literals-decided l m))
    (above-by_left c l m sign right compared)
    (above-by_left (reversed c) m l (sym sign) (sym right) (compared-reversed c l.left m.left compared))

pub right-decides :
    (c : Cmp) (l m : TreeLiteral) → l.positive ≡ m.positive → l.left ≡ m.left → comparison_of c ≡ compare_trees l.right m.right
    → comparison_of c ≡ compare_literals l m
right-decides c l m sign left compared =
    by_answers c l m
    (same_from_decides {P = SameLiteral l m} (is_equal c) (equivalent_literals l m)
    (Decides-same (is_equal c) (l.right ≡ m.right) (SameLiteral l m)
    (λ e. (sign, inl (left, e)))
    (λ same. ⊎_elim (λ k. k.1) (λ k. k.1 ∙ sym left ∙ k.0) same.1)
    (equal-decides c l.right m.right (compared-answer c l.right m.right compared)))
    (equivalent_literals-decided l m))
    (above-by_right c l m sign left compared)
    (above-by_right (reversed c) m l (sym sign) (sym left) (compared-reversed c l.right m.right compared))

-- the sides that the answer Equal tells
pub equal-is : (c : Cmp) (s t : Tree) → comparison_of c ≡ compare_trees s t → is_equal c ≡ true → s ≡ t
equal-is c s t compared equal = (equal-decides c s t (compared-answer c s t compared)).0 equal

-- ---- each side greater than the other literal's

both-greater :
    (c d : Cmp) (l m : TreeLiteral)
    → comparison_of c ≡ compare_trees l.left m.left → is_greater c ≡ true
    → comparison_of d ≡ compare_trees l.right m.right → is_greater d ≡ true → literal_greater l m ≡ true
both-greater c d l m lefts left rights right =
    (literal_greater_decided l m).1
    (AllBelow-greater l.positive m.positive l.left l.right m.left m.right (
      inl ((greater-decides c l.left m.left (compared-answer c l.left m.left lefts)).0 left),
      inr ((greater-decides d l.right m.right (compared-answer d l.right m.right rights)).0 right),
    ))

pub greater-compared :
    (c d : Cmp) (l m : TreeLiteral)
    → comparison_of c ≡ compare_trees l.left m.left → is_greater c ≡ true
    → comparison_of d ≡ compare_trees l.right m.right → is_greater d ≡ true → comparison_of Greater ≡ compare_literals l m
greater-compared c d l m lefts left rights right =
    let above = both-greater c d l m lefts left rights right in
    let apart : equivalent_literals l m ≡ false =
    false_from_ne_true (equivalent_literals l m) (λ same.
    true≢false (sym (literals_ordered.same_left l m m same above) ∙ literals_ordered.is_irreflexive m)) in
    sym (tests-agree (equivalent_literals l m) (literal_greater l m) (literal_greater m l) false true (literal_greater m l) apart above refl)

pub less-compared :
    (c d : Cmp) (l m : TreeLiteral)
    → comparison_of c ≡ compare_trees l.left m.left → is_greater (reversed c) ≡ true
    → comparison_of d ≡ compare_trees l.right m.right → is_greater (reversed d) ≡ true → comparison_of Less ≡ compare_literals l m
less-compared c d l m lefts left rights right =
    let below =
    both-greater (reversed c) (reversed d) m l (compared-reversed c l.left m.left lefts) left (compared-reversed d l.right m.right rights) right in
    let apart : equivalent_literals l m ≡ false =
    false_from_ne_true (equivalent_literals l m) (λ same.
    true≢false (sym (literals_ordered.same_right l m m same below) ∙ literals_ordered.is_irreflexive m)) in
    let not_above : literal_greater l m ≡ false =
    false_from_ne_true (literal_greater l m) (λ above.
    true≢false (sym (literals_ordered.is_transitive l m l above below) ∙ literals_ordered.is_irreflexive l)) in
    sym (tests-agree (equivalent_literals l m) (literal_greater l m) (literal_greater m l) false false true apart not_above below)
