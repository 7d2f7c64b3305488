-- What is eligible in an instance is eligible in the clause.
use Rattle.std.proofs.Common.{◌≡◌, ℕ, zero, suc, Bool, true, false, not, ◌&&◌, List, [], ◌∷◌, ◌++◌, length, length-take-le, map, take, ◌+◌, Option, None, Some, refl, ap, sym, ◌∙◌, inl, inr, arith}
use Rattle.std.specs.Prelude.{option_map, slice_get, remove}
use Rattle.std.specs.List.{list_all}
use Rattle.std.proofs.lemmas.Bool.{and_parts, and_from, not-true, false_from_ne_true, true≢false}
use Rattle.std.proofs.lemmas.List.Folds.{list_all-append}
use Rattle.std.proofs.lemmas.Option.{same_Some, slice_get-map, slice_get_within}
use Rattle.fol_base.specs.Instance.{Substitution}
use Rattle.fol_base.specs.Clause.{TreeLiteral, literal_instance}
use Rattle.fol_base.specs.Ground.{literals_instance}
use Rattle.fol_base.specs.Order.{literal_greater, equivalent_literals, compare_literals}
use Rattle.fol_base.specs.Selection.{is_maximal, is_maximal_at, eligible}
use Rattle.kbo_order.specs.declared.cmp.Cmp.{Cmp}
use Rattle.kbo_order.specs.declared.cmp.Cmp.TheVariants.{Greater, Less, Equal, Unordered}
use Rattle.kbo_order.specs.Cmp.{comparison_of, is_greater, is_equal}
use Rattle.kbo_order.proofs.AboutReading.FurtherLemmas.{by_tests}
use Rattle.kbo_order.proofs.AboutMultisets.ClauseLoops.{greater-is, take-more, In-index, some-fails}
use Rattle.kbo_order.proofs.AboutMultisets.MemberLemmas.{In, In-map, all-In, In-all}
use Rattle.kbo_order.proofs.AboutLaws.StableLemmas.{literals_stable, equivalent_stable}
use Rattle.literal_selection.specs.Laws.{EligibleLifts}
use Rattle.list_lemmas.proofs.Lists.{remove-map}

-- a test that fails in the instance fails before
untrue : (a b : Bool) → (a ≡ true → b ≡ true) → not b ≡ true → not a ≡ true
untrue a b h e = ap not (false_from_ne_true a (λ k. true≢false (sym (h k) ∙ not-true b e)))

unequal : (strict a b : Bool) → (a ≡ true → b ≡ true) → not (strict && b) ≡ true → not (strict && a) ≡ true
unequal true a b h e = untrue a b h e
unequal false a b h e = refl

no_worse :
    (σ : Substitution) (strict : Bool) (m l : TreeLiteral)
    → (not (literal_greater (literal_instance σ m) (literal_instance σ l))
    && not (strict && equivalent_literals (literal_instance σ m) (literal_instance σ l)))
    ≡ true
    → (not (literal_greater m l) && not (strict && equivalent_literals m l)) ≡ true
no_worse σ strict m l e =
    let parts =
    and_parts
    (not (literal_greater (literal_instance σ m) (literal_instance σ l)))
    (not (strict && equivalent_literals (literal_instance σ m) (literal_instance σ l)))
    e in
    and_from (not (literal_greater m l)) (not (strict && equivalent_literals m l))
    (untrue (literal_greater m l) (literal_greater (literal_instance σ m) (literal_instance σ l)) (literals_stable σ m l) parts.0)
    (unequal strict (equivalent_literals m l) (equivalent_literals (literal_instance σ m) (literal_instance σ l)) (equivalent_stable σ m l) parts.1)

maximal-lifts :
    (σ : Substitution) (strict : Bool) (o : Option TreeLiteral) (others : List TreeLiteral)
    → is_maximal_at strict (option_map (literal_instance σ) o) (map (literal_instance σ) others) ≡ true → is_maximal_at strict o others ≡ true
maximal-lifts σ strict None others h = h
maximal-lifts σ strict (Some l) others h =
    In-all (λ (m : TreeLiteral). not (literal_greater m l) && not (strict && equivalent_literals m l)) others
    (λ m there.
    no_worse σ strict m l
    (all-In
    (λ (k : TreeLiteral). not (literal_greater k (literal_instance σ l)) && not (strict && equivalent_literals k (literal_instance σ l)))
    (map (literal_instance σ) others) h (literal_instance σ m) (In-map (literal_instance σ) m others there)))

pub eligible_lifts : EligibleLifts
eligible_lifts ls (Some k) σ i strict h = h
eligible_lifts ls None σ i strict h =
    maximal-lifts σ strict (slice_get ls i) (remove ls i)
    (ap (λ (o : Option TreeLiteral). is_maximal_at strict o (map (literal_instance σ) (remove ls i))) (sym (slice_get-map (literal_instance σ) ls i))
    ∙ ap (λ (ks : List TreeLiteral). is_maximal_at strict (slice_get (literals_instance σ ls) i) ks) (sym (remove-map (literal_instance σ) ls i))
    ∙ h)

-- ---- the test of one other literal

tests-equal : (c : Cmp) (a b d : Bool) → comparison_of c ≡ by_tests a b d → is_equal c ≡ a
tests-equal Greater true b d e = absurd (cc)
tests-equal Greater false b d e = refl
tests-equal Less true b d e = absurd (cc)
tests-equal Less false b d e = refl
tests-equal Equal true b d e = refl
tests-equal Equal false true d e = absurd (cc)
tests-equal Equal false false true e = absurd (cc)
tests-equal Equal false false false e = absurd (cc)
tests-equal Unordered true b d e = absurd (cc)
tests-equal Unordered false b d e = refl

abbrev beats : Bool → Cmp → Bool
beats strict Greater = true
beats strict Less = false
beats strict Equal = strict
beats strict Unordered = false

by_answer : (strict : Bool) (c : Cmp) → (not (is_greater c) && not (strict && is_equal c)) ≡ not (beats strict c)
by_answer true Greater = refl
by_answer true Less = refl
by_answer true Equal = refl
by_answer true Unordered = refl
by_answer false Greater = refl
by_answer false Less = refl
by_answer false Equal = refl
by_answer false Unordered = refl

pub beats-is :
    (strict : Bool) (c : Cmp) (m l : TreeLiteral) → comparison_of c ≡ compare_literals m l
    → not (beats strict c) ≡ (not (literal_greater m l) && not (strict && equivalent_literals m l))
beats-is strict c m l e =
    sym (by_answer strict c)
    ∙ ap (λ (b : Bool). not b && not (strict && is_equal c)) (greater-is c m l e)
    ∙ ap (λ (b : Bool). not (literal_greater m l) && not (strict && b))
    (tests-equal c (equivalent_literals m l) (literal_greater m l) (literal_greater l m) e)

-- ---- the others, one after another

none-left : {X : Type 0} (i : ℕ) → remove {X = X} [] i ≡ []
none-left zero = refl
none-left (suc i) = refl

remove-last : {X : Type 0} (xs : List X) (x : X) (i : ℕ) → length xs ≡ i → remove (xs ++ x ∷ []) i ≡ remove xs i
remove-last [] x zero h = refl
remove-last [] x (suc i) h = absurd (omega arith)
remove-last (y ∷ xs) x zero h = absurd (omega arith)
remove-last (y ∷ xs) x (suc i) h = ap (λ us. y ∷ us) (remove-last xs x i (omega arith))

remove-before : {X : Type 0} (xs : List X) (x : X) (i : ℕ) → (length xs ≡ i → ⊥) → remove (xs ++ x ∷ []) i ≡ remove xs i ++ x ∷ []
remove-before [] x zero h = absurd (h refl)
remove-before [] x (suc i) h = ap (λ us. x ∷ us) (none-left i)
remove-before (y ∷ xs) x zero h = refl
remove-before (y ∷ xs) x (suc i) h = ap (λ us. y ∷ us) (remove-before xs x i (λ e. h (ap suc e)))

-- an element of another index stays
In-others : {X : Type 0} (xs : List X) (i k : ℕ) (x : X) → slice_get xs k ≡ Some x → (k ≡ i → ⊥) → In x (remove xs i)
In-others [] i k x e other = absurd (cc)
In-others (y ∷ xs) zero zero x e other = absurd (other refl)
In-others (y ∷ xs) zero (suc k) x e other = In-index xs k x e
In-others (y ∷ xs) (suc i) zero x e other = inl (sym (same_Some y x e))
In-others (y ∷ xs) (suc i) (suc k) x e other = inr (In-others xs i k x e (λ s. other (ap suc s)))

-- an item of the instance is the instance of the item
pub instance-item :
    (σ : Substitution) (ls : List TreeLiteral) (i : ℕ) (l : TreeLiteral) → slice_get ls i ≡ Some l
    → slice_get (literals_instance σ ls) i ≡ Some (literal_instance σ l)
instance-item σ ls i l e = slice_get-map (literal_instance σ) ls i ∙ ap (option_map (literal_instance σ)) e

-- the literal itself is passed over
pub itself-passed :
    (strict : Bool) (ls : List TreeLiteral) (i k : ℕ) (l : TreeLiteral) → slice_get ls i ≡ Some l → k ≡ i
    → is_maximal strict l (remove (take k ls) i) ≡ true → is_maximal strict l (remove (take (k + 1) ls) i) ≡ true
itself-passed strict ls i k l e same before =
    let there : slice_get ls k ≡ Some l = ap (slice_get ls) same ∙ e in
    ap (λ ks. is_maximal strict l (remove ks i)) (take-more ls k l there)
    ∙ ap (is_maximal strict l) (remove-last (take k ls) l i (length-take-le k ls (omega (arith, slice_get_within ls k l there)) ∙ same))
    ∙ before

-- another one that doesn't outdo it
pub other-passed :
    (strict : Bool) (ls : List TreeLiteral) (i k : ℕ) (l m : TreeLiteral) → slice_get ls k ≡ Some m → (k ≡ i → ⊥)
    → is_maximal strict l (remove (take k ls) i) ≡ true → (not (literal_greater m l) && not (strict && equivalent_literals m l)) ≡ true
    → is_maximal strict l (remove (take (k + 1) ls) i) ≡ true
other-passed strict ls i k l m e other before here =
    let p : TreeLiteral → Bool = λ n. not (literal_greater n l) && not (strict && equivalent_literals n l) in
    let front : length (take k ls) ≡ k = length-take-le k ls (omega (arith, slice_get_within ls k m e)) in
    ap (λ ks. is_maximal strict l (remove ks i)) (take-more ls k m e)
    ∙ ap (is_maximal strict l) (remove-before (take k ls) m i (λ s. other (sym front ∙ s)))
    ∙ list_all-append p (remove (take k ls) i) (m ∷ [])
    ∙ and_from (list_all p (remove (take k ls) i)) (p m && true) before (and_from (p m) true here refl)

-- one that does
pub other-outdoes :
    (strict : Bool) (ls : List TreeLiteral) (i k : ℕ) (l m : TreeLiteral)
    → slice_get ls i ≡ Some l → slice_get ls k ≡ Some m → (k ≡ i → ⊥)
    → (not (literal_greater m l) && not (strict && equivalent_literals m l)) ≡ false → false ≡ eligible ls i None strict
other-outdoes strict ls i k l m own e other here =
    sym (ap (λ o. is_maximal_at strict o (remove ls i)) own
    ∙ some-fails (λ n. not (literal_greater n l) && not (strict && equivalent_literals n l)) (remove ls i) m (In-others ls i k m e other) here)
