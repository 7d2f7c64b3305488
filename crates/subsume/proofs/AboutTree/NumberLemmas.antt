-- Numbers of members, in order.
use Rattle.std.proofs.Common.{◌≡◌, ℕ, zero, suc, ◌+◌, ◌<◌, ◌≤◌, true, false, ◌||◌, ◌==◌, List, [], ◌∷◌, length, ap, sym, ◌∙◌, subst, ⊎_elim, arith}
use Rattle.std.specs.Prelude.{not, Contains, IsPermutation, IsSortedByKey, slice_index}
use Rattle.std.specs.List.{list_any}
use Rattle.std.specs.List.Sorted.{IsStrictlyIncreasing}
use Rattle.std.specs.Ordering.{nat_cmp}
use Rattle.std.proofs.lemmas.Bool.{and_parts, and_from, or_parts, not-true, true≢false, eq-eqb}
use Rattle.std.proofs.lemmas.List.Sorted.{IsPermutation-sym, Contains-permutation, IsNonDecreasingBy-from_sort}
use Rattle.fol_base.specs.Subsumption.{all_different}
use Rattle.bank_clause.specs.declared.member.Member.{Member}
use Rattle.subsume.specs.Members.{numbers_of}
use Rattle.subsume.specs.Searching.{AreNumbersWhere}
use Rattle.bank_clause.specs.Members.{AreNumbersOf, SomeMember}
use Rattle.subsume.proofs.AboutSearch.ChoosingLemmas.{different-permutation}
use Rattle.list_lemmas.proofs.Members.{contains-first, contains-none, first-or-later, contains-later}

one-later : (Does : Member → Type 0) (m : Member) (ms : List Member) (n : ℕ) → SomeMember Does ms n → SomeMember Does (m ∷ ms) n
one-later Does m ms n s = record { member = s.member; there = contains-later m ms s.member s.there; does = s.does; number = s.number }

told : (Does : Member → Type 0) (ms : List Member) (ns : List ℕ) → AreNumbersWhere Does ms ns → (n : ℕ) → Contains ns n → SomeMember Does ms n
told Does [] ns h n there = absurd (contains-none n (subst (λ ks. Contains ks n) h there))
told Does (m ∷ ms) ns h n there =
    ⊎_elim
    (λ s.
    ⊎_elim
    (λ e. record { member = m; there = contains-first m ms; does = s.1; number = e })
    (λ e. one-later Does m ms n (told Does ms s.0 s.3 n e))
    (first-or-later m.number s.0 n (subst (λ ks. Contains ks n) s.2 there)))
    (λ s. one-later Does m ms n (told Does ms ns s.1 n there))
    h

listed : (Does : Member → Type 0) (ms : List Member) (ns : List ℕ) → AreNumbersWhere Does ms ns → (k : Member) → Contains ms k → Does k → Contains ns k.number
listed Does [] ns h k there does = absurd (contains-none k there)
listed Does (m ∷ ms) ns h k there does =
    ⊎_elim
    (λ s.
    subst (λ ks. Contains ks k.number) (sym s.2)
    (⊎_elim
    (λ e. subst (λ (x : Member). Contains (m.number ∷ s.0) x.number) e (contains-first m.number s.0))
    (λ e. contains-later m.number s.0 k.number (listed Does ms s.0 s.3 k e does))
    (first-or-later m ms k there)))
    (λ s.
    ⊎_elim
    (λ e. absurd (s.0 (subst Does (sym e) does)))
    (λ e. listed Does ms ns s.1 k e does)
    (first-or-later m ms k there))
    h

absent : (Does : Member → Type 0) (ms : List Member) (ns : List ℕ) (n : ℕ) → AreNumbersWhere Does ms ns → list_any (λ i. n == i) (numbers_of ms) ≡ false → list_any (λ i. n == i) ns ≡ false
absent Does [] ns n h none = ap (list_any (λ i. n == i)) h
absent Does (m ∷ ms) ns n h none =
    let parts = or_parts (n == m.number) (list_any (λ i. n == i) (numbers_of ms)) none in
    ⊎_elim
    (λ s.
    ap (list_any (λ i. n == i)) s.2 ∙ ap (λ b. b || list_any (λ i. n == i) s.0) parts.0 ∙ absent Does ms s.0 n s.3 parts.1)
    (λ s. absent Does ms ns n s.1 parts.1)
    h

where-different : (Does : Member → Type 0) (ms : List Member) (ns : List ℕ) → AreNumbersWhere Does ms ns → all_different (numbers_of ms) ≡ true → all_different ns ≡ true
where-different Does [] ns h d = ap all_different h
where-different Does (m ∷ ms) ns h d =
    let parts = and_parts (not (list_any (λ i. m.number == i) (numbers_of ms))) (all_different (numbers_of ms)) d in
    ⊎_elim
    (λ s.
    ap all_different s.2
    ∙ and_from (not (list_any (λ i. m.number == i) s.0)) (all_different s.0)
    (ap not (absent Does ms s.0 m.number s.3 (not-true (list_any (λ i. m.number == i) (numbers_of ms)) parts.0)))
    (where-different Does ms s.0 s.3 parts.1))
    (λ s. where-different Does ms ns s.1 parts.1)
    h

neighbours : (xs : List ℕ) (k : ℕ) → all_different xs ≡ true → k + 1 < length xs → slice_index xs k ≡ slice_index xs (k + 1) → ⊥
neighbours [] k d h e = absurd (omega arith)
neighbours (x ∷ []) k d h e = absurd (omega arith)
neighbours (x ∷ y ∷ xs) zero d h e =
    let parts = and_parts (not (list_any (λ i. x == i) (y ∷ xs))) (all_different (y ∷ xs)) d in
    let apart = or_parts (x == y) (list_any (λ i. x == i) xs) (not-true (list_any (λ i. x == i) (y ∷ xs)) parts.0) in
    true≢false (sym (eq-eqb x y e) ∙ apart.0)
neighbours (x ∷ y ∷ xs) (suc k) d h e =
    neighbours (y ∷ xs) k (and_parts (not (list_any (λ i. x == i) (y ∷ xs))) (all_different (y ∷ xs)) d).1 (omega arith)
    (e ∙ ap (slice_index (x ∷ y ∷ xs)) (next k))
  where
    next : (k : ℕ) → suc k + 1 ≡ suc (k + 1)
    next k = omega arith

rising : (xs : List ℕ) → all_different xs ≡ true → IsSortedByKey (λ (x : ℕ). x) nat_cmp xs → IsStrictlyIncreasing xs
rising xs d s k h =
    strictly (slice_index xs k) (slice_index xs (k + 1)) (IsNonDecreasingBy-from_sort (λ (x : ℕ). x) xs s k (k + 1) 0 (omega arith) h) (neighbours xs k d h)
  where
    strictly : (a b : ℕ) → a ≤ b → (a ≡ b → ⊥) → a < b
    strictly a b h ne = omega (arith, h, ne)

pub numbers-sorted :
    (Does : Member → Type 0) (ms : List Member) (ns sorted : List ℕ)
    → all_different (numbers_of ms) ≡ true → AreNumbersWhere Does ms ns → IsPermutation ns sorted → IsSortedByKey (λ (x : ℕ). x) nat_cmp sorted
    → AreNumbersOf Does ms sorted
numbers-sorted Does ms ns sorted d h p s = record {
  rise = rising sorted (different-permutation ns sorted p (where-different Does ms ns h d)) s;
  exact = λ n. (
    λ there. told Does ms ns h n (Contains-permutation sorted ns n (IsPermutation-sym ns sorted p) there),
    λ one. Contains-permutation ns sorted n p (subst (Contains ns) one.number (listed Does ms ns h one.member one.there one.does)),
  );
}
