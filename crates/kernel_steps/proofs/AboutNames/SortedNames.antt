-- A list of names is sorted by putting one after another at its place.
use Rattle.std.proofs.Common.{◌≡◌, ⊎_elim, ℕ, Bool, true, false, not, ◌&&◌, ◌||◌, ◌==◌, nat_lt, List, [], ◌∷◌, refl, ap, sym, ◌∙◌}
use mathlib.Core.Bool.{beq}
use Rattle.std.proofs.lemmas.Bool.{and_parts, and_from, or_left, or_right, cond-true, cond-false, true≢false, eq-eqb, lt-ltb, cases_order}
use Rattle.plain_types.specs.declared.sequence.NameLit.{NameLit}
use Rattle.plain_types.specs.Names.{same_name}
use Rattle.kernel_steps.specs.Names.{name_before, with_name, with_names, are_sorted, SortedNames}
use Rattle.kernel_steps.proofs.AboutNames.NameTruth.{has_name-sorted_names}

-- of two names that are not the same one comes before the other
before-other : (n m : NameLit) → same_name n m ≡ false → name_before n m ≡ false → name_before m n ≡ true
before-other n m = by_order n.positive m.positive n.name m.name
  where
    of_one_number :
        (p q : Bool) (a b : ℕ) → (a == b) ≡ true → (b == a) ≡ true
        → (beq p q && (a == b)) ≡ false → (nat_lt a b || ((a == b) && (not p && q))) ≡ false
        → (nat_lt b a || ((b == a) && (not q && p))) ≡ true
    of_one_number true true a b e f other not_before = absurd (true≢false (sym e ∙ other))
    of_one_number false false a b e f other not_before = absurd (true≢false (sym e ∙ other))
    of_one_number true false a b e f other not_before = or_right (nat_lt b a) _ (and_from (b == a) true f refl)
    of_one_number false true a b e f other not_before =
        absurd (true≢false (sym (or_right (nat_lt a b) _ (and_from (a == b) true e refl)) ∙ not_before))

    by_order :
        (p q : Bool) (a b : ℕ)
        → (beq p q && (a == b)) ≡ false → (nat_lt a b || ((a == b) && (not p && q))) ≡ false
        → (nat_lt b a || ((b == a) && (not q && p))) ≡ true
    by_order p q a b other not_before =
        ⊎_elim
        (λ same. of_one_number p q a b (eq-eqb a b same) (eq-eqb b a (sym same)) other not_before)
        (λ r.
        ⊎_elim
        (λ less. absurd (true≢false (sym (or_left (nat_lt a b) _ (lt-ltb a b less)) ∙ not_before)))
        (λ more. or_left (nat_lt b a) _ (lt-ltb b a more))
        r)
        (cases_order a b)

-- the first of a sorted list may be left out
tail_sorted : (m : NameLit) (ms : List NameLit) → are_sorted (m ∷ ms) ≡ true → are_sorted ms ≡ true
tail_sorted m [] h = refl
tail_sorted m (k ∷ ms) h = (and_parts (name_before m k) (are_sorted (k ∷ ms)) h).1

-- a name put into the rest of a sorted list, behind its first
behind :
    (n m : NameLit) (ms : List NameLit) → name_before m n ≡ true → are_sorted (m ∷ ms) ≡ true → are_sorted (with_name n ms) ≡ true
    → are_sorted (m ∷ with_name n ms) ≡ true
behind n m [] before h rest = and_from (name_before m n) true before refl
behind n m (k ∷ ms) before h rest = by (same_name n k) refl (name_before n k) refl
  where
    first : name_before m k ≡ true
    first = (and_parts (name_before m k) (are_sorted (k ∷ ms)) h).0

    by : (s : Bool) → same_name n k ≡ s → (b : Bool) → name_before n k ≡ b → are_sorted (m ∷ with_name n (k ∷ ms)) ≡ true
    by true same b e = ap (λ xs. are_sorted (m ∷ xs)) (cond-true (same_name n k) _ _ same) ∙ h
    by false other true e =
        ap (λ xs. are_sorted (m ∷ xs)) (cond-false (same_name n k) _ _ other ∙ cond-true (name_before n k) _ _ e)
        ∙ and_from (name_before m n) (are_sorted (n ∷ k ∷ ms)) before
        (and_from (name_before n k) (are_sorted (k ∷ ms)) e (tail_sorted m (k ∷ ms) h))
    by false other false e =
        ap (λ xs. are_sorted (m ∷ xs)) (cond-false (same_name n k) _ _ other ∙ cond-false (name_before n k) _ _ e)
        ∙ and_from (name_before m k) (are_sorted (k ∷ with_name n ms)) first
        (sym (ap are_sorted (cond-false (same_name n k) _ _ other ∙ cond-false (name_before n k) _ _ e)) ∙ rest)

pub with_name-sorted : (n : NameLit) (ms : List NameLit) → are_sorted ms ≡ true → are_sorted (with_name n ms) ≡ true
with_name-sorted n [] h = refl
with_name-sorted n (m ∷ ms) h = by (with_name-sorted n ms (tail_sorted m ms h)) (same_name n m) refl (name_before n m) refl
  where
    by :
        are_sorted (with_name n ms) ≡ true → (s : Bool) → same_name n m ≡ s → (b : Bool) → name_before n m ≡ b
        → are_sorted (with_name n (m ∷ ms)) ≡ true
    by rest true same b e = ap are_sorted (cond-true (same_name n m) _ _ same) ∙ h
    by rest false other true e =
        ap are_sorted (cond-false (same_name n m) _ _ other ∙ cond-true (name_before n m) _ _ e)
        ∙ and_from (name_before n m) (are_sorted (m ∷ ms)) e h
    by rest false other false e =
        ap are_sorted (cond-false (same_name n m) _ _ other ∙ cond-false (name_before n m) _ _ e)
        ∙ behind n m ms (before-other n m other e) h rest

pub with_names-sorted : (ns ms : List NameLit) → are_sorted ms ≡ true → are_sorted (with_names ns ms) ≡ true
with_names-sorted [] ms h = h
with_names-sorted (n ∷ ns) ms h = with_names-sorted ns (with_name n ms) (with_name-sorted n ms h)

pub sorted_names_law : SortedNames
sorted_names_law ns = (with_names-sorted ns [] refl, λ n. has_name-sorted_names n ns)
