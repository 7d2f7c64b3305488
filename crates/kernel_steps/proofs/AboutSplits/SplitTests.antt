-- What the tests of a split say.
use Rattle.std.proofs.Common.{◌≡◌, ℕ, zero, suc, ◌<◌, Bool, true, false, ◌&&◌, ◌||◌, ◌==◌, List, [], ◌∷◌, length, map, Option, Some, None, refl, ap, ap₂, sym, ◌∙◌, inl, inr, ⊎_elim, arith}
use mathlib.Core.Bool.{beq}
use Rattle.std.specs.Prelude.{not, slice_get, flat_map}
use Rattle.std.specs.List.{list_any, list_all, cons_option}
use Rattle.std.proofs.lemmas.Bool.{and_parts, and_from, or_cases, or_left, or_right, or_parts, not-true, eqb-true, true≢false, false_from_ne_true, cases_lt}
use Rattle.std.proofs.lemmas.Option.{slice_get_within}
use Rattle.std.proofs.lemmas.List.Folds.{list_any-append}
use Rattle.fol_base.specs.Clause.{TreeLiteral, literal_eq, literals_eq, literal_variables}
use Rattle.fol_base.specs.Tree.{Tree, tree_eq}
use Rattle.fol_base.proofs.AboutTerms.TreeLemmas.{tree_eq-true}
use Rattle.kernel_steps.specs.Parents.{Parent}
use Rattle.kernel_steps.specs.Split.{has_number, has_all_below, is_part, share_out, literals_at, share_variable, share_no_variables, are_defined, is_split}

-- ---- numbers in lists

-- where a test fails of each item, it fails of a number that is there
pub has_number-fails :
    (p : ℕ → Bool) (ks : List ℕ) (n : ℕ) → list_any p ks ≡ false → has_number n ks ≡ true → p n ≡ false
has_number-fails p [] n fails there = absurd (true≢false (sym there))
has_number-fails p (k ∷ ks) n fails there =
    let both = or_parts (p k) (list_any p ks) fails in
    ⊎_elim (λ here. ap p (eqb-true n k here) ∙ both.0) (λ later. has_number-fails p ks n both.1 later) (or_cases (n == k) (has_number n ks) there)

-- each number below a bound is there
pub has_all_below-each : (n : ℕ) (ks : List ℕ) (k : ℕ) → has_all_below n ks ≡ true → k < n → has_number k ks ≡ true
has_all_below-each zero ks k all within = absurd (omega arith)
has_all_below-each (suc n) ks k all within =
    let both = and_parts (has_number n ks) (has_all_below n ks) all in
    elim (cases_lt k n) [
      | inl below ↦ has_all_below-each n ks k both.1 below
      | inr above ↦ (let here : n ≡ k = omega arith in ap (λ m. has_number m ks) (sym here) ∙ both.0)
    ]

-- a number in one of several lists
pub list_any-flat :
    (p : ℕ → Bool) (parts : List (List ℕ)) → list_any p (flat_map (λ ks. ks) parts) ≡ list_any (λ ks. list_any p ks) parts
list_any-flat p [] = refl
list_any-flat p (ks ∷ parts) = list_any-append p ks (flat_map (λ js. js) parts) ∙ ap (λ b. list_any p ks || b) (list_any-flat p parts)

-- ---- literals at places

-- the literal at a place of a part is one of the part's
pub literals_at-passes :
    (p : TreeLiteral → Bool) (ls : List TreeLiteral) (places : List ℕ) (k : ℕ) (l : TreeLiteral)
    → has_number k places ≡ true → slice_get ls k ≡ Some l → p l ≡ true → list_any p (literals_at ls places) ≡ true
literals_at-passes p ls [] k l there at passes = absurd (true≢false (sym there))
literals_at-passes p ls (j ∷ js) k l there at passes =
    ⊎_elim
    (λ here.
    ap (λ o. list_any p (cons_option o (literals_at ls js))) (ap (slice_get ls) (sym (eqb-true k j here)) ∙ at)
    ∙ or_left (p l) (list_any p (literals_at ls js)) passes)
    (λ later. kept (slice_get ls j) (literals_at ls js) (literals_at-passes p ls js k l later at passes))
    (or_cases (k == j) (has_number k js) there)
  where
    kept : (o : Option TreeLiteral) (rest : List TreeLiteral) → list_any p rest ≡ true → list_any p (cons_option o rest) ≡ true
    kept None rest some = some
    kept (Some m) rest some = or_right (p m) (list_any p rest) some

-- an item that passes is somewhere
pub list_any-place :
    {X : Type 0} (p : X → Bool) (xs : List X) → list_any p xs ≡ true
    → (k : ℕ) × ((x : X) × ((slice_get xs k ≡ Some x) × (p x ≡ true)))
list_any-place p [] some = absurd (true≢false (sym some))
list_any-place p (x ∷ xs) some =
    ⊎_elim
    (λ here. (0, (x, (refl, here))))
    (λ later. let rest = list_any-place p xs later in (suc rest.0, rest.1))
    (or_cases (p x) (list_any p xs) some)

-- a test that some literal passes is passed in a part, where the parts share out the literals
pub some_part-passes :
    (p : TreeLiteral → Bool) (ls : List TreeLiteral) (parts : List (List ℕ))
    → share_out (length ls) parts ≡ true → list_any p ls ≡ true → list_any (λ ks. list_any p ks) (map (literals_at ls) parts) ≡ true
some_part-passes p ls parts shared some =
    in_part parts
    (sym (list_any-flat (λ j. place.0 == j) parts)
    ∙ has_all_below-each (length ls) (flat_map (λ ks. ks) parts) place.0 all (slice_get_within ls place.0 place.1.0 place.1.1.0))
  where
    place : (k : ℕ) × ((l : TreeLiteral) × ((slice_get ls k ≡ Some l) × (p l ≡ true)))
    place = list_any-place p ls some

    all : has_all_below (length ls) (flat_map (λ ks. ks) parts) ≡ true
    all = (and_parts (length (flat_map (λ ks. ks) parts) == length ls) (has_all_below (length ls) (flat_map (λ ks. ks) parts)) shared).1

    in_part :
        (parts : List (List ℕ))
        → list_any (λ ks. has_number place.0 ks) parts ≡ true → list_any (λ ks. list_any p ks) (map (literals_at ls) parts) ≡ true
    in_part [] there = absurd (true≢false (sym there))
    in_part (ks ∷ parts) there =
        ⊎_elim
        (λ here.
        or_left (list_any p (literals_at ls ks)) (list_any (λ js. list_any p js) (map (literals_at ls) parts))
        (literals_at-passes p ls ks place.0 place.1.0 here place.1.1.0 place.1.1.1))
        (λ later.
        or_right (list_any p (literals_at ls ks)) (list_any (λ js. list_any p js) (map (literals_at ls) parts)) (in_part parts later))
        (or_cases (has_number place.0 ks) (list_any (λ js. has_number place.0 js) parts) there)

-- ---- shared variables

-- a variable of one list isn't in another that shares none
pub share_variable-fails :
    (ls ks : List TreeLiteral) (v : ℕ)
    → not (share_variable ls ks) ≡ true → has_number v (flat_map literal_variables ks) ≡ true → has_number v (flat_map literal_variables ls) ≡ false
share_variable-fails ls ks v apart there =
    false_from_ne_true (has_number v (flat_map literal_variables ls)) λ here.
    true≢false
    (sym there
    ∙ has_number-fails (λ w. has_number w (flat_map literal_variables ks)) (flat_map literal_variables ls) v (not-true (share_variable ls ks) apart) here)

-- ---- equal lists of literals

beq-says : (a b : Bool) → beq a b ≡ true → a ≡ b
beq-says true true e = refl
beq-says true false e = absurd (true≢false (sym e))
beq-says false true e = absurd (true≢false (sym e))
beq-says false false e = refl

pub literal_eq-says : (l m : TreeLiteral) → literal_eq l m ≡ true → l ≡ m
literal_eq-says l m h =
    let parts = and_parts (beq l.positive m.positive && tree_eq l.left m.left) (tree_eq l.right m.right) h in
    let signs = and_parts (beq l.positive m.positive) (tree_eq l.left m.left) parts.0 in
    let make : Bool → Tree → Tree → TreeLiteral = λ p t u. record { positive = p; left = t; right = u } in
    ap (λ p. make p l.left l.right) (beq-says l.positive m.positive signs.0)
    ∙ ap₂ (make m.positive) (tree_eq-true l.left m.left signs.1) (tree_eq-true l.right m.right parts.1)

pub literals_eq-says : (ls ms : List TreeLiteral) → literals_eq ls ms ≡ true → ls ≡ ms
literals_eq-says [] [] h = refl
literals_eq-says [] (m ∷ ms) h = absurd (true≢false (sym h))
literals_eq-says (l ∷ ls) [] h = absurd (true≢false (sym h))
literals_eq-says (l ∷ ls) (m ∷ ms) h =
    let parts = and_parts (literal_eq l m) (literals_eq ls ms) h in
    ap₂ ◌∷◌ (literal_eq-says l m parts.0) (literals_eq-says ls ms parts.1)

-- ---- tests of all items

pub no_items : {X : Type 0} (xs : List X) → (length xs == 0) ≡ true → xs ≡ []
no_items [] h = refl
no_items (x ∷ xs) h = absurd (omega (arith, eqb-true (length (x ∷ xs)) 0 h))

pub list_all-both :
    {X : Type 0} (p q r : X → Bool)
    → ((x : X) → p x ≡ true → q x ≡ true → r x ≡ true)
    → (xs : List X) → list_all p xs ≡ true → list_all q xs ≡ true → list_all r xs ≡ true
list_all-both p q r h [] all all' = refl
list_all-both p q r h (x ∷ xs) all all' =
    let first = and_parts (p x) (list_all p xs) all in
    let second = and_parts (q x) (list_all q xs) all' in
    and_from (r x) (list_all r xs) (h x first.0 second.0) (list_all-both p q r h xs first.1 second.1)

-- a test that each item fails, some item doesn't pass
pub list_all-none :
    {X : Type 0} (p : X → Bool) (xs : List X) → list_all (λ x. not (p x)) xs ≡ true → list_any p xs ≡ false
list_all-none p [] none = refl
list_all-none p (x ∷ xs) none =
    let both = and_parts (not (p x)) (list_all (λ y. not (p y)) xs) none in
    ap₂ ◌||◌ (not-true (p x) both.0) (list_all-none p xs both.1)

-- ---- the condition of a split

-- what it says of the parts
pub record SplitsInto (ls : List TreeLiteral) (ds : List Parent) (parts : List (List ℕ)) : Type 0 where
  pub shared_out : share_out (length ls) parts ≡ true
  pub apart : share_no_variables (map (literals_at ls) parts) ≡ true
  pub defined : are_defined (map Some ds) (map (literals_at ls) parts) ≡ true

pub is_split-says : (ls : List TreeLiteral) (ds : List Parent) (parts : List (List ℕ)) → is_split ls ds parts ≡ true → SplitsInto ls ds parts
is_split-says ls ds parts h =
    let lss : List (List TreeLiteral) = map (literals_at ls) parts in
    let shared : Bool = share_out (length ls) parts in
    let some = and_parts (not (length parts == 0)) (list_all is_part parts && (shared && (share_no_variables lss && are_defined (map Some ds) lss))) h in
    let each = and_parts (list_all is_part parts) (shared && (share_no_variables lss && are_defined (map Some ds) lss)) some.1 in
    let out = and_parts shared (share_no_variables lss && are_defined (map Some ds) lss) each.1 in
    let rest = and_parts (share_no_variables lss) (are_defined (map Some ds) lss) out.1 in
    record { shared_out = out.0; apart = rest.0; defined = rest.1 }
