-- Splits whose definitions are looked up.
use Rattle.std.proofs.Common.{◌≡◌, ℕ, ◌≤◌, Bool, true, false, ◌&&◌, ◌||◌, ◌==◌, List, [], ◌∷◌, ◌++◌, length, map, Option, Some, None, refl, ap, ap₂, sym, ◌∙◌, ⊎_elim}
use Rattle.std.specs.Prelude.{not, slice_get, option_map, option_and_then, flat_map, filter, if◌then◌else◌}
use Rattle.std.specs.List.{list_all, cons_option}
use Rattle.std.proofs.lemmas.Bool.{and_parts, or_parts, or_cases, cond-true, cond-false, true≢false, eqb-true, eq-eqb, ne_eqb, cases_Bool}
use Rattle.std.proofs.lemmas.Option.{none-some, same_Some, slice_get_past}
use Rattle.std.proofs.lemmas.List.{map-append, append-nil}
use Rattle.plain_types.specs.Names.{opposite}
use Rattle.fol_base.specs.Clause.{TreeLiteral, TreeClause, literal_variables}
use Rattle.fol_base.specs.Canonical.{distinct}
use Rattle.fol_base.proofs.WorkedExamples.TestLemmas.{option_map-some}
use Rattle.kernel_steps.specs.Parents.{Parent, all_there}
use Rattle.kernel_steps.specs.Split.{has_number, is_part, share_out, literals_at, share_no_variables, defines, is_split, are_defined, can_split, opposites, share_number, share_no_numbers}
use Rattle.kernel_steps.specs.Conclusion.{clause_with, split_from}

-- ---- definitions

-- definitions that are all there
there-all : (os : List (Option Parent)) (ds : List Parent) → all_there os ≡ Some ds → os ≡ map Some ds
there-all [] ds h = ap (map Some) (same_Some [] ds h)
there-all (None ∷ os) ds h = absurd (none-some ds h)
there-all (Some d ∷ os) ds h =
    option_map-some (λ es. d ∷ es) (all_there os) ds h λ es es_is gives.
    ap (λ ps. Some d ∷ ps) (there-all os es es_is) ∙ ap (map Some) gives

are_defined-all : (os : List (Option Parent)) (lss : List (List TreeLiteral)) → are_defined os lss ≡ true → (ds : List Parent) × (all_there os ≡ Some ds)
are_defined-all [] lss h = ([], refl)
are_defined-all (None ∷ os) [] h = absurd (true≢false (sym h))
are_defined-all (None ∷ os) (ls ∷ lss) h = absurd (true≢false (sym h))
are_defined-all (Some d ∷ os) [] h = absurd (true≢false (sym h))
are_defined-all (Some d ∷ os) (ls ∷ lss) h =
    let rest = are_defined-all os lss (and_parts (defines d ls) (are_defined os lss) h).1 in
    (d ∷ rest.0, ap (option_map (λ es. d ∷ es)) rest.1)

opposites-there :
    (os : List (Option Parent)) (ds : List Parent)
    → all_there os ≡ Some ds → opposites os ≡ map opposite (flat_map (λ (d : Parent). d.clause.names) ds)
opposites-there [] ds h = ap (λ es. map opposite (flat_map (λ (d : Parent). d.clause.names) es)) (same_Some [] ds h)
opposites-there (None ∷ os) ds h = absurd (none-some ds h)
opposites-there (Some d ∷ os) ds h =
    option_map-some (λ es. d ∷ es) (all_there os) ds h λ es es_is gives.
    ap (λ ns. map opposite d.clause.names ++ ns) (opposites-there os es es_is)
    ∙ sym (map-append opposite d.clause.names (flat_map (λ (e : Parent). e.clause.names) es))
    ∙ ap (λ fs. map opposite (flat_map (λ (e : Parent). e.clause.names) fs)) gives

-- ---- the conclusion of a split

-- where the condition holds
pub split-made :
    (p : Parent) (os : List (Option Parent)) (parts : List (List ℕ))
    → can_split p.clause.literals os parts ≡ true
    → option_and_then (λ ds. split_from p ds parts) (all_there os) ≡ Some (clause_with (p.clause.names ++ opposites os) [])
split-made p os parts can =
    let lss : List (List TreeLiteral) = map (literals_at p.clause.literals) parts in
    let some = and_parts (not (length parts == 0)) _ can in
    let rising = and_parts (list_all is_part parts) _ some.1 in
    let shared = and_parts (share_out (length p.clause.literals) parts) _ rising.1 in
    let apart = and_parts (share_no_variables lss) (are_defined os lss) shared.1 in
    let defined = are_defined-all os lss apart.1 in
    let is_one : is_split p.clause.literals defined.0 parts ≡ true =
    ap (λ qs. can_split p.clause.literals qs parts) (sym (there-all os defined.0 defined.1)) ∙ can in
    ap (option_and_then (λ ds. split_from p ds parts)) defined.1
    ∙ cond-true (is_split p.clause.literals defined.0 parts)
    (Some (clause_with (p.clause.names ++ map opposite (flat_map (λ (d : Parent). d.clause.names) defined.0)) [])) None is_one
    ∙ ap (λ ns. let o : Option TreeClause = Some (clause_with (p.clause.names ++ ns) []) in o) (sym (opposites-there os defined.0 defined.1))

-- and where it fails
pub split-none :
    (p : Parent) (os : List (Option Parent)) (parts : List (List ℕ))
    → can_split p.clause.literals os parts ≡ false → option_and_then (λ ds. split_from p ds parts) (all_there os) ≡ None
split-none p os parts cannot = looked_up (all_there os) (λ ds ds_is. ds_is)
  where
    looked_up :
        (o : Option (List Parent)) → ((ds : List Parent) → o ≡ Some ds → all_there os ≡ Some ds)
        → option_and_then (λ ds. split_from p ds parts) o ≡ None
    looked_up None there = refl
    looked_up (Some ds) there =
        cond-false (is_split p.clause.literals ds parts)
        (Some (clause_with (p.clause.names ++ map opposite (flat_map (λ (d : Parent). d.clause.names) ds)) [])) None
        (ap (λ qs. can_split p.clause.literals qs parts) (sym (there-all os ds (there ds refl))) ∙ cannot)

-- ---- numbers in lists

-- lists of literals share no variables where the lists of their variables share no numbers
pub share_no_variables-numbers :
    (lss : List (List TreeLiteral)) → share_no_variables lss ≡ share_no_numbers (map (flat_map literal_variables) lss)
share_no_variables-numbers [] = refl
share_no_variables-numbers (ls ∷ lss) =
    ap₂ ◌&&◌ (later (flat_map literal_variables ls) lss) (share_no_variables-numbers lss)
  where
    later :
        (ns : List ℕ) (kss : List (List TreeLiteral))
        → list_all (λ ks. not (share_number ns (flat_map literal_variables ks))) kss
        ≡ list_all (λ ms. not (share_number ns ms)) (map (flat_map literal_variables) kss)
    later ns [] = refl
    later ns (ks ∷ kss) = ap (λ b. not (share_number ns (flat_map literal_variables ks)) && b) (later ns kss)

-- ---- different numbers

has_number-filtered :
    (n w : ℕ) (ks : List ℕ) → (n ≡ w → ⊥) → has_number n (filter (λ k. not (k == w)) ks) ≡ has_number n ks
has_number-filtered n w [] differ = refl
has_number-filtered n w (k ∷ ks) differ = kept (k == w) (eqb-true k w) (has_number-filtered n w ks differ)
  where
    kept :
        (b : Bool) → (b ≡ true → k ≡ w) → has_number n (filter (λ j. not (j == w)) ks) ≡ has_number n ks
        → has_number n (if not b then k ∷ filter (λ j. not (j == w)) ks else filter (λ j. not (j == w)) ks) ≡ ((n == k) || has_number n ks)
    kept true is rest = rest ∙ sym (ap (λ b. b || has_number n ks) (ne_eqb n k (λ e. differ (e ∙ is refl))))
    kept false is rest = ap (λ b. (n == k) || b) rest

-- a number is among the different ones where it is in the list
pub has_number-distinct : (n : ℕ) (ks : List ℕ) → has_number n (distinct ks) ≡ has_number n ks
has_number-distinct n [] = refl
has_number-distinct n (k ∷ ks) =
    ⊎_elim
    (λ here. ap (λ b. b || has_number n (filter (λ j. not (j == k)) (distinct ks))) here ∙ sym (ap (λ b. b || has_number n ks) here))
    (λ other.
    ap (λ b. (n == k) || b)
    (has_number-filtered n k (distinct ks) (λ e. true≢false (sym (eq-eqb n k e) ∙ other)) ∙ has_number-distinct n ks))
    (cases_Bool (n == k))

filter-append : (test : ℕ → Bool) (xs ys : List ℕ) → filter test (xs ++ ys) ≡ filter test xs ++ filter test ys
filter-append test [] ys = refl
filter-append test (x ∷ xs) ys = kept (test x) (filter-append test xs ys)
  where
    kept :
        (b : Bool) → filter test (xs ++ ys) ≡ filter test xs ++ filter test ys
        → (if b then x ∷ filter test (xs ++ ys) else filter test (xs ++ ys)) ≡ (if b then x ∷ filter test xs else filter test xs) ++ filter test ys
    kept true rest = ap (λ zs. x ∷ zs) rest
    kept false rest = rest

-- one number more, that is new
pub distinct-new : (ks : List ℕ) (n : ℕ) → has_number n ks ≡ false → distinct (ks ++ n ∷ []) ≡ distinct ks ++ n ∷ []
distinct-new [] n new = refl
distinct-new (k ∷ ks) n new =
    let both = or_parts (n == k) (has_number n ks) new in
    ap (λ zs. k ∷ filter (λ j. not (j == k)) zs) (distinct-new ks n both.1)
    ∙ ap (λ zs. k ∷ zs)
    (filter-append (λ j. not (j == k)) (distinct ks) (n ∷ [])
    ∙ ap (λ b. filter (λ j. not (j == k)) (distinct ks) ++ (if not b then n ∷ [] else [])) both.0)

-- or that is there
pub distinct-old : (ks : List ℕ) (n : ℕ) → has_number n ks ≡ true → distinct (ks ++ n ∷ []) ≡ distinct ks
distinct-old [] n there = absurd (true≢false (sym there))
distinct-old (k ∷ ks) n there =
    ⊎_elim
    (λ later. ap (λ zs. k ∷ filter (λ j. not (j == k)) zs) (distinct-old ks n later))
    (λ new.
    let here : (n == k) ≡ true = ⊎_elim (λ h. h) (λ h. absurd (true≢false (sym h ∙ new))) (or_cases (n == k) (has_number n ks) there) in
    ap (λ zs. k ∷ filter (λ j. not (j == k)) zs) (distinct-new ks n new)
    ∙ ap (λ zs. k ∷ zs)
    (filter-append (λ j. not (j == k)) (distinct ks) (n ∷ [])
    ∙ ap (λ b. filter (λ j. not (j == k)) (distinct ks) ++ (if not b then n ∷ [] else [])) here
    ∙ append-nil (filter (λ j. not (j == k)) (distinct ks))))
    (cases_Bool (has_number n ks))

-- ---- literals at places

-- one more place, where a literal is
pub literals_at-more :
    (ls : List TreeLiteral) (places : List ℕ) (k : ℕ) (l : TreeLiteral)
    → slice_get ls k ≡ Some l → literals_at ls (places ++ k ∷ []) ≡ literals_at ls places ++ l ∷ []
literals_at-more ls [] k l at = ap (λ o. cons_option o []) at
literals_at-more ls (j ∷ places) k l at = pushed (slice_get ls j) (literals_at-more ls places k l at)
  where
    pushed :
        (o : Option TreeLiteral) → literals_at ls (places ++ k ∷ []) ≡ literals_at ls places ++ l ∷ []
        → cons_option o (literals_at ls (places ++ k ∷ [])) ≡ cons_option o (literals_at ls places) ++ l ∷ []
    pushed None rest = rest
    pushed (Some m) rest = ap (λ zs. m ∷ zs) rest

-- or none is
pub literals_at-past :
    (ls : List TreeLiteral) (places : List ℕ) (k : ℕ) → length ls ≤ k → literals_at ls (places ++ k ∷ []) ≡ literals_at ls places
literals_at-past ls [] k past = ap (λ o. cons_option o []) (slice_get_past ls k past)
literals_at-past ls (j ∷ places) k past = ap (cons_option (slice_get ls j)) (literals_at-past ls places k past)
