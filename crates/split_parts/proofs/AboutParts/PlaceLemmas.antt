-- Numbers in lists, and the variables of the literal at a place.
use Rattle.std.proofs.Common.{◌≡◌, ℕ, zero, suc, ◌+◌, ◌<◌, Bool, true, false, ◌||◌, ◌==◌, List, [], ◌∷◌, ◌++◌, length, map, take, get_or, append-nil, Option, Some, None, refl, ap, sym, ◌∙◌, ◌⊎◌, inl, inr, ⊎_elim, arith}
use Rattle.std.specs.Prelude.{flat_map, filter_map, slice_get, option_map}
use Rattle.std.specs.List.{list_any, list_all, cons_option}
use Rattle.std.proofs.lemmas.Bool.{or_cases, or_left, or_right, eq-eqb, eqb-true, true≢false, cases_lt, and_from}
use Rattle.std.proofs.lemmas.List.{take_more}
use Rattle.std.proofs.lemmas.List.Folds.{list_any-append}
use Rattle.std.proofs.lemmas.Option.{slice_get-map, slice_get_read, slice_get_past}
use Rattle.fol_base.specs.Clause.{TreeLiteral, literal_variables}
use Rattle.fol_base.specs.Literal.{literal_of}
use Rattle.fol_base.specs.declared.clause.Literal.{Literal}
use Rattle.kernel_steps.specs.Split.{has_number, literals_at}
use Rattle.split_parts.specs.Components.{FollowsVariables}
use Rattle.split_parts.specs.Forest.{variables_at}

-- ---- numbers in lists

pub has-one : (k : ℕ) → has_number k (k ∷ []) ≡ true
has-one k = or_left (k == k) false (eq-eqb k k refl)

pub one-says : (j k : ℕ) → has_number j (k ∷ []) ≡ true → j ≡ k
one-says j k h = ⊎_elim (λ e. eqb-true j k e) (λ e. absurd (true≢false (sym e))) (or_cases (j == k) false h)

pub has-end-cases : (j k : ℕ) (ks : List ℕ) → has_number j (ks ++ k ∷ []) ≡ true → (has_number j ks ≡ true) ⊎ (j ≡ k)
has-end-cases j k ks h =
    ⊎_elim (λ e. inl e) (λ e. inr (one-says j k e))
    (or_cases (has_number j ks) (has_number j (k ∷ [])) (sym (list_any-append (λ w. j == w) ks (k ∷ [])) ∙ h))

pub has-more : (j : ℕ) (ks more : List ℕ) → has_number j ks ≡ true → has_number j (ks ++ more) ≡ true
has-more j ks more h = list_any-append (λ w. j == w) ks more ∙ or_left (has_number j ks) (has_number j more) h

pub has-end : (k : ℕ) (ks : List ℕ) → has_number k (ks ++ k ∷ []) ≡ true
has-end k ks = list_any-append (λ w. k == w) ks (k ∷ []) ∙ or_right (has_number k ks) (has_number k (k ∷ [])) (has-one k)

pub has-at : (ks : List ℕ) (i : ℕ) → i < length ks → has_number (get_or ks i 0) ks ≡ true
has-at [] i within = absurd (omega (arith, within))
has-at (k ∷ ks) zero within = or_left (k == k) (has_number k ks) (eq-eqb k k refl)
has-at (k ∷ ks) (suc i) within = or_right (get_or ks i 0 == k) (has_number (get_or ks i 0) ks) (has-at ks i (omega (arith, within)))

-- one more number was read
pub has-taken :
    (v : ℕ) (vs : List ℕ) (t : ℕ) → t < length vs → has_number v (take (t + 1) vs) ≡ true → (has_number v (take t vs) ≡ true) ⊎ (v ≡ get_or vs t 0)
has-taken v vs t within h = has-end-cases v (get_or vs t 0) (take t vs) (ap (has_number v) (sym (take_more vs t 0 within)) ∙ h)

-- a number that is there and passes
pub some-passes : (p : ℕ → Bool) (v : ℕ) (ks : List ℕ) → has_number v ks ≡ true → p v ≡ true → list_any p ks ≡ true
some-passes p v [] h passes = absurd (true≢false (sym h))
some-passes p v (k ∷ ks) h passes =
    ⊎_elim
    (λ e. or_left (p k) (list_any p ks) (ap p (sym (eqb-true v k e)) ∙ passes))
    (λ later. or_right (p k) (list_any p ks) (some-passes p v ks later passes))
    (or_cases (v == k) (has_number v ks) h)

pub passing : (p : ℕ → Bool) (ks : List ℕ) → list_any p ks ≡ true → (v : ℕ) × ((has_number v ks ≡ true) × (p v ≡ true))
passing p [] h = absurd (true≢false (sym h))
passing p (k ∷ ks) h =
    ⊎_elim
    (λ e. (k, (or_left (k == k) (has_number k ks) (eq-eqb k k refl), e)))
    (λ later. let rest = passing p ks later in (rest.0, (or_right (rest.0 == k) (has_number rest.0 ks) rest.1.0, rest.1.1)))
    (or_cases (p k) (list_any p ks) h)

-- each number passes
pub all-pass : (p : ℕ → Bool) (ks : List ℕ) → ((j : ℕ) → has_number j ks ≡ true → p j ≡ true) → list_all p ks ≡ true
all-pass p [] each = refl
all-pass p (k ∷ ks) each =
    and_from (p k) (list_all p ks)
    (each k (or_left (k == k) (has_number k ks) (eq-eqb k k refl)))
    (all-pass p ks (λ j h. each j (or_right (j == k) (has_number j ks) h)))

-- ---- the variables at a place

pub variables_at-there : (ls : List TreeLiteral) (j : ℕ) (l : TreeLiteral) → slice_get ls j ≡ Some l → variables_at ls j ≡ literal_variables l
variables_at-there ls j l there =
    ap (λ (o : Option TreeLiteral). flat_map literal_variables (filter_map (λ (i : ℕ). o) (j ∷ []))) there ∙ append-nil (literal_variables l)

pub variables_at-read :
    (xs : List Literal) (place : ℕ) (x : Literal)
    → place < length xs → x ≡ get_or xs place x → variables_at (map literal_of xs) place ≡ literal_variables (literal_of x)
variables_at-read xs place x within read =
    variables_at-there (map literal_of xs) place (literal_of x)
    (slice_get-map literal_of xs place ∙ ap (option_map literal_of) (slice_get_read xs (length xs) place x refl within read))

-- there are none past the end
pub variables_at-within : (ls : List TreeLiteral) (v j : ℕ) → has_number v (variables_at ls j) ≡ true → j < length ls
variables_at-within ls v j h =
    ⊎_elim
    (λ below. below)
    (λ past.
    absurd (true≢false
    (sym h
    ∙ ap (λ (o : Option TreeLiteral). has_number v (flat_map literal_variables (filter_map (λ (i : ℕ). o) (j ∷ [])))) (slice_get_past ls j past))))
    (cases_lt j (length ls))

-- a property that follows variables is the same where a variable is in both literals
pub follows-variable :
    (ls : List TreeLiteral) (f : ℕ → Bool) (v i j : ℕ)
    → FollowsVariables ls f → has_number v (variables_at ls i) ≡ true → has_number v (variables_at ls j) ≡ true → f i ≡ f j
follows-variable ls f v i j follows one other =
    follows i j (some-passes (λ w. has_number w (variables_at ls j)) v (variables_at ls i) one other)

-- the variables of literals at places are those of the first, and those of the others
places-first :
    (ls : List TreeLiteral) (k : ℕ) (ks : List ℕ)
    → flat_map literal_variables (literals_at ls (k ∷ ks)) ≡ variables_at ls k ++ flat_map literal_variables (literals_at ls ks)
places-first ls k ks = by (slice_get ls k)
  where
    by :
        (o : Option TreeLiteral)
        → flat_map literal_variables (cons_option o (literals_at ls ks))
        ≡ flat_map literal_variables (cons_option o []) ++ flat_map literal_variables (literals_at ls ks)
    by None = refl
    by (Some l) = ap (λ vs. vs ++ flat_map literal_variables (literals_at ls ks)) (sym (append-nil (literal_variables l)))

places-cases :
    (ls : List TreeLiteral) (v k : ℕ) (ks : List ℕ)
    → has_number v (flat_map literal_variables (literals_at ls (k ∷ ks)))
    ≡ (has_number v (variables_at ls k) || has_number v (flat_map literal_variables (literals_at ls ks)))
places-cases ls v k ks =
    ap (has_number v) (places-first ls k ks) ∙ list_any-append (λ w. v == w) (variables_at ls k) (flat_map literal_variables (literals_at ls ks))

-- a variable of literals at places is one of the literal at some of them
pub has-at_places :
    (ls : List TreeLiteral) (v : ℕ) (ks : List ℕ)
    → has_number v (flat_map literal_variables (literals_at ls ks)) ≡ true → (i : ℕ) × ((has_number i ks ≡ true) × (has_number v (variables_at ls i) ≡ true))
has-at_places ls v [] h = absurd (true≢false (sym h))
has-at_places ls v (k ∷ ks) h =
    ⊎_elim
    (λ here. (k, (or_left (k == k) (has_number k ks) (eq-eqb k k refl), here)))
    (λ there. let later = has-at_places ls v ks there in (later.0, (or_right (later.0 == k) (has_number later.0 ks) later.1.0, later.1.1)))
    (or_cases (has_number v (variables_at ls k)) (has_number v (flat_map literal_variables (literals_at ls ks))) (sym (places-cases ls v k ks) ∙ h))

-- and the other way round
pub has-in_places :
    (ls : List TreeLiteral) (v i : ℕ) (ks : List ℕ)
    → has_number i ks ≡ true → has_number v (variables_at ls i) ≡ true → has_number v (flat_map literal_variables (literals_at ls ks)) ≡ true
has-in_places ls v i [] h its = absurd (true≢false (sym h))
has-in_places ls v i (k ∷ ks) h its =
    places-cases ls v k ks
    ∙ ⊎_elim
    (λ here.
    or_left (has_number v (variables_at ls k)) (has_number v (flat_map literal_variables (literals_at ls ks)))
    (ap (λ j. has_number v (variables_at ls j)) (sym (eqb-true i k here)) ∙ its))
    (λ later.
    or_right (has_number v (variables_at ls k)) (has_number v (flat_map literal_variables (literals_at ls ks))) (has-in_places ls v i ks later its))
    (or_cases (i == k) (has_number i ks) h)
