-- Variables are read by their first places: the names X0, X1 .. are numbered by first occurrence.
use Rattle.std.proofs.Common.{◌≡◌, ℕ, suc, ◌+◌, Bool, true, false, not, ◌||◌, ◌==◌, List, [], ◌∷◌, ◌++◌, map, Option, None, Some, refl, ap, sym, ◌∙◌, subst, arith}
use Rattle.std.specs.Prelude.{filter, option_map, unwrap_or, is_some, bytes_eq, if◌then◌else◌}
use Rattle.std.specs.List.{AllByRecursion}
use Rattle.std.proofs.lemmas.Bool.{eqb-true, eq-eqb, ne_eqb, true≢false, false≢true, false_from_ne_true}
use Rattle.std.proofs.lemmas.Fmt.{decimal_injective}
use Rattle.fol_base.specs.Tree.{variable}
use Rattle.fol_base.specs.Instance.{Substitution}
use Rattle.fol_base.specs.Canonical.{distinct, place_of, renaming}
use Rattle.fol_base.proofs.AboutCanonical.NumberingLemmas.{all_met, with_variables-have}
use Rattle.signature.specs.Environment.{Environment, term_in_force, without_names, different_names}
use Rattle.clausal_form.specs.DerivationClause.{numbered_from}
use Rattle.tstp_writer.specs.ClauseTrees.{variable_name}
use Rattle.tstp_writer.specs.ReadableLines.{Fits}
use Rattle.tstp_writer.proofs.ReadAgain.SameLemmas.{bytes-same, bytes-self}
use Rattle.tstp_writer.proofs.AboutPrinted.PlaceLemmas.{all-passing}

-- ---- lists

pub all-front : {X : Type 0} (P : X → Type 0) (xs ys : List X) → AllByRecursion P (xs ++ ys) → AllByRecursion P xs
all-front P [] ys all = tt
all-front P (x ∷ xs) ys all = (all.0, all-front P xs ys all.1)

pub all-back : {X : Type 0} (P : X → Type 0) (xs ys : List X) → AllByRecursion P (xs ++ ys) → AllByRecursion P ys
all-back P [] ys all = all
all-back P (x ∷ xs) ys all = all-back P xs ys all.1

all-distinct : (P : ℕ → Type 0) (vs : List ℕ) → AllByRecursion P vs → AllByRecursion P (distinct vs)
all-distinct P [] all = tt
all-distinct P (v ∷ vs) all = (all.0, all-passing P (λ w. not (w == v)) (distinct vs) (all-distinct P vs all.1))

-- ---- names

abbrev behind : List ℕ → List ℕ
behind [] = []
behind (b ∷ bs) = bs

eqb-turned : (v w : ℕ) → (v == w) ≡ (w == v)
eqb-turned v w = by (v == w) refl
  where
    by : (t : Bool) → (v == w) ≡ t → t ≡ (w == v)
    by true e = sym (eq-eqb w v (sym (eqb-true v w e)))
    by false e = sym (ne_eqb w v (λ same. true≢false (sym (eq-eqb v w (sym same)) ∙ e)))

is_some-map : (o : Option ℕ) → is_some (option_map suc o) ≡ is_some o
is_some-map None = refl
is_some-map (Some k) = refl

names-apart : (v w : ℕ) → Fits v → Fits w → bytes_eq (variable_name v) (variable_name w) ≡ (v == w)
names-apart v w v_fits w_fits = by (v == w) refl
  where
    by : (t : Bool) → (v == w) ≡ t → bytes_eq (variable_name v) (variable_name w) ≡ t
    by true e = ap (λ u. bytes_eq (variable_name v) (variable_name u)) (sym (eqb-true v w e)) ∙ bytes-self (variable_name v)
    by false e =
        false_from_ne_true (bytes_eq (variable_name v) (variable_name w)) λ same.
        true≢false
        (sym (eq-eqb v w (decimal_injective v w v_fits w_fits (ap behind (bytes-same (variable_name v) (variable_name w) same)))) ∙ e)

without-name :
    (v : ℕ) (ws : List ℕ) → Fits v → AllByRecursion Fits ws
    → without_names (variable_name v ∷ []) (map variable_name ws) ≡ map variable_name (filter (λ w. not (w == v)) ws)
without-name v [] fits all = refl
without-name v (w ∷ ws) fits all =
    ap (λ t. if not (t || false) then variable_name w ∷ named else named) (names-apart w v all.0 fits)
    ∙ by (w == v) (without-name v ws fits all.1)
  where
    named : List (List ℕ)
    named = without_names (variable_name v ∷ []) (map variable_name ws)

    others : List ℕ
    others = filter (λ u. not (u == v)) ws

    by :
        (t : Bool) → named ≡ map variable_name others
        → (if not (t || false) then variable_name w ∷ named else named) ≡ map variable_name (if not t then w ∷ others else others)
    by true same = same
    by false same = ap (λ ns. variable_name w ∷ ns) same

different-named : (vs : List ℕ) → AllByRecursion Fits vs → different_names (map variable_name vs) ≡ map variable_name (distinct vs)
different-named [] all = refl
different-named (v ∷ vs) all =
    ap (λ ns. variable_name v ∷ without_names (variable_name v ∷ []) ns) (different-named vs all.1)
    ∙ ap (λ ns. variable_name v ∷ ns) (without-name v (distinct vs) all.0 (all-distinct Fits vs all.1))

-- ---- variables as they are read

-- the variable's name stands for what a substitution puts in
abbrev pub IsReadBy : Environment → Substitution → ℕ → Type 0
IsReadBy environment σ v = term_in_force environment (variable_name v) ≡ σ v

abbrev pub AreReadBy : Environment → Substitution → List ℕ → Type 0
AreReadBy environment σ vs = AllByRecursion (IsReadBy environment σ) vs

later-place : (n : ℕ) (o : Option ℕ) → is_some o ≡ true → n + 1 + unwrap_or o 0 ≡ n + unwrap_or (option_map suc o) 0
later-place n None has = absurd (false≢true has)
later-place n (Some k) has = omega arith

-- a name that is numbered stands for the variable with its place
numbered-there :
    (n : ℕ) (ws : List ℕ) (v : ℕ) → Fits v → AllByRecursion Fits ws → is_some (place_of v ws) ≡ true
    → term_in_force (numbered_from n (map variable_name ws)) (variable_name v) ≡ variable (n + unwrap_or (place_of v ws) 0)
numbered-there n [] v fits all has = absurd (false≢true has)
numbered-there n (w ∷ ws) v fits all has =
    ap (λ t. if t then variable n else term_in_force rest (variable_name v)) (names-apart w v all.0 fits ∙ eqb-turned w v)
    ∙ by (v == w) (numbered-there (n + 1) ws v fits all.1) has
  where
    rest : Environment
    rest = numbered_from (n + 1) (map variable_name ws)

    by :
        (t : Bool)
        → (is_some (place_of v ws) ≡ true → term_in_force rest (variable_name v) ≡ variable (n + 1 + unwrap_or (place_of v ws) 0))
        → is_some (if t then Some 0 else option_map suc (place_of v ws)) ≡ true
        → (if t then variable n else term_in_force rest (variable_name v))
        ≡ variable (n + unwrap_or (if t then Some 0 else option_map suc (place_of v ws)) 0)
    by true later h = let e : n ≡ n + 0 = omega arith in ap variable e
    by false later h =
        let found : is_some (place_of v ws) ≡ true = sym (is_some-map (place_of v ws)) ∙ h in
        later found ∙ ap variable (later-place n (place_of v ws) found)

one-read :
    (order : List ℕ) (v : ℕ) → Fits v → AllByRecursion Fits order → is_some (place_of v order) ≡ true
    → IsReadBy (numbered_from 0 (map variable_name order)) (renaming order) v
one-read order v fits all has = numbered-there 0 order v fits all has ∙ ap variable (by (place_of v order) has)
  where
    by : (o : Option ℕ) → is_some o ≡ true → 0 + unwrap_or o 0 ≡ unwrap_or o v
    by None h = absurd (false≢true h)
    by (Some k) h = omega arith

all-read :
    (order vs : List ℕ) → AllByRecursion Fits order → AllByRecursion Fits vs → AllByRecursion (λ v. is_some (place_of v order) ≡ true) vs
    → AreReadBy (numbered_from 0 (map variable_name order)) (renaming order) vs
all-read order [] fit all have = tt
all-read order (v ∷ vs) fit all have = (one-read order v all.0 fit have.0, all-read order vs fit all.1 have.1)

-- variables are read by their first places
pub read-by-places :
    (vs : List ℕ) → AllByRecursion Fits vs → AreReadBy (numbered_from 0 (different_names (map variable_name vs))) (renaming (distinct vs)) vs
read-by-places vs all =
    subst (λ names. AreReadBy (numbered_from 0 names) (renaming (distinct vs)) vs) (sym (different-named vs all))
    (all-read (distinct vs) vs (all-distinct Fits vs all) all
    (subst (λ order. AllByRecursion (λ v. is_some (place_of v order) ≡ true) vs) (all_met vs) (with_variables-have [] vs)))
