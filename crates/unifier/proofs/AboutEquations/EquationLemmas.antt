-- Equations, as one is added.
use Rattle.std.proofs.Common.{◌≡◌, ℕ, Bool, true, ◌&&◌, ◌||◌, ◌==◌, suc, ◌+◌, min, ◌<◌, arith, drop, drop-cons, get_or, None, Some, List, [], ◌∷◌, ◌++◌, length, map, take, refl, ap, sym, ◌∙◌, subst, ⊎_elim, eq-eqb}
use Rattle.std.proofs.lemmas.Bool.{and_parts, and_from, cond-true, cond-false, cases_Bool, eqb-true, true≢false}
use Rattle.std.specs.List.{list_all, list_any}
use Rattle.std.proofs.lemmas.List.{take_more_set}
use Rattle.std.proofs.lemmas.List.Folds.{list_all-append}
use Rattle.std.proofs.Math.Bool.{and-true}
use Rattle.std.proofs.Math.ListN.{set}
use Rattle.unifier.specs.declared.equation.Equation.{Equation}
use Rattle.unifier.specs.declared.equation.Equations.{Equations}
use Rattle.unifier.specs.Equations.{Item, item_of, bound_to, equations_of, bound_in, noted_of, IsWithEquation, IsWithNoted}

added-here : (w : ℕ) (es : List Equation) (e : Equation) → bound_to w es ≡ None → e.code ≡ w → bound_to w (es ++ e ∷ []) ≡ Some (item_of e.bound)
added-here w [] e none is = cond-true (w == e.code) (Some (item_of e.bound)) None (eq-eqb w e.code (sym is))
added-here w (d ∷ es) e none is =
    ⊎_elim
    (λ same.
    let wrong : Some (item_of d.bound) ≡ None = sym (cond-true (w == d.code) (Some (item_of d.bound)) (bound_to w es) same) ∙ none in absurd cc)
    (λ other.
    cond-false (w == d.code) (Some (item_of d.bound)) (bound_to w (es ++ e ∷ [])) other
    ∙ added-here w es e (sym (cond-false (w == d.code) (Some (item_of d.bound)) (bound_to w es) other) ∙ none) is)
    (cases_Bool (w == d.code))

added-other : (u w : ℕ) (es : List Equation) (e : Equation) → (u ≡ w → ⊥) → e.code ≡ w → bound_to u (es ++ e ∷ []) ≡ bound_to u es
added-other u w [] e differs is =
    ⊎_elim (λ same. absurd (differs (eqb-true u e.code same ∙ is))) (λ other. cond-false (u == e.code) (Some (item_of e.bound)) None other) (cases_Bool (u == e.code))
added-other u w (d ∷ es) e differs is =
    ⊎_elim
    (λ same.
    cond-true (u == d.code) (Some (item_of d.bound)) (bound_to u (es ++ e ∷ [])) same
    ∙ sym (cond-true (u == d.code) (Some (item_of d.bound)) (bound_to u es) same))
    (λ other.
    cond-false (u == d.code) (Some (item_of d.bound)) (bound_to u (es ++ e ∷ [])) other
    ∙ added-other u w es e differs is
    ∙ sym (cond-false (u == d.code) (Some (item_of d.bound)) (bound_to u es) other))
    (cases_Bool (u == d.code))

-- the array after a store
pub stored :
    {X : Type 0} (items : List X) (most n : ℕ) (e : X)
    → n < most → length items ≡ most → take (min (n + 1) most) (set items n e) ≡ take (min n most) items ++ e ∷ []
stored items most n e less full =
    let after : min (n + 1) most ≡ n + 1 = omega arith in
    let before : min n most ≡ n = omega arith in
    ap (λ k. take k (set items n e)) after ∙ take_more_set items n e (omega arith) ∙ ap (λ k. take k items ++ e ∷ []) (sym before)

-- the equation that a search has come to
pub here-found :
    (w : ℕ) (es : List Equation) (i : ℕ) (e : Equation)
    → i < length es → e ≡ get_or es i e → e.code ≡ w → bound_to w (drop i es) ≡ bound_to w es → Some (item_of e.bound) ≡ bound_to w es
here-found w es i e less is code h =
    sym (cond-true (w == e.code) (Some (item_of e.bound)) (bound_to w (drop (suc i) es)) (eq-eqb w e.code (sym code)))
    ∙ ap (λ (d : Equation). bound_to w (d ∷ drop (suc i) es)) is
    ∙ sym (ap (bound_to w) (drop-cons es i e less))
    ∙ h

-- as the code has it
pub added :
    (old new : Equations) (w : ℕ) (e : Equation)
    → equations_of new ≡ equations_of old ++ e ∷ [] → noted_of new ≡ noted_of old → bound_in old w ≡ None → e.code ≡ w
    → IsWithEquation old new w (item_of e.bound)
added old new w e is noted none code = record {
  noted = noted;
  here = ap (bound_to w) is ∙ added-here w (equations_of old) e none code;
  others = λ u differs. ap (bound_to u) is ∙ added-other u w (equations_of old) e differs code;
}

-- ---- what is bound afterwards

-- a variable that was bound is bound to the same
pub still-bound :
    (old new : Equations) (w u : ℕ) (a b : Item)
    → IsWithEquation old new w a → bound_in old w ≡ None → bound_in old u ≡ Some b → bound_in new u ≡ Some b
still-bound old new w u a b h none found =
    h.others u (λ same. let wrong : None ≡ Some b = sym none ∙ ap (bound_in old) (sym same) ∙ found in cc) ∙ found

-- one that is bound is the new one, or was bound
pub either-bound :
    (old new : Equations) (w u : ℕ) (a b : Item) (P : ℕ → Item → Type 0)
    → IsWithEquation old new w a → bound_in new u ≡ Some b → P w a → (bound_in old u ≡ Some b → P u b) → P u b
either-bound old new w u a b P h found here before =
    ⊎_elim
    (λ same.
    let u_is : u ≡ w = eqb-true u w same in
    let both : Some a ≡ Some b = sym h.here ∙ ap (bound_in new) (sym u_is) ∙ found in
    let item_is : a ≡ b = cc in
    let Q : ℕ → Type 0 = λ v. P v b in
    subst Q (sym u_is) (subst (P w) item_is here))
    (λ other. before (sym (h.others u (λ e. true≢false (sym (eq-eqb u w e) ∙ other))) ∙ found))
    (cases_Bool (u == w))

-- ---- variables that are noted

member-passes :
    (test : ℕ → Bool) (w : ℕ) (vs : List ℕ) → list_any (λ v. v == w) vs ≡ true → list_all test vs ≡ true → test w ≡ true
member-passes test w [] some all = cc
member-passes test w (v ∷ vs) some all =
    let both = and_parts (test v) (list_all test vs) all in
    ⊎_elim
    (λ same. sym (ap test (eqb-true v w same)) ∙ both.0)
    (λ other. member-passes test w vs (sym (ap (λ b. b || list_any (λ u. u == w) vs) other) ∙ some) both.1)
    (cases_Bool (v == w))

all-but-noted : (test : ℕ → Bool) (w : ℕ) (vs : List ℕ) → list_any (λ v. v == w) vs ≡ true → list_all test vs ≡ (list_all test vs && test w)
all-but-noted test w vs some =
    ⊎_elim
    (λ all. all ∙ sym (and_from (list_all test vs) (test w) all (member-passes test w vs some all)))
    (λ fails. fails ∙ sym (ap (λ b. b && test w) fails))
    (cases_Bool (list_all test vs))

-- one that is noted already
pub noted-already : (es : Equations) (w : ℕ) → list_any (λ v. v == w) (noted_of es) ≡ true → IsWithNoted es es w
noted-already es w some = record { equations = λ u. refl; noted = λ test. all-but-noted test w (noted_of es) some }

pub all-push : (test : ℕ → Bool) (vs : List ℕ) (w : ℕ) → list_all test (vs ++ w ∷ []) ≡ (list_all test vs && test w)
all-push test vs w = list_all-append test vs (w ∷ []) ∙ ap (λ b. list_all test vs && b) (and-true (test w))

-- another one
pub noted-more :
    (old new : Equations) (w : ℕ)
    → ((u : ℕ) → bound_in new u ≡ bound_in old u) → noted_of new ≡ noted_of old ++ w ∷ [] → IsWithNoted old new w
noted-more old new w same is = record { equations = same; noted = λ test. ap (list_all test) is ∙ all-push test (noted_of old) w }

-- ---- the variables of the equations

-- what each bound variable passes, each of them does
pub codes-pass :
    (test : ℕ → Bool) (es : List Equation)
    → ((w : ℕ) (a : Item) → bound_to w es ≡ Some a → test w ≡ true) → list_all test (map (λ (e : Equation). e.code) es) ≡ true
codes-pass test [] h = refl
codes-pass test (d ∷ es) h =
    let first : test d.code ≡ true =
    h d.code (item_of d.bound) (cond-true (d.code == d.code) (Some (item_of d.bound)) (bound_to d.code es) (eq-eqb d.code d.code refl)) in
    and_from (test d.code) (list_all test (map (λ (e : Equation). e.code) es)) first
    (codes-pass test es
    (λ w a found.
    ⊎_elim
    (λ same. ap test (eqb-true w d.code same) ∙ first)
    (λ other. h w a (cond-false (w == d.code) (Some (item_of d.bound)) (bound_to w es) other ∙ found))
    (cases_Bool (w == d.code))))

-- and the other way round
pub bound-passes :
    (test : ℕ → Bool) (es : List Equation) (w : ℕ) (a : Item)
    → list_all test (map (λ (e : Equation). e.code) es) ≡ true → bound_to w es ≡ Some a → test w ≡ true
bound-passes test [] w a all found = cc
bound-passes test (d ∷ es) w a all found =
    let both = and_parts (test d.code) (list_all test (map (λ (e : Equation). e.code) es)) all in
    ⊎_elim
    (λ same. ap test (eqb-true w d.code same) ∙ both.0)
    (λ other. bound-passes test es w a both.1 (sym (cond-false (w == d.code) (Some (item_of d.bound)) (bound_to w es) other) ∙ found))
    (cases_Bool (w == d.code))
