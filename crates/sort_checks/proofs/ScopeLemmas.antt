-- The variables in force.
use Rattle.std.proofs.Common.{◌≡◌, ℕ, suc, ◌+◌, ◌-◌, ◌<◌, ◌≤◌, Bool, true, false, List, [], ◌∷◌, ◌++◌, length, map, take, drop, get_or, if◌then◌else◌, ⊎_elim, refl, ap, ap₂, sym, ◌∙◌, arith}
use Rattle.std.specs.Prelude.{bytes_eq}
use denote.Ref.{Bor}
use Rattle.std.proofs.lemmas.Bool.{cases_lt}
use Rattle.std.proofs.lemmas.List.{take_all, take_more, drop-drop, length-drop, take-append-drop}
use Rattle.list_lemmas.proofs.Places.{drop-item}
use Rattle.typed_tree.specs.declared.sort.TypedVar.{TypedVar}
use Rattle.typed_tree.specs.Shape.{variable_of}
use Rattle.typed_tree.specs.TypedFormula.{TypedVariable}
use Rattle.typed_problem.specs.SortFaults.{Sorting, sort_in_force, inside}
use Rattle.sort_checks.specs.Scopes.{put_before, innermost_first}

pub put-joined : (vs : Sorting) (xs ys : List (Bor TypedVar)) → put_before vs (xs ++ ys) ≡ put_before (put_before vs xs) ys
put-joined vs [] ys = refl
put-joined vs (x ∷ xs) ys = put-joined (variable_of x.now ∷ vs) xs ys

pub put-long : (vs : Sorting) (xs : List (Bor TypedVar)) → length (put_before vs xs) ≡ length xs + length vs
put-long vs [] = let e : length vs ≡ 0 + length vs = omega arith in e
put-long vs (x ∷ xs) = put-long (variable_of x.now ∷ vs) xs ∙ (let e : length xs + suc (length vs) ≡ suc (length xs) + length vs = omega arith in e)

-- the variables behind the first ones are the inner ones
drop-put : (vs : Sorting) (xs : List (Bor TypedVar)) → drop (length xs) (put_before vs xs) ≡ vs
drop-put vs [] = refl
drop-put vs (x ∷ xs) =
    ap (λ n. drop n (put_before (variable_of x.now ∷ vs) xs)) (let e : suc (length xs) ≡ length xs + 1 = omega arith in e)
    ∙ sym (drop-drop 1 (length xs) (put_before (variable_of x.now ∷ vs) xs)) ∙ ap (drop 1) (drop-put (variable_of x.now ∷ vs) xs)

innermost-taken :
    (xs : List (Bor TypedVar)) (n : ℕ) → n ≤ length xs → innermost_first (take n xs) ≡ drop (length (innermost_first xs) - n) (innermost_first xs)
innermost-taken xs n h =
    sym (drop-put (innermost_first (take n xs)) (drop n xs))
    ∙ ap₂ drop
    (length-drop n xs ∙ (let e : length xs - n ≡ length (innermost_first xs) - n = omega (arith, put-long [] xs) in e))
    (sym (put-joined [] (take n xs) (drop n xs)) ∙ ap innermost_first (take-append-drop n xs))

-- The outer ones are kept, however many there are.
pub outer-kept :
    (xs : List (Bor TypedVar)) (n : ℕ) → innermost_first (take n xs) ≡ drop (length (innermost_first xs) - n) (innermost_first xs)
outer-kept xs n = ⊎_elim (λ h. all h) (λ h. innermost-taken xs n h) (cases_lt (length xs) n)
  where
    all : length xs < n → innermost_first (take n xs) ≡ drop (length (innermost_first xs) - n) (innermost_first xs)
    all h =
        ap innermost_first (take_all n xs (omega (arith, h)))
        ∙ sym (ap (λ k. drop k (innermost_first xs)) (let e : length (innermost_first xs) - n ≡ 0 = omega (arith, h, put-long [] xs) in e))

-- the variables of a quantifier, from the first on
pub inside-more :
    (xs : List TypedVar) (i : ℕ) (x : TypedVar) (vs : Sorting) → i < length xs → x ≡ get_or xs i x
    → inside (map variable_of (drop (i + 1) xs)) (variable_of x ∷ vs) ≡ inside (map variable_of (drop i xs)) vs
inside-more xs i x vs l e = ap (λ ys. inside (map variable_of ys) vs) (sym (drop-item xs i x l e))

pub inside-long : (xs : List TypedVariable) (vs : Sorting) → length (inside xs vs) ≡ length xs + length vs
inside-long [] vs = let e : length vs ≡ 0 + length vs = omega arith in e
inside-long (x ∷ xs) vs = inside-long xs (x ∷ vs) ∙ (let e : length xs + suc (length vs) ≡ suc (length xs) + length vs = omega arith in e)

-- outside a quantifier the variables are as before
pub outside-again : (xs : List TypedVariable) (vs : Sorting) → drop (length (inside xs vs) - length vs) (inside xs vs) ≡ vs
outside-again xs vs = ap (λ n. drop n (inside xs vs)) (let e : length (inside xs vs) - length vs ≡ length xs = omega (arith, inside-long xs vs) in e) ∙ dropped xs vs
  where
    dropped : (ys : List TypedVariable) (ws : Sorting) → drop (length ys) (inside ys ws) ≡ ws
    dropped [] ws = refl
    dropped (y ∷ ys) ws =
        ap (λ n. drop n (inside ys (y ∷ ws))) (let e : suc (length ys) ≡ length ys + 1 = omega arith in e)
        ∙ sym (drop-drop 1 (length ys) (inside ys (y ∷ ws))) ∙ ap (drop 1) (dropped ys (y ∷ ws))

-- ---- looking up

-- a variable of another name is passed over, from the innermost on
pub passed-over :
    (xs : List (Bor TypedVar)) (k : ℕ) (x : Bor TypedVar) (name : List ℕ) → k < length xs → x ≡ get_or xs k x → bytes_eq x.now.name name ≡ false
    → sort_in_force (innermost_first (take (k + 1) xs)) name ≡ sort_in_force (innermost_first (take k xs)) name
passed-over xs k x name l e h =
    ap (λ ys. sort_in_force (innermost_first ys) name) (take_more xs k x l ∙ ap (λ y. take k xs ++ y ∷ []) (sym e))
    ∙ ap (λ vs. sort_in_force vs name) (put-joined [] (take k xs) (x ∷ []))
    ∙ ap (λ (b : Bool). if b then (variable_of x.now).sort else sort_in_force (innermost_first (take k xs)) name) h

pub met-there :
    (xs : List (Bor TypedVar)) (k : ℕ) (x : Bor TypedVar) (name : List ℕ) → k < length xs → x ≡ get_or xs k x → bytes_eq x.now.name name ≡ true
    → sort_in_force (innermost_first (take (k + 1) xs)) name ≡ (variable_of x.now).sort
met-there xs k x name l e h =
    ap (λ ys. sort_in_force (innermost_first ys) name) (take_more xs k x l ∙ ap (λ y. take k xs ++ y ∷ []) (sym e))
    ∙ ap (λ vs. sort_in_force vs name) (put-joined [] (take k xs) (x ∷ []))
    ∙ ap (λ (b : Bool). if b then (variable_of x.now).sort else sort_in_force (innermost_first (take k xs)) name) h

pub scope-again :
    (xs : List TypedVariable) (vs ws new : Sorting) (n : ℕ) → ws ≡ inside xs vs → n ≡ length vs → new ≡ drop (length ws - n) ws → new ≡ vs
scope-again xs vs ws new n e g h = h ∙ ap₂ (λ (us : Sorting) (k : ℕ). drop (length us - k) us) e g ∙ outside-again xs vs
