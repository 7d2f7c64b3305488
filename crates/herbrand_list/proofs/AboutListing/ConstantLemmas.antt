-- The first constant of a list of symbols.
use Rattle.std.proofs.Common.{◌≡◌, ℕ, suc, ◌+◌, Bool, true, false, not, ◌&&◌, ◌==◌, List, [], ◌∷◌, drop, Some, if◌then◌else◌, refl, sym, ap, ◌∙◌, arith}
use Rattle.std.specs.Prelude.{slice_get}
use Rattle.std.proofs.lemmas.Bool.{true≢false}
use Rattle.std.proofs.lemmas.Option.{get_or_from_slice_get, slice_get_within}
use Rattle.list_lemmas.proofs.Places.{drop-item}
use Rattle.fol_base.specs.Tree.{application, no_trees}
use Rattle.signature.specs.declared.symbol.Symbol.{Symbol}
use Rattle.signature.specs.Symbol.{is_predicate_kind}
use Rattle.signature.specs.Form.{is_constant}
use Rattle.clausal_form.specs.FormFunctions.{functions_from, functions_of}
use Rattle.herbrand_list.specs.GroundList.{first_constant}
use Rattle.herbrand_list.specs.Worked.{constant_tree}

-- a symbol that is no constant is passed over
skip : (n : ℕ) (s : Symbol) (ss : List Symbol) → is_constant s ≡ false → first_constant (functions_from n (s ∷ ss)) ≡ first_constant (functions_from (suc n) ss)
skip n s ss = by (is_predicate_kind s.kind)
  where
    by :
        (b : Bool) → (not b && (s.arity == 0)) ≡ false
        → first_constant (if b then functions_from (suc n) ss else record { number = n; arity = s.arity } ∷ functions_from (suc n) ss)
        ≡ first_constant (functions_from (suc n) ss)
    by true h = refl
    by false h = ap (λ z. if z then application n no_trees else first_constant (functions_from (suc n) ss)) h

-- a constant is the first
here : (n : ℕ) (s : Symbol) (ss : List Symbol) → is_constant s ≡ true → first_constant (functions_from n (s ∷ ss)) ≡ application n no_trees
here n s ss = by (is_predicate_kind s.kind)
  where
    by :
        (b : Bool) → (not b && (s.arity == 0)) ≡ true
        → first_constant (if b then functions_from (suc n) ss else record { number = n; arity = s.arity } ∷ functions_from (suc n) ss)
        ≡ application n no_trees
    by true h = absurd (true≢false (sym h))
    by false h = ap (λ z. if z then application n no_trees else first_constant (functions_from (suc n) ss)) h

pub from-start : (symbols : List Symbol) → first_constant (functions_from 0 (drop 0 symbols)) ≡ first_constant (functions_of symbols)
from-start [] = refl
from-start (s ∷ ss) = refl

front : (symbols : List Symbol) (n : ℕ) (s : Symbol) → slice_get symbols n ≡ Some s → drop n symbols ≡ s ∷ drop (n + 1) symbols
front symbols n s there = drop-item symbols n s (slice_get_within symbols n s there) (sym (get_or_from_slice_get symbols n s s there))

pub passed :
    (symbols : List Symbol) (n : ℕ) (s : Symbol) → slice_get symbols n ≡ Some s → is_constant s ≡ false
    → first_constant (functions_from n (drop n symbols)) ≡ first_constant (functions_of symbols)
    → first_constant (functions_from (n + 1) (drop (n + 1) symbols)) ≡ first_constant (functions_of symbols)
passed symbols n s there is before =
    let next : n + 1 ≡ suc n = omega arith in
    ap (λ k. first_constant (functions_from k (drop (n + 1) symbols))) next
    ∙ sym (skip n s (drop (n + 1) symbols) is)
    ∙ ap (λ ys. first_constant (functions_from n ys)) (sym (front symbols n s there))
    ∙ before

pub stopped :
    (symbols : List Symbol) (n : ℕ) (s : Symbol) → slice_get symbols n ≡ Some s → is_constant s ≡ true
    → first_constant (functions_from n (drop n symbols)) ≡ first_constant (functions_of symbols)
    → constant_tree n ≡ first_constant (functions_of symbols)
stopped symbols n s there is before =
    sym (here n s (drop (n + 1) symbols) is) ∙ ap (λ ys. first_constant (functions_from n ys)) (sym (front symbols n s there)) ∙ before
