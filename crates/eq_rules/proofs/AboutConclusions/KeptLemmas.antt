-- Numbers that were given stay, whatever variables are met after.
use Rattle.std.proofs.Common.{◌≡◌, ℕ, List, [], ◌∷◌, ◌++◌, length, take, Result, Ok, Err, refl, ap, ap₂, subst, sym, ⊎_elim}
use Rattle.std.specs.Prelude.{if◌then◌else◌, OnErr}
use Rattle.std.proofs.lemmas.Bool.{cases_Bool}
use Rattle.std.specs.Option.{is_some}
use Rattle.fol_base.specs.Canonical.{place_of}
use Rattle.fol_base.specs.Numbering.{with_variable, with_variables}
use Rattle.eq_rules.specs.Renumbered.{KeepsNumbers}

pub keeps-same : (order : List ℕ) → KeepsNumbers order order
keeps-same [] = refl
keeps-same (x ∷ xs) = ap (λ (zs : List ℕ). x ∷ zs) (keeps-same xs)

keeps-more : (order more : List ℕ) → KeepsNumbers order (order ++ more)
keeps-more [] more = refl
keeps-more (x ∷ xs) more = ap (λ (zs : List ℕ). x ∷ zs) (keeps-more xs more)

pub keeps-trans : (xs ys zs : List ℕ) → KeepsNumbers xs ys → KeepsNumbers ys zs → KeepsNumbers xs zs
keeps-trans [] ys zs h k = refl
keeps-trans (x ∷ xs) [] zs h k = absurd cc
keeps-trans (x ∷ xs) (y ∷ ys) [] h k = absurd cc
keeps-trans (x ∷ xs) (y ∷ ys) (z ∷ zs) h k =
    let first : z ≡ x = cc in
    let front : take (length xs) ys ≡ xs = cc in
    let more : take (length ys) zs ≡ ys = cc in
    ap₂ (λ (n : ℕ) (ns : List ℕ). n ∷ ns) first (keeps-trans xs ys zs front more)

keeps-one : (order : List ℕ) (v : ℕ) → KeepsNumbers order (with_variable order v)
keeps-one order v =
    ⊎_elim
    (λ e. subst (KeepsNumbers order) (sym (ap (λ b. if b then order else order ++ v ∷ []) e)) (keeps-same order))
    (λ e. subst (KeepsNumbers order) (sym (ap (λ b. if b then order else order ++ v ∷ []) e)) (keeps-more order (v ∷ [])))
    (cases_Bool (is_some (place_of v order)))

pub keeps-met : (order vs : List ℕ) → KeepsNumbers order (with_variables order vs)
keeps-met order [] = keeps-same order
keeps-met order (v ∷ vs) =
    keeps-trans order (with_variable order v) (with_variables order (v ∷ vs)) (keeps-one order v) (keeps-met (with_variable order v) vs)

-- variables were met, and then some more may have been
pub keeps-after : (order vs met new : List ℕ) → met ≡ with_variables order vs → KeepsNumbers met new → KeepsNumbers order new
keeps-after order vs met new is kept =
    keeps-trans order met new (subst (KeepsNumbers order) (sym is) (keeps-met order vs)) kept

pub keeps-unchanged : (order new : List ℕ) → new ≡ order → KeepsNumbers order new
keeps-unchanged order new is = subst (KeepsNumbers order) (sym is) (keeps-same order)

-- the same of a call after those
pub kept-after :
    {X E : Type 0} (r : Result X E) (order vs met new : List ℕ)
    → met ≡ with_variables order vs → OnErr r (KeepsNumbers met new) → OnErr r (KeepsNumbers order new)
kept-after (Ok x) order vs met new is h = tt
kept-after (Err e) order vs met new is h = keeps-after order vs met new is h
