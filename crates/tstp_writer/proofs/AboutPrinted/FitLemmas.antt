-- Numbers of machine words can be read again.
use Rattle.std.proofs.Common.{◌≡◌, ℕ, ◌+◌, ◌≤◌, ◌^◌, List, [], ◌∷◌, ◌++◌, zero, suc, take, length, refl, ap, sym, subst, arith}
use Rattle.std.specs.Prelude.{flat_map, slice_get, Some}
use Rattle.std.specs.List.{AllByRecursion}
use Rattle.std.proofs.lemmas.Grind.{flat_map-append}
use Rattle.fol_base.specs.Tree.{Tree, trees_of, tree_variables, trees_variables}
use Rattle.fol_base.specs.Clause.{TreeClause, clause_variables}
use Rattle.fol_base.specs.Canonical.{bound_of}
use Rattle.kernel_steps.specs.declared.step.Step.{Step}
use Rattle.kernel_steps.proofs.AboutCalls.LoopLemmas.{take_more_there}
use Rattle.tstp_writer.specs.ReadableLines.{Fits, bound_by, line_variables}

fits-below : (vs : List ℕ) → bound_of vs ≤ 2 ^ 32 → AllByRecursion Fits vs
fits-below [] low = tt
fits-below (v ∷ vs) low = (omega (arith, low), fits-below vs (omega (arith, low)))

fits-append : (vs ws : List ℕ) → AllByRecursion Fits vs → AllByRecursion Fits ws → AllByRecursion Fits (vs ++ ws)
fits-append [] ws one other = other
fits-append (v ∷ vs) ws one other = (one.0, fits-append vs ws one.1 other)

fits-parts : (vs ws : List ℕ) → AllByRecursion Fits (vs ++ ws) → AllByRecursion Fits vs × AllByRecursion Fits ws
fits-parts [] ws all = (tt, all)
fits-parts (v ∷ vs) ws all = let rest = fits-parts vs ws all.1 in ((all.0, rest.0), rest.1)

variables-of : (ts : List Tree) → flat_map tree_variables ts ≡ trees_variables (trees_of ts)
variables-of [] = refl
variables-of (t ∷ ts) = ap (λ vs. tree_variables t ++ vs) (variables-of ts)

variables-append : (ts us : List Tree) → AllByRecursion Fits (flat_map tree_variables ts) → AllByRecursion Fits (flat_map tree_variables us) → AllByRecursion Fits (flat_map tree_variables (ts ++ us))
variables-append [] us one other = other
variables-append (t ∷ ts) us one other =
    let parts = fits-parts (tree_variables t) (flat_map tree_variables ts) one in
    fits-append (tree_variables t) (flat_map tree_variables (ts ++ us)) parts.0 (variables-append ts us parts.1 other)

terms-fit : (ts : List Tree) (bound : ℕ) → bound ≡ bound_of (trees_variables (trees_of ts)) → bound ≤ 2 ^ 32 → AllByRecursion Fits (flat_map tree_variables ts)
terms-fit ts bound is low = subst (AllByRecursion Fits) (sym (variables-of ts)) (fits-below (trees_variables (trees_of ts)) (omega (arith, is, low)))

-- what one binding has
pub one-fits :
    (ts : List Tree) (bound : ℕ) → bound ≡ bound_of (trees_variables (trees_of ts)) → bound ≤ 2 ^ 32
    → AllByRecursion Fits (flat_map tree_variables (flat_map (λ us. us) (ts ∷ [])))
one-fits ts bound is low = variables-append ts [] (terms-fit ts bound is low) tt

-- what two have
pub two-fit :
    (ts us : List Tree) (first second : ℕ)
    → first ≡ bound_of (trees_variables (trees_of ts)) → first ≤ 2 ^ 32
    → second ≡ bound_of (trees_variables (trees_of us)) → second ≤ 2 ^ 32
    → AllByRecursion Fits (flat_map tree_variables (flat_map (λ ws. ws) (ts ∷ us ∷ [])))
two-fit ts us first second is low other_is other_low =
    variables-append ts (us ++ []) (terms-fit ts first is low) (one-fits us second other_is other_low)

-- a line's
pub line-fits :
    (step : Step) (c : TreeClause) (bound : ℕ) → bound ≡ bound_of (clause_variables c) → bound ≤ 2 ^ 32
    → AllByRecursion Fits (flat_map tree_variables (bound_by step)) → AllByRecursion Fits (line_variables step c)
line-fits step c bound is low terms =
    fits-append (clause_variables c) (flat_map tree_variables (bound_by step)) (fits-below (clause_variables c) (omega (arith, is, low))) terms

-- ---- lines, one after another

all-pushed : {X : Type 0} (P : X → Type 0) (xs : List X) (x : X) → AllByRecursion P xs → P x → AllByRecursion P (xs ++ x ∷ [])
all-pushed P [] x all one = (one, tt)
all-pushed P (y ∷ ys) x all one = (all.0, all-pushed P ys x all.1 one)

pub all-more :
    {X : Type 0} (P : X → Type 0) (xs : List X) (k : ℕ) (x : X)
    → slice_get xs k ≡ Some x → AllByRecursion P (take k xs) → P x → AllByRecursion P (take (k + 1) xs)
all-more P xs k x at all one = subst (AllByRecursion P) (sym (take_more_there xs k x at)) (all-pushed P (take k xs) x all one)

take-past : {X : Type 0} (xs : List X) (k : ℕ) → length xs ≤ k → take k xs ≡ xs
take-past [] zero long = refl
take-past [] (suc k) long = refl
take-past (x ∷ xs) zero long = absurd (omega (arith, long))
take-past (x ∷ xs) (suc k) long = ap (λ ys. x ∷ ys) (take-past xs k (omega (arith, long)))

pub all-taken : {X : Type 0} (P : X → Type 0) (xs : List X) (k : ℕ) → length xs ≤ k → AllByRecursion P (take k xs) → AllByRecursion P xs
all-taken P xs k long all = subst (AllByRecursion P) (take-past xs k long) all

-- the numbers of lists, one list after another
pub lists-more :
    (xs : List (List ℕ)) (k : ℕ) (x : List ℕ)
    → slice_get xs k ≡ Some x → AllByRecursion Fits (flat_map (λ ns. ns) (take k xs)) → AllByRecursion Fits x
    → AllByRecursion Fits (flat_map (λ ns. ns) (take (k + 1) xs))
lists-more xs k x at all one =
    subst (λ ys. AllByRecursion Fits (flat_map (λ ns. ns) ys)) (sym (take_more_there xs k x at))
    (subst (AllByRecursion Fits) (sym (flat_map-append (λ ns. ns) (take k xs) (x ∷ [])))
    (fits-append (flat_map (λ ns. ns) (take k xs)) (x ++ []) all (fits-append x [] one tt)))

pub lists-taken :
    (xs : List (List ℕ)) (k : ℕ) → length xs ≤ k → AllByRecursion Fits (flat_map (λ ns. ns) (take k xs))
    → AllByRecursion Fits (flat_map (λ ns. ns) xs)
lists-taken xs k long all = subst (λ ys. AllByRecursion Fits (flat_map (λ ns. ns) ys)) (take-past xs k long) all
