-- Demands as they arrive: what is demanded stays, and what a demand demands is demanded too.
use Rattle.std.proofs.Common.{◌≡◌, ℕ, zero, suc, ◌<◌, ◌≤◌, ◌==◌, Bool, true, false, List, [], ◌∷◌, ◌++◌, map, filter, fold, refl, ap, sym, ◌∙◌, arith, ◌⊎◌, inl, inr, ⊎_elim, subst, true≢false, if◌then◌else◌}
use Rattle.std.specs.Prelude.{flat_map}
use Rattle.std.specs.List.{list_any, AllByRecursion}
use Rattle.std.proofs.lemmas.Bool.{and_parts, and_from, eqb-true, eq-eqb}
use Rattle.list_lemmas.proofs.Bools.{or-either, or-first, or-second, or-false-true}
use Rattle.list_lemmas.proofs.Numbers.{below-or-same}
use Rattle.list_lemmas.proofs.Tests.{any-joined, any-kept}
use Rattle.fol_base.specs.Tree.{Tree, trees_of, list_of, trees_eq}
use Rattle.fol_base.specs.Instance.{instance}
use Rattle.fol_base.proofs.AboutTerms.TreeLemmas.{trees_eq-refl, trees_eq-true}
use Rattle.kernel_steps.specs.declared.step.Step.{Step}
use Rattle.kernel_steps.specs.declared.step.Line.{Line}
use Rattle.herbrand_list.specs.Demands.{Demand, put_in, bound_parents, demanded_by, same_demand, with_demand, terms_for, step_at, worked, all_worked}

-- ---- an element of a list

abbrev pub Among : {X : Type 0} → X → List X → Type 0
Among x [] = ⊥
Among x (y ∷ ys) = (y ≡ x) ⊎ Among x ys

among-front : {X : Type 0} (x : X) (xs ys : List X) → Among x xs → Among x (xs ++ ys)
among-front x [] ys a = absurd a
among-front x (y ∷ xs) ys a = ⊎_elim (λ e. inl e) (λ r. inr (among-front x xs ys r)) a

among-back : {X : Type 0} (x : X) (xs ys : List X) → Among x ys → Among x (xs ++ ys)
among-back x [] ys a = a
among-back x (y ∷ xs) ys a = inr (among-back x xs ys a)

among-flat : {X Y : Type 0} (g : X → List Y) (x : X) (xs : List X) (y : Y) → Among x xs → Among y (g x) → Among y (flat_map g xs)
among-flat g x [] y a b = absurd a
among-flat {X} {Y} g x (z ∷ zs) y a b =
    ⊎_elim
    (λ e. among-front y (g z) (flat_map g zs) (subst (λ (w : X). Among y (g w)) (sym e) b))
    (λ r. among-back y (g z) (flat_map g zs) (among-flat g x zs y r b)) a

-- ---- equal demands

abbrev pub demand_for : ℕ → List Tree → Demand
demand_for n σ = record { line = n; terms = σ }

abbrev pub has_demand : List Demand → Demand → Bool
has_demand demands d = list_any (same_demand d) demands

pub same-itself : (d : Demand) → same_demand d d ≡ true
same-itself d = and_from (d.line == d.line) (trees_eq (trees_of d.terms) (trees_of d.terms)) (eq-eqb d.line d.line refl) (trees_eq-refl (trees_of d.terms))

list_of-trees_of : (ts : List Tree) → list_of (trees_of ts) ≡ ts
list_of-trees_of [] = refl
list_of-trees_of (t ∷ ts) = ap (λ us. t ∷ us) (list_of-trees_of ts)

pub same-terms : (d e : Demand) → same_demand d e ≡ true → d.terms ≡ e.terms
same-terms d e h =
    let both = and_parts (d.line == e.line) (trees_eq (trees_of d.terms) (trees_of e.terms)) h in
    sym (list_of-trees_of d.terms)
    ∙ ap list_of (trees_eq-true (trees_of d.terms) (trees_of e.terms) both.1)
    ∙ list_of-trees_of e.terms

pub same-line : (d e : Demand) → same_demand d e ≡ true → d.line ≡ e.line
same-line d e h = eqb-true d.line e.line (and_parts (d.line == e.line) (trees_eq (trees_of d.terms) (trees_of e.terms)) h).0

-- ---- one that arrives

has-with : (ds : List Demand) (e d : Demand) → has_demand ds d ≡ true → has_demand (with_demand ds e) d ≡ true
has-with ds e d h = by (list_any (same_demand e) ds)
  where
    by : (b : Bool) → has_demand (if b then ds else ds ++ e ∷ []) d ≡ true
    by true = h
    by false = any-kept (same_demand d) ds (e ∷ []) h

has-new : (ds : List Demand) (e : Demand) → has_demand (with_demand ds e) e ≡ true
has-new ds e = by (list_any (same_demand e) ds) refl
  where
    by : (b : Bool) → list_any (same_demand e) ds ≡ b → has_demand (if b then ds else ds ++ e ∷ []) e ≡ true
    by true g = g
    by false g =
        any-joined (same_demand e) ds (e ∷ [])
        ∙ or-second (list_any (same_demand e) ds) (list_any (same_demand e) (e ∷ [])) (or-first (same_demand e e) false (same-itself e))

with-old : (ds : List Demand) (e d : Demand) → has_demand (with_demand ds e) d ≡ true → (has_demand ds d ≡ true) ⊎ (same_demand d e ≡ true)
with-old ds e d = by (list_any (same_demand e) ds)
  where
    by : (b : Bool) → has_demand (if b then ds else ds ++ e ∷ []) d ≡ true → (has_demand ds d ≡ true) ⊎ (same_demand d e ≡ true)
    by true h = inl h
    by false h =
        ⊎_elim (λ x. inl x) (λ x. inr (or-false-true (same_demand d e) x))
        (or-either (list_any (same_demand d) ds) (list_any (same_demand d) (e ∷ [])) (sym (any-joined (same_demand d) ds (e ∷ [])) ∙ h))

-- ---- several that arrive

has-fold : (es ds : List Demand) (d : Demand) → has_demand ds d ≡ true → has_demand (fold with_demand ds es) d ≡ true
has-fold [] ds d h = h
has-fold (e ∷ es) ds d h = has-fold es (with_demand ds e) d (has-with ds e d h)

has-folded : (es ds : List Demand) (d : Demand) → Among d es → has_demand (fold with_demand ds es) d ≡ true
has-folded [] ds d a = absurd a
has-folded (e ∷ es) ds d a =
    ⊎_elim
    (λ same. has-fold es (with_demand ds e) d (subst (λ (x : Demand). has_demand (with_demand ds x) d ≡ true) (sym same) (has-new ds d)))
    (λ later. has-folded es (with_demand ds e) d later) a

fold-old :
    (es ds : List Demand) (d : Demand) → has_demand (fold with_demand ds es) d ≡ true
    → (has_demand ds d ≡ true) ⊎ (list_any (same_demand d) es ≡ true)
fold-old [] ds d h = inl h
fold-old (e ∷ es) ds d h =
    ⊎_elim
    (λ x. ⊎_elim (λ y. inl y) (λ y. inr (or-first (same_demand d e) (list_any (same_demand d) es) y)) (with-old ds e d x))
    (λ x. inr (or-second (same_demand d e) (list_any (same_demand d) es) x))
    (fold-old es (with_demand ds e) d h)

-- ---- a line that is worked

-- the parents with bindings come before the line
abbrev pub ParentsBelow : ℕ → Step → Type 0
ParentsBelow n step = AllByRecursion (λ (p : ℕ × List Tree). p.0 < n) (bound_parents step)

made-below :
    (n : ℕ) (put : List Tree → List Tree) (ps : List (ℕ × List Tree)) (d : Demand)
    → AllByRecursion (λ (p : ℕ × List Tree). p.0 < n) ps
    → list_any (same_demand d) (map (λ (p : ℕ × List Tree). demand_for p.0 (put p.1)) ps) ≡ true → d.line < n
made-below n put [] d below h = absurd (true≢false (sym h))
made-below n put (p ∷ ps) d below h =
    ⊎_elim
    (λ same.
    let line : d.line ≡ p.0 = same-line d (demand_for p.0 (put p.1)) same in
    omega (arith, line, below.0))
    (λ later. made-below n put ps d below.1 later)
    (or-either _ _ h)

demanded-below :
    (constant : Tree) (n : ℕ) (step : Step) (σs : List (List Tree)) (d : Demand) → ParentsBelow n step
    → list_any (same_demand d) (flat_map (demanded_by constant step) σs) ≡ true → d.line < n
demanded-below constant n step [] d below h = absurd (true≢false (sym h))
demanded-below constant n step (σ ∷ σs) d below h =
    ⊎_elim
    (λ here. made-below n (map (instance (put_in constant σ))) (bound_parents step) d below here)
    (λ later. demanded-below constant n step σs d below later)
    (or-either (list_any (same_demand d) (demanded_by constant step σ)) (list_any (same_demand d) (flat_map (demanded_by constant step) σs))
    (sym (any-joined (same_demand d) (demanded_by constant step σ) (flat_map (demanded_by constant step) σs)) ∙ h))

worked-has :
    (constant : Tree) (lines : List Line) (n : ℕ) (ds : List Demand) (d : Demand)
    → has_demand ds d ≡ true → has_demand (worked constant lines n ds) d ≡ true
worked-has constant lines n ds d h = has-fold (flat_map (demanded_by constant (step_at lines n)) (terms_for n ds)) ds d h

worked-old :
    (constant : Tree) (lines : List Line) (n : ℕ) (ds : List Demand) (d : Demand) → ParentsBelow n (step_at lines n)
    → n ≤ d.line → has_demand (worked constant lines n ds) d ≡ true → has_demand ds d ≡ true
worked-old constant lines n ds d below high h =
    ⊎_elim (λ x. x)
    (λ x.
    let low : d.line < n = demanded-below constant n (step_at lines n) (terms_for n ds) d below x in
    absurd (omega (arith, low, high)))
    (fold-old (flat_map (demanded_by constant (step_at lines n)) (terms_for n ds)) ds d h)

-- a demand's terms are among those for its line
pub has-terms : (n : ℕ) (σ : List Tree) (ds : List Demand) → has_demand ds (demand_for n σ) ≡ true → Among σ (terms_for n ds)
has-terms n σ [] h = absurd (true≢false (sym h))
has-terms n σ (d ∷ ds) h =
    by (d.line == n) (λ x. has-terms n σ ds x) refl (or-either (same_demand (demand_for n σ) d) (has_demand ds (demand_for n σ)) h)
  where
    by :
        (b : Bool) → (has_demand ds (demand_for n σ) ≡ true → Among σ (terms_for n ds)) → (d.line == n) ≡ b
        → (same_demand (demand_for n σ) d ≡ true) ⊎ (has_demand ds (demand_for n σ) ≡ true)
        → Among σ (map (λ (e : Demand). e.terms) (if b then d ∷ filter (λ (e : Demand). e.line == n) ds else filter (λ (e : Demand). e.line == n) ds))
    by true rest e s = ⊎_elim (λ x. inl (sym (same-terms (demand_for n σ) d x))) (λ x. inr (rest x)) s
    by false rest e s =
        ⊎_elim
        (λ x. absurd (true≢false (sym (eq-eqb d.line n (sym (same-line (demand_for n σ) d x))) ∙ e)))
        rest s

worked-demands :
    (constant : Tree) (lines : List Line) (n : ℕ) (ds : List Demand) (σ : List Tree) (e : Demand)
    → has_demand ds (demand_for n σ) ≡ true → Among e (demanded_by constant (step_at lines n) σ)
    → has_demand (worked constant lines n ds) e ≡ true
worked-demands constant lines n ds σ e h a =
    has-folded (flat_map (demanded_by constant (step_at lines n)) (terms_for n ds)) ds e
    (among-flat (demanded_by constant (step_at lines n)) σ (terms_for n ds) e (has-terms n σ ds h) a)

-- ---- all lines

pub all-has :
    (constant : Tree) (lines : List Line) (k : ℕ) (ds : List Demand) (d : Demand)
    → has_demand ds d ≡ true → has_demand (all_worked constant lines k ds) d ≡ true
all-has constant lines zero ds d h = h
all-has constant lines (suc k) ds d h = all-has constant lines k (worked constant lines k ds) d (worked-has constant lines k ds d h)

-- the parents of each of the first k lines come before it
abbrev pub AllParentsBelow : List Line → ℕ → Type 0
AllParentsBelow lines k = (n : ℕ) → n < k → ParentsBelow n (step_at lines n)

all-old :
    (constant : Tree) (lines : List Line) (k : ℕ) (ds : List Demand) (d : Demand) → AllParentsBelow lines k → k ≤ d.line
    → has_demand (all_worked constant lines k ds) d ≡ true → has_demand ds d ≡ true
all-old constant lines zero ds d below high h = h
all-old constant lines (suc k) ds d below high h =
    worked-old constant lines k ds d (below k (omega arith)) (omega (arith, high))
    (all-old constant lines k (worked constant lines k ds) d (λ n low. below n (omega (arith, low))) (omega (arith, high)) h)

-- what a demand of a worked line demands is demanded
pub all-closed :
    (constant : Tree) (lines : List Line) (k n : ℕ) (ds : List Demand) (σ : List Tree) (e : Demand) → AllParentsBelow lines k → n < k
    → has_demand (all_worked constant lines k ds) (demand_for n σ) ≡ true
    → Among e (demanded_by constant (step_at lines n) σ) → has_demand (all_worked constant lines k ds) e ≡ true
all-closed constant lines zero n ds σ e below within h a = absurd (omega (arith, within))
all-closed constant lines (suc k) n ds σ e below within h a =
    ⊎_elim
    (λ less. all-closed constant lines k n (worked constant lines k ds) σ e (λ m small. below m (omega (arith, small))) less h a)
    last (below-or-same n k (omega (arith, within)))
  where
    earlier : AllParentsBelow lines k
    earlier m less = below m (omega (arith, less))

    last : n ≡ k → has_demand (all_worked constant lines k (worked constant lines k ds)) e ≡ true
    last same =
        let d : Demand = demand_for n σ in
        let high : k ≤ n = omega (arith, same) in
        let there : has_demand (worked constant lines k ds) d ≡ true =
        all-old constant lines k (worked constant lines k ds) d earlier high h in
        let was : has_demand ds d ≡ true = worked-old constant lines k ds d (below k (omega arith)) high there in
        all-has constant lines k (worked constant lines k ds) e
        (worked-demands constant lines k ds σ e
        (subst (λ m. has_demand ds (demand_for m σ) ≡ true) same was)
        (subst (λ m. Among e (demanded_by constant (step_at lines m) σ)) same a))
