-- What is demanded is ground: so the ground list has ground instances of the form alone.
use Rattle.std.proofs.Common.{◌≡◌, ℕ, zero, suc, ◌<◌, ◌≤◌, ◌==◌, Bool, true, false, List, [], ◌∷◌, ◌++◌, length, map, take, filter, fold, get_or, Some, refl, ap, sym, ◌∙◌, arith, true≢false, if◌then◌else◌}
use Rattle.std.specs.Prelude.{slice_get, flat_map, All, Contains}
use Rattle.std.specs.List.{list_any, list_all}
use Rattle.std.proofs.lemmas.Bool.{and_parts, and_from}
use Rattle.std.proofs.lemmas.List.Elements.{All-nil, All-cons, All-append}
use Rattle.std.proofs.lemmas.Option.{get_or_from_slice_get, slice_get_within}
use Rattle.list_lemmas.proofs.Places.{there-below}
use Rattle.list_lemmas.proofs.Tests.{all-joined}
use Rattle.fol_base.specs.Tree.{Tree}
use Rattle.fol_base.specs.Instance.{instance}
use Rattle.fol_base.specs.Clause.{TreeClause}
use Rattle.fol_base.specs.Symbols.{FunctionSymbol, FunctionSymbols}
use Rattle.fol_base.specs.Ground.{is_over, ground_over, literals_instance}
use Rattle.fol_base.specs.Covered.{InstanceOf}
use Rattle.fol_base.specs.Literal.{clause_of}
use Rattle.fol_base.proofs.AboutClauses.MeaningLemmas.{PutsGround}
use Rattle.fol_base.proofs.AboutInstances.GroundInstanceLemmas.{ground_over-instance}
use Rattle.kernel_steps.specs.Derivation.{ComesBy, IsDerivation}
use Rattle.kernel_steps.specs.Soundness.{binds_each, BindsOver}
use Rattle.kernel_steps.specs.declared.step.Step.{Step}
use Rattle.kernel_steps.specs.declared.step.Step.TheVariants.{Input, Negate, Clausify, Para, Refl, Factor, Merge, Component, Opposite, Split, Chain}
use Rattle.kernel_steps.specs.declared.step.Line.{Line}
use Rattle.herbrand_list.specs.Demands.{Demand, put_in, bound_parents, demanded_by, same_demand, with_demand, terms_for, step_at, worked, all_worked, last_line, demands_of}
use Rattle.herbrand_list.specs.GroundList.{literals_at, demanded_instance, is_clausify, instances_at, instances_below}
use Rattle.herbrand_list.specs.GroundLaws.{GroundListsAreInstances}
use Rattle.herbrand_list.proofs.AboutDemands.DemandLemmas.{demand_for}
use Rattle.herbrand_list.proofs.AboutDemands.LineLemmas.{step-there, literals-there}

-- ---- tests on lists

-- what each element passes, and a default too, what stands at a place passes
at-passes : {X : Type 0} (p : X → Bool) (xs : List X) (n : ℕ) (d : X) → list_all p xs ≡ true → p d ≡ true → p (get_or xs n d) ≡ true
at-passes p [] n d all h = h
at-passes p (x ∷ xs) zero d all h = (and_parts (p x) (list_all p xs) all).0
at-passes p (x ∷ xs) (suc n) d all h = at-passes p xs n d (and_parts (p x) (list_all p xs) all).1 h

mapped-pass : {X Y : Type 0} (p : X → Bool) (q : Y → Bool) (f : X → Y) → ((x : X) → p x ≡ true → q (f x) ≡ true) → (xs : List X) → list_all p xs ≡ true → list_all q (map f xs) ≡ true
mapped-pass p q f each [] all = refl
mapped-pass p q f each (x ∷ xs) all =
    let both = and_parts (p x) (list_all p xs) all in
    and_from (q (f x)) (list_all q (map f xs)) (each x both.0) (mapped-pass p q f each xs both.1)

flat-pass : {X Y : Type 0} (p : X → Bool) (q : Y → Bool) (g : X → List Y) → ((x : X) → p x ≡ true → list_all q (g x) ≡ true) → (xs : List X) → list_all p xs ≡ true → list_all q (flat_map g xs) ≡ true
flat-pass p q g each [] all = refl
flat-pass p q g each (x ∷ xs) all =
    let both = and_parts (p x) (list_all p xs) all in
    all-joined q (g x) (flat_map g xs) (each x both.0) (flat-pass p q g each xs both.1)

-- ---- demands of ground terms

abbrev are_ground_terms : List FunctionSymbol → List Tree → Bool
are_ground_terms functions ts = list_all (ground_over functions) ts

abbrev all_ground : List FunctionSymbol → List Demand → Bool
all_ground functions ds = list_all (λ (d : Demand). are_ground_terms functions d.terms) ds

puts-ground :
    (functions : List FunctionSymbol) (constant : Tree) (σ : List Tree)
    → ground_over functions constant ≡ true → are_ground_terms functions σ ≡ true → PutsGround functions (put_in constant σ)
puts-ground functions constant σ c h v = at-passes (ground_over functions) σ v constant h c

ground-with : (functions : List FunctionSymbol) (ds : List Demand) (e : Demand) → all_ground functions ds ≡ true → are_ground_terms functions e.terms ≡ true → all_ground functions (with_demand ds e) ≡ true
ground-with functions ds e h g = by (list_any (same_demand e) ds)
  where
    by : (b : Bool) → all_ground functions (if b then ds else ds ++ e ∷ []) ≡ true
    by true = h
    by false =
        all-joined (λ (d : Demand). are_ground_terms functions d.terms) ds (e ∷ []) h
        (and_from (are_ground_terms functions e.terms) true g refl)

ground-fold : (functions : List FunctionSymbol) (es ds : List Demand) → all_ground functions ds ≡ true → all_ground functions es ≡ true → all_ground functions (fold with_demand ds es) ≡ true
ground-fold functions [] ds h g = h
ground-fold functions (e ∷ es) ds h g =
    let both = and_parts (are_ground_terms functions e.terms) (all_ground functions es) g in
    ground-fold functions es (with_demand ds e) (ground-with functions ds e h both.0) both.1

terms-ground : (functions : List FunctionSymbol) (n : ℕ) (ds : List Demand) → all_ground functions ds ≡ true → list_all (are_ground_terms functions) (terms_for n ds) ≡ true
terms-ground functions n [] h = refl
terms-ground functions n (d ∷ ds) h = by (d.line == n) (terms-ground functions n ds (and_parts (are_ground_terms functions d.terms) (all_ground functions ds) h).1)
  where
    both : (are_ground_terms functions d.terms ≡ true) × (all_ground functions ds ≡ true)
    both = and_parts (are_ground_terms functions d.terms) (all_ground functions ds) h

    by :
        (b : Bool) → list_all (are_ground_terms functions) (terms_for n ds) ≡ true
        → list_all (are_ground_terms functions)
        (map (λ (e : Demand). e.terms) (if b then d ∷ filter (λ (e : Demand). e.line == n) ds else filter (λ (e : Demand). e.line == n) ds))
        ≡ true
    by true rest = and_from (are_ground_terms functions d.terms) (list_all (are_ground_terms functions) (terms_for n ds)) both.0 rest
    by false rest = rest

-- the bindings of a step are those of its parents
bindings-over : (test : Tree → Bool) (step : Step) → binds_each test step ≡ true → list_all (λ (p : ℕ × List Tree). list_all test p.1) (bound_parents step) ≡ true
bindings-over test (Para m j s k z u place first second) h = h
bindings-over test (Refl m k bind) h = h
bindings-over test (Factor m j s k z bind) h = h
bindings-over test (Merge m j k bind) h = h
bindings-over test (Input place) h = h
bindings-over test (Negate place) h = h
bindings-over test (Clausify k) h = h
bindings-over test (Component name) h = h
bindings-over test (Opposite name) h = h
bindings-over test (Split m definitions parts) h = h
bindings-over test (Chain numbers pivots) h = h

demanded-ground :
    (functions : List FunctionSymbol) (constant : Tree) (step : Step) (σ : List Tree) → ground_over functions constant ≡ true
    → binds_each (is_over functions) step ≡ true → are_ground_terms functions σ ≡ true → all_ground functions (demanded_by constant step σ) ≡ true
demanded-ground functions constant step σ c over h =
    mapped-pass (λ (p : ℕ × List Tree). list_all (is_over functions) p.1) (λ (d : Demand). are_ground_terms functions d.terms)
    (λ (p : ℕ × List Tree). demand_for p.0 (map (instance (put_in constant σ)) p.1))
    (λ p bound.
    mapped-pass (is_over functions) (ground_over functions) (instance (put_in constant σ))
    (λ t o. ground_over-instance functions (put_in constant σ) (puts-ground functions constant σ c h) t o) p.1 bound)
    (bound_parents step) (bindings-over (is_over functions) step over)

step-over : (functions : List FunctionSymbol) (lines : List Line) (n : ℕ) → BindsOver functions lines → binds_each (is_over functions) (step_at lines n) ≡ true
step-over functions lines n over =
    at-passes (λ (l : Line). binds_each (is_over functions) l.step) lines n
    (record { step = Input 0; clause = record { literals = []; names = [] } }) over refl

worked-ground :
    (functions : List FunctionSymbol) (constant : Tree) (lines : List Line) (n : ℕ) (ds : List Demand) → ground_over functions constant ≡ true
    → BindsOver functions lines → all_ground functions ds ≡ true → all_ground functions (worked constant lines n ds) ≡ true
worked-ground functions constant lines n ds c over h =
    ground-fold functions (flat_map (demanded_by constant (step_at lines n)) (terms_for n ds)) ds h
    (flat-pass (are_ground_terms functions) (λ (d : Demand). are_ground_terms functions d.terms) (demanded_by constant (step_at lines n))
    (λ σ g. demanded-ground functions constant (step_at lines n) σ c (step-over functions lines n over) g)
    (terms_for n ds) (terms-ground functions n ds h))

all-worked-ground :
    (functions : List FunctionSymbol) (constant : Tree) (lines : List Line) (k : ℕ) (ds : List Demand) → ground_over functions constant ≡ true
    → BindsOver functions lines → all_ground functions ds ≡ true → all_ground functions (all_worked constant lines k ds) ≡ true
all-worked-ground functions constant lines zero ds c over h = h
all-worked-ground functions constant lines (suc k) ds c over h =
    all-worked-ground functions constant lines k (worked constant lines k ds) c over (worked-ground functions constant lines k ds c over h)

-- ---- instances of the form

-- each of a clausify line's instances
instances-each :
    {is_predicate : ℕ → Bool} (functions : FunctionSymbols is_predicate) (constant : Tree) (form : List TreeClause) (lines : List Line) (n : ℕ) (c : TreeClause)
    → ground_over functions.symbols constant ≡ true → Contains form c → literals_at lines n ≡ c.literals
    → (σs : List (List Tree)) → list_all (are_ground_terms functions.symbols) σs ≡ true
    → All (InstanceOf functions (Contains form)) (map (demanded_instance constant lines n) σs)
instances-each functions constant form lines n c ground there same [] h = All-nil (InstanceOf functions (Contains form))
instances-each functions constant form lines n c ground there same (σ ∷ σs) h =
    let both = and_parts (are_ground_terms functions.symbols σ) (list_all (are_ground_terms functions.symbols) σs) h in
    All-cons (InstanceOf functions (Contains form)) (demanded_instance constant lines n σ) (map (demanded_instance constant lines n) σs)
    (record {
      clause = c;
      holds = there;
      is_instance = record {
        trees = put_in constant σ;
        trees_ground = puts-ground functions.symbols constant σ ground both.0;
        literals = ap (literals_instance (put_in constant σ)) same;
      };
    })
    (instances-each functions constant form lines n c ground there same σs both.1)

-- the clause of a clausify line is one of the form
clausify-there :
    (form : List TreeClause) (lines : List Line) (n : ℕ) (line : Line) (step : Step) → line.step ≡ step → is_clausify step ≡ true
    → ComesBy step form (take n lines) (clause_of line.clause) → Contains form (clause_of line.clause)
clausify-there form lines n line (Clausify k) is h comes =
    (k, slice_get_within form k (clause_of line.clause) comes, get_or_from_slice_get form k (clause_of line.clause) (clause_of line.clause) comes)
clausify-there form lines n line (Input place) is h comes = absurd (true≢false (sym h))
clausify-there form lines n line (Negate place) is h comes = absurd (true≢false (sym h))
clausify-there form lines n line (Para m j s k z u place first second) is h comes = absurd (true≢false (sym h))
clausify-there form lines n line (Refl m k bind) is h comes = absurd (true≢false (sym h))
clausify-there form lines n line (Factor m j s k z bind) is h comes = absurd (true≢false (sym h))
clausify-there form lines n line (Merge m j k bind) is h comes = absurd (true≢false (sym h))
clausify-there form lines n line (Component name) is h comes = absurd (true≢false (sym h))
clausify-there form lines n line (Opposite name) is h comes = absurd (true≢false (sym h))
clausify-there form lines n line (Split m definitions parts) is h comes = absurd (true≢false (sym h))
clausify-there form lines n line (Chain numbers pivots) is h comes = absurd (true≢false (sym h))

instances-at :
    {is_predicate : ℕ → Bool} (functions : FunctionSymbols is_predicate) (constant : Tree) (form : List TreeClause) (lines : List Line)
    (demands : List Demand) (n : ℕ)
    → ground_over functions.symbols constant ≡ true → IsDerivation form lines → n < length lines → all_ground functions.symbols demands ≡ true
    → All (InstanceOf functions (Contains form)) (instances_at constant lines demands n)
instances-at functions constant form lines demands n ground derived within h = by (is_clausify (step_at lines n)) refl
  where
    there : (line : Line) × (slice_get lines n ≡ Some line)
    there = there-below lines n within

    by :
        (b : Bool) → is_clausify (step_at lines n) ≡ b
        → All (InstanceOf functions (Contains form)) (if b then map (demanded_instance constant lines n) (terms_for n demands) else [])
    by false e = All-nil (InstanceOf functions (Contains form))
    by true e =
        instances-each functions constant form lines n (clause_of (there.0).clause) ground
        (clausify-there form lines n there.0 (there.0).step refl (ap is_clausify (sym (step-there lines n there.0 there.1)) ∙ e) (derived n there.0 there.1))
        (literals-there lines n there.0 there.1) (terms_for n demands) (terms-ground functions.symbols n demands h)

instances-below :
    {is_predicate : ℕ → Bool} (functions : FunctionSymbols is_predicate) (constant : Tree) (form : List TreeClause) (lines : List Line)
    (demands : List Demand) (k : ℕ)
    → ground_over functions.symbols constant ≡ true → IsDerivation form lines → k ≤ length lines → all_ground functions.symbols demands ≡ true
    → All (InstanceOf functions (Contains form)) (instances_below constant lines demands k)
instances-below functions constant form lines demands zero ground derived within h = All-nil (InstanceOf functions (Contains form))
instances-below functions constant form lines demands (suc k) ground derived within h =
    All-append (InstanceOf functions (Contains form)) (instances_at constant lines demands k) (instances_below constant lines demands k)
    (instances-at functions constant form lines demands k ground derived (omega (arith, within)) h)
    (instances-below functions constant form lines demands k ground derived (omega (arith, within)) h)

pub ground_lists_are_instances : GroundListsAreInstances
ground_lists_are_instances is_predicate functions constant form lines ground over derived =
    instances-below functions constant form lines (demands_of constant lines) (length lines) ground derived (omega arith)
    (all-worked-ground functions.symbols constant lines (length lines) (last_line lines ∷ []) ground over refl)
