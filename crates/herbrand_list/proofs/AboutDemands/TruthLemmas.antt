-- Where the ground list is true, each demanded instance of a clause line is. So no interpretation makes the ground list of a refutation true.
use Rattle.std.proofs.Common.{◌≡◌, ℕ, zero, suc, ◌+◌, ◌-◌, ◌<◌, ◌==◌, true, false, List, [], ◌∷◌, length, map, take, get_or, Option, Some, refl, ap, sym, ◌∙◌, arith, inl, inr, ⊎_elim, subst, true≢false, if◌then◌else◌}
use Rattle.std.specs.Prelude.{slice_get, flat_map}
use Rattle.std.specs.List.{list_all}
use Rattle.std.proofs.lemmas.Bool.{and_parts, or_parts, cases_Bool, eqb-true}
use Rattle.std.proofs.lemmas.List.{get_or-map, length_push}
use Rattle.std.proofs.lemmas.List.Folds.{list_all-append}
use Rattle.std.proofs.lemmas.Option.{slice_get_within, none-some, same_Some}
use Rattle.list_lemmas.proofs.Bools.{or-either, or-first}
use Rattle.list_lemmas.proofs.Numbers.{below-or-same}
use Rattle.list_lemmas.proofs.Places.{there-below}
use Rattle.fol_base.specs.Tree.{Tree, variable}
use Rattle.fol_base.specs.Instance.{instance, substitution}
use Rattle.fol_base.specs.Clause.{TreeLiteral, TreeClause, literal_variables, clause_variables}
use Rattle.fol_base.specs.Canonical.{bound_of}
use Rattle.fol_base.specs.Ground.{GroundClause}
use Rattle.fol_base.specs.Literal.{clause_of}
use Rattle.fol_base.specs.Interpretation.{Interpretation, Assignment, tree_value, literals_true_under, no_values, clause_true, clauses_true}
use Rattle.fol_base.specs.Rules.{superposed, resolved, factored, merged}
use Rattle.fol_base.proofs.AboutClauses.MeaningLemmas.{values_of_instances, truth_of_instances}
use Rattle.kernel_steps.specs.Split.{has_number}
use Rattle.kernel_steps.specs.Parents.{Parent}
use Rattle.kernel_steps.specs.Conclusion.{binds, bound_literals, by_one, by_two, concludes}
use Rattle.kernel_steps.specs.Derivation.{is_clause_step, line_parents, ComesBy, IsDerivation}
use Rattle.kernel_steps.specs.declared.step.Step.{Step}
use Rattle.kernel_steps.specs.declared.step.Step.TheVariants.{Input, Negate, Clausify, Para, Refl, Factor, Merge, Component, Opposite, Split, Chain}
use Rattle.kernel_steps.specs.declared.step.Line.{Line}
use Rattle.kernel_steps.proofs.AboutCalls.LineLemmas.{parent_line, ParentLine, last-there}
use Rattle.kernel_steps.proofs.AboutCalls.VerdictParts.{by_one-parts, by_two-parts}
use Rattle.kernel_steps.proofs.AboutSoundness.OverValues.{literals_true-agree}
use Rattle.kernel_steps.proofs.AboutSoundness.RuleTruth.{para_is_sound, refl_is_sound, factor_is_sound, merge_is_sound}
use Rattle.herbrand_list.specs.Demands.{Demand, put_in, demanded_by, same_demand, terms_for, step_at, last_line, demands_of}
use Rattle.herbrand_list.specs.GroundList.{speaks_of_names, any_names, literals_at, demanded_instance, is_clausify, instances_at, instances_below, ground_list}
use Rattle.herbrand_list.specs.GroundLaws.{GroundListsAreRefuted}
use Rattle.herbrand_list.proofs.AboutDemands.LineLemmas.{step-there, literals-there}
use Rattle.herbrand_list.proofs.AboutDemands.DemandLemmas.{Among, has_demand, demand_for, same-itself, ParentsBelow, AllParentsBelow, has-terms, all-has, all-closed}

-- ---- the values of a demand's variables

abbrev values_by : Interpretation → Tree → List Tree → Assignment
values_by i constant σ v = tree_value i no_values (put_in constant σ v)

-- the demanded instance of a line is true
abbrev IsTrueFor : Interpretation → Tree → List Line → ℕ → List Tree → Type 0
IsTrueFor i constant lines n σ = literals_true_under i (values_by i constant σ) (literals_at lines n) ≡ true

has-below : (v : ℕ) (vs : List ℕ) → has_number v vs ≡ true → v < bound_of vs
has-below v [] h = absurd (true≢false (sym h))
has-below v (w ∷ ws) h =
    ⊎_elim
    (λ here. let same : v ≡ w = eqb-true v w here in omega (arith, same))
    (λ later. let low : v < bound_of ws = has-below v ws later in omega (arith, low))
    (or-either (v == w) (has_number v ws) h)

-- a parent's clause under a binding is true where its demanded instance is
parent-true :
    (i : Interpretation) (constant : Tree) (lines : List Line) (n m : ℕ) (p : Parent) (bind σ : List Tree)
    → ParentLine lines n m p → binds bind p.clause ≡ true
    → IsTrueFor i constant lines m (map (instance (put_in constant σ)) bind)
    → literals_true_under i (values_by i constant σ) (bound_literals bind p.clause) ≡ true
parent-true i constant lines n m p bind σ l bound holds =
    truth_of_instances i (values_by i constant σ) (substitution bind) p.clause.literals
    ∙ literals_true-agree i (λ v. tree_value i (values_by i constant σ) (substitution bind v))
    (values_by i constant (map (instance (put_in constant σ)) bind)) p.clause.literals agree
    ∙ ap (literals_true_under i (values_by i constant (map (instance (put_in constant σ)) bind))) (sym same)
    ∙ holds
  where
    same : literals_at lines m ≡ p.clause.literals
    same = literals-there lines m l.line l.there ∙ ap (λ (q : Parent). q.clause.literals) l.gives

    count : length bind ≡ bound_of (clause_variables p.clause)
    count = eqb-true (length bind) (bound_of (clause_variables p.clause)) (and_parts (length bind == bound_of (clause_variables p.clause)) _ bound).0

    agree :
        (v : ℕ) → has_number v (flat_map literal_variables p.clause.literals) ≡ true
        → tree_value i (values_by i constant σ) (substitution bind v) ≡ values_by i constant (map (instance (put_in constant σ)) bind) v
    agree v h =
        let low : v < bound_of (clause_variables p.clause) = has-below v (clause_variables p.clause) h in
        let within : v < length bind = omega (arith, count, low) in
        sym
        (ap (tree_value i no_values) (get_or-map (instance (put_in constant σ)) bind v (variable v) constant within)
        ∙ values_of_instances i no_values (put_in constant σ) (get_or bind v (variable v)))

-- ---- rules

-- a conclusion from one parent
one-true :
    (i : Interpretation) (constant : Tree) (lines : List Line) (n m : ℕ) (bind σ : List Tree)
    (rule : List TreeLiteral → Option (List TreeLiteral)) (c : TreeClause)
    → ((ρ : Assignment) (ls made : List TreeLiteral) → rule ls ≡ Some made → literals_true_under i ρ ls ≡ true → literals_true_under i ρ made ≡ true)
    → by_one (line_parents (take n lines) m) bind rule ≡ concludes c
    → ((line : Line) → m < n → slice_get lines m ≡ Some line → is_clause_step line.step ≡ true → IsTrueFor i constant lines m (map (instance (put_in constant σ)) bind))
    → literals_true_under i (values_by i constant σ) c.literals ≡ true
one-true i constant lines n m bind σ rule c sound h earlier =
    let p = by_one-parts (line_parents (take n lines) m) bind rule c h in
    let l = parent_line lines n m p.source p.there in
    ap (λ (d : TreeClause). literals_true_under i (values_by i constant σ) d.literals) (sym p.gives)
    ∙ sound (values_by i constant σ) (bound_literals bind p.source.clause) p.literals p.made
    (parent-true i constant lines n m p.source bind σ l p.bound (earlier l.line l.earlier l.there l.is_clause))

-- and from two
two-true :
    (i : Interpretation) (constant : Tree) (lines : List Line) (n m k : ℕ) (first second σ : List Tree)
    (rule : List TreeLiteral → List TreeLiteral → Option (List TreeLiteral)) (c : TreeClause)
    → ((ρ : Assignment) (ls ks made : List TreeLiteral) → rule ls ks ≡ Some made → literals_true_under i ρ ls ≡ true
    → literals_true_under i ρ ks ≡ true → literals_true_under i ρ made ≡ true)
    → by_two (line_parents (take n lines) m) first (line_parents (take n lines) k) second rule ≡ concludes c
    → ((line : Line) → m < n → slice_get lines m ≡ Some line → is_clause_step line.step ≡ true → IsTrueFor i constant lines m (map (instance (put_in constant σ)) first))
    → ((line : Line) → k < n → slice_get lines k ≡ Some line → is_clause_step line.step ≡ true → IsTrueFor i constant lines k (map (instance (put_in constant σ)) second))
    → literals_true_under i (values_by i constant σ) c.literals ≡ true
two-true i constant lines n m k first second σ rule c sound h earlier earlier' =
    let p = by_two-parts (line_parents (take n lines) m) first (line_parents (take n lines) k) second rule c h in
    let l = parent_line lines n m p.source p.first_there in
    let l' = parent_line lines n k p.target p.second_there in
    ap (λ (d : TreeClause). literals_true_under i (values_by i constant σ) d.literals) (sym p.gives)
    ∙ sound (values_by i constant σ) (bound_literals first p.source.clause) (bound_literals second p.target.clause) p.literals p.made
    (parent-true i constant lines n m p.source first σ l p.first_bound (earlier l.line l.earlier l.there l.is_clause))
    (parent-true i constant lines n k p.target second σ l' p.second_bound (earlier' l'.line l'.earlier l'.there l'.is_clause))

-- ---- parents come before their lines

below-of :
    (form : List TreeClause) (lines : List Line) (n : ℕ) (step : Step) (c : TreeClause)
    → ComesBy step form (take n lines) c → ParentsBelow n step
below-of form lines n (Para m j s k z u place first second) c h =
    let p = by_two-parts (line_parents (take n lines) m) first (line_parents (take n lines) j) second (λ ls ks. superposed ls s k ks z u place) c h in
    ((parent_line lines n m p.source p.first_there).earlier, ((parent_line lines n j p.target p.second_there).earlier, tt))
below-of form lines n (Refl m k bind) c h =
    let p = by_one-parts (line_parents (take n lines) m) bind (λ ls. resolved ls k) c h in
    ((parent_line lines n m p.source p.there).earlier, tt)
below-of form lines n (Factor m j s k z bind) c h =
    let p = by_one-parts (line_parents (take n lines) m) bind (λ ls. factored ls j s k z) c h in
    ((parent_line lines n m p.source p.there).earlier, tt)
below-of form lines n (Merge m j k bind) c h =
    let p = by_one-parts (line_parents (take n lines) m) bind (λ ls. merged ls j k) c h in
    ((parent_line lines n m p.source p.there).earlier, tt)
below-of form lines n (Input place) c h = tt
below-of form lines n (Negate place) c h = tt
below-of form lines n (Clausify k) c h = tt
below-of form lines n (Component name) c h = tt
below-of form lines n (Opposite name) c h = tt
below-of form lines n (Split m definitions parts) c h = tt
below-of form lines n (Chain numbers pivots) c h = tt

pub parents-below : (form : List TreeClause) (lines : List Line) → IsDerivation form lines → AllParentsBelow lines (length lines)
parents-below form lines derived n within =
    let there = there-below lines n within in
    subst (ParentsBelow n) (sym (step-there lines n there.0 there.1))
    (below-of form lines n (there.0).step (clause_of (there.0).clause) (derived n there.0 there.1))

-- ---- clausify lines

-- each of the list's instances is true, so one of a line is
among-true :
    (i : Interpretation) (make : List Tree → GroundClause) (σ : List Tree) (σs : List (List Tree))
    → list_all (clause_true i) (map make σs) ≡ true → Among σ σs → clause_true i (make σ) ≡ true
among-true i make σ [] h a = absurd a
among-true i make σ (τ ∷ τs) h a =
    let both = and_parts (clause_true i (make τ)) (list_all (clause_true i) (map make τs)) h in
    ⊎_elim (λ same. ap (λ t. clause_true i (make t)) (sym same) ∙ both.0) (λ later. among-true i make σ τs both.1 later) a

instance-true :
    (i : Interpretation) (constant : Tree) (lines : List Line) (demands : List Demand) (k n : ℕ) (σ : List Tree)
    → list_all (clause_true i) (instances_below constant lines demands k) ≡ true → n < k → is_clausify (step_at lines n) ≡ true
    → Among σ (terms_for n demands) → clause_true i (demanded_instance constant lines n σ) ≡ true
instance-true i constant lines demands zero n σ h within is a = absurd (omega (arith, within))
instance-true i constant lines demands (suc k) n σ h within is a =
    let both =
    and_parts (list_all (clause_true i) (instances_at constant lines demands k)) (list_all (clause_true i) (instances_below constant lines demands k))
    (sym (list_all-append (clause_true i) (instances_at constant lines demands k) (instances_below constant lines demands k)) ∙ h) in
    ⊎_elim
    (λ low. instance-true i constant lines demands k n σ both.1 low is a)
    (λ last.
    among-true i (demanded_instance constant lines n) σ (terms_for n demands)
    (ap (λ b. list_all (clause_true i) (if b then map (demanded_instance constant lines n) (terms_for n demands) else [])) (sym is)
    ∙ ap (λ m. list_all (clause_true i) (instances_at constant lines demands m)) last ∙ both.0)
    a)
    (below-or-same n k (omega (arith, within)))

-- ---- all demanded instances

-- What is known of a refutation and an interpretation that makes its ground list true.
record Scene (i : Interpretation) (constant : Tree) (form : List TreeClause) (lines : List Line) : Type 0 where
  derived : IsDerivation form lines
  no_names : (n : ℕ) (line : Line) → slice_get lines n ≡ Some line → speaks_of_names line.step ≡ false
  holds : list_all (clause_true i) (ground_list constant lines) ≡ true

-- what a demand of a line demands is demanded
closed :
    (i : Interpretation) (constant : Tree) (form : List TreeClause) (lines : List Line) (n : ℕ) (line : Line) (σ : List Tree) (e : Demand)
    → Scene i constant form lines → slice_get lines n ≡ Some line → n < length lines
    → has_demand (demands_of constant lines) (demand_for n σ) ≡ true → Among e (demanded_by constant line.step σ)
    → has_demand (demands_of constant lines) e ≡ true
closed i constant form lines n line σ e scene at within h a =
    all-closed constant lines (length lines) n (last_line lines ∷ []) σ e (parents-below form lines scene.derived) within h
    (subst (λ step. Among e (demanded_by constant step σ)) (sym (step-there lines n line at)) a)

-- the demanded instances of clause lines before a line are true
abbrev TrueBefore : Interpretation → Tree → List Line → ℕ → Type 0
TrueBefore i constant lines n =
    (m : ℕ) (line : Line) (σ : List Tree) → m < n → slice_get lines m ≡ Some line → is_clause_step line.step ≡ true
    → has_demand (demands_of constant lines) (demand_for m σ) ≡ true → IsTrueFor i constant lines m σ

-- so those of the line are
line-true :
    (i : Interpretation) (constant : Tree) (form : List TreeClause) (lines : List Line) (n : ℕ) (line : Line) (step : Step) (σ : List Tree)
    → Scene i constant form lines → TrueBefore i constant lines n → slice_get lines n ≡ Some line → n < length lines → line.step ≡ step
    → is_clause_step step ≡ true → speaks_of_names step ≡ false → ComesBy step form (take n lines) (clause_of line.clause)
    → ((e : Demand) → Among e (demanded_by constant step σ) → has_demand (demands_of constant lines) e ≡ true)
    → has_demand (demands_of constant lines) (demand_for n σ) ≡ true
    → literals_true_under i (values_by i constant σ) (clause_of line.clause).literals ≡ true
line-true i constant form lines n line (Input place) σ scene before at within is clause names comes demands h = absurd (true≢false (sym clause))
line-true i constant form lines n line (Negate place) σ scene before at within is clause names comes demands h = absurd (true≢false (sym clause))
line-true i constant form lines n line (Clausify k) σ scene before at within is clause names comes demands h =
    ap (literals_true_under i (values_by i constant σ)) (sym (literals-there lines n line at))
    ∙ sym (truth_of_instances i no_values (put_in constant σ) (literals_at lines n))
    ∙ instance-true i constant lines (demands_of constant lines) (length lines) n σ scene.holds within
    (ap is_clausify (step-there lines n line at ∙ is))
    (has-terms n σ (demands_of constant lines) h)
line-true i constant form lines n line (Para m j s k z u place first second) σ scene before at within is clause names comes demands h =
    two-true i constant lines n m j first second σ (λ ls ks. superposed ls s k ks z u place) (clause_of line.clause)
    (λ ρ ls ks made step. para_is_sound i ρ ls s k ks z u place made step) comes
    (λ l low there is'. before m l (map (instance (put_in constant σ)) first) low there is'
    (demands (demand_for m (map (instance (put_in constant σ)) first)) (inl refl)))
    (λ l low there is'. before j l (map (instance (put_in constant σ)) second) low there is'
    (demands (demand_for j (map (instance (put_in constant σ)) second)) (inr (inl refl))))
line-true i constant form lines n line (Refl m k bind) σ scene before at within is clause names comes demands h =
    one-true i constant lines n m bind σ (λ ls. resolved ls k) (clause_of line.clause)
    (λ ρ ls made step. refl_is_sound i ρ ls k made step) comes
    (λ l low there is'. before m l (map (instance (put_in constant σ)) bind) low there is'
    (demands (demand_for m (map (instance (put_in constant σ)) bind)) (inl refl)))
line-true i constant form lines n line (Factor m j s k z bind) σ scene before at within is clause names comes demands h =
    one-true i constant lines n m bind σ (λ ls. factored ls j s k z) (clause_of line.clause)
    (λ ρ ls made step. factor_is_sound i ρ ls j s k z made step) comes
    (λ l low there is'. before m l (map (instance (put_in constant σ)) bind) low there is'
    (demands (demand_for m (map (instance (put_in constant σ)) bind)) (inl refl)))
line-true i constant form lines n line (Merge m j k bind) σ scene before at within is clause names comes demands h =
    one-true i constant lines n m bind σ (λ ls. merged ls j k) (clause_of line.clause)
    (λ ρ ls made step. merge_is_sound i ρ ls j k made step) comes
    (λ l low there is'. before m l (map (instance (put_in constant σ)) bind) low there is'
    (demands (demand_for m (map (instance (put_in constant σ)) bind)) (inl refl)))
line-true i constant form lines n line (Component name) σ scene before at within is clause names comes demands h = absurd (true≢false names)
line-true i constant form lines n line (Opposite name) σ scene before at within is clause names comes demands h = absurd (true≢false names)
line-true i constant form lines n line (Split m definitions parts) σ scene before at within is clause names comes demands h = absurd (true≢false names)
line-true i constant form lines n line (Chain numbers pivots) σ scene before at within is clause names comes demands h = absurd (true≢false names)

all-before :
    (i : Interpretation) (constant : Tree) (form : List TreeClause) (lines : List Line) → Scene i constant form lines
    → (n : ℕ) → TrueBefore i constant lines n
all-before i constant form lines scene zero m line σ low at is h = absurd (omega (arith, low))
all-before i constant form lines scene (suc n) m line σ low at is h =
    let within : m < length lines = slice_get_within lines m line at in
    ap (literals_true_under i (values_by i constant σ)) (literals-there lines m line at)
    ∙ line-true i constant form lines m line line.step σ scene
    (λ k l τ less. all-before i constant form lines scene n k l τ (omega (arith, less, low)))
    at within refl is (scene.no_names m line at) (scene.derived m line at)
    (λ e a. closed i constant form lines m line σ e scene at within h a) h

-- ---- no line speaks of names

none-speaks :
    (lines : List Line) → any_names lines ≡ false → (n : ℕ) (line : Line) → slice_get lines n ≡ Some line → speaks_of_names line.step ≡ false
none-speaks [] none n line at = absurd (none-some line at)
none-speaks (l ∷ ls) none zero line at =
    ap (λ (m : Line). speaks_of_names m.step) (sym (same_Some l line at)) ∙ (or_parts (speaks_of_names l.step) (any_names ls) none).0
none-speaks (l ∷ ls) none (suc n) line at = none-speaks ls (or_parts (speaks_of_names l.step) (any_names ls) none).1 n line at

-- ---- the law

pub ground_lists_are_refuted : GroundListsAreRefuted
ground_lists_are_refuted is_predicate constant form lines r none i interprets =
    ⊎_elim
    (λ holds.
    let scene : Scene i constant form lines =
    record { derived = r.derived; no_names = none-speaks lines none; holds = holds } in
    let at = last-there form lines r in
    let count : length lines ≡ length r.before + 1 = ap length r.ends ∙ length_push r.before r.last in
    let number : length lines - 1 ≡ length r.before = omega (arith, count) in
    let there : has_demand (demands_of constant lines) (last_line lines) ≡ true =
    all-has constant lines (length lines) (last_line lines ∷ []) (last_line lines)
    (or-first (same_demand (last_line lines) (last_line lines)) false (same-itself (last_line lines))) in
    let true_last : IsTrueFor i constant lines (length r.before) [] =
    all-before i constant form lines scene (length r.before + 1) (length r.before) r.last [] (omega arith) at r.is_clause
    (subst (λ m. has_demand (demands_of constant lines) (demand_for m []) ≡ true) number there) in
    absurd
    (true≢false
    (sym true_last
    ∙ ap (literals_true_under i (values_by i constant []))
    (literals-there lines (length r.before) r.last at ∙ ap (λ (d : TreeClause). d.literals) r.is_empty))))
    (λ fails. fails)
    (cases_Bool (clauses_true i (ground_list constant lines)))
