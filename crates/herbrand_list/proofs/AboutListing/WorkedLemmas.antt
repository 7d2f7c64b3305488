-- Lines that are worked one after another.
use Rattle.std.proofs.Common.{◌≡◌, ℕ, zero, suc, ◌+◌, ◌-◌, ◌<◌, ◌≤◌, Bool, true, false, List, [], ◌∷◌, ◌++◌, length, map, take, drop, get_or, if◌then◌else◌, refl, sym, ap, subst, ◌∙◌, arith}
use Rattle.std.specs.Prelude.{flat_map, fold}
use Rattle.std.specs.List.{list_any, AllByRecursion}
use Rattle.std.proofs.lemmas.List.{take_more, take-append-drop}
use Rattle.std.proofs.lemmas.List.Sums.{fold-append}
use Rattle.std.proofs.lemmas.Grind.{flat_map-append}
use Rattle.list_lemmas.proofs.Numbers.{not-same}
use Rattle.fol_base.specs.Tree.{Tree}
use Rattle.fol_base.specs.Instance.{instance}
use Rattle.kernel_steps.specs.declared.step.Line.{Line}
use Rattle.kernel_steps.specs.declared.step.Step.{Step}
use Rattle.herbrand_list.specs.Demands.{Demand, put_in, demanded_by, same_demand, with_demand, terms_for, step_at, worked, all_worked}
use Rattle.herbrand_list.specs.Worked.{weight_of}
use Rattle.herbrand_list.proofs.AboutListing.ArrivalLemmas.{terms-last, weight-grows}

-- ---- nothing gets lighter

pub weight-folded :
    (constant : Tree) (lines : List Line) (demands more : List Demand) → weight_of constant lines demands ≤ weight_of constant lines (fold with_demand demands more)
weight-folded constant lines demands [] = omega arith
weight-folded constant lines demands (d ∷ more) =
    omega (arith, weight-grows constant lines demands d, weight-folded constant lines (with_demand demands d) more)

pub weight-all-worked :
    (constant : Tree) (lines : List Line) (n : ℕ) (demands : List Demand)
    → weight_of constant lines demands ≤ weight_of constant lines (all_worked constant lines n demands)
weight-all-worked constant lines zero demands = omega arith
weight-all-worked constant lines (suc n) demands =
    omega (
      arith,
      weight-folded constant lines demands (flat_map (demanded_by constant (step_at lines n)) (terms_for n demands)),
      weight-all-worked constant lines n (worked constant lines n demands),
    )

-- ---- what a line demands is of other lines

pub terms-other : (n : ℕ) (demands : List Demand) (d : Demand) → (d.line ≡ n → ⊥) → terms_for n (with_demand demands d) ≡ terms_for n demands
terms-other n demands d other = by (list_any (same_demand d) demands)
  where
    by : (b : Bool) → terms_for n (if b then demands else demands ++ d ∷ []) ≡ terms_for n demands
    by true = refl
    by false = terms-last n demands d ∙ ap (λ b. if b then terms_for n demands ++ d.terms ∷ [] else terms_for n demands) (not-same d.line n other)

pub terms-demanded :
    (constant : Tree) (n : ℕ) (terms : List Tree) (parents : List (ℕ × List Tree)) (demands : List Demand) → AllByRecursion (λ (p : ℕ × List Tree). p.0 < n) parents
    → terms_for n (fold with_demand demands (map (λ (p : ℕ × List Tree). record { line = p.0; terms = map (instance (put_in constant terms)) p.1 }) parents))
    ≡ terms_for n demands
terms-demanded constant n terms [] demands all = refl
terms-demanded constant n terms (p ∷ parents) demands all =
    let low : p.0 < n = all.0 in
    let d : Demand = record { line = p.0; terms = map (instance (put_in constant terms)) p.1 } in
    terms-demanded constant n terms parents (with_demand demands d) all.1
    ∙ terms-other n demands d (λ e. absurd (omega (arith, e, low)))

-- ---- a line, one demand after another

-- one more demand of the line
pub worked-more :
    (constant : Tree) (step : Step) (demands : List Demand) (terms : List (List Tree)) (i : ℕ) → i < length terms
    → fold with_demand demands (flat_map (demanded_by constant step) (take (i + 1) terms))
    ≡ fold with_demand (fold with_demand demands (flat_map (demanded_by constant step) (take i terms))) (demanded_by constant step (get_or terms i []))
worked-more constant step demands terms i low =
    ap (λ ks. fold with_demand demands (flat_map (demanded_by constant step) ks)) (take_more terms i [] low)
    ∙ ap (fold with_demand demands) (flat_map-append (demanded_by constant step) (take i terms) (get_or terms i [] ∷ []))
    ∙ fold-append with_demand demands (flat_map (demanded_by constant step) (take i terms)) (flat_map (demanded_by constant step) (get_or terms i [] ∷ []))
    ∙ ap (fold with_demand (fold with_demand demands (flat_map (demanded_by constant step) (take i terms)))) (alone (demanded_by constant step (get_or terms i [])))
  where
    alone : (ds : List Demand) → ds ++ [] ≡ ds
    alone [] = refl
    alone (d ∷ ds) = ap (λ es. d ∷ es) (alone ds)

-- one more, as the demands stand after those before it
pub step-more :
    (constant : Tree) (step : Step) (n : ℕ) (before mid : List Demand) (i : ℕ) → i < length (terms_for n before)
    → mid ≡ fold with_demand before (flat_map (demanded_by constant step) (take i (terms_for n before))) → terms_for n mid ≡ terms_for n before
    → fold with_demand mid (demanded_by constant step (get_or (terms_for n mid) i []))
    ≡ fold with_demand before (flat_map (demanded_by constant step) (take (i + 1) (terms_for n before)))
step-more constant step n before mid i low so_far own =
    ap (λ ts. fold with_demand mid (demanded_by constant step (get_or ts i []))) own
    ∙ ap (λ ds. fold with_demand ds (demanded_by constant step (get_or (terms_for n before) i []))) so_far
    ∙ sym (worked-more constant step before (terms_for n before) i low)

-- the first demands of a line weigh no more than all
pub part-lighter :
    (constant : Tree) (lines : List Line) (step : Step) (demands : List Demand) (terms : List (List Tree)) (i : ℕ)
    → weight_of constant lines (fold with_demand demands (flat_map (demanded_by constant step) (take i terms)))
    ≤ weight_of constant lines (fold with_demand demands (flat_map (demanded_by constant step) terms))
part-lighter constant lines step demands terms i =
    subst (λ ds. weight_of constant lines (fold with_demand demands (flat_map (demanded_by constant step) (take i terms))) ≤ weight_of constant lines ds)
    (sym
    (ap (λ ts. fold with_demand demands (flat_map (demanded_by constant step) ts)) (sym (take-append-drop i terms))
    ∙ ap (fold with_demand demands) (flat_map-append (demanded_by constant step) (take i terms) (drop i terms))
    ∙ fold-append with_demand demands (flat_map (demanded_by constant step) (take i terms)) (flat_map (demanded_by constant step) (drop i terms))))
    (weight-folded constant lines (fold with_demand demands (flat_map (demanded_by constant step) (take i terms)))
    (flat_map (demanded_by constant step) (drop i terms)))

-- ---- lines from the last to the first

pub worked-one :
    (constant : Tree) (lines : List Line) (demands : List Demand) (n i : ℕ) → 0 < i → n ≡ i - 1
    → all_worked constant lines n (worked constant lines n demands) ≡ all_worked constant lines i demands
worked-one constant lines demands n zero some e = absurd (omega (arith, some))
worked-one constant lines demands n (suc k) some e =
    let same : n ≡ k = omega (arith, e) in
    ap (λ m. all_worked constant lines m (worked constant lines m demands)) same

-- a line that is worked weighs no more than all
pub worked-lighter :
    (constant : Tree) (lines : List Line) (demands : List Demand) (n i : ℕ) → 0 < i → n ≡ i - 1
    → weight_of constant lines (worked constant lines n demands) ≤ weight_of constant lines (all_worked constant lines i demands)
worked-lighter constant lines demands n i some e =
    subst (λ ds. weight_of constant lines (worked constant lines n demands) ≤ weight_of constant lines ds)
    (worked-one constant lines demands n i some e)
    (weight-all-worked constant lines n (worked constant lines n demands))
