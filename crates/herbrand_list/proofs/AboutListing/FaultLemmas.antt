-- What faults say.
use Rattle.std.proofs.Common.{◌≡◌, ℕ, ◌+◌, ◌<◌, ◌≤◌, Bool, true, false, List, [], ◌∷◌, ◌++◌, length, min, ◌-◌, ◌^◌, ⊎_elim, refl, sym, ap₂, subst, arith}
use Rattle.std.specs.Prelude.{fold, nat_lt, if◌then◌else◌}
use Rattle.std.specs.List.{list_any}
use Rattle.std.proofs.lemmas.Bool.{true≢false}
use Rattle.std.proofs.lemmas.List.Sums.{sum_by-cons}
use Rattle.list_lemmas.proofs.Bools.{or-either, or-first, or-second}
use Rattle.list_lemmas.proofs.Numbers.{less-says}
use Rattle.fol_base.specs.Tree.{Tree}
use Rattle.kernel_steps.specs.declared.step.Line.{Line}
use Rattle.herbrand_list.specs.declared.fault.TheConstants.{MOST_WEIGHT}
use Rattle.herbrand_list.specs.declared.fault.GroundFault.{GroundFault}
use Rattle.herbrand_list.specs.declared.fault.GroundFault.TheVariants.{Names, Large, NoMemory}
use Rattle.herbrand_list.specs.Demands.{Demand, same_demand, with_demand}
use Rattle.congruence.specs.Keys.{place_of_key}
use Rattle.herbrand_list.specs.GroundList.{ground_size, demanded_instance}
use Rattle.herbrand_list.specs.Worked.{demand_key, demand_weight, weight_of, AreListed, SaysThat, SaysLarge, OneIsLarge}
use Rattle.herbrand_list.proofs.AboutDemands.DemandLemmas.{same-line, same-terms}
use Rattle.herbrand_list.proofs.AboutListing.ArrivalLemmas.{below-from, weight-last, arrives-new}
use Rattle.herbrand_list.proofs.AboutListing.WorkedLemmas.{weight-folded}

-- what is heavy makes something else heavy
pub says-then : (P Q : Type 0) (fault : GroundFault) → (P → Q) → SaysThat P fault → SaysThat Q fault
says-then P Q (Names line) f h = h
says-then P Q Large f h = f h
says-then P Q NoMemory f h = tt

pub says-more : (a b : ℕ) (fault : GroundFault) → a ≤ b → SaysLarge a fault → SaysLarge b fault
says-more a b fault more h = says-then (MOST_WEIGHT < a) (MOST_WEIGHT < b) fault (λ k. omega (arith, k, more)) h

-- a demand that is there weighs no more than all
there-weighs :
    (constant : Tree) (lines : List Line) (demands : List Demand) (d : Demand) → list_any (same_demand d) demands ≡ true
    → demand_weight constant lines d ≤ weight_of constant lines demands
there-weighs constant lines [] d h = absurd (true≢false (sym h))
there-weighs constant lines (e ∷ demands) d h =
    ⊎_elim
    (λ same.
    let weighs : demand_weight constant lines d ≡ demand_weight constant lines e =
    ap₂ (λ (n : ℕ) (ts : List Tree). demand_weight constant lines (record { line = n; terms = ts })) (same-line d e same) (same-terms d e same) in
    omega (arith, weighs, whole))
    (λ later. omega (arith, there-weighs constant lines demands d later, whole))
    (or-either (same_demand d e) (list_any (same_demand d) demands) h)
  where
    whole : weight_of constant lines (e ∷ demands) ≡ demand_weight constant lines e + weight_of constant lines demands
    whole = sum_by-cons (demand_weight constant lines) e demands

-- one that arrives weighs no more than all
pub arrived-weighs :
    (constant : Tree) (lines : List Line) (demands : List Demand) (d : Demand)
    → demand_weight constant lines d ≤ weight_of constant lines (with_demand demands d)
arrived-weighs constant lines demands d = by (list_any (same_demand d) demands) refl
  where
    by :
        (b : Bool) → list_any (same_demand d) demands ≡ b
        → demand_weight constant lines d ≤ weight_of constant lines (if b then demands else demands ++ d ∷ [])
    by true h = there-weighs constant lines demands d h
    by false h = omega (arith, weight-last constant lines demands d)

-- so where one of those that arrive is too heavy, all are
pub one-large :
    (constant : Tree) (lines : List Line) (demands more : List Demand) → OneIsLarge constant lines more
    → MOST_WEIGHT < weight_of constant lines (fold with_demand demands more)
one-large constant lines demands [] h = absurd (true≢false (sym h))
one-large constant lines demands (d ∷ more) h =
    ⊎_elim
    (λ here.
    let large : MOST_WEIGHT < demand_weight constant lines d = less-says MOST_WEIGHT (demand_weight constant lines d) here in
    omega (arith, large, arrived-weighs constant lines demands d, weight-folded constant lines (with_demand demands d) more))
    (λ later. one-large constant lines (with_demand demands d) more later)
    (or-either (nat_lt MOST_WEIGHT (demand_weight constant lines d)) (list_any (λ e. nat_lt MOST_WEIGHT (demand_weight constant lines e)) more) h)

-- a new demand that is too heavy
pub arrives-heavy :
    (constant : Tree) (lines : List Line) (demands : List Demand) (keys rows : List (List ℕ)) (weight size place : ℕ) (d : Demand) (fault : GroundFault)
    → AreListed constant lines demands keys rows weight → place ≡ place_of_key keys (demand_key d) → length demands ≤ place
    → size ≡ min (ground_size (demanded_instance constant lines d.line d.terms)) (2 ^ 64 - 1) → SaysLarge (weight + size + 1) fault
    → SaysLarge (weight_of constant lines (with_demand demands d)) fault
arrives-heavy constant lines demands keys rows weight size place d fault are at high sized h =
    says-more (weight + size + 1) (weight_of constant lines (with_demand demands d)) fault
    (subst (λ ds. weight + size + 1 ≤ weight_of constant lines ds) (sym (arrives-new demands keys place d are.keyed at high).2)
    (omega (arith, are.weighed, weight-last constant lines demands d, sized)))
    h

-- one of two is too heavy, or the only one
pub first-large :
    (constant : Tree) (lines : List Line) (d : Demand) (demands : List Demand) (fault : GroundFault)
    → SaysLarge (demand_weight constant lines d) fault → SaysThat (OneIsLarge constant lines (d ∷ demands)) fault
first-large constant lines d demands fault h =
    says-then (MOST_WEIGHT < demand_weight constant lines d) (OneIsLarge constant lines (d ∷ demands)) fault
    (λ large.
    or-first (nat_lt MOST_WEIGHT (demand_weight constant lines d)) (list_any (λ e. nat_lt MOST_WEIGHT (demand_weight constant lines e)) demands)
    (below-from MOST_WEIGHT (demand_weight constant lines d) large))
    h

pub second-large :
    (constant : Tree) (lines : List Line) (d e : Demand) (fault : GroundFault)
    → SaysLarge (demand_weight constant lines e) fault → SaysThat (OneIsLarge constant lines (d ∷ e ∷ [])) fault
second-large constant lines d e fault h =
    says-then (OneIsLarge constant lines (e ∷ [])) (OneIsLarge constant lines (d ∷ e ∷ [])) fault
    (λ one.
    or-second (nat_lt MOST_WEIGHT (demand_weight constant lines d)) (list_any (λ x. nat_lt MOST_WEIGHT (demand_weight constant lines x)) (e ∷ [])) one)
    (first-large constant lines e [] fault h)
