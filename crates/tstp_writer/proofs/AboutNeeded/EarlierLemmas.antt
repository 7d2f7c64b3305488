-- What a step concludes from is earlier.
use Rattle.std.proofs.Common.{◌≡◌, ℕ, zero, suc, ◌<◌, ◌≤◌, false, ◌==◌, List, [], ◌∷◌, map, take, Option, Some, refl, ap, sym, ◌∙◌, subst, arith, ⊎_elim}
use Rattle.std.specs.Prelude.{slice_get, option_map, IsTrue}
use Rattle.std.proofs.lemmas.Bool.{or_cases, eqb-true, cases_lt, false≢true}
use Rattle.std.proofs.lemmas.Option.{option_and_then_some, none-some}
use Rattle.plain_types.specs.declared.sequence.NameLit.{NameLit}
use Rattle.fol_base.specs.Rules.{superposed, resolved, factored, merged}
use Rattle.fol_base.specs.Clause.{TreeClause}
use Rattle.fol_base.specs.Literal.{clause_of}
use Rattle.fol_base.proofs.WorkedExamples.TestLemmas.{option_map-some}
use Rattle.kernel_steps.specs.Parents.{Parent, Parents, all_there}
use Rattle.kernel_steps.specs.Conclusion.{concludes, verdict, names_alone, names_at}
use Rattle.kernel_steps.specs.Derivation.{line_parents, component_clause, is_component_of, ComesBy, IsComponent, IsDerivation}
use Rattle.kernel_steps.specs.declared.step.Step.{Step}
use Rattle.kernel_steps.specs.declared.step.Step.TheVariants.{Input, Negate, Clausify, Para, Refl, Factor, Merge, Component, Opposite, Split, Chain}
use Rattle.kernel_steps.specs.declared.step.Line.{Line}
use Rattle.kernel_steps.proofs.AboutCalls.LineLemmas.{parent_line, component_clause-earlier}
use Rattle.kernel_steps.proofs.AboutCalls.VerdictParts.{by_one-parts, by_two-parts, split-parts, chain-parts}
use Rattle.tstp_writer.specs.Cone.{has_number, needs}
use Rattle.tstp_writer.specs.ConeLaws.{DerivationsNeedEarlier}

-- each number of a list that is looked up whole is there
pub looked-up :
    {X : Type 0} (look : ℕ → Option X) (ns : List ℕ) (xs : List X) (k : ℕ)
    → all_there (map look ns) ≡ Some xs → IsTrue (has_number ns k) → (x : X) × (look k ≡ Some x)
looked-up look [] xs k there has = absurd (false≢true has)
looked-up look (n ∷ ns) xs k there has =
    option_and_then_some (λ x. option_map (λ ys. x ∷ ys) (all_there (map look ns))) (look n) xs there λ x x_is x_step.
    option_map-some (λ ys. x ∷ ys) (all_there (map look ns)) xs x_step λ ys ys_is gives.
    ⊎_elim (λ same. (x, ap look (sym (eqb-true n k same)) ∙ x_is)) (λ later. looked-up look ns ys k ys_is later)
    (or_cases (n == k) (has_number ns k) has)

module _ (lines : List Line) (n : ℕ) where
  abbrev parents : Parents
  parents = line_parents (take n lines)

  -- a parent among the first lines is earlier
  there-earlier : (k : ℕ) (p : Parent) → parents k ≡ Some p → k < n
  there-earlier k p there = (parent_line lines n k p there).earlier

  -- the one number of a list
  one-earlier : (a k : ℕ) (p : Parent) → parents a ≡ Some p → IsTrue (has_number (a ∷ []) k) → k < n
  one-earlier a k p there has =
      ⊎_elim (λ same. subst (λ j. j < n) (eqb-true a k same) (there-earlier a p there)) (λ none. absurd (false≢true none))
      (or_cases (a == k) false has)

  names-earlier : (k : ℕ) → (x : List NameLit) × (names_at parents k ≡ Some x) → k < n
  names-earlier k found =
      option_and_then_some names_alone (parents k) found.0 found.1 λ p p_is step. there-earlier k p p_is

  step-earlier :
      (step : Step) (c : TreeClause) (k : ℕ) (other : Line) → verdict step parents ≡ concludes c → IsTrue (needs step k other) → k < n
  step-earlier (Para first second from from_side into into_side place first_bind second_bind) c k other made need =
      let parts = by_two-parts (parents first) first_bind (parents second) second_bind (λ ls ks. superposed ls from from_side ks into into_side place) c made in
      ⊎_elim (λ same. subst (λ j. j < n) (eqb-true first k same) (there-earlier first parts.source parts.first_there))
      (λ later. one-earlier second k parts.target parts.second_there later)
      (or_cases (first == k) (has_number (second ∷ []) k) need)
  step-earlier (Refl parent literal bind) c k other made need =
      let parts = by_one-parts (parents parent) bind (λ ls. resolved ls literal) c made in one-earlier parent k parts.source parts.there need
  step-earlier (Factor parent becomes becomes_side other_literal other_side bind) c k other made need =
      let parts = by_one-parts (parents parent) bind (λ ls. factored ls becomes becomes_side other_literal other_side) c made in one-earlier parent k parts.source parts.there need
  step-earlier (Merge parent stays goes bind) c k other made need =
      let parts = by_one-parts (parents parent) bind (λ ls. merged ls stays goes) c made in one-earlier parent k parts.source parts.there need
  step-earlier (Split parent definitions shares) c k other made need =
      let parts = split-parts (parents parent) (map parents definitions) shares c made in
      ⊎_elim (λ same. subst (λ j. j < n) (eqb-true parent k same) (there-earlier parent parts.source parts.there))
      (λ later. let found = looked-up parents definitions parts.defined k parts.definitions_there later in there-earlier k found.0 found.1)
      (or_cases (parent == k) (has_number definitions k) need)
  step-earlier (Chain numbers pivots) c k other made need =
      let parts = chain-parts parents numbers pivots c made in
      names-earlier k (looked-up (names_at parents) numbers parts.lists k parts.there need)
  step-earlier _ c k other made need = absurd (cc)

take-take : {X : Type 0} (n m : ℕ) (xs : List X) → n ≤ m → take n (take m xs) ≡ take n xs
take-take zero m xs low = refl
take-take (suc n) zero xs low = absurd (omega (arith, low))
take-take (suc n) (suc m) [] low = refl
take-take (suc n) (suc m) (x ∷ xs) low = ap (λ ys. x ∷ ys) (take-take n m xs (omega (arith, low)))

-- the name of a component line
pub component-named : (name : ℕ) (step : Step) → IsTrue (is_component_of name step) → step ≡ Component name
component-named name (Component k) is_one = ap Component (eqb-true k name is_one)
component-named name _ is_one = absurd (false≢true is_one)

-- the component line of an opposite line's name
component-earlier :
    (form : List TreeClause) (lines : List Line) → IsDerivation form lines
    → (n m name : ℕ) (c : TreeClause) (other : Line)
    → component_clause name (take n lines) ≡ Some c → slice_get lines m ≡ Some other → IsTrue (is_component_of name other.step) → m < n
component-earlier form lines derived n m name c other there at is_one =
    ⊎_elim (λ less. less)
    (λ most.
    let new : IsComponent name (take m lines) (clause_of other.clause) =
    subst (λ step. ComesBy step form (take m lines) (clause_of other.clause)) (component-named name other.step is_one) (derived m other at) in
    absurd (none-some c (sym new.is_new ∙ component_clause-earlier (take m lines) n name c (ap (component_clause name) (take-take n m lines most) ∙ there))))
    (cases_lt m n)

pub need-earlier : DerivationsNeedEarlier
need-earlier form lines derived n m line other here there need = by line.step (derived n line here) need
  where
    by : (step : Step) → ComesBy step form (take n lines) (clause_of line.clause) → IsTrue (needs step m other) → m < n
    by (Opposite name) comes is_one = component-earlier form lines derived n m name comes.component other comes.introduced there is_one
    by (Input place) comes none = absurd (false≢true none)
    by (Negate place) comes none = absurd (false≢true none)
    by (Clausify i) comes none = absurd (false≢true none)
    by (Component name) comes none = absurd (false≢true none)
    by step comes has = step-earlier lines n step (clause_of line.clause) m other comes has
