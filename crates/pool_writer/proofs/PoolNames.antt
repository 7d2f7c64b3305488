-- The names of a pool's lines: the parts for which they stand, and their order; and the order of names in lines that are made anew.
use Rattle.std.proofs.Common.{◌≡◌, ℕ, zero, suc, ◌+◌, ◌≤◌, true, List, [], ◌∷◌, map, drop, length, get_or, Option, None, Some, refl, ap, sym, ◌∙◌, arith}
use Rattle.std.specs.Prelude.{slice_get, option_map}
use Rattle.std.specs.List.{range_with_len, cons_option}
use Rattle.std.proofs.lemmas.Bool.{eq-eqb}
use Rattle.std.proofs.lemmas.Option.{none-some, same_Some, slice_get-get_or}
use Rattle.plain_types.specs.Names.{positive_of, negative_of}
use Rattle.fol_base.specs.Clause.{TreeLiteral}
use Rattle.fol_base.specs.Literal.{clause_of}
use Rattle.kernel_steps.specs.Derivation.{complement, is_component_of}
use Rattle.kernel_steps.specs.ParentNumbers.{with_parents}
use Rattle.kernel_steps.specs.Split.{is_rising}
use Rattle.kernel_steps.specs.declared.step.Step.{Step}
use Rattle.kernel_steps.specs.declared.step.Step.TheVariants.{Input, Negate, Clausify, Para, Refl, Factor, Merge, Component, Opposite, Split, Chain}
use Rattle.kernel_steps.specs.declared.step.Line.{Line}
use Rattle.split_parts.specs.SignedNames.{named}
use Rattle.pool_history.specs.Lines.{introduces}
use Rattle.pool_history.specs.Derived.{component_name, component_names}
use Rattle.pool_history.proofs.AboutLines.NameTableLemmas.{AreTold}
use Rattle.tstp_writer.proofs.AboutNeeded.EarlierLemmas.{component-named}
use Rattle.pool_writer.specs.Bodies.{HasBody, HaveBodies, NamesRise}
use Rattle.pool_writer.specs.Retraced.{place_among, AreRetraced, IsRetraced}
use Rattle.pool_writer.proofs.AboutRetracing.RisingLemmas.{later-greater}
use Rattle.pool_writer.proofs.AboutRetracing.StepLemmas.{component-mapped}

-- ---- the parts for which names stand

pub pool-bodies : (parts : List (List TreeLiteral)) (lines : List Line) → AreTold parts lines → HaveBodies (named parts) lines
pool-bodies parts lines is n line at = by line.step refl
  where
    by : (step : Step) → line.step ≡ step → HasBody (named parts) step (clause_of line.clause)
    by (Component name) step_is =
        let told =
        is.told (positive_of name) n line at (ap (introduces (positive_of name)) step_is ∙ eq-eqb name name refl) in
        slice_get-get_or (named parts) name [] told.0 ∙ ap (λ c. Some c.literals) (sym told.1)
    by (Opposite name) step_is =
        let told =
        is.told (negative_of name) n line at (ap (introduces (negative_of name)) step_is ∙ eq-eqb name name refl) in
        ap (option_map (map complement)) (slice_get-get_or (named parts) name [] told.0) ∙ ap (λ c. Some c.literals) (sym told.1)
    by (Input place) step_is = tt
    by (Negate place) step_is = tt
    by (Clausify i) step_is = tt
    by (Para first second from from_side into into_side place first_bind second_bind) step_is = tt
    by (Refl parent literal bind) step_is = tt
    by (Factor parent becomes becomes_side other other_side bind) step_is = tt
    by (Merge parent stays goes bind) step_is = tt
    by (Split parent definitions shares) step_is = tt
    by (Chain numbers pivots) step_is = tt

-- ---- their order

-- the numbers from one on, without the first
without-first :
    (k : ℕ) (ks : List ℕ) (from count : ℕ) → k ∷ ks ≡ range_with_len from count
    → (rest : ℕ) × (k ≡ from) × (ks ≡ range_with_len (from + 1) rest)
without-first k ks from zero h =
    let none : length (k ∷ ks) ≡ 0 = ap length h in absurd (omega (arith, none))
without-first k ks from (suc count) h = (count, ap (λ xs. get_or xs 0 k) h, ap (drop 1) h)

-- the names after the first line
names-after :
    (o : Option ℕ) (ks : List ℕ) (from count : ℕ) → cons_option o ks ≡ range_with_len from count
    → (first : ℕ) × (rest : ℕ) × (from ≤ first) × (ks ≡ range_with_len first rest)
names-after None ks from count h = (from, count, omega arith, h)
names-after (Some k) ks from count h =
    let rest = without-first k ks from count h in (from + 1, rest.0, omega arith, rest.2)

names-above :
    (lines : List Line) (from count : ℕ) → component_names lines ≡ range_with_len from count
    → (n name : ℕ) (line : Line) → slice_get lines n ≡ Some line → line.step ≡ Component name → from ≤ name
names-above [] from count names n name line at step_is = absurd (none-some line at)
names-above (l ∷ ls) from count names zero name line at step_is =
    let one : component_name l.step ≡ Some name =
    ap (λ (m : Line). component_name m.step) (same_Some l line at) ∙ ap component_name step_is in
    let first = without-first name (component_names ls) from count (ap (λ o. cons_option o (component_names ls)) (sym one) ∙ names) in
    let same : name ≡ from = first.1 in
    omega (arith, same)
names-above (l ∷ ls) from count names (suc n) name line at step_is =
    let after = names-after (component_name l.step) (component_names ls) from count names in
    let low : from ≤ after.0 = after.2 in
    omega (arith, low, names-above ls after.0 after.1 after.3 n name line at step_is)

pub names-rise : (lines : List Line) (from count : ℕ) → component_names lines ≡ range_with_len from count → NamesRise lines
names-rise [] from count names n m name greater line later at later_at less step_is later_is = absurd (none-some line at)
names-rise (l ∷ ls) from count names n zero name greater line later at later_at less step_is later_is = absurd (omega (arith, less))
names-rise (l ∷ ls) from count names zero (suc m) name greater line later at later_at less step_is later_is =
    let one : component_name l.step ≡ Some name =
    ap (λ (k : Line). component_name k.step) (same_Some l line at) ∙ ap component_name step_is in
    let first = without-first name (component_names ls) from count (ap (λ o. cons_option o (component_names ls)) (sym one) ∙ names) in
    let same : name ≡ from = first.1 in
    let low : from + 1 ≤ greater = names-above ls (from + 1) first.0 first.2 m greater later later_at later_is in
    omega (arith, same, low)
names-rise (l ∷ ls) from count names (suc n) (suc m) name greater line later at later_at less step_is later_is =
    let after = names-after (component_name l.step) (component_names ls) from count names in
    names-rise ls after.0 after.1 after.3 n m name greater line later at later_at (omega (arith, less)) step_is later_is

-- ---- in lines that are made anew

-- the line of which a component line is made is a component line
component-back : (to : ℕ → ℕ) (name : ℕ) (step made : Step) → made ≡ with_parents to step → made ≡ Component name → step ≡ Component name
component-back to name step made is made_is =
    component-named name step
    (sym (component-mapped to name step) ∙ ap (is_component_of name) (sym is ∙ made_is) ∙ eq-eqb name name refl)

pub names-rise-anew :
    (numbers : List ℕ) (old made : List Line) → is_rising numbers ≡ true → AreRetraced numbers old made → NamesRise old → NamesRise made
names-rise-anew numbers old made rising retraced rise n m name greater line later at later_at less step_is later_is =
    let one : IsRetraced numbers old n line = retraced.each n line at in
    let two : IsRetraced numbers old m later = retraced.each m later later_at in
    rise one.number two.number name greater one.line two.line one.there two.there
    (later-greater numbers n m one.number two.number rising one.numbered two.numbered less)
    (component-back (place_among numbers) name one.line.step line.step one.step step_is)
    (component-back (place_among numbers) greater two.line.step later.step two.step later_is)
