-- The lines that are made again, one after another.
use Rattle.std.proofs.Common.{◌≡◌, ◌⊎◌, ℕ, zero, suc, ◌+◌, ◌-◌, ◌<◌, ◌≤◌, inl, inr, Bool, true, false, ◌&&◌, List, [], ◌∷◌, ◌++◌, take, length, get_or, Some, None, refl, ap, ap₂, sym, ◌∙◌, subst, arith, ⊎_elim, length-append}
use Rattle.std.specs.Prelude.{slice_get, option_and_then, nat_le}
use Rattle.std.proofs.lemmas.Bool.{and_from, and_parts, cond-true, leb-true, le-leb, cases_lt}
use Rattle.std.proofs.lemmas.List.{take-append-le, length-map}
use Rattle.std.proofs.Math.Seq.{take-append_seam}
use Rattle.std.proofs.lemmas.Option.{none-some, same_Some, slice_get_within, slice_get-get_or}
use Rattle.fol_base.specs.Clause.{TreeLiteral, TreeClause}
use Rattle.fol_base.specs.Literal.{clause_of}
use Rattle.kernel_steps.specs.Parents.{Parent}
use Rattle.kernel_steps.specs.Derivation.{is_clause_step, introduces_name, is_component_of, component_clause, line_parent, line_parents, ComesBy, IsDerivation, IsRefutation}
use Rattle.kernel_steps.specs.Lines.{step_parents}
use Rattle.kernel_steps.specs.Split.{has_number}
use Rattle.kernel_steps.specs.declared.step.Step.{Step}
use Rattle.kernel_steps.specs.declared.step.Step.TheVariants.{Component, Opposite}
use Rattle.kernel_steps.specs.declared.step.Line.{Line}
use Rattle.kernel_steps.proofs.AboutCalls.LineLemmas.{slice_get-take, ParentLine, parent_line, last-there}
use Rattle.kernel_steps.specs.ParentNumbers.{with_parents}
use Rattle.tstp_writer.specs.Cone as cone
use Rattle.tstp_writer.proofs.AboutNeeded.ConeLemmas.{step-needs}
use Rattle.pool_writer.specs.Bodies.{HaveBodies, ComesWithBody}
use Rattle.pool_writer.specs.Retraced.{place_among, steps_of, AreRefutingSteps, IsRetraced, IsRetracing}
use Rattle.pool_writer.proofs.AboutRetracing.NeededLemmas.{same-number, AreNeeded}
use Rattle.pool_writer.proofs.AboutRetracing.RisingLemmas.{later-greater, less-earlier, at-has, place-of, there-at-place}
use Rattle.pool_writer.proofs.AboutRetracing.StepLemmas.{parent_by, mapped-parent, mapped-clause_step, mapped-body, component-mapped, comes-once, comes-mapped, needs-mapped, step-at, line-at, parent-at, steps-earlier}
use Rattle.pool_writer.proofs.AboutRetracing.NameLemmas.{component-at, none-component, no-component, one-component, is-definition, one-definition}

-- ---- lists

-- an item of a list with one more at its end
at-end : {X : Type 0} (xs : List X) (x y : X) (k : ℕ) → slice_get (xs ++ x ∷ []) k ≡ Some y → (slice_get xs k ≡ Some y) ⊎ ((k ≡ length xs) × (x ≡ y))
at-end [] x y zero at = inr (refl, same_Some x y at)
at-end [] x y (suc k) at = absurd (none-some y at)
at-end (z ∷ zs) x y zero at = inl at
at-end (z ∷ zs) x y (suc k) at = ⊎_elim inl (λ last. let is : suc k ≡ length (z ∷ zs) = omega (arith, last.0) in inr (is, last.1)) (at-end zs x y k at)

-- the last item stands at the end
ends-with : {X : Type 0} (xs : List X) (x : X) (k : ℕ) → length xs ≡ suc k → slice_get xs k ≡ Some x → xs ≡ take k xs ++ x ∷ []
ends-with [] x k long at = absurd (none-some x at)
ends-with (y ∷ []) x zero long at = ap (λ z. z ∷ []) (same_Some y x at)
ends-with (y ∷ z ∷ zs) x zero long at = absurd (omega (arith, long))
ends-with (y ∷ ys) x (suc k) long at = ap (λ zs. y ∷ zs) (ends-with ys x k (omega (arith, long)) at)

-- an item stands in a front that is long enough
in-front : {X : Type 0} (xs : List X) (n k : ℕ) (x : X) → k < n → slice_get xs k ≡ Some x → slice_get (take n xs) k ≡ Some x
in-front [] n k x less at = absurd (none-some x at)
in-front (y ∷ ys) zero k x less at = absurd (omega (arith, less))
in-front (y ∷ ys) (suc n) zero x less at = at
in-front (y ∷ ys) (suc n) (suc k) x less at = in-front ys n k x (omega (arith, less)) at

-- ---- the numbers that are needed

module _ (steps : List Step) (numbers : List ℕ) (needed : AreNeeded steps numbers) where
  -- the last step is one of them
  pub last-needed : has_number (length steps - 1) numbers ≡ true
  last-needed = (needed.exact (length steps - 1)).1 (λ set last closed. last)

  parent-needed :
      (n m : ℕ) (step other : Step) → slice_get steps n ≡ Some step → slice_get steps m ≡ Some other → has_number n numbers ≡ true
      → cone.needs_step step m other ≡ true → has_number m numbers ≡ true
  parent-needed n m step other at other_at inside need =
      (needed.exact m).1 (λ set last closed. closed n m step other at other_at ((needed.exact n).0 inside set last closed) need)

  -- and the greatest
  pub needed-low : cone.StepsNeedEarlier steps → (n : ℕ) → has_number n numbers ≡ true → n ≤ length steps - 1
  needed-low earlier n inside =
      leb-true n (length steps - 1)
      ((needed.exact n).0 inside (λ k. nat_le k (length steps - 1)) (le-leb (length steps - 1) (length steps - 1) (omega arith))
      (λ k m step other at other_at low need.
      let less : m < k = earlier k m step other at other_at need in
      le-leb m (length steps - 1) (omega (arith, less, leb-true k (length steps - 1) low))))

-- ---- one more line

-- what holds of the lines that were made so far
pub record IsBuilt (form : List TreeClause) (bodies : List (List TreeLiteral)) (steps : List Step) (numbers : List ℕ) (count : ℕ) (made : List Line) : Type 0 where
  pub long : length made ≡ count
  pub derived : IsDerivation form made
  pub lines :
      (old : List Line) → IsDerivation form old → HaveBodies bodies old → steps_of old ≡ steps
      → (place : ℕ) (line : Line) → slice_get made place ≡ Some line → IsRetraced numbers old place line

pub built-none : (form : List TreeClause) (bodies : List (List TreeLiteral)) (steps : List Step) (numbers : List ℕ) → IsBuilt form bodies steps numbers 0 []
built-none form bodies steps numbers = record {
  long = refl;
  derived = λ n line at. absurd (none-some line at);
  lines = λ old derived have same place line at. absurd (none-some line at);
}

-- the line that was made for another one
record IsMadeFor (made : List Line) (numbers : List ℕ) (m : ℕ) (other : Line) : Type 0 where
  line : Line
  there : slice_get made (place_among numbers m) ≡ Some line
  step : line.step ≡ with_parents (place_among numbers) other.step
  clause : clause_of line.clause ≡ clause_of other.clause

module _ (form : List TreeClause) (bodies : List (List TreeLiteral)) (steps : List Step)
    (numbers : List ℕ) (needed : AreNeeded steps numbers)
    (count number : ℕ) (numbered : slice_get numbers count ≡ Some number)
    (made : List Line) (built : IsBuilt form bodies steps numbers count made)
  where
    -- a line of a derivation that has these steps concludes the same from the lines made so far
    module _ (old : List Line) (derived : IsDerivation form old) (have : HaveBodies bodies old) (same : steps_of old ≡ steps)
        (line : Line) (at : slice_get old number ≡ Some line)
      where
        -- the lines that it needs were made
        made-for :
            (m : ℕ) (other : Line) → slice_get old m ≡ Some other → m < number → cone.needs_step line.step m other.step ≡ true
            → IsMadeFor made numbers m other
        made-for m other there earlier need =
            let inside : has_number m numbers ≡ true =
            parent-needed steps numbers needed number m line.step other.step (step-at form steps old derived same number line at)
            (step-at form steps old derived same m other there) (at-has numbers count number numbered) need in
            let place : ℕ = place_among numbers m in
            let stands : slice_get numbers place ≡ Some m = there-at-place numbers m needed.rising inside in
            let before : place < count = less-earlier numbers place count m number needed.rising stands numbered earlier in
            let anew : Line = get_or made place line in
            let found : slice_get made place ≡ Some anew = slice_get-get_or made place line (omega (arith, before, built.long)) in
            let is : IsRetraced numbers old place anew = built.lines old derived have same place anew found in
            let number_is : is.number ≡ m = same_Some is.number m (sym is.numbered ∙ stands) in
            let line_is : is.line ≡ other = same_Some is.line other (sym is.there ∙ ap (slice_get old) number_is ∙ there) in
            record {
              line = anew;
              there = found;
              step = is.step ∙ ap (λ (l : Line). with_parents (place_among numbers) l.step) line_is;
              clause = is.clause ∙ ap (λ (l : Line). clause_of l.clause) line_is;
            }

        same-parent :
            (m : ℕ) → has_number m (step_parents line.step) ≡ true
            → line_parents made (place_among numbers m) ≡ line_parents (take number old) m
        same-parent m has =
            let parent = parent-at form steps old derived same number m line at has in
            let before : ParentLine old number m parent.0 = parent_line old number m parent.0 parent.1 in
            let anew : IsMadeFor made numbers m before.line =
            made-for m before.line before.there before.earlier (step-needs line.step m before.line (same-number (step_parents line.step) m ∙ has)) in
            ap (option_and_then line_parent) anew.there
            ∙ ap₂ parent_by anew.step anew.clause
            ∙ mapped-parent (place_among numbers) before.line.step (clause_of before.line.clause)
            ∙ cond-true (is_clause_step before.line.step) (Some (record { clause = clause_of before.line.clause; introduces = introduces_name before.line.step })) None before.is_clause
            ∙ ap (λ (p : Parent). Some p) before.gives
            ∙ sym parent.1

        -- the line of which a made line is the copy, before this one
        copied : (place : ℕ) (anew : Line) → slice_get made place ≡ Some anew → (name : ℕ) (b : Bool)
            → ((n : ℕ) (other : Line) → slice_get (take number old) n ≡ Some other → is_component_of name other.step ≡ b)
            → is_component_of name anew.step ≡ b
        copied place anew there name b each =
            let is : IsRetraced numbers old place anew = built.lines old derived have same place anew there in
            let within : place < length made = slice_get_within made place anew there in
            let less : is.number < number =
            later-greater numbers place count is.number number needed.rising is.numbered numbered (omega (arith, within, built.long)) in
            ap (is_component_of name) is.step
            ∙ component-mapped (place_among numbers) name is.line.step
            ∙ each is.number is.line (in-front old number is.number is.line less is.there)

        -- a new name is new
        name-new : (name : ℕ) → line.step ≡ Component name → component_clause name (take number old) ≡ None → component_clause name made ≡ None
        name-new name step_is none =
            none-component name made (λ place anew there. copied place anew there name false (no-component name (take number old) none))

        -- and a name that was introduced is introduced
        name-there :
            (name : ℕ) (d : TreeClause) → line.step ≡ Opposite name → component_clause name (take number old) ≡ Some d → component_clause name made ≡ Some d
        name-there name d step_is there =
            let at_front = component-at (take number old) name d there in
            let found = slice_get-take old number at_front.number at_front.line at_front.there in
            let need : cone.needs_step line.step at_front.number at_front.line.step ≡ true =
            subst (λ (s : Step). cone.needs_step s at_front.number at_front.line.step ≡ true) (sym step_is) at_front.is_one in
            let anew : IsMadeFor made numbers at_front.number at_front.line = made-for at_front.number at_front.line found.1 found.0 need in
            one-component name d made
            (λ place other other_there is_one.
            let is : IsRetraced numbers old place other = built.lines old derived have same place other other_there in
            let is_one_too : is_component_of name is.line.step ≡ true =
            sym (component-mapped (place_among numbers) name is.line.step) ∙ sym (ap (is_component_of name) is.step) ∙ is_one in
            is.clause
            ∙ one-definition bodies name (clause_of is.line.clause) (clause_of at_front.line.clause)
            (is-definition form bodies old derived have name is.number is.line is.there is_one_too)
            (is-definition form bodies old derived have name at_front.number at_front.line found.1 at_front.is_one)
            ∙ at_front.clause_is)
            (place_among numbers at_front.number) anew.line anew.there
            (ap (is_component_of name) anew.step ∙ component-mapped (place_among numbers) name at_front.line.step ∙ at_front.is_one)

        comes-anew : ComesWithBody form bodies (with_parents (place_among numbers) line.step) made (clause_of line.clause)
        comes-anew = record {
          comes =
              comes-mapped (place_among numbers) form (take number old) made line.step (clause_of line.clause)
              same-parent name-new name-there (derived number line at);
          body = mapped-body bodies (place_among numbers) line.step (clause_of line.clause) (have number line at);
        }

    module _ (step : Step) (step_at : slice_get steps number ≡ Some step) where
      pub can-conclude :
          (old : List Line) → IsDerivation form old → HaveBodies bodies old → steps_of old ≡ steps
          → (c : TreeClause) × ComesWithBody form bodies (with_parents (place_among numbers) step) made c
      can-conclude old derived have same =
          let found = line-at form steps old derived same number step step_at in (
            clause_of found.0.clause,
            subst (λ (s : Step). ComesWithBody form bodies (with_parents (place_among numbers) s) made (clause_of found.0.clause)) found.2
                (comes-anew old derived have same found.0 found.1),
          )

      module _ (anew : Line) (by_step : anew.step ≡ with_parents (place_among numbers) step) (comes : ComesWithBody form bodies anew.step made (clause_of anew.clause)) where
        derived-more : IsDerivation form (made ++ anew ∷ [])
        derived-more n line at =
            ⊎_elim
            (λ before.
            let within : n < length made = slice_get_within made n line before in
            subst (λ (ls : List Line). ComesBy line.step form ls (clause_of line.clause)) (sym (take-append-le n made (anew ∷ []) (omega (arith, within))))
            (built.derived n line before))
            (λ (last : (n ≡ length made) × (anew ≡ line)).
            subst (λ (l : Line). ComesBy l.step form (take n (made ++ anew ∷ [])) (clause_of l.clause)) last.1
            (subst (λ (ls : List Line). ComesBy anew.step form ls (clause_of anew.clause))
            (sym (ap (λ k. take k (made ++ anew ∷ [])) last.0 ∙ take-append_seam made (anew ∷ []))) comes.comes))
            (at-end made anew line n at)

        anew-retraced : (old : List Line) → IsDerivation form old → HaveBodies bodies old → steps_of old ≡ steps → IsRetraced numbers old count anew
        anew-retraced old derived have same =
            let found = line-at form steps old derived same number step step_at in record {
              number = number;
              numbered = numbered;
              line = found.0;
              there = found.1;
              step = by_step ∙ ap (with_parents (place_among numbers)) (sym found.2);
              clause =
                  comes-once form bodies made (with_parents (place_among numbers) found.0.step) (clause_of anew.clause) (clause_of found.0.clause)
                  (subst (λ (s : Step). ComesWithBody form bodies s made (clause_of anew.clause)) (by_step ∙ ap (with_parents (place_among numbers)) (sym found.2)) comes)
                  (comes-anew old derived have same found.0 found.1);
            }

        pub built-one-more : IsBuilt form bodies steps numbers (count + 1) (made ++ anew ∷ [])
        built-one-more = record {
          long = let more : length (made ++ anew ∷ []) ≡ length made + 1 = length-append made (anew ∷ []) in omega (arith, more, built.long);
          derived = derived-more;
          lines =
              λ old derived have same place line at.
              ⊎_elim (λ before. built.lines old derived have same place line before)
              (λ (last : (place ≡ length made) × (anew ≡ line)).
              subst (λ (l : Line). IsRetraced numbers old place l) last.1
              (subst (λ k. IsRetraced numbers old k anew) (sym (last.0 ∙ built.long)) (anew-retraced old derived have same)))
              (at-end made anew line place at);
        }

-- ---- all lines

module _ (form : List TreeClause) (bodies : List (List TreeLiteral)) (steps : List Step) (are : AreRefutingSteps form bodies steps) where
  pub refuting-earlier : cone.StepsNeedEarlier steps
  refuting-earlier = steps-earlier form steps are.lines are.refutes.derived are.same

  long : length steps ≡ length are.refutes.before + 1
  long =
      ap length (sym are.same)
      ∙ length-map are.lines (λ (l : Line). l.step)
      ∙ ap length are.refutes.ends
      ∙ length-append are.refutes.before (are.refutes.last ∷ [])

  pub some-step : 0 < length steps
  some-step = omega (arith, long)

  -- the last line of the refutation
  last-stands : slice_get are.lines (length steps - 1) ≡ Some are.refutes.last
  last-stands =
      ap (slice_get are.lines) (let same : length steps - 1 ≡ length are.refutes.before = omega (arith, long) in same)
      ∙ last-there form are.lines are.refutes

  module _ (numbers : List ℕ) (needed : AreNeeded steps numbers) (made : List Line) (built : IsBuilt form bodies steps numbers (length numbers) made) where
    pub is-retracing : cone.IsStepCone steps (length steps - 1) numbers → IsRetracing form bodies steps made
    is-retracing is_cone = record {
      numbers = numbers;
      needed = is_cone;
      lines = λ old derived have same. record { count = built.long; each = built.lines old derived have same };
    }

    abbrev place : ℕ
    place = place_among numbers (length steps - 1)

    last-numbered : slice_get numbers place ≡ Some (length steps - 1)
    last-numbered = there-at-place numbers (length steps - 1) needed.rising (last-needed steps numbers needed)

    within : place < length numbers
    within = slice_get_within numbers place (length steps - 1) last-numbered

    -- no number stands after the last step's
    at-the-end : length numbers ≡ suc place
    at-the-end =
        ⊎_elim
        (λ more.
        let next : ℕ = get_or numbers (suc place) 0 in
        let there : slice_get numbers (suc place) ≡ Some next = slice_get-get_or numbers (suc place) 0 more in
        let greater : length steps - 1 < next = later-greater numbers place (suc place) (length steps - 1) next needed.rising last-numbered there (omega arith) in
        let low : next ≤ length steps - 1 = needed-low steps numbers needed refuting-earlier next (at-has numbers (suc place) next there) in
        absurd (omega (arith, greater, low)))
        (λ most. omega (arith, most, within))
        (cases_lt (suc place) (length numbers))

    abbrev anew : Line
    anew = get_or made place are.refutes.last

    anew-there : slice_get made place ≡ Some anew
    anew-there = slice_get-get_or made place are.refutes.last (omega (arith, within, built.long))

    -- the last line, which is that of the refutation
    is-last : IsRetraced numbers are.lines place anew
    is-last = built.lines are.lines are.refutes.derived are.bodies_are are.same place anew anew-there

    same-line : is-last.line ≡ are.refutes.last
    same-line =
        same_Some is-last.line are.refutes.last
        (sym is-last.there
        ∙ ap (slice_get are.lines) (same_Some is-last.number (length steps - 1) (sym is-last.numbered ∙ last-numbered))
        ∙ last-stands)

    pub is-refutation : IsRefutation form made
    is-refutation = record {
      derived = built.derived;
      before = take place made;
      last = anew;
      ends = ends-with made anew place (built.long ∙ at-the-end) anew-there;
      is_clause =
          ap is_clause_step is-last.step
          ∙ mapped-clause_step (place_among numbers) is-last.line.step
          ∙ ap (λ (l : Line). is_clause_step l.step) same-line
          ∙ are.refutes.is_clause;
      is_empty = is-last.clause ∙ ap (λ (l : Line). clause_of l.clause) same-line ∙ are.refutes.is_empty;
    }

    -- ---- all lines are needed

    -- the line that was made for a step that is needed
    made-at :
        (n : ℕ) (step : Step) → slice_get steps n ≡ Some step → has_number n numbers ≡ true
        → (line : Line) × (slice_get made (place_among numbers n) ≡ Some line) × (line.step ≡ with_parents (place_among numbers) step)
    made-at n step at inside =
        let stands : slice_get numbers (place_among numbers n) ≡ Some n = there-at-place numbers n needed.rising inside in
        let low : place_among numbers n < length numbers = slice_get_within numbers (place_among numbers n) n stands in
        let line : Line = get_or made (place_among numbers n) are.refutes.last in
        let there : slice_get made (place_among numbers n) ≡ Some line =
        slice_get-get_or made (place_among numbers n) are.refutes.last (omega (arith, low, built.long)) in
        let is : IsRetraced numbers are.lines (place_among numbers n) line =
        built.lines are.lines are.refutes.derived are.bodies_are are.same (place_among numbers n) line there in
        let number_is : is.number ≡ n = same_Some is.number n (sym is.numbered ∙ stands) in
        let step_is : is.line.step ≡ step =
        same_Some is.line.step step
        (sym (step-at form steps are.lines are.refutes.derived are.same n is.line (ap (slice_get are.lines) (sym number_is) ∙ is.there)) ∙ at) in
        (line, there, is.step ∙ ap (with_parents (place_among numbers)) step_is)

    module _ (set : ℕ → Bool) (has : set (length made - 1) ≡ true) (closed : cone.IsClosed made set) where
      -- the steps whose lines are in the set
      abbrev old_set : ℕ → Bool
      old_set n = has_number n numbers && set (place_among numbers n)

      old-last : old_set (length steps - 1) ≡ true
      old-last =
          and_from (has_number (length steps - 1) numbers) (set place) (last-needed steps numbers needed)
          (subst (λ i. set i ≡ true) (let same : length made - 1 ≡ place = omega (arith, built.long, at-the-end) in same) has)

      old-closed : cone.IsClosedBy cone.itself steps old_set
      old-closed n m step other at other_at inside need =
          let parts = and_parts (has_number n numbers) (set (place_among numbers n)) inside in
          let m_inside : has_number m numbers ≡ true = parent-needed steps numbers needed n m step other at other_at parts.0 need in
          let one = made-at n step at parts.0 in
          let two = made-at m other other_at m_inside in
          and_from (has_number m numbers) (set (place_among numbers m)) m_inside
          (closed (place_among numbers n) (place_among numbers m) one.0 two.0 one.1 two.1 parts.1
          (subst (λ (s : Step). cone.needs_step s (place_among numbers m) two.0.step ≡ true) (sym one.2)
          (subst (λ (s : Step). cone.needs_step (with_parents (place_among numbers) step) (place_among numbers m) s ≡ true) (sym two.2)
          (needs-mapped (place_among numbers) step other m need))))

      made-in : (k : ℕ) → k < length made → set k ≡ true
      made-in k low =
          let number : ℕ = get_or numbers k 0 in
          let numbered : slice_get numbers k ≡ Some number = slice_get-get_or numbers k 0 (omega (arith, low, built.long)) in
          let inside : old_set number ≡ true = (needed.exact number).0 (at-has numbers k number numbered) old_set old-last old-closed in
          subst (λ i. set i ≡ true) (place-of numbers k number needed.rising numbered)
          (and_parts (has_number number numbers) (set (place_among numbers number)) inside).1

    pub all-needed : cone.AreAllNeeded made
    all-needed = record {
      some = omega (arith, within, built.long);
      needed = λ k low set has closed. made-in set has closed k low;
    }
