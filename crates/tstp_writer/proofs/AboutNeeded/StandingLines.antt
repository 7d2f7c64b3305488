-- What stands when lines of a refutation were taken, behind those of the formulas and of their negations.
use Rattle.std.proofs.Common.{◌≡◌, ◌⊎◌, inl, inr, ℕ, ◌+◌, ◌<◌, ◌≤◌, ◌^◌, Bool, true, false, not, ◌==◌, List, [], ◌∷◌, ◌++◌, map, length, Option, None, Some, suc, refl, ap, ap₂, sym, ◌∙◌, subst, arith, ⊎_elim, append_assoc, length-append}
use Rattle.std.specs.Prelude.{slice_get, filter_map, option_map, option_and_then, unwrap_or, if◌then◌else◌}
use Rattle.std.specs.List.{list_any, AllByRecursion, cons_option}
use Rattle.std.proofs.lemmas.Bool.{or_cases, or_left, or_right, and_from, not_from_false, eqb-true, eq-eqb, false≢true, ne_eqb}
use Rattle.std.proofs.lemmas.Option.{same_Some, none-some}
use Rattle.std.proofs.lemmas.List.Elements.{filter_map-append}
use Rattle.fol_base.specs.Canonical.{numbers_from}
use Rattle.fol_base.specs.Clause.{TreeClause}
use Rattle.fol_base.specs.Literal.{clause_of}
use Rattle.tptp_tree.specs.Entries.{AnnotatedTree, is_conjecture}
use Rattle.tptp_tree.specs.declared.problem.Annotated.{Annotated}
use Rattle.signature.specs.Form.{clausal_form}
use Rattle.kernel_steps.specs.Derivation.{is_component_of, component_clause}
use Rattle.kernel_steps.specs.declared.step.Step.{Step}
use Rattle.kernel_steps.specs.declared.step.Step.TheVariants.{Input, Negate, Clausify, Para, Refl, Factor, Merge, Component, Opposite, Split, Chain}
use Rattle.kernel_steps.specs.declared.step.Line.{Line}
use Rattle.clausal_form.specs.DerivationLine.{same_entry, NamedLine}
use Rattle.tptp_tree.specs.Shape.{entry_of}
use Rattle.kernel_steps.specs.FromTrees.{line_of}
use Rattle.clausal_form.specs.DerivationParts.{Setting, setting_of, entry_at, line_place}
use Rattle.clausal_form.specs.DerivationCauses.{fits, is_conjecture_at as is_conjecture_in}
use Rattle.tstp_writer.specs.Cone.{has_number, IsRising}
use Rattle.tstp_writer.specs.LineTrees.{Script, script_of, is_conjecture_at, origin, Layout, comes_from, lines_at, layout_of, line_name, place_in, cited_name, negated_name, derived_name, input_at, negate_at}
use Rattle.tstp_writer.specs.ReadableLines.{written_place, placed_line, first_place, taken_as, inputs_taken, negations_taken, derived_taken, all_written, step_names, names_of_lines, read_clause, read_renaming, placed_step}
use Rattle.tstp_writer.specs.DerivedLines.{OriginIsTaken, IsKnown}
use Rattle.tstp_writer.specs.Places.{IsCounted}
use Rattle.tstp_writer.proofs.ReadAgain.SameLemmas.{entry-turned, same-conjecture}
use Rattle.tstp_writer.proofs.AboutPrinted.PlaceLemmas.{there-below, kept-there, there-behind, has-passing, has-between, all-passing, passing-pass, all-from, all-below, rising-passing, rising-numbers, rising-placed, AreNamed, named-joined}
use Rattle.tstp_writer.proofs.AboutPrinted.WalkLemmas.{Walks, named_state}
use Rattle.tstp_writer.proofs.ReadAgain.InputLines.{IsFirstPlace, first-place, entry-there, input_taken, negation_taken, inputs-walk, HasInputs, HasNegations, has-inputs, has-negations, found-there, negations-walk, inputs-length, negations-length, inputs-named, negations-named, inputs-stand, negations-stand}
use Rattle.tstp_writer.proofs.AboutPrinted.OriginLemmas.{IsBelow, form-origin}
use Rattle.std.proofs.lemmas.List.{append-nil, map-append}
use Rattle.std.proofs.lemmas.Grind.{flat_map-append}
use Rattle.plain_types.specs.declared.sequence.NameLit.{NameLit}
use Rattle.fol_base.specs.Instance.{Substitution}
use Rattle.clausal_form.proofs.AboutNaming.TakenLemmas.{line_of-clause}
use Rattle.tstp_writer.specs.ClauseTrees.{introduced_name}
use Rattle.tstp_writer.proofs.AboutPrinted.NameOrder.{has-front, has-behind}

-- ---- lists

has-end : (before : List ℕ) (n m : ℕ) → has_number (before ++ n ∷ []) m ≡ true → (has_number before m ≡ true) ⊎ (n ≡ m)
has-end [] n m has = ⊎_elim (λ same. inr (eqb-true n m same)) (λ none. absurd (false≢true none)) (or_cases (n == m) false has)
has-end (b ∷ bs) n m has =
    ⊎_elim (λ same. inl (or_left (b == m) (has_number bs m) same))
    (λ later. ⊎_elim (λ old. inl (or_right (b == m) (has_number bs m) old)) (λ new. inr new) (has-end bs n m later))
    (or_cases (b == m) (has_number (bs ++ n ∷ []) m) has)

any-behind : (test : Line → Bool) (o : Option Line) (ls : List Line) → list_any test ls ≡ true → list_any test (cons_option o ls) ≡ true
any-behind test None ls h = h
any-behind test (Some l) ls h = or_right (test l) (list_any test ls) h

any-there :
    (test : Line → Bool) (lines : List Line) (ns : List ℕ) (n : ℕ) (line : Line)
    → has_number ns n ≡ true → slice_get lines n ≡ Some line → test line ≡ true → list_any test (lines_at lines ns) ≡ true
any-there test lines [] n line has at passes = absurd (false≢true has)
any-there test lines (m ∷ ms) n line has at passes =
    ⊎_elim
    (λ same.
    ap (λ o. list_any test (cons_option o (lines_at lines ms))) (ap (slice_get lines) (eqb-true m n same) ∙ at)
    ∙ or_left (test line) (list_any test (lines_at lines ms)) passes)
    (λ later. any-behind test (slice_get lines m) (lines_at lines ms) (any-there test lines ms n line later at passes))
    (or_cases (m == n) (has_number ms n) has)

formulas-length : (problem : List Annotated) → length (map entry_of problem) ≡ length problem
formulas-length [] = refl
formulas-length (a ∷ more) = ap suc (formulas-length more)

-- ---- component lines

-- behind lines without the component line of a name, it is that of the next ones
component-behind : (name : ℕ) (xs ys : List Line) → component_clause name xs ≡ None → component_clause name (xs ++ ys) ≡ component_clause name ys
component-behind name [] ys none = refl
component-behind name (x ∷ xs) ys none = by (is_component_of name x.step) none (component-behind name xs ys)
  where
    by :
        (t : Bool) → (if t then Some (clause_of x.clause) else component_clause name xs) ≡ None
        → (component_clause name xs ≡ None → component_clause name (xs ++ ys) ≡ component_clause name ys)
        → (if t then Some (clause_of x.clause) else component_clause name (xs ++ ys)) ≡ component_clause name ys
    by true h rest = absurd (none-some (clause_of x.clause) (sym h))
    by false h rest = rest h

component-front :
    (name : ℕ) (xs ys : List Line) (c : TreeClause) → component_clause name xs ≡ Some c → component_clause name (xs ++ ys) ≡ Some c
component-front name [] ys c h = absurd (none-some c h)
component-front name (x ∷ xs) ys c h = by (is_component_of name x.step) h (component-front name xs ys c)
  where
    by :
        (t : Bool) → (if t then Some (clause_of x.clause) else component_clause name xs) ≡ Some c
        → (component_clause name xs ≡ Some c → component_clause name (xs ++ ys) ≡ Some c)
        → (if t then Some (clause_of x.clause) else component_clause name (xs ++ ys)) ≡ Some c
    by true g rest = g
    by false g rest = rest g

inputs-none : (file : List ℕ) (problem : List Annotated) (i k : ℕ) (places : List ℕ) → component_clause i (map (λ (l : NamedLine). l.line) (inputs_taken problem k places)) ≡ None
inputs-none file problem i k [] = refl
inputs-none file problem i k (p ∷ ps) = inputs-none file problem i (k + 1) ps

negations-none : (file : List ℕ) (problem : List Annotated) (i k : ℕ) (places : List ℕ) → component_clause i (map (λ (l : NamedLine). l.line) (negations_taken problem k places)) ≡ None
negations-none file problem i k [] = refl
negations-none file problem i k (p ∷ ps) = negations-none file problem i (k + 1) ps

-- the component line of a name, as it is read
component-here :
    (layout : Layout) (names : List ℕ) (σ : Substitution) (step : Step) (name : ℕ) (c : TreeClause) → step ≡ Component name
    → component_clause (place_in name names) (line_of (placed_step layout names σ step) (read_clause names c) ∷ []) ≡ Some (read_clause names c)
component-here layout names σ step name c step_is =
    ap (λ st. component_clause (place_in name names) (line_of (placed_step layout names σ st) (read_clause names c) ∷ [])) step_is
    ∙ ap (λ t. if t then Some (clause_of (line_of (Component (place_in name names)) (read_clause names c)).clause) else None)
    (eq-eqb (place_in name names) (place_in name names) refl)
    ∙ ap Some (line_of-clause (Component (place_in name names)) (read_clause names c))

-- any other line is none of a name
component-none :
    (layout : Layout) (names : List ℕ) (σ : Substitution) (step : Step) (i : ℕ) (c : TreeClause)
    → ((name : ℕ) → step ≡ Component name → (place_in name names == i) ≡ false)
    → component_clause i (line_of (placed_step layout names σ step) (read_clause names c) ∷ []) ≡ None
component-none layout names σ (Component name) i c h =
    ap (λ t. if t then Some (clause_of (line_of (Component (place_in name names)) (read_clause names c)).clause) else None) (h name refl)
component-none layout names σ (Input place) i c h = refl
component-none layout names σ (Negate place) i c h = refl
component-none layout names σ (Clausify j) i c h = refl
component-none layout names σ (Para first second from from_side into into_side place first_bind second_bind) i c h = refl
component-none layout names σ (Refl parent literal bind) i c h = refl
component-none layout names σ (Factor parent becomes becomes_side other other_side bind) i c h = refl
component-none layout names σ (Merge parent stays goes bind) i c h = refl
component-none layout names σ (Opposite name) i c h = refl
component-none layout names σ (Split parent definitions parts) i c h = refl
component-none layout names σ (Chain parents pivots) i c h = refl

-- ---- what stands behind the lines of the formulas

module _ (file : List ℕ) (problem : List Annotated) (lines : List Line) (numbers : List ℕ) where
  abbrev pub s : Setting
  s = setting_of problem

  abbrev pub script : Script
  script = script_of file problem

  abbrev pub layout : Layout
  layout = layout_of (script_of file problem) lines numbers

  abbrev cites : ℕ → Bool
  cites place = list_any (λ (l : Line). comes_from script place l.step) (lines_at lines numbers)

  abbrev pub inputs : List NamedLine
  inputs = inputs_taken problem 0 layout.cited

  abbrev pub negations : List NamedLine
  negations = negations_taken problem (length layout.cited) layout.negated

  cited-below : AllByRecursion (λ p. p < length problem) layout.cited
  cited-below =
      all-passing (λ p. p < length problem) cites (numbers_from 0 (length script.formulas))
      (all-below 0 (length script.formulas) (length problem) (omega (arith, formulas-length problem)))

  cited-rising : IsRising layout.cited
  cited-rising = rising-passing cites (numbers_from 0 (length script.formulas)) (rising-numbers 0 (length script.formulas))

  pub inputs-walked :
      IsCounted layout → Walks s [] (filter_map (λ place. input_at script (cited_name layout place) place) layout.cited) inputs
  inputs-walked counted =
      let small : length layout.cited + length layout.negated + length numbers < 2 ^ 64 = counted in
      inputs-walk file problem layout 0 [] layout.cited refl tt (rising-placed layout.cited cited-rising) cited-below (omega (arith, small))

  pub negations-walked :
      IsCounted layout
      → Walks s inputs (filter_map (λ place. negate_at script layout (negated_name layout place) place) layout.negated) negations
  negations-walked counted =
      let small : length layout.cited + length layout.negated + length numbers < 2 ^ 64 = counted in
      negations-walk file problem layout (length layout.cited) inputs 0 layout.negated (sym (inputs-length file problem 0 layout.cited))
      (omega arith) (inputs-named file problem 0 layout.cited) (inputs-stand file problem layout)
      (rising-placed layout.negated (rising-passing (is_conjecture_at script) layout.cited cited-rising))
      (all-passing (λ p. p < length problem) (is_conjecture_at script) layout.cited cited-below)
      (all-passing (λ p. has_number layout.cited p ≡ true) (is_conjecture_at script) layout.cited
      (all-from (λ p. has_number layout.cited p ≡ true) layout.cited (λ p h. h)))
      (passing-pass (is_conjecture_at script) layout.cited)
      (omega (arith, small))

  -- ---- what stands when lines of the derivation were taken

  -- all names, and those of the lines with some of the numbers
  abbrev pub names_in : List ℕ → List ℕ
  names_in ns = names_of_lines (lines_at lines ns)

  abbrev pub names : List ℕ
  names = names_of_lines (lines_at lines numbers)

  abbrev pub introduced_in : List ℕ → List (List ℕ)
  introduced_in ns = map (introduced_name script.prefix) (names_in ns)

  abbrev pub AreKnownIn : List ℕ → TreeClause → Type 0
  AreKnownIn ns c = AllByRecursion (λ (m : NameLit). IsKnown (names_in ns) m.name) c.names

  abbrev pub derived_line : ℕ → Line → NamedLine
  derived_line m line = taken_as (derived_name layout m) (placed_line layout names line.step (clause_of line.clause))

  abbrev pub steps_of : List NamedLine → List Line
  steps_of ls = map (λ (l : NamedLine). l.line) ls

  -- ---- names of lines

  names-joined : (ns ms : List ℕ) → names_in (ns ++ ms) ≡ names_in ns ++ names_in ms
  names-joined ns ms =
      ap names_of_lines (filter_map-append (λ n. slice_get lines n) ns ms)
      ∙ flat_map-append (λ (l : Line). step_names l.step) (lines_at lines ns) (lines_at lines ms)

  names-one : (n : ℕ) (line : Line) → slice_get lines n ≡ Some line → names_in (n ∷ []) ≡ step_names line.step
  names-one n line at = ap (λ o. names_of_lines (cons_option o [])) at ∙ append-nil (step_names line.step)

  pub names-more : (before : List ℕ) (n : ℕ) (line : Line) → slice_get lines n ≡ Some line → names_in (before ++ n ∷ []) ≡ names_in before ++ step_names line.step
  names-more before n line at = names-joined before (n ∷ []) ∙ ap (λ ns. names_in before ++ ns) (names-one n line at)

  pub names-whole : (before : List ℕ) (n : ℕ) (after : List ℕ) → before ++ n ∷ after ≡ numbers → names ≡ names_in (before ++ n ∷ []) ++ names_in after
  names-whole before n after whole =
      ap names_in (sym whole ∙ sym (append_assoc before (n ∷ []) after)) ∙ names-joined (before ++ n ∷ []) after

  pub known-more : (before : List ℕ) (n : ℕ) (c : TreeClause) → AreKnownIn before c → AreKnownIn (before ++ n ∷ []) c
  known-more before n c h = by c.names h
    where
      by :
          (ms : List NameLit) → AllByRecursion (λ (m : NameLit). IsKnown (names_in before) m.name) ms
          → AllByRecursion (λ (m : NameLit). IsKnown (names_in (before ++ n ∷ [])) m.name) ms
      by [] g = tt
      by (m ∷ ms) g = (
        subst (λ ns. has_number ns m.name ≡ true) (sym (names-joined before (n ∷ [])))
            (has-front (names_in before) (names_in (n ∷ [])) m.name g.0),
        by ms g.1,
      )

  -- what holds of each name that a line with one of the numbers introduces
  pub each-name :
      (P : ℕ → Type 0) (ns : List ℕ)
      → ((m name : ℕ) (line : Line) → has_number ns m ≡ true → slice_get lines m ≡ Some line → line.step ≡ Component name → P name)
      → AllByRecursion P (names_in ns)
  each-name P [] each = tt
  each-name P (n ∷ ns) each =
      by (slice_get lines n) refl (each-name P ns (λ m name line has at step_is. each m name line (or_right (n == m) (has_number ns m) has) at step_is))
    where
      here : (line : Line) (st : Step) → slice_get lines n ≡ Some line → line.step ≡ st → AllByRecursion P (names_in ns) → AllByRecursion P (step_names st ++ names_in ns)
      here line (Component name) at step_is rest = (each n name line (or_left (n == n) (has_number ns n) (eq-eqb n n refl)) at step_is, rest)
      here line (Input place) at step_is rest = rest
      here line (Negate place) at step_is rest = rest
      here line (Clausify i) at step_is rest = rest
      here line (Para first second from from_side into into_side place first_bind second_bind) at step_is rest = rest
      here line (Refl parent literal bind) at step_is rest = rest
      here line (Factor parent becomes becomes_side other other_side bind) at step_is rest = rest
      here line (Merge parent stays goes bind) at step_is rest = rest
      here line (Opposite name) at step_is rest = rest
      here line (Split parent definitions parts) at step_is rest = rest
      here line (Chain parents pivots) at step_is rest = rest

      by :
          (o : Option Line) → slice_get lines n ≡ o → AllByRecursion P (names_in ns)
          → AllByRecursion P (names_of_lines (cons_option o (lines_at lines ns)))
      by None at rest = rest
      by (Some line) at rest = here line line.step at refl rest

  -- a name that such a line introduces is one of them
  pub name-there :
      (ns : List ℕ) (m name : ℕ) (line : Line) → has_number ns m ≡ true → slice_get lines m ≡ Some line → line.step ≡ Component name
      → has_number (names_in ns) name ≡ true
  name-there [] m name line has at step_is = absurd (false≢true has)
  name-there (n ∷ ns) m name line has at step_is =
      ⊎_elim
      (λ same.
      let here : slice_get lines n ≡ Some line = ap (slice_get lines) (eqb-true n m same) ∙ at in
      subst (λ xs. has_number xs name ≡ true)
      (sym (names-joined (n ∷ []) ns ∙ ap (λ xs. xs ++ names_in ns) (names-one n line here ∙ ap step_names step_is)))
      (or_left (name == name) (has_number (names_in ns) name) (eq-eqb name name refl)))
      (λ later.
      subst (λ xs. has_number xs name ≡ true) (sym (names-joined (n ∷ []) ns))
      (has-behind (names_in (n ∷ [])) (names_in ns) name (name-there ns m name line later at step_is)))
      (or_cases (n == m) (has_number ns m) has)

  pub record Stands (ls : List NamedLine) (before : List ℕ) : Type 0 where
    pub named : AreNamed 0 ls
    pub long : length ls ≡ length layout.cited + length layout.negated + length before
    pub has_inputs : HasInputs file problem layout ls
    pub has_negations : HasNegations file problem layout ls
    pub has_derived :
        (m : ℕ) (line : Line) → has_number before m ≡ true → slice_get lines m ≡ Some line
        → slice_get ls (written_place layout m) ≡ Some (derived_line m line)
    pub names_known :
        (m : ℕ) (line : Line) → has_number before m ≡ true → slice_get lines m ≡ Some line → AreKnownIn before (clause_of line.clause)
    pub has_components :
        (m name : ℕ) (line : Line) → has_number before m ≡ true → slice_get lines m ≡ Some line → line.step ≡ Component name
        → component_clause (place_in name names) (steps_of ls) ≡ Some (read_clause names (clause_of line.clause))
    pub no_others : (i : ℕ) → length (names_in before) ≤ i → component_clause i (steps_of ls) ≡ None

  pub stands-first : Stands (inputs ++ negations) []
  stands-first =
      let first : length inputs ≡ length layout.cited = inputs-length file problem 0 layout.cited in
      let second : length negations ≡ length layout.negated = negations-length file problem (length layout.cited) layout.negated in
      record {
        named =
            named-joined 0 (length layout.cited) inputs negations (omega (arith, first)) (inputs-named file problem 0 layout.cited)
            (negations-named file problem (length layout.cited) layout.negated);
        long = omega (arith, length-append inputs negations, first, second);
        has_inputs = has-inputs file problem layout inputs negations (inputs-stand file problem layout);
        has_negations =
            λ p has.
            there-behind inputs negations (place_in p layout.negated) (length layout.cited + place_in p layout.negated) (omega (arith, first))
            ∙ negations-stand file problem layout p has;
        has_derived = λ m line has at. absurd (false≢true has);
        names_known = λ m line has at. absurd (false≢true has);
        has_components = λ m name line has at step_is. absurd (false≢true has);
        no_others = λ i most.
            ap (component_clause i) (map-append (λ (l : NamedLine). l.line) inputs negations)
            ∙ component-behind i (steps_of inputs) (steps_of negations) (inputs-none file problem i 0 layout.cited)
            ∙ negations-none file problem i (length layout.cited) layout.negated;
      }

  pub derived-there :
      (n : ℕ) (line : Line) → slice_get lines n ≡ Some line → derived_taken layout names lines n ≡ Some (derived_line n line)
  derived-there n line at =
      ap
      (option_map (λ (l : Line). taken_as (derived_name layout n) (placed_line layout names l.step (clause_of l.clause))))
      at

  pub written-more :
      (before : List ℕ) (n : ℕ) (line : Line) → slice_get lines n ≡ Some line
      → all_written problem layout names lines before ++ derived_line n line ∷ [] ≡ all_written problem layout names lines (before ++ n ∷ [])
  written-more before n line at =
      let those : List NamedLine = filter_map (derived_taken layout names lines) before in
      let one : List NamedLine = derived_line n line ∷ [] in
      let more : filter_map (derived_taken layout names lines) (before ++ n ∷ []) ≡ those ++ one =
      filter_map-append (derived_taken layout names lines) before (n ∷ []) ∙ ap (λ o. those ++ cons_option o []) (derived-there n line at) in
      append_assoc (inputs ++ negations) those one ∙ ap (λ ls. (inputs ++ negations) ++ ls) (sym more)

  pub stands-more :
      (ls : List NamedLine) (before : List ℕ) (n : ℕ) (line : Line) → Stands ls before → slice_get lines n ≡ Some line
      → place_in n numbers ≡ length before → AreKnownIn (before ++ n ∷ []) (clause_of line.clause)
      → ((name : ℕ) → line.step ≡ Component name → place_in name names ≡ length (names_in before))
      → Stands (ls ++ derived_line n line ∷ []) (before ++ n ∷ [])
  stands-more ls before n line st at place known next =
      let one : List NamedLine = derived_line n line ∷ [] in
      let number : written_place layout n ≡ length ls = omega (arith, st.long, place) in
      record {
        named = named-joined 0 (length ls) ls one (omega arith) st.named (ap line_name number, tt);
        long = omega (arith, st.long, length-append ls one, length-append before (n ∷ []));
        has_inputs = has-inputs file problem layout ls one st.has_inputs;
        has_negations = has-negations file problem layout ls one st.has_negations;
        has_derived =
            λ m other has other_at.
            ⊎_elim
            (λ old. kept-there ls one (written_place layout m) (derived_line m other) (st.has_derived m other old other_at))
            (λ new.
            let same : line ≡ other = same_Some line other (sym at ∙ ap (slice_get lines) new ∙ other_at) in
            subst (λ k. slice_get (ls ++ one) (written_place layout k) ≡ Some (derived_line k other)) new
            (there-behind ls one 0 (written_place layout n) (omega (arith, number)) ∙ ap (λ l. Some (derived_line n l)) same))
            (has-end before n m has);
        names_known = λ m other has other_at.
            ⊎_elim
            (λ old. known-more before n (clause_of other.clause) (st.names_known m other old other_at))
            (λ new.
            subst (λ (l : Line). AreKnownIn (before ++ n ∷ []) (clause_of l.clause))
            (same_Some line other (sym at ∙ ap (slice_get lines) new ∙ other_at)) known)
            (has-end before n m has);
        has_components = λ m name other has other_at step_is.
            ap (component_clause (place_in name names)) (map-append (λ (l : NamedLine). l.line) ls one)
            ∙ ⊎_elim
            (λ old.
            component-front (place_in name names) (steps_of ls) (steps_of one) (read_clause names (clause_of other.clause))
            (st.has_components m name other old other_at step_is))
            (λ new.
            let same : line ≡ other = same_Some line other (sym at ∙ ap (slice_get lines) new ∙ other_at) in
            let step : line.step ≡ Component name = ap (λ (l : Line). l.step) same ∙ step_is in
            let place_is : place_in name names ≡ length (names_in before) = next name step in
            component-behind (place_in name names) (steps_of ls) (steps_of one)
            (st.no_others (place_in name names) (omega (arith, place_is)))
            ∙ component-here layout names (read_renaming line.step (clause_of line.clause)) line.step name (clause_of line.clause) step
            ∙ ap (λ (l : Line). Some (read_clause names (clause_of l.clause))) same)
            (has-end before n m has);
        no_others = λ i most.
            let longer : length (names_in (before ++ n ∷ [])) ≡ length (names_in before) + length (step_names line.step) =
            ap length (names-more before n line at) ∙ length-append (names_in before) (step_names line.step) in
            ap (component_clause i) (map-append (λ (l : NamedLine). l.line) ls one)
            ∙ component-behind i (steps_of ls) (steps_of one) (st.no_others i (omega (arith, most, longer)))
            ∙ component-none layout names (read_renaming line.step (clause_of line.clause)) line.step i (clause_of line.clause)
            (λ name step_is.
            let place_is : place_in name names ≡ length (names_in before) = next name step_is in
            let one_more : length (step_names line.step) ≡ 1 = ap (λ st. length (step_names st)) step_is in
            ne_eqb (place_in name names) i (λ e. let none : ⊥ = omega (arith, most, longer, place_is, one_more, e) in none));
      }

  -- ---- the line of the formula from which a clause comes

  record Originates (o : ℕ) : Type 0 where
    at_first : fits s (first_place problem o) o ≡ true
    conjectures : is_conjecture_in s (first_place problem o) ≡ is_conjecture_at script o

  originates : (o : ℕ) → o < length problem → Originates o
  originates o low =
      let found = there-below problem o low in
      let a : AnnotatedTree = entry_of found.0 in
      let first : IsFirstPlace problem o found.0 = first-place problem o found.0 found.1 in
      let b : AnnotatedTree = entry_of first.same in
      let here : entry_at s o ≡ Some a = ap (option_map entry_of) found.1 in
      let there : entry_at s (first_place problem o) ≡ Some b = ap (option_map entry_of) first.there in
      let told : Option AnnotatedTree → Bool = λ x. unwrap_or (option_map (λ (c : AnnotatedTree). is_conjecture c.role) x) false in
      record {
        at_first =
            ap₂
            (λ (x y : Option AnnotatedTree). unwrap_or (option_and_then (λ (c : AnnotatedTree). option_map (same_entry c) y) x) false)
            there here
            ∙ entry-turned a b first.fits;
        conjectures = ap told there ∙ sym (same-conjecture a b first.fits) ∙ sym (ap told (entry-there file problem o found.0 found.1));
      }

  pub clausify-origin :
      (ls : List NamedLine) (before : List ℕ) (n : ℕ) (line : Line) (i : ℕ) (introduced : List (List ℕ)) → Stands ls before → length ls ≤ 2 ^ 64
      → slice_get lines n ≡ Some line → has_number numbers n ≡ true → line.step ≡ Clausify i
      → slice_get (clausal_form problem).clauses i ≡ Some (clause_of line.clause) → OriginIsTaken problem script layout (named_state ls introduced) i
  clausify-origin ls before n line i introduced st small at has step_is comes =
      let b : IsBelow (clausal_form problem).origins i (length problem) = form-origin problem i (clause_of line.clause) comes in
      let o_is : origin script i ≡ b.origin = ap (λ x. unwrap_or x 0) b.there in
      let low : origin script i < length problem = omega (arith, b.below, o_is) in
      let comes_here : comes_from script (origin script i) line.step ≡ true =
      ap (comes_from script (origin script i)) step_is ∙ eq-eqb (origin script i) (origin script i) refl in
      let is_cited : has_number layout.cited (origin script i) ≡ true =
      has-passing cites (numbers_from 0 (length script.formulas)) (origin script i)
      (has-between 0 (length script.formulas) (origin script i) (omega arith) (omega (arith, low, formulas-length problem)))
      (any-there (λ (l : Line). comes_from script (origin script i) l.step) lines numbers n line has at comes_here) in
      by is_cited (originates (origin script i) low) (is_conjecture_at script (origin script i)) refl
    where
      by :
          has_number layout.cited (origin script i) ≡ true → Originates (origin script i)
          → (t : Bool) → is_conjecture_at script (origin script i) ≡ t → OriginIsTaken problem script layout (named_state ls introduced) i
      by is_cited first true e =
          let o : ℕ = origin script i in
          let stands = st.has_negations o (has-passing (is_conjecture_at script) layout.cited o is_cited e) in
          record {
            place = length layout.cited + place_in o layout.negated;
            there =
                ap (λ c. line_place (named_state ls introduced) (if c then negated_name layout o else cited_name layout o)) e
                ∙ found-there file problem (length layout.cited + place_in o layout.negated) ls
                (negation_taken file problem (negated_name layout o) o) stands small st.named;
            source = negation_taken file problem (negated_name layout o) o;
            taken = stands;
            is_its =
                and_from (fits s (first_place problem o) o) (is_conjecture_in s (first_place problem o)) first.at_first
                (first.conjectures ∙ e);
          }
      by is_cited first false e =
          let o : ℕ = origin script i in
          let stands = st.has_inputs o is_cited in
          record {
            place = place_in o layout.cited;
            there =
                ap (λ c. line_place (named_state ls introduced) (if c then negated_name layout o else cited_name layout o)) e
                ∙ found-there file problem (place_in o layout.cited) ls (input_taken file problem (cited_name layout o) o) stands small
                st.named;
            source = input_taken file problem (cited_name layout o) o;
            taken = stands;
            is_its =
                and_from (fits s (first_place problem o) o) (not (is_conjecture_in s (first_place problem o))) first.at_first
                (not_from_false (is_conjecture_in s (first_place problem o)) (first.conjectures ∙ e));
          }
