-- The lines of a problem's formulas are taken, and then those of their negations.
use Rattle.std.proofs.Common.{◌≡◌, ℕ, zero, suc, ◌+◌, ◌<◌, ◌≤◌, ◌^◌, Bool, true, false, not, List, [], ◌∷◌, ◌++◌, length, Option, None, Some, refl, ap, sym, ◌∙◌, subst, arith, length-append}
use Rattle.std.specs.Prelude.{slice_get, filter_map, position, bytes_eq, option_map, option_and_then, unwrap_or, is_some, if◌then◌else◌}
use Rattle.std.specs.List.{list_any, list_all, position_or_len, AllByRecursion, cons_option}
use Rattle.std.proofs.lemmas.Option.{none-some, same_Some, slice_get-map, slice_get_within}
use Rattle.tptp_tree.specs.Formula.{FormulaTree, negation}
use Rattle.tptp_tree.specs.Entries.{AnnotatedTree, is_conjecture}
use Rattle.tptp_tree.specs.declared.problem.Annotated.{Annotated}
use Rattle.kernel_steps.specs.Conclusion.{empty_clause}
use Rattle.kernel_steps.specs.declared.step.Step.TheVariants.{Input, Negate}
use Rattle.kernel_steps.specs.declared.step.Line.{Line}
use Rattle.clausal_form.specs.DerivationItems.{only_one}
use Rattle.clausal_form.specs.DerivationSteps.{input_kind}
use Rattle.clausal_form.specs.DerivationLine.{LineTree, same_formula, same_entry, NamedLine}
use Rattle.tptp_tree.specs.Shape.{entry_of}
use Rattle.kernel_steps.specs.FromTrees.{line_of}
use Rattle.clausal_form.specs.DerivationParts.{Setting, setting_of, line_place}
use Rattle.clausal_form.specs.DerivationCauses.{leaf, rule, order, unknown_parent, conclusion, fault, gives_formula, negation_from, given_by, compared, LineVerdict, refused, taken, line_verdict}
use Rattle.tstp_writer.specs.Cone.{has_number}
use Rattle.tstp_writer.specs.LineTrees.{Script, script_of, Layout, line_name, place_in, cited_name, negated_name, input_tree, negate_tree, input_at, negate_at}
use Rattle.tstp_writer.specs.ReadableLines.{first_place, taken_as, inputs_taken, negations_taken}
use Rattle.tstp_writer.proofs.ReadAgain.SameLemmas.{formula-self, negation-same, entry-parts, entry-self, same-conjecture}
use Rattle.tstp_writer.proofs.AboutPrinted.PlaceLemmas.{there-below, kept-there, IsFirst, first-there, position-there, number-there, AllPlaced, AreNamed, named-joined, name-new, name-there}
use Rattle.tstp_writer.proofs.AboutPrinted.WalkLemmas.{state, Walks, walk-none, walk-line}

-- ---- the first formula that says the same

pub record IsFirstPlace (problem : List Annotated) (place : ℕ) (a : Annotated) : Type 0 where
  pub same : Annotated
  pub found : position (λ b. same_entry (entry_of a) (entry_of b)) problem ≡ Some (first_place problem place)
  pub there : slice_get problem (first_place problem place) ≡ Some same
  pub fits : same_entry (entry_of a) (entry_of same) ≡ true

pub first-place : (problem : List Annotated) (place : ℕ) (a : Annotated) → slice_get problem place ≡ Some a → IsFirstPlace problem place a
first-place problem place a at =
    let test : Annotated → Bool = λ b. same_entry (entry_of a) (entry_of b) in
    let first : IsFirst test problem (position_or_len test problem) = first-there test problem place a at (entry-self (entry_of a)) in
    let found : position test problem ≡ Some (position_or_len test problem) = position-there test problem first.below in
    let place_is : first_place problem place ≡ position_or_len test problem =
    ap
    (λ o.
    unwrap_or
    (option_map (λ f. unwrap_or f 0)
    (option_map (λ (c : Annotated). position (λ b. same_entry (entry_of c) (entry_of b)) problem) o))
    0)
    at
    ∙ ap (λ o. unwrap_or o 0) found in
    record {
      same = first.item;
      found = found ∙ ap Some (sym place_is);
      there = ap (slice_get problem) place_is ∙ first.there;
      fits = first.passes;
    }

-- ---- one line

module _ (file : List ℕ) (problem : List Annotated) where
  abbrev pub s : Setting
  s = setting_of problem

  abbrev pub script : Script
  script = script_of file problem

  pub input-line :
      (name : List ℕ) (ls : List NamedLine) (place : ℕ) (a : Annotated)
      → slice_get problem place ≡ Some a → list_any (λ (l : NamedLine). bytes_eq name l.name) ls ≡ false
      → line_verdict s (state ls) (input_tree script name (entry_of a)) ≡ taken (line_of (Input (first_place problem place)) empty_clause)
  input-line name ls place a at is_new =
      let t : LineTree = input_tree script name (entry_of a) in
      let f : FormulaTree = (entry_of a).formula in
      let first : IsFirstPlace problem place a = first-place problem place a at in
      ap (λ b. if b then refused order else compared s (state ls) t (given_by s (state ls) t input_kind)) is_new
      ∙ ap
      (λ (o : Option ℕ). compared s (state ls) t (unwrap_or (option_map (λ p. gives_formula (Input p) f) o) (fault leaf)))
      first.found
      ∙ ap (λ b. if b then taken (line_of (Input (first_place problem place)) empty_clause) else refused conclusion) (formula-self f)

  -- what is given from a parent's place, and from its line
  abbrev from_place : List NamedLine → LineTree → Option ℕ → LineVerdict
  from_place ls t o =
      if not (list_all is_some (o ∷ [])) then refused unknown_parent
      else
      compared s (state ls) t
      (unwrap_or
      (option_and_then (negation_from s)
      (option_and_then (λ n. option_map (λ (l : NamedLine). (l.line).step) (slice_get ls n)) (only_one (filter_map (λ p. p) (o ∷ [])))))
      (fault rule))

  abbrev from_line : List NamedLine → LineTree → Option NamedLine → LineVerdict
  from_line ls t o =
      compared s (state ls) t
      (unwrap_or (option_and_then (negation_from s) (option_map (λ (l : NamedLine). (l.line).step) o)) (fault rule))

  abbrev from_entry : List NamedLine → LineTree → ℕ → Option AnnotatedTree → LineVerdict
  from_entry ls t p o =
      compared s (state ls) t
      (unwrap_or
      (option_and_then (λ (b : AnnotatedTree). if is_conjecture b.role then Some (gives_formula (Negate p) (negation b.formula)) else None) o)
      (fault rule))

  pub negate-line :
      (layout : Layout) (name : List ℕ) (ls : List NamedLine) (place at : ℕ) (a : Annotated)
      → slice_get problem place ≡ Some a → is_conjecture a.role ≡ true
      → list_any (λ (l : NamedLine). bytes_eq name l.name) ls ≡ false
      → line_place (state ls) (cited_name layout place) ≡ Some at
      → slice_get ls at ≡ Some (taken_as (cited_name layout place) (line_of (Input (first_place problem place)) empty_clause))
      → line_verdict s (state ls) (negate_tree script layout name place (entry_of a))
      ≡ taken (line_of (Negate (first_place problem place)) empty_clause)
  negate-line layout name ls place at a a_there conjecture is_new parent parent_there =
      let t : LineTree = negate_tree script layout name place (entry_of a) in
      let p : ℕ = first_place problem place in
      let first : IsFirstPlace problem place a = first-place problem place a a_there in
      let b : AnnotatedTree = entry_of first.same in
      let is_one : is_conjecture b.role ≡ true = sym (same-conjecture (entry_of a) b first.fits) ∙ conjecture in
      let same : same_formula (negation b.formula) (negation (entry_of a).formula) ≡ true =
      negation-same (entry_of a).formula b.formula (entry-parts (entry_of a) b first.fits).formula in
      ap (λ c. if c then refused order else from_place ls t (line_place (state ls) (cited_name layout place))) is_new
      ∙ ap (from_place ls t) parent
      ∙ ap (from_line ls t) parent_there
      ∙ ap (λ o. from_entry ls t p (option_map entry_of o)) first.there
      ∙ ap
      (λ c. compared s (state ls) t (unwrap_or (if c then Some (gives_formula (Negate p) (negation b.formula)) else None) (fault rule)))
      is_one
      ∙ ap (λ c. if c then taken (line_of (Negate p) empty_clause) else refused conclusion) same

  -- ---- all input lines

  pub entry-there : (place : ℕ) (a : Annotated) → slice_get problem place ≡ Some a → slice_get script.formulas place ≡ Some (entry_of a)
  entry-there place a at = slice_get-map entry_of problem place ∙ ap (option_map entry_of) at

  abbrev pub input_taken : List ℕ → ℕ → NamedLine
  input_taken name place = taken_as name (line_of (Input (first_place problem place)) empty_clause)

  abbrev pub negation_taken : List ℕ → ℕ → NamedLine
  negation_taken name place = taken_as name (line_of (Negate (first_place problem place)) empty_clause)

  pub inputs-walk :
      (layout : Layout) (k : ℕ) (ls : List NamedLine) (places : List ℕ)
      → k ≡ length ls → AreNamed 0 ls → AllPlaced layout.cited k places → AllByRecursion (λ p. p < length problem) places
      → k + length places ≤ 2 ^ 64
      → Walks s ls (filter_map (λ place. input_at script (cited_name layout place) place) places) (inputs_taken problem k places)
  inputs-walk layout k ls [] k_is named placed below small = walk-none s ls
  inputs-walk layout k ls (p ∷ ps) k_is named placed below small =
      let found = there-below problem p below.0 in
      let name : List ℕ = cited_name layout p in
      let line : Line = line_of (Input (first_place problem p)) empty_clause in
      let name_is : name ≡ line_name k = ap line_name placed.0 in
      let is_new : list_any (λ (l : NamedLine). bytes_eq name l.name) ls ≡ false =
      ap (λ n. list_any (λ (l : NamedLine). bytes_eq n l.name) ls) name_is
      ∙ name-new k 0 ls (omega (arith, small)) (omega (arith, k_is)) named in
      let later : List NamedLine = ls ++ taken_as (line_name k) line ∷ [] in
      let longer : k + 1 ≡ length later = omega (arith, k_is, length-append ls (taken_as (line_name k) line ∷ [])) in
      let rest =
      inputs-walk layout (k + 1) later ps longer
      (named-joined 0 k ls (taken_as (line_name k) line ∷ []) (omega (arith, k_is)) named (refl, tt)) placed.1 below.1 (omega (arith, small)) in
      subst
      (λ o.
      Walks s ls
      (cons_option (option_map (input_tree script name) o) (filter_map (λ place. input_at script (cited_name layout place) place) ps))
      (inputs_taken problem k (p ∷ ps)))
      (sym (entry-there p found.0 found.1))
      (walk-line s ls (input_tree script name (entry_of found.0)) (line_name k) line
      (filter_map (λ place. input_at script (cited_name layout place) place) ps) (inputs_taken problem (k + 1) ps)
      name_is refl (input-line name ls p found.0 found.1 is_new) rest)

  -- the lines of the formulas stand at their places
  abbrev pub HasInputs : Layout → List NamedLine → Type 0
  HasInputs layout ls =
      (p : ℕ) → has_number layout.cited p ≡ true → slice_get ls (place_in p layout.cited) ≡ Some (input_taken (cited_name layout p) p)

  -- and those of the negations at theirs
  abbrev pub HasNegations : Layout → List NamedLine → Type 0
  HasNegations layout ls =
      (p : ℕ) → has_number layout.negated p ≡ true
      → slice_get ls (length layout.cited + place_in p layout.negated) ≡ Some (negation_taken (negated_name layout p) p)

  pub has-inputs : (layout : Layout) (ls ms : List NamedLine) → HasInputs layout ls → HasInputs layout (ls ++ ms)
  has-inputs layout ls ms h p has =
      kept-there ls ms (place_in p layout.cited) (input_taken (cited_name layout p) p) (h p has)

  pub has-negations : (layout : Layout) (ls ms : List NamedLine) → HasNegations layout ls → HasNegations layout (ls ++ ms)
  has-negations layout ls ms h p has =
      kept-there ls ms (length layout.cited + place_in p layout.negated) (negation_taken (negated_name layout p) p) (h p has)

  pub found-there :
      (n : ℕ) (ls : List NamedLine) (l : NamedLine) → slice_get ls n ≡ Some l → length ls ≤ 2 ^ 64 → AreNamed 0 ls
      → line_place (state ls) (line_name n) ≡ Some n
  found-there n ls l at small named =
      let low : n < length ls = slice_get_within ls n l at in
      let test : NamedLine → Bool = λ k. bytes_eq (line_name n) k.name in
      let first : position_or_len test ls ≡ n = name-there n 0 n ls (omega arith) low (omega (arith, small)) named in
      position-there test ls (omega (arith, first, low)) ∙ ap Some first

  pub negations-walk :
      (layout : Layout) (k : ℕ) (ls : List NamedLine) (i : ℕ) (places : List ℕ)
      → k ≡ length ls → k ≡ length layout.cited + i → AreNamed 0 ls → HasInputs layout ls → AllPlaced layout.negated i places
      → AllByRecursion (λ p. p < length problem) places → AllByRecursion (λ p. has_number layout.cited p ≡ true) places
      → AllByRecursion (λ p. unwrap_or (option_map (λ (a : AnnotatedTree). is_conjecture a.role) (slice_get script.formulas p)) false ≡ true) places
      → k + length places ≤ 2 ^ 64
      → Walks s ls (filter_map (λ place. negate_at script layout (negated_name layout place) place) places) (negations_taken problem k places)
  negations-walk layout k ls i [] k_is i_is named inputs placed below has conjectures small = walk-none s ls
  negations-walk layout k ls i (p ∷ ps) k_is i_is named inputs placed below has conjectures small =
      let found = there-below problem p below.0 in
      let entry : slice_get script.formulas p ≡ Some (entry_of found.0) = entry-there p found.0 found.1 in
      let name : List ℕ = negated_name layout p in
      let line : Line = line_of (Negate (first_place problem p)) empty_clause in
      let number : length layout.cited + place_in p layout.negated ≡ k = omega (arith, i_is, placed.0) in
      let name_is : name ≡ line_name k = ap line_name number in
      let is_new : list_any (λ (l : NamedLine). bytes_eq name l.name) ls ≡ false =
      ap (λ n. list_any (λ (l : NamedLine). bytes_eq n l.name) ls) name_is
      ∙ name-new k 0 ls (omega (arith, small)) (omega (arith, k_is)) named in
      let conjecture : is_conjecture (found.0).role ≡ true =
      sym (ap (λ o. unwrap_or (option_map (λ (a : AnnotatedTree). is_conjecture a.role) o) false) entry) ∙ conjectures.0 in
      let parent_there = inputs p has.0 in
      let parent : line_place (state ls) (cited_name layout p) ≡ Some (place_in p layout.cited) =
      found-there (place_in p layout.cited) ls (input_taken (cited_name layout p) p) parent_there (omega (arith, k_is, small)) named in
      let later : List NamedLine = ls ++ taken_as (line_name k) line ∷ [] in
      let longer : k + 1 ≡ length later = omega (arith, k_is, length-append ls (taken_as (line_name k) line ∷ [])) in
      let rest =
      negations-walk layout (k + 1) later (i + 1) ps longer (omega (arith, i_is))
      (named-joined 0 k ls (taken_as (line_name k) line ∷ []) (omega (arith, k_is)) named (refl, tt))
      (has-inputs layout ls (taken_as (line_name k) line ∷ []) inputs) placed.1 below.1 has.1 conjectures.1 (omega (arith, small)) in
      subst
      (λ o.
      Walks s ls
      (cons_option (option_map (negate_tree script layout name p) o)
      (filter_map (λ place. negate_at script layout (negated_name layout place) place) ps))
      (negations_taken problem k (p ∷ ps)))
      (sym entry)
      (walk-line s ls (negate_tree script layout name p (entry_of found.0)) (line_name k) line
      (filter_map (λ place. negate_at script layout (negated_name layout place) place) ps) (negations_taken problem (k + 1) ps)
      name_is refl (negate-line layout name ls p (place_in p layout.cited) found.0 found.1 conjecture is_new parent parent_there) rest)

  -- ---- what was taken of them

  pub inputs-length : (k : ℕ) (ps : List ℕ) → length (inputs_taken problem k ps) ≡ length ps
  inputs-length k [] = refl
  inputs-length k (p ∷ ps) = ap suc (inputs-length (k + 1) ps)

  pub negations-length : (k : ℕ) (ps : List ℕ) → length (negations_taken problem k ps) ≡ length ps
  negations-length k [] = refl
  negations-length k (p ∷ ps) = ap suc (negations-length (k + 1) ps)

  pub inputs-named : (k : ℕ) (ps : List ℕ) → AreNamed k (inputs_taken problem k ps)
  inputs-named k [] = tt
  inputs-named k (p ∷ ps) = (refl, inputs-named (k + 1) ps)

  pub negations-named : (k : ℕ) (ps : List ℕ) → AreNamed k (negations_taken problem k ps)
  negations-named k [] = tt
  negations-named k (p ∷ ps) = (refl, negations-named (k + 1) ps)

  inputs-there :
      (n k i : ℕ) (ps : List ℕ) (p : ℕ) → n ≡ k + i → slice_get ps i ≡ Some p
      → slice_get (inputs_taken problem k ps) i ≡ Some (input_taken (line_name n) p)
  inputs-there n k i [] p n_is at = absurd (none-some p at)
  inputs-there n k zero (q ∷ qs) p n_is at =
      let e : k ≡ n = omega (arith, n_is) in
      ap (λ j. Some (input_taken (line_name j) q)) e ∙ ap (λ j. Some (input_taken (line_name n) j)) (same_Some q p at)
  inputs-there n k (suc i) (q ∷ qs) p n_is at = inputs-there n (k + 1) i qs p (omega (arith, n_is)) at

  negations-there :
      (n k i : ℕ) (ps : List ℕ) (p : ℕ) → n ≡ k + i → slice_get ps i ≡ Some p
      → slice_get (negations_taken problem k ps) i ≡ Some (negation_taken (line_name n) p)
  negations-there n k i [] p n_is at = absurd (none-some p at)
  negations-there n k zero (q ∷ qs) p n_is at =
      let e : k ≡ n = omega (arith, n_is) in
      ap (λ j. Some (negation_taken (line_name j) q)) e ∙ ap (λ j. Some (negation_taken (line_name n) j)) (same_Some q p at)
  negations-there n k (suc i) (q ∷ qs) p n_is at = negations-there n (k + 1) i qs p (omega (arith, n_is)) at

  pub inputs-stand : (layout : Layout) → HasInputs layout (inputs_taken problem 0 layout.cited)
  inputs-stand layout p has =
      inputs-there (place_in p layout.cited) 0 (place_in p layout.cited) layout.cited p (omega arith) (number-there layout.cited p has).1

  pub negations-stand :
      (layout : Layout) (p : ℕ) → has_number layout.negated p ≡ true
      → slice_get (negations_taken problem (length layout.cited) layout.negated) (place_in p layout.negated)
      ≡ Some (negation_taken (negated_name layout p) p)
  negations-stand layout p has =
      negations-there (length layout.cited + place_in p layout.negated) (length layout.cited) (place_in p layout.negated) layout.negated p refl
      (number-there layout.negated p has).1
