-- The cone of a refutation: all its lines are clause lines, and `last` is the highest of their numbers.
use Rattle.std.proofs.Common.{◌≡◌, ◌⊎◌, inl, inr, ℕ, suc, ◌<◌, ◌≤◌, Bool, true, false, ◌&&◌, ◌==◌, List, [], ◌∷◌, map, take, Option, None, Some, refl, ap, sym, ◌∙◌, arith, ⊎_elim}
use Rattle.std.specs.Prelude.{slice_get, option_map, unwrap_or, nat_le, if◌then◌else◌}
use Rattle.std.proofs.lemmas.Bool.{and_parts, and_from, or_cases, eqb-true, le-leb, leb-true, false≢true}
use Rattle.std.proofs.lemmas.Option.{none-some, same_Some, option_and_then_some}
use Rattle.fol_base.specs.Rules.{superposed, resolved, factored, merged}
use Rattle.fol_base.specs.Clause.{TreeClause}
use Rattle.fol_base.specs.Literal.{clause_of}
use Rattle.tptp_tree.specs.declared.problem.Annotated.{Annotated}
use Rattle.signature.specs.Form.{clausal_form}
use Rattle.kernel_steps.specs.Lines.{step_parents}
use Rattle.kernel_steps.specs.Parents.{Parent, Parents}
use Rattle.kernel_steps.specs.Conclusion.{names_alone, names_at}
use Rattle.kernel_steps.specs.Derivation.{is_clause_step, line_parents, is_component_of, component_clause, ComesBy}
use Rattle.kernel_steps.specs.declared.step.Step.{Step}
use Rattle.kernel_steps.specs.declared.step.Step.TheVariants.{Input, Negate, Clausify, Para, Refl, Factor, Merge, Component, Opposite, Split, Chain}
use Rattle.kernel_steps.specs.declared.step.Line.{Line}
use Rattle.kernel_steps.proofs.AboutCalls.LineLemmas.{slice_get-take, ParentLine, parent_line}
use Rattle.kernel_steps.proofs.AboutCalls.VerdictParts.{by_one-parts, by_two-parts, split-parts, chain-parts}
use Rattle.tstp_writer.specs.Cone.{has_number, needs, IsClosed, IsCone}
use Rattle.tstp_writer.specs.ReadableLines.{IsReadableLine}
use Rattle.tstp_writer.specs.WrittenLaws.{IsReadableRefutation}
use Rattle.tstp_writer.proofs.AboutNeeded.EarlierLemmas.{looked-up, component-named, need-earlier}

-- ---- what steps need

pub step-needs : (step : Step) (m : ℕ) (other : Line) → has_number (step_parents step) m ≡ true → needs step m other ≡ true
step-needs (Input place) m other has = has
step-needs (Negate place) m other has = has
step-needs (Clausify i) m other has = has
step-needs (Para first second from from_side into into_side place first_bind second_bind) m other has = has
step-needs (Refl parent literal bind) m other has = has
step-needs (Factor parent becomes becomes_side other_literal other_side bind) m other has = has
step-needs (Merge parent stays goes bind) m other has = has
step-needs (Component name) m other has = has
step-needs (Opposite name) m other has = absurd (false≢true has)
step-needs (Split parent definitions parts) m other has = has
step-needs (Chain numbers pivots) m other has = has

-- what is needed is a component line, or a parent
needed-cases :
    (step : Step) (m : ℕ) (other : Line) → needs step m other ≡ true
    → (is_clause_step other.step ≡ true) ⊎ (has_number (step_parents step) m ≡ true)
needed-cases (Input place) m other need = inr need
needed-cases (Negate place) m other need = inr need
needed-cases (Clausify i) m other need = inr need
needed-cases (Para first second from from_side into into_side place first_bind second_bind) m other need = inr need
needed-cases (Refl parent literal bind) m other need = inr need
needed-cases (Factor parent becomes becomes_side other_literal other_side bind) m other need = inr need
needed-cases (Merge parent stays goes bind) m other need = inr need
needed-cases (Component name) m other need = inr need
needed-cases (Opposite name) m other need = inl (ap is_clause_step (component-named name other.step need))
needed-cases (Split parent definitions parts) m other need = inr need
needed-cases (Chain numbers pivots) m other need = inr need

one-there : (parents : Parents) (a k : ℕ) (p : Parent) → parents a ≡ Some p → has_number (a ∷ []) k ≡ true → (q : Parent) × (parents k ≡ Some q)
one-there parents a k p there has =
    ⊎_elim (λ same. (p, ap parents (sym (eqb-true a k same)) ∙ there)) (λ none. absurd (false≢true none)) (or_cases (a == k) false has)

-- what a step concludes from is there
parent-there :
    (form : List TreeClause) (lines : List Line) (step : Step) (c : TreeClause) (m : ℕ)
    → ComesBy step form lines c → has_number (step_parents step) m ≡ true → (p : Parent) × (line_parents lines m ≡ Some p)
parent-there form lines (Input place) c m comes has = absurd (false≢true has)
parent-there form lines (Clausify i) c m comes has = absurd (false≢true has)
parent-there form lines (Para first second from from_side into into_side place first_bind second_bind) c m comes has =
    let parents : Parents = line_parents lines in
    let parts = by_two-parts (parents first) first_bind (parents second) second_bind (λ ls ks. superposed ls from from_side ks into into_side place) c comes in
    ⊎_elim (λ same. (parts.source, ap parents (sym (eqb-true first m same)) ∙ parts.first_there))
    (λ later. one-there parents second m parts.target parts.second_there later)
    (or_cases (first == m) (has_number (second ∷ []) m) has)
parent-there form lines (Refl parent literal bind) c m comes has =
    let parts = by_one-parts (line_parents lines parent) bind (λ ls. resolved ls literal) c comes in
    one-there (line_parents lines) parent m parts.source parts.there has
parent-there form lines (Factor parent becomes becomes_side other other_side bind) c m comes has =
    let parts = by_one-parts (line_parents lines parent) bind (λ ls. factored ls becomes becomes_side other other_side) c comes in
    one-there (line_parents lines) parent m parts.source parts.there has
parent-there form lines (Merge parent stays goes bind) c m comes has =
    let parts = by_one-parts (line_parents lines parent) bind (λ ls. merged ls stays goes) c comes in
    one-there (line_parents lines) parent m parts.source parts.there has
parent-there form lines (Negate place) c m comes has = absurd (false≢true has)
parent-there form lines (Component name) c m comes has = absurd (false≢true has)
parent-there form lines (Opposite name) c m comes has = absurd (false≢true has)
parent-there form lines (Split parent definitions shares) c m comes has =
    let parents : Parents = line_parents lines in
    let parts = split-parts (parents parent) (map parents definitions) shares c comes in
    ⊎_elim (λ same. (parts.source, ap parents (sym (eqb-true parent m same)) ∙ parts.there))
    (λ later. looked-up parents definitions parts.defined m parts.definitions_there later)
    (or_cases (parent == m) (has_number definitions m) has)
parent-there form lines (Chain numbers pivots) c m comes has =
    let parents : Parents = line_parents lines in
    let parts = chain-parts parents numbers pivots c comes in
    let found = looked-up (names_at parents) numbers parts.lists m parts.there has in
    option_and_then_some names_alone (parents m) found.0 found.1 λ p p_is alone. (p, p_is)

-- ---- lines of the cone

-- a clause line with that number
pub record IsClauseLine (lines : List Line) (n : ℕ) : Type 0 where
  pub line : Line
  pub there : slice_get lines n ≡ Some line
  pub is_clause : is_clause_step line.step ≡ true

-- the component line of a name
record ComponentAt (lines : List Line) (name : ℕ) (c : TreeClause) : Type 0 where
  number : ℕ
  line : Line
  there : slice_get lines number ≡ Some line
  is_one : is_component_of name line.step ≡ true
  clause_is : clause_of line.clause ≡ c

component-at : (lines : List Line) (name : ℕ) (c : TreeClause) → component_clause name lines ≡ Some c → ComponentAt lines name c
component-at [] name c h = absurd (none-some c h)
component-at (l ∷ ls) name c h = by (is_component_of name l.step) refl h (component-at ls name c)
  where
    by :
        (t : Bool) → is_component_of name l.step ≡ t → (if t then Some (clause_of l.clause) else component_clause name ls) ≡ Some c
        → (component_clause name ls ≡ Some c → ComponentAt ls name c) → ComponentAt (l ∷ ls) name c
    by true is_one g later = record { number = 0; line = l; there = refl; is_one = is_one; clause_is = same_Some (clause_of l.clause) c g }
    by false other g later =
        let rest : ComponentAt ls name c = later g in
        record { number = suc rest.number; line = rest.line; there = rest.there; is_one = rest.is_one; clause_is = rest.clause_is }

module _ (problem : List Annotated) (lines : List Line) (last : ℕ) (numbers : List ℕ) (r : IsReadableRefutation problem lines last) (cone : IsCone lines last numbers) where
  pub readable-there :
      (n : ℕ) (line : Line) → slice_get lines n ≡ Some line → has_number numbers n ≡ true → IsReadableLine (clausal_form problem).symbols line
  readable-there n line at inside = r.readable n line at ((cone.exact n).0 inside)

  parent-of :
      (n m : ℕ) (line : Line) → slice_get lines n ≡ Some line → has_number numbers n ≡ true → has_number (step_parents line.step) m ≡ true
      → (p : Parent) × ParentLine lines n m p
  parent-of n m line at inside has =
      let found =
      parent-there (clausal_form problem).clauses (take n lines) line.step (clause_of line.clause) m (r.derived n line at) has in
      (found.0, parent_line lines n m found.0 found.1)

  abbrev is_clause_at : ℕ → Bool
  is_clause_at n = unwrap_or (option_map (λ (l : Line). is_clause_step l.step) (slice_get lines n)) false

  clause-at : (n : ℕ) (line : Line) → slice_get lines n ≡ Some line → is_clause_step line.step ≡ true → is_clause_at n ≡ true
  clause-at n line at h = ap (λ o. unwrap_or (option_map (λ (l : Line). is_clause_step l.step) o) false) at ∙ h

  -- what a line of the cone needs is in the cone
  kept-in :
      (n m : ℕ) (line other : Line)
      → slice_get lines n ≡ Some line → slice_get lines m ≡ Some other → has_number numbers n ≡ true → needs line.step m other ≡ true
      → has_number numbers m ≡ true
  kept-in n m line other at other_at inside need =
      (cone.exact m).1 (λ set h closed. closed n m line other at other_at ((cone.exact n).0 inside set h closed) need)

  clauses-closed : IsClosed lines (λ n. has_number numbers n && is_clause_at n)
  clauses-closed n m line other at other_at both need =
      let inside : has_number numbers n ≡ true = (and_parts (has_number numbers n) (is_clause_at n) both).0 in
      and_from (has_number numbers m) (is_clause_at m) (kept-in n m line other at other_at inside need)
      (⊎_elim (λ is_clause. clause-at m other other_at is_clause)
      (λ has.
      let found = parent-of n m line at inside has in
      clause-at m (found.1).line (found.1).there (found.1).is_clause)
      (needed-cases line.step m other need))

  pub last-there : has_number numbers last ≡ true
  last-there = (cone.exact last).1 (λ set h closed. h)

  pub cone-line : (n : ℕ) → has_number numbers n ≡ true → IsClauseLine lines n
  cone-line n has =
      by (slice_get lines n) refl
      (and_parts (has_number numbers n) (is_clause_at n)
      ((cone.exact n).0 has (λ k. has_number numbers k && is_clause_at k)
      (and_from (has_number numbers last) (is_clause_at last) last-there (clause-at last r.line r.ends r.is_clause)) clauses-closed)).1
    where
      by : (o : Option Line) → slice_get lines n ≡ o → unwrap_or (option_map (λ (l : Line). is_clause_step l.step) o) false ≡ true → IsClauseLine lines n
      by None e h = absurd (false≢true h)
      by (Some line) e h = record { line = line; there = e; is_clause = h }

  low-closed : IsClosed lines (λ n. nat_le n last)
  low-closed n m line other at other_at low need =
      let earlier : m < n = need-earlier (clausal_form problem).clauses lines r.derived n m line other at other_at need in
      le-leb m last (omega (arith, earlier, leb-true n last low))

  -- no number of the cone is greater
  pub last-greatest : (n : ℕ) → has_number numbers n ≡ true → n ≤ last
  last-greatest n has = leb-true n last ((cone.exact n).0 has (λ m. nat_le m last) (le-leb last last (omega arith)) low-closed)

  -- A parent of a line of the cone is earlier, and in the cone.
  pub record IsConeParent (n m : ℕ) : Type 0 where
    pub earlier : m < n
    pub has : has_number numbers m ≡ true

  pub cone-parent :
      (n m : ℕ) (line : Line) → slice_get lines n ≡ Some line → has_number numbers n ≡ true → has_number (step_parents line.step) m ≡ true
      → IsConeParent n m
  cone-parent n m line at has parent =
      let found = parent-of n m line at has parent in
      let need : needs line.step m (found.1).line ≡ true = step-needs line.step m (found.1).line parent in
      record { earlier = (found.1).earlier; has = kept-in n m line (found.1).line at (found.1).there has need }

  -- The component line of an opposite line's name is earlier, and in the cone.
  pub record IsConeComponent (n name : ℕ) (c : TreeClause) : Type 0 where
    pub number : ℕ
    pub line : Line
    pub there : slice_get lines number ≡ Some line
    pub step_is : line.step ≡ Component name
    pub clause_is : clause_of line.clause ≡ c
    pub earlier : number < n
    pub has : has_number numbers number ≡ true

  pub cone-component :
      (n name : ℕ) (line : Line) (c : TreeClause) → slice_get lines n ≡ Some line → has_number numbers n ≡ true → line.step ≡ Opposite name
      → component_clause name (take n lines) ≡ Some c → IsConeComponent n name c
  cone-component n name line c at has step_is introduced =
      let found : ComponentAt (take n lines) name c = component-at (take n lines) name c introduced in
      let place = slice_get-take lines n found.number found.line found.there in
      let need : needs line.step found.number found.line ≡ true = ap (λ st. needs st found.number found.line) step_is ∙ found.is_one in
      record {
        number = found.number;
        line = found.line;
        there = place.1;
        step_is = component-named name (found.line).step found.is_one;
        clause_is = found.clause_is;
        earlier = place.0;
        has = kept-in n found.number line found.line at place.1 has need;
      }
