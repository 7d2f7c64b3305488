-- The lines of a refutation are taken one after another, behind those of the formulas and of their negations.
use Rattle.std.proofs.Common.{◌≡◌, ℕ, ◌+◌, ◌<◌, ◌≤◌, ◌^◌, true, ◌==◌, List, [], ◌∷◌, ◌++◌, map, take, length, Option, None, Some, refl, ap, sym, ◌∙◌, subst, arith, append_assoc, length-append}
use Rattle.std.specs.Prelude.{slice_get, filter_map, bytes_eq, option_and_then}
use Rattle.std.specs.List.{list_any, AllByRecursion, cons_option}
use Rattle.std.proofs.lemmas.Bool.{or_left, or_right, eq-eqb}
use Rattle.std.proofs.lemmas.Option.{same_Some}
use Rattle.fol_base.specs.Clause.{TreeClause}
use Rattle.fol_base.specs.Literal.{clause_of}
use Rattle.tptp_tree.specs.declared.problem.Annotated.{Annotated}
use Rattle.signature.specs.Form.{clausal_form}
use Rattle.kernel_steps.specs.Lines.{step_parents}
use Rattle.kernel_steps.specs.Derivation.{ComesBy, IsOpposite}
use Rattle.kernel_steps.specs.declared.step.Step.{Step}
use Rattle.kernel_steps.specs.declared.step.Step.TheVariants.{Input, Negate, Clausify, Para, Refl, Factor, Merge, Component, Opposite, Split, Chain}
use Rattle.kernel_steps.specs.declared.step.Line.{Line}
use Rattle.clausal_form.specs.DerivationLine.{LineTree, NamedLine}
use Rattle.clausal_form.specs.DerivationParts.{Setting, setting_of}
use Rattle.tstp_writer.specs.Cone.{has_number, IsRising, IsCone, IsAbove}
use Rattle.tstp_writer.specs.LineTrees.{Script, script_of, Layout, lines_at, layout_of, line_name, place_in, derived_name, step_source, clause_tree, line_tree, derived_tree}
use Rattle.tstp_writer.specs.ReadableLines.{NumbersFit, LinesFit, IsReadableLine, written_place, placed_line, derived_taken, Fits, step_numbers, step_names, names_of_lines, read_clause}
use Rattle.tstp_writer.specs.DerivedLines.{HasNumberedForm, ParentIsTaken, SourcesAreTaken, AreIntroduced, ComponentIsTaken}
use Rattle.tstp_writer.specs.Places.{IsCounted}
use Rattle.tstp_writer.specs.WrittenLaws.{IsReadableRefutation}
use Rattle.tstp_writer.proofs.AboutPrinted.StepTrees.{tree-is}
use Rattle.tstp_writer.proofs.AboutPrinted.PlaceLemmas.{all-there, number-there, all-from, AllPlaced, rising-placed, stands-before, name-new, above-has}
use Rattle.tstp_writer.proofs.AboutPrinted.WalkLemmas.{named_state, NamedWalk, named-none, named-line}
use Rattle.tstp_writer.proofs.ReadAgain.InputLines.{found-there}
use Rattle.tstp_writer.proofs.AboutNeeded.ConeLemmas.{IsClauseLine, readable-there, cone-line, IsConeParent, cone-parent, IsConeComponent, cone-component}
use Rattle.std.proofs.lemmas.List.{append-nil}
use Rattle.tstp_writer.specs.ClauseTrees.{introduced_name}
use Rattle.tstp_writer.proofs.AboutPrinted.NameOrder.{has-middle, has-front}
use Rattle.tstp_writer.proofs.AboutNeeded.StandingLines.{inputs, negations, names_in, introduced_in, derived_line, Stands, stands-first, stands-more, derived-there, names-more, names-whole, known-more, each-name, name-there, clausify-origin}
use Rattle.tstp_writer.proofs.AboutNeeded.DerivedLemmas.{names-with, component-place, IsTakenLine}
use Rattle.tstp_writer.proofs.AboutNeeded.DerivedNames.{line-taken}

module _ (file : List ℕ) (problem : List Annotated) (lines : List Line) (numbers : List ℕ) where
  abbrev s : Setting
  s = setting_of problem

  abbrev script : Script
  script = script_of file problem

  abbrev layout : Layout
  layout = layout_of (script_of file problem) lines numbers

  abbrev names : List ℕ
  names = names_of_lines (lines_at lines numbers)

  -- ---- what a step goes on from

  sources-taken :
      (ls : List NamedLine) (before : List ℕ) (n : ℕ) (line : Line) (step : Step) (introduced : List (List ℕ)) (known : List ℕ)
      → Stands file problem lines numbers ls before → length ls ≤ 2 ^ 64
      → slice_get lines n ≡ Some line → has_number numbers n ≡ true → line.step ≡ step
      → ComesBy step (clausal_form problem).clauses (take n lines) (clause_of line.clause)
      → ((m : ℕ) → has_number (step_parents step) m ≡ true → ParentIsTaken layout names known lines (named_state ls introduced) m)
      → ((name : ℕ) → step ≡ Opposite name → ComponentIsTaken names known lines (named_state ls introduced) n name)
      → SourcesAreTaken problem script layout names known lines (named_state ls introduced) n step
  sources-taken ls before n line (Clausify i) introduced known st small at has step_is comes parents components =
      clausify-origin file problem lines numbers ls before n line i introduced st small at has step_is comes
  sources-taken ls before n line (Input place) introduced known st small at has step_is comes parents components = tt
  sources-taken ls before n line (Negate place) introduced known st small at has step_is comes parents components = tt
  sources-taken ls before n line (Para first second from from_side into into_side place first_bind second_bind) introduced known st small at has step_is comes parents components =
      all-from (ParentIsTaken layout names known lines (named_state ls introduced)) (first ∷ second ∷ []) parents
  sources-taken ls before n line (Refl parent literal bind) introduced known st small at has step_is comes parents components =
      all-from (ParentIsTaken layout names known lines (named_state ls introduced)) (parent ∷ []) parents
  sources-taken ls before n line (Factor parent becomes becomes_side other other_side bind) introduced known st small at has step_is comes parents components =
      all-from (ParentIsTaken layout names known lines (named_state ls introduced)) (parent ∷ []) parents
  sources-taken ls before n line (Merge parent stays goes bind) introduced known st small at has step_is comes parents components =
      all-from (ParentIsTaken layout names known lines (named_state ls introduced)) (parent ∷ []) parents
  sources-taken ls before n line (Component name) introduced known st small at has step_is comes parents components = tt
  sources-taken ls before n line (Opposite name) introduced known st small at has step_is comes parents components = components name refl
  sources-taken ls before n line (Split parent definitions parts) introduced known st small at has step_is comes parents components =
      all-from (ParentIsTaken layout names known lines (named_state ls introduced)) (parent ∷ definitions) parents
  sources-taken ls before n line (Chain chained pivots) introduced known st small at has step_is comes parents components =
      all-from (ParentIsTaken layout names known lines (named_state ls introduced)) chained parents

  -- ---- all lines of the derivation

  module _ (last : ℕ) (form : HasNumberedForm problem) (fits : LinesFit lines) (r : IsReadableRefutation problem lines last) (cone : IsCone lines last numbers) (counted : IsCounted layout) where
    all-above : (name : ℕ) (ms : List ℕ) → AllByRecursion (λ m. name < m) ms → IsAbove name ms
    all-above name [] h = tt
    all-above name (m ∷ ms) h = (h.0, all-above name ms h.1)

    -- names that lines with rising numbers introduce
    rising-in :
        (ns : List ℕ) → IsRising ns → ((n : ℕ) → has_number ns n ≡ true → has_number numbers n ≡ true)
        → IsRising (names_in file problem lines numbers ns)
    rising-in [] rising inside = tt
    rising-in (n ∷ ns) rising inside =
        at (slice_get lines n) refl (rising-in ns rising.1 (λ m has. inside m (or_right (n == m) (has_number ns m) has)))
      where
        here :
            (line : Line) (st : Step) → slice_get lines n ≡ Some line → line.step ≡ st → IsRising (names_in file problem lines numbers ns)
            → IsRising (step_names st ++ names_in file problem lines numbers ns)
        here line (Component name) line_at step_is later = (
          all-above name (names_in file problem lines numbers ns)
              (each-name file problem lines numbers (λ m. name < m) ns
              (λ m greater other has other_at other_is.
              r.names n m name greater line other line_at other_at
              ((cone.exact n).0 (inside n (or_left (n == n) (has_number ns n) (eq-eqb n n refl))))
              ((cone.exact m).0 (inside m (or_right (n == m) (has_number ns m) has))) (above-has n ns m rising.0 has) step_is other_is)),
          later,
        )
        here line (Input place) line_at step_is later = later
        here line (Negate place) line_at step_is later = later
        here line (Clausify i) line_at step_is later = later
        here line (Para first second from from_side into into_side place first_bind second_bind) line_at step_is later = later
        here line (Refl parent literal bind) line_at step_is later = later
        here line (Factor parent becomes becomes_side other other_side bind) line_at step_is later = later
        here line (Merge parent stays goes bind) line_at step_is later = later
        here line (Opposite name) line_at step_is later = later
        here line (Split parent definitions parts) line_at step_is later = later
        here line (Chain parents pivots) line_at step_is later = later

        at :
            (o : Option Line) → slice_get lines n ≡ o → IsRising (names_in file problem lines numbers ns)
            → IsRising (names_of_lines (cons_option o (lines_at lines ns)))
        at None line_at later = later
        at (Some line) line_at later = here line line.step line_at refl later

    names-rise : IsRising names
    names-rise = rising-in numbers cone.rising (λ n has. has)

    numbers-there : (n : ℕ) (line : Line) → slice_get lines n ≡ Some line → NumbersFit line.step (clause_of line.clause)
    numbers-there n line at = all-there (λ (l : Line). NumbersFit l.step (clause_of l.clause)) lines n line fits at

    names-fit : AllByRecursion Fits names
    names-fit =
        each-name file problem lines numbers Fits numbers λ m name line has at step_is.
        (subst (λ st. AllByRecursion Fits (step_numbers st)) step_is (numbers-there m line at).numbers).0

    introduced-so-far :
        (ls : List NamedLine) (before : List ℕ) (n : ℕ) (after : List ℕ) (line : Line) (step : Step) → slice_get lines n ≡ Some line
        → line.step ≡ step → before ++ n ∷ after ≡ numbers
        → AreIntroduced script.prefix names (names_in file problem lines numbers (before ++ n ∷ []))
        (named_state ls (introduced_in file problem lines numbers before)) step
    introduced-so-far ls before n after line step at step_is whole = record {
      rising = names-rise;
      numbers = names-fit;
      before = names_in file problem lines numbers before;
      introduced = refl;
      known_are =
          names-more file problem lines numbers before n line at
          ∙ ap (λ st. names_in file problem lines numbers before ++ step_names st) step_is;
      others = names_in file problem lines numbers after;
      whole = names-whole file problem lines numbers before n after whole;
    }

    line-is-taken :
        (ls : List NamedLine) (before : List ℕ) (n : ℕ) (after : List ℕ) (c : IsClauseLine lines n) → Stands file problem lines numbers ls before
        → before ++ n ∷ after ≡ numbers → place_in n numbers ≡ length before → has_number numbers n ≡ true
        → IsTakenLine problem file layout names (names_in file problem lines numbers (before ++ n ∷ [])) lines
        (named_state ls (introduced_in file problem lines numbers before)) form
        (clause_tree script (derived_name layout n) (clause_of (c.line).clause) (step_source script layout (c.line).step))
        (clause_of (c.line).clause) (placed_line layout names (c.line).step (clause_of (c.line).clause))
    line-is-taken ls before n after c st whole place has =
        line-taken problem file layout names known lines (named_state ls introduced) n c.line form readable (numbers-there n c.line c.there) c.is_clause (r.derived n c.line c.there)
        (introduced-so-far ls before n after c.line (c.line).step c.there refl whole)
        (ap (λ k. list_any (λ (l : NamedLine). bytes_eq (line_name k) l.name) ls) number
        ∙ name-new (length ls) 0 ls small (omega arith) st.named)
        (sources-taken ls before n c.line (c.line).step introduced known st (omega (arith, small)) c.there has refl (r.derived n c.line c.there)
        parents components)
      where
        introduced : List (List ℕ)
        introduced = introduced_in file problem lines numbers before

        known : List ℕ
        known = names_in file problem lines numbers (before ++ n ∷ [])

        number : written_place layout n ≡ length ls
        number = omega (arith, st.long, place)

        small : length ls < 2 ^ 64
        small =
            let counted_lines : length layout.cited + length layout.negated + length numbers < 2 ^ 64 = counted in
            let low : place_in n numbers < length numbers = (number-there numbers n has).0 in
            omega (arith, counted_lines, st.long, place, low)

        readable : IsReadableLine (clausal_form problem).symbols c.line
        readable = readable-there problem lines last numbers r cone n c.line c.there has

        stands-earlier : (m : ℕ) → has_number numbers m ≡ true → m < n → has_number before m ≡ true
        stands-earlier m inside less =
            stands-before before n after m (subst IsRising (sym whole) cone.rising) (subst (λ ns. has_number ns m ≡ true) (sym whole) inside) less

        parents : (m : ℕ) → has_number (step_parents (c.line).step) m ≡ true → ParentIsTaken layout names known lines (named_state ls introduced) m
        parents m parent =
            let p : IsConeParent problem lines last numbers r cone n m =
            cone-parent problem lines last numbers r cone n m c.line c.there has parent in
            let d : IsClauseLine lines m = cone-line problem lines last numbers r cone m p.has in
            let earlier : has_number before m ≡ true = stands-earlier m p.has p.earlier in
            let stands = st.has_derived m d.line earlier d.there in
            record {
              line = d.line;
              there = d.there;
              place =
                  found-there file problem (written_place layout m) ls (derived_line file problem lines numbers m d.line) stands
                  (omega (arith, small)) st.named;
              taken = stands;
              names_known =
                  known-more file problem lines numbers before n (clause_of (d.line).clause) (st.names_known m d.line earlier d.there);
            }

        components : (name : ℕ) → (c.line).step ≡ Opposite name → ComponentIsTaken names known lines (named_state ls introduced) n name
        components name step_is =
            let comes : IsOpposite name (take n lines) (clause_of (c.line).clause) =
            subst (λ step. ComesBy step (clausal_form problem).clauses (take n lines) (clause_of (c.line).clause)) step_is (r.derived n c.line c.there) in
            let d : IsConeComponent problem lines last numbers r cone n name comes.component =
            cone-component problem lines last numbers r cone n name c.line comes.component c.there has step_is comes.introduced in
            let earlier : has_number before d.number ≡ true = stands-earlier d.number d.has d.earlier in
            record {
              name_known =
                  name-there file problem lines numbers (before ++ n ∷ []) d.number name d.line (has-front before (n ∷ []) d.number earlier) d.there
                  d.step_is;
              clause =
                  λ other other_is.
                  st.has_components d.number name d.line earlier d.there d.step_is
                  ∙ ap (λ (e : TreeClause). Some (read_clause names e))
                  (d.clause_is ∙ same_Some comes.component other (sym comes.introduced ∙ other_is));
            }

    derived-walk :
        (ls : List NamedLine) (before after : List ℕ) → Stands file problem lines numbers ls before → before ++ after ≡ numbers
        → AllPlaced numbers (length before) after
        → NamedWalk s ls (introduced_in file problem lines numbers before) (filter_map (derived_tree script layout lines) after)
        (filter_map (derived_taken layout names lines) after) (map (introduced_name script.prefix) names)
    unfolding introduced-so-far
    derived-walk ls before [] st whole placed =
        named-none s ls (introduced_in file problem lines numbers before) (map (introduced_name script.prefix) names)
        (ap (λ ns. introduced_in file problem lines numbers ns) (sym (append-nil before) ∙ whole))
    derived-walk ls before (n ∷ more) st whole placed =
        let has : has_number numbers n ≡ true = subst (λ ns. has_number ns n ≡ true) whole (has-middle before n more) in
        let c : IsClauseLine lines n = cone-line problem lines last numbers r cone n has in
        let clause : TreeClause = clause_of (c.line).clause in
        let t : LineTree = clause_tree script (derived_name layout n) clause (step_source script layout (c.line).step) in
        let ts : List LineTree = filter_map (derived_tree script layout lines) more in
        let ms : List NamedLine = filter_map (derived_taken layout names lines) more in
        let one : List NamedLine = derived_line file problem lines numbers n c.line ∷ [] in
        let taken_line = line-is-taken ls before n more c st whole placed.0 has in
        let a = introduced-so-far ls before n more c.line (c.line).step c.there refl whole in
        let longer : length before + 1 ≡ length (before ++ n ∷ []) = omega (arith, length-append before (n ∷ [])) in
        let next : (name : ℕ) → (c.line).step ≡ Component name → place_in name names ≡ length (names_in file problem lines numbers before) =
        λ name step_is.
        component-place script.prefix names (names_in file problem lines numbers (before ++ n ∷ []))
        (named_state ls (introduced_in file problem lines numbers before)) name
        (introduced-so-far ls before n more c.line (Component name) c.there step_is whole) in
        let rest =
        derived-walk (ls ++ one) (before ++ n ∷ []) more
        (stands-more file problem lines numbers ls before n c.line st c.there placed.0 taken_line.names_known next)
        (append_assoc before (n ∷ []) more ∙ whole) (subst (λ k. AllPlaced numbers k more) longer placed.1) in
        let tree : derived_tree script layout lines n ≡ Some t =
        ap (option_and_then (line_tree script layout (derived_name layout n))) c.there
        ∙ tree-is script layout (derived_name layout n) clause (c.line).step c.is_clause in
        subst (λ o. NamedWalk s ls (introduced_in file problem lines numbers before) (cons_option o ts) (cons_option (derived_taken layout names lines n) ms) (map (introduced_name script.prefix) names)) (sym tree)
        (subst (λ o. NamedWalk s ls (introduced_in file problem lines numbers before) (t ∷ ts) (cons_option o ms) (map (introduced_name script.prefix) names))
        (sym (derived-there file problem lines numbers n c.line c.there))
        (named-line s ls (introduced_in file problem lines numbers before) (introduced_in file problem lines numbers (before ++ n ∷ []))
        (map (introduced_name script.prefix) names) t (placed_line layout names (c.line).step clause) ts ms
        (names-with script layout names (names_in file problem lines numbers (before ++ n ∷ []))
        (named_state ls (introduced_in file problem lines numbers before)) (c.line).step a)
        taken_line.verdict_is rest))

    pub derived-walked :
        NamedWalk s (inputs file problem lines numbers ++ negations file problem lines numbers) []
        (filter_map (derived_tree script layout lines) numbers) (filter_map (derived_taken layout names lines) numbers)
        (map (introduced_name script.prefix) names)
    derived-walked =
        derived-walk (inputs file problem lines numbers ++ negations file problem lines numbers) [] numbers (stands-first file problem lines numbers)
        refl (rising-placed numbers cone.rising)
