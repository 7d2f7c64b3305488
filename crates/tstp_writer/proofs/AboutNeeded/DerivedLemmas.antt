-- What is read of a line of a derivation that can be read again; and that the line is taken where its source gives that clause.
use Rattle.std.proofs.Common.{◌≡◌, ℕ, Bool, true, false, not, ◌&&◌, ◌||◌, ◌==◌, List, [], ◌∷◌, ◌++◌, map, length, take, Option, Some, ap, ap₂, sym, ◌∙◌, subst, append_assoc}
use Rattle.std.specs.Prelude.{flat_map, zip, codes, unwrap_or, option_map, is_some, bytes_eq, if◌then◌else◌, nat_lt}
use Rattle.std.specs.List.{list_all, list_any, AllByRecursion}
use Rattle.std.proofs.lemmas.Bool.{or_right}
use Rattle.std.proofs.lemmas.List.{map-append, append-nil}
use Rattle.fol_base.specs.Tree.{Tree, tree_variables}
use Rattle.fol_base.specs.Instance.{Substitution}
use Rattle.fol_base.specs.Clause.{TreeClause, clause_variables, clause_instance, clause_eq}
use Rattle.fol_base.proofs.WorkedExamples.TestLemmas.{list_all-joined}
use Rattle.tptp_tree.specs.Term.{TermTree}
use Rattle.tptp_tree.specs.Formula.{FormulaTree}
use Rattle.tptp_tree.specs.declared.problem.Annotated.{Annotated}
use Rattle.signature.specs.declared.symbol.Symbol.{Symbol}
use Rattle.signature.specs.Symbol.{has_symbol}
use Rattle.signature.specs.Occurrences.{term_symbols, formula_symbols}
use Rattle.signature.specs.Environment.{Environment, different_names}
use Rattle.signature.specs.Form.{clausal_form}
use Rattle.kernel_steps.specs.Conclusion.{concludes, verdict}
use Rattle.kernel_steps.specs.Soundness.{bindings_of}
use Rattle.kernel_steps.specs.Derivation.{ComesBy}
use Rattle.kernel_steps.specs.declared.step.Step.{Step}
use Rattle.kernel_steps.specs.declared.step.Step.TheVariants.{Input, Negate, Clausify, Para, Refl, Factor, Merge, Component, Opposite, Split, Chain}
use Rattle.kernel_steps.specs.declared.step.Line.{Line}
use Rattle.clausal_form.specs.DerivationClause.{ordinary_literals, is_written_clause, numbered_from, symbols_in, variables_in, Numbering, term_by, clause_by}
use Rattle.clausal_form.specs.DerivationSteps.{kind_of}
use Rattle.clausal_form.specs.DerivationLine.{LineTree, NamedLine, Taken, names_with}
use Rattle.kernel_steps.specs.FromTrees.{line_of}
use Rattle.clausal_form.specs.DerivationParts.{Setting, setting_of, line_kind, parent_places, parent_lines, line_names, bound_terms, line_literals, all_bound, line_numbering, line_clause, line_bindings}
use Rattle.clausal_form.specs.DerivationCauses.{text, order, unknown_parent, binding, rule, conclusion, new_symbol, fault, gives_clause, is_bound, are_bound, line_step, concluded, given_by_rule, given_by, is_formula_kind, is_written, has_new_symbol, is_old_name, LineVerdict, refused, taken, compared, line_verdict}
use Rattle.tstp_writer.specs.ClauseTrees.{variable_name, clause_formula, introduced_name}
use Rattle.tstp_writer.specs.LineTrees.{Script, script_of, Layout, derived_name, step_source, clause_tree, place_in}
use Rattle.tstp_writer.specs.ReadableLines.{NumbersFit, is_term_over, bound_by, line_variables, IsReadable, read_renaming, placed_line, Fits, step_names, read_name, read_clause}
use Rattle.tstp_writer.specs.DerivedLines.{HasNumberedForm, SourcesAreTaken, AreIntroduced, IsKnown}
use Rattle.tstp_writer.proofs.AboutPrinted.VariableNames.{IsReadBy, AreReadBy, all-front, all-back, read-by-places}
use Rattle.tstp_writer.proofs.ReadAgain.RenamedSteps.{canonical-read}
use Rattle.tstp_writer.proofs.AboutPrinted.WrittenSteps.{read_number}
use Rattle.tstp_writer.proofs.AboutNeeded.BindingsAgain.{clause_eq-same, fold-known, written_terms, bound_as, bound-read, bound-joined, bound-names, bound-known, joined-over, read_bindings, bindings-again}
use Rattle.tstp_writer.proofs.AboutPrinted.WrittenClauses.{AreKnown, written_literals, numbered, all-known, all-names}
use Rattle.tstp_writer.proofs.AboutPrinted.WrittenNames.{any-intro, place-behind, IsClauseFormula, clause-formula, clause-back}
use Rattle.tstp_writer.proofs.AboutPrinted.NameOrder.{has-front, rising-apart, places-ordered}
use Rattle.tstp_writer.proofs.ReadAgain.RenamedNames.{are_sorted-renamed}
use Rattle.tstp_writer.specs.Cone.{has_number, IsRising}
use Rattle.plain_types.specs.declared.sequence.NameLit.{NameLit}
use Rattle.signature.specs.Prefix.{some_begins_with}
use Rattle.signature.proofs.PrefixLemmas.{prefix_is_least}
use Rattle.kernel_steps.specs.Names.{are_sorted}

-- ---- names

-- what is known of the names when a step's line comes
pub record NamesSoFar (names known before : List ℕ) (step : Step) : Type 0 where
  pub known_fit : AllByRecursion Fits known
  pub before_fit : AllByRecursion Fits before
  pub known_in : (m : ℕ) → has_number known m ≡ true → has_number names m ≡ true

pub names-so-far :
    (prefix : List ℕ) (names known : List ℕ) (e : Taken) (step : Step) (a : AreIntroduced prefix names known e step)
    → NamesSoFar names known a.before step
names-so-far prefix names known e step a =
    let fit : AllByRecursion Fits known = all-front Fits known a.others (subst (AllByRecursion Fits) a.whole a.numbers) in
    record {
      known_fit = fit;
      before_fit = all-front Fits a.before (step_names step) (subst (AllByRecursion Fits) a.known_are fit);
      known_in = λ m has. subst (λ ns. has_number ns m ≡ true) (sym a.whole) (has-front known a.others m has);
    }

-- the name of a component line is new
pub component-new :
    (prefix : List ℕ) (names known : List ℕ) (e : Taken) (name : ℕ) (a : AreIntroduced prefix names known e (Component name))
    → has_number a.before name ≡ false
component-new prefix names known e name a =
    rising-apart a.before name a.others
    (subst IsRising (a.whole ∙ ap (λ ns. ns ++ a.others) a.known_are ∙ append_assoc a.before (name ∷ []) a.others) a.rising)

-- it is read as the next number
pub component-place :
    (prefix : List ℕ) (names known : List ℕ) (e : Taken) (name : ℕ) (a : AreIntroduced prefix names known e (Component name))
    → place_in name names ≡ length a.before
component-place prefix names known e name a =
    ap (place_in name) (a.whole ∙ ap (λ ns. ns ++ a.others) a.known_are ∙ append_assoc a.before (name ∷ []) a.others)
    ∙ place-behind a.before a.others name (component-new prefix names known e name a)

-- the names that are names on a step's line are those that are known
pub names-with :
    (script : Script) (layout : Layout) (names known : List ℕ) (e : Taken) (step : Step)
    → AreIntroduced script.prefix names known e step
    → names_with e.introduced (kind_of (step_source script layout step)) ≡ map (introduced_name script.prefix) known
names-with script layout names known e step a =
    ap (λ ns. names_with ns (kind_of (step_source script layout step))) a.introduced ∙ by step a ∙ ap (map intro) (sym a.known_are)
  where
    intro : ℕ → List ℕ
    intro n = introduced_name script.prefix n

    by :
        (st : Step) (b : AreIntroduced script.prefix names known e st)
        → names_with (map intro b.before) (kind_of (step_source script layout st)) ≡ map intro (b.before ++ step_names st)
    by (Input place) b = ap (map intro) (sym (append-nil b.before))
    by (Negate place) b = ap (map intro) (sym (append-nil b.before))
    by (Clausify i) b = ap (map intro) (sym (append-nil b.before))
    by (Para first second from from_side into into_side place first_bind second_bind) b = ap (map intro) (sym (append-nil b.before))
    by (Refl parent literal bind) b = ap (map intro) (sym (append-nil b.before))
    by (Factor parent becomes becomes_side other other_side bind) b = ap (map intro) (sym (append-nil b.before))
    by (Merge parent stays goes bind) b = ap (map intro) (sym (append-nil b.before))
    by (Component name) b =
        let so_far : NamesSoFar names known b.before (Component name) = names-so-far script.prefix names known e (Component name) b in
        let fit : AllByRecursion Fits (b.before ++ name ∷ []) = subst (AllByRecursion Fits) b.known_are so_far.known_fit in
        ap (λ t. if t then map intro b.before else map intro b.before ++ intro name ∷ [])
        (any-intro script.prefix name b.before (all-back Fits b.before (name ∷ []) fit).0 so_far.before_fit
        ∙ component-new script.prefix names known e name b)
        ∙ sym (map-append intro b.before (name ∷ []))
    by (Opposite name) b = ap (map intro) (sym (append-nil b.before))
    by (Split parent definitions parts) b = ap (map intro) (sym (append-nil b.before))
    by (Chain numbers pivots) b = ap (map intro) (sym (append-nil b.before))

pub form-fresh : (problem : List Annotated) (file : List ℕ) → some_begins_with (script_of file problem).prefix (clausal_form problem).symbols ≡ false
form-fresh problem file = (prefix_is_least (clausal_form problem).symbols (codes "spl")).0

module _ (problem : List Annotated) (file : List ℕ) (layout : Layout) (names known : List ℕ) (lines : List Line) (e : Taken) (form : HasNumberedForm problem) where
  abbrev pub s : Setting
  s = setting_of problem

  abbrev pub script : Script
  script = script_of file problem

  abbrev pub symbols : List Symbol
  symbols = (clausal_form problem).symbols

  abbrev pub AllKnown : List NameLit → Type 0
  AllKnown ns = AllByRecursion (λ (m : NameLit). IsKnown known m.name) ns

  -- the names that are introduced when a step's line comes
  abbrev pub Introduced : Step → Type 0
  Introduced step = AreIntroduced script.prefix names known e step

  pub ordered :
      (step : Step) → Introduced step → (n m : ℕ) → IsKnown known n → IsKnown known m
      → (nat_lt (read_number names n) (read_number names m) ≡ nat_lt n m) × ((read_number names n == read_number names m) ≡ (n == m))
  ordered step a n m n_known m_known =
      let so_far = names-so-far script.prefix names known e step a in
      places-ordered names a.rising n m (so_far.known_in n n_known) (so_far.known_in m m_known)

  -- ---- the clause

  pub record IsReadBack (t : LineTree) (step : Step) (c : TreeClause) : Type 0 where
    pub written : is_written e t ≡ true
    pub same : line_clause s e t ≡ read_clause names c
    pub bindings : line_bindings s e t ≡ read_bindings (read_renaming step c) (bindings_of step)
    pub known_symbols : has_new_symbol s e t ≡ false

  abbrev pub tree : ℕ → TreeClause → Step → LineTree
  tree n c step = clause_tree script (derived_name layout n) c (step_source script layout step)

  pub read-back :
      (n : ℕ) (step : Step) (c : TreeClause) → IsReadable symbols step c → NumbersFit step c → Introduced step → AllKnown c.names
      → are_sorted c.names ≡ true
      → IsReadBack (tree n c step) step c
  read-back n step c r f a known_names sorted =
      record {
        written =
            or_right (is_formula_kind (line_kind t)) (true && is_written_clause (line_names e t) formula)
            (ap (λ ns. is_written_clause ns formula) names_are ∙ back.written);
        same = ap₂ (λ k ns. clause_by k ns formula) numbering_is names_are ∙ read_clause_is ∙ ap (read_clause names) (canonical-read step c r.canonical);
        bindings = ap₂ (λ k os. map (option_map (map (term_by k))) os) numbering_is bound_is ∙ bindings_read;
        known_symbols = ap not all_known;
      }
    where
      t : LineTree
      t = tree n c step

      formula : FormulaTree
      formula = clause_formula symbols script.prefix c

      written : List FormulaTree
      written = written_literals symbols c.literals

      bound : List TermTree
      bound = written_terms symbols (bound_by step)

      variables : List ℕ
      variables = line_variables step c

      σ : Substitution
      σ = read_renaming step c

      environment : Environment
      environment = numbered_from 0 (different_names (map variable_name variables))

      fit : AllByRecursion Fits known
      fit = (names-so-far script.prefix names known e step a).known_fit

      names_are : line_names e t ≡ map (introduced_name script.prefix) known
      names_are = names-with script layout names known e step a

      sorted_read : are_sorted (map (read_name names) c.names) ≡ true
      sorted_read = are_sorted-renamed (read_number names) (IsKnown known) (ordered step a) c.names known_names ∙ sorted

      back : IsClauseFormula symbols script.prefix (form-fresh problem file) known names a.others a.whole fit formula c
      back = clause-formula symbols script.prefix (form-fresh problem file) known names a.others a.whole fit c r.literals known_names sorted_read

      literals_are : line_literals e t ≡ written
      literals_are = ap (λ ns. ordinary_literals ns formula) names_are ∙ back.ordinary_are

      bound_is : bound_terms t ≡ map (bound_as symbols) (bindings_of step)
      bound_is = bound-read script layout (derived_name layout n) c step

      all_bound_is : all_bound t ≡ bound
      all_bound_is = ap (flat_map (λ o. unwrap_or o [])) bound_is ∙ bound-joined symbols (bindings_of step)

      terms_over : list_all (is_term_over symbols) (bound_by step) ≡ true
      terms_over = joined-over (is_term_over symbols) (bindings_of step) r.binds

      all_known : AreKnown symbols (symbols_in (line_literals e t) (all_bound t))
      all_known =
          ap₂ (λ ls bs. list_all (λ u. has_symbol u symbols) (symbols_in ls bs)) literals_are all_bound_is
          ∙ list_all-joined (λ u. has_symbol u symbols) (flat_map formula_symbols written) (flat_map term_symbols bound)
          (all-known symbols c.literals r.literals) (bound-known symbols (bound_by step) terms_over)

      named : variables_in (line_literals e t) (all_bound t) ≡ map variable_name variables
      named =
          ap₂ variables_in literals_are all_bound_is
          ∙ ap₂ ◌++◌ (all-names symbols c.literals r.literals) (bound-names symbols (bound_by step))
          ∙ sym (map-append variable_name (clause_variables c) (flat_map tree_variables (bound_by step)))

      make : List Symbol → Environment → Numbering
      make ss vs = record { symbols = ss; variables = vs }

      numbering_is : line_numbering s e t ≡ numbered symbols (form.symbols).different environment σ
      numbering_is =
          ap₂ make (fold-known symbols (symbols_in (line_literals e t) (all_bound t)) all_known)
          (ap (λ xs. numbered_from 0 (different_names xs)) named)

      read : AreReadBy environment σ variables
      read = read-by-places variables f.variables

      read_clause_is :
          clause_by (numbered symbols (form.symbols).different environment σ) (map (introduced_name script.prefix) known) formula
          ≡ read_clause names (clause_instance σ c)
      read_clause_is =
          clause-back symbols script.prefix (form-fresh problem file) known names a.others a.whole fit (form.symbols).different environment σ
          formula c back r.literals
          (all-front (IsReadBy environment σ) (clause_variables c) (flat_map tree_variables (bound_by step)) read)

      bindings_read :
          map (option_map (map (term_by (numbered symbols (form.symbols).different environment σ)))) (map (bound_as symbols) (bindings_of step))
          ≡ read_bindings σ (bindings_of step)
      bindings_read =
          bindings-again symbols (form.symbols).different environment σ (bindings_of step) r.binds
          (all-back (IsReadBy environment σ) (clause_variables c) (flat_map tree_variables (bound_by step)) read)

  -- ---- the verdict

  -- the line is taken, and its names are known
  pub record IsTakenLine (t : LineTree) (c : TreeClause) (line : Line) : Type 0 where
    pub verdict_is : line_verdict s e t ≡ taken line
    pub names_known : AllKnown c.names

  pub verdict-taken :
      (t : LineTree) (from : Step) (c : TreeClause) (step : Step)
      → IsReadBack t from c → AllKnown c.names → list_any (λ (l : NamedLine). bytes_eq (t.entry).name l.name) e.lines ≡ false
      → list_all is_some (parent_places e t) ≡ true → given_by s e t (line_kind t) ≡ gives_clause step (read_clause names c)
      → is_old_name s e (line_kind t) ≡ false → IsTakenLine t c (line_of step (read_clause names c))
  verdict-taken t from c step back known_names new parents given no_old = record {
    verdict_is =
        ap (λ b. if not b then refused text else after_text) back.written
        ∙ ap (λ b. if b then refused order else after_order) new
        ∙ ap (λ b. if not b then refused unknown_parent else compared s e t (given_by s e t (line_kind t))) parents
        ∙ ap (compared s e t) given
        ∙ ap (λ b. if not b then refused conclusion else last)
        (ap (clause_eq (read_clause names c)) back.same ∙ clause_eq-same (read_clause names c))
        ∙ ap₂ (λ a b. if a || b then refused new_symbol else taken (line_of step (read_clause names c))) back.known_symbols no_old;
    names_known = known_names;
  }
    where
      after_order : LineVerdict
      after_order =
          if not (list_all is_some (parent_places e t)) then refused unknown_parent else compared s e t (given_by s e t (line_kind t))

      after_text : LineVerdict
      after_text = if list_any (λ (l : NamedLine). bytes_eq (t.entry).name l.name) e.lines then refused order else after_order

      last : LineVerdict
      last = if has_new_symbol s e t || is_old_name s e (line_kind t) then refused new_symbol else taken (line_of step (read_clause names c))

  -- what is to be shown of a step
  abbrev pub IsTakenBy : ℕ → TreeClause → Step → Type 0
  IsTakenBy n c step =
      IsReadable symbols step c → NumbersFit step c → Introduced step → ComesBy step (clausal_form problem).clauses (take n lines) c
      → SourcesAreTaken problem script layout names known lines e n step
      → IsTakenLine (tree n c step) c (placed_line layout names step c)

  -- what a rule gives, where each parent is bound
  pub rule-given :
      (t : LineTree) (c : TreeClause) (step : Step) → are_bound s e t ≡ true → line_step s e t ≡ Some step
      → verdict step (parent_lines e) ≡ concludes (read_clause names c) → given_by_rule s e t ≡ gives_clause step (read_clause names c)
  rule-given t c step bound step_is made =
      ap (λ b. if b then unwrap_or (option_map (λ st. concluded st (verdict st (parent_lines e))) (line_step s e t)) (fault rule) else fault binding) bound
      ∙ ap (λ o. unwrap_or (option_map (λ st. concluded st (verdict st (parent_lines e))) o) (fault rule)) step_is
      ∙ ap (concluded step) made

  abbrev pub are_bound_by : ℕ → List (Option (List Tree)) → List ℕ → Bool
  are_bound_by count bs ps = (length bs == count) && list_all (λ b. is_bound b.0 (parent_lines e b.1)) (zip bs ps)
