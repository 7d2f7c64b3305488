-- Each line of a derivation that can be read again is taken when it is read.
use Rattle.std.proofs.Common.{◌≡◌, ℕ, ◌<◌, true, false, not, ◌&&◌, ◌||◌, ◌==◌, List, [], ◌∷◌, map, length, take, Option, Some, None, refl, ap, ap₂, sym, ◌∙◌, arith, subst}
use Rattle.std.specs.Prelude.{filter_map, slice_get, unwrap_or, option_map, option_and_then, is_some, bytes_eq, if◌then◌else◌}
use Rattle.std.specs.List.{list_any, AllByRecursion, position_or_len}
use Rattle.std.proofs.lemmas.Bool.{and_from, false≢true, ne_eqb}
use Rattle.std.proofs.lemmas.Option.{slice_get_within}
use Rattle.std.proofs.lemmas.List.{append-nil}
use Rattle.fol_base.specs.Canonical.{IsCanonical}
use Rattle.fol_base.specs.Ground.{is_ground_literal}
use Rattle.fol_base.specs.Clause.{TreeLiteral, TreeClause, clause_eq, names_eq}
use Rattle.fol_base.specs.Literal.{clause_of}
use Rattle.tptp_tree.specs.declared.problem.Annotated.{Annotated}
use Rattle.signature.specs.declared.symbol.Symbol.{Symbol}
use Rattle.signature.specs.Form.{clausal_form}
use Rattle.kernel_steps.specs.Derivation.{is_clause_step, ComesBy, complement, component_clause}
use Rattle.kernel_steps.specs.declared.step.Step.{Step}
use Rattle.kernel_steps.specs.declared.step.Step.TheVariants.{Input, Negate, Clausify, Para, Refl, Factor, Merge, Component, Opposite, Split, Chain}
use Rattle.kernel_steps.specs.declared.step.Line.{Line}
use Rattle.clausal_form.specs.DerivationClause.{name_number}
use Rattle.clausal_form.specs.DerivationItems.{only_one}
use Rattle.clausal_form.specs.DerivationLine.{LineTree, NamedLine, Taken, kernel_lines}
use Rattle.clausal_form.specs.DerivationParts.{Setting, setting_of, line_kind, only_parent_step, line_clause}
use Rattle.clausal_form.specs.DerivationCauses.{clausification, rule, fault, gives_clause, is_line_of, is_clausified, index_in, given_by, is_old_name, opposite_from}
use Rattle.tstp_writer.specs.ClauseTrees.{introduced_name}
use Rattle.tstp_writer.specs.LineTrees.{Script, script_of, Layout, derived_name, step_source, clause_tree, place_in}
use Rattle.tstp_writer.specs.ReadableLines.{NumbersFit, IsReadableLine, placed_line, Fits, read_name, read_clause}
use Rattle.tstp_writer.specs.DerivedLines.{HasNumberedForm, OriginIsTaken, SourcesAreTaken, IsNewLine, DerivedLinesAreTaken, AreIntroduced, IsKnown}
use Rattle.tstp_writer.proofs.AboutPrinted.VariableNames.{all-back}
use Rattle.tstp_writer.proofs.AboutPrinted.WrittenNumbers.{decimal-back}
use Rattle.tstp_writer.proofs.AboutPrinted.OriginLemmas.{origin-there}
use Rattle.tstp_writer.proofs.AboutNeeded.BindingsAgain.{clause_eq-same, names_eq-same}
use Rattle.tstp_writer.proofs.AboutPrinted.WrittenNames.{any-intro, place-read, name-read, place-front, place-none, fits-known, name-new}
use Rattle.tstp_writer.proofs.AboutPrinted.NameOrder.{has-middle}
use Rattle.tstp_writer.proofs.AboutPrinted.PlaceLemmas.{all-there}
use Rattle.tstp_writer.specs.Cone.{has_number}
use Rattle.plain_types.specs.declared.sequence.NameLit.{NameLit}
use Rattle.plain_types.specs.Names.{positive_of, negative_of}
use Rattle.kernel_steps.specs.Names.{are_sorted}
use Rattle.clausal_form.proofs.AboutForms.FormLemmas.{forms-are-canonical}
use Rattle.tstp_writer.proofs.AboutNeeded.DerivedLemmas.{IsReadBack, read-back, IsTakenLine, verdict-taken, IsTakenBy, form-fresh, NamesSoFar, names-so-far, component-new, component-place}
use Rattle.tstp_writer.proofs.AboutNeeded.DerivedRules.{para-taken, refl-taken, factor-taken, merge-taken, split-taken, chain-taken}

module _ (problem : List Annotated) (file : List ℕ) (layout : Layout) (names known : List ℕ) (lines : List Line) (e : Taken) (form : HasNumberedForm problem) where
  abbrev s : Setting
  s = setting_of problem

  abbrev script : Script
  script = script_of file problem

  abbrev symbols : List Symbol
  symbols = (clausal_form problem).symbols

  abbrev AllKnown : List NameLit → Type 0
  AllKnown ns = AllByRecursion (λ (m : NameLit). IsKnown known m.name) ns

  abbrev tree : ℕ → TreeClause → Step → LineTree
  tree n c step = clause_tree script (derived_name layout n) c (step_source script layout step)

  abbrev IsTaken : ℕ → TreeClause → Step → Type 0
  IsTaken n c step = IsTakenBy problem file layout names known lines e form n c step

  abbrev Introduced : Step → Type 0
  Introduced step = AreIntroduced script.prefix names known e step

  abbrev read_number_here : ℕ → ℕ
  read_number_here m = place_in m names

  module _ (n : ℕ) (c : TreeClause) (new : IsNewLine layout e n) where
    -- ---- clauses of the form

    pub clausify-taken : (i : ℕ) → IsTaken n c (Clausify i)
    clausify-taken i r f a comes sources =
        verdict-taken problem file layout names known lines e form t (Clausify i) c (Clausify i) back known_names new (ap (λ o. is_some o && true) from.there) given refl
      where
        t : LineTree
        t = tree n c (Clausify i)

        from : OriginIsTaken problem script layout e i
        from = sources

        nameless : c.names ≡ []
        nameless =
            (all-there (λ (d : TreeClause). IsCanonical d × (d.names ≡ [])) (clausal_form problem).clauses i c (forms-are-canonical problem) comes).1

        known_names : AllKnown c.names
        known_names = subst AllKnown (sym nameless) tt

        back : IsReadBack problem file layout names known lines e form t (Clausify i) c
        back = read-back problem file layout names known lines e form n (Clausify i) c r f a known_names (ap are_sorted nameless)

        with_names : List NameLit → TreeClause
        with_names ns = record { literals = c.literals; names = ns }

        same_read : c ≡ read_clause names c
        same_read = ap with_names (nameless ∙ sym (ap (map (read_name names)) nameless))

        index : index_in t ≡ Some i
        index =
            let low : i < length (clausal_form problem).clauses = slice_get_within (clausal_form problem).clauses i c comes in
            decimal-back i (omega (arith, low, form.clauses))

        only_step : only_parent_step e t ≡ Some (from.source.line).step
        only_step =
            ap (λ o. option_and_then (λ k. option_map (λ (l : NamedLine). (l.line).step) (slice_get e.lines k)) (only_one (filter_map (λ x. x) (o ∷ []))))
            from.there
            ∙ ap (option_map (λ (l : NamedLine). (l.line).step)) from.taken

        from_origin :
            unwrap_or (option_and_then (λ place. option_map (is_line_of s place) (only_parent_step e t)) (slice_get (s.form).origins i)) false ≡ true
        from_origin =
            ap₂ (λ o p. unwrap_or (option_and_then (λ place. option_map (is_line_of s place) p) o) false) (origin-there problem file i c comes) only_step
            ∙ from.is_its

        same_clause : unwrap_or (option_map (λ d. clause_eq d (line_clause s e t)) (slice_get (s.form).clauses i)) false ≡ true
        same_clause =
            ap₂ (λ o d. unwrap_or (option_map (λ x. clause_eq x d) o) false) comes (back.same ∙ sym same_read) ∙ clause_eq-same c

        clausified : is_clausified s e t i ≡ true
        clausified = and_from _ _ from_origin same_clause

        given : given_by s e t (line_kind t) ≡ gives_clause (Clausify i) (read_clause names c)
        given =
            ap
            (λ o. unwrap_or
            (option_and_then (λ k. if is_clausified s e t k then Some (gives_clause (Clausify k) (line_clause s e t)) else None) o)
            (fault clausification)) index
            ∙ ap (λ b. unwrap_or (if b then Some (gives_clause (Clausify i) (line_clause s e t)) else None) (fault clausification)) clausified
            ∙ ap (gives_clause (Clausify i)) back.same

    -- ---- names

    -- the only name of a clause, as it is read
    one-known : (m : NameLit) → c.names ≡ m ∷ [] → IsKnown known m.name → AllKnown c.names
    one-known m one is_known = subst AllKnown (sym one) (is_known, tt)

    pub component-taken : (name : ℕ) → IsTaken n c (Component name)
    component-taken name r f a comes sources =
        verdict-taken problem file layout names known lines e form t step c placed back known_names new refl given no_old
      where
        step : Step
        step = Component name

        placed : Step
        placed = Component (place_in name names)

        t : LineTree
        t = tree n c step

        intro : ℕ → List ℕ
        intro m = introduced_name script.prefix m

        so_far : NamesSoFar names known a.before step
        so_far = names-so-far script.prefix names known e step a

        is_new : has_number a.before name ≡ false
        is_new = component-new script.prefix names known e name a

        is_known : has_number known name ≡ true
        is_known = subst (λ ns. has_number ns name ≡ true) (sym a.known_are) (has-middle a.before name [])

        fit : Fits name
        fit = (all-back Fits a.before (name ∷ []) (subst (AllByRecursion Fits) a.known_are so_far.known_fit)).0

        known_names : AllKnown c.names
        known_names = one-known (negative_of name) comes.one_name is_known

        back : IsReadBack problem file layout names known lines e form t step c
        back = read-back problem file layout names known lines e form n step c r f a known_names (ap are_sorted comes.one_name)

        -- the name's number is the next one
        number : position_or_len (bytes_eq (intro name)) e.introduced ≡ place_in name names
        number =
            ap (position_or_len (bytes_eq (intro name))) a.introduced
            ∙ place-read script.prefix name a.before fit so_far.before_fit
            ∙ place-none a.before name is_new
            ∙ sym (component-place script.prefix names known e name a)

        names_read : (read_clause names c).names ≡ negative_of (place_in name names) ∷ []
        names_read = ap (map (read_name names)) comes.one_name

        some : not (length c.literals == 0) ≡ true
        some = ap not (ne_eqb (length c.literals) 0 comes.some_literal)

        given : given_by s e t (line_kind t) ≡ gives_clause placed (read_clause names c)
        given =
            ap₂
            (λ k (d : TreeClause). if not (length d.literals == 0) && names_eq d.names (negative_of k ∷ []) then gives_clause (Component k) d else fault rule)
            number back.same
            ∙ ap₂ (λ b (ns : List NameLit). if b && names_eq ns (negative_of (place_in name names) ∷ []) then gives_clause placed (read_clause names c) else fault rule)
            some names_read
            ∙ ap (λ b. if b then gives_clause placed (read_clause names c) else fault rule) (names_eq-same (negative_of (place_in name names) ∷ []))

        no_old : is_old_name s e (line_kind t) ≡ false
        no_old =
            ap₂ ◌||◌ (name-new symbols script.prefix (form-fresh problem file) name)
            (ap (list_any (bytes_eq (intro name))) a.introduced ∙ any-intro script.prefix name a.before fit so_far.before_fit ∙ is_new)

    pub opposite-taken : (name : ℕ) → IsTaken n c (Opposite name)
    opposite-taken name r f a comes sources =
        verdict-taken problem file layout names known lines e form t step c placed back known_names new refl given refl
      where
        step : Step
        step = Opposite name

        place : ℕ
        place = place_in name names

        placed : Step
        placed = Opposite place

        t : LineTree
        t = tree n c step

        so_far : NamesSoFar names known a.before step
        so_far = names-so-far script.prefix names known e step a

        known_names : AllKnown c.names
        known_names = one-known (positive_of name) comes.one_name sources.name_known

        back : IsReadBack problem file layout names known lines e form t step c
        back = read-back problem file layout names known lines e form n step c r f a known_names (ap are_sorted comes.one_name)

        before_is : a.before ≡ known
        before_is = sym (a.known_are ∙ append-nil a.before)

        number : name_number e.introduced (introduced_name script.prefix name) ≡ Some place
        number =
            ap (λ ns. name_number ns (introduced_name script.prefix name)) (a.introduced ∙ ap (map (introduced_name script.prefix)) before_is)
            ∙ name-read script.prefix name known (fits-known script.prefix known name so_far.known_fit sources.name_known) so_far.known_fit
            sources.name_known
            ∙ ap Some (sym (place-front known a.others name sources.name_known) ∙ ap (place_in name) (sym a.whole))

        component : component_clause place (kernel_lines e) ≡ Some (read_clause names comes.component)
        component = sources.clause comes.component comes.introduced

        -- the clause that the rule gives
        opposite_clause : TreeClause
        opposite_clause = record { literals = complement comes.literal ∷ []; names = positive_of place ∷ [] }

        same_clause : opposite_clause ≡ read_clause names c
        same_clause =
            ap₂ make (sym comes.complemented) (sym (ap (map (read_name names)) comes.one_name))
          where
            make : List TreeLiteral → List NameLit → TreeClause
            make ls ns = record { literals = ls; names = ns }

        given : given_by s e t (line_kind t) ≡ gives_clause placed (read_clause names c)
        given =
            ap
            (λ (o : Option ℕ).
            unwrap_or
            (option_and_then
            (λ k. option_and_then (opposite_from k) (option_and_then (λ (d : TreeClause). only_one d.literals) (component_clause k (kernel_lines e)))) o)
            (fault rule))
            number
            ∙ ap
            (λ (o : Option TreeClause).
            unwrap_or (option_and_then (opposite_from place) (option_and_then (λ (d : TreeClause). only_one d.literals) o)) (fault rule))
            component
            ∙ ap (λ (ls : List TreeLiteral). unwrap_or (option_and_then (opposite_from place) (only_one ls)) (fault rule)) comes.one_literal
            ∙ ap (λ b. unwrap_or (if b then Some (gives_clause placed opposite_clause) else None) (fault rule))
            (and_from comes.literal.positive (is_ground_literal comes.literal) comes.positive comes.ground)
            ∙ ap (gives_clause placed) same_clause

    -- ---- all steps

    step-taken : (step : Step) → is_clause_step step ≡ true → IsTaken n c step
    step-taken (Input place) clause r = absurd (false≢true clause)
    step-taken (Negate place) clause r = absurd (false≢true clause)
    step-taken (Clausify i) clause r = clausify-taken i r
    step-taken (Para first second from from_side into into_side place first_bind second_bind) clause r =
        para-taken problem file layout names known lines e form n c new first second from into from_side into_side place first_bind second_bind r
    step-taken (Refl parent literal bind) clause r = refl-taken problem file layout names known lines e form n c new parent literal bind r
    step-taken (Factor parent becomes becomes_side other other_side bind) clause r =
        factor-taken problem file layout names known lines e form n c new parent becomes other becomes_side other_side bind r
    step-taken (Merge parent stays goes bind) clause r = merge-taken problem file layout names known lines e form n c new parent stays goes bind r
    step-taken (Component name) clause r = component-taken name r
    step-taken (Opposite name) clause r = opposite-taken name r
    step-taken (Split parent definitions parts) clause r = split-taken problem file layout names known lines e form n c new parent definitions parts r
    step-taken (Chain parents pivots) clause r = chain-taken problem file layout names known lines e form n c new parents pivots r

-- and its names are known then
pub line-taken :
    (problem : List Annotated) (file : List ℕ) (layout : Layout) (names known : List ℕ) (lines : List Line) (e : Taken) (n : ℕ) (line : Line)
    (form : HasNumberedForm problem) → IsReadableLine (clausal_form problem).symbols line → NumbersFit line.step (clause_of line.clause)
    → is_clause_step line.step ≡ true
    → ComesBy line.step (clausal_form problem).clauses (take n lines) (clause_of line.clause)
    → AreIntroduced (script_of file problem).prefix names known e line.step → IsNewLine layout e n
    → SourcesAreTaken problem (script_of file problem) layout names known lines e n line.step
    → IsTakenLine problem file layout names known lines e form
    (clause_tree (script_of file problem) (derived_name layout n) (clause_of line.clause) (step_source (script_of file problem) layout line.step))
    (clause_of line.clause) (placed_line layout names line.step (clause_of line.clause))
line-taken problem file layout names known lines e n line form readable fits clause comes introduced new sources =
    step-taken problem file layout names known lines e form n (clause_of line.clause) new line.step clause readable fits introduced comes sources

pub derived-taken : DerivedLinesAreTaken
derived-taken problem file layout names known lines e n line form readable fits clause comes introduced new sources =
    (line-taken problem file layout names known lines e n line form readable fits clause comes introduced new sources).verdict_is
