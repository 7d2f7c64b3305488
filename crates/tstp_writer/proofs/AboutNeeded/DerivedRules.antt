-- A line by a rule is taken when it is read: its conclusion follows from its parents as these were read.
use Rattle.std.proofs.Common.{◌≡◌, ℕ, Bool, true, false, ◌&&◌, ◌==◌, List, [], ◌∷◌, map, take, Option, Some, refl, ap, ap₂, sym, ◌∙◌, subst}
use Rattle.std.specs.Prelude.{filter_map, codes, unwrap_or, option_map, option_and_then, is_some, nat_lt}
use Rattle.std.specs.List.{list_all, AllByRecursion, cons_option}
use Rattle.std.proofs.lemmas.Bool.{and_from}
use Rattle.std.proofs.lemmas.List.{append-nil}
use Rattle.fol_base.specs.Tree.{Tree}
use Rattle.fol_base.specs.Instance.{Substitution}
use Rattle.fol_base.specs.InstanceLaws.{PutsNoTruth}
use Rattle.fol_base.specs.Canonical.{distinct}
use Rattle.fol_base.specs.Ground.{literals_instance}
use Rattle.fol_base.specs.Clause.{TreeLiteral, TreeClause}
use Rattle.fol_base.specs.Rules.{superposed, resolved, factored, merged}
use Rattle.fol_base.specs.declared.clause.Side.{Side}
use Rattle.fol_base.proofs.AboutClauses.InferenceLemmas.{superpositions_in_instances, resolutions_in_instances, factorings_in_instances, merges_in_instances}
use Rattle.tptp_tree.specs.declared.problem.Annotated.{Annotated}
use Rattle.signature.specs.declared.symbol.Symbol.{Symbol}
use Rattle.signature.specs.Form.{clausal_form}
use Rattle.kernel_steps.specs.Parents.{Parent, Parents, all_there}
use Rattle.kernel_steps.specs.Conclusion.{binds, bound_literals, concludes, verdict, by_one, by_two, verdict_of, split_from, names_at, clause_of_names}
use Rattle.kernel_steps.specs.Soundness.{bindings_of}
use Rattle.kernel_steps.specs.Derivation.{line_parents}
use Rattle.kernel_steps.specs.declared.step.Step.{Step}
use Rattle.kernel_steps.specs.declared.step.Step.TheVariants.{Para, Refl, Factor, Merge, Split, Chain}
use Rattle.kernel_steps.specs.declared.step.Line.{Line}
use Rattle.kernel_steps.proofs.AboutCalls.VerdictParts.{OneParts, TwoParts, by_one-parts, by_two-parts, SplitParts, ChainParts, split-parts, chain-parts}
use Rattle.clausal_form.specs.DerivationItems.{introduced_in}
use Rattle.clausal_form.specs.DerivationSteps.{bindings_count, kind_of, rule_step}
use Rattle.clausal_form.specs.DerivationSteps as kind
use Rattle.clausal_form.specs.DerivationLine.{LineTree, Taken}
use Rattle.clausal_form.specs.DerivationParts.{Setting, setting_of, line_kind, items_of, parent_places, parents_of as places_of_parents, parent_lines, line_bindings, line_place}
use Rattle.clausal_form.specs.DerivationCauses.{is_bound, are_bound, line_step, given_by_rule, given_by, is_old_name}
use Rattle.tstp_writer.specs.ClauseTrees.{introduced_name}
use Rattle.tstp_writer.specs.LineTrees.{Script, script_of, Layout, derived_name, status_item, step_items, step_source, clause_tree, place_in, pivot_item}
use Rattle.tstp_writer.specs.ReadableLines.{NumbersFit, line_variables, IsReadable, written_place, read_renaming, read_terms, placed_step, placed_line, read_name, read_clause}
use Rattle.tstp_writer.specs.DerivedLines.{HasNumberedForm, ParentIsTaken, IsNewLine, AreIntroduced, IsKnown}
use Rattle.tstp_writer.proofs.ReadAgain.RenamedSteps.{canonical-read, one-renamed, two-renamed}
use Rattle.tstp_writer.proofs.AboutPrinted.WrittenSteps.{para-back, refl-back, factor-back, merge-back, parent-back, split-back, chain-back}
use Rattle.tstp_writer.proofs.AboutPrinted.WrittenBounds.{ParaFits, para-fits, refl-fits, factor-fits, merge-fits}
use Rattle.tstp_writer.proofs.AboutNeeded.BindingsAgain.{read_bindings}
use Rattle.tstp_writer.proofs.AboutPrinted.WrittenNames.{pivots-back}
use Rattle.tstp_writer.proofs.ReadAgain.RenamedNames.{renamed_parent, IsRenamedVerdict, one-named, two-named, split-named, chain-named, IsRenamedAt, parents-there, lists-there}
use Rattle.plain_types.specs.declared.sequence.NameLit.{NameLit}
use Rattle.kernel_steps.specs.Names.{are_sorted, chained}
use Rattle.tstp_writer.proofs.AboutNeeded.DerivedLemmas.{IsReadBack, read-back, IsTakenLine, verdict-taken, rule-given, are_bound_by, IsTakenBy, ordered, form-fresh, names-so-far}

module _ (problem : List Annotated) (file : List ℕ) (layout : Layout) (names known : List ℕ) (lines : List Line) (e : Taken) (form : HasNumberedForm problem) where
  abbrev s : Setting
  s = setting_of problem

  abbrev script : Script
  script = script_of file problem

  abbrev symbols : List Symbol
  symbols = (clausal_form problem).symbols

  abbrev AllKnown : List NameLit → Type 0
  AllKnown ns = AllByRecursion (λ (m : NameLit). IsKnown known m.name) ns

  abbrev tree : ℕ → TreeClause → Step → LineTree
  tree n c step = clause_tree script (derived_name layout n) c (step_source script layout step)

  abbrev IsTaken : ℕ → TreeClause → Step → Type 0
  IsTaken n c step = IsTakenBy problem file layout names known lines e form n c step

  abbrev Introduced : Step → Type 0
  Introduced step = AreIntroduced script.prefix names known e step

  abbrev read_number_here : ℕ → ℕ
  read_number_here m = place_in m names

  module _ (n : ℕ) (c : TreeClause) (new : IsNewLine layout e n) where
    abbrev parents : Parents
    parents = line_parents (take n lines)

    -- what is known of a conclusion, and what it is from the parents as they were read
    abbrev IsRead : (TreeClause → Type 0) → Type 0
    IsRead P = IsRenamedVerdict read_number_here (IsKnown known) c P

    -- a line whose clause has known names is taken where its rule concludes it
    rule-taken :
        (step : Step) → IsReadable symbols step c → NumbersFit step c → Introduced step
        → IsRead (λ d. verdict (placed_step layout names (read_renaming step c) step) (parent_lines e) ≡ concludes d)
        → list_all is_some (parent_places e (tree n c step)) ≡ true
        → given_by s e (tree n c step) (line_kind (tree n c step)) ≡ given_by_rule s e (tree n c step)
        → is_old_name s e (line_kind (tree n c step)) ≡ false
        → (IsReadBack problem file layout names known lines e form (tree n c step) step c → are_bound s e (tree n c step) ≡ true)
        → (IsReadBack problem file layout names known lines e form (tree n c step) step c
        → line_step s e (tree n c step) ≡ Some (placed_step layout names (read_renaming step c) step))
        → IsTakenLine problem file layout names known lines e form (tree n c step) c (placed_line layout names step c)
    rule-taken step r f a v places given no_old bound step_is =
        let t : LineTree = tree n c step in
        let placed : Step = placed_step layout names (read_renaming step c) step in
        let back : IsReadBack problem file layout names known lines e form t step c =
        read-back problem file layout names known lines e form n step c r f a v.known v.sorted in
        verdict-taken problem file layout names known lines e form t step c placed back v.known new places
        (given ∙ rule-given problem file layout names known lines e form t c placed (bound back) (step_is back) v.concluded) no_old

    abbrev are_bound_to : ℕ → List (Option (List Tree)) → List ℕ → Bool
    are_bound_to count bs ps = are_bound_by problem file layout names known lines e form count bs ps

    -- ---- rules on literals

    pub para-taken :
        (first second from into : ℕ) (from_side into_side : Side) (place : List ℕ) (x y : List Tree)
        → IsTaken n c (Para first second from from_side into into_side place x y)
    para-taken first second from into from_side into_side place x y r f a comes sources =
        rule-taken step r f a read places refl refl bound step_is
      where
        step : Step
        step = Para first second from from_side into into_side place x y

        σ : Substitution
        σ = read_renaming step c

        placed : Step
        placed = placed_step layout names σ step

        t : LineTree
        t = tree n c step

        variables : List ℕ
        variables = distinct (line_variables step c)

        places : list_all is_some (parent_places e t) ≡ true
        places = ap₂ (λ o p. is_some o && (is_some p && true)) (sources.0).place ((sources.1).0).place

        parents_are : places_of_parents e t ≡ written_place layout first ∷ written_place layout second ∷ []
        parents_are = ap₂ (λ o p. filter_map (λ z. z) (o ∷ p ∷ [])) (sources.0).place ((sources.1).0).place

        rule_of : List TreeLiteral → List TreeLiteral → Option (List TreeLiteral)
        rule_of ls ks = superposed ls from from_side ks into into_side place

        parts : TwoParts (parents first) x (parents second) y rule_of c
        parts = by_two-parts (parents first) x (parents second) y rule_of c comes

        renumbered : by_two (parents first) (read_terms σ x) (parents second) (read_terms σ y) rule_of ≡ concludes c
        renumbered =
            two-renamed variables (parents first) x (parents second) y rule_of c
            (λ ls ks new. superpositions_in_instances σ ls ks new from into from_side into_side place (λ v. refl)) comes
            ∙ ap concludes (canonical-read step c r.canonical)

        renamed_parts : TwoParts (parents first) (read_terms σ x) (parents second) (read_terms σ y) rule_of c
        renamed_parts = by_two-parts (parents first) (read_terms σ x) (parents second) (read_terms σ y) rule_of c renumbered

        first_back : AllKnown (renamed_parts.source).clause.names × (parent_lines e (written_place layout first) ≡ Some (renamed_parent read_number_here renamed_parts.source))
        first_back = parent-back layout names known lines e n first sources.0 renamed_parts.source renamed_parts.first_there

        second_back : AllKnown (renamed_parts.target).clause.names × (parent_lines e (written_place layout second) ≡ Some (renamed_parent read_number_here renamed_parts.target))
        second_back = parent-back layout names known lines e n second (sources.1).0 renamed_parts.target renamed_parts.second_there

        read : IsRead (λ d. verdict placed (parent_lines e) ≡ concludes d)
        read =
            let v =
            two-named read_number_here (IsKnown known) (ordered problem file layout names known lines e form step a) (parents first) (read_terms σ x)
            (parents second) (read_terms σ y) rule_of c renamed_parts first_back.0 second_back.0 in
            record {
              known = v.known;
              sorted = v.sorted;
              concluded = ap₂ (λ p q. by_two p (read_terms σ x) q (read_terms σ y) rule_of) first_back.1 second_back.1 ∙ v.concluded;
            }

        bound : IsReadBack problem file layout names known lines e form t step c → are_bound s e t ≡ true
        bound back =
            ap₂ (are_bound_to 2) back.bindings parents_are
            ∙ and_from (is_bound (Some (read_terms σ x)) (parent_lines e (written_place layout first))) _
            (ap (is_bound (Some (read_terms σ x))) first_back.1 ∙ renamed_parts.first_bound)
            (and_from (is_bound (Some (read_terms σ y)) (parent_lines e (written_place layout second))) true
            (ap (is_bound (Some (read_terms σ y))) second_back.1 ∙ renamed_parts.second_bound) refl)

        fits : ParaFits from into place
        fits =
            para-fits (parts.source).clause (parts.target).clause x y from into from_side into_side place parts.literals parts.first_bound
            parts.second_bound parts.made

        step_is : IsReadBack problem file layout names known lines e form t step c → line_step s e t ≡ Some placed
        step_is back =
            ap (λ bs. rule_step kind.para_kind e.introduced (items_of t.source) (places_of_parents e t) (map (λ o. unwrap_or o []) bs)) back.bindings
            ∙ ap
            (λ ps.
            rule_step kind.para_kind e.introduced (status_item (codes "thm") ∷ step_items script step) ps (read_terms σ x ∷ read_terms σ y ∷ []))
            parents_are
            ∙ para-back e.introduced script first second from into (written_place layout first) (written_place layout second) from_side into_side place
            x y (read_terms σ x) (read_terms σ y) fits.from_fits fits.into_fits fits.place_fits

    -- a rule of one parent, whose items are read back as they give it
    one-taken :
        (parent : ℕ) (step : Step) (bind : List Tree) (rule_of : List TreeLiteral → Option (List TreeLiteral))
        → IsReadable symbols step c → NumbersFit step c → Introduced step → by_one (parents parent) bind rule_of ≡ concludes c
        → ((σ : Substitution) → PutsNoTruth σ → (ls made : List TreeLiteral) → rule_of ls ≡ Some made
        → rule_of (literals_instance σ ls) ≡ Some (literals_instance σ made))
        → ParentIsTaken layout names known lines e parent → bindings_of step ≡ bind ∷ [] → bindings_count (line_kind (tree n c step)) ≡ 1
        → parent_places e (tree n c step) ≡ line_place e (derived_name layout parent) ∷ []
        → ((p : Parent) (made : List TreeLiteral) → binds bind p.clause ≡ true → rule_of (bound_literals bind p.clause) ≡ Some made
        → rule_step (line_kind (tree n c step)) e.introduced (items_of (tree n c step).source) (written_place layout parent ∷ [])
        (read_terms (read_renaming step c) bind ∷ [])
        ≡ Some (placed_step layout names (read_renaming step c) step))
        → verdict (placed_step layout names (read_renaming step c) step) (parent_lines e)
        ≡ by_one (parent_lines e (written_place layout parent)) (read_terms (read_renaming step c) bind) rule_of
        → given_by s e (tree n c step) (line_kind (tree n c step)) ≡ given_by_rule s e (tree n c step)
        → is_old_name s e (line_kind (tree n c step)) ≡ false
        → IsTakenLine problem file layout names known lines e form (tree n c step) c (placed_line layout names step c)
    one-taken parent step bind rule_of r f a comes keeps taken_before binds_are count places step_back verdict_is given no_old =
        rule-taken step r f a read (ap (list_all is_some) places ∙ ap (λ o. is_some o && true) taken_before.place) given no_old bound step_is
      where
        variables : List ℕ
        variables = distinct (line_variables step c)

        σ : Substitution
        σ = read_renaming step c

        placed : Step
        placed = placed_step layout names σ step

        t : LineTree
        t = tree n c step

        parents_are : places_of_parents e t ≡ written_place layout parent ∷ []
        parents_are = ap (filter_map (λ x. x)) places ∙ ap (λ o. filter_map (λ x. x) (o ∷ [])) taken_before.place

        parts : OneParts (parents parent) bind rule_of c
        parts = by_one-parts (parents parent) bind rule_of c comes

        renumbered : by_one (parents parent) (read_terms σ bind) rule_of ≡ concludes c
        renumbered =
            one-renamed variables (parents parent) bind rule_of c (keeps σ (λ v. refl)) comes ∙ ap concludes (canonical-read step c r.canonical)

        renamed_parts : OneParts (parents parent) (read_terms σ bind) rule_of c
        renamed_parts = by_one-parts (parents parent) (read_terms σ bind) rule_of c renumbered

        parent_back : AllKnown (renamed_parts.source).clause.names × (parent_lines e (written_place layout parent) ≡ Some (renamed_parent read_number_here renamed_parts.source))
        parent_back = parent-back layout names known lines e n parent taken_before renamed_parts.source renamed_parts.there

        read : IsRead (λ d. verdict placed (parent_lines e) ≡ concludes d)
        read =
            let v =
            one-named read_number_here (IsKnown known) (ordered problem file layout names known lines e form step a) (parents parent)
            (read_terms σ bind) rule_of c renamed_parts parent_back.0 in
            record {
              known = v.known;
              sorted = v.sorted;
              concluded = verdict_is ∙ ap (λ p. by_one p (read_terms σ bind) rule_of) parent_back.1 ∙ v.concluded;
            }

        bindings : IsReadBack problem file layout names known lines e form t step c → line_bindings s e t ≡ Some (read_terms σ bind) ∷ []
        bindings back = back.bindings ∙ ap (read_bindings σ) binds_are

        bound : IsReadBack problem file layout names known lines e form t step c → are_bound s e t ≡ true
        bound back =
            ap₂ (are_bound_to (bindings_count (line_kind t))) (bindings back) parents_are
            ∙ ap (λ k. are_bound_to k (Some (read_terms σ bind) ∷ []) (written_place layout parent ∷ [])) count
            ∙ and_from (is_bound (Some (read_terms σ bind)) (parent_lines e (written_place layout parent))) true
            (ap (is_bound (Some (read_terms σ bind))) parent_back.1 ∙ renamed_parts.bound) refl

        step_is : IsReadBack problem file layout names known lines e form t step c → line_step s e t ≡ Some placed
        step_is back =
            ap (λ bs. rule_step (line_kind t) e.introduced (items_of t.source) (places_of_parents e t) (map (λ o. unwrap_or o []) bs)) (bindings back)
            ∙ ap (λ ps. rule_step (line_kind t) e.introduced (items_of t.source) ps (read_terms σ bind ∷ [])) parents_are
            ∙ step_back parts.source parts.literals parts.bound parts.made

    pub refl-taken : (parent literal : ℕ) (bind : List Tree) → IsTaken n c (Refl parent literal bind)
    refl-taken parent literal bind r f a comes sources =
        one-taken parent (Refl parent literal bind) bind (λ ls. resolved ls literal) r f a comes
        (λ σ no_truth ls made. resolutions_in_instances σ ls made literal) sources.0 refl refl refl
        (λ p made bound made_is.
        refl-back e.introduced script parent literal (written_place layout parent) bind _ (refl-fits p.clause bind literal made bound made_is))
        refl refl refl

    pub factor-taken :
        (parent becomes other : ℕ) (becomes_side other_side : Side) (bind : List Tree)
        → IsTaken n c (Factor parent becomes becomes_side other other_side bind)
    factor-taken parent becomes other becomes_side other_side bind r f a comes sources =
        one-taken parent (Factor parent becomes becomes_side other other_side bind) bind
        (λ ls. factored ls becomes becomes_side other other_side) r f a comes
        (λ σ no_truth ls made. factorings_in_instances σ ls made becomes other becomes_side other_side no_truth) sources.0 refl refl refl
        (λ p made bound made_is.
        let fits = factor-fits p.clause bind becomes becomes_side other other_side made bound made_is in
        factor-back e.introduced script parent becomes other (written_place layout parent) becomes_side other_side bind _ fits.0 fits.1)
        refl refl refl

    pub merge-taken : (parent stays goes : ℕ) (bind : List Tree) → IsTaken n c (Merge parent stays goes bind)
    merge-taken parent stays goes bind r f a comes sources =
        one-taken parent (Merge parent stays goes bind) bind (λ ls. merged ls stays goes) r f a comes
        (λ σ no_truth ls made. merges_in_instances σ ls made stays goes) sources.0 refl refl refl
        (λ p made bound made_is.
        let fits = merge-fits p.clause bind stays goes made bound made_is in
        merge-back e.introduced script parent stays goes (written_place layout parent) bind _ fits.0 fits.1)
        refl refl refl

    -- ---- rules on names

    -- each parent of a list was taken, at its place
    all-places :
        (ms : List ℕ) → AllByRecursion (ParentIsTaken layout names known lines e) ms
        → (list_all is_some (map (line_place e) (map (derived_name layout) ms)) ≡ true)
        × (filter_map (λ o. o) (map (line_place e) (map (derived_name layout) ms)) ≡ map (written_place layout) ms)
    all-places [] h = (refl, refl)
    all-places (m ∷ ms) h =
        let rest = all-places ms h.1 in (
          ap₂ (λ (o : Option ℕ) b. is_some o && b) h.0.place rest.0,
          ap₂ cons_option h.0.place rest.1,
        )

    all-back-there :
        (ms : List ℕ) → AllByRecursion (ParentIsTaken layout names known lines e) ms
        → AllByRecursion
        (IsRenamedAt read_number_here (IsKnown known) parents (parent_lines e) (written_place layout))
        ms
    all-back-there [] h = tt
    all-back-there (m ∷ ms) h = (λ p there. parent-back layout names known lines e n m h.0 p there, all-back-there ms h.1)

    pub split-taken : (parent : ℕ) (definitions : List ℕ) (shares : List (List ℕ)) → IsTaken n c (Split parent definitions shares)
    split-taken parent definitions shares r f a comes sources =
        rule-taken step r f a read found.0 refl refl (λ back. ap₂ (are_bound_to 0) back.bindings found.1) step_is
      where
        step : Step
        step = Split parent definitions shares

        t : LineTree
        t = tree n c step

        found :
            (list_all is_some (parent_places e t) ≡ true)
            × (places_of_parents e t ≡ written_place layout parent ∷ map (written_place layout) definitions)
        found = all-places (parent ∷ definitions) sources

        parts : SplitParts (parents parent) (map parents definitions) shares c
        parts = split-parts (parents parent) (map parents definitions) shares c comes

        parent_back : AllKnown (parts.source).clause.names × (parent_lines e (written_place layout parent) ≡ Some (renamed_parent read_number_here parts.source))
        parent_back = parent-back layout names known lines e n parent sources.0 parts.source parts.there

        read : IsRead (λ d. verdict (placed_step layout names (read_renaming step c) step) (parent_lines e) ≡ concludes d)
        read =
            let order = ordered problem file layout names known lines e form step a in
            let defined =
            parents-there read_number_here (IsKnown known) order parents (parent_lines e) (written_place layout) definitions parts.defined
            (all-back-there definitions sources.1) parts.definitions_there in
            let v =
            split-named read_number_here (IsKnown known) order (parents parent) (map parents definitions) shares c parts parent_back.0 defined.0 in
            record {
              known = v.known;
              sorted = v.sorted;
              concluded =
                  ap₂
                  (λ (p : Option Parent) (ds : Option (List Parent)).
                  verdict_of (option_and_then (λ q. option_and_then (λ qs. split_from q qs shares) ds) p))
                  parent_back.1 defined.1
                  ∙ v.concluded;
            }

        step_is :
            IsReadBack problem file layout names known lines e form t step c
            → line_step s e t ≡ Some (placed_step layout names (read_renaming step c) step)
        step_is back =
            ap (λ bs. rule_step kind.split_kind e.introduced (items_of t.source) (places_of_parents e t) (map (λ o. unwrap_or o []) bs)) back.bindings
            ∙ ap (λ ps. rule_step kind.split_kind e.introduced (status_item (codes "esa") ∷ step_items script step) ps []) found.1
            ∙ split-back e.introduced script parent (written_place layout parent) definitions (map (written_place layout) definitions) shares f.numbers

    pub chain-taken : (chained_lines : List ℕ) (pivots : List NameLit) → IsTaken n c (Chain chained_lines pivots)
    chain-taken chained_lines pivots r f a comes sources =
        rule-taken step r f a read found.0 refl refl (λ back. ap₂ (are_bound_to 0) back.bindings found.1) step_is
      where
        step : Step
        step = Chain chained_lines pivots

        t : LineTree
        t = tree n c step

        found : (list_all is_some (parent_places e t) ≡ true) × (places_of_parents e t ≡ map (written_place layout) chained_lines)
        found = all-places chained_lines sources

        parts : ChainParts parents chained_lines pivots c
        parts = chain-parts parents chained_lines pivots c comes

        order :
            (i j : ℕ) → IsKnown known i → IsKnown known j
            → (nat_lt (read_number_here i) (read_number_here j) ≡ nat_lt i j) × ((read_number_here i == read_number_here j) ≡ (i == j))
        order = ordered problem file layout names known lines e form step a

        lists :
            AllByRecursion AllKnown parts.lists
            × (all_there (map (names_at (parent_lines e)) (map (written_place layout) chained_lines)) ≡ Some (map (map (read_name names)) parts.lists))
        lists =
            lists-there read_number_here (IsKnown known) order parents (parent_lines e) (written_place layout) chained_lines parts.lists
            (all-back-there chained_lines sources) parts.there

        chain :
            AllKnown pivots
            × IsRenamedVerdict read_number_here (IsKnown known) (clause_of_names parts.names)
            (λ d. chained (map (map (read_name names)) parts.lists) (map (read_name names) pivots) ≡ Some d.names)
        chain = chain-named read_number_here (IsKnown known) order parts.lists pivots parts.names lists.0 parts.made

        read : IsRead (λ d. verdict (placed_step layout names (read_renaming step c) step) (parent_lines e) ≡ concludes d)
        read = record {
          known = subst (λ (d : TreeClause). AllKnown d.names) parts.gives (chain.1).known;
          sorted = ap (λ (d : TreeClause). are_sorted d.names) (sym parts.gives) ∙ (chain.1).sorted;
          concluded =
              ap
              (λ (o : Option (List (List NameLit))).
              verdict_of (option_map clause_of_names (option_and_then (λ nss. chained nss (map (read_name names) pivots)) o)))
              lists.1
              ∙ ap (λ (o : Option (List NameLit)). verdict_of (option_map clause_of_names o)) (chain.1).concluded
              ∙ ap (λ d. concludes (read_clause names d)) parts.gives;
        }

        before_is : a.before ≡ known
        before_is = sym (a.known_are ∙ append-nil a.before)

        step_is :
            IsReadBack problem file layout names known lines e form t step c
            → line_step s e t ≡ Some (placed_step layout names (read_renaming step c) step)
        step_is back =
            ap (λ bs. rule_step kind.chain_kind e.introduced (items_of t.source) (places_of_parents e t) (map (λ o. unwrap_or o []) bs)) back.bindings
            ∙ ap (λ ps. rule_step kind.chain_kind e.introduced (status_item (codes "thm") ∷ step_items script step) ps []) found.1
            ∙ chain-back e.introduced script chained_lines (map (written_place layout) chained_lines) pivots (map (read_name names) pivots)
            (ap (λ ns. all_there (map (introduced_in ns) (map (pivot_item script.prefix) pivots)))
            (a.introduced ∙ ap (map (introduced_name script.prefix)) before_is)
            ∙ pivots-back symbols script.prefix (form-fresh problem file) known names a.others a.whole
            (names-so-far script.prefix names known e step a).known_fit pivots chain.0)
