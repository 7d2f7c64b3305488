-- The line of a rewrite that was found: the kernel's verdict, and what else is asked of lines.
use Rattle.std.proofs.Common.{◌≡◌, ℕ, ◌+◌, ◌<◌, ◌≤◌, Bool, true, false, ◌&&◌, ◌==◌, Option, Some, List, [], ◌∷◌, ◌++◌, length, map, append-nil, refl, ap, ap₂, sym, ◌∙◌, subst, ⊎_elim, arith}
use Rattle.std.specs.Prelude.{flat_map, sum_by}
use Rattle.std.specs.List.{AllByRecursion, list_any, list_all}
use Rattle.std.specs.Option.{option_map}
use Rattle.std.proofs.lemmas.Bool.{and_from, cond-true, cases_lt}
use Rattle.std.proofs.lemmas.List.{map-append, length-map}
use Rattle.std.proofs.lemmas.List.Sums.{sum_by-cons}
use Rattle.plain_types.specs.declared.sequence.NameLit.{NameLit}
use Rattle.plain_types.specs.Names.{negative_of}
use Rattle.fol_base.specs.Tree.{Tree, variable, application, Trees, no_trees, tree_then, trees_count, tree_size, tree_variables, trees_of, trees_variables}
use Rattle.fol_base.specs.Instance.{Substitution, instance, substitution}
use Rattle.fol_base.specs.Clause.{TreeLiteral, TreeClause, LiteralVariablesBelow, literal_size, literal_instance, clause_variables, clause_size, clause_instance}
use Rattle.fol_base.specs.Ground.{literals_instance}
use Rattle.fol_base.specs.Canonical.{bound_of, renaming, canonical_clause, canonical_renaming, IsCanonical}
use Rattle.fol_base.specs.Kind.{is_function_term, PutsFunctionTerms}
use Rattle.fol_base.specs.Literal.{clause_of}
use Rattle.fol_base.specs.Rules.{superposed}
use Rattle.fol_base.specs.Sides.{side_of, other_side_of}
use Rattle.fol_base.specs.Subsumption.{assertions, is_among}
use Rattle.fol_base.specs.WellFormed.{SymbolUse, has_arities, have_arities, is_literal_of, are_literals_of, PutsFunctionTermsOf}
use Rattle.fol_base.specs.declared.limits.TheConstants.{MOST_SYMBOLS}
use Rattle.fol_base.proofs.AboutCanonical.CanonicalLemmas.{length-terms_from, canonical_forms_are_canonical, canonical_forms_keep_sizes}
use Rattle.fol_base.proofs.AboutClauses.InferenceLemmas.{superpositions_in_instances, side_of-instance, other_side_of-instance}
use Rattle.fol_base.proofs.AboutTerms.KindLemmas.{puts_no_truth}
use Rattle.fol_base.proofs.AboutOrders.OrderLemmas.{tree_greater_decided}
use Rattle.fol_base.proofs.WorkedExamples.TestLemmas.{list_all-item}
use Rattle.fol_base.proofs.AboutTerms.WellFormedLemmas.{is_literal_of-parts, side_arities, well_formed_instances, well_formed_superpositions}
use Rattle.kbo_order.proofs.AboutMultisets.ClauseLoops.{item-size}
use Rattle.kbo_order.proofs.AboutMultisets.MemberLemmas.{In}
use Rattle.kbo_order.proofs.AboutLaws.SubtermLemmas.{greater-size}
use Rattle.kernel_steps.specs.Conclusion.{concludes, verdict, verdict_of, binding_fault, clause_with, binds, bound_literals, by_two}
use Rattle.kernel_steps.specs.Inference.{RewritesBy}
use Rattle.kernel_steps.specs.Lines.{IsNumbered, line_variables, is_small_term, has_small_sides, has_small_terms, is_on_literals, step_parents, own_terms}
use Rattle.kernel_steps.specs.Names.{sorted_names, are_sorted}
use Rattle.kernel_steps.specs.Parents.{Parent, Parents}
use Rattle.kernel_steps.specs.Soundness.{bindings_of, binds_each}
use Rattle.kernel_steps.specs.Symbols.{symbols_pass, all_symbols_pass, literal_symbols_pass, clause_symbols_pass}
use Rattle.kernel_steps.specs.declared.step.Step.{Step}
use Rattle.kernel_steps.specs.declared.step.Line.{Line}
use Rattle.kernel_steps.proofs.AboutCalls.SymbolLemmas.{side-passes, subterm-passes}
use Rattle.unifier.specs.Matching.{by_pairs}
use Rattle.eq_rules.specs.Renumbered.{AreNumberedInOrder}
use Rattle.eq_rules.proofs.AboutConclusions.BindingLemmas.{bound_functions, bound_small, bound_symbols}
use Rattle.eq_rules.proofs.AboutConclusions.ConclusionLemmas.{bindings_numbered, binds_renamed, numbered_first, appended_variables}
use Rattle.eq_rules.proofs.AboutConclusions.PremiseLemmas.{clause-below}
use Rattle.eq_rules.proofs.AboutConclusions.SideLemmas.{sides-size}
use Rattle.eq_rules.proofs.AboutConclusions.StepLemmas.{renaming-no_truth}
use Rattle.eq_rules.proofs.AboutConclusions.WideLemmas.{literals-below, renamed-literals}
use Rattle.rewriting.specs.Searching.{IsFoundOf}
use Rattle.rewriting.specs.Laws.{MayRewrite, AreWellFormed}
use Rattle.rewriting.specs.declared.searching.Found.{Found}
use Rattle.rewriting.proofs.AboutRedexes.LawLemmas.{RewritesFound, found_rewrites}
use Rattle.rewriting.proofs.AboutSearches.TryLemmas.{numbers-asserted}
use Rattle.demodulate.specs.Steps.{matched_terms, IsLineOf}
use Rattle.demodulate.proofs.AboutSteps.StepParts.{Rewrites, of_found}
use Rattle.demodulate.proofs.AboutSteps.SymbolLemmas.{variable-passes}
use Rattle.demodulate.proofs.AboutRanks.RankLemmas.{side-smaller, step_size}
use Rattle.demodulate.proofs.AboutSteps.NameLemmas.{names-stay}
use Rattle.demodulate.proofs.AboutRanks.TermLemmas.{literals-stay, term-there, term-past, own-there, puts-functions, side-has, variable-small, subterm-size, small-sides}
use Rattle.list_lemmas.proofs.Bools.{two-true}
use Rattle.list_lemmas.proofs.Tests.{tests-all}

-- ---- the verdict of a step on two parents

verdict_by_two :
    (first second : Option Parent) (c d e : TreeClause) (introduces : Bool) (first_bind second_bind : List Tree)
    (rule : List TreeLiteral → List TreeLiteral → Option (List TreeLiteral))
    → first ≡ Some (record { clause = c; introduces = false }) → second ≡ Some (record { clause = d; introduces = introduces })
    → binds first_bind c ≡ true → binds second_bind d ≡ true
    → rule (literals_instance (substitution first_bind) c.literals) (literals_instance (substitution second_bind) d.literals) ≡ Some e.literals
    → e.names ≡ sorted_names (c.names ++ d.names)
    → by_two first first_bind second second_bind rule ≡ concludes e
verdict_by_two first second c d e introduces first_bind second_bind rule there second_there first_bound second_bound gives names =
    ap₂ (λ (o u : Option Parent). by_two o first_bind u second_bind rule) there second_there
    ∙ cond-true (binds first_bind c && binds second_bind d)
    (verdict_of (option_map (clause_with (c.names ++ d.names)) (rule (bound_literals first_bind c) (bound_literals second_bind d)))) binding_fault
    (and_from (binds first_bind c) (binds second_bind d) first_bound second_bound)
    ∙ ap (λ o. verdict_of (option_map (clause_with (c.names ++ d.names)) o)) gives
    ∙ ap (λ (ns : List NameLit). let made : TreeClause = record { literals = e.literals; names = ns } in concludes made) (sym names)

-- ---- variables

-- numbers of arguments are a test of symbols
mutual
  arities-pass : (arity : ℕ → ℕ) (t : Tree) → symbols_pass (λ f k. arity f == k) t ≡ has_arities arity t
  arities-pass arity (variable v) = refl
  arities-pass arity (application f ts) = ap (λ b. (arity f == trees_count ts) && b) (all-arities-pass arity ts)

  all-arities-pass : (arity : ℕ → ℕ) (ts : Trees) → all_symbols_pass (λ f k. arity f == k) ts ≡ have_arities arity ts
  all-arities-pass arity no_trees = refl
  all-arities-pass arity (tree_then t ts) = ap₂ ◌&&◌ (arities-pass arity t) (all-arities-pass arity ts)

-- ---- the line

module _
    (clauses : ℕ → Option TreeClause) (c : TreeClause) (f : Found) (found : IsFoundOf clauses c.literals f)
    (parent : ℕ) (line : Line) (h : IsLineOf found.rewrite.unit c f parent line) where
  abbrev unit : TreeClause
  unit = found.rewrite.unit

  abbrev e : TreeLiteral
  e = found.rewrite.equation

  abbrev σ : Substitution
  σ = by_pairs f.rewrite.terms

  abbrev n : ℕ
  n = bound_of (clause_variables unit)

  abbrev left : List Tree
  left = matched_terms unit f

  abbrev right : List Tree
  right = own_terms c

  abbrev rule : List TreeLiteral → List TreeLiteral → Option (List TreeLiteral)
  rule ls ks = superposed ls 0 f.rewrite.side ks f.literal f.side f.place

  left-many : length left ≡ n
  left-many = length-terms_from 0 n σ

  right-many : length right ≡ bound_of (clause_variables c)
  right-many = length-terms_from 0 (bound_of (clause_variables c)) variable

  left-below : AllByRecursion (LiteralVariablesBelow (length left)) unit.literals
  left-below = subst (λ (k : ℕ). AllByRecursion (LiteralVariablesBelow k) unit.literals) (sym left-many) (clause-below unit)

  right-below : AllByRecursion (LiteralVariablesBelow (length right)) c.literals
  right-below = subst (λ (k : ℕ). AllByRecursion (LiteralVariablesBelow k) c.literals) (sym right-many) (clause-below c)

  under-left : literals_instance (substitution left) unit.literals ≡ literals_instance σ unit.literals
  under-left = literals-below n (substitution left) σ unit.literals (clause-below unit) (λ v less. term-there n σ v less)

  under-right : literals_instance (substitution right) c.literals ≡ c.literals
  under-right = literals-stay (substitution right) (own-there (bound_of (clause_variables c))) c.literals

  made-is : (clause_of line.clause).literals ≡ literals_instance (renaming h.order) h.made.literals
  made-is =
      ap (λ (d : TreeClause). d.literals) h.clause
      ∙ sym (numbered_first h.made.literals (trees_variables (trees_of (left ++ right))) h.order h.met)

  pub line_canonical : IsCanonical (clause_of line.clause)
  line_canonical = subst (λ (d : TreeClause). IsCanonical d) (sym h.clause) (canonical_forms_are_canonical h.made)

  pub line_names : (clause_of line.clause).names ≡ c.names
  line_names = ap (λ (d : TreeClause). d.names) h.clause ∙ h.becomes.names

  renamed : h.first_bind ++ h.second_bind ≡ map (instance (renaming h.order)) (left ++ right)
  renamed = ap₂ ◌++◌ h.first_numbered h.second_numbered ∙ sym (map-append (instance (renaming h.order)) left right)

  variables-are : line_variables line ≡ clause_variables (clause_of line.clause) ++ trees_variables (trees_of (h.first_bind ++ h.second_bind))
  variables-are =
      ap (λ (st : Step). clause_variables (clause_of line.clause) ++ flat_map (λ b. trees_variables (trees_of b)) (bindings_of st)) h.step
      ∙ ap (λ vs. clause_variables (clause_of line.clause) ++ vs)
      (ap (λ vs. trees_variables (trees_of h.first_bind) ++ vs) (append-nil (trees_variables (trees_of h.second_bind)))
      ∙ sym (appended_variables h.first_bind h.second_bind))

  pub line_numbered : IsNumbered line
  line_numbered = record {
    canonical = line_canonical;
    bindings =
        subst (λ (vs : List ℕ). AreNumberedInOrder vs) (sym variables-are)
        (bindings_numbered h.made.literals (left ++ right) (h.first_bind ++ h.second_bind) h.order (clause_of line.clause) h.met renamed made-is);
  }

  pub line_on_literals : is_on_literals line.step ≡ true
  line_on_literals = ap is_on_literals h.step

  pub line_parents : step_parents line.step ≡ f.rewrite.number ∷ parent ∷ []
  line_parents = ap step_parents h.step

  -- under the terms that are bound the rule gives the clause
  rule-numbered :
      rule (literals_instance (substitution h.first_bind) unit.literals) (literals_instance (substitution h.second_bind) c.literals)
      ≡ Some (clause_of line.clause).literals
  rule-numbered =
      ap₂ rule
      (renamed-literals h.order left h.first_bind unit.literals h.first_numbered left-below ∙ ap (literals_instance (renaming h.order)) under-left)
      (renamed-literals h.order right h.second_bind c.literals h.second_numbered right-below ∙ ap (literals_instance (renaming h.order)) under-right)
      ∙ superpositions_in_instances (renaming h.order) (literals_instance σ unit.literals) c.literals h.made.literals
      0 f.literal f.rewrite.side f.side f.place (renaming-no_truth h.order) h.becomes.gives
      ∙ ap (λ (ls : List TreeLiteral). let o : Option (List TreeLiteral) = Some ls in o) (sym made-is)

  -- ---- sizes

  rewrites : Rewrites unit c h.made
  rewrites = of_found clauses c f found h.made h.becomes

  pub line_size : clause_size (clause_of line.clause) ≤ clause_size c
  line_size =
      let same : clause_size (clause_of line.clause) ≡ clause_size h.made = ap clause_size h.clause ∙ canonical_forms_keep_sizes h.made in
      omega (arith, same, step_size unit c h.made rewrites)

  old-size : tree_size found.old ≤ clause_size c
  old-size =
      let within = subterm-size f.place (side_of f.side found.literal) found.old found.old_there in
      let side = side-smaller f.side found.literal in
      let whole = item-size c.literals f.literal found.literal found.literal_there in
      omega (arith, within, side, whole)

  side-is : side_of f.rewrite.side (literal_instance σ e) ≡ found.old
  side-is = side_of-instance σ f.rewrite.side e ∙ found.rewrite.matched.redex.matches

  unit-size : clause_size (clause_instance (substitution left) unit) ≤ clause_size c + clause_size c
  unit-size =
      let other : Tree = instance σ (other_side_of f.rewrite.side e) in
      let alone : clause_size (clause_instance (substitution left) unit) ≡ sum_by literal_size (literal_instance σ e ∷ []) =
      ap (sum_by literal_size) (under-left ∙ ap (literals_instance σ) found.rewrite.alone) in
      let one = sum_by-cons literal_size (literal_instance σ e) [] in
      let sides = sides-size f.rewrite.side (literal_instance σ e) in
      let side : tree_size (side_of f.rewrite.side (literal_instance σ e)) ≡ tree_size found.old = ap tree_size side-is in
      let other_is : tree_size (other_side_of f.rewrite.side (literal_instance σ e)) ≡ tree_size other =
      ap tree_size (other_side_of-instance σ f.rewrite.side e) in
      let less = greater-size found.old other ((tree_greater_decided found.old other).0 found.rewrite.matched.redex.greater) in
      omega (arith, alone, one, sides, side, other_is, less, old-size)

  own-size : clause_size (clause_instance (substitution right) c) ≡ clause_size c
  own-size = ap (sum_by literal_size) under-right

  -- ---- under a use of the symbols

  module _
      (usage : SymbolUse) (may : MayRewrite clauses (assertions c.names)) (formed : AreWellFormed usage clauses c)
      (canonical : IsCanonical unit) (asserted : List ℕ) (unit_names : unit.names ≡ map negative_of asserted)
      (sorted : are_sorted c.names ≡ true) (small : clause_size c ≤ MOST_SYMBOLS) where
    abbrev p : ℕ → Bool
    p = usage.is_predicate

    it : RewritesFound p c f unit h.made
    it = found_rewrites usage clauses c f found may formed h.made h.becomes

    puts : PutsFunctionTerms p (substitution left)
    puts = puts-functions p n σ it.function_terms

    own-puts : PutsFunctionTerms p (substitution right)
    own-puts v = ap (is_function_term p) (own-there (bound_of (clause_variables c)) v)

    names-are : (clause_of line.clause).names ≡ sorted_names (unit.names ++ c.names)
    names-are =
        let among : is_among asserted (assertions c.names) ≡ true =
        ap (λ (ns : List ℕ). is_among ns (assertions c.names)) (sym (ap assertions unit_names ∙ numbers-asserted asserted))
        ∙ may f.rewrite.number unit found.rewrite.there in
        line_names ∙ names-stay asserted c.names sorted among ∙ ap (λ ns. sorted_names (ns ++ c.names)) (sym unit_names)

    pub line_concluded :
        (parents : Parents) (introduces : Bool)
        → parents f.rewrite.number ≡ Some (record { clause = unit; introduces = false })
        → parents parent ≡ Some (record { clause = c; introduces = introduces })
        → verdict line.step parents ≡ concludes (clause_of line.clause)
    line_concluded parents introduces there here =
        ap (λ (st : Step). verdict st parents) h.step
        ∙ verdict_by_two (parents f.rewrite.number) (parents parent) unit c (clause_of line.clause) introduces h.first_bind h.second_bind rule there here
        (binds_renamed unit h.order left h.first_bind h.first_numbered
        (ap length h.first_numbered ∙ length-map left (instance (renaming h.order)) ∙ left-many)
        left-below (puts_no_truth p (substitution left) puts) (omega (arith, unit-size, small)))
        (binds_renamed c h.order right h.second_bind h.second_numbered
        (ap length h.second_numbered ∙ length-map right (instance (renaming h.order)) ∙ right-many)
        right-below (puts_no_truth p (substitution right) own-puts) (omega (arith, own-size, small)))
        rule-numbered names-are

    pub line_terms : binds_each (is_function_term p) line.step ≡ true
    line_terms =
        ap (binds_each (is_function_term p)) h.step
        ∙ two-true (list_all (is_function_term p) h.first_bind) (list_all (is_function_term p) h.second_bind)
        (bound_functions p h.order left h.first_bind h.first_numbered puts)
        (bound_functions p h.order right h.second_bind h.second_numbered own-puts)

    stands : (v : ℕ) → v < length left → In v (tree_variables (side_of f.rewrite.side e))
    stands v less =
        let side : Tree = side_of f.rewrite.side e in
        side-has unit e f.rewrite.side canonical found.rewrite.alone
        (tests-all (λ w. list_any (λ u. w == u) (tree_variables side)) (tree_variables (other_side_of f.rewrite.side e))
        found.rewrite.matched.redex.no_new_variables)
        v (omega (arith, less, left-many))

    terms-small : list_all is_small_term h.first_bind ≡ true
    terms-small =
        bound_small h.order left h.first_bind h.first_numbered
        (λ v less.
        let side : Tree = side_of f.rewrite.side e in
        let here : tree_size (substitution left v) ≡ tree_size (σ v) = ap tree_size (term-there n σ v (omega (arith, less, left-many))) in
        let within = variable-small σ side v (stands v less) in
        let same : tree_size (instance σ side) ≡ tree_size found.old = ap tree_size found.rewrite.matched.redex.matches in
        omega (arith, here, within, same, old-size, small))

    own-small : list_all is_small_term h.second_bind ≡ true
    own-small =
        bound_small h.order right h.second_bind h.second_numbered
        (λ v less.
        let one : tree_size (substitution right v) ≡ 1 = ap tree_size (own-there (bound_of (clause_variables c)) v) in
        omega (arith, one))

    pub line_small : has_small_terms line ≡ true
    line_small =
        and_from (list_all has_small_sides (clause_of line.clause).literals) (binds_each is_small_term line.step)
        (small-sides (clause_of line.clause).literals (omega (arith, line_size, small)))
        (ap (binds_each is_small_term) h.step
        ∙ two-true (list_all is_small_term h.first_bind) (list_all is_small_term h.second_bind) terms-small own-small)

    pub line_symbols :
        (test : ℕ → ℕ → Bool) → clause_symbols_pass test unit ≡ true → clause_symbols_pass test c ≡ true
        → binds_each (symbols_pass test) line.step ≡ true
    line_symbols test unit_passes passes =
        let side : Tree = side_of f.rewrite.side e in
        let literal_passes : literal_symbols_pass test found.literal ≡ true =
        list_all-item (literal_symbols_pass test) c.literals f.literal found.literal found.literal_there passes in
        let whole : symbols_pass test (instance σ side) ≡ true =
        ap (symbols_pass test) found.rewrite.matched.redex.matches
        ∙ subterm-passes test f.place (side_of f.side found.literal) found.old found.old_there (side-passes test f.side found.literal literal_passes) in
        ap (binds_each (symbols_pass test)) h.step
        ∙ two-true (list_all (symbols_pass test) h.first_bind) (list_all (symbols_pass test) h.second_bind)
        (bound_symbols test h.order left h.first_bind h.first_numbered
        (λ v less.
        ap (symbols_pass test) (term-there n σ v (omega (arith, less, left-many))) ∙ variable-passes test σ side v whole (stands v less)))
        (bound_symbols test h.order right h.second_bind h.second_numbered
        (λ v less. ap (symbols_pass test) (own-there (bound_of (clause_variables c)) v)))

    pub line_rewrites : RewritesBy p unit c h.made
    line_rewrites = it.rewrites

    -- the result is well-formed

    whole-arities : symbols_pass (λ f k. usage.arity f == k) (instance σ (side_of f.rewrite.side e)) ≡ true
    whole-arities =
        let test : ℕ → ℕ → Bool = λ g k. usage.arity g == k in
        let literal = is_literal_of-parts usage found.literal (list_all-item (is_literal_of usage) c.literals f.literal found.literal found.literal_there formed.0) in
        ap (symbols_pass test) found.rewrite.matched.redex.matches
        ∙ subterm-passes test f.place (side_of f.side found.literal) found.old found.old_there
        (arities-pass usage.arity (side_of f.side found.literal) ∙ side_arities usage f.side found.literal literal)

    puts-arities : PutsFunctionTermsOf usage (substitution left)
    puts-arities v =
        and_from (is_function_term p (substitution left v)) (has_arities usage.arity (substitution left v)) (puts v)
        (⊎_elim
        (λ less.
        ap (has_arities usage.arity) (term-there n σ v less)
        ∙ sym (arities-pass usage.arity (σ v))
        ∙ variable-passes (λ g k. usage.arity g == k) σ (side_of f.rewrite.side e) v whole-arities (stands v (omega (arith, less, left-many))))
        (λ past. ap (has_arities usage.arity) (term-past n σ v past))
        (cases_lt v n))

    pub line_formed : are_literals_of usage (canonical_clause h.made).literals ≡ true
    line_formed =
        well_formed_instances usage (canonical_renaming h.made) h.made.literals (λ v. refl)
        (well_formed_superpositions usage (literals_instance (substitution left) unit.literals) c.literals h.made.literals 0 f.literal f.rewrite.side f.side f.place
        (well_formed_instances usage (substitution left) unit.literals puts-arities (formed.1 f.rewrite.number unit found.rewrite.there))
        formed.0
        (ap (λ (ls : List TreeLiteral). superposed ls 0 f.rewrite.side c.literals f.literal f.side f.place) under-left ∙ h.becomes.gives))
