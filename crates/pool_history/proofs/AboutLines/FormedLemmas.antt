-- What lines lead to from clauses that are well-formed and whose names are assertions of parts that were met: such clauses. The last is canonical.
use Rattle.std.proofs.Common.{◌≡◌, ℕ, zero, suc, ◌-◌, ◌<◌, Bool, true, false, not, ◌&&◌, ◌||◌, ◌==◌, List, [], ◌∷◌, ◌++◌, take, refl, ap, sym, ◌∙◌, subst, inl, inr, ◌⊎◌, ⊎_elim, arith}
use Rattle.std.specs.Prelude.{Option, None, Some, slice_get, nat_lt}
use Rattle.std.specs.List.{list_all, last_or}
use Rattle.std.proofs.lemmas.Bool.{and_parts, and_from, or_cases, or_right, not-true, true≢false, cond-true, cond-false, cases_Bool}
use Rattle.std.proofs.lemmas.Option.{none-some}
use Rattle.fol_base.specs.Tree.{Tree, variable, application, Trees, no_trees, tree_then, trees_count, true_symbol}
use Rattle.fol_base.specs.Instance.{substitution}
use Rattle.fol_base.specs.Clause.{TreeLiteral, TreeClause}
use Rattle.fol_base.specs.Canonical.{IsCanonical}
use Rattle.fol_base.specs.Kind.{is_function_term, are_function_terms}
use Rattle.fol_base.specs.Literal.{clause_of}
use Rattle.fol_base.specs.Rules.{superposed, resolved, factored, merged}
use Rattle.fol_base.specs.WellFormed.{SymbolUse, has_arities, have_arities, is_literal_of, are_literals_of}
use Rattle.fol_base.proofs.WorkedExamples.TestLemmas.{option_map-some, list_all-item, list_all-joined}
use Rattle.fol_base.proofs.AboutTerms.WellFormedLemmas.{is_literal_of-parts, well_formed_instances, well_formed_superpositions, well_formed_resolutions, well_formed_factorings, well_formed_merges}
use Rattle.kernel_steps.specs.Names.{are_sorted}
use Rattle.kernel_steps.specs.Parents.{Parent, Parents}
use Rattle.kernel_steps.specs.Conclusion.{bound_literals, verdict, concludes, by_one}
use Rattle.kernel_steps.specs.Derivation.{line_parents, continued}
use Rattle.kernel_steps.specs.Lines.{clause_parents, is_on_literals, IsNumbered}
use Rattle.kernel_steps.specs.Soundness.{bindings_of, binds_each}
use Rattle.kernel_steps.specs.Symbols.{symbols_pass, all_symbols_pass, literal_symbols_pass, clause_symbols_pass}
use Rattle.kernel_steps.specs.declared.step.TheConstants.{CLAUSE_NUMBERS}
use Rattle.kernel_steps.specs.declared.step.Step.{Step}
use Rattle.kernel_steps.specs.declared.step.Step.TheVariants.{Input, Negate, Clausify, Para, Refl, Factor, Merge, Component, Opposite, Split, Chain}
use Rattle.kernel_steps.specs.declared.step.Line.{Line}
use Rattle.kernel_steps.proofs.AboutCalls.ItemLemmas.{get_or-passes}
use Rattle.kernel_steps.proofs.AboutCalls.VerdictParts.{by_one-parts, by_two-parts}
use Rattle.kernel_steps.proofs.AboutCalls.LineLemmas.{parent_line}
use Rattle.pool_history.specs.Lines.{result_of}
use Rattle.pool_history.specs.Derived.{is_function_term_of}
use Rattle.pool_history.specs.Reduction.{Lookup, AreLinesFrom}
use Rattle.pool_history.proofs.AboutCounting.DeathLemmas.{all-weaker}
use Rattle.pool_history.proofs.AboutRecords.ItemLemmas.{all-at}
use Rattle.pool_history.proofs.AboutLines.AssertionLemmas.{is_assertion_below, all-sorted}
use Rattle.pool_history.proofs.AboutLines.NamedStepLemmas.{conclusion-sorted}

-- ---- lists

both-pass :
    {X : Type 0} (p q s : X → Bool) → ((x : X) → p x ≡ true → q x ≡ true → s x ≡ true)
    → (xs : List X) → list_all p xs ≡ true → list_all q xs ≡ true → list_all s xs ≡ true
both-pass p q s each [] one other = refl
both-pass p q s each (x ∷ xs) one other =
    let first = and_parts (p x) (list_all p xs) one in
    let second = and_parts (q x) (list_all q xs) other in
    and_from (s x) (list_all s xs) (each x first.0 second.0) (both-pass p q s each xs first.1 second.1)

last-item : {X : Type 0} (o : Option X) (xs : List X) (x : X) → last_or o xs ≡ Some x → (o ≡ Some x) ⊎ ((n : ℕ) × (slice_get xs n ≡ Some x))
last-item o [] x h = inl h
last-item o (y ∷ ys) x h =
    ⊎_elim (λ e. inr (0, e)) (λ (at : (n : ℕ) × (slice_get ys n ≡ Some x)). inr (suc at.0, at.1)) (last-item (Some y) ys x h)

-- the line that the result is of
pub record ResultLine (lines : List Line) (c : TreeClause) : Type 0 where
  pub number : ℕ
  pub line : Line
  pub there : slice_get lines number ≡ Some line
  pub gives : clause_of line.clause ≡ c

pub result-line : (lines : List Line) (c : TreeClause) → result_of lines ≡ Some c → ResultLine lines c
result-line lines c led =
    option_map-some (λ (l : Line). clause_of l.clause) (last_or None lines) c led λ line line_is gives.
    ⊎_elim (λ none. absurd (none-some line none)) (λ (at : (n : ℕ) × (slice_get lines n ≡ Some line)). record { number = at.0; line = line; there = at.1; gives = gives })
    (last-item None lines line line_is)

-- ---- symbols with their numbers of arguments

module _ (usage : SymbolUse) where
  -- `$true`, or a symbol with its number of arguments
  abbrev is_used : ℕ → ℕ → Bool
  is_used f n = ((f == true_symbol) && (n == 0)) || (usage.arity f == n)

  mutual
    arities-pass : (t : Tree) → has_arities usage.arity t ≡ true → symbols_pass is_used t ≡ true
    arities-pass (variable v) h = refl
    arities-pass (application f ts) h =
        let both = and_parts (usage.arity f == trees_count ts) (have_arities usage.arity ts) h in
        and_from (is_used f (trees_count ts)) (all_symbols_pass is_used ts)
        (or_right ((f == true_symbol) && (trees_count ts == 0)) (usage.arity f == trees_count ts) both.0) (all-arities-pass ts both.1)

    all-arities-pass : (ts : Trees) → have_arities usage.arity ts ≡ true → all_symbols_pass is_used ts ≡ true
    all-arities-pass no_trees h = refl
    all-arities-pass (tree_then t ts) h =
        let both = and_parts (has_arities usage.arity t) (have_arities usage.arity ts) h in
        and_from (symbols_pass is_used t) (all_symbols_pass is_used ts) (arities-pass t both.0) (all-arities-pass ts both.1)

  pub formed-passes : (ls : List TreeLiteral) → are_literals_of usage ls ≡ true → list_all (literal_symbols_pass is_used) ls ≡ true
  formed-passes ls h =
      all-weaker (is_literal_of usage) (literal_symbols_pass is_used)
      (λ l is. let parts = is_literal_of-parts usage l is in
      and_from (symbols_pass is_used l.left) (symbols_pass is_used l.right) (arities-pass l.left parts.left_arities) (arities-pass l.right parts.right_arities))
      ls h

  -- a function term has no `$true`
  mutual
    passes-arities :
        (t : Tree) → is_function_term usage.is_predicate t ≡ true → symbols_pass is_used t ≡ true → has_arities usage.arity t ≡ true
    passes-arities (variable v) kind h = refl
    passes-arities (application f ts) kind h =
        let head = and_parts (not (f == true_symbol)) (not (usage.is_predicate f) && are_function_terms usage.is_predicate ts) kind in
        let rest = and_parts (not (usage.is_predicate f)) (are_function_terms usage.is_predicate ts) head.1 in
        let both = and_parts (is_used f (trees_count ts)) (all_symbols_pass is_used ts) h in
        and_from (usage.arity f == trees_count ts) (have_arities usage.arity ts)
        (⊎_elim
        (λ (truth : ((f == true_symbol) && (trees_count ts == 0)) ≡ true).
        absurd (true≢false (sym (and_parts (f == true_symbol) (trees_count ts == 0) truth).0 ∙ not-true (f == true_symbol) head.0)))
        (λ (used : (usage.arity f == trees_count ts) ≡ true). used)
        (or_cases ((f == true_symbol) && (trees_count ts == 0)) (usage.arity f == trees_count ts) both.0))
        (all-pass-arities ts rest.1 both.1)

    all-pass-arities :
        (ts : Trees) → are_function_terms usage.is_predicate ts ≡ true → all_symbols_pass is_used ts ≡ true → have_arities usage.arity ts ≡ true
    all-pass-arities no_trees kind h = refl
    all-pass-arities (tree_then t ts) kind h =
        let kinds = and_parts (is_function_term usage.is_predicate t) (are_function_terms usage.is_predicate ts) kind in
        let both = and_parts (symbols_pass is_used t) (all_symbols_pass is_used ts) h in
        and_from (has_arities usage.arity t) (have_arities usage.arity ts) (passes-arities t kinds.0 both.0) (all-pass-arities ts kinds.1 both.1)

  -- ---- bindings

  abbrev is_fit : Tree → Bool
  is_fit = is_function_term_of usage

  fit-from : (t : Tree) → is_function_term usage.is_predicate t ≡ true → symbols_pass is_used t ≡ true → is_fit t ≡ true
  fit-from t kind h = and_from (is_function_term usage.is_predicate t) (has_arities usage.arity t) kind (passes-arities t kind h)

  step-fits : (step : Step) → binds_each (is_function_term usage.is_predicate) step ≡ true → binds_each (symbols_pass is_used) step ≡ true → binds_each is_fit step ≡ true
  step-fits step kinds passes =
      both-pass (list_all (is_function_term usage.is_predicate)) (list_all (symbols_pass is_used)) (list_all is_fit)
      (both-pass (is_function_term usage.is_predicate) (symbols_pass is_used) is_fit fit-from) (bindings_of step) kinds passes

-- ---- clauses

module _ (usage : SymbolUse) (count : ℕ) where
  -- well-formed, its names assertions below the count
  pub record IsFormed (c : TreeClause) : Type 0 where
    pub literals : are_literals_of usage c.literals ≡ true
    pub below : list_all (is_assertion_below count) c.names ≡ true

  bound-formed : (bind : List Tree) (c : TreeClause) → list_all (is_fit usage) bind ≡ true → IsFormed c → are_literals_of usage (bound_literals bind c) ≡ true
  bound-formed bind c fit formed =
      well_formed_instances usage (substitution bind) c.literals (λ v. get_or-passes (is_fit usage) bind v (variable v) fit refl) formed.literals

  abbrev pub AreParents : Parents → Type 0
  AreParents parents = (n : ℕ) (p : Parent) → parents n ≡ Some p → IsFormed p.clause

  one-formed :
      (parents : Parents) (n : ℕ) (bind : List Tree) (rule : List TreeLiteral → Option (List TreeLiteral)) (c : TreeClause)
      → AreParents parents → list_all (is_fit usage) bind ≡ true
      → ((ls made : List TreeLiteral) → are_literals_of usage ls ≡ true → rule ls ≡ Some made → are_literals_of usage made ≡ true)
      → by_one (parents n) bind rule ≡ concludes c → IsFormed c
  one-formed parents n bind rule c formed fit keeps h =
      let p = by_one-parts (parents n) bind rule c h in
      let source = formed n p.source p.there in
      record {
        literals =
            ap (λ (d : TreeClause). are_literals_of usage d.literals) (sym p.gives)
            ∙ keeps (bound_literals bind p.source.clause) p.literals (bound-formed bind p.source.clause fit source) p.made;
        below =
            ap (λ (d : TreeClause). list_all (is_assertion_below count) d.names) (sym p.gives)
            ∙ all-sorted (is_assertion_below count) p.source.clause.names ∙ source.below;
      }

  pub step-formed :
      (step : Step) (parents : Parents) (c : TreeClause)
      → AreParents parents → is_on_literals step ≡ true → binds_each (is_fit usage) step ≡ true → verdict step parents ≡ concludes c → IsFormed c
  step-formed (Para n m j s k z place first second) parents c formed kind fit h =
      let both = and_parts (list_all (is_fit usage) first) (list_all (is_fit usage) second && true) fit in
      let p = by_two-parts (parents n) first (parents m) second (λ ls ks. superposed ls j s ks k z place) c h in
      let source = formed n p.source p.first_there in
      let target = formed m p.target p.second_there in
      record {
        literals =
            ap (λ (d : TreeClause). are_literals_of usage d.literals) (sym p.gives)
            ∙ well_formed_superpositions usage (bound_literals first p.source.clause) (bound_literals second p.target.clause) p.literals j k s z place
            (bound-formed first p.source.clause both.0 source)
            (bound-formed second p.target.clause (and_parts (list_all (is_fit usage) second) true both.1).0 target) p.made;
        below =
            ap (λ (d : TreeClause). list_all (is_assertion_below count) d.names) (sym p.gives)
            ∙ all-sorted (is_assertion_below count) (p.source.clause.names ++ p.target.clause.names)
            ∙ list_all-joined (is_assertion_below count) p.source.clause.names p.target.clause.names source.below target.below;
      }
  step-formed (Refl n k bind) parents c formed kind fit h =
      one-formed parents n bind (λ ls. resolved ls k) c formed (and_parts (list_all (is_fit usage) bind) true fit).0
      (λ ls made. well_formed_resolutions usage ls made k) h
  step-formed (Factor n j s k z bind) parents c formed kind fit h =
      one-formed parents n bind (λ ls. factored ls j s k z) c formed (and_parts (list_all (is_fit usage) bind) true fit).0
      (λ ls made. well_formed_factorings usage ls made j k s z) h
  step-formed (Merge n j k bind) parents c formed kind fit h =
      one-formed parents n bind (λ ls. merged ls j k) c formed (and_parts (list_all (is_fit usage) bind) true fit).0
      (λ ls made. well_formed_merges usage ls made j k) h
  step-formed (Input place) parents c formed kind fit h = absurd (true≢false (sym kind))
  step-formed (Negate place) parents c formed kind fit h = absurd (true≢false (sym kind))
  step-formed (Clausify i) parents c formed kind fit h = absurd (true≢false (sym kind))
  step-formed (Component name) parents c formed kind fit h = absurd (true≢false (sym kind))
  step-formed (Opposite name) parents c formed kind fit h = absurd (true≢false (sym kind))
  step-formed (Split parent definitions parts) parents c formed kind fit h = absurd (true≢false (sym kind))
  step-formed (Chain numbers pivots) parents c formed kind fit h = absurd (true≢false (sym kind))

  -- ---- lines

  module _ (clauses : Lookup) (lines : List Line) (from : AreLinesFrom usage.is_predicate clauses lines) (formed : (n : ℕ) (c : TreeClause) → clauses n ≡ Some c → IsFormed c) where
    abbrev FormedBefore : ℕ → Type 0
    FormedBefore n = (k : ℕ) (line : Line) → k < n → slice_get lines k ≡ Some line → IsFormed (clause_of line.clause)

    passing : (n : ℕ) (c : TreeClause) → clauses n ≡ Some c → clause_symbols_pass (is_used usage) c ≡ true
    passing n c there = formed-passes usage c.literals (formed n c there).literals

    pub lines-fit : list_all (λ (l : Line). binds_each (is_fit usage) l.step) lines ≡ true
    lines-fit =
        both-pass (λ (l : Line). binds_each (is_function_term usage.is_predicate) l.step) (λ (l : Line). binds_each (symbols_pass (is_used usage)) l.step)
        (λ (l : Line). binds_each (is_fit usage) l.step) (λ l kinds passes. step-fits usage l.step kinds passes) lines from.lines_right.terms
        (from.symbols (is_used usage) refl passing).1

    parents-formed : (n : ℕ) → FormedBefore n → AreParents (continued CLAUSE_NUMBERS (clause_parents clauses) (take n lines))
    parents-formed n before k p there =
        ⊎_elim
        (λ (below : nat_lt k CLAUSE_NUMBERS ≡ true).
        option_map-some (λ c. let q : Parent = record { clause = c; introduces = false } in q) (clauses k) p
        (sym (cond-true (nat_lt k CLAUSE_NUMBERS) (clause_parents clauses k) (line_parents (take n lines) (k - CLAUSE_NUMBERS)) below) ∙ there) λ c c_is gives.
        subst (λ (q : Parent). IsFormed q.clause) gives (formed k c c_is))
        (λ (above : nat_lt k CLAUSE_NUMBERS ≡ false).
        let at = parent_line lines n (k - CLAUSE_NUMBERS) p (sym (cond-false (nat_lt k CLAUSE_NUMBERS) (clause_parents clauses k) (line_parents (take n lines) (k - CLAUSE_NUMBERS)) above) ∙ there) in
        subst (λ (q : Parent). IsFormed q.clause) at.gives (before (k - CLAUSE_NUMBERS) at.line at.earlier at.there))
        (cases_Bool (nat_lt k CLAUSE_NUMBERS))

    line-formed : (n : ℕ) (line : Line) → slice_get lines n ≡ Some line → FormedBefore n → IsFormed (clause_of line.clause)
    line-formed n line at before =
        step-formed line.step (continued CLAUSE_NUMBERS (clause_parents clauses) (take n lines)) (clause_of line.clause) (parents-formed n before)
        (list_all-item (λ (l : Line). is_on_literals l.step) lines n line at from.lines_right.kinds)
        (list_all-item (λ (l : Line). binds_each (is_fit usage) l.step) lines n line at lines-fit)
        (from.lines_right.steps n line at)

    formed-before : (n : ℕ) → FormedBefore n
    formed-before zero k line within at = absurd (omega arith)
    formed-before (suc n) k line within at = line-formed k line at (λ i other before there. formed-before n i other (omega (arith, within, before)) there)

    pub each-formed : (n : ℕ) (line : Line) → slice_get lines n ≡ Some line → IsFormed (clause_of line.clause)
    each-formed n line at = line-formed n line at (formed-before n)

    pub result-formed : (c : TreeClause) → result_of lines ≡ Some c → IsFormed c
    result-formed c led =
        let last = result-line lines c led in
        subst IsFormed last.gives (each-formed last.number last.line last.there)

    pub result-canonical : (c : TreeClause) → result_of lines ≡ Some c → IsCanonical c
    result-canonical c led =
        let last = result-line lines c led in
        subst IsCanonical last.gives (all-at IsNumbered lines last.number last.line from.lines_right.numbered last.there).canonical

    -- the names of the last conclusion are sorted
    pub result-sorted : (c : TreeClause) → result_of lines ≡ Some c → are_sorted c.names ≡ true
    result-sorted c led =
        let last = result-line lines c led in
        subst (λ (d : TreeClause). are_sorted d.names ≡ true) last.gives
        (conclusion-sorted last.line.step (continued CLAUSE_NUMBERS (clause_parents clauses) (take last.number lines)) (clause_of last.line.clause)
        (list_all-item (λ (l : Line). is_on_literals l.step) lines last.number last.line last.there from.lines_right.kinds)
        (from.lines_right.steps last.number last.line last.there))
