-- Lines that are put among a pool's, those of a batch among them, and what a record keeps of its lines.
use Rattle.std.proofs.Common.{◌≡◌, ℕ, ◌+◌, ◌-◌, ◌<◌, ◌≤◌, true, false, ◌&&◌, List, [], ◌∷◌, ◌++◌, map, length, take, refl, ap, sym, ◌∙◌, subst, ⊎_elim, arith}
use Rattle.std.specs.Prelude.{Option, None, Some, slice_get, option_map, option_and_then, unwrap_or, nat_lt, flat_map, All}
use Rattle.std.specs.List.{list_all, last_or}
use Rattle.std.proofs.Math.Seq.{take-append-add}
use Rattle.std.proofs.lemmas.Bool.{true≢false, and_from, cond-true, cond-false, cases_Bool}
use Rattle.std.proofs.lemmas.List.{take-append-le, take-map, map-append}
use Rattle.std.proofs.lemmas.List.Elements.{All-append, All-push}
use Rattle.std.proofs.lemmas.Option.{slice_get_within, slice_get-map}
use Rattle.fol_base.specs.Tree.{trees_of, trees_variables}
use Rattle.fol_base.specs.Clause.{TreeLiteral, TreeClause, clause_size, clause_variables}
use Rattle.fol_base.specs.Canonical.{distinct, numbers_from}
use Rattle.fol_base.specs.Literal.{clause_of}
use Rattle.fol_base.specs.WellFormed.{SymbolUse}
use Rattle.fol_base.specs.declared.limits.TheConstants.{MOST_SYMBOLS}
use Rattle.fol_base.proofs.WorkedExamples.TestLemmas.{option_map-some, list_all-item, list_all-joined, list_all-map_from}
use Rattle.kernel_steps.specs.Parents.{Parent}
use Rattle.kernel_steps.specs.Conclusion.{empty_clause}
use Rattle.kernel_steps.specs.Derivation.{is_clause_step, introduces_name, line_parent, line_parents, continued, ComesBy, under_names}
use Rattle.kernel_steps.specs.Lines.{clause_parents, is_on_literals, is_small_term, has_small_sides, has_small_terms, IsNumbered}
use Rattle.kernel_steps.specs.Soundness.{bindings_of, binds_each}
use Rattle.kernel_steps.specs.Symbols.{symbols_pass, clause_symbols_pass}
use Rattle.kernel_steps.specs.declared.step.TheConstants.{CLAUSE_NUMBERS}
use Rattle.kernel_steps.specs.declared.step.Step.{Step}
use Rattle.kernel_steps.specs.declared.step.Step.TheVariants.{Input, Negate, Clausify, Para, Refl, Factor, Merge, Component, Opposite, Split, Chain}
use Rattle.kernel_steps.specs.declared.step.Line.{Line}
use Rattle.kernel_steps.proofs.AboutCalls.LineLemmas.{parent_line}
use Rattle.sat_core.specs.Clause.{is_below, names_below}
use Rattle.pool_history.specs.Tags.{name_of_tag, name_count, line_names}
use Rattle.pool_history.specs.Record.{PoolRecord, Registered, SolverJob, PropositionalClause, propositional_clauses}
use Rattle.pool_history.specs.Lines.{with_lines, line_number, with_parents, pool_line, result_of}
use Rattle.pool_history.specs.Registering.{registered_by, registered_last, with_propositional}
use Rattle.pool_history.specs.Reduction.{Lookup, AreLinesFrom}
use Rattle.pool_history.specs.Wholeness.{IsWhole}
use Rattle.pool_history.specs.Derived.{is_function_term_of, IsPoolLine, HaveInputSymbols, ArePoolLines}
use Rattle.pool_history.specs.declared.outcome.Outcome.{Outcome}
use Rattle.pool_history.specs.declared.outcome.Outcome.TheVariants.{Refuted}
use Rattle.pool_history.proofs.AboutLines.FormedLemmas.{IsFormed, result-formed, result-canonical, result-sorted, each-formed, lines-fit}
use Rattle.pool_history.proofs.AboutLines.JoinedLemmas.{get-left, get-right, get-taken, BehindAt, get-cases, get-mapped, EndsIn, last-ends, last-there, ends-behind, all-from}
use Rattle.pool_history.proofs.AboutRecords.ItemLemmas.{all-at}
use Rattle.pool_history.proofs.AboutRecords.EditLemmas.{get-end}
use Rattle.pool_history.proofs.AboutLines.AssertionLemmas.{line_names-sorted, line_names-joined, assertions-from, all-met, below-from}
use Rattle.pool_history.proofs.AboutLines.NamedStepLemmas.{renamed_by, AreMapped, KeepsSorting, comes-mapped}
use Rattle.pool_history.proofs.AboutLines.NameTableLemmas.{AreNamed, named-joined}
use Rattle.kernel_steps.proofs.AboutNames.NameRanks.{sorted_names-sorted}
use Rattle.fol_base.specs.Subsumption.{assertions}
use Rattle.plain_types.specs.declared.sequence.NameLit.{NameLit}
use Rattle.plain_types.specs.Names.{opposite}
use Rattle.std.proofs.lemmas.Option.{none-some}
use Rattle.std.proofs.lemmas.List.{length-append}

-- ---- steps with other parents

same-bindings : (number : ℕ → ℕ) (step : Step) → bindings_of (with_parents number step) ≡ bindings_of step
same-bindings number (Para n m j s k z place first second) = refl
same-bindings number (Refl n k bind) = refl
same-bindings number (Factor n j s k z bind) = refl
same-bindings number (Merge n j k bind) = refl
same-bindings number (Input place) = refl
same-bindings number (Negate place) = refl
same-bindings number (Clausify i) = refl
same-bindings number (Component name) = refl
same-bindings number (Opposite name) = refl
same-bindings number (Split parent definitions parts) = refl
same-bindings number (Chain numbers pivots) = refl

-- a conclusion from literals stays one: it is a clause's, and introduces no name
record StaysOne (step : Step) : Type 0 where
  pub is_clause : is_clause_step step ≡ true
  pub no_name : introduces_name step ≡ false

stays-one : (number : ℕ → ℕ) (step : Step) → is_on_literals step ≡ true → StaysOne (with_parents number step)
stays-one number (Para n m j s k z place first second) kind = record { is_clause = refl; no_name = refl }
stays-one number (Refl n k bind) kind = record { is_clause = refl; no_name = refl }
stays-one number (Factor n j s k z bind) kind = record { is_clause = refl; no_name = refl }
stays-one number (Merge n j k bind) kind = record { is_clause = refl; no_name = refl }
stays-one number (Input place) kind = absurd (true≢false (sym kind))
stays-one number (Negate place) kind = absurd (true≢false (sym kind))
stays-one number (Clausify i) kind = absurd (true≢false (sym kind))
stays-one number (Component name) kind = absurd (true≢false (sym kind))
stays-one number (Opposite name) kind = absurd (true≢false (sym kind))
stays-one number (Split parent definitions parts) kind = absurd (true≢false (sym kind))
stays-one number (Chain numbers pivots) kind = absurd (true≢false (sym kind))

-- a line of a clause is found by its number
pub parent-there :
    (lines : List Line) (n : ℕ) (line : Line)
    → slice_get lines n ≡ Some line → is_clause_step line.step ≡ true
    → line_parents lines n ≡ Some (record { clause = clause_of line.clause; introduces = introduces_name line.step })
parent-there lines n line there is_clause =
    ap (λ (o : Option Line). option_and_then line_parent o) there
    ∙ cond-true (is_clause_step line.step) (Some (record { clause = clause_of line.clause; introduces = introduces_name line.step })) None is_clause

-- ---- names for tags

-- a clause as its line has it
abbrev pub on_line : List (List TreeLiteral) → TreeClause → TreeClause
on_line parts c = renamed_by (line_names parts) c

pub line_names-keep : (parts : List (List TreeLiteral)) → KeepsSorting (line_names parts)
line_names-keep parts = record { one = line_names-sorted parts; joined = line_names-joined parts }

-- ---- what a record is to keep

module _ (usage : SymbolUse) (inputs : List TreeClause) where
  -- a registered clause's line has the clause
  pub record HasLine (parts : List (List TreeLiteral)) (lines : List Line) (x : Registered) : Type 0 where
    pub line : Line
    pub there : slice_get lines x.line ≡ Some line
    pub gives : clause_of line.clause ≡ on_line parts x.clause

  -- a propositional clause's line has the names
  pub record HasNames (lines : List Line) (p : PropositionalClause) : Type 0 where
    pub line : Line
    pub there : slice_get lines p.line ≡ Some line
    pub gives : clause_of line.clause ≡ under_names [] p.names

  -- the last line has the clause
  pub record EndsWith (lines : List Line) (c : TreeClause) : Type 0 where
    pub last : Line
    pub ends : EndsIn lines last
    pub gives : clause_of last.clause ≡ c

  pub record IsSound
      (parts : List (List TreeLiteral)) (registered : List Registered) (lines : List Line) (propositional : List PropositionalClause)
      (solver : Option SolverJob) (ended : Option Outcome) : Type 0 where
    pub whole : All (λ (x : Registered). IsWhole usage (length parts) x.clause) registered
    pub lined : (n : ℕ) (x : Registered) → slice_get registered n ≡ Some x → HasLine parts lines x
    pub made : ArePoolLines usage inputs lines
    pub named : AreNamed parts lines
    pub over_names : (n : ℕ) (p : PropositionalClause) → slice_get propositional n ≡ Some p → HasNames lines p
    pub handed_few : (s : SolverJob) → solver ≡ Some s → s.clauses ≤ length propositional
    -- where no part was met there is no propositional clause
    pub bare : parts ≡ [] → propositional ≡ []
    pub below : names_below (name_count parts) (map (λ (p : PropositionalClause). p.names) propositional) ≡ true
    pub refuted : ended ≡ Some Refuted → EndsWith lines empty_clause

  abbrev pub Sound : PoolRecord → Type 0
  Sound r = IsSound r.parts r.registered r.lines r.propositional r.solver r.ended

  -- lines that may be put after those of a record
  pub record GoOn (lines more : List Line) : Type 0 where
    pub comes : (k : ℕ) (line : Line) → slice_get more k ≡ Some line → ComesBy line.step inputs (lines ++ take k more) (clause_of line.clause)
    pub each : All (IsPoolLine usage) more
    pub symbols : HaveInputSymbols inputs more

  -- and introduce no names, and lead to a clause
  pub record Continue (parts : List (List TreeLiteral)) (lines more : List Line) (c : TreeClause) : Type 0 where
    pub whole : IsWhole usage (length parts) c
    pub go_on : GoOn lines more
    pub no_names : (n : ℕ) (line : Line) → slice_get more n ≡ Some line → introduces_name line.step ≡ false
    pub ends : EndsWith more (on_line parts c)

  pub ends_behind : (lines more : List Line) (c : TreeClause) → EndsWith more c → EndsWith (lines ++ more) c
  ends_behind lines more c is = record { last = is.last; ends = ends-behind lines more is.last is.ends; gives = is.gives }

  pub lines-joined : (lines more : List Line) → ArePoolLines usage inputs lines → GoOn lines more → ArePoolLines usage inputs (lines ++ more)
  lines-joined lines more made is = record {
    derived =
        λ n line there.
        ⊎_elim
        (λ (before : slice_get lines n ≡ Some line).
        let within : n < length lines = slice_get_within lines n line before in
        let below : n ≤ length lines = omega (arith, within) in
        subst (λ ls. ComesBy line.step inputs ls (clause_of line.clause)) (sym (take-append-le n lines more below)) (made.derived n line before))
        (λ (at : BehindAt lines more n line).
        subst (λ ls. ComesBy line.step inputs ls (clause_of line.clause))
        (sym (ap (λ m. take m (lines ++ more)) at.whole ∙ take-append-add lines more at.place)) (is.comes at.place line at.there))
        (get-cases lines more n line there);
    each = All-append (IsPoolLine usage) lines more made.each is.each;
    symbols =
        λ test truth pass.
        let before = made.symbols test truth pass in
        let after = is.symbols test truth pass in (
          list_all-joined (λ (l : Line). clause_symbols_pass test (clause_of l.clause)) lines more before.0 after.0,
          list_all-joined (λ (l : Line). binds_each (symbols_pass test) l.step) lines more before.1 after.1,
        );
  }

  pub not-refuted : (o : Option Outcome) → o ≡ None → o ≡ Some Refuted → ⊥
  not-refuted o is_open h = none-some Refuted (sym is_open ∙ h)

  -- ---- what is put into a record

  -- lines that introduce no names
  pub lines-sound :
      (r : PoolRecord) (more : List Line)
      → r.ended ≡ None → Sound r → GoOn r.lines more → ((n : ℕ) (line : Line) → slice_get more n ≡ Some line → introduces_name line.step ≡ false)
      → Sound (with_lines r more)
  lines-sound r more is_open sound is no_names = record {
    whole = sound.whole;
    lined =
        λ n x there.
        let at = sound.lined n x there in
        record { line = at.line; there = get-left r.lines more x.line at.line at.there; gives = at.gives };
    made = lines-joined r.lines more sound.made is;
    named = named-joined r.parts r.lines more no_names sound.named;
    over_names =
        λ n p there.
        let at = sound.over_names n p there in
        record { line = at.line; there = get-left r.lines more p.line at.line at.there; gives = at.gives };
    handed_few = sound.handed_few;
    bare = sound.bare;
    below = sound.below;
    refuted = λ h. absurd (not-refuted r.ended is_open h);
  }

  -- a clause that has its line
  pub registered-sound :
      (r : PoolRecord) (line : ℕ) (c : TreeClause)
      → Sound r → IsWhole usage (length r.parts) c → HasLine r.parts r.lines (record { clause = c; line = line }) → Sound (registered_by line c r)
  registered-sound r line c sound whole at = record {
    whole = All-push (λ (x : Registered). IsWhole usage (length r.parts) x.clause) r.registered (record { clause = c; line = line }) sound.whole whole;
    lined =
        λ n x there.
        ⊎_elim
        (λ (before : slice_get r.registered n ≡ Some x). sound.lined n x before)
        (λ (last : (n ≡ length r.registered) × (record { clause = c; line = line } ≡ x)). subst (HasLine r.parts r.lines) last.1 at)
        (get-end r.registered (record { clause = c; line = line }) x n there);
    made = sound.made;
    named = sound.named;
    over_names = sound.over_names;
    handed_few = sound.handed_few;
    bare = sound.bare;
    below = sound.below;
    refuted = sound.refuted;
  }

  -- a propositional clause, whose line is the last
  pub propositional-sound :
      (r : PoolRecord) (names : List NameLit)
      → Sound r → (r.parts ≡ [] → ⊥) → list_all (is_below (name_count r.parts)) names ≡ true → EndsWith r.lines (under_names [] names)
      → Sound (with_propositional names r)
  propositional-sound r names sound some_part below is = record {
    whole = sound.whole;
    lined = sound.lined;
    made = sound.made;
    named = sound.named;
    over_names =
        λ n p there.
        ⊎_elim
        (λ (before : slice_get r.propositional n ≡ Some p). sound.over_names n p before)
        (λ (last : (n ≡ length r.propositional) × (record { names = names; line = length r.lines - 1 } ≡ p)). subst (HasNames r.lines) last.1 new)
        (get-end r.propositional (record { names = names; line = length r.lines - 1 }) p n there);
    handed_few =
        λ s out.
        let few : s.clauses ≤ length r.propositional = sound.handed_few s out in
        let count : length (r.propositional ++ record { names = names; line = length r.lines - 1 } ∷ []) ≡ length r.propositional + 1 =
        length-append r.propositional (record { names = names; line = length r.lines - 1 } ∷ []) in
        omega (arith, few, count);
    bare = λ none. absurd (some_part none);
    below =
        ap (names_below (name_count r.parts)) (map-append (λ (p : PropositionalClause). p.names) r.propositional (record { names = names; line = length r.lines - 1 } ∷ []))
        ∙ list_all-joined (list_all (is_below (name_count r.parts))) (propositional_clauses r) (names ∷ []) sound.below
        (and_from (list_all (is_below (name_count r.parts)) names) true below refl);
    refuted = sound.refuted;
  }
    where
      new : HasNames r.lines (record { names = names; line = length r.lines - 1 })
      new = record { line = is.last; there = last-there r.lines is.last is.ends; gives = is.gives }

  pub continued-lines : (r : PoolRecord) (more : List Line) (c : TreeClause) → r.ended ≡ None → Sound r → Continue r.parts r.lines more c → Sound (with_lines r more)
  continued-lines r more c is_open sound is = lines-sound r more is_open sound is.go_on is.no_names

  -- the line of a clause to which lines lead
  pub continued-line :
      (r : PoolRecord) (more : List Line) (c : TreeClause)
      → Continue r.parts r.lines more c → HasLine r.parts (r.lines ++ more) (record { clause = c; line = length (r.lines ++ more) - 1 })
  continued-line r more c is =
      let ended = ends_behind r.lines more (on_line r.parts c) is.ends in
      record { line = ended.last; there = last-there (r.lines ++ more) ended.last ended.ends; gives = ended.gives }

  pub continued-sound :
      (r : PoolRecord) (more : List Line) (c : TreeClause)
      → r.ended ≡ None → Sound r → Continue r.parts r.lines more c → Sound (registered_last c (with_lines r more))
  continued-sound r more c is_open sound is =
      registered-sound (with_lines r more) (length (r.lines ++ more) - 1) c (continued-lines r more c is_open sound is) is.whole (continued-line r more c is)

  -- ---- the lines of a batch

  -- they go on from registered clauses, and lead to a clause that isn't too large
  pub record Arrives (registered : List Registered) (lines : List Line) : Type 0 where
    pub clauses : Lookup
    pub there : (n : ℕ) (c : TreeClause) → clauses n ≡ Some c → (x : Registered) × (slice_get registered n ≡ Some x) × (x.clause ≡ c)
    pub from : AreLinesFrom usage.is_predicate clauses lines
    pub small : (c : TreeClause) → result_of lines ≡ Some c → clause_size c ≤ MOST_SYMBOLS

  pub arrives-more : (xs ys : List Registered) (lines : List Line) → Arrives xs lines → Arrives (xs ++ ys) lines
  arrives-more xs ys lines is = record {
    clauses = is.clauses;
    there = λ n c h. let at = is.there n c h in (at.0, get-left xs ys n at.0 at.1, at.2);
    from = is.from;
    small = is.small;
  }

  module _ (r : PoolRecord) (sound : Sound r) (lines : List Line) (is : Arrives r.registered lines) where
    abbrev put : List Line
    put = map (pool_line r) lines

    abbrev number : ℕ → ℕ
    number = line_number r.registered (length r.lines)

    clause-formed : (n : ℕ) (c : TreeClause) → is.clauses n ≡ Some c → IsFormed usage (length r.parts) c
    clause-formed n c h =
        let at = is.there n c h in
        let whole = all-at (λ (x : Registered). IsWhole usage (length r.parts) x.clause) r.registered n at.0 sound.whole at.1 in
        subst (IsFormed usage (length r.parts)) at.2
        (record { literals = whole.formed; below = below-from (length r.parts) (at.0).clause.names whole.asserts.negative whole.met })

    line-is-formed : (k : ℕ) (l : Line) → slice_get lines k ≡ Some l → IsFormed usage (length r.parts) (clause_of l.clause)
    line-is-formed k l there = each-formed usage (length r.parts) is.clauses lines is.from clause-formed k l there

    kind : (k : ℕ) (l : Line) → slice_get lines k ≡ Some l → is_on_literals l.step ≡ true
    kind k l there = list_all-item (λ (m : Line). is_on_literals m.step) lines k l there is.from.lines_right.kinds

    -- a registered clause's line
    mapped-below :
        (k n : ℕ) (p : Parent)
        → nat_lt n CLAUSE_NUMBERS ≡ true → clause_parents is.clauses n ≡ Some p
        → (q : Parent) × (line_parents (r.lines ++ take k put) (number n) ≡ Some q) × (q.clause ≡ on_line r.parts p.clause)
    mapped-below k n p below there =
        option_map-some (λ c. let q : Parent = record { clause = c; introduces = false } in q) (is.clauses n) p there λ c c_is gives.
        let at = is.there n c c_is in
        let line = sound.lined n at.0 at.1 in
        let plain = all-at (IsPoolLine usage) r.lines at.0.line line.line sound.made.each line.there in
        let place : number n ≡ at.0.line =
        cond-true (nat_lt n CLAUSE_NUMBERS) (unwrap_or (option_map (λ (x : Registered). x.line) (slice_get r.registered n)) 0) (length r.lines + (n - CLAUSE_NUMBERS)) below
        ∙ ap (λ (o : Option Registered). unwrap_or (option_map (λ (x : Registered). x.line) o) 0) at.1 in (
          record { clause = clause_of line.line.clause; introduces = introduces_name line.line.step },
          ap (line_parents (r.lines ++ take k put)) place
              ∙ parent-there (r.lines ++ take k put) at.0.line line.line (get-left r.lines (take k put) at.0.line line.line line.there) plain.step,
          line.gives ∙ ap (on_line r.parts) (at.2 ∙ ap (λ (q : Parent). q.clause) gives),
        )

    -- a line of the batch
    mapped-above :
        (k n : ℕ) (p : Parent)
        → nat_lt n CLAUSE_NUMBERS ≡ false → line_parents (take k lines) (n - CLAUSE_NUMBERS) ≡ Some p
        → (q : Parent) × (line_parents (r.lines ++ take k put) (number n) ≡ Some q) × (q.clause ≡ on_line r.parts p.clause)
    mapped-above k n p above there =
        let at = parent_line lines k (n - CLAUSE_NUMBERS) p there in
        let place : number n ≡ length r.lines + (n - CLAUSE_NUMBERS) =
        cond-false (nat_lt n CLAUSE_NUMBERS) (unwrap_or (option_map (λ (x : Registered). x.line) (slice_get r.registered n)) 0) (length r.lines + (n - CLAUSE_NUMBERS)) above in
        let there_too : slice_get (r.lines ++ take k put) (number n) ≡ Some (pool_line r at.line) =
        get-right r.lines (take k put) (number n) (n - CLAUSE_NUMBERS) place ∙ taken k (n - CLAUSE_NUMBERS) at.line at.earlier at.there in (
          record { clause = clause_of (pool_line r at.line).clause; introduces = introduces_name (pool_line r at.line).step },
          parent-there (r.lines ++ take k put) (number n) (pool_line r at.line) there_too
              (stays-one number at.line.step (kind (n - CLAUSE_NUMBERS) at.line at.there)).is_clause,
          ap (λ (q : Parent). on_line r.parts q.clause) at.gives,
        )
      where
        taken : (k i : ℕ) (l : Line) → i < k → slice_get lines i ≡ Some l → slice_get (take k put) i ≡ Some (pool_line r l)
        taken k i l within there =
            ap (λ ls. slice_get ls i) (take-map (pool_line r) k lines) ∙ slice_get-map (pool_line r) (take k lines) i
            ∙ ap (λ (o : Option Line). option_map (pool_line r) o) (get-taken lines k i l within there)

    mapped : (k : ℕ) → AreMapped (line_names r.parts) number (continued CLAUSE_NUMBERS (clause_parents is.clauses) (take k lines)) (line_parents (r.lines ++ take k put))
    mapped k n p there =
        ⊎_elim
        (λ (below : nat_lt n CLAUSE_NUMBERS ≡ true). mapped-below k n p below (sym (cond-true (nat_lt n CLAUSE_NUMBERS) (clause_parents is.clauses n) (line_parents (take k lines) (n - CLAUSE_NUMBERS)) below) ∙ there))
        (λ (above : nat_lt n CLAUSE_NUMBERS ≡ false). mapped-above k n p above (sym (cond-false (nat_lt n CLAUSE_NUMBERS) (clause_parents is.clauses n) (line_parents (take k lines) (n - CLAUSE_NUMBERS)) above) ∙ there))
        (cases_Bool (nat_lt n CLAUSE_NUMBERS))

    -- each line comes by its step
    comes-one : (k : ℕ) (l : Line) → slice_get lines k ≡ Some l → ComesBy (pool_line r l).step inputs (r.lines ++ take k put) (clause_of (pool_line r l).clause)
    comes-one k l there =
        comes-mapped inputs (line_names r.parts) number (continued CLAUSE_NUMBERS (clause_parents is.clauses) (take k lines)) (r.lines ++ take k put) l.step
        (clause_of l.clause) (line_names-keep r.parts) (mapped k) (kind k l there) (is.from.lines_right.steps k l there)

    pool-one : (k : ℕ) (l : Line) → slice_get lines k ≡ Some l → IsPoolLine usage (pool_line r l)
    pool-one k l there =
        let formed = line-is-formed k l there in
        let numbered = all-at IsNumbered lines k l is.from.lines_right.numbered there in
        let fit : binds_each (is_function_term_of usage) l.step ≡ true =
        list_all-item (λ (m : Line). binds_each (is_function_term_of usage) m.step) lines k l there (lines-fit usage (length r.parts) is.clauses lines is.from clause-formed) in
        let small : has_small_terms l ≡ true = list_all-item has_small_terms lines k l there is.from.lines_right.small in
        let same : bindings_of (with_parents number l.step) ≡ bindings_of l.step = same-bindings number l.step in
        record {
          step = (stays-one number l.step (kind k l there)).is_clause;
          sorted = sorted_names-sorted (map (λ tag. opposite (name_of_tag r.parts tag)) (assertions l.clause.names));
          formed = formed.literals;
          terms = ap (list_all (list_all (is_function_term_of usage))) same ∙ fit;
          numbered = record {
            canonical = numbered.canonical;
            bindings =
                subst (λ bs. let order = distinct (clause_variables (clause_of l.clause) ++ flat_map (λ b. trees_variables (trees_of b)) bs) in order ≡ numbers_from 0 (length order))
                (sym same) numbered.bindings;
          };
          small = ap (λ bs. list_all has_small_sides (clause_of l.clause).literals && list_all (list_all is_small_term) bs) same ∙ small;
        }

    put-symbols : HaveInputSymbols inputs put
    put-symbols test truth pass =
        let before = sound.made.symbols test truth pass in
        let told : (n : ℕ) (c : TreeClause) → is.clauses n ≡ Some c → clause_symbols_pass test c ≡ true = λ n c h.
        let at = is.there n c h in
        let line = sound.lined n at.0 at.1 in
        ap (λ (d : TreeClause). clause_symbols_pass test d) (sym at.2) ∙ ap (λ (d : TreeClause). clause_symbols_pass test d) (sym line.gives)
        ∙ list_all-item (λ (l : Line). clause_symbols_pass test (clause_of l.clause)) r.lines at.0.line line.line line.there before.0 in
        let both = is.from.symbols test truth told in (
          list_all-map_from (λ (l : Line). clause_symbols_pass test (clause_of l.clause)) (λ (l : Line). clause_symbols_pass test (clause_of l.clause))
              (pool_line r) (λ l h. h) lines both.0,
          list_all-map_from (λ (l : Line). binds_each (symbols_pass test) l.step) (λ (l : Line). binds_each (symbols_pass test) l.step)
              (pool_line r) (λ l h. ap (list_all (list_all (symbols_pass test))) (same-bindings number l.step) ∙ h) lines both.1,
        )

    pub batch-continues : (c : TreeClause) → result_of lines ≡ Some c → Continue r.parts r.lines put c
    batch-continues c led =
        let formed = result-formed usage (length r.parts) is.clauses lines is.from clause-formed c led in
        record {
          whole = record {
            canonical = result-canonical usage (length r.parts) is.clauses lines is.from clause-formed c led;
            asserts =
                assertions-from (length r.parts) c.names formed.below
                (result-sorted usage (length r.parts) is.clauses lines is.from clause-formed c led);
            met = all-met (length r.parts) c.names formed.below;
            small = is.small c led;
            formed = formed.literals;
          };
          go_on = record {
            comes =
                λ k line there.
                let at = get-mapped (pool_line r) lines k line there in
                subst (λ (m : Line). ComesBy m.step inputs (r.lines ++ take k put) (clause_of m.clause)) at.gives (comes-one k at.item at.there);
            each =
                all-from (IsPoolLine usage) put
                (λ k line there. let at = get-mapped (pool_line r) lines k line there in subst (IsPoolLine usage) at.gives (pool-one k at.item at.there));
            symbols = put-symbols;
          };
          no_names =
              λ k line there.
              let at = get-mapped (pool_line r) lines k line there in
              subst (λ (m : Line). introduces_name m.step ≡ false) at.gives (stays-one number at.item.step (kind k at.item at.there)).no_name;
          ends =
              option_map-some (λ (l : Line). clause_of l.clause) (last_or None lines) c led λ line line_is gives.
              let ends = last-ends lines line line_is in
              record {
                last = pool_line r line;
                ends = record { before = map (pool_line r) ends.before; ends = ap (map (pool_line r)) ends.ends ∙ map-append (pool_line r) ends.before (line ∷ []) };
                gives = ap (on_line r.parts) gives;
              };
        }
