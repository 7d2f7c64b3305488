-- What becomes of the conclusion of an inference.
use Rattle.std.proofs.Common.{◌≡◌, ℕ, ◌+◌, ◌≤◌, Bool, true, false, List, [], ◌∷◌, ◌++◌, append-nil, append_assoc, Some, None, refl, ap, sym, ◌∙◌, subst, ⊎_elim, arith}
use Rattle.std.specs.Prelude.{flat_map, length, sum_by, nat_lt, ◌||◌}
use Rattle.std.specs.List.{list_all}
use Rattle.std.proofs.lemmas.Bool.{and_from, lt-ltb, le-leb, ltb-false, true≢false}
use Rattle.std.proofs.lemmas.List.Elements.{All-nil}
use Rattle.std.proofs.lemmas.List.Sums.{sum_by-cons}
use Rattle.std.proofs.lemmas.Option.{none-some}
use Rattle.fol_base.specs.Tree.{Tree, true_symbol, tree_size, trees_of, trees_variables, tree_variables}
use Rattle.fol_base.specs.Canonical.{distinct, numbers_from}
use Rattle.fol_base.specs.Clause.{TreeLiteral, TreeClause, clause_size, clause_variables, literal_size}
use Rattle.fol_base.specs.Literal.{clause_of}
use Rattle.fol_base.specs.Selection.{SelectionMode}
use Rattle.fol_base.specs.Subsumption.{Subsumes}
use Rattle.fol_base.specs.WellFormed.{SymbolUse}
use Rattle.fol_base.specs.declared.clause.Clause.{Clause}
use Rattle.fol_base.specs.declared.limits.TheConstants.{MOST_SYMBOLS}
use Rattle.kernel_steps.specs.Names.{are_sorted}
use Rattle.kernel_steps.specs.Inference.{is_tautology}
use Rattle.kernel_steps.specs.Lines.{AreLines, IsNumbered, clause_parents, has_small_sides, has_small_terms, is_on_literals, is_small_term, key_of}
use Rattle.kernel_steps.specs.Parents.{Parent}
use Rattle.kernel_steps.specs.Sized.{IsSizedInference, is_large}
use Rattle.kernel_steps.specs.Soundness.{bindings_of, binds_each}
use Rattle.kernel_steps.specs.Symbols.{clause_symbols_pass, bound_symbols_pass, symbols_pass}
use Rattle.kernel_steps.specs.Derivation.{reduced_parents}
use Rattle.kernel_steps.specs.declared.key.Key.{Key}
use Rattle.kernel_steps.specs.declared.key.Key.TheVariants.{Para, Refl, Factor, Replaced}
use Rattle.kernel_steps.specs.declared.step.TheConstants.{CLAUSE_NUMBERS}
use Rattle.kernel_steps.specs.declared.step.Line.{Line}
use Rattle.kernel_steps.specs.declared.step.Reduced.{Reduced}
use Rattle.kernel_steps.specs.declared.step.Step.{Step}
use Rattle.kernel_steps.specs.declared.step.Step.TheVariants as step
use Rattle.kernel_steps.proofs.AboutCalls.SymbolLemmas.{conclusions_keep_symbols}
use Rattle.literal_selection.specs.Mode.{mode_of}
use Rattle.fol_base.proofs.WorkedExamples.TestLemmas.{option_map-some}
use Rattle.eq_rules.specs.Inferences.{IsConcluded, IsPremise, bindings_of as bound_of_step}
use Rattle.bank_clause.specs.declared.member.Member.{Member}
use Rattle.reduced_clause.specs.Reduced.{IsReduced}
use Rattle.demodulate.specs.Simplified.{IsSimplified}
use Rattle.demodulate.specs.declared.simplifying.Simplified.{Simplified}
use Rattle.demodulate.specs.declared.simplifying.Simplified.TheVariants as outcome
use Rattle.pool_history.specs.Record.{GivenJob}
use Rattle.pool_history.specs.Reduction.{AreLinesFrom, Lookup, handed_back}
use Rattle.pool_history.specs.Batches.{IsRightFate, is_told}
use Rattle.pool_history.specs.declared.options.Options.{Options}
use Rattle.pool_history.specs.declared.batch.Fate.{Fate}
use Rattle.pool_history.proofs.AboutLines.AssertionLemmas.{below-from}
use Rattle.pool_history.proofs.AboutLines.FormedLemmas.{IsFormed, result-formed, result-sorted}
use Rattle.given_work.specs.Meeting.{AreEntriesOf, IsEntryOf, IsFateBy}
use Rattle.eq_rules.specs.declared.inference.Inference.{Inference}
use Rattle.pool_history.specs.declared.batch.Entry.{Entry}
use Rattle.given_work.specs.Telling.{AreToldSets, told_of}
use Rattle.given_work.proofs.AboutBatches.BatchLines.{all-pass, inference-lines}
use Rattle.given_work.proofs.AboutBatches.GoingLemmas.{irreducible-told, members-formed, sets-formed}
use Rattle.given_work.proofs.AboutMeeting.InferenceLemmas.{named-kind}
use Rattle.given_work.proofs.AboutBatches.Justifiers.{result-is}

-- ---- sizes

large-false : (a b : Bool) → (a || b) ≡ false → b ≡ false
large-false true b h = absurd (true≢false h)
large-false false b h = h

inferred-size : (p : ℕ → Bool) (mode : SelectionMode) (clauses : Lookup) (key : Key) (c : TreeClause) → IsSizedInference p mode clauses key c false → is_large c ≡ false
inferred-size p mode clauses (Para first from from_side second into into_side place) c h =
    large-false _ (is_large c) (large-false _ _ h.infers.size)
inferred-size p mode clauses (Refl clause literal) c h = large-false _ (is_large c) h.infers.size
inferred-size p mode clauses (Factor clause becomes becomes_side other other_side) c h = large-false _ (is_large c) h.infers.size
inferred-size p mode clauses (Replaced clause) c h = absurd h

small-sides : (ls : List TreeLiteral) → sum_by literal_size ls ≤ MOST_SYMBOLS → list_all has_small_sides ls ≡ true
small-sides [] small = refl
small-sides (l ∷ ls) small =
    let whole = sum_by-cons literal_size l ls in
    and_from (has_small_sides l) (list_all has_small_sides ls)
    (and_from (is_small_term l.left) (is_small_term l.right)
    (le-leb (tree_size l.left) MOST_SYMBOLS (omega (arith, whole, small))) (le-leb (tree_size l.right) MOST_SYMBOLS (omega (arith, whole, small))))
    (small-sides ls (omega (arith, whole, small)))

-- ---- variables

appended : (xs ys : List Tree) → trees_variables (trees_of (xs ++ ys)) ≡ trees_variables (trees_of xs) ++ trees_variables (trees_of ys)
appended [] ys = refl
appended (x ∷ xs) ys = ap (λ vs. tree_variables x ++ vs) (appended xs ys) ∙ sym (append_assoc (tree_variables x) (trees_variables (trees_of xs)) (trees_variables (trees_of ys)))

bound-variables :
    (s : Step) (key : Key) → key_of s ≡ Some key
    → flat_map (λ b. trees_variables (trees_of b)) (bindings_of s) ≡ trees_variables (trees_of (bound_of_step s))
bound-variables (step.Para first second from from_side into into_side place first_bind second_bind) key h =
    ap (λ vs. trees_variables (trees_of first_bind) ++ vs) (append-nil (trees_variables (trees_of second_bind))) ∙ sym (appended first_bind second_bind)
bound-variables (step.Refl parent literal bind) key h = append-nil (trees_variables (trees_of bind))
bound-variables (step.Factor parent becomes becomes_side other other_side bind) key h = append-nil (trees_variables (trees_of bind))
bound-variables _ key h = absurd (none-some key h)

-- ---- premises are told

premise-told : (told : Lookup) (key : Key) (d : TreeClause) → IsPremise told key d → (n : ℕ) × (told n ≡ Some d)
premise-told told (Para first from from_side second into into_side place) d h = ⊎_elim (λ e. (first, e)) (λ e. (second, e)) h
premise-told told (Refl clause literal) d h = (clause, h)
premise-told told (Factor clause becomes becomes_side other other_side) d h = (clause, h)
premise-told told (Replaced clause) d h = absurd h

module _
    (usage : SymbolUse) (mode : SelectionMode) (clauses : Lookup) (j : GivenJob) (es us ms : List Member)
    (sets : AreToldSets usage clauses j es us ms) (key : Key) (by : Step) (clause : Clause)
    (it : IsConcluded usage.is_predicate mode (told_of clauses j) key by (clause_of clause)) where
  abbrev told : Lookup
  told = told_of clauses j

  abbrev first : Line
  first = record { step = by; clause = clause }

  few : (n : ℕ) (d : TreeClause) → told n ≡ Some d → nat_lt n CLAUSE_NUMBERS ≡ true
  few n d there = lt-ltb n CLAUSE_NUMBERS (sets.numbered n d there)

  kind : is_on_literals by ≡ true
  kind = named-kind by key it.of_key

  pub conclusion-small : clause_size (clause_of clause) ≤ MOST_SYMBOLS
  conclusion-small = ltb-false MOST_SYMBOLS (clause_size (clause_of clause)) (inferred-size usage.is_predicate mode told key (clause_of clause) it.inferred)

  first-numbered : IsNumbered first
  first-numbered = record {
    canonical = it.numbered;
    bindings =
        subst (λ vs. let order = distinct (clause_variables (clause_of clause) ++ vs) in order ≡ numbers_from 0 (length order))
        (sym (bound-variables by key it.of_key)) it.bindings_numbered;
  }

  first-small : has_small_terms first ≡ true
  first-small = and_from (list_all has_small_sides (clause_of clause).literals) (binds_each is_small_term by) (small-sides (clause_of clause).literals conclusion-small) it.small

  -- ---- lines

  first-bound : (test : ℕ → ℕ → Bool) → ((n : ℕ) (d : TreeClause) → told n ≡ Some d → clause_symbols_pass test d ≡ true) → binds_each (symbols_pass test) by ≡ true
  first-bound test passes = it.symbols test λ d premise. let at = premise-told told key d premise in passes at.0 d at.1

  conclusion-passes : (test : ℕ → ℕ → Bool) → ((n : ℕ) (d : TreeClause) → told n ≡ Some d → clause_symbols_pass test d ≡ true) → clause_symbols_pass test (clause_of clause) ≡ true
  conclusion-passes test passes =
      conclusions_keep_symbols test by (clause_parents told) (clause_of clause)
      (λ n q h.
      option_map-some (λ d. let r : Parent = record { clause = d; introduces = false } in r) (told n) q h λ d there is.
      ap (λ (r : Parent). clause_symbols_pass test r.clause) (sym is) ∙ passes n d there)
      (first-bound test passes) it.right_step

  lines-from :
      (lines : List Line)
      → AreLines usage.is_predicate (CLAUSE_NUMBERS + 1) (reduced_parents (clause_parents told) (clause_of clause)) lines
      → ((test : ℕ → ℕ → Bool) → test true_symbol 0 ≡ true → ((n : ℕ) (d : TreeClause) → told n ≡ Some d → clause_symbols_pass test d ≡ true) → bound_symbols_pass test lines ≡ true)
      → AreLinesFrom usage.is_predicate told (first ∷ lines)
  lines-from lines are bound =
      let right = inference-lines told first lines few kind usage.is_predicate it.right_step first-numbered it.terms first-small are in
      record {
        lines_right = right;
        symbols = λ test truth passes.
            let all = and_from (binds_each (symbols_pass test) by) (bound_symbols_pass test lines) (first-bound test passes) (bound test truth passes) in
            (all-pass told (first ∷ lines) test right.steps passes all, all);
      }

  reduced-lines : (r : Reduced) → IsReduced usage.is_predicate told (clause_of clause) r → AreLinesFrom usage.is_predicate told (first ∷ r.lines)
  reduced-lines r reduced =
      lines-from r.lines reduced.are_lines λ test truth passes.
      reduced.symbols test truth (conclusion-passes test passes) λ d one. passes one.number d one.there

  no-lines : AreLines usage.is_predicate (CLAUSE_NUMBERS + 1) (reduced_parents (clause_parents told) (clause_of clause)) []
  no-lines = record { kinds = refl; steps = λ n l at. absurd (none-some l at); numbered = All-nil IsNumbered; terms = refl; small = refl }

  whole-formed : (n : ℕ) (d : TreeClause) → told n ≡ Some d → IsFormed usage sets.parts d
  whole-formed n d there =
      let whole = sets.whole n d there in
      record { literals = whole.formed; below = below-from sets.parts d.names whole.asserts.negative whole.met }

  first-lines : AreLinesFrom usage.is_predicate told (first ∷ [])
  first-lines = lines-from [] no-lines (λ test truth passes. refl)

  conclusion-formed : IsFormed usage sets.parts (clause_of clause)
  conclusion-formed = result-formed usage sets.parts told (first ∷ []) first-lines whole-formed (clause_of clause) refl

  pub conclusion-sorted : are_sorted (clause_of clause).names ≡ true
  conclusion-sorted = result-sorted usage sets.parts told (first ∷ []) first-lines whole-formed (clause_of clause) refl

  -- ---- what becomes of it

  module _ (options : Options) (split : Bool) (splits : options.split ≡ split) (mode_is : mode ≡ mode_of options.select) where
    abbrev Right : Fate → Type 0
    Right fate = IsRightFate usage.is_predicate options clauses j key fate

    inferred : IsSizedInference usage.is_predicate (mode_of options.select) told key (clause_of clause) false
    inferred = subst (λ (m : SelectionMode). IsSizedInference usage.is_predicate m told key (clause_of clause) false) mode_is it.inferred

    pub outcome-right :
        (o : Simplified) → IsSimplified es us ms None (clause_of clause) o → (fate : Fate) → IsFateBy split by clause o fate → Right fate
    outcome-right outcome.Tautology simplified fate is =
        let out = simplified usage told (sets-formed usage clauses j es us ms sets (clause_of clause) conclusion-formed.literals) (members-formed usage clauses j es us ms sets) sets.of_clauses sets.has_all in
        subst Right (sym is) (record {
          conclusion = clause_of clause;
          inferred = inferred;
          moves = out.leads.moves;
          moved = out.leads.are_moves;
          redundant = ap is_tautology out.leads.ends ∙ out.tautology;
        })
    outcome-right (outcome.Subsumed n) simplified fate is =
        let out = simplified usage told (sets-formed usage clauses j es us ms sets (clause_of clause) conclusion-formed.literals) (members-formed usage clauses j es us ms sets) sets.of_clauses sets.has_all in
        subst Right (sym is) (record {
          conclusion = clause_of clause;
          inferred = inferred;
          moves = out.leads.moves;
          moved = out.leads.are_moves;
          redundant =
              record {
                clause = out.by;
                there = out.there;
                infers = subst (λ (d : TreeClause). Subsumes usage.is_predicate out.by d) (sym out.leads.ends) out.subsumes;
              };
        })
    outcome-right (outcome.Reduced r) simplified fate is =
        let out = simplified usage told (sets-formed usage clauses j es us ms sets (clause_of clause) conclusion-formed.literals) (members-formed usage clauses j es us ms sets) sets.of_clauses sets.has_all in
        let reduced : IsReduced usage.is_predicate told (clause_of clause) r = out.0 in
        subst Right (sym is.is) (record {
          first = first;
          others = r.lines;
          begins = refl;
          of_key = it.of_key;
          inferred = inferred;
          are_lines = reduced-lines r reduced;
          moves = reduced.moves;
          result = clause_of r.clause;
          reduced =
              record {
                moved = reduced.moved;
                ends = sym reduced.moved_to;
                led = result-is (clause_of clause) first r.lines ∙ ap Some (sym reduced.ends);
              };
          irreducible = irreducible-told usage.is_predicate (is_told j) clauses (clause_of r.clause) out.1;
          given = is.given ∙ sym (ap (λ (b : Bool). handed_back b (clause_of r.clause)) splits);
        })

-- ---- lists of entries

pub entries-push :
    (split : Bool) (es us ms : List Member) (done : List Inference) (entries : List Entry) (from : Inference) (e : Entry)
    → AreEntriesOf split es us ms done entries → IsEntryOf split es us ms from e → AreEntriesOf split es us ms (done ++ from ∷ []) (entries ++ e ∷ [])
entries-push split es us ms [] entries from e none entry =
    (e, [], ap (λ (xs : List Entry). xs ++ e ∷ []) none, entry, refl)
entries-push split es us ms (d ∷ ds) entries from e some entry =
    let rest = entries-push split es us ms ds some.1 from e some.4 entry in
    (some.0, some.1 ++ e ∷ [], ap (λ (xs : List Entry). xs ++ e ∷ []) some.2, some.3, rest)

-- one inference more has its entry
pub entries-more :
    (split : Bool) (es us ms : List Member) (found left now : List Inference) (entries after : List Entry) (from : Inference) (e : Entry)
    → (done : List Inference) × (found ≡ done ++ left) × AreEntriesOf split es us ms done entries
    → left ≡ from ∷ now → after ≡ entries ++ e ∷ [] → IsEntryOf split es us ms from e
    → (done : List Inference) × (found ≡ done ++ now) × AreEntriesOf split es us ms done after
entries-more split es us ms found left now entries after from e was next pushed entry = (
  was.0 ++ from ∷ [],
  was.1 ∙ ap (λ xs. was.0 ++ xs) next ∙ sym (append_assoc was.0 (from ∷ []) now),
  subst (λ (xs : List Entry). AreEntriesOf split es us ms (was.0 ++ from ∷ []) xs) (sym pushed) (entries-push split es us ms was.0 entries from e was.2 entry),
)
