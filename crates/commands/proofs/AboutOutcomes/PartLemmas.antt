-- The lines of a refuted pool that began with a part of a problem's form: with the numbers that clausify steps have in the form they are a
-- refutation of the problem that can be written.
use Rattle.std.proofs.Common.{◌≡◌, ℕ, Bool, true, List, inr, refl, ap, sym, ◌∙◌, subst}
use Rattle.std.specs.Prelude.{All, Some}
use Rattle.std.specs.List.{list_all}
use Rattle.std.proofs.lemmas.List.Elements.{All-map, All-weaker}
use Rattle.fol_base.specs.Clause.{TreeLiteral, TreeClause}
use Rattle.fol_base.specs.Literal.{clause_of}
use Rattle.fol_base.specs.Tree.{Tree}
use Rattle.fol_base.specs.WellFormed.{SymbolUse}
use Rattle.fol_base.specs.declared.clause.Clause.{Clause}
use Rattle.fol_base.proofs.WorkedExamples.TestLemmas.{list_all-map_from}
use Rattle.tptp_tree.specs.declared.problem.Annotated.{Annotated}
use Rattle.signature.specs.Form.{clausal_form}
use Rattle.kernel_steps.specs.Derivation.{IsDerivation, IsRefutation}
use Rattle.kernel_steps.specs.Soundness.{binds_each}
use Rattle.kernel_steps.specs.Symbols.{symbols_pass, clause_symbols_pass, bound_symbols_pass}
use Rattle.kernel_steps.specs.declared.step.Step.{Step}
use Rattle.kernel_steps.specs.declared.step.Step.TheVariants.{Clausify, Component}
use Rattle.kernel_steps.specs.declared.step.Line.{Line}
use Rattle.clausal_form.specs.FormLaws.{use_of}
use Rattle.axiom_filter.specs.Restriction.{is_among, reindexed_step, reindexed_line, reindexed, steps_of, NameEntries}
use Rattle.axiom_filter.proofs.AboutParts.RestrictionLemmas.{line-at, part-passes, parts_derive, reindexed-same}
use Rattle.split_parts.specs.SignedNames.{named}
use Rattle.pool_history.specs.Derived.{IsPoolLine, ArePoolLines, HaveInputSymbols}
use Rattle.pool_history.specs.Inputs.{AreInputs, IsUseOf, IsHistoryOf}
use Rattle.pool_history.specs.Lawful.{IsLawful}
use Rattle.pool_history.specs.Outcomes.{outcome_of}
use Rattle.pool_history.specs.Record.{PoolRecord}
use Rattle.pool_history.specs.Replay.{Origin, replay}
use Rattle.pool_history.specs.Tags.{name_count}
use Rattle.pool_history.specs.declared.event.Event.{Event}
use Rattle.pool_history.specs.declared.outcome.Outcome.TheVariants.{Refuted}
use Rattle.pool_history.proofs.AboutLines.BeginningLemmas.{lines_are_derived, names_rise, refuted_is_refutation, replay-sound}
use Rattle.pool_writer.specs.Bodies.{HasBody, HaveBodies, NamesRise}
use Rattle.pool_writer.specs.Refuted.{IsWritableRefutation}
use Rattle.command_reports.specs.Parts.{part_clauses, part_numbers, IsNumberedPart}
use Rattle.commands.proofs.AboutOutcomes.HistoryLemmas.{refuted-ended}
use Rattle.commands.proofs.AboutOutcomes.InputLemmas.{inputs-used}
use Rattle.commands.proofs.AboutOutcomes.LineLemmas.{pool-bodies, names-rise, pool-readable}

-- ---- lines with other numbers for their clausify steps

same-binds : (test : Tree → Bool) (numbers : List ℕ) (step : Step) → binds_each test (reindexed_step numbers step) ≡ binds_each test step
same-binds test numbers step = reindexed-same (binds_each test) (λ i j. refl) numbers step

pool-step :
    (usage : SymbolUse) (numbers : List ℕ) (step : Step) (clause : Clause)
    → IsPoolLine usage (record { step = step; clause = clause }) → IsPoolLine usage (record { step = reindexed_step numbers step; clause = clause })
pool-step usage numbers (Clausify i) clause is = record {
  step = is.step;
  sorted = is.sorted;
  formed = is.formed;
  terms = is.terms;
  numbered = record { canonical = (is.numbered).canonical; bindings = (is.numbered).bindings };
  small = is.small;
}
pool-step usage numbers _ clause is = is

pool-lines : (usage : SymbolUse) (numbers : List ℕ) (lines : List Line) → All (IsPoolLine usage) lines → All (IsPoolLine usage) (reindexed numbers lines)
pool-lines usage numbers lines are =
    All-map (IsPoolLine usage) (reindexed_line numbers) lines
    (All-weaker (IsPoolLine usage) (λ (l : Line). IsPoolLine usage (reindexed_line numbers l)) (λ l is. pool-step usage numbers l.step l.clause is) lines are)

same-symbols :
    (test : ℕ → ℕ → Bool) (numbers : List ℕ) (lines : List Line)
    → (list_all (λ (l : Line). clause_symbols_pass test (clause_of l.clause)) lines ≡ true) × (bound_symbols_pass test lines ≡ true)
    → (list_all (λ (l : Line). clause_symbols_pass test (clause_of l.clause)) (reindexed numbers lines) ≡ true)
    × (bound_symbols_pass test (reindexed numbers lines) ≡ true)
same-symbols test numbers lines pass =
    let of_clause : Line → Bool = λ (l : Line). clause_symbols_pass test (clause_of l.clause) in
    let of_step : Line → Bool = λ (l : Line). binds_each (symbols_pass test) l.step in (
      list_all-map_from of_clause of_clause (reindexed_line numbers) (λ l h. h) lines pass.0,
      list_all-map_from of_step of_step (reindexed_line numbers) (λ l h. same-binds (symbols_pass test) numbers l.step ∙ h) lines pass.1,
    )

has-body : (bodies : List (List TreeLiteral)) (numbers : List ℕ) (step : Step) (c : TreeClause) → HasBody bodies step c → HasBody bodies (reindexed_step numbers step) c
has-body bodies numbers (Clausify i) c has = tt
has-body bodies numbers _ c has = has

have-bodies : (bodies : List (List TreeLiteral)) (numbers : List ℕ) (lines : List Line) → HaveBodies bodies lines → HaveBodies bodies (reindexed numbers lines)
have-bodies bodies numbers lines have n line there =
    let from = line-at numbers lines n line there in
    subst (λ (l : Line). HasBody bodies l.step (clause_of l.clause)) from.2
    (has-body bodies numbers (from.0).step (clause_of (from.0).clause) (have n from.0 from.1))

component-before : (numbers : List ℕ) (name : ℕ) (step : Step) → reindexed_step numbers step ≡ Component name → step ≡ Component name
component-before numbers name (Clausify i) is = cc
component-before numbers name _ is = is

rise-still : (numbers : List ℕ) (lines : List Line) → NamesRise lines → NamesRise (reindexed numbers lines)
rise-still numbers lines rise n m name greater line later there later_there less is later_is =
    let one = line-at numbers lines n line there in
    let two = line-at numbers lines m later later_there in
    rise n m name greater one.0 two.0 one.1 two.1 less
    (component-before numbers name (one.0).step (ap (λ (l : Line). l.step) one.2 ∙ is))
    (component-before numbers greater (two.0).step (ap (λ (l : Line). l.step) two.2 ∙ later_is))

-- ---- the pool

module _
    (fs : List Annotated) (origin : Origin) (history : List Event) (numbers : List ℕ) (part : IsNumberedPart fs origin.inputs numbers)
    (inputs : AreInputs origin.inputs) (of_inputs : IsHistoryOf origin history)
  where
    abbrev usage : SymbolUse
    usage = use_of (clausal_form fs).symbols

    abbrev r : PoolRecord
    r = replay origin history

    abbrev form : List TreeClause
    form = (clausal_form fs).clauses

    abbrev in_form : List Line
    in_form = reindexed (part_numbers part.kept fs) r.lines

    used : IsUseOf origin.inputs usage
    used = inputs-used fs origin.inputs (inr (part.kept, part.inputs_are))

    lawful : IsLawful usage.is_predicate origin history
    lawful = of_inputs usage used

    of_pool : ArePoolLines usage origin.inputs r.lines
    of_pool = lines_are_derived usage origin history inputs used lawful

    derived : IsDerivation (part_clauses part.kept fs) r.lines
    derived = subst (λ (cs : List TreeClause). IsDerivation cs r.lines) part.inputs_are of_pool.derived

    symbols : HaveInputSymbols form in_form
    symbols test truth pass =
        same-symbols test (part_numbers part.kept fs) r.lines
        (of_pool.symbols test truth
        (subst (λ cs. list_all (clause_symbols_pass test) cs ≡ true) (sym part.inputs_are)
        (part-passes (clause_symbols_pass test) (is_among part.kept) (clausal_form fs).origins form pass)))

    of_form : ArePoolLines usage form in_form
    of_form = record {
      derived = parts_derive.derivations part.kept (clausal_form fs).origins form r.lines derived;
      each = pool-lines usage (part_numbers part.kept fs) r.lines of_pool.each;
      symbols = symbols;
    }

    refutes : outcome_of r ≡ Some Refuted → IsRefutation form in_form
    refutes stands =
        parts_derive.refutations part.kept (clausal_form fs).origins form r.lines
        (subst (λ (cs : List TreeClause). IsRefutation cs r.lines) part.inputs_are
        (refuted_is_refutation usage origin history inputs used lawful (refuted-ended origin history stands)))

    writable : outcome_of r ≡ Some Refuted → IsWritableRefutation fs (named r.parts) in_form
    writable stands = record {
      refutes = refutes stands;
      readable = pool-readable fs in_form of_form;
      bodies_are =
          have-bodies (named r.parts) (part_numbers part.kept fs) r.lines
          (pool-bodies r.parts r.lines (replay-sound usage origin history inputs used lawful).named.table);
      rise =
          rise-still (part_numbers part.kept fs) r.lines
          (names-rise r.lines 0 (name_count r.parts) (names_rise usage origin history inputs used lawful));
    }

    -- each clausify step names one of the numbers
    pub part-entries : NameEntries numbers (steps_of r.lines)
    part-entries =
        subst (λ (ns : List ℕ). NameEntries ns (steps_of r.lines)) (sym part.numbers_are)
        (parts_derive.entries part.kept (clausal_form fs).origins form r.lines derived)

    pub part-refutation : outcome_of r ≡ Some Refuted → IsWritableRefutation fs (named r.parts) (reindexed numbers r.lines)
    part-refutation stands =
        subst (λ (ns : List ℕ). IsWritableRefutation fs (named r.parts) (reindexed ns r.lines)) (sym part.numbers_are) (writable stands)
