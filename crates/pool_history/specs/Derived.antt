-- Laws of a pool's lines, of every lawful history: a derivation from the inputs, and a refutation once the pool is refuted.
use Rattle.std.specs.Prelude.{◌≡◌, ℕ, Bool, ◌&&◌, List, [], Option, None, Some, option_map, slice_get, filter_map, All, IsTrue}
use Rattle.std.specs.List.{list_all, range_with_len}
use Rattle.fol_base.specs.Tree.{Tree, true_symbol}
use Rattle.fol_base.specs.Clause.{TreeClause}
use Rattle.fol_base.specs.Kind.{is_function_term}
use Rattle.fol_base.specs.Literal.{clause_of}
use Rattle.fol_base.specs.WellFormed.{SymbolUse, has_arities, are_literals_of}
use Rattle.kernel_steps.specs.Names.{are_sorted}
use Rattle.kernel_steps.specs.Derivation.{is_clause_step, under_names, IsDerivation, IsRefutation}
use Rattle.kernel_steps.specs.Lines.{has_small_terms, IsNumbered}
use Rattle.kernel_steps.specs.Soundness.{binds_each}
use Rattle.kernel_steps.specs.Symbols.{clause_symbols_pass, bound_symbols_pass}
use Rattle.kernel_steps.specs.declared.step.Step.{Step}
use Rattle.kernel_steps.specs.declared.step.Step.TheVariants.{Component}
use Rattle.kernel_steps.specs.declared.step.Line.{Line}
use Rattle.pool_history.specs.Tags.{name_count, line_names}
use Rattle.pool_history.specs.Record.{Registered, PropositionalClause}
use Rattle.pool_history.specs.Replay.{Origin, replay}
use Rattle.pool_history.specs.Lawful.{IsLawful}
use Rattle.pool_history.specs.Inputs.{AreInputs, IsUseOf}
use Rattle.pool_history.specs.declared.event.Event.{Event}
use Rattle.pool_history.specs.declared.outcome.Outcome.TheVariants.{Refuted}

-- a function term, each symbol with its number of arguments
abbrev pub is_function_term_of : SymbolUse → Tree → Bool
is_function_term_of usage t = is_function_term usage.is_predicate t && has_arities usage.arity t

-- A line of a pool, of any kind but those of formulas: it is canonical and well-formed, its names are sorted, and it binds small function terms,
-- whose own variables have the next numbers.
pub record IsPoolLine (usage : SymbolUse) (l : Line) : Type 0 where
  pub step : IsTrue (is_clause_step l.step)
  pub sorted : IsTrue (are_sorted (clause_of l.clause).names)
  pub formed : IsTrue (are_literals_of usage (clause_of l.clause).literals)
  pub terms : IsTrue (binds_each (is_function_term_of usage) l.step)
  pub numbered : IsNumbered l
  pub small : IsTrue (has_small_terms l)

-- what the symbols of the inputs and `$true` pass, those of the lines pass, bindings included: they have no others
abbrev pub HaveInputSymbols : List TreeClause → List Line → Type 0
HaveInputSymbols inputs lines =
    (test : ℕ → ℕ → Bool)
    → IsTrue (test true_symbol 0) → IsTrue (list_all (clause_symbols_pass test) inputs)
    → IsTrue (list_all (λ (l : Line). clause_symbols_pass test (clause_of l.clause)) lines) × IsTrue (bound_symbols_pass test lines)

-- the names that component lines introduce, in their order
abbrev pub component_name : Step → Option ℕ
component_name (Component name) = Some name
component_name step = None

abbrev pub component_names : List Line → List ℕ
component_names lines = filter_map (λ (l : Line). component_name l.step) lines

pub record ArePoolLines (usage : SymbolUse) (inputs : List TreeClause) (lines : List Line) : Type 0 where
  pub derived : IsDerivation inputs lines
  pub each : All (IsPoolLine usage) lines
  pub symbols : HaveInputSymbols inputs lines

-- ---- laws

abbrev pub LinesAreDerived : Type 0
LinesAreDerived =
    (usage : SymbolUse) (origin : Origin) (history : List Event)
    → AreInputs origin.inputs → IsUseOf origin.inputs usage → IsLawful usage.is_predicate origin history
    → ArePoolLines usage origin.inputs (replay origin history).lines

-- the clause on the line of a number
abbrev pub clause_on : List Line → ℕ → Option TreeClause
clause_on lines n = option_map (λ (l : Line). clause_of l.clause) (slice_get lines n)

-- The line of a registered clause has its literals, and lists the opposite of the signed name of each of its tags. The line of a propositional
-- clause has its names.
abbrev pub ClausesHaveLines : Type 0
ClausesHaveLines =
    (usage : SymbolUse) (origin : Origin) (history : List Event)
    → AreInputs origin.inputs → IsUseOf origin.inputs usage → IsLawful usage.is_predicate origin history
    → let r = replay origin history in
    All (λ (c : Registered). clause_on r.lines c.line ≡ Some (record c.clause { names = line_names r.parts c.clause.names })) r.registered
    × All (λ (c : PropositionalClause). clause_on r.lines c.line ≡ Some (under_names [] c.names)) r.propositional

-- The component lines introduce the names from 0 on, in order, each once.
abbrev pub NamesRise : Type 0
NamesRise =
    (usage : SymbolUse) (origin : Origin) (history : List Event)
    → AreInputs origin.inputs → IsUseOf origin.inputs usage → IsLawful usage.is_predicate origin history
    → let r = replay origin history in component_names r.lines ≡ range_with_len 0 (name_count r.parts)

-- once the pool is refuted, its last line is the empty clause
abbrev pub RefutedIsRefutation : Type 0
RefutedIsRefutation =
    (usage : SymbolUse) (origin : Origin) (history : List Event)
    → AreInputs origin.inputs → IsUseOf origin.inputs usage → IsLawful usage.is_predicate origin history
    → (replay origin history).ended ≡ Some Refuted → IsRefutation origin.inputs (replay origin history).lines
