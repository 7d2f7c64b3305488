-- Laws of propositional clauses and their models, of every lawful history where nothing else is said.
use Rattle.std.specs.Prelude.{◌≡◌, ℕ, ◌≤◌, Bool, List, ◌++◌, length, take, Some, IsTrue}
use Rattle.plain_types.specs.declared.sequence.NameLit.{NameLit}
use Rattle.fol_base.specs.WellFormed.{SymbolUse}
use Rattle.sat_core.specs.Clause.{names_below, valuation_of, clauses_true}
use Rattle.sat_core.specs.Answer.{IsRightAnswer}
use Rattle.sat_core.specs.declared.answer.Answer.{Answer}
use Rattle.pool_history.specs.Tags.{name_count}
use Rattle.pool_history.specs.Record.{SolverJob, propositional_clauses}
use Rattle.pool_history.specs.Outcomes.{is_at_rest}
use Rattle.pool_history.specs.Solving.{handed}
use Rattle.pool_history.specs.Replay.{Origin, replay}
use Rattle.pool_history.specs.Lawful.{IsLawful}
use Rattle.pool_history.specs.Inputs.{AreInputs, IsUseOf}
use Rattle.pool_history.specs.declared.event.Event.{Event}

-- Propositional clauses are only added. This holds for every list of events, lawful or not.
abbrev pub PropositionalClausesStay : Type 0
PropositionalClausesStay =
    (origin : Origin) (history later : List Event)
    → (more : List (List NameLit))
    × (propositional_clauses (replay origin (history ++ later)) ≡ propositional_clauses (replay origin history) ++ more)

-- So an answer that is right for the clauses of a job stays right for them, whatever comes while the job is out.
abbrev pub AnswersStayRight : Type 0
AnswersStayRight =
    (origin : Origin) (history later : List Event) (s : SolverJob) (answer : Answer)
    → (replay origin history).solver ≡ Some s → IsRightAnswer s.names (handed (replay origin history) s) answer
    → IsRightAnswer s.names (handed (replay origin (history ++ later)) s) answer

-- The model makes the first `modelled` propositional clauses true.
abbrev pub ModelsAreRight : Type 0
ModelsAreRight =
    (is_predicate : ℕ → Bool) (origin : Origin) (history : List Event)
    → IsLawful is_predicate origin history
    → let r = replay origin history in
    (r.modelled ≤ length r.propositional) × IsTrue (clauses_true (valuation_of r.model) (take r.modelled (propositional_clauses r)))

-- The model of a pool at rest makes every propositional clause true. A saturated pool is at rest.
abbrev pub RestingModels : Type 0
RestingModels =
    (is_predicate : ℕ → Bool) (origin : Origin) (history : List Event)
    → IsLawful is_predicate origin history
    → let r = replay origin history in
    IsTrue (is_at_rest r) → IsTrue (clauses_true (valuation_of r.model) (propositional_clauses r))

-- The names in propositional clauses are names of parts that were met: they are below the number of names that the solver is told.
abbrev pub NamesAreMet : Type 0
NamesAreMet =
    (usage : SymbolUse) (origin : Origin) (history : List Event)
    → AreInputs origin.inputs → IsUseOf origin.inputs usage → IsLawful usage.is_predicate origin history
    → let r = replay origin history in IsTrue (names_below (name_count r.parts) (propositional_clauses r))
