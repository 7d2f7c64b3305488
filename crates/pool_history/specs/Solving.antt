-- Jobs of the propositional solver.
use Rattle.std.specs.Prelude.{ℕ, ◌+◌, ◌-◌, Bool, ◌&&◌, nat_lt, if◌then◌else◌, List, [], ◌∷◌, ◌++◌, map, fold, length, take, Option, None, Some, option_map, unwrap_or, slice_get, is_none}
use Rattle.plain_types.specs.declared.sequence.NameLit.{NameLit}
use Rattle.fol_base.specs.Clause.{TreeClause}
use Rattle.kernel_steps.specs.Conclusion.{Verdict, binding_fault, rule_fault, concludes, empty_clause, verdict}
use Rattle.kernel_steps.specs.Derivation.{line_parents}
use Rattle.kernel_steps.specs.declared.step.Step.{Step}
use Rattle.kernel_steps.specs.declared.step.Step.TheVariants.{Chain}
use Rattle.kernel_steps.specs.declared.step.Line.{Line}
use Rattle.sat_core.specs.declared.answer.Link.{Link}
use Rattle.sat_core.specs.declared.answer.Chain as log
use Rattle.pool_history.specs.Tags.{name_count}
use Rattle.pool_history.specs.Record.{PoolRecord, SolverJob, PropositionalClause, propositional_clauses}
use Rattle.kernel_steps.specs.FromTrees.{line_of}
use Rattle.pool_history.specs.declared.outcome.Outcome.TheVariants.{Refuted}

-- there are propositional clauses that the model isn't of, and no solver job is out
abbrev pub must_solve : PoolRecord → Bool
must_solve r = nat_lt r.modelled (length r.propositional) && is_none r.solver

-- the solver is handed all propositional clauses
abbrev pub solver_claimed : ℕ → PoolRecord → PoolRecord
solver_claimed job r = record r {
  solver = Some (record { job = job; clauses = length r.propositional; names = name_count r.parts });
  jobs = job;
}

-- the clauses that a job was handed
abbrev pub handed : PoolRecord → SolverJob → List (List NameLit)
handed r s = take s.clauses (propositional_clauses r)

-- ---- a model

abbrev pub modelled_by : Option SolverJob → List Bool → PoolRecord → PoolRecord
modelled_by None truths r = r
modelled_by (Some s) truths r = record r { solver = None; model = truths; modelled = s.clauses }

-- it is of the clauses that the job was handed
abbrev pub model_returned : List Bool → PoolRecord → PoolRecord
model_returned truths r = modelled_by r.solver truths r

-- ---- a refutation

-- the line of what a log cites: a clause that was handed, or a chain of the log, of which the first gets the number `first`
abbrev pub cited_line : PoolRecord → SolverJob → ℕ → ℕ → ℕ
cited_line r s first n =
    if nat_lt n s.clauses
    then unwrap_or (option_map (λ (c : PropositionalClause). c.line) (slice_get r.propositional n)) 0
    else first + (n - s.clauses)

-- a chain of the log as a step
abbrev pub chain_step : (ℕ → ℕ) → log.Chain → Step
chain_step number c = Chain (number c.start ∷ map (λ (l : Link). number l.number) c.links) (map (λ (l : Link). l.pivot) c.links)

abbrev pub clause_concluded : Verdict → TreeClause
clause_concluded binding_fault = empty_clause
clause_concluded rule_fault = empty_clause
clause_concluded (concludes c) = c

-- a step comes last, with its conclusion as its clause
abbrev pub with_step : List Line → Step → List Line
with_step lines step = lines ++ line_of step (clause_concluded (verdict step (line_parents lines))) ∷ []

abbrev pub refuted_by : Option SolverJob → List log.Chain → PoolRecord → PoolRecord
refuted_by None chains r = r
refuted_by (Some s) chains r =
    if is_none r.ended
    then record r {
      solver = None;
      lines = fold with_step r.lines (map (chain_step (cited_line r s (length r.lines))) chains);
      ended = Some Refuted;
    }
    else record r { solver = None }

-- the chains of the log become lines, and the pool is refuted, unless it is ended already
abbrev pub refutation_returned : List log.Chain → PoolRecord → PoolRecord
refutation_returned chains r = refuted_by r.solver chains r
