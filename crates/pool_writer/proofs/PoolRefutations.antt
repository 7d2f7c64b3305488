-- Refutations that can be written: their lines can be made anew and read again; and those of a refuted pool.
use Rattle.std.proofs.Common.{◌≡◌, ℕ, Bool, ◌+◌, ◌-◌, List, [], ◌∷◌, true, false, length, Option, None, Some, ap, sym, ◌∙◌, subst, arith, length-append}
use Rattle.std.specs.Prelude.{slice_get, position, if◌then◌else◌}
use Rattle.std.proofs.lemmas.Option.{none-some}
use Rattle.fol_base.specs.Clause.{TreeLiteral, TreeClause}
use Rattle.fol_base.specs.WellFormed.{SymbolUse}
use Rattle.tptp_tree.specs.declared.problem.Annotated.{Annotated}
use Rattle.signature.specs.Form.{clausal_form}
use Rattle.kernel_steps.specs.Derivation.{IsDerivation, IsRefutation}
use Rattle.kernel_steps.specs.declared.step.Step.{Step}
use Rattle.kernel_steps.specs.declared.step.Line.{Line}
use Rattle.kernel_steps.proofs.AboutCalls.LineLemmas.{last-there}
use Rattle.clausal_form.specs.FormLaws.{use_of}
use Rattle.split_parts.specs.SignedNames.{named}
use Rattle.tstp_writer.specs.WrittenLaws.{IsReadableRefutation}
use Rattle.pool_history.specs.Derived.{ArePoolLines, LinesAreDerived, NamesRise, RefutedIsRefutation}
use Rattle.pool_history.specs.Inputs.{AreInputs, IsUseOf, IsHistoryOf}
use Rattle.pool_history.specs.Outcomes.{is_at_rest, heavy_or_saturated, outcome_by, outcome_of, is_of_living}
use Rattle.pool_history.specs.Record.{PoolRecord}
use Rattle.pool_history.specs.Tags.{name_count}
use Rattle.pool_history.specs.Replay.{Origin, replay}
use Rattle.pool_history.specs.declared.event.Event.{Event}
use Rattle.pool_history.specs.declared.outcome.Outcome.{Outcome}
use Rattle.pool_history.specs.declared.outcome.Outcome.TheVariants.{Refuted}
use Rattle.pool_history.proofs.AboutLines.BeginningLemmas.{replay-sound}
use Rattle.pool_writer.specs.Retraced.{AreRefutingSteps, IsRetracing, AreRetraced}
use Rattle.pool_writer.specs.Refuted.{IsWritableRefutation, AreWritableSteps}
use Rattle.pool_writer.proofs.AboutRetracing.NeededLemmas.{AreNeeded, needed-of}
use Rattle.pool_writer.proofs.FormUse.{form-used}
use Rattle.pool_writer.proofs.PoolNames.{pool-bodies, names-rise, names-rise-anew}
use Rattle.pool_writer.proofs.ReadableLines.{pool-readable, readable-anew}

-- ---- lines made anew

module _ (fs : List Annotated) (bodies : List (List TreeLiteral)) (steps : List Step) (are : AreWritableSteps fs bodies steps)
    (form : List TreeClause) (same : form ≡ (clausal_form fs).clauses)
  where
    pub refuting-steps : AreRefutingSteps form bodies steps
    refuting-steps = record {
      lines = are.lines;
      refutes = subst (λ (cs : List TreeClause). IsRefutation cs are.lines) (sym same) (are.is).refutes;
      bodies_are = (are.is).bodies_are;
      same = are.same;
    }

    module _ (made : List Line) (refutes : IsRefutation form made) (retracing : IsRetracing form bodies steps made) where
      retraced : AreRetraced retracing.numbers are.lines made
      retraced =
          retracing.lines are.lines (subst (λ (cs : List TreeClause). IsDerivation cs are.lines) (sym same) (are.is).refutes.derived) (are.is).bodies_are are.same

      needed : AreNeeded steps retracing.numbers
      needed = needed-of steps retracing.numbers retracing.needed

      long : length made ≡ length refutes.before + 1
      long = ap length refutes.ends ∙ length-append refutes.before (refutes.last ∷ [])

      pub is-readable : (last : ℕ) → last ≡ length made - 1 → IsReadableRefutation fs made last
      is-readable last place = record {
        derived = subst (λ (cs : List TreeClause). IsDerivation cs made) same refutes.derived;
        readable =
            λ n line at need.
            readable-anew (clausal_form fs).symbols retracing.numbers are.lines made retraced (are.is).readable n line at;
        names =
            λ n m name greater line later at later_at need later_need less step_is later_is.
            names-rise-anew retracing.numbers are.lines made needed.rising retraced (are.is).rise n m name greater line later at later_at less step_is
            later_is;
        line = refutes.last;
        ends =
            ap (slice_get made) (let same_place : last ≡ length refutes.before = omega (arith, place, long) in same_place) ∙ last-there form made refutes;
        is_clause = refutes.is_clause;
        is_empty = refutes.is_empty;
      }

-- ---- the pool

not-refuted : (o : Option ℕ) → Some (heavy_or_saturated o) ≡ Some Refuted → ⊥
not-refuted None h = cc
not-refuted (Some place) h = cc

not-at_rest : (b : Bool) (o : Option ℕ) → (if b then Some (heavy_or_saturated o) else None) ≡ Some Refuted → ⊥
not-at_rest true o h = not-refuted o h
not-at_rest false o h = none-some Refuted h

refuted-ended : (o : Option Outcome) (r : PoolRecord) → outcome_by o r ≡ Some Refuted → o ≡ Some Refuted
refuted-ended (Some p) r h = h
refuted-ended None r h = absurd (not-at_rest (is_at_rest r) (position (is_of_living r) r.set_aside) h)

module _ (fs : List Annotated) (origin : Origin) (history : List Event)
    (form : List TreeClause) (same : form ≡ (clausal_form fs).clauses) (begun : form ≡ origin.inputs)
    (inputs : AreInputs origin.inputs) (lawful : IsHistoryOf origin history)
  where
    abbrev usage : SymbolUse
    usage = use_of (clausal_form fs).symbols

    abbrev r : PoolRecord
    r = replay origin history

    as-form : origin.inputs ≡ (clausal_form fs).clauses
    as-form = sym begun ∙ same

    used : IsUseOf origin.inputs usage
    used = subst (λ (cs : List TreeClause). IsUseOf cs usage) (sym as-form) (form-used fs)

    -- the names of its lines stand for the parts that were met
    pub pool-refutation :
        LinesAreDerived → NamesRise → RefutedIsRefutation → outcome_of r ≡ Some Refuted
        → IsWritableRefutation fs (named r.parts) r.lines
    pool-refutation derived rise refutes refuted =
        let of_pool : ArePoolLines usage (clausal_form fs).clauses r.lines =
        subst (λ (cs : List TreeClause). ArePoolLines usage cs r.lines) as-form (derived usage origin history inputs used (lawful usage used)) in
        record {
          refutes =
              subst (λ (cs : List TreeClause). IsRefutation cs r.lines) as-form
              (refutes usage origin history inputs used (lawful usage used) (refuted-ended r.ended r refuted));
          readable = pool-readable fs r.lines of_pool;
          bodies_are = pool-bodies r.parts r.lines (replay-sound usage origin history inputs used (lawful usage used)).named.table;
          rise = names-rise r.lines 0 (name_count r.parts) (rise usage origin history inputs used (lawful usage used));
        }
