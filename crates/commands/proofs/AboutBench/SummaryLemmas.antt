-- From the pool of a bench problem that has ended to its summary.
use Rattle.std.proofs.Common.{◌≡◌, ℕ, List, None, length, get_or, inl, refl, ap, ◌∙◌}
use Rattle.std.specs.Prelude.{IsTrue, Some, slice_get, codes}
use Rattle.std.proofs.lemmas.Option.{slice_get-get_or}
use Rattle.fol_base.specs.Clause.{TreeClause}
use Rattle.tptp_tree.specs.declared.problem.Annotated.{Annotated}
use Rattle.signature.specs.Form.{clausal_form}
use Rattle.kernel_steps.specs.Keys.{key_text}
use Rattle.kernel_steps.specs.declared.key.Key.{Key}
use Rattle.kernel_steps.specs.declared.key.Key.TheVariants.{Replaced}
use Rattle.laws_meaning.specs.Meaning.{are_closed}
use Rattle.laws_saturation.specs.Laws.{MembersHaveMet}
use Rattle.pool_history.specs.Record.{PoolRecord}
use Rattle.pool_history.specs.Replay.{replay}
use Rattle.pool_history.specs.Saturated.{members_of}
use Rattle.pool_history.specs.declared.outcome.Outcome.TheVariants as outcome
use Rattle.pool_writer.specs.Saturation.{saturation_text}
use Rattle.worker_team.specs.declared.proved.Proved.{Proved as ProvedPool}
use Rattle.command_reports.specs.Parts.{AreOfForm}
use Rattle.commands.specs.AnswerShape.{IsProvedForm, OutcomeSays, HasLines}
use Rattle.command_reports.specs.BenchReports.{bench_name, bench_pool, bench_options, bench_summary, IsBenchReport, told_theorem, told_no_theorem, told_limit, told_set_aside}
use Rattle.commands.proofs.AboutOutcomes.HistoryLemmas.{heavy-there, is-spent, is-heavy}
use Rattle.commands.proofs.AboutOutcomes.ReportLemmas.{is-refuted}
use Rattle.commands.proofs.AboutOutcomes.SaturatedLemmas.{is-saturation}

module _
    (number : ℕ) (formulas : List Annotated) (proved : ProvedPool)
    (is : IsProvedForm formulas (clausal_form formulas).clauses bench_pool proved)
    (counted : ℕ) (counted_is : counted ≡ length (replay proved.pool.origin proved.pool.history).counted)
    (status : ℕ) (text : List ℕ) where
  abbrev inputs : List TreeClause
  inputs = (clausal_form formulas).clauses

  abbrev r : PoolRecord
  r = replay proved.pool.origin proved.pool.history

  abbrev of_form : AreOfForm formulas inputs
  of_form = inl refl

  pub summed-theorem :
      proved.outcome ≡ outcome.Refuted → OutcomeSays formulas inputs bench_pool r outcome.Refuted → IsTrue (are_closed formulas)
      → (lines : ℕ) → HasLines formulas r.lines lines → status ≡ 0 → text ≡ bench_summary number (codes "Theorem") counted lines
      → IsBenchReport number formulas status text
  unfolding is-refuted
  summed-theorem same says closed lines has s w =
      told_theorem has.text
      (is-refuted formulas bench_options proved is bench_name has.text None same says closed refl has.written (lines, has.accepted)) s
      (w ∙ ap (λ n. bench_summary number (codes "Theorem") n lines) counted_is)

  pub summed-no-theorem :
      proved.outcome ≡ outcome.Saturated → OutcomeSays formulas inputs bench_pool r outcome.Saturated → MembersHaveMet → status ≡ 1
      → text ≡ bench_summary number (codes "CounterSatisfiable") counted 0 → IsBenchReport number formulas status text
  unfolding is-saturation
  summed-no-theorem same says meet s w =
      let members : List ℕ = saturation_text (clausal_form formulas).symbols (members_of r) in
      told_no_theorem members
      (is-saturation formulas inputs of_form bench_pool proved is same meet says (clausal_form formulas) refl members refl) s
      (w ∙ ap (λ n. bench_summary number (codes "CounterSatisfiable") n 0) counted_is)

  pub summed-limit :
      (count : ℕ) → proved.outcome ≡ outcome.Spent count → OutcomeSays formulas inputs bench_pool r (outcome.Spent count) → status ≡ 2
      → text ≡ bench_summary number (codes "GaveUp") counted 0 → IsBenchReport number formulas status text
  unfolding is-spent
  summed-limit count same says s w =
      told_limit count (is-spent formulas inputs of_form bench_pool proved is count same says) s
      (w ∙ ap (λ n. bench_summary number (codes "GaveUp") n 0) counted_is)

  pub summed-set-aside :
      (place : ℕ) → proved.outcome ≡ outcome.Heavy place → OutcomeSays formulas inputs bench_pool r (outcome.Heavy place) → status ≡ 2
      → text ≡ bench_summary number (codes "GaveUp") counted 0 → IsBenchReport number formulas status text
  unfolding is-heavy
  summed-set-aside place same says s w =
      let key : Key = get_or r.set_aside place (Replaced 0) in
      let at : slice_get r.set_aside place ≡ Some key =
      slice_get-get_or r.set_aside place (Replaced 0) (heavy-there formulas inputs of_form bench_pool proved is place says) in
      told_set_aside (key_text key) (is-heavy formulas inputs of_form bench_pool proved is place key (key_text key) same says at refl) s
      (w ∙ ap (λ n. bench_summary number (codes "GaveUp") n 0) counted_is)
