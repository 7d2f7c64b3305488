-- From the pool that has ended to the reports of `prove`.
use Rattle.std.proofs.Common.{◌≡◌, ◌<◌, ℕ, zero, suc, List, length, inl, inr, refl, ap, sym, ◌∙◌, subst, arith}
use Rattle.std.specs.Prelude.{Option, None, Some, Result, IfOk, IsTrue}
use Rattle.std.proofs.lemmas.Result.{IfOk-weaker}
use Rattle.fol_base.specs.Clause.{TreeClause}
use Rattle.tptp_tree.specs.declared.problem.Annotated.{Annotated}
use Rattle.signature.specs.Form.{clausal_form}
use Rattle.clausal_form.specs.DerivationTexts.{IsAcceptedDerivation}
use Rattle.laws_meaning.specs.Meaning.{are_closed, has_conjecture}
use Rattle.pool_history.specs.Record.{PoolRecord}
use Rattle.pool_history.specs.Replay.{Origin, replay}
use Rattle.pool_history.specs.declared.outcome.Outcome.TheVariants as outcome
use Rattle.worker_team.specs.declared.proved.Proved.{Proved as ProvedPool}
use Rattle.pool_writer.specs.Refuted.{IsRefutationText}
use Rattle.command_reports.specs.Names.{shown}
use Rattle.command_reports.specs.Parts.{kept_by, inputs_by, numbers_by, renumbered, left_out, AreOfForm, AreNumbered}
use Rattle.command_reports.specs.ProveReports.{IsRefuted, IsSaturation, IsProofReport, told_saturated, told_part_saturated, saturated_report, part_saturated_report}
use Rattle.commands.specs.AnswerShape.{IsProvedForm, OutcomeSays}
use Rattle.command_reports.specs.declared.report.Report.{Report}
use Rattle.command_words.specs.declared.command.AxiomSelection.{AxiomSelection}
use Rattle.command_words.specs.declared.command.ProveOptions.{ProveOptions}
use Rattle.commands.proofs.AboutOutcomes.HistoryLemmas.{has-history}
use Rattle.commands.proofs.AboutOutcomes.WholeLemmas.{nothing_left_out_is_whole}

-- ---- the clauses with which a proof begins

pub begins-with : (axioms : Option AxiomSelection) (formulas : List Annotated) → AreOfForm formulas (inputs_by axioms formulas)
begins-with None formulas = inl refl
begins-with (Some selection) formulas = inr (kept_by selection formulas, refl)

numbered-by : (axioms : Option AxiomSelection) (formulas : List Annotated) → AreNumbered formulas (inputs_by axioms formulas) (numbers_by axioms formulas)
numbered-by None formulas = refl
numbered-by (Some selection) formulas = record { kept = kept_by selection formulas; inputs_are = refl; numbers_are = refl }

module _
    (formulas : List Annotated) (options : ProveOptions) (proved : ProvedPool)
    (is : IsProvedForm formulas (inputs_by options.axioms formulas) options.pool proved) where
  abbrev inputs : List TreeClause
  inputs = inputs_by options.axioms formulas

  abbrev r : PoolRecord
  r = replay proved.pool.origin proved.pool.history

  pub begun-numbered : (numbers : Option (List ℕ)) → numbers ≡ numbers_by options.axioms formulas → AreNumbered formulas proved.pool.origin.inputs numbers
  begun-numbered numbers same =
      subst (AreNumbered formulas proved.pool.origin.inputs) (sym same)
      (subst (λ (cs : List TreeClause). AreNumbered formulas cs (numbers_by options.axioms formulas))
      (sym (ap (λ (begun : Origin). begun.inputs) is.pool.origin)) (numbered-by options.axioms formulas))

  -- ---- 0

  unfoldable pub is-refuted :
      (file text : List ℕ) (numbers : Option (List ℕ))
      → proved.outcome ≡ outcome.Refuted → OutcomeSays formulas inputs options.pool r outcome.Refuted → IsTrue (are_closed formulas)
      → numbers ≡ numbers_by options.axioms formulas → IsRefutationText (shown file) formulas (renumbered numbers r.lines) text
      → (count : ℕ) × IsAcceptedDerivation formulas text count → IsRefuted file formulas options text
  is-refuted file text numbers ended says closed same printed accepted = record {
    r = r;
    history = has-history formulas inputs (begins-with options.axioms formulas) options.pool proved is outcome.Refuted ended;
    printed = subst (λ (ns : Option (List ℕ)). IsRefutationText (shown file) formulas (renumbered ns r.lines) text) same printed;
    count = accepted.0;
    accepted = accepted.1;
    herbrand = says.0;
    theorem = says.1 closed;
  }

-- ---- 1 and 10

abbrev pub IsWholeReport : List ℕ → List Annotated → List ℕ → Report → Type 0
IsWholeReport file formulas members report = (report.status ≡ 1) × (report.text ≡ saturated_report file (has_conjecture formulas) members)

abbrev pub IsPartReport : List ℕ → List Annotated → ℕ → List ℕ → Report → Type 0
IsPartReport file formulas left members report =
    (report.status ≡ 10) × (report.text ≡ part_saturated_report file left (length formulas) members)

-- the report of a saturated set, by how many formulas were left out
pub saturation-reports :
    {E : Type 0} (result : Result Report E) (file : List ℕ) (formulas : List Annotated) (options : ProveOptions) (members : List ℕ) (left : ℕ)
    → left ≡ left_out options.axioms formulas
    → IsSaturation (clausal_form formulas).symbols (inputs_by options.axioms formulas) options.pool members
    → (left ≡ 0 → IfOk result (IsWholeReport file formulas members)) → (0 < left → IfOk result (IsPartReport file formulas left members))
    → IfOk result (λ report. IsProofReport file options formulas report.status report.text)
saturation-reports result file formulas options members zero same saturation whole part =
    IfOk-weaker result (IsWholeReport file formulas members) (λ report. IsProofReport file options formulas report.status report.text)
    (λ report told.
    told_saturated members (sym same)
    (subst (λ (cs : List TreeClause). IsSaturation (clausal_form formulas).symbols cs options.pool members)
    (nothing_left_out_is_whole options.axioms formulas (sym same)) saturation)
    told.0 told.1)
    (whole refl)
saturation-reports result file formulas options members (suc n) same saturation whole part =
    let some : 0 < suc n = omega arith in
    IfOk-weaker result (IsPartReport file formulas (suc n) members) (λ report. IsProofReport file options formulas report.status report.text)
    (λ report told.
    told_part_saturated members (subst (λ k. 0 < k) same some) saturation told.0
    (told.1 ∙ ap (λ k. part_saturated_report file k (length formulas) members) same))
    (part some)
