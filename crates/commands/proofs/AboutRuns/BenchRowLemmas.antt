-- What the statuses of `bench` say.
use Rattle.std.proofs.Common.{◌≡◌, ◌≤◌, ◌⊎◌, inl, inr, ℕ, List, ap, sym, subst, ◌∙◌}
use Rattle.std.specs.Prelude.{Some, Result, Ok, Err}
use Rattle.std.proofs.lemmas.Option.{none-some}
use Rattle.outside.specs.declared.fault.SinkFault.{SinkFault}
use Rattle.tptp_tree.specs.declared.problem.Annotated.{Annotated}
use Rattle.clausal_form.specs.Fault.{form_fault}
use Rattle.clausal_form.specs.declared.fault.FormCause.{FormCause}
use Rattle.command_reports.specs.Outside.{Outside}
use Rattle.command_words.specs.Words.{bench, command_of}
use Rattle.commands.specs.Problems.{IsUnformed, told_unread, told_unformed, of_formulas}
use Rattle.commands.specs.BenchProblem.{bench_formulas}
use Rattle.command_reports.specs.BenchReports.{IsBenchReport}
use Rattle.commands.specs.Answer.{Gives, IsAnswered}
use Rattle.commands.specs.Run.{Taken, IsDueTo, IsDelivery, status_after, IsRun}
use Rattle.commands.specs.Rows.{Took, IsCut}
use Rattle.commands.specs.BenchRows.{PrintedSummary, BenchRow}
use Rattle.command_words.specs.declared.command.TheConstants.{MOST_BENCH}
use Rattle.commands.proofs.AboutBench.FormLemmas.{bench-within}
use Rattle.command_words.proofs.AboutWords.WordLemmas.{commands-fit}
use Rattle.commands.proofs.AboutRuns.EndLemmas.{due-to}

-- what is said of the formulas that are made
pub said-summary :
    (taken : Taken) (number : ℕ) (fs : List Annotated) (s : ℕ) (a : List ℕ)
    → fs ≡ bench_formulas number → IsBenchReport number fs s a → Took taken a → PrintedSummary taken number s
said-summary taken number fs s a made h k =
    record { text = a; told = subst (λ (gs : List Annotated). IsBenchReport number gs s a) made h; report = k }

-- none of them passes a limit
not-unformed :
    (outside : Outside) (number : ℕ) (c : FormCause) (n : List ℕ) → number ≤ MOST_BENCH → IsUnformed (Gives outside (bench number)) c n → ⊥
not-unformed outside number c n most h =
    none-some (c, n) (sym (bench-within number most) ∙ ap form_fault (sym h.read) ∙ h.fault)

module _ (words : List (List ℕ)) (outside : Outside) (taken : Taken) (status : ℕ) (r : IsRun words outside taken status) where
  module _ (number : ℕ) (e : command_of words ≡ Some (bench number)) where
    most : number ≤ MOST_BENCH
    most = (commands-fit words (bench number) (sym e)).1

    abbrev IsSummed : Type 0
    IsSummed = PrintedSummary taken number status ⊎ IsCut status

    summed : (s : ℕ) (a : List ℕ) → IsAnswered (bench number) outside s a → status ≡ s → Took taken a → IsSummed
    summed s a (of_formulas fs h w) i k =
        inl (said-summary taken number fs status a h.read (subst (λ (n : ℕ). IsBenchReport number fs n a) (sym i) w) k)
    summed s a (told_unread c f p h e w) i k = absurd h
    summed s a (told_unformed c n h e w) i k = absurd (not-unformed outside number c n most h)

    due : IsDueTo (bench number) outside r.due r.text → status ≡ r.due → Took taken r.text → IsSummed
    due (inl d) i k = summed r.due r.text d i k
    due (inr m) i k = inr (inl (i ∙ m.0))

    ended : (o : Result (Unit {0}) SinkFault) → IsDelivery taken r.text o → status ≡ status_after r.due o → IsSummed
    ended (Ok u) d s = due (due-to words outside taken status r (bench number) e) s d.0
    ended (Err f) d s = inr (inr s)

  pub bench-row : BenchRow words taken status
  bench-row number e = ended number e r.delivered.outcome r.delivered.delivery r.delivered.status_is
