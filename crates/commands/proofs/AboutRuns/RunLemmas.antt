-- From what was delivered to what a run answers.
use Rattle.std.proofs.Common.{◌≡◌, ℕ, Option, None, Some, List, refl, subst}
use Rattle.std.specs.Prelude.{Result}
use Rattle.outside.specs.declared.fault.SinkFault.{SinkFault}
use Rattle.command_words.specs.Words.{Command, command_of}
use Rattle.command_reports.specs.Outside.{Outside}
use Rattle.command_reports.specs.Reports.{usage_report}
use Rattle.commands.specs.Answer.{IsAnswered}
use Rattle.commands.specs.Run.{IsDueTo, IsDue, Taken, DeliveredBy, IsRunBy}

pub run_usage :
    {S : Type 0} (gives : S → List ℕ → Result ℕ SinkFault → S → Type 0) (before after : S)
    (words : List (List ℕ)) (outside : Outside) (taken : Taken) (status : ℕ)
    → None ≡ command_of words → outside.faults_after ≡ outside.faults_before → DeliveredBy gives before after taken 6 usage_report status
    → IsRunBy gives before after words outside taken status
run_usage gives before after words outside taken status e calm d =
    let P : Option Command → Type 0 = λ k. IsDue k outside 6 usage_report in
    record { run = record { due = 6; text = usage_report; is_due = subst P e (refl, refl, calm); delivered = d.0 }; writes = d.1 }

pub run_due :
    {S : Type 0} (gives : S → List ℕ → Result ℕ SinkFault → S → Type 0) (before after : S)
    (words : List (List ℕ)) (outside : Outside) (taken : Taken) (command : Command) (due : ℕ) (text : List ℕ) (status : ℕ)
    → Some command ≡ command_of words → IsDueTo command outside due text → DeliveredBy gives before after taken due text status
    → IsRunBy gives before after words outside taken status
run_due gives before after words outside taken command due text status e cause d =
    let P : Option Command → Type 0 = λ k. IsDue k outside due text in
    record { run = record { due = due; text = text; is_due = subst P e cause; delivered = d.0 }; writes = d.1 }

pub due_text :
    (outside : Outside) (command : Command) (status : ℕ) (text shown : List ℕ)
    → text ≡ shown → IsAnswered command outside status text → IsAnswered command outside status shown
due_text outside command status text shown e due =
    let P : List ℕ → Type 0 = IsAnswered command outside status in
    subst P e due
