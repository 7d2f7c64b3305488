-- The status and the printed text of a run, and their cause.
use Rattle.std.specs.Prelude.{◌≡◌, ◌⊎◌, ℕ, List, ◌++◌, Option, None, Some, Result, Ok, Err}
use Rattle.outside.specs.Faults.{Rose}
use Rattle.outside.specs.Sink.{with_bytes, HasPrefixAfter, Delivers}
use Rattle.outside.specs.declared.fault.SinkFault.{SinkFault}
use Rattle.command_reports.specs.Outside.{Outside}
use Rattle.command_reports.specs.declared.status.TheConstants.{SINK_FAILED, USAGE_SHOWN, MEMORY_OUT}
use Rattle.command_words.specs.Words.{Command, command_of}
use Rattle.commands.specs.Answer.{source_of, IsAnswered}
use Rattle.command_reports.specs.Reports.{memory_out_report, usage_report}

-- ---- the report that is due

-- the problem's file
abbrev pub file_of : Command → List ℕ
file_of command = (source_of command).file

-- The program is out of memory, which may happen to each command at any time.
abbrev pub IsMemoryOut : Command → ℕ → List ℕ → Type 0
IsMemoryOut command status text = (status ≡ MEMORY_OUT) × (text ≡ memory_out_report (file_of command))

abbrev pub IsDueTo : Command → Outside → ℕ → List ℕ → Type 0
IsDueTo command outside status text = IsAnswered command outside status text ⊎ IsMemoryOut command status text

-- usage is told exactly where the words are usage, and then the library's count of faults is as it was
abbrev pub IsDue : Option Command → Outside → ℕ → List ℕ → Type 0
IsDue None outside status text = (status ≡ USAGE_SHOWN) × (text ≡ usage_report) × (outside.faults_after ≡ outside.faults_before)
IsDue (Some command) outside status text = IsDueTo command outside status text

-- ---- the bytes that the sink takes

-- the bytes that a sink tells that it has taken, and its count of faults, before some writes and after them
pub record Taken : Type 0 where
  pub bytes_before : Option (List ℕ)
  pub bytes_after : Option (List ℕ)
  pub faults_before : ℕ
  pub faults_after : ℕ

-- by what a sink tells of itself
abbrev pub taken_by : {S : Type 0} → (S → Option (List ℕ)) → (S → ℕ) → S → S → Taken
taken_by taken faults before after =
    record { bytes_before = taken before; bytes_after = taken after; faults_before = faults before; faults_after = faults after }

-- the sink took the text and its count of faults stayed, or it failed and took a prefix
abbrev pub IsDelivery : Taken → List ℕ → Result (Unit {0}) SinkFault → Type 0
IsDelivery taken text (Ok done) =
    (taken.bytes_after ≡ with_bytes taken.bytes_before text) × (taken.faults_after ≡ taken.faults_before)
IsDelivery taken text (Err fault) =
    Rose taken.faults_before taken.faults_after × HasPrefixAfter taken.bytes_before taken.bytes_after text

-- the status that is due, or that of a sink that failed
abbrev pub status_after : {E : Type 0} → ℕ → Result (Unit {0}) E → ℕ
status_after due (Ok done) = due
status_after due (Err fault) = SINK_FAILED

-- a report was delivered, and the status is its own or that of a sink that failed
pub record Delivered (taken : Taken) (due : ℕ) (text : List ℕ) (status : ℕ) : Type 0 where
  pub outcome : Result (Unit {0}) SinkFault
  pub delivery : IsDelivery taken text outcome
  pub status_is : status ≡ status_after due outcome

-- The writes of a text that is delivered in pieces; `gives` says how a sink answers a write and what it becomes. No piece is begun
-- after one that failed.
pub data DeliversInPieces {S : Type 0} (gives : S → List ℕ → Result ℕ SinkFault → S → Type 0) : S → List ℕ → Result (Unit {0}) SinkFault → S → Type 0 where
  at_once :
      {sink after : S} {text : List ℕ} {result : Result (Unit {0}) SinkFault}
      → Delivers gives sink text result after → DeliversInPieces gives sink text result after
  front_and_back :
      {sink next after : S} {result : Result (Unit {0}) SinkFault} (front back : List ℕ)
      → DeliversInPieces gives sink front (Ok tt) next → DeliversInPieces gives next back result after
      → DeliversInPieces gives sink (front ++ back) result after
  front_alone :
      {sink after : S} {fault : SinkFault} (front back : List ℕ)
      → DeliversInPieces gives sink front (Err fault) after → DeliversInPieces gives sink (front ++ back) (Err fault) after

-- A report is built whole before the first write, and each write is handed all bytes not yet taken. Only the report that the program is
-- out of memory is written in pieces. No write is made after one that failed.
abbrev pub AreWrites : {S : Type 0} → (S → List ℕ → Result ℕ SinkFault → S → Type 0) → S → S → ℕ → List ℕ → Result (Unit {0}) SinkFault → Type 0
AreWrites gives before after due text outcome =
    Delivers gives before text outcome after ⊎ ((due ≡ MEMORY_OUT) × DeliversInPieces gives before text outcome after)

-- a report was delivered, by such writes
abbrev pub DeliveredBy : {S : Type 0} → (S → List ℕ → Result ℕ SinkFault → S → Type 0) → S → S → Taken → ℕ → List ℕ → ℕ → Type 0
DeliveredBy gives before after taken due text status =
    (delivered : Delivered taken due text status) × AreWrites gives before after due text delivered.outcome

-- Some report was due, and was delivered: the sink took the whole of it and its count of faults stayed; or it failed, and then the
-- status is `SINK_FAILED` and it took a prefix of that report.
pub record IsRun (words : List (List ℕ)) (outside : Outside) (taken : Taken) (status : ℕ) : Type 0 where
  pub due : ℕ
  pub text : List ℕ
  pub is_due : IsDue (command_of words) outside due text
  pub delivered : Delivered taken due text status

-- and by such writes
pub record IsRunBy {S : Type 0} (gives : S → List ℕ → Result ℕ SinkFault → S → Type 0) (before after : S)
    (words : List (List ℕ)) (outside : Outside) (taken : Taken) (status : ℕ) : Type 0 where
  pub run : IsRun words outside taken status
  pub writes : AreWrites gives before after run.due run.text run.delivered.outcome
