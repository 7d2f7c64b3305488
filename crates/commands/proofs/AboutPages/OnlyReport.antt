-- A fault of the input is the only report of a command, and so is what each command says of it that is exact.
use Rattle.std.proofs.Common.{◌≡◌, ℕ, List, refl, ap, sym, ◌∙◌}
use Rattle.std.specs.Prelude.{true, not}
use Rattle.std.specs.List.{list_all}
use Rattle.std.proofs.lemmas.Bool.{true≢false}
use Rattle.clausal_form.specs.DerivationLaws.{TextsHaveOneAnswer}
use Rattle.command_reports.specs.Outside.{Outside, IsTold}
use Rattle.command_words.specs.Words.{Command, check, model, list_ground, decide}
use Rattle.commands.specs.Answer.{IsAnswered}
use Rattle.commands.specs.Laws.{is_exact, FaultsAreTheOnlyReport}
use Rattle.commands.proofs.AboutGround.DecideOne.{decide-one}
use Rattle.commands.proofs.AboutGround.GroundOne.{ground-one}
use Rattle.commands.proofs.AboutPages.ModelOne.{model-one}
use Rattle.commands.proofs.AboutPages.OneAnswer.{AreSame, command-one, checks-have-one-report}
use Rattle.commands.proofs.AboutRuns.StatusLemmas.{statuses_of, said-has}

-- of a command whose own statuses are none of a fault
no-fault-said :
    (outside : Outside) (command : Command) (s u : ℕ) (a b : List ℕ) → list_all (λ n. not (is_exact n)) (statuses_of command) ≡ true
    → IsTold outside → is_exact s ≡ true → IsAnswered command outside s a → IsAnswered command outside u b → AreSame s u a b
no-fault-said outside command s u a b inexact t x h k =
    command-one outside command s u a b t
    (λ fs v w.
    absurd (true≢false (sym (said-has (λ n. not (is_exact n)) outside command fs s a inexact v) ∙ ap not x)))
    h k

pub faults-are-the-only-report : TextsHaveOneAnswer → FaultsAreTheOnlyReport
faults-are-the-only-report one outside (check file derivation root) s u a b t x h k =
    checks-have-one-report one outside file derivation root s u a b t h k
faults-are-the-only-report one outside (model file root most) s u a b t x h k =
    command-one outside (model file root most) s u a b t (λ fs v w. model-one file most fs s u a b x v w) h k
faults-are-the-only-report one outside (list_ground file derivation root) s u a b t x h k =
    command-one outside (list_ground file derivation root) s u a b t (λ fs v w. ground-one outside file derivation t fs one s u a b v w) h k
faults-are-the-only-report one outside (decide file root) s u a b t x h k =
    command-one outside (decide file root) s u a b t (λ fs v w. decide-one file fs s u a b v w) h k
faults-are-the-only-report one outside command s u a b t x h k = no-fault-said outside command s u a b refl t x h k
