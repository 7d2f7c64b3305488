-- What the outcome of a problem's pool says of the problem.
use Rattle.std.proofs.Common.{◌≡◌, List}
use Rattle.fol_base.specs.Clause.{TreeClause}
use Rattle.tptp_tree.specs.declared.problem.Annotated.{Annotated}
use Rattle.pool_history.specs.declared.options.Options.{Options}
use Rattle.pool_history.specs.declared.outcome.Outcome.{Outcome}
use Rattle.pool_history.specs.declared.outcome.Outcome.TheVariants.{Refuted, Saturated, Spent, Heavy}
use Rattle.laws_saturation.specs.Laws.{SaturatedIsSaturated}
use Rattle.clausal_form.specs.FormFunctions.{IsHerbrandRefuted}
use Rattle.worker_team.specs.declared.proved.Proved.{Proved as ProvedPool}
use Rattle.command_reports.specs.Parts.{AreOfForm}
use Rattle.commands.specs.AnswerShape.{IsProvedForm, OutcomeSays}
use Rattle.commands.proofs.AboutOutcomes.HistoryLemmas.{ended, has-counted, heavy-cause}
use Rattle.commands.proofs.AboutOutcomes.RefutedLemmas.{herbrand-refuted}
use Rattle.commands.proofs.AboutOutcomes.SaturatedLemmas.{ended-saturated}
use Rattle.commands.proofs.AboutOutcomes.TheoremLemmas.{refuted-theorem}

pub outcome-says :
    (formulas : List Annotated) (inputs : List TreeClause) (of_form : AreOfForm formulas inputs) (options : Options) (proved : ProvedPool)
    (is : IsProvedForm formulas inputs options proved)
    → SaturatedIsSaturated → (o : Outcome) → proved.outcome ≡ o
    → OutcomeSays formulas inputs options (ended formulas inputs of_form options proved is) o
outcome-says formulas inputs of_form options proved is saturates Refuted same =
    let refuted : IsHerbrandRefuted formulas = herbrand-refuted formulas inputs of_form options proved is same in
    (refuted, λ closed. refuted-theorem formulas closed refuted)
outcome-says formulas inputs of_form options proved is saturates Saturated same =
    ended-saturated formulas inputs of_form options proved is same saturates
outcome-says formulas inputs of_form options proved is saturates (Spent count) same =
    has-counted formulas inputs of_form options proved is count same
outcome-says formulas inputs of_form options proved is saturates (Heavy place) same =
    heavy-cause formulas inputs of_form options proved is place same
