-- What the pool of a problem tells once nothing is left to do and the empty clause wasn't derived: its members are saturated.
use Rattle.std.proofs.Common.{◌≡◌, ℕ, List, Some, ap, sym, ◌∙◌, subst}
use Rattle.std.specs.Prelude.{All}
use Rattle.std.proofs.lemmas.List.Elements.{All-from_recursion}
use Rattle.fol_base.specs.Clause.{TreeClause}
use Rattle.fol_base.specs.Symbols.{FunctionSymbols}
use Rattle.fol_base.specs.WellFormed.{SymbolUse}
use Rattle.tptp_tree.specs.declared.problem.Annotated.{Annotated}
use Rattle.signature.specs.declared.symbol.Symbol.{Symbol}
use Rattle.signature.specs.Form.{ClausalForm, clausal_form}
use Rattle.literal_selection.specs.Mode.{mode_of}
use Rattle.laws_calculus.specs.Symbols.{HasSymbolsOf}
use Rattle.clausal_form.specs.FormFunctions.{is_predicate_in, OwnFunctions}
use Rattle.clausal_form.specs.FormLaws.{use_of}
use Rattle.clausal_form.proofs.AboutForms.FunctionLemmas.{form-functions}
use Rattle.pool_history.specs.Inputs.{AreInputs, IsUseOf}
use Rattle.pool_history.specs.Outcomes.{outcome_of}
use Rattle.pool_history.specs.Record.{PoolRecord}
use Rattle.pool_history.specs.Replay.{Origin, replay}
use Rattle.pool_history.specs.Saturated.{IsSaturated, members_of}
use Rattle.pool_history.specs.declared.event.Event.{Event}
use Rattle.pool_history.specs.declared.options.Options.{Options}
use Rattle.pool_history.specs.declared.outcome.Outcome.TheVariants as outcome
use Rattle.worker_team.specs.declared.proved.Proved.{Proved as ProvedPool}
use Rattle.pool_writer.specs.Saturation.{saturation_text}
use Rattle.laws_saturation.specs.Laws.{SaturatedIsSaturated, MembersHaveMet}
use Rattle.command_reports.specs.ProveReports.{origin_of, AreSaturatedFor, HaveMet, HasHistory, IsSaturation}
use Rattle.command_reports.specs.Parts.{AreOfForm}
use Rattle.commands.specs.AnswerShape.{IsProvedForm, OutcomeSays}
use Rattle.commands.proofs.AboutOutcomes.FormSymbols.{form-allowed}
use Rattle.commands.proofs.AboutOutcomes.HistoryLemmas.{ended, has-history}
use Rattle.commands.proofs.AboutOutcomes.InputLemmas.{are-inputs, inputs-have, inputs-used}

module _
    (formulas : List Annotated) (inputs : List TreeClause) (of_form : AreOfForm formulas inputs) (options : Options) (proved : ProvedPool)
    (is : IsProvedForm formulas inputs options proved) (same : proved.outcome ≡ outcome.Saturated) where
  abbrev symbols : List Symbol
  symbols = (clausal_form formulas).symbols

  abbrev begun : Origin
  begun = origin_of inputs options

  abbrev usage : SymbolUse
  usage = use_of symbols

  pub history : HasHistory symbols inputs options outcome.Saturated (ended formulas inputs of_form options proved is)
  history = has-history formulas inputs of_form options proved is outcome.Saturated same

  abbrev events : List Event
  events = history.events

  used : IsUseOf inputs usage
  used = inputs-used formulas inputs of_form

  ends : outcome_of (replay begun events) ≡ Some outcome.Saturated
  ends = subst (λ (r : PoolRecord). outcome_of r ≡ Some outcome.Saturated) history.replayed history.ends

  are : AreInputs inputs
  are = are-inputs formulas inputs of_form is.within

  pub have-met : MembersHaveMet → HaveMet symbols inputs options events (replay begun events)
  have-met meet key c inferred = meet usage begun events key c are used history.lawful ends inferred

  -- ---- the members are saturated

  module _ (saturates : SaturatedIsSaturated) where
    over-each :
        (functions : FunctionSymbols (is_predicate_in symbols)) → All (HasSymbolsOf functions) inputs
        → IsSaturated functions (mode_of options.select) inputs (members_of (replay begun events))
    over-each functions all = saturates usage functions begun events are used all history.lawful ends

    own : OwnFunctions symbols
    own = form-functions formulas

    own-symbols : All (HasSymbolsOf own.functions) inputs
    own-symbols =
        inputs-have formulas inputs (HasSymbolsOf own.functions) of_form
        (All-from_recursion (HasSymbolsOf own.functions) (clausal_form formulas).clauses (form-allowed formulas own))

    pub ended-saturated : AreSaturatedFor symbols inputs options (members_of (ended formulas inputs of_form options proved is))
    ended-saturated =
        subst (λ (r : PoolRecord). AreSaturatedFor symbols inputs options (members_of r)) (sym history.replayed)
        (record { own = own; over_own = over-each own.functions own-symbols; over_each = over-each })

  -- ---- the answer, by what the outcome says

  unfoldable pub is-saturation :
      MembersHaveMet → OutcomeSays formulas inputs options (ended formulas inputs of_form options proved is) outcome.Saturated → (form : ClausalForm)
      → form ≡ clausal_form formulas → (text : List ℕ)
      → text ≡ saturation_text form.symbols (members_of (ended formulas inputs of_form options proved is))
      → IsSaturation symbols inputs options text
  is-saturation meet says form form_is text printed = record {
    r = ended formulas inputs of_form options proved is;
    history = history;
    printed =
        printed
        ∙ ap (λ (f : ClausalForm). saturation_text f.symbols (members_of (ended formulas inputs of_form options proved is))) form_is;
    saturated = says;
    met = subst (HaveMet symbols inputs options events) (sym history.replayed) (have-met meet);
  }
