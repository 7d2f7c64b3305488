-- What the statuses of `model` say.
use Rattle.std.proofs.Common.{◌≡◌, ◌⊎◌, inl, inr, ℕ, List, refl, ap, ◌∙◌, arith}
use Rattle.std.specs.Prelude.{true, Result, Ok, Err, Some}
use Rattle.outside.specs.Sink.{with_bytes}
use Rattle.outside.specs.declared.fault.SinkFault.{SinkFault}
use Rattle.tptp_tree.specs.declared.problem.Annotated.{Annotated}
use Rattle.clausal_form.specs.DerivationLaws.{TextsHaveOneAnswer}
use Rattle.laws_meaning.specs.Meaning.{are_closed}
use Rattle.command_reports.specs.Outside.{Outside, IsTold}
use Rattle.command_words.specs.Words.{Command, model, command_of}
use Rattle.commands.specs.Problems.{Source, source_at, IsRead, IsFormed, OfFormed, told_unread, told_unformed, of_formulas}
use Rattle.command_reports.specs.ModelReports.{IsModelReport, told_model, told_no_model, told_too_large, no_model_report, too_large_report}
use Rattle.commands.specs.Answer.{Gives, Says, IsAnswered}
use Rattle.commands.specs.Run.{Taken, IsDueTo, status_after, IsRun}
use Rattle.commands.specs.Rows.{Took, IsCut, IsValid}
use Rattle.commands.specs.ModelRows.{ForModel, PrintedModel, PrintedGivenUp, ModelRow}
use Rattle.commands.proofs.AboutOutcomes.ModelLemmas.{none-to, large-at}
use Rattle.commands.proofs.AboutPages.OneAnswer.{not-load}
use Rattle.commands.proofs.AboutReading.ClosedLemmas.{read_problems_are_closed}
use Rattle.commands.proofs.AboutRuns.StatusLemmas.{not-said, is-said}
use Rattle.commands.proofs.AboutRuns.EndLemmas.{answered, due-to, told-always}

module _ (words : List (List ℕ)) (outside : Outside) (taken : Taken) (status : ℕ) (r : IsRun words outside taken status) where
  -- ---- 11

  abbrev Finds : Source → ℕ → Type 0
  Finds source most = OfFormed (IsRead outside source) (PrintedModel taken source.file most)

  said-found :
      (command : Command) (fs : List Annotated) (a : List ℕ) → command_of words ≡ Some command → IsFormed (Gives outside command) fs
      → Says outside command fs 11 a → Took taken a → ForModel words Finds
  said-found (model file root most) fs a i f (told_model t h e w) k = record {
    source = source_at file root;
    most = most;
    is_model = i;
    says = record {
      formulas = fs;
      formed = f;
      says = record { table = t; found = h; report = k ∙ ap (with_bytes taken.bytes_before) w };
    };
  }
  said-found (model file root most) fs a i f (told_no_model h e w) k = absurd (omega (arith, e))
  said-found (model file root most) fs a i f (told_too_large n h e w) k = absurd (omega (arith, e))
  said-found command fs a i f h k = not-said outside command fs 11 a refl h

  printed-found : (command : Command) (a : List ℕ) → command_of words ≡ Some command → IsAnswered command outside 11 a → Took taken a → ForModel words Finds
  printed-found command a i h k = let x = is-said outside command 11 a refl h in said-found command x.formulas a i x.formed x.says k

  -- ---- 12

  abbrev GivesUp : Source → ℕ → Type 0
  GivesUp source most = OfFormed (IsRead outside source) (PrintedGivenUp taken source.file most)

  said-given-up :
      (command : Command) (fs : List Annotated) (a : List ℕ) → command_of words ≡ Some command → IsFormed (Gives outside command) fs
      → Says outside command fs 12 a → Took taken a → ForModel words GivesUp
  said-given-up (model file root most) fs a i f (told_no_model h e w) k = record {
    source = source_at file root;
    most = most;
    is_model = i;
    says = record {
      formulas = fs;
      formed = f;
      says = inl (record { no_model = h; report = k ∙ ap (with_bytes taken.bytes_before) w });
    };
  }
  said-given-up (model file root most) fs a i f (told_too_large n h e w) k = record {
    source = source_at file root;
    most = most;
    is_model = i;
    says = record {
      formulas = fs;
      formed = f;
      says = inr (record { size = n; too_large = h; report = k ∙ ap (with_bytes taken.bytes_before) w });
    };
  }
  said-given-up (model file root most) fs a i f (told_model t h e w) k = absurd (omega (arith, e))
  said-given-up command fs a i f h k = not-said outside command fs 12 a refl h

  printed-given-up : (command : Command) (a : List ℕ) → command_of words ≡ Some command → IsAnswered command outside 12 a → Took taken a → ForModel words GivesUp
  printed-given-up command a i h k = let x = is-said outside command 12 a refl h in said-given-up command x.formulas a i x.formed x.says k

  -- ---- completeness

  abbrev IsSearched : Type 0
  IsSearched = (status ≡ 11) ⊎ ((status ≡ 12) ⊎ IsCut status)

  said-searched : (file : List ℕ) (most : ℕ) (fs : List Annotated) (s : ℕ) (a : List ℕ) → IsModelReport file most fs s a → status ≡ s → IsSearched
  said-searched file most fs s a (told_model t h e w) i = inl (i ∙ e)
  said-searched file most fs s a (told_no_model h e w) i = inr (inl (i ∙ e))
  said-searched file most fs s a (told_too_large n h e w) i = inr (inl (i ∙ e))

  model-complete :
      (source : Source) (most s : ℕ) (a : List ℕ) → IsTold outside → IsValid outside source
      → IsAnswered (model source.file source.root most) outside s a → status ≡ s → IsSearched
  model-complete source most s a t v (of_formulas fs h w) i = said-searched source.file most fs s a w i
  model-complete source most s a t v (told_unread c f p h e w) i = absurd (v.read c f p (not-load outside source t c f p h) h.fault)
  model-complete source most s a t v (told_unformed c n h e w) i = absurd (v.formed c n h)

  searched :
      (source : Source) (most : ℕ) → IsTold outside → command_of words ≡ Some (model source.file source.root most) → IsValid outside source
      → (o : Result (Unit {0}) SinkFault) → status ≡ status_after r.due o → IsSearched
  searched source most t e v (Ok u) s = due (due-to words outside taken status r (model source.file source.root most) e)
    where
      due : IsDueTo (model source.file source.root most) outside r.due r.text → IsSearched
      due (inl d) = model-complete source most r.due r.text t v d s
      due (inr m) = inr (inr (inl (s ∙ m.0)))
  searched source most t e v (Err f) s = inr (inr (inr s))

  -- ---- the row

  closed : (source : Source) (fs : List Annotated) → IsFormed (IsRead outside source) fs → are_closed fs ≡ true
  closed source fs formed = read_problems_are_closed outside.told source.file source.root fs formed.read

  pub model-row : TextsHaveOneAnswer → ModelRow words outside taken status
  model-row one = record {
    found = λ s.
        let x = answered words outside taken status r 11 s refl in printed-found x.command x.says.text x.is_command x.says.is x.says.report;
    given_up = λ s.
        let x = answered words outside taken status r 12 s refl in printed-given-up x.command x.says.text x.is_command x.says.is x.says.report;
    always_none = λ source most fs t e formed h.
        told-always words outside taken status r one (model source.file source.root most) 12 (no_model_report source.file most) t e refl
        (of_formulas fs formed (told_no_model (none-to fs most (closed source fs formed) h) refl refl));
    always_too_large = λ source most n fs t e formed h.
        told-always words outside taken status r one (model source.file source.root most) 12 (too_large_report source.file n) t e refl
        (of_formulas fs formed (told_too_large n (large-at fs most n (closed source fs formed) h) refl refl));
    complete = λ source most t e v. searched source most t e v r.delivered.outcome r.delivered.status_is;
  }
