-- What the statuses of `decide` say.
use Rattle.std.proofs.Common.{◌≡◌, ◌⊎◌, inl, inr, ℕ, List, refl, ap, ◌∙◌, sym, subst, arith}
use Rattle.std.specs.Prelude.{Result, Ok, Err, None, Some}
use Rattle.std.proofs.lemmas.Option.{none-some}
use Rattle.outside.specs.Sink.{with_bytes}
use Rattle.outside.specs.declared.fault.SinkFault.{SinkFault}
use Rattle.tptp_tree.specs.declared.problem.Annotated.{Annotated}
use Rattle.clausal_form.specs.DerivationLaws.{TextsHaveOneAnswer}
use Rattle.command_reports.specs.Outside.{Outside, IsTold}
use Rattle.command_words.specs.Words.{Command, decide, command_of}
use Rattle.commands.specs.Problems.{Source, source_at, IsRead, IsUnread, IsFormed, OfFormed, told_unread, told_unformed, of_formulas}
use Rattle.command_reports.specs.DecideReports.{open_formula, IsDecideReport, told_open, told_no_interpretation, told_interpretation, open_report, no_interpretation_report, interpretation_report}
use Rattle.commands.specs.Answer.{Gives, Says, IsAnswered}
use Rattle.commands.specs.Run.{Taken, IsDueTo, status_after, IsRun}
use Rattle.commands.specs.Rows.{Took, IsCut}
use Rattle.commands.specs.DecideRows.{ForDecide, PrintedRefutedForm, PrintedTrueForm, DecideRow}
use Rattle.commands.proofs.AboutPages.OneAnswer.{read-one, unread-read, read-decided, unformed-formed}
use Rattle.commands.proofs.AboutRuns.StatusLemmas.{not-said, is-said}
use Rattle.commands.proofs.AboutRuns.EndLemmas.{answered, due-to, told-always}

module _ (words : List (List ℕ)) (outside : Outside) (taken : Taken) (status : ℕ) (r : IsRun words outside taken status) where
  -- ---- 15

  abbrev Refutes : Source → Type 0
  Refutes source = OfFormed (IsRead outside source) (PrintedRefutedForm taken)

  said-refuted :
      (command : Command) (fs : List Annotated) (a : List ℕ) → command_of words ≡ Some command → IsFormed (Gives outside command) fs
      → Says outside command fs 15 a → Took taken a → ForDecide words Refutes
  said-refuted (decide file root) fs a i f (told_no_interpretation h e w) k = record {
    source = source_at file root;
    is_decide = i;
    says = record { formulas = fs; formed = f; says = record { refuted = h; report = k ∙ ap (with_bytes taken.bytes_before) w } };
  }
  said-refuted (decide file root) fs a i f (told_open n h e w) k = absurd (omega (arith, e))
  said-refuted (decide file root) fs a i f (told_interpretation h e w) k = absurd (omega (arith, e))
  said-refuted command fs a i f h k = not-said outside command fs 15 a refl h

  printed-refuted : (command : Command) (a : List ℕ) → command_of words ≡ Some command → IsAnswered command outside 15 a → Took taken a → ForDecide words Refutes
  printed-refuted command a i h k = let x = is-said outside command 15 a refl h in said-refuted command x.formulas a i x.formed x.says k

  -- ---- 16

  abbrev IsTrueForm : Source → Type 0
  IsTrueForm source = OfFormed (IsRead outside source) (PrintedTrueForm taken)

  said-true :
      (command : Command) (fs : List Annotated) (a : List ℕ) → command_of words ≡ Some command → IsFormed (Gives outside command) fs
      → Says outside command fs 16 a → Took taken a → ForDecide words IsTrueForm
  said-true (decide file root) fs a i f (told_interpretation h e w) k = record {
    source = source_at file root;
    is_decide = i;
    says = record { formulas = fs; formed = f; says = record { true_form = h; report = k ∙ ap (with_bytes taken.bytes_before) w } };
  }
  said-true (decide file root) fs a i f (told_open n h e w) k = absurd (omega (arith, e))
  said-true (decide file root) fs a i f (told_no_interpretation h e w) k = absurd (omega (arith, e))
  said-true command fs a i f h k = not-said outside command fs 16 a refl h

  printed-true : (command : Command) (a : List ℕ) → command_of words ≡ Some command → IsAnswered command outside 16 a → Took taken a → ForDecide words IsTrueForm
  printed-true command a i h k = let x = is-said outside command 16 a refl h in said-true command x.formulas a i x.formed x.says k

  -- ---- completeness

  abbrev IsAnsweredOrCut : Type 0
  IsAnsweredOrCut = (status ≡ 15) ⊎ ((status ≡ 16) ⊎ IsCut status)

  said-complete :
      (file : List ℕ) (fs : List Annotated) (s : ℕ) (a : List ℕ) → open_formula fs ≡ None → IsDecideReport file fs s a → status ≡ s → IsAnsweredOrCut
  said-complete file fs s a closed (told_no_interpretation h e w) i = inl (i ∙ e)
  said-complete file fs s a closed (told_interpretation h e w) i = inr (inl (i ∙ e))
  said-complete file fs s a closed (told_open n h e w) i = absurd (none-some n (sym closed ∙ h))

  module _ (source : Source) (fs : List Annotated) (t : IsTold outside) (e : command_of words ≡ Some (decide source.file source.root))
      (formed : IsFormed (IsRead outside source) fs) (closed : open_formula fs ≡ None) where
    decide-complete : (s : ℕ) (a : List ℕ) → IsAnswered (decide source.file source.root) outside s a → status ≡ s → IsAnsweredOrCut
    decide-complete s a (of_formulas gs h w) i =
        said-complete source.file gs s a (subst (λ (xs : List Annotated). open_formula xs ≡ None) (read-one outside source t fs gs formed.read h.read) closed) w i
    decide-complete s a (told_unread c f p h k w) i = absurd (unread-read outside source t c f p fs h formed.read)
    decide-complete s a (told_unformed c n h k w) i =
        absurd (unformed-formed (IsRead outside source) (IsUnread outside source) (read-decided outside source t) c n fs h formed)

    due : IsDueTo (decide source.file source.root) outside r.due r.text → status ≡ r.due → IsAnsweredOrCut
    due (inl d) s = decide-complete r.due r.text d s
    due (inr m) s = inr (inr (inl (s ∙ m.0)))

    complete : (o : Result (Unit {0}) SinkFault) → status ≡ status_after r.due o → IsAnsweredOrCut
    complete (Ok u) s = due (due-to words outside taken status r (decide source.file source.root) e) s
    complete (Err f) s = inr (inr (inr s))

  pub decide-row : TextsHaveOneAnswer → DecideRow words outside taken status
  decide-row one = record {
    refuted = λ s.
        let x = answered words outside taken status r 15 s refl in printed-refuted x.command x.says.text x.is_command x.says.is x.says.report;
    has_model = λ s.
        let x = answered words outside taken status r 16 s refl in printed-true x.command x.says.text x.is_command x.says.is x.says.report;
    always_refuted = λ source fs t e formed h.
        told-always words outside taken status r one (decide source.file source.root) 15 no_interpretation_report t e refl
        (of_formulas fs formed (told_no_interpretation h refl refl));
    always_true = λ source fs t e formed h.
        told-always words outside taken status r one (decide source.file source.root) 16 interpretation_report t e refl
        (of_formulas fs formed (told_interpretation h refl refl));
    always_open = λ source fs name t e formed h.
        told-always words outside taken status r one (decide source.file source.root) 3 (open_report source.file name) t e refl
        (of_formulas fs formed (told_open name h refl refl));
    complete = λ source fs t e formed closed. complete source fs t e formed closed r.delivered.outcome r.delivered.status_is;
  }
