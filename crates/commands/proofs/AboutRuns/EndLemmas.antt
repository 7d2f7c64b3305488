-- How a run ends: with the report of its command, out of memory, or with a failed write.
use Rattle.std.proofs.Common.{◌≡◌, ◌⊎◌, inl, inr, ℕ, List, Option, None, Some, refl, ap, sym, subst, ◌∙◌, arith}
use Rattle.std.specs.Prelude.{true, Result, Ok, Err}
use Rattle.outside.specs.declared.fault.SinkFault.{SinkFault}
use Rattle.outside.specs.Sink.{with_bytes}
use Rattle.tptp_reader.specs.declared.cause.ReadCause.{ReadCause}
use Rattle.tptp_reader.specs.declared.cause.ReadCause.TheVariants.{Inappropriate, Load}
use Rattle.clausal_form.specs.DerivationLaws.{TextsHaveOneAnswer}
use Rattle.command_reports.specs.Outside.{Outside, IsTold}
use Rattle.command_words.specs.Words.{Command, command_of}
use Rattle.commands.specs.Problems.{told_unread, told_unformed, of_formulas}
use Rattle.commands.specs.Answer.{IsAnswered}
use Rattle.command_reports.specs.Reports.{read_status, memory_out_report}
use Rattle.commands.specs.Run.{file_of, Taken, IsDueTo, IsDue, IsDelivery, status_after, IsRun}
use Rattle.commands.specs.Rows.{ForCommand, Took, EndsWith}
use Rattle.commands.specs.Laws.{is_exact}
use Rattle.commands.proofs.AboutPages.OnlyReport.{faults-are-the-only-report}
use Rattle.commands.proofs.AboutRuns.StatusLemmas.{is_answered, said-answered}

-- ---- the statuses of reports

cause-answered : (c : ReadCause) → is_answered (read_status c) ≡ true
cause-answered (Inappropriate form) = refl
cause-answered Load = refl
cause-answered c = refl

report-answered : (outside : Outside) (command : Command) (s : ℕ) (a : List ℕ) → IsAnswered command outside s a → is_answered s ≡ true
report-answered outside command s a (told_unread c f p h e w) = ap is_answered e ∙ cause-answered c
report-answered outside command s a (told_unformed c n h e w) = ap is_answered e
report-answered outside command s a (of_formulas fs h w) = said-answered outside command fs s a w

not-five : (n : ℕ) → is_answered n ≡ true → n ≡ 5 → ⊥
not-five n x e = let w : is_answered 5 ≡ true = ap is_answered (sym e) ∙ x in cc

not-six : (n : ℕ) → is_answered n ≡ true → n ≡ 6 → ⊥
not-six n x e = let w : is_answered 6 ≡ true = ap is_answered (sym e) ∙ x in cc

not-seven : (n : ℕ) → is_answered n ≡ true → n ≡ 7 → ⊥
not-seven n x e = let w : is_answered 7 ≡ true = ap is_answered (sym e) ∙ x in cc

six-not-five : (n : ℕ) → n ≡ 6 → n ≡ 5 → ⊥
six-not-five n e f = omega (arith, e, f)

seven-not-five : (n : ℕ) → n ≡ 7 → n ≡ 5 → ⊥
seven-not-five n e f = omega (arith, e, f)

pub six-not-seven : (n : ℕ) → n ≡ 6 → n ≡ 7 → ⊥
six-not-seven n e f = omega (arith, e, f)

pub due-not-five :
    (outside : Outside) (due : ℕ) (text : List ℕ) (k : Option Command) → IsDue k outside due text → due ≡ 5 → ⊥
due-not-five outside due text None d e = six-not-five due d.0 e
due-not-five outside due text (Some command) (inl a) e = not-five due (report-answered outside command due text a) e
due-not-five outside due text (Some command) (inr m) e = seven-not-five due m.0 e

-- ---- the end of a run whose writes didn't fail

-- A report of this status was due to the command, and the sink took it.
pub record IsEnd (outside : Outside) (taken : Taken) (known : ℕ) (command : Command) : Type 0 where
  pub text : List ℕ
  pub is : IsAnswered command outside known text
  pub report : Took taken text

-- Out of memory, and the sink took the report of that.
pub record IsEndWithoutMemory (taken : Taken) (status : ℕ) (command : Command) : Type 0 where
  pub status_is : status ≡ 7
  pub report : Took taken (memory_out_report (file_of command))

whole :
    (taken : Taken) (due status : ℕ) (text : List ℕ) (r : Result (Unit {0}) SinkFault)
    → (status ≡ 5 → ⊥) → IsDelivery taken text r → status ≡ status_after due r → (status ≡ due) × Took taken text
whole taken due status text (Ok u) written d s = (s, d.0)
whole taken due status text (Err e) written d s = absurd (written s)

module _ (words : List (List ℕ)) (outside : Outside) (taken : Taken) (status : ℕ) (r : IsRun words outside taken status) where
  due-whole : (status ≡ 5 → ⊥) → (status ≡ r.due) × Took taken r.text
  due-whole written = whole taken r.due status r.text r.delivered.outcome written r.delivered.delivery r.delivered.status_is

  pub due-to : (command : Command) → command_of words ≡ Some command → IsDueTo command outside r.due r.text
  due-to command e = subst (λ (k : Option Command). IsDue k outside r.due r.text) e r.is_due

  pub end-of :
      (command : Command) → command_of words ≡ Some command → (status ≡ 5 → ⊥)
      → IsEnd outside taken status command ⊎ IsEndWithoutMemory taken status command
  end-of command e written = by (due-to command e) (due-whole written)
    where
      by :
          IsDueTo command outside r.due r.text → (status ≡ r.due) × Took taken r.text
          → IsEnd outside taken status command ⊎ IsEndWithoutMemory taken status command
      by (inl d) w =
          inl (record {
            text = r.text;
            is = subst (λ (n : ℕ). IsAnswered command outside n r.text) (sym w.0) d;
            report = w.1;
          })
      by (inr m) w = inr (record { status_is = w.0 ∙ m.0; report = w.1 ∙ ap (with_bytes taken.bytes_before) m.1 })

  -- a status that is an answer's is that of the answer that was due
  pub answered-by :
      (known : ℕ) → status ≡ known → is_answered known ≡ true → (command : Command) → command_of words ≡ Some command
      → IsEnd outside taken known command
  answered-by known s x command e = by (end-of command e (λ f. not-five known x (sym s ∙ f)))
    where
      by : IsEnd outside taken status command ⊎ IsEndWithoutMemory taken status command → IsEnd outside taken known command
      by (inl a) = record { text = a.text; is = subst (λ (n : ℕ). IsAnswered command outside n a.text) s a.is; report = a.report }
      by (inr m) = absurd (not-seven known x (sym s ∙ m.status_is))

  pub usage-due : command_of words ≡ None → IsDue None outside r.due r.text
  usage-due e = subst (λ (k : Option Command). IsDue k outside r.due r.text) e r.is_due

  -- and the words are a command
  pub answered : (known : ℕ) → status ≡ known → is_answered known ≡ true → ForCommand words (IsEnd outside taken known)
  answered known s x = by (command_of words) refl
    where
      by : (k : Option Command) → command_of words ≡ k → ForCommand words (IsEnd outside taken known)
      by None e =
          absurd (not-six known x (sym s ∙ (due-whole (λ f. not-five known x (sym s ∙ f))).0 ∙ (usage-due e).0))
      by (Some command) e = record { command = command; is_command = e; says = answered-by known s x command e }

  -- ---- usage and out of memory

  pub usage-only : status ≡ 6 → command_of words ≡ None
  usage-only s = by (command_of words) refl
    where
      ended : (command : Command) → IsEnd outside taken status command ⊎ IsEndWithoutMemory taken status command → ⊥
      ended command (inl a) = not-six status (report-answered outside command status a.text a.is) s
      ended command (inr m) = six-not-seven status s m.status_is

      by : (k : Option Command) → command_of words ≡ k → k ≡ None
      by None e = refl
      by (Some command) e = absurd (ended command (end-of command e (six-not-five status s)))

  pub memory-out : status ≡ 7 → ForCommand words (IsEndWithoutMemory taken status)
  memory-out s = by (command_of words) refl
    where
      ended :
          (command : Command) → IsEnd outside taken status command ⊎ IsEndWithoutMemory taken status command
          → IsEndWithoutMemory taken status command
      ended command (inl a) = absurd (not-seven status (report-answered outside command status a.text a.is) s)
      ended command (inr m) = m

      by : (k : Option Command) → command_of words ≡ k → ForCommand words (IsEndWithoutMemory taken status)
      by None e = absurd (six-not-seven status ((due-whole (seven-not-five status s)).0 ∙ (usage-due e).0) s)
      by (Some command) e =
          record { command = command; is_command = e; says = ended command (end-of command e (seven-not-five status s)) }

  -- ---- faults are told always

  -- A report that tells a fault of the input is the only one that may be due.
  pub told-always :
      TextsHaveOneAnswer → (command : Command) (known : ℕ) (text : List ℕ) → IsTold outside → command_of words ≡ Some command
      → is_exact known ≡ true → IsAnswered command outside known text → EndsWith taken status known text
  told-always one command known text t e x h = by r.delivered.outcome r.delivered.delivery r.delivered.status_is
    where
      after : (status ≡ r.due) × Took taken r.text → IsDueTo command outside r.due r.text → EndsWith taken status known text
      after w (inl d) =
          let same = faults-are-the-only-report one outside command known r.due text r.text t x h d in
          inl (w.0 ∙ sym same.0, w.1 ∙ ap (with_bytes taken.bytes_before) (sym same.1))
      after w (inr m) = inr (inl (w.0 ∙ m.0))

      by : (o : Result (Unit {0}) SinkFault) → IsDelivery taken r.text o → status ≡ status_after r.due o → EndsWith taken status known text
      by (Ok u) d s = after (s, d.0) (due-to command e)
      by (Err f) d s = inr (inr s)
