-- What each status of a run says, whatever the command; and completeness.
use Rattle.std.proofs.Common.{◌≡◌, ◌⊎◌, inl, inr, ℕ, List, refl, ap, sym, subst, ◌∙◌, arith}
use Rattle.std.specs.Prelude.{true, Result, Ok, Err, Some, None}
use Rattle.outside.specs.Sink.{with_bytes}
use Rattle.outside.specs.declared.fault.SinkFault.{SinkFault}
use Rattle.tptp_tree.specs.declared.problem.Annotated.{Annotated}
use Rattle.tptp_reader.specs.declared.cause.Form.{Form}
use Rattle.tptp_reader.specs.declared.cause.ReadCause.{ReadCause}
use Rattle.tptp_reader.specs.declared.cause.ReadCause.TheVariants.{Inappropriate, Load}
use Rattle.clausal_form.specs.DerivationTexts.{IsAcceptedDerivation, IsRefusedDerivation}
use Rattle.clausal_form.specs.DerivationLaws.{TextsHaveOneAnswer}
use Rattle.tstp_checker.specs.Causes.{cause_meant}
use Rattle.command_words.specs.declared.command.ProveOptions.{ProveOptions}
use Rattle.command_reports.specs.Outside.{Outside, IsTold}
use Rattle.command_words.specs.Words.{Command, prove, check, bench, list_ground, decide, command_of}
use Rattle.commands.specs.Problems.{Source, IsRead, IsUnread, IsFormed, OfFormed, told_unread, told_unformed, of_formulas}
use Rattle.command_reports.specs.ProveReports.{IsProofReport, told_refuted, told_saturated, told_part_saturated, told_spent, told_heavy}
use Rattle.command_reports.specs.CheckReports.{IsLoaded, IsRefusedText, IsTooLong, IsCheckReport, told_accepted, told_refused, told_unloaded}
use Rattle.command_reports.specs.BenchReports.{told_theorem, told_no_theorem, told_limit, told_set_aside}
use Rattle.command_reports.specs.GroundReports.{IsListing, told_list, told_names, told_large, told_wrong, told_listing, told_long, told_missing}
use Rattle.command_reports.specs.DecideReports.{told_open, told_no_interpretation, told_interpretation}
use Rattle.commands.specs.Answer.{Gives, Fails, Says, IsAnswered}
use Rattle.command_reports.specs.Reports.{read_status, unread_report, unformed_report, usage_report}
use Rattle.commands.specs.Run.{file_of, Taken, IsDueTo, IsDelivery, status_after, IsRun}
use Rattle.commands.specs.Laws.{is_exact, FormedIsValid}
use Rattle.commands.specs.Rows.{Took, IsCut, IsRefutedTheorem, TheoremRow, PrintedUnread, ReadFaultRow, PrintedUnformed, PrintedInputFault, PrintedOpen, FormFaultRow, PrintedLoadFault, LoadFaultRow, IsLost, LostOutputRow, UsageRow, MemoryOutRow, IsValid, IsSettled, by_acceptance, by_refusal, CompleteRow}
use Rattle.commands.proofs.AboutPages.OneAnswer.{refused-not-accepted, fault-read, not-load, text-one, loaded-short, read-decided, decided, unformed-formed}
use Rattle.commands.proofs.AboutRuns.StatusLemmas.{not-said, not-eight, is-said}
use Rattle.commands.proofs.AboutRuns.EndLemmas.{due-not-five, answered, usage-only, usage-due, memory-out, due-to, told-always}

cause-exact : (c : ReadCause) → (c ≡ Load → ⊥) → is_exact (read_status c) ≡ true
cause-exact (Inappropriate form) other = refl
cause-exact Load other = absurd (other refl)
cause-exact c other = refl

-- the formulas of a problem within the limits show that nothing is wrong with it
pub formed-is-valid : FormedIsValid
formed-is-valid outside source fs t h = record {
  read = λ c f p l k. fault-read outside source t c f p fs l k h.read;
  formed = λ c n k. unformed-formed (IsRead outside source) (IsUnread outside source) (read-decided outside source t) c n fs k h;
}

-- the report on a text isn't that it couldn't be loaded
listing-not-lost : (fs : List Annotated) (bytes a : List ℕ) → IsListing fs bytes 4 a → ⊥
listing-not-lost fs bytes a (told_list l h e w) = omega (arith, e)
listing-not-lost fs bytes a (told_names n h e w) = omega (arith, e)
listing-not-lost fs bytes a (told_large h e w) = omega (arith, e)
listing-not-lost fs bytes a (told_wrong n c h e w) = omega (arith, e)

module _ (words : List (List ℕ)) (outside : Outside) (taken : Taken) (status : ℕ) (r : IsRun words outside taken status) where
  -- ---- 0

  said-theorem : (command : Command) (fs : List Annotated) (a : List ℕ) → Says outside command fs 0 a → IsRefutedTheorem fs
  said-theorem (prove file root options workers) fs a (told_refuted d h e w) = (h.herbrand, h.theorem)
  said-theorem (check file derivation root) fs a (told_accepted n h e w) = (h.herbrand, h.theorem)
  said-theorem (bench number) fs a (told_theorem d h e w) = (h.herbrand, h.theorem)
  said-theorem (bench number) fs a (told_no_theorem m h e w) = absurd (omega (arith, e))
  said-theorem (bench number) fs a (told_limit n h e w) = absurd (omega (arith, e))
  said-theorem (bench number) fs a (told_set_aside k h e w) = absurd (omega (arith, e))
  said-theorem (prove file root options workers) fs a (told_saturated m n h e w) = absurd (omega (arith, e))
  said-theorem (prove file root options workers) fs a (told_part_saturated m n h e w) = absurd (omega (arith, e))
  said-theorem (prove file root options workers) fs a (told_spent n h e w) = absurd (omega (arith, e))
  said-theorem (prove file root options workers) fs a (told_heavy k h e w) = absurd (omega (arith, e))
  said-theorem (check file derivation root) fs a (told_refused n c h e w) = absurd (omega (arith, e))
  said-theorem (check file derivation root) fs a (told_unloaded n h e w) = absurd (omega (arith, e))
  said-theorem command fs a h = not-said outside command fs 0 a refl h

  refuted-theorem : (command : Command) (a : List ℕ) → IsAnswered command outside 0 a → OfFormed (Gives outside command) IsRefutedTheorem
  refuted-theorem command a h =
      let x = is-said outside command 0 a refl h in
      record { formulas = x.formulas; formed = x.formed; says = said-theorem command x.formulas a x.says }

  pub theorem-row : TheoremRow words outside status
  theorem-row s =
      let x = answered words outside taken status r 0 s refl in
      record { command = x.command; is_command = x.is_command; says = refuted-theorem x.command x.says.text x.says.is }

  -- ---- 3 and 8

  printed-unread :
      (command : Command) (a : List ℕ) (c : ReadCause) (f : List ℕ) (p : ℕ) → Fails outside command c f p
      → a ≡ unread_report (file_of command) c f p → Took taken a → PrintedUnread outside taken command c
  printed-unread command a c f p h w k = record { name = f; place = p; unread = h; report = k ∙ ap (with_bytes taken.bytes_before) w }

  eight-left-out : (c : ReadCause) → read_status c ≡ 8 → (form : Form) × (c ≡ Inappropriate form)
  eight-left-out (Inappropriate form) e = (form, refl)
  eight-left-out Load e = absurd (omega (arith, e))
  eight-left-out c e = absurd (omega (arith, e))

  left-out :
      (command : Command) (a : List ℕ) → IsAnswered command outside 8 a → Took taken a
      → (form : Form) × PrintedUnread outside taken command (Inappropriate form)
  left-out command a (told_unread c f p h e w) k =
      let x = eight-left-out c (sym e) in
      (x.0, subst (PrintedUnread outside taken command) x.1 (printed-unread command a c f p h w k))
  left-out command a (told_unformed c n h e w) k = absurd (omega (arith, e))
  left-out command a (of_formulas fs h w) k = absurd (not-eight outside command fs a w)

  said-open :
      (command : Command) (fs : List Annotated) (a : List ℕ) → IsFormed (Gives outside command) fs → Says outside command fs 3 a
      → Took taken a → PrintedOpen outside taken command
  said-open (decide file root) fs a f (told_open n h e w) k = record {
    name = n;
    is_open = record { formulas = fs; formed = f; says = h };
    report = k ∙ ap (with_bytes taken.bytes_before) w;
  }
  said-open (decide file root) fs a f (told_no_interpretation h e w) k = absurd (omega (arith, e))
  said-open (decide file root) fs a f (told_interpretation h e w) k = absurd (omega (arith, e))
  said-open command fs a f h k = not-said outside command fs 3 a refl h

  input-fault :
      (command : Command) (a : List ℕ) → IsAnswered command outside 3 a → Took taken a
      → PrintedInputFault outside taken command ⊎ (PrintedUnformed outside taken command ⊎ PrintedOpen outside taken command)
  input-fault command a (told_unread c f p h e w) k = inl (c, sym e, printed-unread command a c f p h w k)
  input-fault command a (told_unformed c n h e w) k =
      inr (inl (record { cause = c; name = n; unformed = h; report = k ∙ ap (with_bytes taken.bytes_before) w }))
  input-fault command a (of_formulas fs h w) k = inr (inr (said-open command fs a h w k))

  pub read-fault-row : TextsHaveOneAnswer → ReadFaultRow words outside taken status
  read-fault-row one = record {
    only_inappropriate = λ s.
        let x = answered words outside taken status r 8 s refl in
        record { command = x.command; is_command = x.is_command; says = left-out x.command x.says.text x.says.is x.says.report };
    only_input_error = λ s.
        let x = answered words outside taken status r 3 s refl in
        record { command = x.command; is_command = x.is_command; says = input-fault x.command x.says.text x.says.is x.says.report };
    always = λ command c f p t e h.
        told-always words outside taken status r one command (read_status c) (unread_report (file_of command) c f p) t e
        (cause-exact c ((decided outside command t).not_load c f p h)) (told_unread c f p h refl refl);
  }

  pub form-fault-row : TextsHaveOneAnswer → FormFaultRow words outside taken status
  form-fault-row one command c n t e h =
      told-always words outside taken status r one command 3 (unformed_report (file_of command) c n) t e refl (told_unformed c n h refl refl)

  -- ---- 4

  four-load : (c : ReadCause) → read_status c ≡ 4 → c ≡ Load
  four-load Load e = refl
  four-load (Inappropriate form) e = absurd (omega (arith, e))
  four-load c e = absurd (omega (arith, e))

  said-lost :
      (command : Command) (fs : List Annotated) (a : List ℕ) → IsFormed (Gives outside command) fs → Says outside command fs 4 a
      → Took taken a → PrintedLoadFault outside taken command
  said-lost (check file derivation root) fs a f (told_unloaded n h e w) k = record {
    name = n;
    lost = inr (record { formulas = fs; formed = f; says = h });
    report = k ∙ ap (with_bytes taken.bytes_before) w;
  }
  said-lost (check file derivation root) fs a f (told_accepted n h e w) k = absurd (omega (arith, e))
  said-lost (check file derivation root) fs a f (told_refused n c h e w) k = absurd (omega (arith, e))
  said-lost (list_ground file derivation root) fs a f (told_missing n h e w) k = record {
    name = n;
    lost = inr (record { formulas = fs; formed = f; says = h });
    report = k ∙ ap (with_bytes taken.bytes_before) w;
  }
  said-lost (list_ground file derivation root) fs a f (told_listing bytes l h) k = absurd (listing-not-lost fs bytes a h)
  said-lost (list_ground file derivation root) fs a f (told_long h e w) k = absurd (omega (arith, e))
  said-lost command fs a f h k = not-said outside command fs 4 a refl h

  unread-lost :
      (command : Command) (a : List ℕ) (c : ReadCause) (f : List ℕ) (p : ℕ) → c ≡ Load → Fails outside command c f p
      → a ≡ unread_report (file_of command) c f p → Took taken a → PrintedLoadFault outside taken command
  unread-lost command a c f p l h w k = record {
    name = f;
    lost = inl (p, subst (λ (d : ReadCause). Fails outside command d f p) l h);
    report = k ∙ ap (with_bytes taken.bytes_before) (w ∙ ap (λ (d : ReadCause). unread_report (file_of command) d f p) l);
  }

  load-fault : (command : Command) (a : List ℕ) → IsAnswered command outside 4 a → Took taken a → PrintedLoadFault outside taken command
  load-fault command a (told_unread c f p h e w) k = unread-lost command a c f p (four-load c (sym e)) h w k
  load-fault command a (told_unformed c n h e w) k = absurd (omega (arith, e))
  load-fault command a (of_formulas fs h w) k = said-lost command fs a h w k

  pub load-fault-row : LoadFaultRow words outside taken status
  load-fault-row s =
      let x = answered words outside taken status r 4 s refl in
      record { command = x.command; is_command = x.is_command; says = load-fault x.command x.says.text x.says.is x.says.report }

  -- ---- 5, 6 and 7

  pub lost-output-row : LostOutputRow words outside taken status
  lost-output-row = record {
    only = λ five. by five r.delivered.outcome r.delivered.delivery r.delivered.status_is;
    otherwise = λ other. stays other r.delivered.outcome r.delivered.delivery r.delivered.status_is;
  }
    where
      by : status ≡ 5 → (o : Result (Unit {0}) SinkFault) → IsDelivery taken r.text o → status ≡ status_after r.due o → IsLost words outside taken
      by five (Ok u) d s = absurd (due-not-five outside r.due r.text (command_of words) r.is_due (sym s ∙ five))
      by five (Err f) d s = record { rose = d.0; due = r.due; text = r.text; is_due = r.is_due; prefix = d.1 }

      stays :
          (status ≡ 5 → ⊥) → (o : Result (Unit {0}) SinkFault) → IsDelivery taken r.text o → status ≡ status_after r.due o
          → taken.faults_after ≡ taken.faults_before
      stays other (Ok u) d s = d.1
      stays other (Err f) d s = absurd (other s)

  pub usage-row : UsageRow words taken status
  usage-row = record { only = usage-only words outside taken status r; always = λ e. by e r.delivered.outcome r.delivered.delivery r.delivered.status_is }
    where
      by :
          command_of words ≡ None → (o : Result (Unit {0}) SinkFault) → IsDelivery taken r.text o → status ≡ status_after r.due o
          → ((status ≡ 6) × Took taken usage_report) ⊎ (status ≡ 5)
      by e (Ok u) d s =
          let due = usage-due words outside taken status r e in inl (s ∙ due.0, d.0 ∙ ap (with_bytes taken.bytes_before) due.1)
      by e (Err f) d s = inr s

  pub memory-out-row : MemoryOutRow words taken status
  memory-out-row s =
      let x = memory-out words outside taken status r s in
      record { command = x.command; is_command = x.is_command; says = x.says.report }

  -- ---- completeness

  abbrev IsWorked : Type 0
  IsWorked = (status ≡ 0) ⊎ ((status ≡ 1) ⊎ ((status ≡ 2) ⊎ ((status ≡ 10) ⊎ IsCut status)))

  said-worked : (file : List ℕ) (options : ProveOptions) (fs : List Annotated) (s : ℕ) (a : List ℕ) → IsProofReport file options fs s a → status ≡ s → IsWorked
  said-worked file options fs s a (told_refuted d h e w) i = inl (i ∙ e)
  said-worked file options fs s a (told_saturated m n h e w) i = inr (inl (i ∙ e))
  said-worked file options fs s a (told_part_saturated m n h e w) i = inr (inr (inr (inl (i ∙ e))))
  said-worked file options fs s a (told_spent n h e w) i = inr (inr (inl (i ∙ e)))
  said-worked file options fs s a (told_heavy n h e w) i = inr (inr (inl (i ∙ e)))

  prove-complete :
      (source : Source) (options : ProveOptions) (workers s : ℕ) (a : List ℕ) → IsTold outside → IsValid outside source
      → IsAnswered (prove source.file source.root options workers) outside s a → status ≡ s → IsWorked
  prove-complete source options workers s a t v (of_formulas fs h w) i = said-worked source.file options fs s a w i
  prove-complete source options workers s a t v (told_unread c f p h e w) i = absurd (v.read c f p (not-load outside source t c f p h) h.fault)
  prove-complete source options workers s a t v (told_unformed c n h e w) i = absurd (v.formed c n h)

  abbrev IsSettledOrCut : Source → List ℕ → Type 0
  IsSettledOrCut source x = IsSettled outside source x status ⊎ IsCut status

  said-settled :
      TextsHaveOneAnswer → (source : Source) (derivation x : List ℕ) (fs : List Annotated) (s : ℕ) (a : List ℕ) → IsTold outside
      → IsLoaded outside derivation x → IsFormed (IsRead outside source) fs → IsCheckReport outside source.file derivation fs s a → status ≡ s
      → IsSettledOrCut source x
  said-settled one source derivation x fs s a t loaded f (told_accepted n h e w) i =
      inl
      (by_acceptance fs n (i ∙ e) f
      (subst (λ (z : List ℕ). IsAcceptedDerivation fs z n) (text-one outside t derivation h.text x h.loaded loaded) h.accepted))
  said-settled one source derivation x fs s a t loaded f (told_refused n c h e w) i = by h
    where
      by : IsRefusedText outside derivation fs n c ⊎ IsTooLong outside derivation n c → IsSettledOrCut source x
      by (inl r) =
          inl
          (by_refusal fs (i ∙ e) f
          (refused-not-accepted one fs x n c
          (subst (λ (z : List ℕ). IsRefusedDerivation fs z n (cause_meant c)) (text-one outside t derivation r.text x r.loaded loaded) r.refused)))
      by (inr l) = absurd (loaded-short outside t derivation x loaded l.found)
  said-settled one source derivation x fs s a t loaded f (told_unloaded n h e w) i = absurd (t.stays h.rose)

  check-complete :
      TextsHaveOneAnswer → (source : Source) (derivation x : List ℕ) (s : ℕ) (a : List ℕ) → IsTold outside → IsValid outside source
      → IsLoaded outside derivation x → IsAnswered (check source.file derivation source.root) outside s a → status ≡ s → IsSettledOrCut source x
  check-complete one source derivation x s a t v loaded (of_formulas fs h w) i = said-settled one source derivation x fs s a t loaded h w i
  check-complete one source derivation x s a t v loaded (told_unread c f p h e w) i = absurd (v.read c f p (not-load outside source t c f p h) h.fault)
  check-complete one source derivation x s a t v loaded (told_unformed c n h e w) i = absurd (v.formed c n h)

  pub complete-row : TextsHaveOneAnswer → CompleteRow words outside status
  complete-row one = record {
    proves = λ source options workers t e v. by_prove source options workers t e v r.delivered.outcome r.delivered.status_is;
    checks = λ source derivation x t e v loaded. by_check source derivation x t e v loaded r.delivered.outcome r.delivered.status_is;
  }
    where
      by_prove :
          (source : Source) (options : ProveOptions) (workers : ℕ) → IsTold outside
          → command_of words ≡ Some (prove source.file source.root options workers)
          → IsValid outside source → (o : Result (Unit {0}) SinkFault) → status ≡ status_after r.due o → IsWorked
      by_prove source options workers t e v (Ok u) s = due (due-to words outside taken status r (prove source.file source.root options workers) e)
        where
          due : IsDueTo (prove source.file source.root options workers) outside r.due r.text → IsWorked
          due (inl d) = prove-complete source options workers r.due r.text t v d s
          due (inr m) = inr (inr (inr (inr (inl (s ∙ m.0)))))
      by_prove source options workers t e v (Err f) s = inr (inr (inr (inr (inr s))))

      by_check :
          (source : Source) (derivation x : List ℕ) → IsTold outside → command_of words ≡ Some (check source.file derivation source.root)
          → IsValid outside source → IsLoaded outside derivation x → (o : Result (Unit {0}) SinkFault) → status ≡ status_after r.due o
          → IsSettledOrCut source x
      by_check source derivation x t e v loaded (Ok u) s = due (due-to words outside taken status r (check source.file derivation source.root) e)
        where
          due : IsDueTo (check source.file derivation source.root) outside r.due r.text → IsSettledOrCut source x
          due (inl d) = check-complete one source derivation x r.due r.text t v loaded d s
          due (inr m) = inr (inl (s ∙ m.0))
      by_check source derivation x t e v loaded (Err f) s = inr (inr s)
