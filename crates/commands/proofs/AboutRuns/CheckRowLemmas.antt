-- What the statuses of `check` say.
use Rattle.std.proofs.Common.{◌≡◌, inl, inr, ℕ, List, refl, ap, ◌∙◌, arith}
use Rattle.std.specs.Prelude.{Some}
use Rattle.outside.specs.Sink.{with_bytes}
use Rattle.tptp_tree.specs.declared.problem.Annotated.{Annotated}
use Rattle.tstp_checker.specs.declared.cause.Cause.TheVariants.{Text}
use Rattle.clausal_form.specs.DerivationLaws.{TextsHaveOneAnswer}
use Rattle.command_reports.specs.Outside.{Outside}
use Rattle.command_words.specs.Words.{Command, check, list_ground, command_of}
use Rattle.commands.specs.Problems.{Source, source_at, IsRead, IsFormed, OfFormed, of_formulas}
use Rattle.command_reports.specs.CheckReports.{IsLoaded, IsCheckReport, told_accepted, told_refused, told_unloaded, refused_line}
use Rattle.command_reports.specs.GroundReports.{IsListing, told_list, told_names, told_large, told_wrong, told_listing, told_long, told_missing}
use Rattle.commands.specs.Answer.{Gives, Says, IsAnswered}
use Rattle.commands.specs.Run.{Taken, IsRun}
use Rattle.commands.specs.Rows.{Took}
use Rattle.commands.specs.CheckRows.{ForDerivation, PrintedAcceptance, PrintedRefusal, CheckedRow}
use Rattle.commands.proofs.AboutRuns.StatusLemmas.{not-said, is-said}
use Rattle.commands.proofs.AboutRuns.EndLemmas.{answered, answered-by, told-always}

module _ (words : List (List ℕ)) (outside : Outside) (taken : Taken) (status : ℕ) (r : IsRun words outside taken status) where
  said-acceptance :
      (file derivation : List ℕ) (fs : List Annotated) (a : List ℕ) → IsCheckReport outside file derivation fs 0 a → Took taken a
      → PrintedAcceptance outside taken derivation fs
  said-acceptance file derivation fs a (told_accepted n h e w) k =
      record { text = h.text; loaded = h.loaded; lines = n; accepted = h.accepted; report = k ∙ ap (with_bytes taken.bytes_before) w }
  said-acceptance file derivation fs a (told_refused n c h e w) k = absurd (omega (arith, e))
  said-acceptance file derivation fs a (told_unloaded n h e w) k = absurd (omega (arith, e))

  printed-acceptance :
      (source : Source) (derivation a : List ℕ) → IsAnswered (check source.file derivation source.root) outside 0 a → Took taken a
      → OfFormed (IsRead outside source) (PrintedAcceptance outside taken derivation)
  printed-acceptance source derivation a h k =
      let x = is-said outside (check source.file derivation source.root) 0 a refl h in
      record { formulas = x.formulas; formed = x.formed; says = said-acceptance source.file derivation x.formulas a x.says k }

  abbrev Refuses : Source → List ℕ → Type 0
  Refuses source derivation = OfFormed (IsRead outside source) (PrintedRefusal outside taken derivation)

  listing-refused :
      (derivation : List ℕ) (fs : List Annotated) (bytes a : List ℕ) → IsLoaded outside derivation bytes → IsListing fs bytes 9 a → Took taken a
      → PrintedRefusal outside taken derivation fs
  listing-refused derivation fs bytes a l (told_wrong n c h e w) k = record {
    line = n;
    cause = c;
    refused = inl (record { text = bytes; loaded = l; refused = h });
    report = k ∙ ap (with_bytes taken.bytes_before) w;
  }
  listing-refused derivation fs bytes a l (told_list ls h e w) k = absurd (omega (arith, e))
  listing-refused derivation fs bytes a l (told_names n h e w) k = absurd (omega (arith, e))
  listing-refused derivation fs bytes a l (told_large h e w) k = absurd (omega (arith, e))

  said-refusal :
      (command : Command) (fs : List Annotated) (a : List ℕ) → command_of words ≡ Some command → IsFormed (Gives outside command) fs
      → Says outside command fs 9 a → Took taken a → ForDerivation words Refuses
  said-refusal (check file derivation root) fs a i f (told_refused n c h e w) k =
      inl (record {
        source = source_at file root;
        derivation = derivation;
        is_check = i;
        says = record {
          formulas = fs;
          formed = f;
          says = record { line = n; cause = c; refused = h; report = k ∙ ap (with_bytes taken.bytes_before) w };
        };
      })
  said-refusal (check file derivation root) fs a i f (told_accepted n h e w) k = absurd (omega (arith, e))
  said-refusal (check file derivation root) fs a i f (told_unloaded n h e w) k = absurd (omega (arith, e))
  said-refusal (list_ground file derivation root) fs a i f (told_listing bytes l h) k =
      inr (record {
        source = source_at file root;
        derivation = derivation;
        is_listing = i;
        says = record { formulas = fs; formed = f; says = listing-refused derivation fs bytes a l h k };
      })
  said-refusal (list_ground file derivation root) fs a i f (told_long h e w) k =
      inr (record {
        source = source_at file root;
        derivation = derivation;
        is_listing = i;
        says = record {
          formulas = fs;
          formed = f;
          says = record { line = 0; cause = Text; refused = inr h; report = k ∙ ap (with_bytes taken.bytes_before) w };
        };
      })
  said-refusal (list_ground file derivation root) fs a i f (told_missing n h e w) k = absurd (omega (arith, e))
  said-refusal command fs a i f h k = not-said outside command fs 9 a refl h

  printed-refusal : (command : Command) (a : List ℕ) → command_of words ≡ Some command → IsAnswered command outside 9 a → Took taken a → ForDerivation words Refuses
  printed-refusal command a i h k =
      let x = is-said outside command 9 a refl h in said-refusal command x.formulas a i x.formed x.says k

  pub checked-row : TextsHaveOneAnswer → CheckedRow words outside taken status
  checked-row one = record {
    accepted = λ source derivation e s.
        let x = answered-by words outside taken status r 0 s refl (check source.file derivation source.root) e in
        printed-acceptance source derivation x.text x.is x.report;
    refused = λ s.
        let x = answered words outside taken status r 9 s refl in printed-refusal x.command x.says.text x.is_command x.says.is x.says.report;
    always = λ source derivation fs n c t e formed h.
        told-always words outside taken status r one (check source.file derivation source.root) 9 (refused_line n c) t e refl
        (of_formulas fs formed (told_refused n c h refl refl));
  }
