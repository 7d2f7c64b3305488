-- What the statuses of `ground` say.
use Rattle.std.proofs.Common.{◌≡◌, ◌⊎◌, inl, inr, ℕ, List, refl, ap, ◌∙◌, arith}
use Rattle.std.specs.Prelude.{Some, true, Result, Ok, Err}
use Rattle.outside.specs.Sink.{with_bytes}
use Rattle.outside.specs.declared.fault.SinkFault.{SinkFault}
use Rattle.tptp_tree.specs.declared.problem.Annotated.{Annotated}
use Rattle.signature.specs.Form.{clausal_form}
use Rattle.clausal_form.specs.DerivationLaws.{TextsHaveOneAnswer}
use Rattle.herbrand_list.specs.GroundList.{ground_list}
use Rattle.tstp_checker.specs.declared.cause.Cause.{Cause}
use Rattle.tstp_checker.specs.declared.cause.Cause.TheVariants.{Text}
use Rattle.command_reports.specs.Outside.{Outside, IsTold}
use Rattle.command_words.specs.Words.{Command, list_ground, command_of}
use Rattle.commands.specs.Problems.{Source, source_at, IsRead, IsFormed, OfFormed, told_unread, told_unformed, of_formulas}
use Rattle.command_reports.specs.CheckReports.{IsLoaded, IsRefusedText, IsTooLong, refused_line}
use Rattle.command_reports.specs.GroundReports.{form_constant, IsListing, told_list, told_names, told_large, told_wrong, IsGroundReport, told_listing, told_long, told_missing, listed_report, names_report, large_report}
use Rattle.commands.specs.Answer.{Gives, Says, IsAnswered}
use Rattle.commands.specs.Laws.{is_exact}
use Rattle.commands.specs.Run.{Taken, IsDueTo, status_after, IsRun}
use Rattle.commands.specs.Rows.{Took, IsCut, EndsWith, IsValid}
use Rattle.commands.specs.CheckRows.{ForListing}
use Rattle.commands.specs.GroundRows.{PrintedList, PrintedUnlisted, GroundRow}
use Rattle.commands.proofs.AboutGround.ListingLemmas.{is-ground-list}
use Rattle.commands.proofs.AboutPages.OneAnswer.{not-load}
use Rattle.commands.proofs.AboutRuns.StatusLemmas.{not-said, is-said}
use Rattle.commands.proofs.AboutRuns.EndLemmas.{answered, due-to, told-always}

-- that a file is too long is told at line 0, as a text
long-is :
    (outside : Outside) (derivation : List ℕ) (line : ℕ) (cause : Cause) → IsTooLong outside derivation line cause
    → IsTooLong outside derivation 0 Text × (refused_line line cause ≡ refused_line 0 Text)
long-is outside derivation line cause h = (
  record { found = h.found; line_is = refl; cause_is = refl },
  ap (λ n. refused_line n cause) h.line_is ∙ ap (λ (c : Cause). refused_line 0 c) h.cause_is,
)

module _ (words : List (List ℕ)) (outside : Outside) (taken : Taken) (status : ℕ) (r : IsRun words outside taken status) where
  -- ---- 13

  abbrev Lists : Source → List ℕ → Type 0
  Lists source derivation = OfFormed (IsRead outside source) (PrintedList outside taken derivation)

  listing-printed :
      (derivation : List ℕ) (fs : List Annotated) (bytes a : List ℕ) → IsLoaded outside derivation bytes → IsListing fs bytes 13 a → Took taken a
      → PrintedList outside taken derivation fs
  listing-printed derivation fs bytes a l (told_list list h e w) k =
      record { bytes = bytes; loaded = l; list = list; listed = h; report = k ∙ ap (with_bytes taken.bytes_before) w }
  listing-printed derivation fs bytes a l (told_names n h e w) k = absurd (omega (arith, e))
  listing-printed derivation fs bytes a l (told_large h e w) k = absurd (omega (arith, e))
  listing-printed derivation fs bytes a l (told_wrong n c h e w) k = absurd (omega (arith, e))

  said-list :
      (command : Command) (fs : List Annotated) (a : List ℕ) → command_of words ≡ Some command → IsFormed (Gives outside command) fs
      → Says outside command fs 13 a → Took taken a → ForListing words Lists
  said-list (list_ground file derivation root) fs a i f (told_listing bytes l h) k = record {
    source = source_at file root;
    derivation = derivation;
    is_listing = i;
    says = record { formulas = fs; formed = f; says = listing-printed derivation fs bytes a l h k };
  }
  said-list (list_ground file derivation root) fs a i f (told_long h e w) k = absurd (omega (arith, e))
  said-list (list_ground file derivation root) fs a i f (told_missing n h e w) k = absurd (omega (arith, e))
  said-list command fs a i f h k = not-said outside command fs 13 a refl h

  printed-list : (command : Command) (a : List ℕ) → command_of words ≡ Some command → IsAnswered command outside 13 a → Took taken a → ForListing words Lists
  printed-list command a i h k = let x = is-said outside command 13 a refl h in said-list command x.formulas a i x.formed x.says k

  -- ---- 14

  abbrev ListsNone : Source → List ℕ → Type 0
  ListsNone source derivation = OfFormed (IsRead outside source) (PrintedUnlisted outside taken derivation)

  listing-refused :
      (derivation : List ℕ) (fs : List Annotated) (bytes a : List ℕ) → IsLoaded outside derivation bytes → IsListing fs bytes 14 a → Took taken a
      → PrintedUnlisted outside taken derivation fs
  listing-refused derivation fs bytes a l (told_names n h e w) k =
      inl (record { bytes = bytes; loaded = l; line = n; named = h; report = k ∙ ap (with_bytes taken.bytes_before) w })
  listing-refused derivation fs bytes a l (told_large h e w) k =
      inr (record { bytes = bytes; loaded = l; large = h; report = k ∙ ap (with_bytes taken.bytes_before) w })
  listing-refused derivation fs bytes a l (told_list list h e w) k = absurd (omega (arith, e))
  listing-refused derivation fs bytes a l (told_wrong n c h e w) k = absurd (omega (arith, e))

  said-none :
      (command : Command) (fs : List Annotated) (a : List ℕ) → command_of words ≡ Some command → IsFormed (Gives outside command) fs
      → Says outside command fs 14 a → Took taken a → ForListing words ListsNone
  said-none (list_ground file derivation root) fs a i f (told_listing bytes l h) k = record {
    source = source_at file root;
    derivation = derivation;
    is_listing = i;
    says = record { formulas = fs; formed = f; says = listing-refused derivation fs bytes a l h k };
  }
  said-none (list_ground file derivation root) fs a i f (told_long h e w) k = absurd (omega (arith, e))
  said-none (list_ground file derivation root) fs a i f (told_missing n h e w) k = absurd (omega (arith, e))
  said-none command fs a i f h k = not-said outside command fs 14 a refl h

  printed-none : (command : Command) (a : List ℕ) → command_of words ≡ Some command → IsAnswered command outside 14 a → Took taken a → ForListing words ListsNone
  printed-none command a i h k = let x = is-said outside command 14 a refl h in said-none command x.formulas a i x.formed x.says k

  -- ---- always

  module _ (one : TextsHaveOneAnswer) (source : Source) (derivation : List ℕ) (fs : List Annotated) (t : IsTold outside)
      (e : command_of words ≡ Some (list_ground source.file derivation source.root)) (formed : IsFormed (IsRead outside source) fs) where
    -- what is said of a text
    said-always :
        (known : ℕ) (text : List ℕ) → is_exact known ≡ true → IsGroundReport outside source.file derivation fs known text
        → EndsWith taken status known text
    said-always known text x h =
        told-always words outside taken status r one (list_ground source.file derivation source.root) known text t e x (of_formulas fs formed h)

    refused-always :
        (line : ℕ) (cause : Cause) → IsRefusedText outside derivation fs line cause ⊎ IsTooLong outside derivation line cause
        → EndsWith taken status 9 (refused_line line cause)
    refused-always line cause (inl h) = said-always 9 (refused_line line cause) refl (told_listing h.text h.loaded (told_wrong line cause h.refused refl refl))
    refused-always line cause (inr h) =
        let long = long-is outside derivation line cause h in said-always 9 (refused_line line cause) refl (told_long long.0 refl long.1)

  -- ---- completeness

  abbrev IsListedOrCut : Type 0
  IsListedOrCut = (status ≡ 13) ⊎ ((status ≡ 14) ⊎ ((status ≡ 9) ⊎ IsCut status))

  listing-complete : (fs : List Annotated) (bytes : List ℕ) (s : ℕ) (a : List ℕ) → IsListing fs bytes s a → status ≡ s → IsListedOrCut
  listing-complete fs bytes s a (told_list list h e w) i = inl (i ∙ e)
  listing-complete fs bytes s a (told_names n h e w) i = inr (inl (i ∙ e))
  listing-complete fs bytes s a (told_large h e w) i = inr (inl (i ∙ e))
  listing-complete fs bytes s a (told_wrong n c h e w) i = inr (inr (inl (i ∙ e)))

  said-complete :
      (file derivation : List ℕ) (fs : List Annotated) (s : ℕ) (a : List ℕ) → IsTold outside → IsGroundReport outside file derivation fs s a → status ≡ s
      → IsListedOrCut
  said-complete file derivation fs s a t (told_listing bytes l h) i = listing-complete fs bytes s a h i
  said-complete file derivation fs s a t (told_long h e w) i = inr (inr (inl (i ∙ e)))
  said-complete file derivation fs s a t (told_missing n h e w) i = absurd (t.stays h.rose)

  module _ (source : Source) (derivation : List ℕ) (t : IsTold outside)
      (e : command_of words ≡ Some (list_ground source.file derivation source.root)) (v : IsValid outside source) where
    ground-complete : (s : ℕ) (a : List ℕ) → IsAnswered (list_ground source.file derivation source.root) outside s a → status ≡ s → IsListedOrCut
    ground-complete s a (of_formulas fs h w) i = said-complete source.file derivation fs s a t w i
    ground-complete s a (told_unread c f p h k w) i = absurd (v.read c f p (not-load outside source t c f p h) h.fault)
    ground-complete s a (told_unformed c n h k w) i = absurd (v.formed c n h)

    due : IsDueTo (list_ground source.file derivation source.root) outside r.due r.text → status ≡ r.due → IsListedOrCut
    due (inl d) s = ground-complete r.due r.text d s
    due (inr m) s = inr (inr (inr (inl (s ∙ m.0))))

    complete : (o : Result (Unit {0}) SinkFault) → status ≡ status_after r.due o → IsListedOrCut
    complete (Ok u) s = due (due-to words outside taken status r (list_ground source.file derivation source.root) e) s
    complete (Err f) s = inr (inr (inr (inr s)))

  pub ground-row : TextsHaveOneAnswer → GroundRow words outside taken status
  ground-row one = record {
    listed = λ s.
        let x = answered words outside taken status r 13 s refl in printed-list x.command x.says.text x.is_command x.says.is x.says.report;
    unlisted = λ s.
        let x = answered words outside taken status r 14 s refl in printed-none x.command x.says.text x.is_command x.says.is x.says.report;
    always_listed = λ source derivation bytes fs lines t e formed loaded nameless light.
        said-always one source derivation fs t e formed 13 (listed_report (clausal_form fs).symbols (ground_list (form_constant fs) lines)) refl
        (told_listing bytes loaded
        (told_list (ground_list (form_constant fs) lines)
        (is-ground-list fs bytes lines (ground_list (form_constant fs) lines) nameless light refl) refl refl));
    always_named = λ source derivation bytes fs line t e formed loaded h.
        said-always one source derivation fs t e formed 14 (names_report line) refl (told_listing bytes loaded (told_names line h refl refl));
    always_large = λ source derivation bytes fs t e formed loaded h.
        said-always one source derivation fs t e formed 14 large_report refl (told_listing bytes loaded (told_large h refl refl));
    always_refused = λ source derivation fs line cause t e formed h. refused-always one source derivation fs t e formed line cause h;
    complete = λ source derivation text t e v loaded. complete source derivation t e v r.delivered.outcome r.delivered.status_is;
  }
