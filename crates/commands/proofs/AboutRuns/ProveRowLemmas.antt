-- What the statuses of `prove` say.
use Rattle.std.proofs.Common.{◌≡◌, ◌⊎◌, inl, inr, ℕ, List, refl, ap, ◌∙◌, arith}
use Rattle.std.specs.Prelude.{Some}
use Rattle.outside.specs.Sink.{with_bytes}
use Rattle.tptp_tree.specs.declared.problem.Annotated.{Annotated}
use Rattle.command_words.specs.declared.command.ProveOptions.{ProveOptions}
use Rattle.command_reports.specs.Outside.{Outside}
use Rattle.command_words.specs.Words.{Command, prove, bench, command_of}
use Rattle.commands.specs.Problems.{Source, source_at, IsRead, IsFormed, OfFormed}
use Rattle.command_reports.specs.ProveReports.{IsProofReport, told_refuted, told_saturated, told_part_saturated, told_spent, told_heavy}
use Rattle.commands.specs.Answer.{Gives, Says, IsAnswered}
use Rattle.commands.specs.Run.{Taken, IsRun}
use Rattle.commands.specs.Rows.{Took}
use Rattle.commands.specs.BenchRows.{ForBench, PrintedSummary}
use Rattle.commands.specs.ProveRows.{ForProve, PrintedRefutation, PrintedRow, PrintedSaturation, SaturatedRow, PrintedPartSaturation, PartSaturatedRow, PrintedSpent, PrintedHeavy, GaveUpRow}
use Rattle.commands.proofs.AboutRuns.BenchRowLemmas.{said-summary}
use Rattle.commands.proofs.AboutRuns.StatusLemmas.{not-said, is-said}
use Rattle.commands.proofs.AboutRuns.EndLemmas.{answered, answered-by}

module _ (words : List (List ℕ)) (outside : Outside) (taken : Taken) (status : ℕ) (r : IsRun words outside taken status) where
  -- ---- 0

  said-refutation :
      (file : List ℕ) (options : ProveOptions) (fs : List Annotated) (a : List ℕ) → IsProofReport file options fs 0 a → Took taken a
      → PrintedRefutation taken file options fs
  said-refutation file options fs a (told_refuted d h e w) k =
      record { derivation = d; refuted = h; report = k ∙ ap (with_bytes taken.bytes_before) w }
  said-refutation file options fs a (told_saturated m n h e w) k = absurd (omega (arith, e))
  said-refutation file options fs a (told_part_saturated m n h e w) k = absurd (omega (arith, e))
  said-refutation file options fs a (told_spent n h e w) k = absurd (omega (arith, e))
  said-refutation file options fs a (told_heavy n h e w) k = absurd (omega (arith, e))

  printed-refutation :
      (source : Source) (options : ProveOptions) (workers : ℕ) (a : List ℕ) → IsAnswered (prove source.file source.root options workers) outside 0 a → Took taken a
      → OfFormed (IsRead outside source) (PrintedRefutation taken source.file options)
  printed-refutation source options workers a h k =
      let x = is-said outside (prove source.file source.root options workers) 0 a refl h in
      record { formulas = x.formulas; formed = x.formed; says = said-refutation source.file options x.formulas a x.says k }

  pub printed-row : PrintedRow words outside taken status
  printed-row source options workers e s =
      let x = answered-by words outside taken status r 0 s refl (prove source.file source.root options workers) e in
      printed-refutation source options workers x.text x.is x.report

  -- ---- 1

  abbrev Saturates : Type 0
  Saturates =
      ForProve words (λ source options. OfFormed (IsRead outside source) (PrintedSaturation taken source.file options))
      ⊎ ForBench words (λ number. PrintedSummary taken number 1)

  said-saturation :
      (command : Command) (fs : List Annotated) (a : List ℕ) → command_of words ≡ Some command → IsFormed (Gives outside command) fs
      → Says outside command fs 1 a → Took taken a → Saturates
  said-saturation (prove file root options workers) fs a i f (told_saturated m n h e w) k =
      inl (record {
        source = source_at file root;
        options = options;
        workers = workers;
        is_prove = i;
        says = record {
          formulas = fs;
          formed = f;
          says = record { members = m; whole = n; saturation = h; report = k ∙ ap (with_bytes taken.bytes_before) w };
        };
      })
  said-saturation (bench number) fs a i f h k =
      inr (record { number = number; is_bench = i; says = said-summary taken number fs 1 a f.read h k })
  said-saturation (prove file root options workers) fs a i f (told_refuted d h e w) k = absurd (omega (arith, e))
  said-saturation (prove file root options workers) fs a i f (told_part_saturated m n h e w) k = absurd (omega (arith, e))
  said-saturation (prove file root options workers) fs a i f (told_spent n h e w) k = absurd (omega (arith, e))
  said-saturation (prove file root options workers) fs a i f (told_heavy n h e w) k = absurd (omega (arith, e))
  said-saturation command fs a i f h k = not-said outside command fs 1 a refl h

  printed-saturation :
      (command : Command) (a : List ℕ) → command_of words ≡ Some command → IsAnswered command outside 1 a → Took taken a → Saturates
  printed-saturation command a i h k =
      let x = is-said outside command 1 a refl h in said-saturation command x.formulas a i x.formed x.says k

  pub saturated-row : SaturatedRow words outside taken status
  saturated-row s =
      let x = answered words outside taken status r 1 s refl in
      printed-saturation x.command x.says.text x.is_command x.says.is x.says.report

  -- ---- 10

  said-part-saturation :
      (command : Command) (fs : List Annotated) (a : List ℕ) → command_of words ≡ Some command → IsFormed (Gives outside command) fs
      → Says outside command fs 10 a → Took taken a
      → ForProve words (λ source options. OfFormed (IsRead outside source) (PrintedPartSaturation taken source.file options))
  said-part-saturation (prove file root options workers) fs a i f (told_part_saturated m n h e w) k = record {
    source = source_at file root;
    options = options;
    workers = workers;
    is_prove = i;
    says = record {
      formulas = fs;
      formed = f;
      says = record { members = m; some_left = n; saturation = h; report = k ∙ ap (with_bytes taken.bytes_before) w };
    };
  }
  said-part-saturation (prove file root options workers) fs a i f (told_refuted d h e w) k = absurd (omega (arith, e))
  said-part-saturation (prove file root options workers) fs a i f (told_saturated m n h e w) k = absurd (omega (arith, e))
  said-part-saturation (prove file root options workers) fs a i f (told_spent n h e w) k = absurd (omega (arith, e))
  said-part-saturation (prove file root options workers) fs a i f (told_heavy n h e w) k = absurd (omega (arith, e))
  said-part-saturation command fs a i f h k = not-said outside command fs 10 a refl h

  printed-part-saturation :
      (command : Command) (a : List ℕ) → command_of words ≡ Some command → IsAnswered command outside 10 a → Took taken a
      → ForProve words (λ source options. OfFormed (IsRead outside source) (PrintedPartSaturation taken source.file options))
  printed-part-saturation command a i h k =
      let x = is-said outside command 10 a refl h in said-part-saturation command x.formulas a i x.formed x.says k

  pub part-saturated-row : PartSaturatedRow words outside taken status
  part-saturated-row s =
      let x = answered words outside taken status r 10 s refl in
      printed-part-saturation x.command x.says.text x.is_command x.says.is x.says.report

  -- ---- 2

  abbrev GivesUp : Source → ProveOptions → Type 0
  GivesUp source options =
      OfFormed (IsRead outside source) (λ formulas. PrintedSpent taken source.file options formulas ⊎ PrintedHeavy taken source.file options formulas)

  said-given-up :
      (command : Command) (fs : List Annotated) (a : List ℕ) → command_of words ≡ Some command → IsFormed (Gives outside command) fs
      → Says outside command fs 2 a → Took taken a → ForProve words GivesUp ⊎ ForBench words (λ number. PrintedSummary taken number 2)
  said-given-up (prove file root options workers) fs a i f (told_spent n h e w) k =
      inl (record {
        source = source_at file root;
        options = options;
        workers = workers;
        is_prove = i;
        says = record {
          formulas = fs;
          formed = f;
          says = inl (record { count = n; spent = h; report = k ∙ ap (with_bytes taken.bytes_before) w });
        };
      })
  said-given-up (prove file root options workers) fs a i f (told_heavy n h e w) k =
      inl (record {
        source = source_at file root;
        options = options;
        workers = workers;
        is_prove = i;
        says = record {
          formulas = fs;
          formed = f;
          says = inr (record { key = n; heavy = h; report = k ∙ ap (with_bytes taken.bytes_before) w });
        };
      })
  said-given-up (bench number) fs a i f h k =
      inr (record { number = number; is_bench = i; says = said-summary taken number fs 2 a f.read h k })
  said-given-up (prove file root options workers) fs a i f (told_refuted d h e w) k = absurd (omega (arith, e))
  said-given-up (prove file root options workers) fs a i f (told_saturated m n h e w) k = absurd (omega (arith, e))
  said-given-up (prove file root options workers) fs a i f (told_part_saturated m n h e w) k = absurd (omega (arith, e))
  said-given-up command fs a i f h k = not-said outside command fs 2 a refl h

  gives-up :
      (command : Command) (a : List ℕ) → command_of words ≡ Some command → IsAnswered command outside 2 a → Took taken a
      → ForProve words GivesUp ⊎ ForBench words (λ number. PrintedSummary taken number 2)
  gives-up command a i h k = let x = is-said outside command 2 a refl h in said-given-up command x.formulas a i x.formed x.says k

  pub gave-up-row : GaveUpRow words outside taken status
  gave-up-row s =
      let x = answered words outside taken status r 2 s refl in gives-up x.command x.says.text x.is_command x.says.is x.says.report
