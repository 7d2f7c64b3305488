-- From the reports of the stages to the report of a command.
use Rattle.std.proofs.Common.{◌≡◌, ◌≤◌, ℕ, List, length, refl, ap, sym, subst, ◌∙◌, inl, inr, arith}
use Rattle.std.specs.Prelude.{Option, None, Some, Result, Ok, Err, IfOk, IfSome, option_map}
use Rattle.outside.specs.Faults.{Rose}
use Rattle.outside.specs.Library.{Holdings, HoldsExactly, FoundMore, failed_after as after_load}
use Rattle.outside.specs.declared.fault.LoadFault.{LoadFault}
use Rattle.outside.specs.declared.fault.LoadFault.TheVariants.{Failed}
use Rattle.tptp_token.specs.declared.limits.TheConstants.{MOST_TEXT_BYTES}
use Rattle.tptp_tree.specs.declared.problem.Annotated.{Annotated}
use Rattle.clausal_form.specs.DerivationTexts.{IsAcceptedDerivation, IsRefusedDerivation}
use Rattle.clausal_form.specs.FormFunctions.{IsHerbrandRefuted}
use Rattle.tstp_checker.specs.Causes.{cause_meant}
use Rattle.tstp_checker.specs.declared.cause.Cause.{Cause}
use Rattle.tstp_checker.specs.declared.cause.Cause.TheVariants.{Text}
use Rattle.command_reports.specs.Outside.{Outside}
use Rattle.command_reports.specs.Meaning.{IsTheorem}
use Rattle.command_words.specs.Words.{Command}
use Rattle.commands.specs.Problems.{Source, IsFormed, IsReadReport, IsRead, told_unread, told_unformed, of_formulas}
use Rattle.command_reports.specs.CheckReports.{IsLoaded, IsUnloaded, IsCheckReport, told_accepted, told_refused, told_unloaded, accepted_line, refused_line}
use Rattle.command_reports.specs.GroundReports.{IsListing, IsGroundReport, told_listing, told_long, told_missing}
use Rattle.commands.specs.Answer.{IsAnswered}
use Rattle.commands.specs.AnswerShape.{IsFormedFrom, IsStop, IsStopReport, IsJudgement, judged_accepted, judged_refused}
use Rattle.command_reports.specs.Reports.{lost_report}
use Rattle.commands.specs.declared.problem.FormedProblem.{FormedProblem}
use Rattle.commands.specs.declared.problem.Stop.{Stop}
use Rattle.commands.specs.declared.problem.Stop.TheVariants.{NoMemory, Unread as NotRead, Unformed as NotFormed}
use Rattle.command_reports.specs.declared.report.Report.{Report}

-- whatever would have been said of the formulas
pub stop-reports :
    (outside : Outside) (source : Source) (Says : List Annotated → ℕ → List ℕ → Type 0) (stop : Stop) (status : ℕ) (text : List ℕ)
    → IsStop outside source stop → IsStopReport source.file stop status text → IsReadReport outside source Says status text
stop-reports outside source Says NoMemory status text h e = absurd e
stop-reports outside source Says (NotRead cause name place) status text h e = told_unread cause name place h e.0 e.1
stop-reports outside source Says (NotFormed cause name) status text h e = told_unformed cause name h e.0 e.1

is-formed : (outside : Outside) (source : Source) (formed : FormedProblem) → IsFormedFrom outside.told source formed → IsFormed (IsRead outside source) formed.problem.formulas
is-formed outside source formed h = record { read = h.read_from.read; within = h.within }

-- what is said of the formulas of a problem that was formed
pub formed-reports :
    (outside : Outside) (source : Source) (Says : List Annotated → ℕ → List ℕ → Type 0) (formed : FormedProblem) (status : ℕ) (text : List ℕ)
    → IsFormedFrom outside.told source formed → Says formed.problem.formulas status text → IsReadReport outside source Says status text
formed-reports outside source Says formed status text h says = of_formulas formed.problem.formulas (is-formed outside source formed h) says

-- ---- `check`

-- what is judged of a text, by what the report of it is made of
pub accepted-judged :
    {E : Type 0} (r : Result Report E) (Made : Report → Type 0) (formulas : List Annotated) (bytes : List ℕ) (lines : ℕ)
    → IsAcceptedDerivation formulas bytes lines → IsHerbrandRefuted formulas → IsTheorem formulas
    → ((report : Report) → Made report → (report.status ≡ 0) × (report.text ≡ accepted_line lines)) → IfOk r Made
    → IfOk r (λ report. IsJudgement formulas bytes report.status report.text)
accepted-judged (Ok report) Made formulas bytes lines a h t is told = judged_accepted lines a h t (is report told).0 (is report told).1
accepted-judged (Err fault) Made formulas bytes lines a h t is told = tt

pub refused-judged :
    {E : Type 0} (r : Result Report E) (Made : Report → Type 0) (formulas : List Annotated) (bytes : List ℕ) (line : ℕ) (cause : Cause)
    → IsRefusedDerivation formulas bytes line (cause_meant cause)
    → ((report : Report) → Made report → (report.status ≡ 9) × (report.text ≡ refused_line line cause)) → IfOk r Made
    → IfOk r (λ report. IsJudgement formulas bytes report.status report.text)
refused-judged (Ok report) Made formulas bytes line cause h is told = judged_refused line cause h (is report told).0 (is report told).1
refused-judged (Err fault) Made formulas bytes line cause h is told = tt

-- what is judged of the text of the derivation's file
judgement-reports :
    (outside : Outside) (file derivation bytes : List ℕ) (formulas : List Annotated) (status : ℕ) (text : List ℕ)
    → IsLoaded outside derivation bytes → IsJudgement formulas bytes status text → IsCheckReport outside file derivation formulas status text
judgement-reports outside file derivation bytes formulas status text l (judged_accepted lines a h t s w) =
    told_accepted lines (record { text = bytes; loaded = l; accepted = a; herbrand = h; theorem = t }) s w
judgement-reports outside file derivation bytes formulas status text l (judged_refused line cause r s w) =
    told_refused line cause (inl (record { text = bytes; loaded = l; refused = r })) s w

pub loaded :
    (outside : Outside) (told : Option Holdings) (derivation bytes items : List ℕ)
    → told ≡ outside.told → HoldsExactly told derivation items → bytes ≡ items → length bytes ≤ MOST_TEXT_BYTES → IsLoaded outside derivation bytes
loaded outside told derivation bytes items same held is short = record {
  held =
      subst (λ (o : Option Holdings). HoldsExactly o derivation bytes) same
      (subst (λ (x : List ℕ). HoldsExactly told derivation x) (sym is) held);
  short = short;
}

pub loaded-reports :
    {E : Type 0} (r : Result Report E) (outside : Outside) (source : Source) (derivation bytes : List ℕ) (formed : FormedProblem)
    → IsFormedFrom outside.told source formed → IsLoaded outside derivation bytes
    → IfOk r (λ report. IsJudgement formed.problem.formulas bytes report.status report.text)
    → IfOk r (λ report. IsReadReport outside source (IsCheckReport outside source.file derivation) report.status report.text)
loaded-reports (Ok report) outside source derivation bytes formed h l told =
    formed-reports outside source (IsCheckReport outside source.file derivation) formed report.status report.text h
    (judgement-reports outside source.file derivation bytes formed.problem.formulas report.status report.text l told)
loaded-reports (Err fault) outside source derivation bytes formed h l told = tt

-- a file that is too long, where the library tells as it did before the problem was read
pub long-reports :
    {E : Type 0} (r : Result Report E) (outside : Outside) (source : Source) (derivation : List ℕ) (formed : FormedProblem) (told : Option Holdings)
    → IsFormedFrom outside.told source formed → told ≡ outside.told → FoundMore told outside.found_after derivation MOST_TEXT_BYTES
    → IfOk r (λ report. (report.status ≡ 9) × (report.text ≡ refused_line 0 Text))
    → IfOk r (λ report. IsReadReport outside source (IsCheckReport outside source.file derivation) report.status report.text)
long-reports (Ok report) outside source derivation formed told h same more is =
    let found : FoundMore outside.told outside.found_after derivation MOST_TEXT_BYTES =
    subst (λ (o : Option Holdings). FoundMore o outside.found_after derivation MOST_TEXT_BYTES) same more in
    formed-reports outside source (IsCheckReport outside source.file derivation) formed report.status report.text h
    (told_refused 0 Text (inr (record { found = found; line_is = refl; cause_is = refl })) is.0 is.1)
long-reports (Err fault) outside source derivation formed told h same more is = tt

-- a count that rose since a later moment rose since an earlier one
rose-since : (a b c : ℕ) → a ≤ b → Rose b c → Rose a c
rose-since a b c le (inl more) = inl (omega (arith, le, more))
rose-since a b c le (inr end) = inr end

named : (name : List ℕ) (o : Option (List ℕ)) → IfSome (option_map (λ x. name) o) (λ failed. failed ≡ name)
named name None = tt
named name (Some x) = refl

pub unloaded :
    {T : Type 0} (outside : Outside) (r : Result T LoadFault) (derivation name : List ℕ) (middle : ℕ) (before : Option (List ℕ))
    → r ≡ Err Failed → outside.faults_before ≤ middle → Rose middle outside.faults_after → name ≡ derivation
    → outside.failed_after ≡ after_load derivation r before → IsUnloaded outside derivation name
unloaded {T} outside r derivation name middle before fails later rose is failed = record {
  rose = rose-since outside.faults_before middle outside.faults_after later rose;
  name_is = is;
  failed =
      subst (λ (o : Option (List ℕ)). IfSome o (λ failed. failed ≡ derivation))
      (sym (failed ∙ ap (λ (q : Result T LoadFault). after_load derivation q before) fails)) (named derivation before);
}

pub lost-reports :
    {E : Type 0} (r : Result Report E) (outside : Outside) (source : Source) (derivation name : List ℕ) (formed : FormedProblem)
    → IsFormedFrom outside.told source formed → IsUnloaded outside derivation name
    → IfOk r (λ report. (report.status ≡ 4) × (report.text ≡ lost_report source.file name))
    → IfOk r (λ report. IsReadReport outside source (IsCheckReport outside source.file derivation) report.status report.text)
lost-reports (Ok report) outside source derivation name formed h u told =
    formed-reports outside source (IsCheckReport outside source.file derivation) formed report.status report.text h
    (told_unloaded name u told.0 told.1)
lost-reports (Err fault) outside source derivation name formed h u told = tt

-- ---- `ground`, in the same way

pub listing-reports :
    {E : Type 0} (r : Result Report E) (outside : Outside) (source : Source) (derivation bytes : List ℕ) (formed : FormedProblem)
    → IsFormedFrom outside.told source formed → IsLoaded outside derivation bytes
    → IfOk r (λ report. IsListing formed.problem.formulas bytes report.status report.text)
    → IfOk r (λ report. IsReadReport outside source (IsGroundReport outside source.file derivation) report.status report.text)
listing-reports (Ok report) outside source derivation bytes formed h l told =
    formed-reports outside source (IsGroundReport outside source.file derivation) formed report.status report.text h (told_listing bytes l told)
listing-reports (Err fault) outside source derivation bytes formed h l told = tt

pub long-listing-reports :
    {E : Type 0} (r : Result Report E) (outside : Outside) (source : Source) (derivation : List ℕ) (formed : FormedProblem) (told : Option Holdings)
    → IsFormedFrom outside.told source formed → told ≡ outside.told → FoundMore told outside.found_after derivation MOST_TEXT_BYTES
    → IfOk r (λ report. (report.status ≡ 9) × (report.text ≡ refused_line 0 Text))
    → IfOk r (λ report. IsReadReport outside source (IsGroundReport outside source.file derivation) report.status report.text)
long-listing-reports (Ok report) outside source derivation formed told h same more is =
    let found : FoundMore outside.told outside.found_after derivation MOST_TEXT_BYTES =
    subst (λ (o : Option Holdings). FoundMore o outside.found_after derivation MOST_TEXT_BYTES) same more in
    formed-reports outside source (IsGroundReport outside source.file derivation) formed report.status report.text h
    (told_long (record { found = found; line_is = refl; cause_is = refl }) is.0 is.1)
long-listing-reports (Err fault) outside source derivation formed told h same more is = tt

pub lost-listing-reports :
    {E : Type 0} (r : Result Report E) (outside : Outside) (source : Source) (derivation name : List ℕ) (formed : FormedProblem)
    → IsFormedFrom outside.told source formed → IsUnloaded outside derivation name
    → IfOk r (λ report. (report.status ≡ 4) × (report.text ≡ lost_report source.file name))
    → IfOk r (λ report. IsReadReport outside source (IsGroundReport outside source.file derivation) report.status report.text)
lost-listing-reports (Ok report) outside source derivation name formed h u told =
    formed-reports outside source (IsGroundReport outside source.file derivation) formed report.status report.text h
    (told_missing name u told.0 told.1)
lost-listing-reports (Err fault) outside source derivation name formed h u told = tt

-- ---- by the command

-- a report of the command that a value means
pub answered-as :
    {E : Type 0} (r : Result Report E) (outside : Outside) (command known : Command) → command ≡ known
    → IfOk r (λ report. IsAnswered known outside report.status report.text)
    → IfOk r (λ report. IsAnswered command outside report.status report.text)
answered-as r outside command known is told =
    subst (λ (k : Command). IfOk r (λ report. IsAnswered k outside report.status report.text)) (sym is) told
