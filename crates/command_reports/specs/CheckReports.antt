-- What `check` reports of the formulas of its problem and of a derivation's text: the texts, and when each comes.
use Rattle.std.specs.Prelude.{◌≡◌, ◌≤◌, ◌⊎◌, ℕ, List, ◌++◌, codes, length, IfSome}
use Rattle.std.specs.Fmt.{decimal}
use Rattle.outside.specs.Faults.{Rose}
use Rattle.outside.specs.Library.{HoldsExactly, FoundMore}
use Rattle.tptp_token.specs.declared.limits.TheConstants.{MOST_TEXT_BYTES}
use Rattle.tptp_tree.specs.declared.problem.Annotated.{Annotated}
use Rattle.clausal_form.specs.FormFunctions.{IsHerbrandRefuted}
use Rattle.clausal_form.specs.DerivationTexts.{IsAcceptedDerivation, IsRefusedDerivation}
use Rattle.tstp_checker.specs.Causes.{cause_meant}
use Rattle.tstp_checker.specs.declared.cause.Cause.{Cause}
use Rattle.tstp_checker.specs.declared.cause.Cause.TheVariants.{Text, Order, UnknownParent, Leaf, Clausify, Binding, Rule, Conclusion, NewSymbol, NoEmptyClause}
use Rattle.command_reports.specs.Meaning.{IsTheorem}
use Rattle.command_reports.specs.Outside.{Outside}
use Rattle.command_reports.specs.Reports.{lost_report}

-- ---- the texts

-- causes by their names
abbrev pub cause_word : Cause → List ℕ
cause_word Text = codes "Text"
cause_word Order = codes "Order"
cause_word UnknownParent = codes "UnknownParent"
cause_word Leaf = codes "Leaf"
cause_word Clausify = codes "Clausify"
cause_word Binding = codes "Binding"
cause_word Rule = codes "Rule"
cause_word Conclusion = codes "Conclusion"
cause_word NewSymbol = codes "NewSymbol"
cause_word NoEmptyClause = codes "NoEmptyClause"

abbrev pub accepted_line : ℕ → List ℕ
accepted_line lines = codes "% accepted " ++ decimal lines ++ codes " lines\n"

abbrev pub refused_line : ℕ → Cause → List ℕ
refused_line line cause = codes "% refused at line " ++ decimal line ++ codes ": " ++ cause_word cause ++ codes "\n"

-- ---- the reports

-- The text is that of the derivation's file.
pub record IsLoaded (outside : Outside) (derivation : List ℕ) (text : List ℕ) : Type 0 where
  pub held : HoldsExactly outside.told derivation text
  pub short : length text ≤ MOST_TEXT_BYTES

-- The text of the derivation's file is accepted, with this number of lines; and so some finite list of ground instances of the clausal form
-- is true in no interpretation, and the problem is a theorem.
pub record IsAccepted (outside : Outside) (derivation : List ℕ) (formulas : List Annotated) (lines : ℕ) : Type 0 where
  pub text : List ℕ
  pub loaded : IsLoaded outside derivation text
  pub accepted : IsAcceptedDerivation formulas text lines
  pub herbrand : IsHerbrandRefuted formulas
  pub theorem : IsTheorem formulas

-- The text is refused at its first bad line, for the first cause there.
pub record IsRefusedText (outside : Outside) (derivation : List ℕ) (formulas : List Annotated) (line : ℕ) (cause : Cause) : Type 0 where
  pub text : List ℕ
  pub loaded : IsLoaded outside derivation text
  pub refused : IsRefusedDerivation formulas text line (cause_meant cause)

-- A file over the limit is refused as a text, at line 0.
pub record IsTooLong (outside : Outside) (derivation : List ℕ) (line : ℕ) (cause : Cause) : Type 0 where
  pub found : FoundMore outside.told outside.found_after derivation MOST_TEXT_BYTES
  pub line_is : line ≡ 0
  pub cause_is : cause ≡ Text

-- The library failed on the derivation's file.
pub record IsUnloaded (outside : Outside) (derivation name : List ℕ) : Type 0 where
  pub rose : Rose outside.faults_before outside.faults_after
  pub name_is : name ≡ derivation
  pub failed : IfSome outside.failed_after (λ failed. failed ≡ derivation)

-- The report that the derivation is accepted, or refused at a line, or that its file couldn't be loaded.
pub data IsCheckReport (outside : Outside) (file derivation : List ℕ) (formulas : List Annotated) (status : ℕ) (text : List ℕ) : Type 0 where
  told_accepted :
      (lines : ℕ) → IsAccepted outside derivation formulas lines → status ≡ 0 → text ≡ accepted_line lines
      → IsCheckReport outside file derivation formulas status text
  told_refused :
      (line : ℕ) (cause : Cause) → IsRefusedText outside derivation formulas line cause ⊎ IsTooLong outside derivation line cause → status ≡ 9
      → text ≡ refused_line line cause → IsCheckReport outside file derivation formulas status text
  told_unloaded :
      (name : List ℕ) → IsUnloaded outside derivation name → status ≡ 4 → text ≡ lost_report file name
      → IsCheckReport outside file derivation formulas status text
