-- What `ground` reports of the formulas of its problem and of a derivation's text: the texts, and when each comes.
use Rattle.std.specs.Prelude.{◌≡◌, ◌≤◌, ◌<◌, ℕ, List, ◌++◌, codes, length, flat_map, None, Some, All, Contains}
use Rattle.std.specs.Fmt.{decimal}
use Rattle.std.specs.List.{enumerate_from}
use Rattle.fol_base.specs.Tree.{Tree}
use Rattle.fol_base.specs.Ground.{GroundClause}
use Rattle.fol_base.specs.Entails.{IsRefuted}
use Rattle.fol_base.specs.Covered.{InstanceOf}
use Rattle.tptp_tree.specs.declared.problem.Annotated.{Annotated}
use Rattle.signature.specs.Form.{clausal_form}
use Rattle.signature.specs.declared.symbol.Symbol.{Symbol}
use Rattle.kernel_steps.specs.declared.step.Line.{Line}
use Rattle.clausal_form.specs.FormFunctions.{is_predicate_in, functions_of, OwnFunctions}
use Rattle.clausal_form.specs.DerivationTexts.{IsRefusedDerivation}
use Rattle.tstp_checker.specs.AcceptedLines.{AreAcceptedLines}
use Rattle.tstp_checker.specs.Causes.{cause_meant}
use Rattle.tstp_checker.specs.declared.cause.Cause.{Cause}
use Rattle.tstp_checker.specs.declared.cause.Cause.TheVariants.{Text}
use Rattle.herbrand_list.specs.GroundList.{names_line, ground_list, weight, first_constant}
use Rattle.herbrand_list.specs.Answer.{nameless}
use Rattle.herbrand_list.specs.declared.fault.TheConstants.{MOST_WEIGHT}
use Rattle.pool_writer.specs.Saturation.{literals_text}
use Rattle.command_reports.specs.Outside.{Outside}
use Rattle.command_reports.specs.CheckReports.{IsLoaded, IsUnloaded, IsTooLong, refused_line}
use Rattle.command_reports.specs.Reports.{lost_report}

-- ---- the texts

-- the line of an instance, by its place in the list
abbrev pub instance_text : List Symbol → ℕ × GroundClause → List ℕ
instance_text symbols g = codes "cnf(g" ++ decimal g.0 ++ codes ",axiom," ++ literals_text symbols (nameless g.1) ++ codes ").\n"

-- A line for each instance, in order: they are named g0, g1 and so on.
abbrev pub instances_text : List Symbol → List GroundClause → List ℕ
instances_text symbols list = flat_map (instance_text symbols) (enumerate_from 0 list)

abbrev pub count_line : ℕ → List ℕ
count_line count = codes "% ground instances " ++ decimal count ++ codes "\n"

abbrev pub listed_report : List Symbol → List GroundClause → List ℕ
listed_report symbols list = count_line (length list) ++ instances_text symbols list

abbrev pub names_report : ℕ → List ℕ
names_report line = codes "% refused at line " ++ decimal line ++ codes ": Names\n"

abbrev pub large_report : List ℕ
large_report = codes "% refused: Large\n"

-- ---- a text that is accepted

-- what a variable becomes that has no term: the constant with the lowest number
abbrev pub form_constant : List Annotated → Tree
form_constant formulas = first_constant (functions_of (clausal_form formulas).symbols)

-- These are the lines that the text spells. It is accepted, and none of them speaks of names.
pub record IsNameless (formulas : List Annotated) (bytes : List ℕ) (lines : List Line) : Type 0 where
  pub accepted : AreAcceptedLines formulas bytes lines
  pub no_names : names_line lines ≡ None

-- The list is the ground list of such a text. Each entry is a ground instance of a clause of the form, and no interpretation makes all of them
-- true.
pub record IsGroundListOf (formulas : List Annotated) (bytes : List ℕ) (list : List GroundClause) : Type 0 where
  pub lines : List Line
  pub nameless : IsNameless formulas bytes lines
  pub light : weight (form_constant formulas) lines ≤ MOST_WEIGHT
  pub is : list ≡ ground_list (form_constant formulas) lines
  pub own : OwnFunctions (clausal_form formulas).symbols
  pub instances : All (InstanceOf own.functions (Contains (clausal_form formulas).clauses)) list
  pub refuted : IsRefuted (is_predicate_in (clausal_form formulas).symbols) list

-- That line is the first of an accepted text that speaks of names.
pub record HasNamesAt (formulas : List Annotated) (bytes : List ℕ) (line : ℕ) : Type 0 where
  pub lines : List Line
  pub accepted : AreAcceptedLines formulas bytes lines
  pub first : names_line lines ≡ Some line

-- The instances are too many and too large.
pub record HasLargeList (formulas : List Annotated) (bytes : List ℕ) : Type 0 where
  pub lines : List Line
  pub nameless : IsNameless formulas bytes lines
  pub heavy : MOST_WEIGHT < weight (form_constant formulas) lines

-- ---- the reports

-- The report on a text: its ground list, why it has none, or that it is refused.
pub data IsListing (formulas : List Annotated) (bytes : List ℕ) (status : ℕ) (text : List ℕ) : Type 0 where
  told_list :
      (list : List GroundClause) → IsGroundListOf formulas bytes list → status ≡ 13
      → text ≡ listed_report (clausal_form formulas).symbols list → IsListing formulas bytes status text
  told_names : (line : ℕ) → HasNamesAt formulas bytes line → status ≡ 14 → text ≡ names_report line → IsListing formulas bytes status text
  told_large : HasLargeList formulas bytes → status ≡ 14 → text ≡ large_report → IsListing formulas bytes status text
  told_wrong :
      (line : ℕ) (cause : Cause) → IsRefusedDerivation formulas bytes line (cause_meant cause) → status ≡ 9 → text ≡ refused_line line cause
      → IsListing formulas bytes status text

-- The report on the text of the derivation's file, or that the file is too long, or couldn't be loaded.
pub data IsGroundReport (outside : Outside) (file derivation : List ℕ) (formulas : List Annotated) (status : ℕ) (text : List ℕ) : Type 0 where
  told_listing :
      (bytes : List ℕ) → IsLoaded outside derivation bytes → IsListing formulas bytes status text
      → IsGroundReport outside file derivation formulas status text
  told_long :
      IsTooLong outside derivation 0 Text → status ≡ 9 → text ≡ refused_line 0 Text → IsGroundReport outside file derivation formulas status text
  told_missing :
      (name : List ℕ) → IsUnloaded outside derivation name → status ≡ 4 → text ≡ lost_report file name
      → IsGroundReport outside file derivation formulas status text
