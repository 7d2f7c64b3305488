-- What `model` reports of the formulas of its problem: the texts, and when each comes.
use Rattle.std.specs.Prelude.{◌≡◌, ℕ, ◌+◌, Bool, List, ◌++◌, codes}
use Rattle.std.specs.Fmt.{decimal}
use Rattle.tptp_tree.specs.declared.problem.Annotated.{Annotated}
use Rattle.signature.specs.Form.{clausal_form}
use Rattle.signature.specs.Occurrences.{problem_symbols}
use Rattle.laws_meaning.specs.Meaning.{has_conjecture}
use Rattle.finite_models.specs.Found.{AreRuledOut, IsLeastModel, IsTooLarge}
use Rattle.finite_models.specs.declared.answer.Interpretation.{Interpretation as Table}
use Rattle.model_writer.specs.Laws.{IsProblemModel, HasNoModelBelow}
use Rattle.model_writer.specs.TableText.{shown_part, model_text}
use Rattle.command_reports.specs.ProveReports.{saturation_word}
use Rattle.command_reports.specs.Reports.{status_line, printed_report}

-- ---- the texts

-- a table
abbrev pub found_report : List ℕ → Bool → List ℕ → List ℕ
found_report file conjecture table = printed_report file (saturation_word conjecture) (codes "FiniteModel") table

abbrev pub no_model_line : ℕ → List ℕ
no_model_line most = codes "% no model of size 1 to " ++ decimal most ++ codes "\n"

abbrev pub too_large_line : ℕ → List ℕ
too_large_line size = codes "% too large at size " ++ decimal size ++ codes "\n"

-- a search that gave up
abbrev pub no_model_report : List ℕ → ℕ → List ℕ
no_model_report file most = status_line (codes "GaveUp") file ++ no_model_line most

abbrev pub too_large_report : List ℕ → ℕ → List ℕ
too_large_report file size = status_line (codes "GaveUp") file ++ too_large_line size

-- ---- the reports

-- The text is that of a model of the clausal form, of the least size that has one. What it shows is an interpretation of the problem's symbols
-- that makes the axioms true and the conjecture false, or each formula where there is no conjecture; and none with fewer values does so.
pub record IsFoundModel (formulas : List Annotated) (most : ℕ) (text : List ℕ) : Type 0 where
  pub table : Table
  pub least : IsLeastModel (clausal_form formulas) most table
  pub printed : text ≡ model_text formulas table
  pub shown : IsProblemModel formulas (shown_part (problem_symbols formulas) table)
  pub smaller : HasNoModelBelow formulas table.size

-- No size up to `most` has a model of the clausal form, and so none of the problem; and each of these sizes could be searched.
pub record HasNoModelTo (formulas : List Annotated) (most : ℕ) : Type 0 where
  pub ruled_out : AreRuledOut (clausal_form formulas) (most + 1)
  pub none : HasNoModelBelow formulas (most + 1)

-- The size is the least that is too large to be searched, and no smaller one has a model.
pub record IsTooLargeAt (formulas : List Annotated) (most size : ℕ) : Type 0 where
  pub too_large : IsTooLarge (clausal_form formulas) most size
  pub none : HasNoModelBelow formulas size

-- The report of a model, of no model up to a size, or of a size that is too large.
pub data IsModelReport (file : List ℕ) (most : ℕ) (formulas : List Annotated) (status : ℕ) (text : List ℕ) : Type 0 where
  told_model :
      (table : List ℕ) → IsFoundModel formulas most table → status ≡ 11 → text ≡ found_report file (has_conjecture formulas) table
      → IsModelReport file most formulas status text
  told_no_model :
      HasNoModelTo formulas most → status ≡ 12 → text ≡ no_model_report file most → IsModelReport file most formulas status text
  told_too_large :
      (size : ℕ) → IsTooLargeAt formulas most size → status ≡ 12 → text ≡ too_large_report file size → IsModelReport file most formulas status text
