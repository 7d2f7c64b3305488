-- What `decide` reports of the formulas of its problem: the texts, and when each comes.
use Rattle.std.specs.Prelude.{◌≡◌, ℕ, not, List, [], ◌++◌, codes, map, position, Option, None, Some, option_map, unwrap_or, slice_get, slice_index_or}
use Rattle.fol_base.specs.Clause.{TreeClause}
use Rattle.fol_base.specs.Ground.{GroundClause, is_ground_clause}
use Rattle.fol_base.specs.Entails.{IsRefuted}
use Rattle.tptp_tree.specs.declared.problem.Annotated.{Annotated}
use Rattle.signature.specs.Form.{clausal_form}
use Rattle.clausal_form.specs.FormFunctions.{is_predicate_in}
use Rattle.herbrand_list.specs.Refuted.{HasInterpretation}
use Rattle.command_reports.specs.Reports.{status_line, formula_line}

-- ---- the texts

abbrev pub open_report : List ℕ → List ℕ → List ℕ
open_report file name = status_line (codes "InputError") file ++ formula_line (codes "NotGround") name

abbrev pub no_interpretation_report : List ℕ
no_interpretation_report = codes "% ground form refuted\n"

abbrev pub interpretation_report : List ℕ
interpretation_report = codes "% ground form has a model\n"

-- ---- the form

-- the name of the formula at the place that a list has for a number
abbrev pub name_at : List Annotated → List ℕ → ℕ → List ℕ
name_at formulas places number = unwrap_or (option_map (λ (a : Annotated). a.name) (slice_get formulas (slice_index_or places number 0))) []

-- the name of the formula from which the clause with a number comes
abbrev pub origin_name : List Annotated → ℕ → List ℕ
origin_name formulas number = name_at formulas (clausal_form formulas).origins number

-- the literals of each clause
abbrev pub ground_form : List Annotated → List GroundClause
ground_form formulas = map (λ (c : TreeClause). c.literals) (clausal_form formulas).clauses

-- the first clause that has a variable
abbrev pub open_clause : List Annotated → Option ℕ
open_clause formulas = position (λ c. not (is_ground_clause c)) (ground_form formulas)

-- and the formula from which it comes
abbrev pub open_formula : List Annotated → Option (List ℕ)
open_formula formulas = option_map (origin_name formulas) (open_clause formulas)

-- no interpretation makes the form true, of which no clause has a variable
pub record IsGroundRefuted (formulas : List Annotated) : Type 0 where
  pub no_variable : open_formula formulas ≡ None
  pub refuted : IsRefuted (is_predicate_in (clausal_form formulas).symbols) (ground_form formulas)

-- some interpretation does
pub record IsGroundTrue (formulas : List Annotated) : Type 0 where
  pub no_variable : open_formula formulas ≡ None
  pub has_model : HasInterpretation (is_predicate_in (clausal_form formulas).symbols) (ground_form formulas)

-- ---- the reports

-- The report that a clause has a variable, by the name of its formula, that no interpretation makes the form true, or that one does.
pub data IsDecideReport (file : List ℕ) (formulas : List Annotated) (status : ℕ) (text : List ℕ) : Type 0 where
  told_open :
      (name : List ℕ) → open_formula formulas ≡ Some name → status ≡ 3 → text ≡ open_report file name → IsDecideReport file formulas status text
  told_no_interpretation : IsGroundRefuted formulas → status ≡ 15 → text ≡ no_interpretation_report → IsDecideReport file formulas status text
  told_interpretation : IsGroundTrue formulas → status ≡ 16 → text ≡ interpretation_report → IsDecideReport file formulas status text
