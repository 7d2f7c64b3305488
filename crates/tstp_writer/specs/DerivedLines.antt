-- A line of a derivation that can be read again is taken when it is read, after lines among which its parents are.
use Rattle.std.specs.Prelude.{◌≡◌, ℕ, true, false, List, ◌++◌, map, take, length, Some, slice_get, bytes_eq, IsTrue}
use Rattle.std.specs.List.{list_any, AllByRecursion}
use Rattle.plain_types.specs.declared.sequence.NameLit.{NameLit}
use Rattle.fol_base.specs.Clause.{TreeClause}
use Rattle.fol_base.specs.Literal.{clause_of}
use Rattle.tptp_tree.specs.declared.problem.Annotated.{Annotated}
use Rattle.signature.specs.Symbol.{IsSignature}
use Rattle.signature.specs.Form.{clausal_form}
use Rattle.kernel_steps.specs.Lines.{step_parents}
use Rattle.kernel_steps.specs.Derivation.{is_clause_step, component_clause, ComesBy}
use Rattle.kernel_steps.specs.declared.step.Step.{Step}
use Rattle.kernel_steps.specs.declared.step.Step.TheVariants.{Clausify, Opposite}
use Rattle.kernel_steps.specs.declared.step.Line.{Line}
use Rattle.clausal_form.specs.DerivationLine.{NamedLine, Taken, kernel_lines}
use Rattle.clausal_form.specs.DerivationParts.{setting_of, line_place}
use Rattle.clausal_form.specs.DerivationCauses.{is_line_of, taken, line_verdict}
use Rattle.tstp_writer.specs.Cone.{has_number, IsRising}
use Rattle.tstp_writer.specs.ClauseTrees.{introduced_name}
use Rattle.tstp_writer.specs.LineTrees.{Script, script_of, origin, Layout, place_in, derived_name, origin_name, step_source, clause_tree}
use Rattle.tstp_writer.specs.ReadableLines.{Fits, IsReadableLine, NumbersFit, step_names, read_clause, written_place, placed_line, taken_as}

-- the symbols of a problem's clausal form are those of a signature, and the numbers of its clauses can be read again
pub record HasNumberedForm (problem : List Annotated) : Type 0 where
  pub symbols : IsSignature (clausal_form problem).symbols
  pub clauses : Fits (length (clausal_form problem).clauses)

-- The names that were introduced, and with the name of a step's line those that are known: the first of all names, which rise and can be
-- read again.
pub record AreIntroduced (prefix : List ℕ) (names known : List ℕ) (e : Taken) (step : Step) : Type 0 where
  pub rising : IsRising names
  pub numbers : AllByRecursion Fits names
  pub before : List ℕ
  pub introduced : e.introduced ≡ map (introduced_name prefix) before
  pub known_are : known ≡ before ++ step_names step
  pub others : List ℕ
  pub whole : names ≡ known ++ others

abbrev pub IsKnown : List ℕ → ℕ → Type 0
IsKnown known name = IsTrue (has_number known name)

-- a derivation's line with that number was taken, in its place, and its names are known
pub record ParentIsTaken (layout : Layout) (names known : List ℕ) (lines : List Line) (e : Taken) (n : ℕ) : Type 0 where
  pub line : Line
  pub there : slice_get lines n ≡ Some line
  pub place : line_place e (derived_name layout n) ≡ Some (written_place layout n)
  pub taken :
      slice_get e.lines (written_place layout n)
      ≡ Some (taken_as (derived_name layout n) (placed_line layout names line.step (clause_of line.clause)))
  pub names_known : AllByRecursion (λ (m : NameLit). IsKnown known m.name) (clause_of line.clause).names

-- the component line of a name was taken, where there is one among the lines before a number
pub record ComponentIsTaken (names known : List ℕ) (lines : List Line) (e : Taken) (n : ℕ) (name : ℕ) : Type 0 where
  pub name_known : IsKnown known name
  pub clause :
      (c : TreeClause) → component_clause name (take n lines) ≡ Some c
      → component_clause (place_in name names) (kernel_lines e) ≡ Some (read_clause names c)

-- the line was taken from which a clause of the form comes
pub record OriginIsTaken (problem : List Annotated) (script : Script) (layout : Layout) (e : Taken) (i : ℕ) : Type 0 where
  pub place : ℕ
  pub source : NamedLine
  pub there : line_place e (origin_name script layout (origin script i)) ≡ Some place
  pub taken : slice_get e.lines place ≡ Some source
  pub is_its : is_line_of (setting_of problem) (origin script i) (source.line).step ≡ true

-- the lines that a line's step goes on from were taken: that of its clause's formula, the component line of its name, or its parents
abbrev pub SourcesAreTaken : List Annotated → Script → Layout → List ℕ → List ℕ → List Line → Taken → ℕ → Step → Type 0
SourcesAreTaken problem script layout names known lines e n (Clausify i) = OriginIsTaken problem script layout e i
SourcesAreTaken problem script layout names known lines e n (Opposite name) = ComponentIsTaken names known lines e n name
SourcesAreTaken problem script layout names known lines e n step =
    AllByRecursion (ParentIsTaken layout names known lines e) (step_parents step)

-- no line that was taken has the name of a derivation's line with that number
abbrev pub IsNewLine : Layout → Taken → ℕ → Type 0
IsNewLine layout e n = list_any (λ (l : NamedLine). bytes_eq (derived_name layout n) l.name) e.lines ≡ false

abbrev pub DerivedLinesAreTaken : Type 0
DerivedLinesAreTaken =
    (problem : List Annotated) (file : List ℕ) (layout : Layout) (names known : List ℕ) (lines : List Line) (e : Taken) (n : ℕ) (line : Line)
    → HasNumberedForm problem → IsReadableLine (clausal_form problem).symbols line → NumbersFit line.step (clause_of line.clause)
    → IsTrue (is_clause_step line.step)
    → ComesBy line.step (clausal_form problem).clauses (take n lines) (clause_of line.clause)
    → AreIntroduced (script_of file problem).prefix names known e line.step → IsNewLine layout e n
    → SourcesAreTaken problem (script_of file problem) layout names known lines e n line.step
    → line_verdict (setting_of problem) e
    (clause_tree (script_of file problem) (derived_name layout n) (clause_of line.clause)
    (step_source (script_of file problem) layout line.step))
    ≡ taken (placed_line layout names line.step (clause_of line.clause))
