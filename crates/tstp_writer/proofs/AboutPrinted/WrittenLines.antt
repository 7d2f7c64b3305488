-- What is written of a refutation whose lines can be read again is accepted.
use Rattle.std.proofs.Common.{◌≡◌, ℕ, true, List, [], ◌∷◌, ◌++◌, length, filter_map, refl, ap, sym, ◌∙◌, map}
use Rattle.std.specs.Prelude.{if◌then◌else◌}
use Rattle.std.proofs.lemmas.Bool.{and_from}
use Rattle.fol_base.specs.Clause.{clause_eq, TreeClause}
use Rattle.fol_base.specs.Literal.{clause_of}
use Rattle.tptp_tree.specs.declared.problem.Annotated.{Annotated}
use Rattle.kernel_steps.specs.Conclusion.{empty_clause}
use Rattle.kernel_steps.specs.Derivation.{is_clause_step}
use Rattle.kernel_steps.specs.declared.step.Step.{Step}
use Rattle.kernel_steps.specs.declared.step.Line.{Line}
use Rattle.clausal_form.specs.DerivationLine.{LineTree, NamedLine}
use Rattle.kernel_steps.specs.FromTrees.{line_of}
use Rattle.clausal_form.specs.DerivationParts.{Setting, setting_of}
use Rattle.clausal_form.specs.DerivationCauses.{no_empty_clause}
use Rattle.clausal_form.specs.DerivationLines.{is_empty_clause_line, ends_empty, accepted, refused_line, ended}
use Rattle.clausal_form.proofs.AboutNaming.TakenLemmas.{line_of-clause}
use Rattle.tstp_writer.specs.Cone.{IsCone}
use Rattle.tstp_writer.specs.LineTrees.{Script, script_of, Layout, layout_of, cited_name, negated_name, input_at, negate_at, derived_tree, derivation_trees, lines_at}
use Rattle.tstp_writer.specs.ReadableLines.{LinesFit, read_renaming, placed_step, derived_taken, all_written, names_of_lines, read_clause}
use Rattle.tstp_writer.specs.DerivedLines.{HasNumberedForm}
use Rattle.tstp_writer.specs.Places.{IsCounted}
use Rattle.tstp_writer.specs.WrittenLaws.{IsReadableRefutation, WrittenLinesAreAccepted}
use Rattle.tstp_writer.proofs.AboutPrinted.PlaceLemmas.{stands-last}
use Rattle.tstp_writer.proofs.AboutPrinted.WalkLemmas.{walk-both, NamedWalk, walk-named}
use Rattle.tstp_writer.proofs.AboutNeeded.ConeLemmas.{last-there, last-greatest}
use Rattle.tstp_writer.proofs.AboutNeeded.DerivedLines.{derived-walked}
use Rattle.tstp_writer.specs.ClauseTrees.{introduced_name}
use Rattle.tstp_writer.proofs.AboutPrinted.WrittenSteps.{placed-clause}
use Rattle.tstp_writer.proofs.AboutNeeded.StandingLines.{inputs, negations, derived_line, inputs-walked, negations-walked, written-more}

-- ---- the last line

ends-end : (ls : List NamedLine) (l : NamedLine) → ends_empty (ls ++ l ∷ []) ≡ is_empty_clause_line l.line
ends-end [] l = refl
ends-end (k ∷ []) l = refl
ends-end (k ∷ m ∷ ms) l = ends-end (m ∷ ms) l

module _
    (file : List ℕ) (problem : List Annotated) (lines : List Line) (last : ℕ) (numbers : List ℕ)
    (form : HasNumberedForm problem) (fits : LinesFit lines) (r : IsReadableRefutation problem lines last) (cone : IsCone lines last numbers)
    (counted : IsCounted (layout_of (script_of file problem) lines numbers)) where
  abbrev s : Setting
  s = setting_of problem

  abbrev script : Script
  script = script_of file problem

  abbrev layout : Layout
  layout = layout_of (script_of file problem) lines numbers

  abbrev names : List ℕ
  names = names_of_lines (lines_at lines numbers)

  abbrev all : List NamedLine
  all = all_written problem layout names lines numbers

  last-empty : is_empty_clause_line (derived_line file problem lines numbers last r.line).line ≡ true
  last-empty =
      let placed : Step = placed_step layout names (read_renaming (r.line).step (clause_of (r.line).clause)) (r.line).step in
      let clause : TreeClause = read_clause names (clause_of (r.line).clause) in
      and_from (is_clause_step placed) (clause_eq (clause_of (line_of placed clause).clause) empty_clause)
      (placed-clause layout names (read_renaming (r.line).step (clause_of (r.line).clause)) (r.line).step ∙ r.is_clause)
      (ap (λ c. clause_eq c empty_clause) (line_of-clause placed clause ∙ ap (read_clause names) r.is_empty))

  all-end : ends_empty all ≡ true
  all-end =
      let split =
      stands-last numbers last cone.rising (last-there problem lines last numbers r cone) (last-greatest problem lines last numbers r cone) in
      ap (λ ns. ends_empty (all_written problem layout names lines ns)) split.1
      ∙ ap ends_empty (sym (written-more file problem lines numbers split.0 last r.line r.ends))
      ∙ ends-end (all_written problem layout names lines split.0) (derived_line file problem lines numbers last r.line)
      ∙ last-empty

  all-walked : NamedWalk s [] [] (derivation_trees script lines numbers) all (map (introduced_name script.prefix) names)
  all-walked =
      let cited : List LineTree = filter_map (λ place. input_at script (cited_name layout place) place) layout.cited in
      let negated : List LineTree = filter_map (λ place. negate_at script layout (negated_name layout place) place) layout.negated in
      walk-named s [] (cited ++ negated) (filter_map (derived_tree script layout lines) numbers)
      (inputs file problem lines numbers ++ negations file problem lines numbers) (filter_map (derived_taken layout names lines) numbers)
      (map (introduced_name script.prefix) names)
      (walk-both s [] cited negated (inputs file problem lines numbers) (negations file problem lines numbers)
      (inputs-walked file problem lines numbers counted) (negations-walked file problem lines numbers counted))
      (derived-walked file problem lines numbers last form fits r cone counted)

pub written-accepted : WrittenLinesAreAccepted
written-accepted file problem lines last numbers form fits r cone counted =
    let all : List NamedLine =
    all_written problem (layout_of (script_of file problem) lines numbers) (names_of_lines (lines_at lines numbers)) lines numbers in
    let walk = all-walked file problem lines last numbers form fits r cone counted in
    ap ended walk.verdict
    ∙ ap (λ b. if b then accepted (length all) else refused_line (length all) no_empty_clause)
    (all-end file problem lines last numbers form fits r cone counted)
    ∙ ap accepted (sym walk.lengths)
