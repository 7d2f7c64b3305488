-- What is written for the lines of a derivation that can be read again can be printed.
use Rattle.std.proofs.Common.{◌≡◌, ℕ, true, List, [], ◌∷◌, ◌++◌, codes, Option, None, Some, refl, sym, subst, arith}
use Rattle.std.specs.Prelude.{filter_map, option_and_then, slice_get, IfSome}
use Rattle.std.specs.List.{AllByRecursion, cons_option}
use Rattle.fol_base.specs.Clause.{TreeClause}
use Rattle.fol_base.specs.Literal.{clause_of}
use Rattle.tptp_tree.specs.Printing.{formula_text}
use Rattle.tptp_tree.specs.declared.problem.Annotated.{Annotated}
use Rattle.signature.specs.Form.{clausal_form}
use Rattle.kernel_steps.specs.Derivation.{is_clause_step}
use Rattle.kernel_steps.specs.declared.step.Step.{Step}
use Rattle.kernel_steps.specs.declared.step.Line.{Line}
use Rattle.clausal_form.specs.DerivationLine.{LineTree}
use Rattle.tstp_writer.specs.ClauseTrees.{clause_formula}
use Rattle.tstp_writer.specs.LineTrees.{Script, script_of, Layout, layout_of, lines_at, cited_name, negated_name, derived_name, input_at, negate_at, step_source, clause_tree, line_tree, derived_tree, derivation_trees}
use Rattle.tstp_writer.specs.ReadableLines.{IsReadable, IsReadableClauseLine}
use Rattle.tstp_writer.specs.Printable.{IsShown, IsPrintable}
use Rattle.tstp_writer.specs.ProblemLaws.{ArePrintableEntries}
use Rattle.tstp_writer.specs.WrittenTexts.{AreShownSymbols, IsSpelledByText}
use Rattle.tstp_writer.proofs.AboutPrinted.StepTrees.{tree-is}
use Rattle.tstp_writer.proofs.ReadAgain.ProblemLemmas.{line_name-shown}
use Rattle.tstp_writer.proofs.ReadAgain.ProblemTrees.{front-printable, beginning-printable}
use Rattle.tstp_writer.proofs.ReadAgain.ShownSymbols.{made-shown, form-symbols-shown}
use Rattle.tstp_writer.proofs.ReadAgain.ReadableTexts.{IsPrintableFormula, AreShownNames, clause-printable, formula-spelled}
use Rattle.tstp_writer.proofs.ReadAgain.ReadableSources.{source-small}
use Rattle.tstp_writer.proofs.AboutPrinted.LineLemmas.{lines-spelled}

-- ---- one line

clause-line :
    (script : Script) (layout : Layout) (name : List ℕ) (c : TreeClause) (step : Step)
    → IsShown name → AreShownSymbols script.symbols → AreShownNames script.prefix → is_clause_step step ≡ true → IsReadable script.symbols step c
    → IsPrintable (clause_tree script name c (step_source script layout step))
clause-line script layout name c step shown symbols names clause r =
    let h : IsPrintableFormula (clause_formula script.symbols script.prefix c) =
    clause-printable script.symbols script.prefix c symbols names r.literals r.sides in
    let source = source-small script layout step symbols names clause r.binds r.small in
    record {
      name = shown;
      role = refl;
      text = formula_text (clause_formula script.symbols script.prefix c);
      spelled = formula-spelled (clause_formula script.symbols script.prefix c) h.well;
      form = h.clause;
      levels = h.levels;
      source = source.writable;
      source_levels = omega (arith, source.levels);
    }

readable-line :
    (script : Script) (layout : Layout) (name : List ℕ) (o : Option Line)
    → AreShownSymbols script.symbols → AreShownNames script.prefix → IsShown name → IfSome o (IsReadableClauseLine script.symbols)
    → IfSome (option_and_then (line_tree script layout name) o) IsPrintable
readable-line script layout name None symbols names shown h = tt
readable-line script layout name (Some line) symbols names shown h =
    subst (λ o. IfSome o IsPrintable) (sym (tree-is script layout name (clause_of line.clause) line.step h.0))
    (clause-line script layout name (clause_of line.clause) line.step shown symbols names h.0 h.1)

-- names are shown that begin with the prefix of a problem's script
names-shown : (problem : List Annotated) (file : List ℕ) → AreShownNames (script_of file problem).prefix
names-shown problem file n = made-shown (codes "spl") (record { printable = refl; some = omega arith }) (clausal_form problem).symbols n

pub lines-printable :
    (problem : List Annotated) → ArePrintableEntries problem → (name : List ℕ) → IsShown name → (layout : Layout) (lines : List Line) (n : ℕ)
    → IfSome (slice_get lines n) (IsReadableClauseLine (clausal_form problem).symbols)
    → IfSome (derived_tree (script_of name problem) layout lines n) IsPrintable
lines-printable problem h name shown layout lines n line =
    readable-line (script_of name problem) layout (derived_name layout n) (slice_get lines n) (form-symbols-shown problem h)
    (names-shown problem name) (line_name-shown _) line

-- ---- a derivation

both-printable : (ts us : List LineTree) → AllByRecursion IsPrintable ts → AllByRecursion IsPrintable us → AllByRecursion IsPrintable (ts ++ us)
both-printable [] us h k = k
both-printable (t ∷ ts) us h k = (h.0, both-printable ts us h.1 k)

numbers-printable :
    (script : Script) (layout : Layout) (lines : List Line) (numbers : List ℕ)
    → AreShownSymbols script.symbols → AreShownNames script.prefix
    → AllByRecursion (IsReadableClauseLine script.symbols) (lines_at lines numbers)
    → AllByRecursion IsPrintable (filter_map (derived_tree script layout lines) numbers)
numbers-printable script layout lines [] symbols names h = tt
numbers-printable script layout lines (n ∷ numbers) symbols names h =
    by (slice_get lines n) h (λ k. numbers-printable script layout lines numbers symbols names k)
  where
    rest : List LineTree
    rest = filter_map (derived_tree script layout lines) numbers

    by :
        (o : Option Line) → AllByRecursion (IsReadableClauseLine script.symbols) (cons_option o (lines_at lines numbers))
        → (AllByRecursion (IsReadableClauseLine script.symbols) (lines_at lines numbers) → AllByRecursion IsPrintable rest)
        → AllByRecursion IsPrintable (cons_option (option_and_then (line_tree script layout (derived_name layout n)) o) rest)
    by None k more = more k
    by (Some line) k more =
        front-printable (line_tree script layout (derived_name layout n) line) rest
        (readable-line script layout (derived_name layout n) (Some line) symbols names (line_name-shown _) k.0) (more k.1)

pub derivation-printable :
    (problem : List Annotated) → ArePrintableEntries problem → (name : List ℕ) → IsShown name → (lines : List Line) (numbers : List ℕ)
    → AllByRecursion (IsReadableClauseLine (clausal_form problem).symbols) (lines_at lines numbers)
    → AllByRecursion IsPrintable (derivation_trees (script_of name problem) lines numbers)
derivation-printable problem h name shown lines numbers readable =
    let script : Script = script_of name problem in
    let layout : Layout = layout_of script lines numbers in
    let begun = beginning-printable problem h name shown lines numbers in
    let derived = numbers-printable script layout lines numbers (form-symbols-shown problem h)
    (names-shown problem name) readable in
    let cited : List LineTree = filter_map (λ place. input_at script (cited_name layout place) place) layout.cited in
    let negated : List LineTree = filter_map (λ place. negate_at script layout (negated_name layout place) place) layout.negated in
    both-printable (cited ++ negated) (filter_map (derived_tree script layout lines) numbers)
    (both-printable cited negated begun.cited begun.negated) derived

pub derivation-spelled :
    (problem : List Annotated) → ArePrintableEntries problem → (name : List ℕ) → IsShown name → (lines : List Line) (numbers : List ℕ)
    → AllByRecursion (IsReadableClauseLine (clausal_form problem).symbols) (lines_at lines numbers)
    → IsSpelledByText (derivation_trees (script_of name problem) lines numbers)
derivation-spelled problem h name shown lines numbers readable =
    lines-spelled (derivation_trees (script_of name problem) lines numbers)
    (derivation-printable problem h name shown lines numbers readable)
