-- The lines with which the written derivation of a problem that was read begins can be printed.
use Rattle.std.proofs.Common.{◌≡◌, ℕ, zero, suc, Bool, true, false, cond, List, [], ◌∷◌, map, Option, None, Some, refl}
use Rattle.std.specs.Prelude.{IfSome, filter, filter_map, option_map, unwrap_or, slice_get}
use Rattle.std.specs.List.{AllByRecursion, cons_option}
use Rattle.tptp_tree.specs.declared.problem.Annotated.{Annotated}
use Rattle.tptp_tree.specs.Entries.{AnnotatedTree, is_conjecture}
use Rattle.kernel_steps.specs.declared.step.Line.{Line}
use Rattle.clausal_form.specs.DerivationLine.{LineTree}
use Rattle.tptp_tree.specs.Shape.{entry_of}
use Rattle.tstp_writer.specs.LineTrees.{Script, script_of, is_conjecture_at, Layout, layout_of, lines_at, cited_places, cited_name, negated_name, input_tree, negate_tree, input_at, negate_at}
use Rattle.tstp_writer.specs.Printable.{IsShown, IsPrintable}
use Rattle.tstp_writer.specs.ProblemLaws.{ArePrintableEntries, HasPrintableLines, HasPrintableFormulas, HasPrintableBeginning}
use Rattle.tstp_writer.proofs.ReadAgain.ProblemLemmas.{line_name-shown, problem-lines-printable}

-- ---- formulas by their places

lines-at-place :
    (formulas : List Annotated) (place : ℕ) → AllByRecursion (λ (a : Annotated). HasPrintableLines (entry_of a)) formulas
    → IfSome (slice_get (map entry_of formulas) place) HasPrintableLines
lines-at-place [] place h = tt
lines-at-place (a ∷ more) zero h = h.0
lines-at-place (a ∷ more) (suc place) h = lines-at-place more place h.1

input-of :
    (script : Script) (name : List ℕ) (o : Option AnnotatedTree) → IfSome o HasPrintableLines → IsShown script.file → IsShown name
    → IfSome (option_map (input_tree script name) o) IsPrintable
input-of script name None h file shown = tt
input-of script name (Some a) h file shown = h.input script name file shown

negation-of :
    (script : Script) (layout : Layout) (name : List ℕ) (place : ℕ) (o : Option AnnotatedTree) → IfSome o HasPrintableLines
    → unwrap_or (option_map (λ (a : AnnotatedTree). is_conjecture a.role) o) false ≡ true → IsShown name
    → IfSome (option_map (negate_tree script layout name place) o) IsPrintable
negation-of script layout name place None h c shown = tt
negation-of script layout name place (Some a) h c shown = h.negated script layout name place c shown

pub script-printable :
    (formulas : List Annotated) → ArePrintableEntries formulas
    → (name : List ℕ) → IsShown name → HasPrintableFormulas (script_of name formulas)
script-printable formulas h name shown =
    let all = problem-lines-printable formulas h in
    let script : Script = script_of name formulas in
    record {
      input = λ line place l. input-of script line (slice_get script.formulas place) (lines-at-place formulas place all) shown l;
      negated = λ layout line place c l. negation-of script layout line place (slice_get script.formulas place) (lines-at-place formulas place all) c l;
    }

-- ---- lists of lines

pub front-printable : (o : Option LineTree) (ts : List LineTree) → IfSome o IsPrintable → AllByRecursion IsPrintable ts → AllByRecursion IsPrintable (cons_option o ts)
front-printable None ts h more = more
front-printable (Some t) ts h more = (h, more)

all-printable :
    (line : ℕ → Option LineTree) → ((place : ℕ) → IfSome (line place) IsPrintable) → (places : List ℕ)
    → AllByRecursion IsPrintable (filter_map line places)
all-printable line each [] = tt
all-printable line each (place ∷ more) =
    front-printable (line place) (filter_map line more) (each place) (all-printable line each more)

passing-printable :
    (line : ℕ → Option LineTree) (test : ℕ → Bool) → ((place : ℕ) → test place ≡ true → IfSome (line place) IsPrintable) → (places : List ℕ)
    → AllByRecursion IsPrintable (filter_map line (filter test places))
passing-printable line test each [] = tt
passing-printable line test each (place ∷ more) = by (test place) refl (passing-printable line test each more)
  where
    by :
        (t : Bool) → test place ≡ t → AllByRecursion IsPrintable (filter_map line (filter test more))
        → AllByRecursion IsPrintable (filter_map line (cond t (place ∷ filter test more) (filter test more)))
    by true e rest = front-printable (line place) (filter_map line (filter test more)) (each place e) rest
    by false e rest = rest

pub beginning-printable :
    (formulas : List Annotated) → ArePrintableEntries formulas
    → (name : List ℕ) → IsShown name → (lines : List Line) (numbers : List ℕ)
    → HasPrintableBeginning (script_of name formulas) (layout_of (script_of name formulas) lines numbers)
beginning-printable formulas h name shown lines numbers =
    let script : Script = script_of name formulas in
    let layout : Layout = layout_of script lines numbers in
    let places : List ℕ = cited_places script (lines_at lines numbers) in
    let each = script-printable formulas h name shown in
    record {
      cited =
          all-printable (λ place. input_at script (cited_name layout place) place)
          (λ place. each.input (cited_name layout place) place (line_name-shown _)) places;
      negated =
          passing-printable (λ place. negate_at script layout (negated_name layout place) place) (is_conjecture_at script)
          (λ place c. each.negated layout (negated_name layout place) place c (line_name-shown _)) places;
    }
