-- The sources of lines of formulas.
use Rattle.std.specs.Prelude.{ℕ, List, Option, None, Some, option_map, option_and_then, slice_get, if◌then◌else◌}
use Rattle.tptp_tree.specs.Formula.{FormulaTree}
use Rattle.tptp_tree.specs.Shape.{formula_of}
use Rattle.tptp_tree.specs.Entries.{AnnotatedTree, is_conjecture}
use Rattle.tptp_source.specs.Sources.{SourceTree, file_source}
use Rattle.kernel_steps.specs.declared.step.Step.{Step}
use Rattle.kernel_steps.specs.declared.step.Step.TheVariants.{Input}
use Rattle.clausal_form.specs.DerivationItems.{only_one, plain_word}
use Rattle.clausal_form.specs.DerivationLine.{LineTree, NamedLine, Taken}
use Rattle.clausal_form.specs.DerivationParts.{Setting, entry_at}
use Rattle.clausal_form.specs.DerivationCauses.{cited, place_of_entry}
use Rattle.tstp_checker.specs.declared.formula_lines.Conjecture.{Conjecture}

-- the place of the formula that a line of the problem cites
abbrev pub cited_at : Setting → LineTree → SourceTree → Option ℕ
cited_at s t (file_source file name) = option_and_then (λ word. place_of_entry s (cited t name)) (plain_word file)
cited_at s t source = None

-- a conjecture with its place
abbrev pub conjecture_at : Setting → Step → Option (ℕ × FormulaTree)
conjecture_at s (Input place) =
    option_and_then (λ (a : AnnotatedTree). if is_conjecture a.role then Some (place, a.formula) else None) (entry_at s place)
conjecture_at s step = None

abbrev pub only_step : Taken → List ℕ → Option Step
only_step e parents = option_and_then (λ n. option_map (λ (l : NamedLine). (l.line).step) (slice_get e.lines n)) (only_one parents)

-- the conjecture of the only parent
abbrev pub conjecture_of : Setting → Taken → List ℕ → Option (ℕ × FormulaTree)
conjecture_of s e parents = option_and_then (conjecture_at s) (only_step e parents)

abbrev pub lent_conjecture : Conjecture → ℕ × FormulaTree
lent_conjecture c = (c.place, formula_of c.formula.now)
