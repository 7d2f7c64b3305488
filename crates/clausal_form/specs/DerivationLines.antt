-- The verdict on the lines of a derivation: they are accepted, or the first bad line and its first cause.
use Rattle.std.specs.Prelude.{ℕ, ◌+◌, Bool, false, ◌&&◌, List, [], ◌∷◌, length, if◌then◌else◌}
use Rattle.fol_base.specs.Clause.{clause_eq}
use Rattle.fol_base.specs.Literal.{clause_of}
use Rattle.tptp_tree.specs.declared.problem.Annotated.{Annotated}
use Rattle.kernel_steps.specs.Conclusion.{empty_clause}
use Rattle.kernel_steps.specs.Derivation.{is_clause_step}
use Rattle.kernel_steps.specs.declared.step.Line.{Line}
use Rattle.clausal_form.specs.DerivationLine.{LineTree, NamedLine, Taken, nothing_taken, with_line}
use Rattle.clausal_form.specs.DerivationParts.{Setting, setting_of}
use Rattle.clausal_form.specs.DerivationCauses.{Cause, no_empty_clause, LineVerdict, refused, taken, line_verdict}

-- The verdict on lines: all are taken, or the first that isn't is refused for a cause. Lines count from 1.
pub data LinesVerdict : Type 0 where
  all_taken : Taken → LinesVerdict
  refused_at : ℕ → Cause → LinesVerdict

-- the verdict with a further line, by the verdict on that line, after lines that were taken
abbrev pub after_line : Taken → LineTree → LineVerdict → LinesVerdict
after_line e t (refused cause) = refused_at (length e.lines + 1) cause
after_line e t (taken line) = all_taken (with_line e t line)

-- the verdict with a further line, which counts only if all lines before it were taken
abbrev pub then_line : Setting → LinesVerdict → LineTree → LinesVerdict
then_line s (refused_at n cause) t = refused_at n cause
then_line s (all_taken e) t = after_line e t (line_verdict s e t)

-- the verdict on lines after a verdict on the lines before them
abbrev pub lines_verdict_from : Setting → LinesVerdict → List LineTree → LinesVerdict
lines_verdict_from s v [] = v
lines_verdict_from s v (t ∷ ts) = lines_verdict_from s (then_line s v t) ts

-- the verdict on the lines of a derivation
abbrev pub lines_verdict : Setting → List LineTree → LinesVerdict
lines_verdict s ts = lines_verdict_from s (all_taken nothing_taken) ts

-- ---- the end

-- whether a line is a clause line with the empty clause
abbrev pub is_empty_clause_line : Line → Bool
is_empty_clause_line l = is_clause_step l.step && clause_eq (clause_of l.clause) empty_clause

-- whether the last line is one of the empty clause
abbrev pub ends_empty : List NamedLine → Bool
ends_empty [] = false
ends_empty (l ∷ []) = is_empty_clause_line l.line
ends_empty (l ∷ m ∷ ls) = ends_empty (m ∷ ls)

-- The answer on a derivation: accepted, with its number of lines, or refused.
pub data Answer : Type 0 where
  accepted : ℕ → Answer
  refused_line : ℕ → Cause → Answer

-- The answer by the verdict on all lines. They are accepted if all are taken and the last is the empty clause.
abbrev pub ended : LinesVerdict → Answer
ended (refused_at n cause) = refused_line n cause
ended (all_taken e) = if ends_empty e.lines then accepted (length e.lines) else refused_line (length e.lines) no_empty_clause

-- the answer on a derivation from a problem, given by its lines
abbrev pub verdict_on_lines : List Annotated → List LineTree → Answer
verdict_on_lines problem ts = ended (lines_verdict (setting_of problem) ts)
