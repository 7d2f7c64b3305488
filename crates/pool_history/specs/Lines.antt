-- The lines of the pool's derivation, and the lines of batches as they are put among them.
use Rattle.std.specs.Prelude.{ℕ, ◌+◌, ◌-◌, Bool, false, not, ◌&&◌, ◌==◌, nat_lt, if◌then◌else◌, List, ◌++◌, length, Option, None, slice_get, option_map, unwrap_or}
use Rattle.std.specs.List.{position_or_len, last_or}
use Rattle.plain_types.specs.declared.sequence.NameLit.{NameLit}
use Rattle.fol_base.specs.Clause.{TreeClause}
use Rattle.fol_base.specs.Literal.{clause_of}
use Rattle.kernel_steps.specs.declared.step.TheConstants.{CLAUSE_NUMBERS}
use Rattle.kernel_steps.specs.declared.step.Step.{Step}
use Rattle.kernel_steps.specs.declared.step.Step.TheVariants.{Para, Refl, Factor, Merge, Component, Opposite}
use Rattle.kernel_steps.specs.declared.step.Line.{Line}
use Rattle.pool_history.specs.Tags.{line_names}
use Rattle.pool_history.specs.Record.{PoolRecord, Registered}

-- ---- lines of the derivation

abbrev pub with_lines : PoolRecord → List Line → PoolRecord
with_lines r lines = record r { lines = r.lines ++ lines }

-- the line that was put last
abbrev pub last_number : PoolRecord → ℕ
last_number r = length r.lines - 1

-- ---- lines of batches

-- the line that a parent in a batch is: a registered clause's own, or a line of the batch, of which the first gets the number `first`
abbrev pub line_number : List Registered → ℕ → ℕ → ℕ
line_number registered first parent =
    if nat_lt parent CLAUSE_NUMBERS
    then unwrap_or (option_map (λ (c : Registered). c.line) (slice_get registered parent)) 0
    else first + (parent - CLAUSE_NUMBERS)

-- the steps of batches have one parent or two
abbrev pub with_parents : (ℕ → ℕ) → Step → Step
with_parents number (Para first second from from_side into into_side place first_bind second_bind) =
    Para (number first) (number second) from from_side into into_side place first_bind second_bind
with_parents number (Refl parent literal bind) = Refl (number parent) literal bind
with_parents number (Factor parent becomes becomes_side other other_side bind) =
    Factor (number parent) becomes becomes_side other other_side bind
with_parents number (Merge parent stays goes bind) = Merge (number parent) stays goes bind
with_parents number step = step

-- a line of a batch as it is put among the pool's: with the numbers of lines, and with names for its tags
abbrev pub pool_line : PoolRecord → Line → Line
pool_line r l = record {
  step = with_parents (line_number r.registered (length r.lines)) l.step;
  clause = record l.clause { names = line_names r.parts l.clause.names };
}

-- the clause to which the lines of a batch lead, the last one's
abbrev pub result_of : List Line → Option TreeClause
result_of lines = option_map (λ (l : Line). clause_of l.clause) (last_or None lines)

-- ---- definitions of names

-- the component line of a name introduces the positive one, the opposite line the negative one
abbrev pub introduces : NameLit → Step → Bool
introduces n (Component name) = n.positive && (n.name == name)
introduces n (Opposite name) = not n.positive && (n.name == name)
introduces n step = false

abbrev pub definition_of : List Line → NameLit → ℕ
definition_of lines n = position_or_len (λ (l : Line). introduces n l.step) lines
