-- The counting of inferences, and the end of a counting that reaches the limit.
use Rattle.std.specs.Prelude.{Bool, true, false, ◌&&◌, nat_le, if◌then◌else◌, List, ◌++◌, map, fold, find, filter_map, length, Option, None, Some}
use Rattle.fol_base.specs.Clause.{TreeClause}
use Rattle.kernel_steps.specs.declared.key.Key.{Key}
use Rattle.kernel_steps.specs.declared.step.Line.{Line}
use Rattle.pool_history.specs.Record.{PoolRecord}
use Rattle.pool_history.specs.Lines.{pool_line, result_of}
use Rattle.pool_history.specs.Registering.{comes, has_none, unless_ended}
use Rattle.pool_history.specs.declared.options.Options.{Options}
use Rattle.pool_history.specs.declared.outcome.Outcome.TheVariants.{Spent}
use Rattle.pool_history.specs.declared.batch.Entry.{Entry}
use Rattle.pool_history.specs.declared.batch.Fate.{Fate}
use Rattle.pool_history.specs.declared.batch.Fate.TheVariants.{Kept, Dropped, Heavy}

-- ---- results

-- the lines that lead to a result, where there is one
abbrev pub lines_of_fate : Fate → Option (List Line)
lines_of_fate (Kept lines results) = Some lines
lines_of_fate (Dropped redundancy) = None
lines_of_fate Heavy = None

abbrev pub is_heavy : Fate → Bool
is_heavy (Kept lines results) = false
is_heavy (Dropped redundancy) = false
is_heavy Heavy = true

abbrev pub lines_of_entries : List Entry → List (List Line)
lines_of_entries entries = filter_map (λ (e : Entry). lines_of_fate e.fate) entries

abbrev pub keys_of : List Entry → List Key
keys_of entries = map (λ (e : Entry). e.key) entries

abbrev pub comes_by : Bool → List Line → Option TreeClause → PoolRecord → PoolRecord
comes_by split lines None r = r
comes_by split lines (Some c) r = comes split (map (pool_line r) lines) c r

-- the result of a batch's lines comes by them
abbrev pub result_comes : Bool → PoolRecord → List Line → PoolRecord
result_comes split r lines = unless_ended (comes_by split lines (result_of lines)) r

-- ---- countings

-- the empty clause without assertions
abbrev pub is_refuting : Option TreeClause → Bool
is_refuting None = false
is_refuting (Some c) = has_none c.literals && has_none c.names

-- the lines lead to it
abbrev pub refutes : List Line → Bool
refutes lines = is_refuting (result_of lines)

-- The end of a counting that reaches the limit. The pool is spent, except if an empty clause without assertions is among the results
-- that were just counted: this is registered and refutes.
abbrev pub spends : Bool → Option (List Line) → PoolRecord → PoolRecord
spends split None r = record r { ended = Some (Spent (length r.counted)) }
spends split (Some lines) r = result_comes split r lines

-- the results that were counted come, or the limit is reached
abbrev pub comes_counted : Options → List (List Line) → PoolRecord → PoolRecord
comes_counted options results r =
    if nat_le options.inferences (length r.counted)
    then spends options.split (find refutes results) r
    else fold (result_comes options.split) r results

-- The inferences are counted, all together; then their results are registered in order, until the pool is refuted.
abbrev pub counts : Options → List Key → List (List Line) → PoolRecord → PoolRecord
counts options keys results r = comes_counted options results (record r { counted = r.counted ++ keys })
