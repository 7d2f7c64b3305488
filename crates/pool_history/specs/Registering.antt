-- How clauses come into the pool: as they are, in parts, or as clauses over names.
use Rattle.std.specs.Prelude.{ℕ, suc, Bool, ◌==◌, if◌then◌else◌, List, [], ◌∷◌, ◌++◌, map, fold, length, Some, is_none}
use Rattle.plain_types.specs.declared.sequence.NameLit.{NameLit}
use Rattle.plain_types.specs.Names.{positive_of, negative_of}
use Rattle.fol_base.specs.Clause.{TreeLiteral, TreeClause}
use Rattle.kernel_steps.specs.Names.{sorted_names}
use Rattle.kernel_steps.specs.Derivation.{under_names}
use Rattle.kernel_steps.specs.declared.step.Step.{Step}
use Rattle.kernel_steps.specs.declared.step.Step.TheVariants.{Clausify, Component, Opposite, Split}
use Rattle.kernel_steps.specs.declared.step.Line.{Line}
use Rattle.kernel_steps.specs.FromTrees.{line_of}
use Rattle.split_parts.specs.Tags.{has_part, with_part, tag_of}
use Rattle.pool_history.specs.Components.{components_of, parts_of, is_to_split}
use Rattle.split_parts.specs.SignedNames.{affirmed, named, signed_name}
use Rattle.pool_history.specs.Tags.{line_names}
use Rattle.pool_history.specs.Record.{PoolRecord, has_living}
use Rattle.pool_history.specs.Lines.{with_lines, last_number, definition_of}
use Rattle.pool_history.specs.declared.outcome.Outcome.TheVariants.{Refuted}

-- ---- registered clauses

-- the clause gets the next number; its line is that of the number
abbrev pub registered_by : ℕ → TreeClause → PoolRecord → PoolRecord
registered_by line c r = record r { registered = r.registered ++ record { clause = c; line = line } ∷ [] }

-- unless an equal clause with equal assertions lives
abbrev pub registered_unless_living : ℕ → TreeClause → PoolRecord → PoolRecord
registered_unless_living line c r = if has_living r c then r else registered_by line c r

-- by the last line
abbrev pub registered_last : TreeClause → PoolRecord → PoolRecord
registered_last c r = registered_by (last_number r) c r

-- ---- clauses over names

-- a propositional clause, whose line is the last one
abbrev pub with_propositional : List NameLit → PoolRecord → PoolRecord
with_propositional names r =
    record r { propositional = r.propositional ++ record { names = names; line = last_number r } ∷ [] }

-- ---- parts

-- The lines that a new part brings: the component line of its name where that is new, and for a ground negative literal the opposite line.
abbrev pub definitions : List (List TreeLiteral) → List TreeLiteral → NameLit → List Line
definitions parts part n =
    (if has_part (affirmed part) (named parts) then [] else line_of (Component n.name) (under_names (affirmed part) (negative_of n.name ∷ [])) ∷ [])
    ++ (if n.positive then [] else line_of (Opposite n.name) (under_names part (positive_of n.name ∷ [])) ∷ [])

-- a part gets its tag from the table
abbrev pub with_new_part : List TreeLiteral → List (List TreeLiteral) → PoolRecord → PoolRecord
with_new_part part parts r =
    record r { parts = parts; lines = r.lines ++ definitions r.parts part (signed_name parts part) }

abbrev pub with_tag : PoolRecord → List TreeLiteral → PoolRecord
with_tag r part = if has_part part r.parts then r else with_new_part part (with_part r.parts part) r

-- a part is registered under its tag, unless that has a living clause
abbrev pub with_part_clause : PoolRecord → List TreeLiteral → PoolRecord
with_part_clause r part =
    registered_unless_living (definition_of r.lines (signed_name r.parts part)) (under_names part (negative_of (tag_of r.parts part) ∷ [])) r

-- the propositional clause of a split comes by its line
abbrev pub with_split : Step → List NameLit → PoolRecord → PoolRecord
with_split step names r = with_propositional names (with_lines r (line_of step (under_names [] names) ∷ []))

-- the clause on the line of that number is split; its parts have tags already
abbrev pub split_tagged : TreeClause → ℕ → List (List TreeLiteral) → List NameLit → PoolRecord → PoolRecord
split_tagged c line parts names r =
    fold with_part_clause
    (with_split (Split line (map (definition_of r.lines) names) (components_of c.literals)) (sorted_names (line_names r.parts c.names ++ names)) r)
    parts

abbrev pub split_named : TreeClause → ℕ → List (List TreeLiteral) → PoolRecord → PoolRecord
split_named c line parts r = split_tagged c line parts (map (signed_name r.parts) parts) r

-- The clause of the last line falls into its components: the signed names of the parts and the opposites of those of the clause's tags
-- give one propositional clause, by a split line; and the parts are registered.
abbrev pub split_up : TreeClause → PoolRecord → PoolRecord
split_up c r = split_named c (last_number r) (parts_of c.literals) (fold with_tag r (parts_of c.literals))

-- ---- a clause that comes by its lines

abbrev pub has_none : {X : Type 0} → List X → Bool
has_none xs = length xs == 0

abbrev pub with_refutation : PoolRecord → PoolRecord
with_refutation r = record r { ended = Some Refuted }

-- A clause without literals whose line is the last: without assertions it refutes; under assertions it gives the propositional clause of its
-- line.
abbrev pub empty_comes : TreeClause → PoolRecord → PoolRecord
empty_comes c r =
    if has_none c.names
    then with_refutation (registered_last c r)
    else with_propositional (line_names r.parts c.names) r

-- A clause comes by lines, of which the last has its literals and the opposites of the signed names of its tags. Without literals it refutes or
-- gives a propositional clause. One that is to be split comes in parts. Another is registered, unless an equal one lives: then nothing changes.
abbrev pub comes : Bool → List Line → TreeClause → PoolRecord → PoolRecord
comes split lines c r =
    if has_none c.literals
    then empty_comes c (with_lines r lines)
    else (if is_to_split split c.literals
    then split_up c (with_lines r lines)
    else (if has_living r c then r else registered_last c (with_lines r lines)))

-- nothing is changed once the pool is refuted or spent
abbrev pub unless_ended : (PoolRecord → PoolRecord) → PoolRecord → PoolRecord
unless_ended change r = if is_none r.ended then change r else r

-- ---- inputs

-- in order, from number i on
abbrev pub with_inputs : Bool → ℕ → List TreeClause → PoolRecord → PoolRecord
with_inputs split i [] r = r
with_inputs split i (c ∷ cs) r = with_inputs split (suc i) cs (unless_ended (comes split (line_of (Clausify i) c ∷ []) c) r)
