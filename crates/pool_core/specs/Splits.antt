-- What a pool keeps of splitting: the parts with their tags, the clauses over names, and the last model.
use Rattle.std.specs.Prelude.{◌≡◌, ℕ, ◌+◌, ◌<◌, ◌≤◌, Bool, false, List, map, length, All, IsTrue, vec_len, vec_capacity}
use Rattle.std.specs.List.{list_any, range_with_len}
use Rattle.plain_types.specs.declared.sequence.NameLit.{NameLit}
use Rattle.plain_types.specs.Names.{positive_of, same_name}
use Rattle.fol_base.specs.Clause.{TreeLiteral}
use Rattle.kernel_steps.specs.declared.step.Step.{Step}
use Rattle.kernel_steps.specs.declared.step.Line.{Line}
use Rattle.bank_clause.specs.Clause.{AreAssertions}
use Rattle.split_parts.specs.SignedNames.{signed_name}
use Rattle.pool_history.specs.Tags.{name_count}
use Rattle.pool_history.specs.Record.{PoolRecord, Registered, PropositionalClause}
use Rattle.pool_history.specs.Lines.{introduces, definition_of}
use Rattle.pool_core.specs.declared.splits.Splits.{Splits}

pub record SplitView : Type 0 where
  pub parts : List (List TreeLiteral)
  pub component_lines : List ℕ
  pub definition_lines : List ℕ
  pub propositional : List (List NameLit)
  pub propositional_lines : List ℕ
  pub model : List Bool
  pub modelled : ℕ

abbrev pub split_view : Splits → SplitView
split_view s = record {
  parts = s.parts.parts;
  component_lines = s.component_lines.items;
  definition_lines = s.definition_lines.items;
  propositional = s.propositional.lists;
  propositional_lines = s.propositional_lines.items;
  model = s.model;
  modelled = s.modelled;
}

-- the number of the component line of each name
abbrev pub component_lines : List (List TreeLiteral) → List Line → List ℕ
component_lines parts lines = map (λ k. definition_of lines (positive_of k)) (range_with_len 0 (name_count parts))

-- for each tag the number of the line that introduces its signed name
abbrev pub definition_lines : List (List TreeLiteral) → List Line → List ℕ
definition_lines parts lines = map (λ part. definition_of lines (signed_name parts part)) parts

-- a line introduces the signed name
abbrev pub is_introduced : NameLit → List Line → Bool
is_introduced n lines = list_any (λ (l : Line). introduces n l.step) lines

-- the name is one of the parts, and where it is negative it is the signed name of one
abbrev pub IsNameOf : List (List TreeLiteral) → NameLit → Type 0
IsNameOf parts n = (n.name < name_count parts) × (n.positive ≡ false → IsTrue (list_any (λ part. same_name n (signed_name parts part)) parts))

-- what is kept is what a record has
pub record AreSplitsOf (v : SplitView) (ps : List (List TreeLiteral)) (lines : List Line) (clauses : List PropositionalClause)
    (truths : List Bool) (count : ℕ) : Type 0 where
  pub parts : v.parts ≡ ps
  pub component_lines : v.component_lines ≡ component_lines ps lines
  pub definition_lines : v.definition_lines ≡ definition_lines ps lines
  pub propositional : v.propositional ≡ map (λ (c : PropositionalClause). c.names) clauses
  pub propositional_lines : v.propositional_lines ≡ map (λ (c : PropositionalClause). c.line) clauses
  pub model : v.model ≡ truths
  pub modelled : v.modelled ≡ count
  -- each name is introduced, and no other is
  pub components : All (λ n. n < length lines) v.component_lines
  pub definitions : All (λ n. n < length lines) v.definition_lines
  pub known : (n : NameLit) → IsTrue (is_introduced n lines) → IsNameOf ps n

-- the steps are those of the record's lines, and what is kept is what it has
pub record AreStepsAndSplitsOf (v : SplitView) (ss : List Step) (r : PoolRecord) : Type 0 where
  pub steps : ss ≡ map (λ (l : Line). l.step) r.lines
  pub splits : AreSplitsOf v r.parts r.lines r.propositional r.model r.modelled

-- room for the tags of parts
pub record HasPartRoom (s : Splits) (count : ℕ) : Type 0 where
  pub parts : count ≤ s.parts.spare
  pub components : vec_len s.component_lines + count ≤ vec_capacity s.component_lines
  pub definitions : vec_len s.definition_lines + count ≤ vec_capacity s.definition_lines

-- room for clauses over names, and for the literals that these have together
pub record HasClauseRoom (s : Splits) (count size : ℕ) : Type 0 where
  pub clauses : count ≤ s.propositional.spare_lists
  pub literals : size ≤ s.propositional.spare_items
  pub lines : vec_len s.propositional_lines + count ≤ vec_capacity s.propositional_lines

-- the assertions of a clause are negative names that rise, whose numbers are tags
abbrev pub HasTags : ℕ → Registered → Type 0
HasTags count c = AreAssertions c.clause.names × All (λ (n : NameLit). n.name < count) c.clause.names
