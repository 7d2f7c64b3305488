-- Lines of a derivation: as they are written, and as the kernel judges them.
use mathlib.Core.Bool.{beq}
use Rattle.std.specs.Prelude.{ℕ, Bool, ◌&&◌, List, [], ◌∷◌, ◌++◌, map, bytes_eq, if◌then◌else◌}
use Rattle.std.specs.List.{list_any}
pub use Rattle.tptp_tree.specs.Equality.{same_term, same_terms, same_formula}
use Rattle.tptp_tree.specs.Entries.{AnnotatedTree, role_word}
use Rattle.kernel_steps.specs.declared.step.Line.{Line}
use Rattle.tptp_source.specs.Sources.{SourceTree}
use Rattle.clausal_form.specs.DerivationSteps.{LineKind, component_kind, kind_of}

-- a line as it is written: an annotated formula with its source
pub record LineTree : Type 0 where
  pub entry : AnnotatedTree
  pub source : SourceTree

-- ---- equal entries

-- whether two entries agree in name, role, kind (`cnf` or `fof`) and formula
abbrev pub same_entry : AnnotatedTree → AnnotatedTree → Bool
same_entry a b =
    bytes_eq a.name b.name
    && (bytes_eq (role_word a.role) (role_word b.role) && (beq a.is_clause b.is_clause && same_formula a.formula b.formula))

-- ---- lines for the kernel

-- a line of the kernel, which has a step and a clause, with the name that it is written with
pub record NamedLine : Type 0 where
  pub name : List ℕ
  pub line : Line

-- Lines that were taken, and the names that they introduced. The number of a name is its place.
pub record Taken : Type 0 where
  pub lines : List NamedLine
  pub introduced : List (List ℕ)

-- the state before the first line
abbrev pub nothing_taken : Taken
nothing_taken = record { lines = []; introduced = [] }

-- the lines that were taken, without their names
abbrev pub kernel_lines : Taken → List Line
kernel_lines e = map (λ (l : NamedLine). l.line) e.lines

-- the introduced names after a line: a component line adds its name
abbrev pub names_with : List (List ℕ) → LineKind → List (List ℕ)
names_with names (component_kind n) = if list_any (bytes_eq n) names then names else names ++ n ∷ []
names_with names kind = names

-- the lines and introduced names after a further line is taken
abbrev pub with_line : Taken → LineTree → Line → Taken
with_line e t line = record {
  lines = e.lines ++ record { name = (t.entry).name; line = line } ∷ [];
  introduced = names_with e.introduced (kind_of t.source);
}
