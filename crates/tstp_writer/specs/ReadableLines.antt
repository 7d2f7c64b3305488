-- Clause lines whose text can be read again: canonical clauses over the symbols of a form; and the kernel's lines as which their texts are
-- taken.
use Rattle.std.specs.Prelude.{ℕ, ◌+◌, ◌^◌, ◌<◌, Bool, false, ◌&&◌, ◌==◌, List, [], ◌∷◌, ◌++◌, map, filter_map, flat_map, length, Option, option_map, unwrap_or, slice_get, position, IsTrue}
use Rattle.std.specs.List.{list_all, AllByRecursion}
use Rattle.plain_types.specs.declared.sequence.NameLit.{NameLit}
use Rattle.fol_base.specs.Tree.{Tree, tree_variables}
use Rattle.fol_base.specs.Kind.{is_function_term, is_literal}
use Rattle.fol_base.specs.Clause.{TreeLiteral, TreeClause, clause_variables}
use Rattle.fol_base.specs.Instance.{Substitution, instance}
use Rattle.fol_base.specs.Canonical.{distinct, renaming, IsCanonical}
use Rattle.fol_base.specs.Literal.{clause_of}
use Rattle.tptp_tree.specs.declared.problem.Annotated.{Annotated}
use Rattle.signature.specs.declared.symbol.Symbol.{Symbol}
use Rattle.kernel_steps.specs.Conclusion.{empty_clause}
use Rattle.kernel_steps.specs.Derivation.{is_clause_step}
use Rattle.kernel_steps.specs.Soundness.{bindings_of, binds_each}
use Rattle.kernel_steps.specs.Lines.{is_small_term, has_small_sides}
use Rattle.kernel_steps.specs.Symbols.{symbols_pass, literal_symbols_pass}
use Rattle.kernel_steps.specs.declared.step.Step.{Step}
use Rattle.kernel_steps.specs.declared.step.Step.TheVariants.{Input, Negate, Para, Refl, Factor, Merge, Component, Opposite, Split, Chain}
use Rattle.kernel_steps.specs.declared.step.Line.{Line}
use Rattle.clausal_form.specs.DerivationLine.{NamedLine, same_entry}
use Rattle.tptp_tree.specs.Shape.{entry_of}
use Rattle.kernel_steps.specs.FromTrees.{line_of}
use Rattle.clausal_form.specs.FormFunctions.{is_predicate_in}
use Rattle.tstp_writer.specs.LineTrees.{Layout, line_name, place_in, derived_name}

-- ---- symbols

-- the list has a symbol of number f, with n arguments
abbrev pub is_symbol_in : List Symbol → ℕ → ℕ → Bool
is_symbol_in symbols f n = unwrap_or (option_map (λ (s : Symbol). s.arity == n) (slice_get symbols f)) false

-- the literal's symbols are those of the list, predicates and functions each in their places
abbrev pub is_literal_over : List Symbol → TreeLiteral → Bool
is_literal_over symbols l = is_literal (is_predicate_in symbols) l && literal_symbols_pass (is_symbol_in symbols) l

-- a function term of such symbols
abbrev pub is_term_over : List Symbol → Tree → Bool
is_term_over symbols t = is_function_term (is_predicate_in symbols) t && symbols_pass (is_symbol_in symbols) t

-- ---- variables

-- the terms to which a step binds variables
abbrev pub bound_by : Step → List Tree
bound_by step = flat_map (λ ts. ts) (bindings_of step)

-- the variables of a clause, and then those of what its step binds, with repetitions
abbrev pub line_variables : Step → TreeClause → List ℕ
line_variables step c = clause_variables c ++ flat_map tree_variables (bound_by step)

-- ---- numbers

-- a number that can be read again
abbrev pub Fits : ℕ → Type 0
Fits n = n < 2 ^ 64

-- the name that a component line introduces, and the places of literals in the parts of a split
abbrev pub step_numbers : Step → List ℕ
step_numbers (Component name) = name ∷ []
step_numbers (Split parent definitions parts) = flat_map (λ ns. ns) parts
step_numbers step = []

-- ---- lines

-- A clause with the step that gave it, of which the text can be read again. A text may have 5,000 levels of brackets, and no term has more
-- levels than symbols.
pub record IsReadable (symbols : List Symbol) (step : Step) (c : TreeClause) : Type 0 where
  pub literals : IsTrue (list_all (is_literal_over symbols) c.literals)
  pub sides : IsTrue (list_all has_small_sides c.literals)
  pub binds : IsTrue (binds_each (is_term_over symbols) step)
  pub small : IsTrue (binds_each is_small_term step)
  pub canonical : IsCanonical c

abbrev pub IsReadableLine : List Symbol → Line → Type 0
IsReadableLine symbols line = IsReadable symbols line.step (clause_of line.clause)

abbrev pub IsReadableClauseLine : List Symbol → Line → Type 0
IsReadableClauseLine symbols line = IsTrue (is_clause_step line.step) × IsReadableLine symbols line

-- The numbers in the text of a line can be read again. Those of the kernel's own lines are machine words.
pub record NumbersFit (step : Step) (c : TreeClause) : Type 0 where
  pub variables : AllByRecursion Fits (line_variables step c)
  pub numbers : AllByRecursion Fits (step_numbers step)

abbrev pub LinesFit : List Line → Type 0
LinesFit lines = AllByRecursion (λ (l : Line). NumbersFit l.step (clause_of l.clause)) lines

-- ---- names

-- the name that a component line introduces
abbrev pub step_names : Step → List ℕ
step_names (Component name) = name ∷ []
step_names step = []

-- the names that lines introduce, in the order of the lines
abbrev pub names_of_lines : List Line → List ℕ
names_of_lines lines = flat_map (λ (l : Line). step_names l.step) lines

-- An introduced name is read as its place among all of them.
abbrev pub read_name : List ℕ → NameLit → NameLit
read_name names n = record { positive = n.positive; name = place_in n.name names }

abbrev pub read_clause : List ℕ → TreeClause → TreeClause
read_clause names c = record { literals = c.literals; names = map (read_name names) c.names }

-- ---- the lines that are taken when the text is read again

-- the place of a derivation's line among all lines that are written
abbrev pub written_place : Layout → ℕ → ℕ
written_place layout n = length layout.cited + length layout.negated + place_in n layout.numbers

-- Variables are read by their first places. Those of a canonical clause keep their numbers; those that the step's terms alone have are
-- numbered after them.
abbrev pub read_renaming : Step → TreeClause → Substitution
read_renaming step c = renaming (distinct (line_variables step c))

abbrev pub read_terms : Substitution → List Tree → List Tree
read_terms σ ts = map (instance σ) ts

-- The step with its parents' places, with its names as they are read, and with the terms that it binds as they are read.
abbrev pub placed_step : Layout → List ℕ → Substitution → Step → Step
placed_step layout names σ (Para first second from from_side into into_side place first_bind second_bind) =
    Para (written_place layout first) (written_place layout second) from from_side into into_side place
    (read_terms σ first_bind) (read_terms σ second_bind)
placed_step layout names σ (Refl parent literal bind) = Refl (written_place layout parent) literal (read_terms σ bind)
placed_step layout names σ (Factor parent becomes becomes_side other other_side bind) =
    Factor (written_place layout parent) becomes becomes_side other other_side (read_terms σ bind)
placed_step layout names σ (Merge parent stays goes bind) = Merge (written_place layout parent) stays goes (read_terms σ bind)
placed_step layout names σ (Component name) = Component (place_in name names)
placed_step layout names σ (Opposite name) = Opposite (place_in name names)
placed_step layout names σ (Split parent definitions parts) =
    Split (written_place layout parent) (map (written_place layout) definitions) parts
placed_step layout names σ (Chain parents pivots) = Chain (map (written_place layout) parents) (map (read_name names) pivots)
placed_step layout names σ step = step

abbrev pub placed_line : Layout → List ℕ → Step → TreeClause → Line
placed_line layout names step c = line_of (placed_step layout names (read_renaming step c) step) (read_clause names c)

-- the place of the first formula that equals the one at a place
abbrev pub first_place : List Annotated → ℕ → ℕ
first_place problem place =
    unwrap_or
    (option_map (λ found. unwrap_or found 0)
    (option_map (λ (a : Annotated). position (λ b. same_entry (entry_of a) (entry_of b)) problem) (slice_get problem place)))
    0

abbrev pub taken_as : List ℕ → Line → NamedLine
taken_as name line = record { name = name; line = line }

-- the formulas' lines from a number on, then those of their negations
abbrev pub inputs_taken : List Annotated → ℕ → List ℕ → List NamedLine
inputs_taken problem k [] = []
inputs_taken problem k (place ∷ places) =
    taken_as (line_name k) (line_of (Input (first_place problem place)) empty_clause) ∷ inputs_taken problem (k + 1) places

abbrev pub negations_taken : List Annotated → ℕ → List ℕ → List NamedLine
negations_taken problem k [] = []
negations_taken problem k (place ∷ places) =
    taken_as (line_name k) (line_of (Negate (first_place problem place)) empty_clause) ∷ negations_taken problem (k + 1) places

-- the line as which a derivation's line is taken
abbrev pub derived_taken : Layout → List ℕ → List Line → ℕ → Option NamedLine
derived_taken layout names lines n =
    option_map
    (λ (l : Line). taken_as (derived_name layout n) (placed_line layout names l.step (clause_of l.clause)))
    (slice_get lines n)

-- all lines that are taken, those of the derivation with these numbers among them
abbrev pub all_written : List Annotated → Layout → List ℕ → List Line → List ℕ → List NamedLine
all_written problem layout names lines numbers =
    inputs_taken problem 0 layout.cited
    ++ negations_taken problem (length layout.cited) layout.negated
    ++ filter_map (derived_taken layout names lines) numbers
