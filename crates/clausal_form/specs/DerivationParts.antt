-- The facts by which a line of a derivation is judged: the problem with its clausal form, the lines before it, and its own parts.
use Rattle.std.specs.Prelude.{ℕ, ◌==◌, List, [], map, filter_map, flat_map, Option, option_map, option_and_then, unwrap_or, slice_get, position, bytes_eq, if◌then◌else◌}
use Rattle.fol_base.specs.Tree.{Tree}
use Rattle.fol_base.specs.Clause.{TreeClause}
use Rattle.tptp_tree.specs.Term.{TermTree}
use Rattle.tptp_tree.specs.Formula.{FormulaTree}
use Rattle.tptp_tree.specs.Entries.{AnnotatedTree}
use Rattle.tptp_tree.specs.declared.problem.Annotated.{Annotated}
use Rattle.signature.specs.Form.{ClausalForm, clausal_form}
use Rattle.kernel_steps.specs.Parents.{Parents}
use Rattle.kernel_steps.specs.Derivation.{line_parents}
use Rattle.kernel_steps.specs.declared.step.Step.{Step}
use Rattle.tptp_source.specs.General.{GeneralTree}
use Rattle.tptp_source.specs.Sources.{SourceTree, inference_source}
use Rattle.clausal_form.specs.DerivationClause.{ordinary_literals, Numbering, numbering, term_by, clause_by}
use Rattle.clausal_form.specs.DerivationItems.{only_one, bindings_in}
use Rattle.clausal_form.specs.DerivationSteps.{LineKind, kind_of, bindings_count}
use Rattle.clausal_form.specs.DerivationLine.{LineTree, NamedLine, Taken, kernel_lines, names_with}
use Rattle.tptp_tree.specs.Shape.{entry_of}

-- a problem with its clausal form
pub record Setting : Type 0 where
  pub problem : List Annotated
  pub form : ClausalForm

-- a problem with the clausal form that the definition gives
abbrev pub setting_of : List Annotated → Setting
setting_of problem = record { problem = problem; form = clausal_form problem }

-- the formula of the problem at a place
abbrev pub entry_at : Setting → ℕ → Option AnnotatedTree
entry_at s place = option_map entry_of (slice_get s.problem place)

-- ---- the source

-- the kind of a line, by its source
abbrev pub line_kind : LineTree → LineKind
line_kind t = kind_of t.source

-- the names of a source's parents; none if it is no inference
abbrev pub parent_names : SourceTree → List (List ℕ)
parent_names (inference_source rule items parents) = parents
parent_names source = []

-- the items of a source: its status, and the places and bindings of its rule; none if it is no inference
abbrev pub items_of : SourceTree → List GeneralTree
items_of (inference_source rule items parents) = items
items_of source = []

-- ---- parents

-- the place of the earlier line with a name
abbrev pub line_place : Taken → List ℕ → Option ℕ
line_place e name = position (λ (l : NamedLine). bytes_eq name l.name) e.lines

-- the places of a line's parents among the earlier lines, each if it is there
abbrev pub parent_places : Taken → LineTree → List (Option ℕ)
parent_places e t = map (line_place e) (parent_names t.source)

-- the places of the parents that are earlier lines
abbrev pub parents_of : Taken → LineTree → List ℕ
parents_of e t = filter_map (λ o. o) (parent_places e t)

-- the clauses of earlier lines, by their places, as the kernel looks up parents; a formula line is no parent
abbrev pub parent_lines : Taken → Parents
parent_lines e = line_parents (kernel_lines e)

-- the step of the parent, if there is one alone
abbrev pub only_parent_step : Taken → LineTree → Option Step
only_parent_step e t = option_and_then (λ n. option_map (λ (l : NamedLine). (l.line).step) (slice_get e.lines n)) (only_one (parents_of e t))

-- ---- the clause, and the bindings

-- the terms that the `bind` items give to each parent's variables; none of a rule without bindings
abbrev pub bound_terms : LineTree → List (Option (List TermTree))
bound_terms t = if bindings_count (line_kind t) == 0 then [] else bindings_in (items_of t.source)

-- the names that count as introduced on this line: those of earlier lines, and the name of a component line itself
abbrev pub line_names : Taken → LineTree → List (List ℕ)
line_names e t = names_with e.introduced (line_kind t)

-- the literals of the line that are no introduced names
abbrev pub line_literals : Taken → LineTree → List FormulaTree
line_literals e t = ordinary_literals (line_names e t) (t.entry).formula

-- all terms of the line's bindings, in order
abbrev pub all_bound : LineTree → List TermTree
all_bound t = flat_map (λ o. unwrap_or o []) (bound_terms t)

-- the numbers of the line's symbols and variables, by its literals and then its bindings
abbrev pub line_numbering : Setting → Taken → LineTree → Numbering
line_numbering s e t = numbering (s.form).symbols (line_literals e t) (all_bound t)

-- the clause that the line is written with
abbrev pub line_clause : Setting → Taken → LineTree → TreeClause
line_clause s e t = clause_by (line_numbering s e t) (line_names e t) (t.entry).formula

-- the bindings as trees over the symbols' numbers
abbrev pub line_bindings : Setting → Taken → LineTree → List (Option (List Tree))
line_bindings s e t = map (option_map (map (term_by (line_numbering s e t)))) (bound_terms t)
