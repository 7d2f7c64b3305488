-- The text of a finite model: its size, and the values of the problem's symbols.
use Rattle.std.specs.Prelude.{ℕ, List, [], ◌∷◌, ◌++◌, nat_lt, length, map, filter, flat_map, codes}
use Rattle.std.specs.Fmt.{decimal}
use Rattle.fol_base.specs.Interpretation.{Interpretation}
use Rattle.tptp_token.specs.Words.{name_text}
use Rattle.tptp_tree.specs.declared.problem.Annotated.{Annotated}
use Rattle.signature.specs.declared.symbol.Symbol.{Symbol}
use Rattle.signature.specs.Occurrences.{problem_symbols}
use Rattle.tstp_writer.specs.ClauseTrees.{symbol_name}
use Rattle.finite_models.specs.Found.{row_of}
use Rattle.finite_models.specs.declared.answer.Cell.{Cell}
use Rattle.finite_models.specs.declared.answer.Interpretation.{Interpretation as Table}

-- ---- what is shown

-- the cells of symbols that the list has
abbrev pub shown_cells : List Symbol → List Cell → List Cell
shown_cells symbols cells = filter (λ (c : Cell). nat_lt c.symbol (length symbols)) cells

-- the interpretation of these symbols
abbrev pub shown_part : List Symbol → Table → Interpretation
shown_part symbols t = record { size = t.size; rows = map row_of (shown_cells symbols t.cells) }

-- ---- lines

abbrev pub size_text : ℕ → List ℕ
size_text size = codes "% size " ++ decimal size ++ codes "\n"

abbrev pub more_values_text : List ℕ → List ℕ
more_values_text [] = codes ")"
more_values_text (v ∷ vs) = codes "," ++ decimal v ++ more_values_text vs

-- between brackets, or nothing where there are none
abbrev pub values_text : List ℕ → List ℕ
values_text [] = []
values_text (v ∷ vs) = codes "(" ++ decimal v ++ more_values_text vs

abbrev pub named_cell_text : List ℕ → Cell → List ℕ
named_cell_text name c = codes "% " ++ name_text name ++ values_text c.arguments ++ codes " = " ++ decimal c.value ++ codes "\n"

abbrev pub cell_text : List Symbol → Cell → List ℕ
cell_text symbols c = named_cell_text (symbol_name symbols c.symbol) c

-- the text of a table, for a problem
abbrev pub model_text : List Annotated → Table → List ℕ
model_text fs t = size_text t.size ++ flat_map (cell_text (problem_symbols fs)) (shown_cells (problem_symbols fs) t.cells)
