-- What the search for a finite model answers.
use Rattle.std.specs.Prelude.{◌≡◌, ℕ, ◌+◌, ◌-◌, ◌^◌, ◌≤◌, ◌<◌, List, map, flat_map, length}
use Rattle.fol_base.specs.Canonical.{numbers_from}
use Rattle.fol_base.specs.Interpretation.{Row, Interpretation}
use Rattle.signature.specs.declared.symbol.Symbol.{Symbol}
use Rattle.signature.specs.Form.{ClausalForm}
use Rattle.clausal_form.specs.FormLaws.{arity_in}
use Rattle.finite_models.specs.declared.answer.Cell.{Cell}
use Rattle.finite_models.specs.declared.answer.Interpretation.{Interpretation as Table}
use Rattle.finite_models.specs.declared.answer.Found.{Found}
use Rattle.finite_models.specs.declared.answer.Found.TheVariants.{Model, NoModel, TooLarge}
use Rattle.finite_models.specs.declared.finding.TheConstants.{MOST_MEASURE}
use Rattle.finite_models.specs.Digits.{digits}
use Rattle.finite_models.specs.Model.{IsModel}
use Rattle.finite_models.specs.Measure.{form_measure}

-- ---- the table

abbrev pub row_of : Cell → Row
row_of c = record { symbol = c.symbol; arguments = c.arguments; value = c.value }

abbrev pub interpretation_of : Table → Interpretation
interpretation_of t = record { size = t.size; rows = map row_of t.cells }

-- a symbol with a list of values, as its arguments
abbrev pub CellPlace : Type 0
CellPlace = ℕ × List ℕ

abbrev pub place_of_cell : Cell → CellPlace
place_of_cell c = (c.symbol, c.arguments)

-- the lists of so many values in order: (0,0), (0,1), and so on
abbrev pub symbol_places : ℕ → ℕ → ℕ → List CellPlace
symbol_places size arity f = map (λ number. (f, digits size arity number)) (numbers_from 0 (size ^ arity))

-- every symbol but `$true`, which is number 0, with every list of values
abbrev pub cell_places : List Symbol → ℕ → List CellPlace
cell_places symbols size = flat_map (λ f. symbol_places size (arity_in symbols f) f) (numbers_from 1 (length symbols - 1))

-- ---- the answers

-- No size below n has a model, and none of these sizes is too large to be searched.
pub record AreRuledOut (form : ClausalForm) (n : ℕ) : Type 0 where
  pub no_model : (i : Interpretation) → IsModel form i → n ≤ i.size
  pub within : (size : ℕ) → 1 ≤ size → size < n → form_measure form size ≤ MOST_MEASURE

-- a table of the least size that has a model
pub record IsLeastModel (form : ClausalForm) (most : ℕ) (t : Table) : Type 0 where
  pub searched : t.size ≤ most
  pub within : form_measure form t.size ≤ MOST_MEASURE
  pub smaller : AreRuledOut form t.size
  pub model : IsModel form (interpretation_of t)
  pub cells : map place_of_cell t.cells ≡ cell_places form.symbols t.size

-- the least size that is too large, where no smaller size has a model
pub record IsTooLarge (form : ClausalForm) (most n : ℕ) : Type 0 where
  pub some_value : 1 ≤ n
  pub searched : n ≤ most
  pub smaller : AreRuledOut form n
  pub over : MOST_MEASURE < form_measure form n

abbrev pub IsFound : ClausalForm → ℕ → Found → Type 0
IsFound form most (Model t) = IsLeastModel form most t
IsFound form most NoModel = AreRuledOut form (most + 1)
IsFound form most (TooLarge n) = IsTooLarge form most n
