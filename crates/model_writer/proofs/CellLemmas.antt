-- The line of a cell whose symbol is there.
use Rattle.std.proofs.Common.{◌≡◌, cond, ℕ, ◌<◌, nat_lt, Bool, true, List, [], ◌∷◌, ◌++◌, length, get_or, append-nil, refl, ap, sym, ◌∙◌}
use Rattle.std.specs.Prelude.{flat_map, unwrap_or, option_map}
use Rattle.std.proofs.lemmas.Bool.{ltb-true}
use Rattle.std.proofs.lemmas.Option.{slice_get_read}
use Rattle.signature.specs.declared.symbol.Symbol.{Symbol}
use Rattle.finite_models.specs.declared.answer.Cell.{Cell}
use Rattle.model_writer.specs.TableText.{named_cell_text, cell_text, shown_cells}

pub cell-shown :
    (symbols : List Symbol) (s : Symbol) (c : Cell) → nat_lt c.symbol (length symbols) ≡ true → s ≡ get_or symbols c.symbol s
    → named_cell_text s.name c ≡ flat_map (cell_text symbols) (shown_cells symbols (c ∷ []))
cell-shown symbols s c known read =
    sym (ap (λ (b : Bool). flat_map (cell_text symbols) (cond b (c ∷ []) [])) known
    ∙ append-nil (cell_text symbols c)
    ∙ ap (λ o. named_cell_text (unwrap_or (option_map (λ (u : Symbol). u.name) o) []) c)
    (slice_get_read symbols (length symbols) c.symbol s refl (ltb-true c.symbol (length symbols) known) read))
