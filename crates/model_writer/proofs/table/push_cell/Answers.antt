use Rattle.std.proofs.Common.{◌++◌, List, ℕ, ap, sym, ◌∙◌}
use Rattle.std.proofs.lemmas.Result.{IfOk-weaker}
use Rattle.model_writer.specs.TableText.{named_cell_text}
use Rattle.model_writer.proofs.CellLemmas.{cell-shown}
use Rattle.model_writer.proofs.table.push_cell.Goals as goal

pub returns-in-Some : goal.returns-in-Some
returns-in-Some c =
    IfOk-weaker c.push_named_cell.result _ _
    (λ x h.
    h
    ∙ ap (λ (ts : List ℕ). c.args.page.now ++ ts)
    (ap (λ (name : List ℕ). named_cell_text name c.args.cell.now) c.as_slice.ensures
    ∙ cell-shown c.args.symbols.now c.in-Some.symbol.now c.args.cell.now (sym c.in-Some.ensures.lookup.0) c.in-Some.ensures.lookup.1))
    c.push_named_cell.ensures
