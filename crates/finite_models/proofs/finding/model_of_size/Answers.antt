use Rattle.std.proofs.Common.{◌≤◌, Bool, List, map, subst, sym, ap, ◌∙◌, arith}
use Rattle.std.specs.List.{AllByRecursion}
use Rattle.sat_core.specs.Clause.{valuation_of}
use Rattle.sat_core.specs.Answer.{IsRightAnswer}
use Rattle.sat_core.specs.declared.answer.Answer.{Answer}
use Rattle.clausal_form.specs.Form.{form_of}
use Rattle.finite_models.specs.Found.{place_of_cell, cell_places}
use Rattle.finite_models.specs.Translation.{ClauseFits}
use Rattle.finite_models.specs.Table.{table_cells}
use Rattle.finite_models.proofs.AboutTables.CellLemmas.{cells-in-order}
use Rattle.finite_models.proofs.AboutTables.ModelLemmas.{form-fits}
use Rattle.finite_models.proofs.AboutTables.SolvedLemmas.{all-of-size, found-model, found-none}
use Rattle.finite_models.proofs.finding.model_of_size.Goals as goal

pub add_all_instances-requires-clause-fits : goal.add_all_instances-requires-clause-fits
add_all_instances-requires-clause-fits c =
    let some : 1 ≤ c.in_ok-names.names.size = omega (arith, c.in_ok-names.ensures.size, c.requires.size) in
    subst (AllByRecursion (ClauseFits c.in_ok-names.names)) (sym c.requires.flat)
    (form-fits (form_of c.args.form.now) c.in_ok-names.names c.requires.form c.in_ok-names.ensures.names some)

pub returns-in-Refuted-clause-none : goal.returns-in-Refuted-clause-none
returns-in-Refuted-clause-none c =
    let all = all-of-size (form_of c.args.form.now) c.in_ok-names.names c.args.flat.now c.new-clauses.result c.add_symbols.new.clauses
    c.add_constants.new.clauses c.add_all_instances.new.clauses c.new-clauses.ensures c.requires.flat c.in_ok-add_symbols.ensures
    c.in_ok-add_constants.ensures c.in_ok-add_all_instances.ensures in
    found-none (form_of c.args.form.now) c.in_ok-names.names c.args.size c.add_all_instances.new.clauses c.in-Refuted.field-0 c.requires.form
    c.in_ok-names.ensures.signature c.in_ok-names.ensures.names c.in_ok-names.ensures.size all
    (subst (λ (a : Answer). IsRightAnswer c.in_ok-names.names.count c.add_all_instances.new.clauses a) c.in-Refuted.is c.in_ok-solve.ensures.right)

pub returns-clause-model : goal.returns-clause-model
returns-clause-model c =
    let some : 1 ≤ c.in_ok-names.names.size = omega (arith, c.in_ok-names.ensures.size, c.requires.size) in
    let all = all-of-size (form_of c.args.form.now) c.in_ok-names.names c.args.flat.now c.new-clauses.result c.add_symbols.new.clauses
    c.add_constants.new.clauses c.add_all_instances.new.clauses c.new-clauses.ensures c.requires.flat c.in_ok-add_symbols.ensures
    c.in_ok-add_constants.ensures c.in_ok-add_all_instances.ensures in
    found-model (form_of c.args.form.now) c.in_ok-names.names c.in_ok-names.names.count c.add_all_instances.new.clauses c.in-Model.truths
    c.in_ok-table-in-Model.table c.requires.form some all
    (subst (λ (a : Answer). IsRightAnswer c.in_ok-names.names.count c.add_all_instances.new.clauses a) c.in-Model.is c.in_ok-solve.ensures.right)
    c.in_ok-table-in-Model.ensures.size
    (c.in_ok-table-in-Model.ensures.cells
    ∙ ap (λ (ts : List Bool). table_cells c.args.form.now.signature c.in_ok-names.names (valuation_of ts)) c.as_slice.ensures)

pub returns-clause-cells : goal.returns-clause-cells
returns-clause-cells c =
    let some : 1 ≤ c.in_ok-names.names.size = omega (arith, c.in_ok-names.ensures.size, c.requires.size) in
    ap (map place_of_cell) c.in_ok-table-in-Model.ensures.cells
    ∙ cells-in-order c.args.form.now.signature c.in_ok-names.names (valuation_of c.as_slice.result.now) some
    ∙ ap (cell_places c.args.form.now.signature) c.in_ok-names.ensures.size
