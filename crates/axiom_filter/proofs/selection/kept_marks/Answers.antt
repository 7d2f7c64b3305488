use Rattle.std.proofs.Common.{◌≡◌, ℕ, ◌<◌, List, [], length, ap, sym, ◌∙◌, subst, arith}
use Rattle.std.proofs.lemmas.List.{length-map, with_items_is}
use Rattle.axiom_filter.specs.Numbering.{formula_rows}
use Rattle.axiom_filter.specs.Tables.{is_marked, row_of, rows_with, rare_enough, least_length, AreRowsBelow}
use Rattle.axiom_filter.proofs.AboutSelections.NumberingLemmas.{rows-below, rows-length}
use Rattle.axiom_filter.proofs.AboutSelections.KeptLemmas.{rows-in, places-in, triggered-in, goals-in, marks-are}
use Rattle.axiom_filter.proofs.selection.kept_marks.Goals as goal

pub symbol_index-requires : goal.symbol_index-requires
symbol_index-requires c =
    let rows_are : c.as_slice-rows.result.now ≡ formula_rows [] c.args.formulas.now =
    c.as_slice-rows.ensures.value ∙ c.in_ok-rows.ensures.rows in
    rows-below c.args.formulas.now c.as_slice-rows.result.now c.in_ok-rows.field-0.symbols rows_are c.in_ok-rows.ensures.symbols

pub rarest_counts-requires : goal.rarest_counts-requires
rarest_counts-requires c =
    let rows_are : c.as_slice-rows.result.now ≡ formula_rows [] c.args.formulas.now =
    c.as_slice-rows.ensures.value ∙ c.in_ok-rows.ensures.rows in
    let count : length c.as_slice-index.result.now ≡ c.in_ok-rows.field-0.symbols = ap length c.as_slice-index.ensures.value ∙ c.in_ok-index.ensures.symbols in
    let lists : (n : ℕ) → n < c.in_ok-rows.field-0.symbols → row_of c.as_slice-index.result.now n ≡ rows_with n c.as_slice-rows.result.now =
    λ n h. ap (λ (ts : List (List ℕ)). row_of ts n) c.as_slice-index.ensures.value ∙ c.in_ok-index.ensures.lists n h in
    rows-in c.args.tolerance c.args.formulas.now c.in_ok-rows.field-0.symbols c.as_slice-rows.result.now c.as_slice-index.result.now
    rows_are c.in_ok-rows.ensures.symbols count lists

pub triggered-requires : goal.triggered-requires
triggered-requires c =
    let rows_are : c.as_slice-rows.result.now ≡ formula_rows [] c.args.formulas.now =
    c.as_slice-rows.ensures.value ∙ c.in_ok-rows.ensures.rows in
    let count : length c.as_slice-index.result.now ≡ c.in_ok-rows.field-0.symbols = ap length c.as_slice-index.ensures.value ∙ c.in_ok-index.ensures.symbols in
    let lists : (n : ℕ) → n < c.in_ok-rows.field-0.symbols → row_of c.as_slice-index.result.now n ≡ rows_with n c.as_slice-rows.result.now =
    λ n h. ap (λ (ts : List (List ℕ)). row_of ts n) c.as_slice-index.ensures.value ∙ c.in_ok-index.ensures.lists n h in
    subst (λ k. AreRowsBelow k c.as_slice-index.result.now)
    (sym
    (ap length (c.as_slice.ensures.value ∙ c.in_ok-rarest.ensures)
    ∙ length-map c.as_slice-rows.result.now (least_length c.as_slice-index.result.now)))
    (places-in c.args.tolerance c.args.formulas.now c.in_ok-rows.field-0.symbols c.as_slice-rows.result.now c.as_slice-index.result.now
    rows_are c.in_ok-rows.ensures.symbols count lists)

pub walk-requires-clause-goals : goal.walk-requires-clause-goals
walk-requires-clause-goals c =
    let rows_are : c.as_slice-rows.result.now ≡ formula_rows [] c.args.formulas.now =
    c.as_slice-rows.ensures.value ∙ c.in_ok-rows.ensures.rows in
    let count : length c.as_slice-index.result.now ≡ c.in_ok-rows.field-0.symbols = ap length c.as_slice-index.ensures.value ∙ c.in_ok-index.ensures.symbols in
    let lists : (n : ℕ) → n < c.in_ok-rows.field-0.symbols → row_of c.as_slice-index.result.now n ≡ rows_with n c.as_slice-rows.result.now =
    λ n h. ap (λ (ts : List (List ℕ)). row_of ts n) c.as_slice-index.ensures.value ∙ c.in_ok-index.ensures.lists n h in
    goals-in c.args.tolerance c.args.formulas.now c.in_ok-rows.field-0.symbols c.as_slice-rows.result.now c.as_slice-index.result.now
    rows_are c.in_ok-rows.ensures.symbols count lists
    c.as_slice-goals.result.now (c.as_slice-goals.ensures ∙ c.in_ok-goals.ensures)

pub walk-requires-clause-rows : goal.walk-requires-clause-rows
walk-requires-clause-rows c =
    let rows_are : c.as_slice-rows.result.now ≡ formula_rows [] c.args.formulas.now =
    c.as_slice-rows.ensures.value ∙ c.in_ok-rows.ensures.rows in
    let count : length c.as_slice-index.result.now ≡ c.in_ok-rows.field-0.symbols = ap length c.as_slice-index.ensures.value ∙ c.in_ok-index.ensures.symbols in
    let lists : (n : ℕ) → n < c.in_ok-rows.field-0.symbols → row_of c.as_slice-index.result.now n ≡ rows_with n c.as_slice-rows.result.now =
    λ n h. ap (λ (ts : List (List ℕ)). row_of ts n) c.as_slice-index.ensures.value ∙ c.in_ok-index.ensures.lists n h in
    subst (λ k. AreRowsBelow k c.as_slice-rows.result.now)
    (sym
    (ap length (c.as_slice-2.ensures.value ∙ c.in_ok-triggers.ensures)
    ∙ length-map c.as_slice-index.result.now (rare_enough c.args.tolerance c.as_slice.result.now)))
    (rows-in c.args.tolerance c.args.formulas.now c.in_ok-rows.field-0.symbols c.as_slice-rows.result.now c.as_slice-index.result.now
    rows_are c.in_ok-rows.ensures.symbols count lists)

pub walk-requires-clause-triggers : goal.walk-requires-clause-triggers
walk-requires-clause-triggers c =
    let rows_are : c.as_slice-rows.result.now ≡ formula_rows [] c.args.formulas.now =
    c.as_slice-rows.ensures.value ∙ c.in_ok-rows.ensures.rows in
    let count : length c.as_slice-index.result.now ≡ c.in_ok-rows.field-0.symbols = ap length c.as_slice-index.ensures.value ∙ c.in_ok-index.ensures.symbols in
    let lists : (n : ℕ) → n < c.in_ok-rows.field-0.symbols → row_of c.as_slice-index.result.now n ≡ rows_with n c.as_slice-rows.result.now =
    λ n h. ap (λ (ts : List (List ℕ)). row_of ts n) c.as_slice-index.ensures.value ∙ c.in_ok-index.ensures.lists n h in
    triggered-in c.args.tolerance c.args.formulas.now c.in_ok-rows.field-0.symbols c.as_slice-rows.result.now c.as_slice-index.result.now
    rows_are c.in_ok-rows.ensures.symbols count lists
    c.as_slice.result.now c.as_slice-2.result.now (c.as_slice-2.ensures.value ∙ c.in_ok-triggers.ensures)

pub mark_others-requires-clause-rows : goal.mark_others-requires-clause-rows
mark_others-requires-clause-rows c =
    let rows_are : c.as_slice-rows.result.now ≡ formula_rows [] c.args.formulas.now =
    c.as_slice-rows.ensures.value ∙ c.in_ok-rows.ensures.rows in
    rows-length c.args.formulas.now c.as_slice-rows.result.now rows_are

pub mark_others-requires-clause-marks : goal.mark_others-requires-clause-marks
mark_others-requires-clause-marks c =
    let rows_are : c.as_slice-rows.result.now ≡ formula_rows [] c.args.formulas.now =
    c.as_slice-rows.ensures.value ∙ c.in_ok-rows.ensures.rows in
    ap length c.as_mut_slice.ensures.value ∙ c.in_ok-marks.ensures.count ∙ rows-length c.args.formulas.now c.as_slice-rows.result.now rows_are

pub returns : goal.returns
returns c =
    let rows_are : c.as_slice-rows.result.now ≡ formula_rows [] c.args.formulas.now =
    c.as_slice-rows.ensures.value ∙ c.in_ok-rows.ensures.rows in
    let count : length c.as_slice-index.result.now ≡ c.in_ok-rows.field-0.symbols = ap length c.as_slice-index.ensures.value ∙ c.in_ok-index.ensures.symbols in
    let lists : (n : ℕ) → n < c.in_ok-rows.field-0.symbols → row_of c.as_slice-index.result.now n ≡ rows_with n c.as_slice-rows.result.now =
    λ n h. ap (λ (ts : List (List ℕ)). row_of ts n) c.as_slice-index.ensures.value ∙ c.in_ok-index.ensures.lists n h in
    let size : length c.mark_others.new.marks ≡ c.in_ok-marks.marks.len = omega (arith, c.mark_others.auto.marks, c.as_mut_slice.ensures.len) in
    let long : length c.as_mut_slice.result.now ≡ length c.args.formulas.now =
    ap length c.as_mut_slice.ensures.value ∙ c.in_ok-marks.ensures.count ∙ rows-length c.args.formulas.now c.as_slice-rows.result.now rows_are in
    with_items_is c.in_ok-marks.marks c.mark_others.new.marks size
    ∙ marks-are c.args.tolerance c.args.formulas.now c.in_ok-rows.field-0.symbols c.as_slice-rows.result.now c.as_slice-index.result.now
    rows_are c.in_ok-rows.ensures.symbols count lists
    c.args.depth c.as_slice.result.now c.as_slice-goals.result.now c.as_slice-2.result.now c.is_empty.result c.as_mut_slice.result.now
    c.mark_others.new.marks (omega (arith, c.well_formed)) (c.as_slice.ensures.value ∙ c.in_ok-rarest.ensures)
    (c.as_slice-2.ensures.value ∙ c.in_ok-triggers.ensures) (c.as_slice-goals.ensures ∙ c.in_ok-goals.ensures) c.is_empty.ensures
    (λ n. ap (λ ms. is_marked ms n) c.as_mut_slice.ensures.value ∙ c.in_ok-marks.ensures.taken n) c.mark_others.ensures
    (omega (arith, c.mark_others.auto.marks, long))
