-- Literals of over MOST_SYMBOLS symbols in the clauses of a normal form, as it is written; and the symbols of its literals together. Negation
-- stands before predicates alone, and a variable counts as one symbol. A product with a member that has no clauses has none itself, and so no
-- such literal.
use Rattle.std.specs.Prelude.{ℕ, ◌+◌, nat_lt, min, Bool, false, ◌&&◌, ◌||◌, if◌then◌else◌}
use Rattle.tptp_tree.specs.Term.{term_size, terms_size}
use Rattle.tptp_tree.specs.Formula.{FormulaTree, truth, falsity, predicate, equation, negation, conjunction, disjunction, connected, quantified, FormulaTrees, no_formulas, formula_then}
use Rattle.fol_base.specs.declared.limits.TheConstants.{MOST_SYMBOLS}
use Rattle.skolem.specs.SkolemizedLaws.{is_predicate}
use Rattle.skolem.specs.Heavy.{all_forms_have_clauses}

abbrev mutual
  pub heavy_form : FormulaTree → Bool
  heavy_form truth = false
  heavy_form falsity = false
  heavy_form (predicate p ts) = nat_lt MOST_SYMBOLS (2 + terms_size ts)
  heavy_form (equation positive s t) = nat_lt MOST_SYMBOLS (term_size s + term_size t)
  heavy_form (negation f) = is_predicate f && heavy_form f
  heavy_form (conjunction fs) = some_heavy_form fs
  heavy_form (disjunction fs) = all_forms_have_clauses fs && some_heavy_form fs
  heavy_form (connected c f g) = false
  heavy_form (quantified q xs f) = heavy_form f

  pub some_heavy_form : FormulaTrees → Bool
  some_heavy_form no_formulas = false
  some_heavy_form (formula_then f fs) = heavy_form f || some_heavy_form fs

-- The symbols of the literals in a normal form's clauses, where those of one are counted no further than one over the limit.
abbrev mutual
  pub written_total : FormulaTree → ℕ
  written_total truth = 0
  written_total falsity = 0
  written_total (predicate p ts) = min (2 + terms_size ts) (MOST_SYMBOLS + 1)
  written_total (equation positive s t) = min (term_size s + term_size t) (MOST_SYMBOLS + 1)
  written_total (negation f) = if is_predicate f then written_total f else 0
  written_total (conjunction fs) = written_totals fs
  written_total (disjunction fs) = if all_forms_have_clauses fs then written_totals fs else 0
  written_total (connected c f g) = 0
  written_total (quantified q xs f) = written_total f

  pub written_totals : FormulaTrees → ℕ
  written_totals no_formulas = 0
  written_totals (formula_then f fs) = written_total f + written_totals fs
