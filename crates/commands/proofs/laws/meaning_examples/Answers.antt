use Rattle.std.proofs.Common.{refl, sym, arith}
use Rattle.std.proofs.lemmas.Bool.{true≢false}
use Rattle.laws_meaning.specs.Meaning.{InterpretsProblem}
use Rattle.laws_meaning.specs.Examples.{hiding_alone, p_or_loop, bare}
use Rattle.laws_meaning.proofs.WorkedExamples.SmallExamples.{one_value_of_form, own_consequence, no_consequence, no_conjecture_follows, contradiction_follows, contradiction_unsatisfiable}
use Rattle.commands.proofs.AboutOutcomes.TheoremLemmas.{own-form-means}
use Rattle.commands.proofs.laws.meaning_examples.Goals as goal

loop-interprets : InterpretsProblem hiding_alone p_or_loop
loop-interprets = record { has_value = omega arith; rows_in_range = refl }

pub returns-clause-form : goal.returns-clause-form
returns-clause-form c = own-form-means hiding_alone refl

pub returns-clause-no_clause : goal.returns-clause-no_clause
returns-clause-no_clause c h = true≢false (sym (h.back (bare 1) (record { interprets = one_value_of_form; clauses = tt })))

pub returns-clause-empty_clause : goal.returns-clause-empty_clause
returns-clause-empty_clause c h =
    let e = h.extended p_or_loop loop-interprets refl in
    true≢false (sym ((e.1).clauses.0 (λ v. 0) (λ v. (e.1).interprets.has_value)))

pub returns-clause-theorem : goal.returns-clause-theorem
returns-clause-theorem c = record { follows = own_consequence; unsatisfiable = λ none. absurd (true≢false none) }

pub returns-clause-no_theorem : goal.returns-clause-no_theorem
returns-clause-no_theorem c h = no_consequence h.follows

pub returns-clause-unsatisfiable : goal.returns-clause-unsatisfiable
returns-clause-unsatisfiable c = record { follows = contradiction_follows; unsatisfiable = λ none. contradiction_unsatisfiable }

pub returns-clause-satisfiable : goal.returns-clause-satisfiable
returns-clause-satisfiable c h = no_conjecture_follows h.follows
