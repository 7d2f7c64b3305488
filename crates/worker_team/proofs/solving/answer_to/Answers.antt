use Rattle.std.proofs.Common.{◌≡◌, drop, true, List, ap, sym, ◌∙◌}
use Rattle.std.specs.Prelude.{Bool}
use Rattle.std.proofs.lemmas.Bool.{true≢false}
use Rattle.sat_core.specs.Clause.{clauses_true, valuation_of}
use Rattle.worker_team.proofs.SolvingLemmas.{all-true, extended-right, others-true}
use Rattle.worker_team.proofs.solving.answer_to.Goals as goal

pub returns-then-are_true-clause-right : goal.returns-then-are_true-clause-right
returns-then-are_true-clause-right c =
    let clauses = c.args.ticket.now.clauses in
    let last = c.args.last.now in
    let others : clauses_true (valuation_of last.truths) (drop last.clauses clauses) ≡ true =
    ap (λ (ts : List Bool). clauses_true (valuation_of ts) (drop last.clauses clauses)) (sym c.as_slice-values.ensures)
    ∙ sym c.are_true.ensures ∙ c.if-are_true.true in
    extended-right c.args.ticket.now.names clauses last.truths c.in_ok-truths.truths c.requires.names (all-true clauses last c.requires.last others)
    c.in_ok-truths.ensures.count
    (λ name below. c.in_ok-truths.ensures.values name below ∙ ap (λ (ts : List Bool). valuation_of ts name) c.as_slice-values.ensures)

pub returns-then-are_true-2-clause-kept : goal.returns-then-are_true-2-clause-kept
returns-then-are_true-2-clause-kept c all =
    let clauses = c.args.ticket.now.clauses in
    let last = c.args.last.now in
    absurd
    (true≢false
    (sym (others-true clauses last.truths last.clauses all)
    ∙ ap (λ (ts : List Bool). clauses_true (valuation_of ts) (drop last.clauses clauses)) (sym c.as_slice-values.ensures)
    ∙ sym c.are_true.ensures ∙ c.if-are_true.false))
