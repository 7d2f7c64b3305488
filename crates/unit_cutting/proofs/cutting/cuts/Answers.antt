use Rattle.std.proofs.Common.{List, ℕ, ap, sym, ◌∙◌}
use Rattle.fol_base.specs.Subsumption.{assertions, is_among}
use Rattle.bank_clause.specs.Clause.{clause_at}
use Rattle.subsume.proofs.AboutSearch.SubsumingLemmas.{asserted}
use Rattle.unit_cutting.proofs.AboutCuts.CutAnswers.{cuts-or-not, none-asserted}
use Rattle.unit_cutting.proofs.cutting.cuts.Goals as goal

pub returns-then-not-are_among : goal.returns-then-not-are_among
returns-then-not-are_among c =
    none-asserted c.args.unit.now (clause_at c.args.clause.now)
    (ap (λ (xs : List ℕ). is_among xs (assertions (clause_at c.args.clause.now).names)) (sym c.names.ensures.names)
    ∙ ap (λ (xs : List ℕ). is_among c.names.result.now xs) (asserted c.args.clause.now.names ∙ sym c.names-2.ensures.names)
    ∙ sym c.are_among.ensures ∙ c.if-not-are_among.true)

pub returns : goal.returns
returns c =
    cuts-or-not c.args.unit.now (clause_at c.args.clause.now) c.lend-literals.result c.in_ok-found.found c.is_some.result
    (ap (λ (xs : List ℕ). is_among xs (assertions (clause_at c.args.clause.now).names)) (sym c.names.ensures.names)
    ∙ ap (λ (xs : List ℕ). is_among c.names.result.now xs) (asserted c.args.clause.now.names ∙ sym c.names-2.ensures.names)
    ∙ sym c.are_among.ensures ∙ c.if-not-are_among.false)
    c.lend-literals.ensures c.in_ok-found.ensures c.is_some.ensures
