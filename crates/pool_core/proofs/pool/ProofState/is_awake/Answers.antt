use Rattle.std.proofs.Common.{◌<◌, subst, ap, sym, ◌∙◌}
use Rattle.std.specs.Prelude.{All, length}
use Rattle.std.specs.List.{list_all}
use Rattle.sat_core.specs.Clause.{literal_true, valuation_of}
use Rattle.pool_history.specs.Tags.{name_of_tag}
use Rattle.pool_core.proofs.AboutWaking.AwakeLemmas.{asserts-names, awake-here}
use Rattle.pool_core.proofs.pool.ProofState.is_awake.Goals as goal

pub are_true-requires : goal.are_true-requires
are_true-requires c =
    subst (All (λ tag. tag < length c.args.self.now.splits.parts.parts)) (sym c.names.ensures.names)
    (c.requires.tags c.args.number c.get.result.now c.get.ensures)

pub returns-clause-under : goal.returns-clause-under
returns-clause-under c =
    c.are_true.ensures
    ∙ ap (list_all (λ tag. literal_true (valuation_of c.args.self.now.splits.model) (name_of_tag c.args.self.now.splits.parts.parts tag)))
    (c.names.ensures.names ∙ sym (asserts-names c.args.self.now.register.clauses c.args.number c.get.result.now c.get.ensures))

pub returns-clause-awake : goal.returns-clause-awake
returns-clause-awake c = λ bank table r is.
    c.are_true.ensures
    ∙ ap (list_all (λ tag. literal_true (valuation_of c.args.self.now.splits.model) (name_of_tag c.args.self.now.splits.parts.parts tag)))
    (c.names.ensures.names ∙ sym (asserts-names c.args.self.now.register.clauses c.args.number c.get.result.now c.get.ensures))
    ∙ awake-here bank table c.args.self.now r is c.args.number
