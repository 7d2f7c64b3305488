use Rattle.std.proofs.Common.{arith, sym, ◌∙◌}
use Rattle.std.proofs.lemmas.List.{get_or_read}
use Rattle.herbrand_list.proofs.grounding.Grounding.find.Goals as goal

pub returns-then-is_same-clause-equation : goal.returns-then-is_same-clause-equation
returns-then-is_same-clause-equation c =
    sym (get_or_read c.args.self.now.atoms.items _ c.index.result.now (omega arith) c.index.ensures (record { left = 0; right = 0 }))
    ∙ c.is_same.ensures c.if-is_same.true
