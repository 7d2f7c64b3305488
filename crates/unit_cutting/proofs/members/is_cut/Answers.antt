use Rattle.std.proofs.Common.{arith}
use Rattle.std.proofs.lemmas.Result.{IfOk-weaker}
use Rattle.unit_cutting.proofs.CutLemmas.{decided}
use Rattle.unit_cutting.proofs.members.is_cut.Goals as goal

pub returns : goal.returns
returns c =
    IfOk-weaker c.cuts.result _ _
    (λ answer h. λ usage of_unit of_member. decided usage c.args.unit.now c.args.member.now (λ e. omega (arith, e)) answer h of_unit of_member)
    c.cuts.ensures
