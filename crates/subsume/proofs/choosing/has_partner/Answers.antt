use Rattle.std.proofs.Common.{map, subst, arith}
use Rattle.std.proofs.lemmas.List.{take_all}
use Rattle.fol_base.specs.Lent.{lent_of}
use Rattle.subsume.specs.Choosing.{AreNoPartners}
use Rattle.subsume.proofs.choosing.has_partner.Goals as goal

pub returns : goal.returns
returns c = λ _.
    subst (λ xs. AreNoPartners c.args.so_far.now (lent_of c.args.literal) (map lent_of xs)) (take_all c.loop-target.target-index c.args.targets.now (omega arith))
    c.loop-target.invariant
