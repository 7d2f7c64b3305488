use Rattle.std.proofs.Common.{◌≡◌, ◌≤◌, map}
use Rattle.fol_base.specs.Lent.{lent_of}
use Rattle.subsume.specs.Choosing.{HasNoPartner}
use Rattle.subsume.proofs.choosing.partners.Given as goal

abbrev pub invariant-loop-at : goal.invariant-loop-at
invariant-loop-at l =
    (l.count ≤ l.at) × (l.count ≡ 0 → HasNoPartner l.so_far l.used (lent_of l.literal) (map lent_of l.targets) l.at)
