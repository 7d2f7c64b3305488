use Rattle.std.proofs.lemmas.List.{get_or-replicate}
use Rattle.subsume.specs.Features.{slot}
use Rattle.subsume.proofs.AboutSearch.CountingLemmas.{slot-below}
use Rattle.subsume.proofs.vector.Features.none.Goals as goal

pub returns : goal.returns
returns c = λ positive k h. get_or-replicate 64 (slot positive k) 0 0 (slot-below positive k h)
