use Rattle.std.proofs.Common.{◌≡◌, ◌^◌, ◌-◌, min, take}
use Rattle.fol_base.specs.Clause.{literal_size}
use Rattle.subsume.specs.Features.{measured}
use Rattle.subsume.proofs.counting.counts_of.Given as goal

abbrev pub invariant-loop-index : goal.invariant-loop-index
invariant-loop-index g l =
    (l.counts.literals ≡ min (measured l.positive (λ k. 1) (take l.index (g.L.LendsLiterals.meaning l.literals))) (2 ^ 64 - 1))
    × (l.counts.symbols ≡ min (measured l.positive literal_size (take l.index (g.L.LendsLiterals.meaning l.literals))) (2 ^ 64 - 1))
