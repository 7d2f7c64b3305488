use Rattle.std.proofs.Common.{take}
use Rattle.finite_models.specs.EntryNames.{entries_of}
use Rattle.finite_models.specs.Flattening.{some_true}
use Rattle.finite_models.proofs.AboutLoops.AddsLemmas.{Writes}
use Rattle.finite_models.proofs.instances.add_instance.Given as goal

abbrev pub invariant-loop-literal : goal.invariant-loop-literal
invariant-loop-literal l =
    Writes l.names.count l.buffer.items (λ valuation. some_true (entries_of valuation l.names) (take l.literal-index l.literals) l.values)
