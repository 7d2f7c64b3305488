use Rattle.std.proofs.Common.{◌≡◌, ◌∷◌, map, take}
use Rattle.congruence.specs.Congruence.{class_in}
use Rattle.congruence.proofs.node.signature_of.Given as goal

abbrev pub invariant-loop-argument : goal.invariant-loop-argument
invariant-loop-argument l = l.key.items ≡ l.node.symbol ∷ map (class_in l.classes) (take l.argument-index l.argument-items)
