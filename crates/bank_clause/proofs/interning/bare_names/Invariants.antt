use Rattle.std.proofs.Common.{◌≡◌, ◌≤◌, length, map, take}
use Rattle.std.specs.Prelude.{vec_capacity}
use Rattle.bank_clause.proofs.interning.bare_names.Given as goal

abbrev pub invariant-loop-name : goal.invariant-loop-name
invariant-loop-name l = (l.bare.items ≡ map (λ n. n.name) (take l.name-index l.names)) × (length l.names ≤ vec_capacity l.bare)
