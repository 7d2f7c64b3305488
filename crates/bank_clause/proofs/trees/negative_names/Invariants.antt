use Rattle.std.proofs.Common.{◌≡◌, ◌≤◌, length, map, take}
use Rattle.std.specs.Prelude.{vec_capacity}
use Rattle.plain_types.specs.Names.{negative_of}
use Rattle.bank_clause.proofs.trees.negative_names.Given as goal

abbrev pub invariant-loop-name : goal.invariant-loop-name
invariant-loop-name l = (l.signed.items ≡ map negative_of (take l.name-index l.names)) × (length l.names ≤ vec_capacity l.signed)
