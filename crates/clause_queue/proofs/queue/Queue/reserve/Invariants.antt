use Rattle.std.proofs.Common.{◌≡◌, ◌≤◌, ◌+◌, length, vec_capacity}
use Rattle.clause_queue.specs.Room.{IsKept}
use Rattle.clause_queue.proofs.queue.Queue.reserve.Given as goal

abbrev pub invariant-loop : goal.invariant-loop
invariant-loop l =
    IsKept l.self-inside
    × (l.self-inside.tree ≡ l.initial.self-inside.tree)
    × (length l.self-inside.spare.items ≡ length l.initial.self-inside.spare.items + l.counter)
    × (length l.self-inside.tree + length l.initial.self-inside.spare.items + l.missing ≤ vec_capacity l.self-inside.spare)
