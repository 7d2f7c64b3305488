use Rattle.std.proofs.Common.{◌≡◌, take}
use Rattle.std.specs.Prelude.{All}
use Rattle.subsume.specs.declared.entry.Entry.{Entry}
use Rattle.subsume.proofs.editing.place_of.Given as goal

abbrev pub invariant-loop-index : goal.invariant-loop-index
invariant-loop-index l = All (λ (e : Entry). e.member.number ≡ l.number → ⊥) (take l.index l.entries)
