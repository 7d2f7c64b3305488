use Rattle.std.proofs.Common.{◌≡◌, map, take}
use Rattle.plain_types.specs.declared.sequence.NameLit.{NameLit}
use Rattle.pool_core.proofs.form.AssertedTags.of.Given as goal

abbrev pub invariant-loop-name : goal.invariant-loop-name
invariant-loop-name l = l.tags.items ≡ map (λ (n : NameLit). n.name) (take l.name-index l.names)
