use Rattle.std.proofs.Common.{◌≡◌, ◌+◌, ◌++◌, map, take}
use Rattle.std.specs.Prelude.{sum_by}
use Rattle.fol_base.specs.Literal.{literal_of}
use Rattle.finite_models.specs.Flattening.{literal_slots, literals_flattened}
use Rattle.finite_models.proofs.flattening.Flattening.literals.Given as goal

abbrev pub invariant-loop-literal : goal.invariant-loop-literal
invariant-loop-literal l = record {
  next : l.self.next ≡ l.initial.self.next + sum_by literal_slots (map literal_of (take l.literal-index l.literals));
  literals : l.self.literals.items ≡ l.initial.self.literals.items ++ literals_flattened l.initial.self.next (map literal_of (take l.literal-index l.literals));
}
