use Rattle.std.proofs.Common.{◌≡◌, ℕ, ◌<◌, None}
use Rattle.fol_base.specs.Rules.{resolved}
use Rattle.fol_base.specs.Literal.{clause_of}
use Rattle.unit_cutting.proofs.dropping.find_trivial.Given as goal

abbrev pub invariant-loop-index : goal.invariant-loop-index
invariant-loop-index l = (i : ℕ) → i < l.index → resolved (clause_of l.fn.clause).literals i ≡ None
