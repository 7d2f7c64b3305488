use Rattle.std.proofs.Common.{arith}
use Rattle.unifier.proofs.AboutClasses.FoundLemmas.{equations-found, equations-in-order}
use Rattle.unifier.proofs.attempt.resolved.Goals as goal

pub returns : goal.returns
returns c = λ s t forced.
    equations-found c.args.apart c.args.equations.now s t (record { cells = c.new.result; places = c.new-2.result }) c.resolve_equations.new.self
    c.resolve_noted.new.self forced c.new-2.ensures.items (c.in_ok-resolve_equations.ensures c.if-not-branch.false)
    (c.in_ok-resolve_noted.ensures c.if-not-branch-2.false)

pub invariant_of-result : goal.invariant_of-result
invariant_of-result c = record {
  in_order =
      equations-in-order c.args.apart c.args.equations.now c.resolve_noted.new.self
      (c.in_ok-resolve_noted.ensures c.if-not-branch-2.false).resolving
      (omega (arith, c.len.ensures, c.resolve_noted.new.self.places.ok.0, c.if-len-gt-FEW_PLACES.false));
}
