use Rattle.std.proofs.Common.{◌≡◌, false}
use Rattle.fol_base.specs.Literal.{clause_of}
use Rattle.kernel_steps.specs.Inference.{is_tautology}
use Rattle.demodulate.specs.Memory.{Remembers}
use Rattle.demodulate.proofs.LoopLemmas.{Lasts, remaining}
use Rattle.demodulate.proofs.reducing.reduce.Given as goal

abbrev pub invariant-steps : goal.invariant-steps
invariant-steps l = record {
  lasts : Lasts l.by.equations.now l.by.units.now l.by.left_out l.fn.reduced l.reduced;
  remembers : Remembers l.by.equations.now l.by.left_out l.memory;
  asserted : l.memory.asserted.items ≡ l.rewriters.asserted.now;
  no_tautology : is_tautology (clause_of l.fn.reduced.clause) ≡ false → is_tautology (clause_of l.reduced.clause) ≡ false;
}

abbrev pub decreases-steps : goal.decreases-steps
decreases-steps l = remaining l.by.equations.now l.fn.reduced l.reduced
