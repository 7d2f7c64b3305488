use Rattle.std.proofs.Common.{refl, subst}
use Rattle.std.specs.Prelude.{Option}
use Rattle.fol_base.specs.Literal.{clause_of}
use Rattle.rewriting.specs.Searching.{usable_by}
use Rattle.demodulate.specs.Normal.{IsNext}
use Rattle.demodulate.specs.declared.step.NextLine.{NextLine}
use Rattle.demodulate.proofs.AboutSteps.StepLemmas.{left-normal, rewritten}
use Rattle.demodulate.proofs.step.rewrite_once.Goals as goal

pub returns-in-None-clause-ok : goal.returns-in-None-clause-ok
returns-in-None-clause-ok c =
    let by = c.args.by.now in
    let old = clause_of c.args.reduced.now.clause in
    record {
      same = refl;
      normal = λ usage.
          left-normal usage by.units.now by.left_out by.asserted.now old c.requires.asserted
          (subst (λ (o : Option NextLine). IsNext (usable_by by) old c.in_ok-parent.parent o) c.in-None.is c.in_ok-next_line.ensures.next);
    }

pub returns-in_ok-extend-in-Some-clause-ok : goal.returns-in_ok-extend-in-Some-clause-ok
returns-in_ok-extend-in-Some-clause-ok c =
    let by = c.args.by.now in
    let old = clause_of c.args.reduced.now.clause in
    rewritten by.units.now by.left_out by.asserted.now c.args.reduced.now c.extend.new.reduced c.in_ok-parent.parent c.in-Some.next
    c.requires.asserted c.requires.names c.requires.size c.in_ok-parent.ensures
    (subst (λ (o : Option NextLine). IsNext (usable_by by) old c.in_ok-parent.parent o) c.in-Some.is c.in_ok-next_line.ensures.next)
    c.in_ok-extend-in-Some.ensures.ok
