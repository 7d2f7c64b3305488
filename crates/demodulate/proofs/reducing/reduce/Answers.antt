use Rattle.std.proofs.Common.{ℕ, List, ap, sym, ◌∙◌, subst}
use Rattle.plain_types.specs.declared.sequence.NameLit.{NameLit}
use Rattle.fol_base.specs.Literal.{clause_of}
use Rattle.fol_base.specs.Subsumption.{assertions}
use Rattle.kernel_steps.specs.Inference.{is_tautology}
use Rattle.kernel_steps.specs.declared.step.Reduced.{Reduced}
use Rattle.rewriting.specs.NormalTerms.{RemembersNormal}
use Rattle.rewriting.specs.Units.{usable}
use Rattle.demodulate.specs.UsableSteps.{IsDone, IsStep}
use Rattle.demodulate.proofs.LoopLemmas.{begins, ends, stepped}
use Rattle.demodulate.proofs.StepLemmas.{held, refused}
use Rattle.demodulate.proofs.reducing.reduce.Goals as goal

pub steps-init : goal.steps-init
steps-init c = record {
  remembers = c.begin.ensures.remembers c.args.by.now.equations.now c.args.by.now.left_out c.requires.memory;
  asserted = c.in_ok-begin.ensures.asserted;
  lasts = begins c.args.by.now.equations.now c.args.by.now.units.now c.args.by.now.left_out c.args.reduced.now c.requires.canonical;
  no_tautology = λ none. none;
}

pub step-requires-clause-asserted : goal.step-requires-clause-asserted
step-requires-clause-asserted c =
    c.as_slice-2.ensures.value ∙ c.in_ok-asserted.ensures
    ∙ ap (λ (ns : List NameLit). assertions ns) (c.as_slice.ensures ∙ sym c.steps.invariant.lasts.further.names)

pub returns-then-not-stepped-clause-ok : goal.returns-then-not-stepped-clause-ok
returns-then-not-stepped-clause-ok c =
    let equations = c.args.by.now.equations.now in
    let units = c.args.by.now.units.now in
    let out = c.args.by.now.left_out in
    let old = c.steps.reduced in
    let new = c.step.new.reduced in
    let done =
    refused (IsStep equations units out old new) (IsDone equations units out old new) c.in_ok-stepped.stepped c.in_ok-stepped.ensures.ok c.if-not-stepped.true in (
      ends c.moves_extend_reductions.ensures.goes_on c.rewriting_ends.ensures.kept equations units out c.args.reduced.now old new c.requires.names
          c.requires.size c.steps.invariant.lasts done.0 done.1,
      λ none. ap (λ (r : Reduced). is_tautology (clause_of r.clause)) done.0 ∙ c.steps.invariant.no_tautology none,
    )

pub returns-then-is_tautology-clause-ok : goal.returns-then-is_tautology-clause-ok
returns-then-is_tautology-clause-ok c = sym c.is_tautology.ensures ∙ c.if-is_tautology.true

pub returns-then-is_tautology-clause-further : goal.returns-then-is_tautology-clause-further
returns-then-is_tautology-clause-further c =
    let equations = c.args.by.now.equations.now in
    let units = c.args.by.now.units.now in
    let out = c.args.by.now.left_out in
    let old = c.steps.reduced in
    let new = c.step.new.reduced in
    (stepped c.moves_extend_reductions.ensures.goes_on c.rewriting_ends.ensures.kept equations units out c.args.reduced.now old new c.requires.names
    c.requires.size c.steps.invariant.lasts
    (held (IsStep equations units out old new) (IsDone equations units out old new) c.in_ok-stepped.stepped c.in_ok-stepped.ensures.ok c.if-not-stepped.false)).0.further

pub steps-smaller : goal.steps-smaller
steps-smaller c =
    let equations = c.args.by.now.equations.now in
    let units = c.args.by.now.units.now in
    let out = c.args.by.now.left_out in
    let old = c.steps.reduced in
    let new = c.step.new.reduced in
    (stepped c.moves_extend_reductions.ensures.goes_on c.rewriting_ends.ensures.kept equations units out c.args.reduced.now old new c.requires.names
    c.requires.size c.steps.invariant.lasts
    (held (IsStep equations units out old new) (IsDone equations units out old new) c.in_ok-stepped.stepped c.in_ok-stepped.ensures.ok c.if-not-stepped.false)).1

pub steps-preserved : goal.steps-preserved
steps-preserved c =
    let equations = c.args.by.now.equations.now in
    let units = c.args.by.now.units.now in
    let out = c.args.by.now.left_out in
    let old = c.steps.reduced in
    let new = c.step.new.reduced in
    record {
      lasts =
          (stepped c.moves_extend_reductions.ensures.goes_on c.rewriting_ends.ensures.kept equations units out c.args.reduced.now old new c.requires.names
          c.requires.size c.steps.invariant.lasts
          (held (IsStep equations units out old new) (IsDone equations units out old new) c.in_ok-stepped.stepped c.in_ok-stepped.ensures.ok c.if-not-stepped.false)).0;
      remembers =
          subst (λ (ns : List ℕ). RemembersNormal (usable equations out ns) c.step.new.normal) (sym c.steps.invariant.asserted) c.step.ensures.remembers;
      asserted = c.steps.invariant.asserted;
      no_tautology = λ none. sym c.is_tautology.ensures ∙ c.if-is_tautology.false;
    }

pub step-requires-clause-remembers : goal.step-requires-clause-remembers
step-requires-clause-remembers c =
    subst (λ (ns : List ℕ). RemembersNormal (usable c.args.by.now.equations.now c.args.by.now.left_out ns) c.steps.memory.normal) c.steps.invariant.asserted
    c.steps.invariant.remembers

pub returns-then-not-stepped-clause-memory : goal.returns-then-not-stepped-clause-memory
returns-then-not-stepped-clause-memory c =
    subst (λ (ns : List ℕ). RemembersNormal (usable c.args.by.now.equations.now c.args.by.now.left_out ns) c.step.new.normal)
    (sym c.steps.invariant.asserted) c.step.ensures.remembers

pub returns-then-is_tautology-clause-memory : goal.returns-then-is_tautology-clause-memory
returns-then-is_tautology-clause-memory c =
    subst (λ (ns : List ℕ). RemembersNormal (usable c.args.by.now.equations.now c.args.by.now.left_out ns) c.step.new.normal)
    (sym c.steps.invariant.asserted) c.step.ensures.remembers

pub returns-in_err-stepped-clause-memory : goal.returns-in_err-stepped-clause-memory
returns-in_err-stepped-clause-memory c =
    subst (λ (ns : List ℕ). RemembersNormal (usable c.args.by.now.equations.now c.args.by.now.left_out ns) c.step.new.normal)
    (sym c.steps.invariant.asserted) c.step.ensures.remembers

pub returns-in_err-begin-clause-memory : goal.returns-in_err-begin-clause-memory
returns-in_err-begin-clause-memory c = c.begin.ensures.remembers c.args.by.now.equations.now c.args.by.now.left_out c.requires.memory
