use Rattle.std.proofs.Common.{ap₂, sym, ◌∙◌}
use Rattle.std.proofs.lemmas.Bool.{true≢false}
use Rattle.sat_core.specs.Clause.{valuation_of}
use Rattle.congruence.specs.Congruence.{class_in, joins}
use Rattle.congruence.proofs.AboutModels.ReasonLemmas.{chosen-between, reasons-suffice}
use Rattle.congruence.proofs.conflict.are_reasons.Goals as goal

pub returns-then-not-are_true_names : goal.returns-then-not-are_true_names
returns-then-not-are_true_names c = λ e. absurd (true≢false (sym e))

pub closed-requires-clause-between : goal.closed-requires-clause-between
closed-requires-clause-between c =
    chosen-between c.args.nodes.now c.args.atoms.now c.args.names.now c.as_slice.result.now c.requires.between
    (c.are_true_names.ensures.below c.if-not-are_true_names.false) (c.as_slice.ensures.value ∙ c.in_ok-equations.ensures)

pub returns : goal.returns
returns c = λ yes.
    reasons-suffice c.args.nodes.now c.args.atoms.now (valuation_of c.args.truths.now) c.args.name c.args.names.now c.as_slice.result.now
    c.in_ok-joined.joined.classes.items c.requires.between c.requires.below (c.are_true_names.ensures.below c.if-not-are_true_names.false)
    (c.are_true_names.ensures.true_ones c.if-not-are_true_names.false) (c.as_slice.ensures.value ∙ c.in_ok-equations.ensures) c.in_ok-joined.ensures
    (sym (c.are_joined.ensures ∙ ap₂ (λ cs e. joins (class_in cs) e) c.as_slice-2.ensures.value c.equation_of.ensures) ∙ yes)
