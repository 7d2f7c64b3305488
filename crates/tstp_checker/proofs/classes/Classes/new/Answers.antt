use Rattle.std.proofs.Common.{ap, ◌∙◌}
use Rattle.std.specs.Prelude.{position}
use Rattle.tptp_tree.specs.declared.problem.Annotated.{Annotated}
use Rattle.clausal_form.specs.DerivationLine.{same_entry}
use Rattle.tptp_tree.specs.Shape.{entry_of}
use Rattle.tstp_checker.specs.Classes.{class_of}
use Rattle.tstp_checker.proofs.AboutVerdicts.ClassLemmas.{map-starts, map-more, map-ends}
use Rattle.tstp_checker.proofs.classes.Classes.new.Goals as goal

pub loop-formula-init : goal.loop-formula-init
loop-formula-init c = map-starts (class_of c.args.inputs.now.formulas.now) c.args.inputs.now.formulas.now _ c.new-firsts.ensures.items

pub loop-formula-preserved : goal.loop-formula-preserved
loop-formula-preserved c =
    map-more (class_of c.args.inputs.now.formulas.now) c.args.inputs.now.formulas.now c.loop-formula.formula-index c.formula-item.result
    c.place_of.result _ _ c.loop-formula-test.true c.formula-item.is
    (c.place_of.ensures ∙ ap (λ a. position (λ (b : Annotated). same_entry a (entry_of b)) c.args.inputs.now.formulas.now) c.entry_of.ensures)
    c.in_ok-push.ensures.items c.loop-formula.invariant

pub returns : goal.returns
returns c = map-ends (class_of c.args.inputs.now.formulas.now) c.args.inputs.now.formulas.now c.loop-formula.formula-index _ c.loop-formula-test.false c.loop-formula.invariant
