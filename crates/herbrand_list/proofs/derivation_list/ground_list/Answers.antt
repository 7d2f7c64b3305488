use Rattle.std.proofs.Common.{◌<◌, List, length, ap, sym, subst, arith, ◌∙◌}
use Rattle.std.proofs.lemmas.List.{length_push}
use Rattle.kernel_steps.specs.declared.step.Line.{Line}
use Rattle.clausal_form.specs.Form.{form_of}
use Rattle.fol_base.specs.Tree.{Tree}
use Rattle.herbrand_list.specs.GroundList.{names_line}
use Rattle.herbrand_list.specs.Worked.{constant_tree, ParentsAreEarlier}
use Rattle.herbrand_list.specs.Answer.{IsGroundAnswer}
use Rattle.herbrand_list.proofs.AboutDemands.TruthLemmas.{parents-below}
use Rattle.herbrand_list.proofs.AboutListing.AnswerLemmas.{answer-from}
use Rattle.herbrand_list.proofs.derivation_list.ground_list.Goals as goal

pub list_of_lines-requires : goal.list_of_lines-requires
list_of_lines-requires c =
    let lines = c.args.lines.now in
    let some : 0 < length lines = omega (arith, ap length c.requires.ends, length_push c.requires.before c.requires.last) in
    record {
      some = subst (λ (ls : List Line). 0 < length ls) (sym c.as_slice-lines.ensures) some;
      earlier = subst ParentsAreEarlier (sym c.as_slice-lines.ensures) (parents-below (form_of c.args.form.now).clauses lines c.requires.derived);
    }

pub returns-in-Some : goal.returns-in-Some
returns-in-Some c = sym (c.in-Some.ensures ∙ ap names_line c.as_slice-lines.ensures)

pub returns-in-None : goal.returns-in-None
returns-in-None c =
    let lines = c.args.lines.now in
    let none = sym c.in-None.ensures in
    subst (λ (t : Tree). IsGroundAnswer t lines c.list_of_lines.result) c.first_constant.ensures
    (subst (λ (ls : List Line). IsGroundAnswer (constant_tree c.first_constant.result) ls c.list_of_lines.result) c.as_slice-lines.ensures
    (answer-from (constant_tree c.first_constant.result) c.as_slice-lines.result.now c.list_of_lines.result none c.list_of_lines.ensures.light
    c.list_of_lines.ensures.list c.list_of_lines.ensures.large))
