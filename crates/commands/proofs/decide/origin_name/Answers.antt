use Rattle.std.proofs.Common.{◌∙◌, arith}
use Rattle.std.proofs.lemmas.List.{length-map}
use Rattle.fol_base.specs.Literal.{clause_of}
use Rattle.clausal_form.specs.Form.{form_of}
use Rattle.commands.proofs.AboutGround.DecideLemmas.{origin-there, formula-there, name-there}
use Rattle.commands.proofs.decide.origin_name.Goals as goal

pub name_at-requires-clause-number : goal.name_at-requires-clause-number
name_at-requires-clause-number c =
    origin-there c.args.formed.now.problem.formulas (form_of c.args.formed.now.form) c.as_slice-origins.result.now c.args.number c.requires.form
    c.as_slice-origins.ensures (omega (arith, c.requires.within, length-map c.args.formed.now.form.clauses clause_of))

pub name_at-requires-clause-place : goal.name_at-requires-clause-place
name_at-requires-clause-place c =
    formula-there c.args.formed.now.problem.formulas c.as_slice-formulas.result.now (form_of c.args.formed.now.form) c.as_slice-origins.result.now
    c.args.number c.requires.form c.as_slice-origins.ensures c.as_slice-formulas.ensures
    (omega (arith, c.requires.within, length-map c.args.formed.now.form.clauses clause_of))

pub returns : goal.returns
returns c =
    c.name_at.ensures
    ∙ name-there c.args.formed.now.problem.formulas c.as_slice-formulas.result.now (form_of c.args.formed.now.form) c.as_slice-origins.result.now
    c.args.number c.requires.form c.as_slice-origins.ensures c.as_slice-formulas.ensures
