use Rattle.std.proofs.Common.{List, inl, ap, subst}
use Rattle.fol_base.specs.Clause.{TreeClause}
use Rattle.signature.specs.Form.{ClausalForm}
use Rattle.commands.specs.AnswerShape.{IsProvedForm, PoolSays}
use Rattle.commands.proofs.AboutOutcomes.TheoremLemmas.{form-means}
use Rattle.commands.proofs.proved.prove_problem.Goals as goal

pub prove_form-requires-clause-inputs : goal.prove_form-requires-clause-inputs
prove_form-requires-clause-inputs g c = λ κs within. inl (ap (λ (f : ClausalForm). f.clauses) c.in-Ok.ensures.form)

pub returns-in-Ok-prove_form-clause-proved : goal.returns-in-Ok-prove_form-clause-proved
returns-in-Ok-prove_form-clause-proved g c = record {
  form = c.in-Ok.ensures.form;
  ended =
      subst (λ (cs : List TreeClause). IsProvedForm c.args.problem.now.formulas cs c.args.options c.in-Ok-prove_form.proved)
      (ap (λ (f : ClausalForm). f.clauses) c.in-Ok.ensures.form) c.in-Ok-prove_form.ensures.proved;
}

pub returns-in-Ok-prove_form-clause-means : goal.returns-in-Ok-prove_form-clause-means
returns-in-Ok-prove_form-clause-means g c = form-means c.args.problem.now.formulas _ c.in-Ok.ensures.form

pub returns-in-Ok-prove_form-clause-says : goal.returns-in-Ok-prove_form-clause-says
returns-in-Ok-prove_form-clause-says g c =
    subst (λ (cs : List TreeClause). PoolSays c.args.problem.now.formulas cs c.args.options c.in-Ok-prove_form.proved)
    (ap (λ (f : ClausalForm). f.clauses) c.in-Ok.ensures.form) c.in-Ok-prove_form.ensures.says
