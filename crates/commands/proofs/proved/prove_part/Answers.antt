use Rattle.std.proofs.Common.{◌≡◌, List, map, inr, ap, ◌∙◌, subst}
use Rattle.fol_base.specs.Clause.{TreeClause}
use Rattle.fol_base.specs.Literal.{clause_of}
use Rattle.signature.specs.Form.{ClausalForm}
use Rattle.axiom_filter.specs.Restriction.{kept_clauses, kept_numbers}
use Rattle.command_reports.specs.Parts.{part_clauses}
use Rattle.commands.specs.AnswerShape.{IsProvedForm, PoolSays}
use Rattle.commands.proofs.proved.prove_part.Goals as goal

pub prove_form-requires-clause-inputs : goal.prove_form-requires-clause-inputs
prove_form-requires-clause-inputs g c = λ κs within.
    inr (
      c.args.kept.now,
      c.in_ok-restricted.ensures.clauses
          ∙ ap (λ (f : ClausalForm). kept_clauses c.args.kept.now f.origins f.clauses) c.requires.form,
    )

pub returns : goal.returns
returns g c =
    let clauses : map clause_of c.in_ok-restricted.restricted.clauses ≡ part_clauses c.args.kept.now c.args.problem.now.formulas =
    c.in_ok-restricted.ensures.clauses ∙ ap (λ (f : ClausalForm). kept_clauses c.args.kept.now f.origins f.clauses) c.requires.form in
    record {
      clauses = clauses;
      numbers = c.in_ok-restricted.ensures.numbers ∙ ap (λ (f : ClausalForm). kept_numbers c.args.kept.now f.origins) c.requires.form;
      ended =
          subst (λ (cs : List TreeClause). IsProvedForm c.args.problem.now.formulas cs c.args.options c.in_ok-proved.proved) clauses
          c.in_ok-proved.ensures.proved;
      says =
          subst (λ (cs : List TreeClause). PoolSays c.args.problem.now.formulas cs c.args.options c.in_ok-proved.proved) clauses
          c.in_ok-proved.ensures.says;
    }
