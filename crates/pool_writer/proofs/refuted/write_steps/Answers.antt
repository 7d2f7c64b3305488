use Rattle.std.proofs.Common.{◌≡◌, ℕ, ◌-◌, List, length, map, refl, ap, sym, subst}
use Rattle.std.proofs.lemmas.Result.{IfOk-weaker}
use Rattle.fol_base.specs.Clause.{TreeClause}
use Rattle.fol_base.specs.Literal.{clause_of}
use Rattle.signature.specs.Form.{ClausalForm, clausal_form}
use Rattle.kernel_steps.specs.Derivation.{IsDerivation}
use Rattle.clausal_form.specs.DerivationTexts.{IsAcceptedDerivation}
use Rattle.split_parts.specs.SignedNames.{named}
use Rattle.tstp_writer.specs.Cone.{IsStepCone}
use Rattle.tstp_writer.specs.Written.{IsWritten, IsAcceptedWhereReadable}
use Rattle.pool_writer.specs.Refuted.{IsTextOfSteps}
use Rattle.pool_writer.proofs.PoolRefutations.{refuting-steps, is-readable}
use Rattle.pool_writer.proofs.refuted.write_steps.Goals as goal

pub refutation-requires : goal.refutation-requires
refutation-requires c =
    refuting-steps c.args.problem.now.formulas (named c.args.parts.now.parts) c.args.steps.now c.requires.steps (map clause_of c.args.form.now.clauses)
    (ap (λ (f : ClausalForm). f.clauses) c.requires.form)

pub returns-clause-written : goal.returns-clause-written
returns-clause-written c =
    let form : List TreeClause = map clause_of c.args.form.now.clauses in
    let same : form ≡ (clausal_form c.args.problem.now.formulas).clauses = ap (λ (f : ClausalForm). f.clauses) c.requires.form in
    IfOk-weaker c.write_all_lines.result (IsWritten c.args.file.now c.args.problem.now.formulas c.in_ok-lines.lines (length c.in_ok-lines.lines - 1))
    (IsTextOfSteps c.args.file.now c.args.problem.now.formulas (named c.args.parts.now.parts) c.args.steps.now)
    (λ text written lines derived have steps_are. record {
      numbers = c.in_ok-lines.ensures.retraced.numbers;
      needed = subst (λ steps. IsStepCone steps (length steps - 1) c.in_ok-lines.ensures.retraced.numbers) (sym steps_are) c.in_ok-lines.ensures.retraced.needed;
      lines = c.in_ok-lines.lines;
      retraced =
          c.in_ok-lines.ensures.retraced.lines lines (subst (λ (f : List TreeClause). IsDerivation f lines) (sym same) derived) have steps_are;
      written = written;
    })
    c.write_all_lines.ensures.written

pub returns-clause-accepted : goal.returns-clause-accepted
returns-clause-accepted c =
    IfOk-weaker c.write_all_lines.result
    (IsAcceptedWhereReadable c.args.file.now c.args.problem.now.formulas c.in_ok-lines.lines (length c.in_ok-lines.lines - 1))
    (λ text. (count : ℕ) × IsAcceptedDerivation c.args.problem.now.formulas text count)
    (λ text accepted.
    accepted c.requires.printable c.requires.file
    (is-readable c.args.problem.now.formulas (named c.args.parts.now.parts) c.args.steps.now c.requires.steps (map clause_of c.args.form.now.clauses)
    (ap (λ (f : ClausalForm). f.clauses) c.requires.form) c.in_ok-lines.lines c.in_ok-lines.ensures.refutes c.in_ok-lines.ensures.retraced
    (length c.in_ok-lines.lines - 1) refl))
    c.write_all_lines.ensures.accepted
