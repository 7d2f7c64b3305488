use Rattle.std.proofs.Common.{List, refl, ap, sym, subst}
use Rattle.std.proofs.lemmas.Result.{IfOk-weaker}
use Rattle.fol_base.specs.Clause.{TreeLiteral}
use Rattle.split_parts.specs.SignedNames.{named}
use Rattle.pool_history.specs.Replay.{replay}
use Rattle.pool_writer.specs.Refuted.{AreWritableSteps, IsRefutationText, IsTextOfSteps, IsWritableRefutation}
use Rattle.pool_writer.proofs.refuted.write_refutation.Goals as goal

pub write_steps-requires-clause-steps : goal.write_steps-requires-clause-steps
write_steps-requires-clause-steps c =
    let r = replay c.args.pool.now.origin c.args.pool.now.history in
    subst (AreWritableSteps c.args.problem.now.formulas (named c.parts.result.now.parts)) (sym c.derivation.ensures)
    (record {
      lines = r.lines;
      is =
          subst (λ (parts : List (List TreeLiteral)). IsWritableRefutation c.args.problem.now.formulas (named parts) r.lines) (sym c.parts.ensures)
          c.prove_refuted.ensures;
      same = refl;
    })

pub returns-clause-written : goal.returns-clause-written
returns-clause-written c =
    let r = replay c.args.pool.now.origin c.args.pool.now.history in
    let is : IsWritableRefutation c.args.problem.now.formulas (named c.parts.result.now.parts) r.lines =
    subst (λ (parts : List (List TreeLiteral)). IsWritableRefutation c.args.problem.now.formulas (named parts) r.lines) (sym c.parts.ensures)
    c.prove_refuted.ensures in
    IfOk-weaker c.write_steps.result
    (IsTextOfSteps c.args.file.now c.args.problem.now.formulas (named c.parts.result.now.parts) c.derivation.result.now)
    (IsRefutationText c.args.file.now c.args.problem.now.formulas r.lines)
    (λ text written. written r.lines is.refutes.derived is.bodies_are (sym c.derivation.ensures))
    c.write_steps.ensures.written
