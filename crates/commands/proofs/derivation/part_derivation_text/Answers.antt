use Rattle.std.proofs.Common.{◌≡◌, List, map, ap, sym, ◌∙◌, subst}
use Rattle.std.proofs.lemmas.Result.{IfOk-weaker}
use Rattle.fol_base.specs.Clause.{TreeLiteral}
use Rattle.axiom_filter.specs.Restriction.{reindexed, reindexed_step, steps_of, NameEntries}
use Rattle.axiom_filter.proofs.AboutParts.RestrictionLemmas.{parts_derive}
use Rattle.split_parts.specs.SignedNames.{named}
use Rattle.pool_history.specs.Replay.{replay}
use Rattle.pool_writer.specs.Refuted.{IsRefutationText, IsTextOfSteps, IsWritableRefutation}
use Rattle.commands.proofs.AboutOutcomes.PartLemmas.{part-entries, part-refutation}
use Rattle.commands.proofs.derivation.part_derivation_text.Goals as goal

pub reindex-requires : goal.reindex-requires
reindex-requires c =
    subst (NameEntries c.args.numbers.now) (sym c.derivation.ensures)
    (part-entries c.args.formed.now.problem.formulas c.args.pool.now.origin c.args.pool.now.history c.args.numbers.now c.requires.numbered
    c.history-history.ensures.inputs c.history-history.ensures.lawful)

pub write_steps-requires-clause-steps : goal.write_steps-requires-clause-steps
write_steps-requires-clause-steps c =
    let r = replay c.args.pool.now.origin c.args.pool.now.history in
    let lines = reindexed c.args.numbers.now r.lines in
    let same : steps_of lines ≡ c.as_slice.result.now =
    parts_derive.steps c.args.numbers.now r.lines ∙ ap (map (reindexed_step c.args.numbers.now)) (sym c.derivation.ensures)
    ∙ sym c.in_ok-steps.ensures ∙ sym c.as_slice.ensures.value in
    record {
      lines = lines;
      is =
          subst (λ (parts : List (List TreeLiteral)). IsWritableRefutation c.args.formed.now.problem.formulas (named parts) lines)
          (sym c.parts.ensures)
          (part-refutation c.args.formed.now.problem.formulas c.args.pool.now.origin c.args.pool.now.history c.args.numbers.now
          c.requires.numbered c.history-history.ensures.inputs c.history-history.ensures.lawful c.requires.refuted);
      same = same;
    }

pub returns-clause-written : goal.returns-clause-written
returns-clause-written c =
    let r = replay c.args.pool.now.origin c.args.pool.now.history in
    let lines = reindexed c.args.numbers.now r.lines in
    let is : IsWritableRefutation c.args.formed.now.problem.formulas (named r.parts) lines =
    part-refutation c.args.formed.now.problem.formulas c.args.pool.now.origin c.args.pool.now.history c.args.numbers.now c.requires.numbered
    c.history-history.ensures.inputs c.history-history.ensures.lawful c.requires.refuted in
    let of_pool : IsWritableRefutation c.args.formed.now.problem.formulas (named c.parts.result.now.parts) lines =
    subst (λ (parts : List (List TreeLiteral)). IsWritableRefutation c.args.formed.now.problem.formulas (named parts) lines)
    (sym c.parts.ensures) is in
    IfOk-weaker c.write_steps.result
    (IsTextOfSteps c.args.name.now c.args.formed.now.problem.formulas (named c.parts.result.now.parts) c.as_slice.result.now)
    (IsRefutationText c.args.name.now c.args.formed.now.problem.formulas lines)
    (λ text written.
    written lines of_pool.refutes.derived of_pool.bodies_are
    (parts_derive.steps c.args.numbers.now r.lines ∙ ap (map (reindexed_step c.args.numbers.now)) (sym c.derivation.ensures)
    ∙ sym c.in_ok-steps.ensures ∙ sym c.as_slice.ensures.value))
    c.write_steps.ensures.written
