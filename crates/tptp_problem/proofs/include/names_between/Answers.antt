use Rattle.std.proofs.Common.{◌+◌, sym, subst}
use Rattle.tptp_problem.specs.Awaiting.{StillReads}
use Rattle.tptp_problem.specs.Shape.{lexemes_told}
use Rattle.tptp_problem.proofs.AboutFiles.IncludeLemmas.{names-step, names-end}
use Rattle.tptp_problem.proofs.include.names_between.Goals as goal

pub loop-at-preserved : goal.loop-at-preserved
loop-at-preserved c =
    let tokens = lexemes_told c.args.source in
    subst (λ names. StillReads tokens c.args.end c.args.first (c.loop-at.at + 2) names) (sym c.in_ok-push.ensures.ok)
    (names-step tokens c.args.end c.args.first c.loop-at.at c.loop-at.names c.in_ok-name_at.field-0 c.loop-at-test.true
    c.in_ok-name_at.ensures.by c.loop-at.invariant)

pub returns : goal.returns
returns c =
    record { by = names-end (lexemes_told c.args.source) c.args.end c.args.first c.loop-at.at c.loop-at.names c.loop-at-test.false c.loop-at.invariant }
