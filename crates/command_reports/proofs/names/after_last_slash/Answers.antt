use Rattle.std.proofs.Common.{arith}
use Rattle.command_reports.proofs.AboutPages.NameLemmas.{behind_start, from_front}
use Rattle.command_reports.proofs.names.after_last_slash.Goals as goal
use Rattle.command_reports.proofs.names.after_last_slash.Goals.{then-loop-start-test+else-bytes-start-ne47, else-loop-start-test}

pub returns : goal.returns
returns c =
    elim c.loop-start-test.branch [
      | then-loop-start-test+else-bytes-start-ne47 w ↦
          behind_start c.args.bytes.now c.loop-start.start c.loop-start.invariant.1 (λ e. absurd (omega (arith, w.loop-start-test.true, e))) c.loop-start.invariant.0 w.if-bytes-start-ne47.false
      | else-loop-start-test w ↦ from_front c.args.bytes.now c.loop-start.start c.loop-start.invariant.1 (omega (arith, w.loop-start-test.false))
    ]
