use Rattle.std.proofs.Common.{arith}
use Rattle.term_bank.proofs.RowLemmas.{place-shorter, place-longest}
use Rattle.term_bank.proofs.rows.located.Goals as goal

pub returns-then-shifted-lt-LONGEST-clause-place : goal.returns-then-shifted-lt-LONGEST-clause-place
returns-then-shifted-lt-LONGEST-clause-place c =
    place-shorter c.args.index c.among_shorter.result.0 c.among_shorter.result.1
    c.among_shorter.ensures.row c.among_shorter.ensures.below c.among_shorter.ensures.place

pub returns-else-shifted-lt-LONGEST-clause-place : goal.returns-else-shifted-lt-LONGEST-clause-place
returns-else-shifted-lt-LONGEST-clause-place c =
    place-longest c.args.index (omega (arith, c.if-shifted-lt-LONGEST.false)) (omega (arith, c.if-index-ge-PLACES.false))
