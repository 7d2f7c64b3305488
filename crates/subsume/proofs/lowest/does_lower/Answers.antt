use Rattle.std.proofs.Common.{sym}
use Rattle.std.proofs.lemmas.Bool.{true≢false}
use Rattle.subsume.proofs.AboutSearch.SearchLemmas.{entry-excluded}
use Rattle.subsume.proofs.lowest.does_lower.Goals as goal

pub returns-then-not-are_at_most : goal.returns-then-not-are_at_most
returns-then-not-are_at_most c = λ usage d q wf. (
  λ e. absurd (true≢false (sym e)),
  λ both. absurd (entry-excluded c.args.query.now c.args.entry.now c.args.bound usage d c.are_at_most.result c.requires.entry q c.are_at_most.ensures c.if-not-are_at_most.true both.1),
)
