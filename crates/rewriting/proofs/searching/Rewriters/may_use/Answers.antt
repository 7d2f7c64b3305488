use Rattle.rewriting.specs.Units.{is_kept}
use Rattle.rewriting.proofs.AboutSearches.TryLemmas.{may-use}
use Rattle.rewriting.proofs.searching.Rewriters.may_use.Goals as goal

pub returns-then-is_kept : goal.returns-then-is_kept
returns-then-is_kept c =
    may-use c.args.self.now.asserted.now c.names.result.now c.args.clause.now.names c.is_kept.result
    (is_kept c.args.self.now.left_out c.args.number) c.are_among.result
    c.names.ensures.names c.if-is_kept.true c.is_kept.ensures c.are_among.ensures
