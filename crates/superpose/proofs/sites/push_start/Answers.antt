use Rattle.std.proofs.Common.{sym, ◌∙◌}
use Rattle.bank_clause.specs.Clause.{clause_at}
use Rattle.superpose.proofs.AboutSites.SiteLemmas.{start_test, start_pushed, start_left_out}
use Rattle.superpose.proofs.sites.push_start.Goals as goal

pub returns-in_ok-push : goal.returns-in_ok-push
returns-in_ok-push c mode none =
    let ls = (clause_at c.args.member.now.clause).literals in
    c.in_ok-push.ensures.items
    ∙ start_pushed mode ls c.args.at c.args.from.now.items (start_test mode ls c.args.at none ∙ sym c.if-can_start.ensures)

pub returns-else-can_start : goal.returns-else-can_start
returns-else-can_start c mode none =
    let ls = (clause_at c.args.member.now.clause).literals in
    start_left_out mode ls c.args.at c.args.from.now.items (start_test mode ls c.args.at none ∙ sym c.if-can_start.ensures)
