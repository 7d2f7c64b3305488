use Rattle.commands.proofs.AboutBench.LinkLemmas.{all-linked}
use Rattle.commands.proofs.numbered_problem.bench_problem.Goals as goal

pub returns : goal.returns
returns c =
    all-linked c.args.number c.new-formulas.result _ _ _ _ c.in_ok-first.first c.in_ok-back.back c.in_ok-last.last c.new-formulas.ensures c.in_ok-push.ensures.ok
    c.in_ok-first.ensures c.in_ok-push_links.ensures c.in_ok-push-2.ensures.ok c.in_ok-back.ensures c.in_ok-push-3.ensures.ok c.in_ok-last.ensures
