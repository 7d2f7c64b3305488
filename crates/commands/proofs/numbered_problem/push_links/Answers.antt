use Rattle.std.proofs.Common.{◌≡◌, ℕ, ◌++◌, map, ap, sym, ◌∙◌, append-nil, arith}
use Rattle.std.specs.List.{range_with_len}
use Rattle.commands.specs.BenchProblem.{link}
use Rattle.commands.proofs.AboutBench.LinkLemmas.{links-more}
use Rattle.commands.proofs.numbered_problem.push_links.Goals as goal

pub loop-links-init : goal.loop-links-init
loop-links-init c = sym (append-nil c.args.formulas.now)

pub loop-links-preserved : goal.loop-links-preserved
loop-links-preserved c =
    links-more c.args.formulas.now c.loop-links.formulas _ c.loop-links.links c.in_ok-next.next c.loop-links.invariant c.in_ok-next.ensures
    c.in_ok-push.ensures.ok

pub returns : goal.returns
returns c =
    let all : c.loop-links.links ≡ c.args.number = omega arith in
    c.loop-links.invariant ∙ ap (λ (n : ℕ). c.args.formulas.now ++ map link (range_with_len 1 n)) all
