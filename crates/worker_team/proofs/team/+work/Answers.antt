use Rattle.std.proofs.Common.{rules, ◌≡◌, ◌∷◌, [], ◌++◌, sym, subst, refl}
use Rattle.worker_team.specs.Team.{HaveRun}
use Rattle.worker_team.specs.Workers.{IsReady}
use Rattle.worker_team.proofs.TeamLemmas.{have-run, last-member}
use Rattle.worker_team.proofs.team.+work.Goals as goal

pub returns-then-is_empty : goal.returns-then-is_empty
returns-then-is_empty g t c =
    let pushed : c.push.new.self.items ≡ c.pop.new.self.items ++ c.run.new.self ∷ [] = search rules in
    record {
      ended =
          subst (HaveRun c.args.lock.now c.args.bank.now c.args.team.items) (sym pushed)
          (have-run c.args.lock.now c.args.bank.now c.args.team.items c.pop.new.self.items c.pop.new.self.items c.pop.result c.in-Some.worker c.run.new.self
          c.pop.ensures.items c.in-Some.is (refl, λ begun history all. all) c.run.ensures.run);
    }

pub begin-begun-requires-clause-ready : goal.begin-begun-requires-clause-ready
begin-begun-requires-clause-ready g t c κs within =
    (last-member (IsReady c.args.lock.now c.args.bank.now) c.args.team.items c.pop.new.self.items c.pop.result c.in-Some.worker c.pop.ensures.items c.in-Some.is
    c.requires.ready).1

pub returns : goal.returns
returns g t c =
    let old = c.in-Some.worker in
    let new = c.ended.result in
    let ran = c.ended.ensures c.args.lock.now c.args.bank.now old c.begin-begun.ensures in
    let pushed : c.push-2.new.self.items ≡ c.in_ok-ended.ended.items ++ new ∷ [] = search rules in
    record {
      ended =
          subst (HaveRun c.args.lock.now c.args.bank.now c.args.team.items) (sym pushed)
          (have-run c.args.lock.now c.args.bank.now c.args.team.items c.pop.new.self.items c.in_ok-ended.ended.items c.pop.result old new c.pop.ensures.items
          c.in-Some.is c.in_ok-ended.ensures.ended ran);
    }
