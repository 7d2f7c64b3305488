use Rattle.std.proofs.Common.{rules, ◌≡◌, ◌-◌, All, ◌∷◌, ◌++◌, [], sym, subst}
use Rattle.std.proofs.lemmas.List.Elements.{All-push}
use Rattle.turn_lock.specs.Shown.{split_off, with_shares}
use Rattle.worker_team.specs.Passes.{IsPassOf}
use Rattle.worker_team.specs.Team.{IsReadyInTeam}
use Rattle.worker_team.proofs.TeamLemmas.{hired, rest-of}
use Rattle.worker_team.proofs.team.hire.Goals as goal

pub loop-number-preserved : goal.loop-number-preserved
loop-number-preserved c =
    let p = c.loop-number.pass in
    let own = c.split_pass-rest.result.1 in
    let rest = c.split_pass-rest.result.0 in
    let held = c.loop-number.invariant in
    let first : rest ≡ with_shares p (p.shares - 1) = c.split_pass-rest.ensures.first in
    let second : own ≡ split_off p 1 = c.split_pass-rest.ensures.second in
    let worker = c.in-Ok.worker in
    let pushed : c.push.new.self.items ≡ c.loop-number.team.items ++ worker ∷ [] = search rules in
    record {
      lock = search rules;
      shares = search rules;
      hired = search rules;
      start = search rules;
      origin = search rules;
      pass = λ bank of. subst (IsPassOf bank) (sym first) (rest-of bank p (p.shares - 1) (held.pass bank of));
      ready = λ bank of options.
          subst (All (IsReadyInTeam c.args.lock.now bank c.args.pass.origin c.args.pass.start)) (sym pushed)
          (All-push (IsReadyInTeam c.args.lock.now bank c.args.pass.origin c.args.pass.start) c.loop-number.team.items worker (held.ready bank of options)
          (hired c.args.lock.now bank c.args.pass p own worker c.args.options second held.lock held.origin held.start (held.pass bank of) options
          c.in-Ok.ensures.pass (c.in-Ok.ensures.ready bank)));
    }
