use Rattle.std.proofs.Common.{◌++◌, take, ap, sym, ◌∙◌}
use Rattle.std.proofs.lemmas.Result.{on_ok_weaker}
use Rattle.typed_problem.specs.SortFaults.{declared_causes}
use Rattle.sort_checks.specs.Lent.{declared_lent, declared_among}
use Rattle.sort_checks.proofs.PushLemmas.{declaration-pushed, nothing-pushed}
use Rattle.sort_checks.proofs.declarations.push_declaration.Goals as goal

pub returns-in-Some : goal.returns-in-Some
returns-in-Some c =
    on_ok_weaker c.push_type.result
    (λ h.
    declaration-pushed (declared_among c.args.table.now) (declared_among (take c.args.index c.args.table.now)) c.args.declaration c.earlier-earlier.result
    c.repeated.result c.args.causes.now.items c.push.new.self.items c.push_type.new.causes.items c.earlier-earlier.ensures c.repeated.ensures
    c.in_ok-push.ensures.items (h ∙ ap (λ o. c.push.new.self.items ++ declared_causes (declared_among c.args.table.now) (declared_lent o)) (sym c.in-Some.is)))
    c.push_type.ensures

pub returns-in-None : goal.returns-in-None
returns-in-None c =
    declaration-pushed (declared_among c.args.table.now) (declared_among (take c.args.index c.args.table.now)) c.args.declaration c.earlier-earlier.result
    c.repeated.result c.args.causes.now.items c.push.new.self.items c.push.new.self.items c.earlier-earlier.ensures c.repeated.ensures
    c.in_ok-push.ensures.items (nothing-pushed (declared_among c.args.table.now) c.args.declaration.symbol c.push.new.self.items c.in-None.is)
