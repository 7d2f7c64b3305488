use Rattle.std.proofs.Common.{◌≡◌, ◌+◌, ◌-◌, ◌++◌, map, take, drop, ap, ◌∙◌, arith}
use Rattle.fol_base.specs.Clause.{literal_instance}
use Rattle.fol_base.specs.Literal.{literal_of}
use Rattle.kernel_steps.proofs.AboutCalls.PushLemmas.{set-pushed_by}
use Rattle.kernel_steps.proofs.rules.with_exchanged.Goals as goal

pub returns : goal.returns
returns g c =
    let h = literal_instance (g.S.LendsTerms.meaning c.args.parent.now.bind.now) in
    let ls = g.L.LendsLiterals.meaning c.args.parent.now.literals.now in
    let i = c.args.index in
    let all_before : i - 0 ≡ i = omega arith in
    set-pushed_by literal_of h ls c.in_ok-made.made.items c.push_instances.new.made.items c.push.new.self.items
    c.push_instances-2.new.made.items i c.args.new c.requires c.in_ok-made.ensures.items
    (c.in_ok-push_instances.ensures ∙ ap (λ n. map literal_of c.in_ok-made.made.items ++ map h (take n ls)) all_before)
    c.in_ok-push.ensures.items
    (c.in_ok-push_instances-2.ensures
    ∙ ap (λ n. map literal_of c.push.new.self.items ++ map h (take (n - (i + 1)) (drop (i + 1) ls))) c.count-count.ensures)
