use Rattle.std.proofs.Common.{◌≡◌, ◌+◌, ◌-◌, ◌++◌, map, take, drop, ap, ◌∙◌, arith}
use Rattle.std.specs.Prelude.{remove}
use Rattle.std.proofs.lemmas.Result.{IfOk-weaker}
use Rattle.fol_base.specs.Clause.{literal_instance}
use Rattle.fol_base.specs.Literal.{literal_of}
use Rattle.kernel_steps.proofs.AboutCalls.PushLemmas.{remove-pushed_by}
use Rattle.kernel_steps.proofs.rules.push_others.Goals as goal

pub returns : goal.returns
returns g c =
    let h = literal_instance (g.S.LendsTerms.meaning c.args.parent.now.bind.now) in
    let ls = g.L.LendsLiterals.meaning c.args.parent.now.literals.now in
    let before = map literal_of c.args.made.now.items in
    let front = map literal_of c.push_instances.new.made.items in
    let whole = map literal_of c.push_instances-2.new.made.items in
    let i = c.args.index in
    let all_before : i - 0 ≡ i = omega arith in
    IfOk-weaker c.push_instances-2.result
    (λ _. whole ≡ front ++ map h (take (c.count.result - (i + 1)) (drop (i + 1) ls)))
    (λ _. whole ≡ before ++ remove (map h ls) i)
    (λ _ pushed.
    remove-pushed_by literal_of h ls c.args.made.now.items c.push_instances.new.made.items c.push_instances-2.new.made.items i c.requires
    (c.in_ok-push_instances.ensures ∙ ap (λ n. before ++ map h (take n ls)) all_before)
    (pushed ∙ ap (λ n. front ++ map h (take (n - (i + 1)) (drop (i + 1) ls))) c.count.ensures))
    c.push_instances-2.ensures
