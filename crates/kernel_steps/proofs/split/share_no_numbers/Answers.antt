use Rattle.std.proofs.Common.{◌&&◌, ◌||◌, nat_eq, map, ap, sym, ◌∙◌}
use Rattle.std.specs.HashSet.{contains}
use Rattle.std.specs.List.{list_any}
use Rattle.kernel_steps.specs.Split.{has_number, share_no_numbers}
use Rattle.kernel_steps.proofs.AboutSplits.SplitTables.{none_passes-no, apart-met, apart-next}
use Rattle.kernel_steps.proofs.split.share_no_numbers.Goals as goal

pub loop-list-init : goal.loop-list-init
loop-list-init c =
    let nss = map (λ list. list.items) c.args.lists.now in
    ap (λ b. b && share_no_numbers nss)
    (none_passes-no (contains nat_eq c.new-met.result) (λ n. ap (list_any (nat_eq n)) c.new-met.ensures.empty) nss)

pub returns-then-has_any : goal.returns-then-has_any
returns-then-has_any c =
    let met = contains nat_eq c.loop-list.met in
    sym
    (apart-met (λ list. list.items) c.args.lists.now c.loop-list.list-index c.list-item.result met c.loop-list-test.true c.list-item.is
    (ap (list_any met) (sym c.as_slice.ensures.value) ∙ sym c.has_any.ensures ∙ c.if-has_any.true))
    ∙ c.loop-list.invariant

pub loop-list-preserved : goal.loop-list-preserved
loop-list-preserved c =
    let met = contains nat_eq c.loop-list.met in
    sym
    (apart-next (λ list. list.items) c.args.lists.now c.loop-list.list-index c.list-item.result met c.loop-list-test.true c.list-item.is
    (contains nat_eq c.put_all.new.met)
    (ap (list_any met) (sym c.as_slice.ensures.value) ∙ sym c.has_any.ensures ∙ c.if-has_any.false)
    (λ n. c.in_ok-put_all.ensures n ∙ ap (λ ns. has_number n ns || met n) c.as_slice-in-loop-list.ensures.value))
    ∙ c.loop-list.invariant
