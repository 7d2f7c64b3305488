use Rattle.std.proofs.Common.{sym, ◌∙◌}
use Rattle.clausal_form.proofs.AboutNaming.NameLemmas.{met-begin, met-again, met-first}
use Rattle.clausal_form.proofs.closing.different.Goals as goal

pub loop-name-init : goal.loop-name-init
loop-name-init c = met-begin _ _ _ c.new-found.ensures c.with_hasher-met.ensures.empty

pub loop-name-preserved-then-not-is_new : goal.loop-name-preserved-then-not-is_new
loop-name-preserved-then-not-is_new c =
    met-again _ _ _ _ c.loop-name.met.keys _ c.loop-name.found c.loop-name-test.true c.name-item.is c.as_slice.ensures c.in_ok-is_new.ensures.keys
    (sym c.if-not-is_new.true ∙ c.in_ok-is_new.ensures.added) c.loop-name.invariant

pub loop-name-preserved : goal.loop-name-preserved
loop-name-preserved c =
    met-first _ _ _ _ _ c.loop-name.met.keys _ c.loop-name.found _ c.loop-name-test.true c.name-item.is c.as_slice.ensures c.in_ok-is_new.ensures.keys
    (sym c.if-not-is_new.false ∙ c.in_ok-is_new.ensures.added) c.in_ok-copy.ensures c.in_ok-push.ensures.ok c.loop-name.invariant
