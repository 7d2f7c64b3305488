use Rattle.std.proofs.Common.{◌≡◌, take, drop}
use Rattle.given_work.specs.Kept.{IsKept}
use Rattle.given_work.specs.Learning.{AreNews, learned}
use Rattle.given_work.specs.Store.{members_in}
use Rattle.given_work.proofs.learning.learn_all.Given as goal

abbrev pub invariant-loop-change : goal.invariant-loop-change
invariant-loop-change l =
    IsKept l.bank l.store l.sets
    × (members_in l.store.slots.items ≡ learned (members_in l.initial.store.slots.items) (take l.change-index l.changes))
    × AreNews (members_in l.store.slots.items) (drop l.change-index l.changes)
    × (l.store.partners.mode ≡ l.initial.store.partners.mode)
