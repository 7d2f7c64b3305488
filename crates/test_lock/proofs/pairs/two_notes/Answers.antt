use Rattle.std.proofs.Common.{rules, ◌≡◌, ℕ, [], List, subst, sym}
use Rattle.turn_lock.specs.History.{OwnsAdded}
use Rattle.turn_lock.specs.Shown.{Known}
use Rattle.test_lock.specs.declared.notes.Note.{Note}
use Rattle.test_lock.proofs.pairs.two_notes.Goals as goal

pub returns : goal.returns
returns g c =
    let K = Known Note ℕ in let notes = c.close.result.notes.items in
    let start : c.join_pass-joined.result.start ≡ [] = search rules in
    subst (λ (k : K). OwnsAdded [] notes k.own) (sym c.of-known.ensures)
    (subst (λ (l : List Note). OwnsAdded l notes c.join_pass-joined.result.own) start c.close.ensures.added)
