use Rattle.std.proofs.Common.{◌≡◌, List, [], ◌∷◌, ◌++◌, length, Option, Some, sym, ap, ◌∙◌, subst}
use Rattle.atomic_table.specs.Table.{opening}
use Rattle.turn_lock.specs.Rule.{Turns}
use Rattle.turn_lock.specs.Steps.{first_view}
use Rattle.turn_lock.proofs.Passes.{opens}
use Rattle.turn_lock.proofs.lock.TurnLock.new.Goals as goal

pub new-requires : goal.new-requires
new-requires g c =
    let start = c.of-start.result.value in let history = g.S.Historied.history in let origin = g.S.Historied.origin in
    let items : c.push_reserved.new.self.items ≡ Some start ∷ [] = ◌∙◌ {A = List (Option g.row.S.Denot)} c.push_reserved.ensures.items (λ i. c.in_ok-slots.ensures.items i ++ Some (sym c.of-start.ensures i) ∷ []) in
    subst (λ (xs : List (Option g.row.S.Denot)). Turns history origin g.S.Historied.key record { history = history start; origin = origin start } (opening (0 ∷ c.len-length.result ∷ []) xs (first_view (history start) (origin start)))) (sym items)
    (opens history origin g.S.Historied.key start c.len-length.result (c.len-length.ensures ∙ ap (λ x. length (history x)) (sym c.of-start.ensures)))
