use Rattle.std.proofs.Common.{subst, arith}
use Rattle.fol_base.specs.declared.clause.Side.TheVariants.{Left}
use Rattle.fol_base.specs.Tree.{trees_size, trees_variables}
use Rattle.kbo_order.specs.Block.{InBlock}
use Rattle.kbo_order.specs.Reading.{seen_from}
use Rattle.kbo_order.specs.Balance.{Covers, IsCovered}
use Rattle.kbo_order.proofs.AboutReading.ReadingLemmas.{all_occurrences-within}
use Rattle.kbo_order.proofs.AboutReading.MetLemmas.{Met-sides, HasRoom-then, HasRoom-less}
use Rattle.kbo_order.proofs.AboutReading.PartlyLemmas.{Partly-left, Partly-rest, Partly-room}
use Rattle.kbo_order.proofs.AboutReading.CoverLemmas.{tied-not_greater, short-not_greater, Short-grows, covered-exceeds}
use Rattle.kbo_order.proofs.balance.Balance.exceeds.Goals as goal

pub returns-then-not-wins_tie : goal.returns-then-not-wins_tie
returns-then-not-wins_tie g c =
    let ts = seen_from c.args.left_bound (g.S.LendsTerms.meaning c.args.left_bind.now) c.args.left.now 0 in
    let us = seen_from c.args.right_bound (g.T.LendsTerms.meaning c.args.right_bind.now) c.args.right.now 0 in
    tied-not_greater (InBlock c.args.self.now.start) c.args.first c.args.second ts us c.difference-found.result.tie c.is_greater-wins_tie.result
    c.difference-found.ensures.tie c.is_greater-wins_tie.ensures c.if-not-wins_tie.true (c.requires.same_size c.if-same_size.true)

pub add_from-requires-clause-room : goal.add_from-requires-clause-room
add_from-requires-clause-room g c =
    HasRoom-less c.difference-found.new.self _ _ (omega arith)
    (Partly-room c.args.self.now c.difference-found.new.self _ _ _ _ c.requires.level c.difference-found.ensures.met c.requires.room)

pub returns-then-not-is_covered : goal.returns-then-not-is_covered
returns-then-not-is_covered g c =
    let σ = g.S.LendsTerms.meaning c.args.left_bind.now in
    let τ = g.T.LendsTerms.meaning c.args.right_bind.now in
    let b = c.args.left_bound in
    let d = c.args.right_bound in
    let n = c.difference-found.result.rest in
    let part = c.difference-found.ensures.met in
    short-not_greater c.args.self.now c.add_from.new.self c.args.first c.args.second
    (seen_from b σ c.args.left.now 0) (seen_from d τ c.args.right.now 0) (seen_from d τ c.args.right.now n)
    part.right_variables part.right_size c.difference-found.result.tie c.is_greater-wins_tie.result c.least_weight-least.result
    c.requires.level c.difference-found.ensures.tie c.is_greater-wins_tie.ensures c.least_weight-least.ensures
    (Partly-left c.args.self.now c.difference-found.new.self c.add_from.new.self (seen_from b σ c.args.left.now 0) (seen_from b σ c.args.left.now n)
    (seen_from d τ c.args.right.now 0) (seen_from d τ c.args.right.now n) part c.add_from.ensures)
    part.right
    (Short-grows c.least_weight-least.result c.add_from.new.self (trees_variables (seen_from d τ c.args.right.now n)) (trees_size (seen_from d τ c.args.right.now n))
    (subst (λ r. IsCovered r c.least_weight-least.result c.add_from.new.self) c.if-not-is_covered.true c.is_covered.ensures))

pub cover_from-requires-clause-room : goal.cover_from-requires-clause-room
cover_from-requires-clause-room g c =
    let rest = seen_from c.args.left_bound (g.S.LendsTerms.meaning c.args.left_bind.now) c.args.left.now c.difference-found.result.rest in
    HasRoom-then Left c.difference-found.new.self c.add_from.new.self (trees_variables rest) (trees_size rest) _
    (λ v. all_occurrences-within v rest)
    (Partly-room c.args.self.now c.difference-found.new.self _ _ _ _ c.requires.level c.difference-found.ensures.met c.requires.room)
    c.add_from.ensures

pub returns-then-not-cover_from : goal.returns-then-not-cover_from
returns-then-not-cover_from g c =
    let σ = g.S.LendsTerms.meaning c.args.left_bind.now in
    let τ = g.T.LendsTerms.meaning c.args.right_bind.now in
    let b = c.args.left_bound in
    let d = c.args.right_bound in
    let n = c.difference-found.result.rest in
    let part = c.difference-found.ensures.met in
    let least = c.least_weight-least.result in
    let rest = seen_from d τ c.args.right.now n in
    short-not_greater c.args.self.now c.add_from.new.self c.args.first c.args.second
    (seen_from b σ c.args.left.now 0) (seen_from d τ c.args.right.now 0) rest
    part.right_variables part.right_size c.difference-found.result.tie c.is_greater-wins_tie.result least
    c.requires.level c.difference-found.ensures.tie c.is_greater-wins_tie.ensures c.least_weight-least.ensures
    (Partly-left c.args.self.now c.difference-found.new.self c.add_from.new.self (seen_from b σ c.args.left.now 0) (seen_from b σ c.args.left.now n)
    (seen_from d τ c.args.right.now 0) rest part c.add_from.ensures)
    part.right
    (subst (λ r. Covers r least c.add_from.new.self c.cover_from.new.self (trees_variables rest) (trees_size rest))
    c.if-not-cover_from.true c.cover_from.ensures)

pub returns : goal.returns
returns g c =
    let σ = g.S.LendsTerms.meaning c.args.left_bind.now in
    let τ = g.T.LendsTerms.meaning c.args.right_bind.now in
    let b = c.args.left_bound in
    let d = c.args.right_bound in
    let n = c.difference-found.result.rest in
    let least = c.least_weight-least.result in
    let ts = seen_from b σ c.args.left.now 0 in
    let us = seen_from d τ c.args.right.now 0 in
    let left_rest = seen_from b σ c.args.left.now n in
    let right_rest = seen_from d τ c.args.right.now n in
    covered-exceeds c.is_covered-2.result c.args.self.now c.cover_from.new.self c.args.first c.args.second ts us
    c.difference-found.result.tie c.is_greater-wins_tie.result least
    c.requires.level c.difference-found.ensures.tie c.is_greater-wins_tie.ensures c.least_weight-least.ensures
    (Partly-rest c.args.self.now c.difference-found.new.self c.cover_from.new.self ts left_rest us right_rest c.difference-found.ensures.met
    (Met-sides c.difference-found.new.self c.add_from.new.self c.cover_from.new.self (trees_variables left_rest) (trees_variables right_rest)
    (trees_size left_rest) (trees_size right_rest) c.add_from.ensures
    (subst (λ r. Covers r least c.add_from.new.self c.cover_from.new.self (trees_variables right_rest) (trees_size right_rest))
    c.if-not-cover_from.false c.cover_from.ensures)))
    c.is_covered-2.ensures
