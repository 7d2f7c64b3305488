use Rattle.std.proofs.Common.{arith}
use Rattle.fol_base.specs.declared.clause.Side.TheVariants.{Left}
use Rattle.fol_base.specs.Tree.{trees_size}
use Rattle.kbo_order.specs.Reading.{seen_from}
use Rattle.kbo_order.proofs.AboutReading.ReadingLemmas.{all_occurrences-within}
use Rattle.kbo_order.proofs.AboutReading.MetLemmas.{Met-sides, HasRoom-then, HasRoom-less}
use Rattle.kbo_order.proofs.balance.Balance.meet_rest.Goals as goal

pub add_from-requires-clause-room : goal.add_from-requires-clause-room
add_from-requires-clause-room g c = HasRoom-less c.args.self.now _ _ (omega arith) c.requires.room

pub add_from-requires-2-clause-consistent : goal.add_from-requires-2-clause-consistent
add_from-requires-2-clause-consistent g c = c.add_from.ensures.consistent

pub add_from-requires-2-clause-room : goal.add_from-requires-2-clause-room
add_from-requires-2-clause-room g c =
    HasRoom-then Left c.args.self.now c.add_from.new.self _ (trees_size (seen_from c.args.left_bound (g.S.LendsTerms.meaning c.args.left_bind.now) c.args.left.now c.args.from)) _
    (λ v. all_occurrences-within v (seen_from c.args.left_bound (g.S.LendsTerms.meaning c.args.left_bind.now) c.args.left.now c.args.from)) c.requires.room c.add_from.ensures

pub returns : goal.returns
returns g c = Met-sides c.args.self.now c.add_from.new.self c.add_from-2.new.self _ _ _ _ c.add_from.ensures c.add_from-2.ensures
