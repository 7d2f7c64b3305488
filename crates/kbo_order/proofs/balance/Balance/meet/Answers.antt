use Rattle.std.proofs.Common.{arith}
use Rattle.fol_base.specs.declared.clause.Side.TheVariants.{Left}
use Rattle.fol_base.specs.Term.{tree_of}
use Rattle.fol_base.specs.Tree.{tree_size}
use Rattle.kbo_order.specs.Reading.{seen}
use Rattle.kbo_order.proofs.AboutReading.ReadingLemmas.{occurrences-within}
use Rattle.kbo_order.proofs.AboutReading.MetLemmas.{Met-sides, HasRoom-then, HasRoom-less}
use Rattle.kbo_order.proofs.balance.Balance.meet.Goals as goal

pub add-requires-clause-room : goal.add-requires-clause-room
add-requires-clause-room g c = HasRoom-less c.args.self.now _ _ (omega arith) c.requires.room

pub add-requires-2-clause-consistent : goal.add-requires-2-clause-consistent
add-requires-2-clause-consistent g c = c.add.ensures.consistent

pub add-requires-2-clause-room : goal.add-requires-2-clause-room
add-requires-2-clause-room g c =
    HasRoom-then Left c.args.self.now c.add.new.self _ (tree_size (seen c.args.left_bound (g.S.LendsTerms.meaning c.args.left_bind.now) (tree_of c.args.left.now))) _
    (λ v. occurrences-within v (seen c.args.left_bound (g.S.LendsTerms.meaning c.args.left_bind.now) (tree_of c.args.left.now))) c.requires.room c.add.ensures

pub returns : goal.returns
returns g c = Met-sides c.args.self.now c.add.new.self c.add-2.new.self _ _ _ _ c.add.ensures c.add-2.ensures
