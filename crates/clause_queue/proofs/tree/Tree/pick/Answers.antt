use Rattle.std.proofs.Common.{◌≤◌, ℕ, List, Option, Some, None, Box, IfSome}
use Rattle.std.specs.List.{AllByRecursion}
use Rattle.std.specs.declared.alloc.Global.{Global}
use Rattle.clause_queue.specs.Node.{pair_of, Takes, IsTopOf}
use Rattle.clause_queue.specs.Pick.{IsPick}
use Rattle.clause_queue.specs.declared.choice.Choice.TheVariants.{Light, Old}
use Rattle.clause_queue.specs.declared.tree.Node.{Node}
use Rattle.clause_queue.proofs.Numbers.{light_pick, old_pick}
use Rattle.clause_queue.proofs.tree.Tree.pick.Goals as goal

light : (r : Option (Box Node Global)) (old new : List (ℕ × ℕ)) → IfSome r (λ b. Takes b old new) → IfSome r (λ b. IsTopOf (pair_of b.value.entry) new) → IfSome r (λ b. IsPick Light old b.value.entry.number)
light None old new taken top = tt
light (Some b) old new taken top = rw taken.is (light_pick (pair_of b.value.entry) new top)

oldest : (r : Option (Box Node Global)) (old new : List (ℕ × ℕ)) → IfSome r (λ b. Takes b old new) → IfSome r (λ b. AllByRecursion (λ q. b.value.entry.number ≤ q.0) old) → IfSome r (λ b. IsPick Old old b.value.entry.number)
oldest None old new taken least = tt
oldest (Some b) old new taken least = rw taken.is (old_pick (pair_of b.value.entry) new (rw taken.is at least))

pub returns-in-Light-clause-picked : goal.returns-in-Light-clause-picked
returns-in-Light-clause-picked c = rw c.in-Light.is (light c.take_top.result c.args.self.now c.take_top.new.self c.take_top.ensures.taken c.take_top.ensures.lightest)

pub returns-in-Old-clause-picked : goal.returns-in-Old-clause-picked
returns-in-Old-clause-picked c = rw c.in-Old.is (oldest c.take_oldest.result c.args.self.now c.take_oldest.new.self c.take_oldest.ensures.taken c.take_oldest.ensures.oldest)
