use Rattle.std.proofs.Common.{refl}
use Rattle.typed_tree.proofs.laws.typed_tree_examples.Goals as goal

pub returns : goal.returns
returns c = record { same = refl; other = refl; size = refl }
