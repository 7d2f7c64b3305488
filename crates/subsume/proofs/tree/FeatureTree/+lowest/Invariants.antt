use Rattle.subsume.proofs.tree.FeatureTree.+lowest.Given as goal

abbrev pub decreases-lowest : goal.decreases-lowest
decreases-lowest l = l.self.now.1
