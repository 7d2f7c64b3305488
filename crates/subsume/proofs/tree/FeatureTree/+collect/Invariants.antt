use Rattle.subsume.proofs.tree.FeatureTree.+collect.Given as goal

abbrev pub decreases-collect : goal.decreases-collect
decreases-collect l = l.self.now.1
