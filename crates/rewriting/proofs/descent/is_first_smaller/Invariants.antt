use Rattle.std.proofs.Common.{◌≡◌}
use Rattle.unifier.specs.Matching.{by_pairs}
use Rattle.rewriting.proofs.AboutSearches.DescentLemmas.{rest_greater}
use Rattle.rewriting.proofs.descent.is_first_smaller.Given as goal

abbrev pub invariant-loop-index : goal.invariant-loop-index
invariant-loop-index l = rest_greater (by_pairs l.terms) l.index l.old l.new ≡ rest_greater (by_pairs l.terms) 0 l.old l.new
