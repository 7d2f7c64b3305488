use Rattle.std.proofs.Common.{◌≡◌, length}
use Rattle.std.specs.List.{All}
use Rattle.fol_base.specs.Term.{tree_of}
use Rattle.sample.specs.Sizes.{IsOfUsualSize}
use Rattle.sample.proofs.random.random_terms.Given as goal

abbrev pub invariant-loop : goal.invariant-loop
invariant-loop l = (length l.terms.items ≡ l.counter) × All (λ term. IsOfUsualSize (tree_of term)) l.terms.items
