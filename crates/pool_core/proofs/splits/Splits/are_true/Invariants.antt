use Rattle.std.proofs.Common.{◌≡◌, drop}
use Rattle.std.specs.List.{list_all}
use Rattle.sat_core.specs.Clause.{literal_true, valuation_of}
use Rattle.pool_history.specs.Tags.{name_of_tag}
use Rattle.pool_core.proofs.splits.Splits.are_true.Given as goal

abbrev pub invariant-loop-tag : goal.invariant-loop-tag
invariant-loop-tag l = list_all (λ tag. literal_true (valuation_of l.self.model) (name_of_tag l.self.parts.parts tag)) (drop l.tag-index l.tags)
    ≡ list_all (λ tag. literal_true (valuation_of l.self.model) (name_of_tag l.self.parts.parts tag)) l.tags
