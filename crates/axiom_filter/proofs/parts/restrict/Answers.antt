use Rattle.std.proofs.Common.{nat_eq, ◌∙◌}
use Rattle.std.specs.HashSet.{contains}
use Rattle.axiom_filter.proofs.AboutParts.RestrictionLemmas.{clauses-among, numbers-among}
use Rattle.axiom_filter.proofs.parts.restrict.Goals as goal

pub returns-clause-clauses : goal.returns-clause-clauses
returns-clause-clauses c =
    c.in_ok-clauses.ensures
    ∙ clauses-among (contains nat_eq c.in_ok-kept.kept) c.args.kept.now c.as_slice.result.now c.args.origins.now c.as_slice-origins.result.now
    c.args.clauses.now c.as_slice-2.result.now c.in_ok-kept.ensures c.as_slice.ensures c.as_slice-origins.ensures c.as_slice-2.ensures

pub returns-clause-numbers : goal.returns-clause-numbers
returns-clause-numbers c =
    c.in_ok-numbers.ensures
    ∙ numbers-among (contains nat_eq c.in_ok-kept.kept) c.args.kept.now c.as_slice.result.now c.args.origins.now c.as_slice-origins.result.now
    c.in_ok-kept.ensures c.as_slice.ensures c.as_slice-origins.ensures
