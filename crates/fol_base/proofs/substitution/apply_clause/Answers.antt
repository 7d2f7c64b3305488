use Rattle.fol_base.proofs.AboutClauses.ClauseLemmas.{LiteralVariablesBelow-item}
use Rattle.fol_base.proofs.substitution.apply_clause.Goals as goal

pub apply_literal-requires : goal.apply_literal-requires
apply_literal-requires c =
    LiteralVariablesBelow-item _ _ _ _ _ c.as_slice-literal-items.ensures c.loop-literal-test.true c.literal-item.is c.requires
