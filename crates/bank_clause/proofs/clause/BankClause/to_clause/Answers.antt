use Rattle.std.proofs.Common.{◌∙◌, sym, ap, map, subst}
use Rattle.plain_types.specs.Names.{negative_of}
use Rattle.bank_clause.specs.Clause.{AreAssertions}
use Rattle.bank_clause.proofs.ClauseLemmas.{assertions-are}
use Rattle.bank_clause.proofs.clause.BankClause.to_clause.Goals as goal

pub returns-clause-names : goal.returns-clause-names
returns-clause-names c =
    subst AreAssertions
    (sym (c.from_vec-2.ensures ∙ c.in_ok-names.ensures ∙ ap (map negative_of) c.as_slice-2.ensures.value))
    (assertions-are c.self.inside.names.items c.self.invariant.rise)
