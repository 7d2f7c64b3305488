use Rattle.bank_clause.proofs.SidesLemmas.{known-literals-kept, literals-kept-on-the-way}
use Rattle.bank_clause.proofs.laws.kept_literals.Goals as goal

pub returns : goal.returns
returns c = record { all = known-literals-kept; on_the_way = literals-kept-on-the-way }
