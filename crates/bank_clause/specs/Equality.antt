-- Equality of bank clauses by numbers is an equivalence.
use Rattle.std.specs.Cmp.{IsEquivalence, on_equiv, and_equiv}
use Rattle.std.specs.Cmp.Lexicographic.{lists_equiv, nat_list_eq_equiv}
use Rattle.term_bank.specs.Equality.{same_numbers_equiv}
use Rattle.bank_clause.specs.Clause.{equal_by_numbers}

pub equal_by_numbers_equiv : IsEquivalence equal_by_numbers
equal_by_numbers_equiv = and_equiv (on_equiv (λ c. c.literals) (lists_equiv same_numbers_equiv)) (on_equiv (λ c. c.names) nat_list_eq_equiv)
