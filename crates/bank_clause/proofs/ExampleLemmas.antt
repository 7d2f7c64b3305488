-- The worked examples in a bank.
use Rattle.std.proofs.Common.{true, false, [], ◌∷◌, arith}
use Rattle.std.proofs.lemmas.List.Elements.{All-nil, All-cons}
use Rattle.plain_types.specs.Names.{negative_of}
use Rattle.term_bank.specs.Literal.{IsLiteralOf}
use Rattle.term_bank.specs.declared.literal.BankLit.{BankLit}
use Rattle.bank_clause.specs.Examples.{IsOfItsBank, StandsForRow}

pub stands_for_row : StandsForRow
stands_for_row bank first second third fourth has = λ j. record {
  literals =
      record { positive = true; left = has.atom j; right = has.truth j }
      ∷ record { positive = false; left = has.unknown j; right = has.constant j } ∷ [];
  names = negative_of 3 ∷ [];
}

pub is_of_its_bank : IsOfItsBank
is_of_its_bank bank first second third fourth has =
    let atom : BankLit = record { positive = true; left = first; right = second } in
    let other_than_a : BankLit = record { positive = false; left = third; right = fourth } in
    All-cons (IsLiteralOf bank) atom (other_than_a ∷ []) (has.are_of 0 first (omega arith), has.are_of 1 first (omega arith))
    (All-cons (IsLiteralOf bank) other_than_a [] (has.are_of 2 first (omega arith), has.are_of 3 first (omega arith)) (All-nil (IsLiteralOf bank)))
