-- Equality by numbers is an equivalence, and what is equal by numbers is hashed alike.
use Rattle.std.specs.Prelude.{◌≡◌, Bool, true, false, ◌++◌}
use Rattle.std.specs.Bool.{beq}
use Rattle.std.specs.Cmp.{IsEquivalence, on_equiv, and_equiv, nat_eq_equiv, bool_eq_equiv}
use Rattle.std.specs.Hash as fed
use Rattle.std.proofs.Common.{ap, refl, sym, true≢false}
use Rattle.std.proofs.lemmas.Bool.{eqb-true}
use Rattle.term_bank.specs.Bank.{number, same_number}
use Rattle.term_bank.specs.Literal.{same_numbers}
use Rattle.term_bank.specs.declared.literal.BankLit.{BankLit}
use Rattle.term_bank.specs.declared.reference.TermRef.{TermRef}

-- what is hashed of a reference, and of a literal
abbrev pub reference_input : TermRef → fed.HashWrites
reference_input r = fed.u64 (number r)

abbrev pub literal_input : BankLit → fed.HashWrites
literal_input l = fed.bool l.positive ++ (reference_input l.left ++ reference_input l.right)

pub same_number_equiv : IsEquivalence same_number
same_number_equiv = on_equiv number nat_eq_equiv

pub same_numbers_equiv : IsEquivalence same_numbers
same_numbers_equiv =
    and_equiv (on_equiv (λ l. l.positive) bool_eq_equiv) (and_equiv (on_equiv (λ l. l.left) same_number_equiv) (on_equiv (λ l. l.right) same_number_equiv))

pub references_alike : fed.Alike same_number reference_input
references_alike = record { fed = λ r s h. ap fed.u64 (eqb-true (number r) (number s) h) }

signs_alike : fed.Alike beq fed.bool
signs_alike = record { fed = by }
  where
    by : (x y : Bool) → beq x y ≡ true → fed.bool x ≡ fed.bool y
    by true true h = refl
    by true false h = absurd (true≢false (sym h))
    by false true h = absurd (true≢false (sym h))
    by false false h = refl

pub literals_alike : fed.Alike same_numbers literal_input
literals_alike =
    fed.and-Alike (fed.on_Alike (λ l. l.positive) signs_alike)
    (fed.and-Alike (fed.on_Alike (λ l. l.left) references_alike) (fed.on_Alike (λ l. l.right) references_alike))
