use Rattle.std.proofs.Common.{◌≡◌, ℕ, true≢false, true, false, [], ap, arith}
use Rattle.std.specs.Option.{unwrap_or}
use Rattle.fol_base.specs.Examples.{a}
use Rattle.term_bank.specs.declared.literal.BankLit.{BankLit}
use Rattle.term_bank.specs.Examples.{under}
use Rattle.std.proofs.lemmas.List.Elements.{All-head}
use Rattle.bank_clause.proofs.ExampleLemmas.{stands_for_row, is_of_its_bank}
use Rattle.bank_clause.proofs.laws.examples.Goals as goal

pub returns-clause-stands_for : goal.returns-clause-stands_for
returns-clause-stands_for c = stands_for_row

pub returns-clause-of_bank : goal.returns-clause-of_bank
returns-clause-of_bank c = is_of_its_bank

pub returns-clause-positive : goal.returns-clause-positive
returns-clause-positive c h = absurd (true≢false (All-head (λ n. n.positive ≡ false) _ [] h.negative))

pub returns-clause-not_known : goal.returns-clause-not_known
returns-clause-not_known c h =
    let any : BankLit = record { positive = true; left = under 0 a; right = under 0 a } in
    let wrong : ◌≡◌ {A = ℕ} 3 7 = ap (λ o. unwrap_or o 0) (h 1 any (omega arith)).1 in absurd (omega arith)
