use Rattle.std.proofs.Common.{◌∙◌, arith}
use Rattle.term_bank.specs.Literal.{same_numbers}
use Rattle.bank_clause.proofs.EqualityLemmas.{same-at}
use Rattle.bank_clause.proofs.equality.agree_literals.Goals as goal

pub agree_literal-requires-clause-equal : goal.agree_literal-requires-clause-equal
agree_literal-requires-clause-equal c =
    (λ j. same_numbers (c.index-first-index.is j) (c.index-second-index.is j))
    ∙ same-at c.args.first.now c.args.second.now c.loop-index.index c.index-first-index.result c.index-second-index.result
    c.requires.equal (omega (arith, c.loop-index-test.true))
