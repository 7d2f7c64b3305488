use Rattle.term_bank.proofs.rows.Shown.again.Goals as goal

pub returns : goal.returns
returns c = λ j. record {
  rows = record { marker = record {}; of = c.again.ensures.0 j; value = c.again.ensures.1 j };
  row = record { marker = record {}; of = c.again-2.ensures.0 j; value = c.again-2.ensures.1 j };
  item = record { marker = record {}; of = c.again-3.ensures.0 j; value = c.again-3.ensures.1 j };
}
