use Rattle.tstp_writer.proofs.ReadAgain.ShownSymbols.{form-symbols-shown}
use Rattle.tstp_writer.proofs.laws.form_symbols_are_shown.Goals as goal

pub returns : goal.returns
returns c = form-symbols-shown
