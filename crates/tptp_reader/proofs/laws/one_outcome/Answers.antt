use Rattle.tptp_reader.proofs.AboutTexts.OutcomeLemmas.{read_or_fault, one_fault, one_reading}
use Rattle.tptp_reader.proofs.laws.one_outcome.Goals as goal

pub returns : goal.returns
returns c = record { read_or_fault = read_or_fault; one_fault = one_fault; one_reading = one_reading }
