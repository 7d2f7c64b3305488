use Rattle.commands.proofs.AboutRuns.BenchRowLemmas.{bench-row}
use Rattle.commands.proofs.AboutRuns.CheckRowLemmas.{checked-row}
use Rattle.commands.proofs.AboutRuns.DecideRowLemmas.{decide-row}
use Rattle.commands.proofs.AboutRuns.GroundRowLemmas.{ground-row}
use Rattle.commands.proofs.AboutRuns.ModelRowLemmas.{model-row}
use Rattle.commands.proofs.AboutRuns.ProveRowLemmas.{printed-row, saturated-row, part-saturated-row, gave-up-row}
use Rattle.commands.proofs.AboutRuns.RowLemmas.{theorem-row, form-fault-row, load-fault-row, lost-output-row, usage-row, memory-out-row, read-fault-row, complete-row}
use Rattle.commands.proofs.entry.run.Goals as goal

pub returns : goal.returns
returns g c =
    let is = c.run_words.ensures.run in
    let one = c.texts_have_one_answer.ensures.at_most_one in
    record {
      theorem = theorem-row _ _ _ _ is;
      printed = printed-row _ _ _ _ is;
      saturated = saturated-row _ _ _ _ is;
      part_saturated = part-saturated-row _ _ _ _ is;
      gave_up = gave-up-row _ _ _ _ is;
      checked = checked-row _ _ _ _ is one;
      model = model-row _ _ _ _ is one;
      listed = ground-row _ _ _ _ is one;
      decided = decide-row _ _ _ _ is one;
      bench = bench-row _ _ _ _ is;
      form_fault = form-fault-row _ _ _ _ is one;
      load_fault = load-fault-row _ _ _ _ is;
      lost_output = lost-output-row _ _ _ _ is;
      usage = usage-row _ _ _ _ is;
      memory_out = memory-out-row _ _ _ _ is;
      read_fault = read-fault-row _ _ _ _ is one;
      complete = complete-row _ _ _ _ is one;
      writes = c.run_words.ensures;
    }
