use Rattle.std.proofs.Common.{◌∙◌, ap, refl}
use Rattle.outside.proofs.Untold.{ok_always, untold_stays}
use Rattle.outside.specs.Memory.{faults_after}
use Rattle.outside.specs.Real.{file_faults}
use Rattle.outside.proofs.file.FileLibraryLibrary.TheImpl.Goals as goal

pub load-tells : goal.load-tells
load-tells g c =
    record {
      within = c.ensures.within;
      bytes = ok_always c.result _ (λ _. tt);
      told = refl;
      later = c.ensures.later;
      cause = c.ensures.cause;
      failed = untold_stays c.args.name.now c.result;
      too_long = c.ensures.too_long;
      no_memory = λ h. c.ensures.count ∙ ap (λ r. faults_after r (file_faults c.args.self.now)) h;
    }
