use Rattle.std.proofs.Common.{refl}
use Rattle.outside.proofs.Untold.{ok_always, err_always}
use Rattle.outside.proofs.stdout.StdoutSinkSink.TheImpl.Goals as goal

pub write-tells : goal.write-tells
write-tells g c =
    record {
      given = c.ensures.given;
      some = c.ensures.given.some;
      within = c.ensures.given.within;
      taken = ok_always c.result _ (λ _. refl);
      nothing = err_always c.result _ refl;
      stays = c.ensures.given.stays;
      later = c.ensures.later;
      cause = c.ensures.cause;
    }
