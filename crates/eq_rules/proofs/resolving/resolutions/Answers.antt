use Rattle.std.proofs.Common.{None, sym, ⊎_elim}
use Rattle.std.proofs.lemmas.Bool.{true≢false}
use Rattle.std.proofs.lemmas.Result.{IfOk-weaker}
use Rattle.literal_selection.specs.Mode.{mode_of}
use Rattle.eq_rules.specs.Inferences.{AreInferencesOf, AreInferencesUpTo, is_resolution}
use Rattle.eq_rules.proofs.resolving.resolutions.Goals as goal

-- none are enough where no number is asked for
pub returns : goal.returns
returns c =
    IfOk-weaker c.resolutions_up_to.result (AreInferencesUpTo None (mode_of c.args.mode) c.args.given.now is_resolution)
    (AreInferencesOf (mode_of c.args.mode) c.args.given.now is_resolution) (λ found h. ⊎_elim (λ all. all) (λ few. absurd (true≢false (sym few.0))) h)
    c.resolutions_up_to.ensures
