use Rattle.std.proofs.Common.{ℕ, ◌<◌, ◌-◌, not, get_or, ap, sym, ◌∙◌, ⊎_elim, arith}
use Rattle.std.proofs.lemmas.Bool.{cases_lt}
use Rattle.unifier.proofs.AboutLayouts.PlaceLemmas.{ltb-is}
use Rattle.unifier.proofs.AboutClasses.CodeLemmas.{first-above, first-equal}
use Rattle.list_lemmas.proofs.Numbers.{not-less}
use Rattle.unifier.proofs.layout.is_first.Goals as goal

pub returns : goal.returns
returns c =
    let codes = c.args.codes.now in
    let i : ℕ = c.args.index in
    let some : 0 < i = omega arith in
    ⊎_elim
    (λ above.
    ltb-is (get_or codes (i - 1) 0) (get_or codes i 0) above
    ∙ sym (ap not (first-above codes c.requires.order i c.requires.inside some above)))
    (λ le.
    not-less (get_or codes (i - 1) 0) (get_or codes i 0) le
    ∙ sym (ap not (first-equal codes c.requires.order i c.requires.inside some le)))
    (cases_lt (get_or codes (i - 1) 0) (get_or codes i 0))
