use Rattle.std.proofs.Common.{◌≡◌, true, false, sym, ◌∙◌}
use Rattle.tptp_source.proofs.AboutParts.ItemLemmas.{no_side}
use Rattle.tptp_source.proofs.items.side_of_word.Goals as goal

pub returns-then-not-is_empty : goal.returns-then-not-is_empty
returns-then-not-is_empty c =
    no_side c.args.word.now c.args.arguments.now (λ e. let t : true ≡ false = sym (c.is_empty.ensures.1 e) ∙ c.if-not-is_empty.true in cc)
