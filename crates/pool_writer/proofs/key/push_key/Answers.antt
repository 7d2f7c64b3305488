use Rattle.std.proofs.Common.{ap, sym, ◌∙◌}
use Rattle.kernel_steps.specs.Keys.{key_text}
use Rattle.tstp_writer.proofs.AboutPrinted.TextLemmas.{five_added}
use Rattle.tstp_writer.proofs.AboutPrinted.PieceTexts.{added, three_joined}
use Rattle.pool_writer.proofs.KeyLemmas.{para_of_parts, factor_of_parts}
use Rattle.pool_writer.proofs.key.push_key.Goals as goal

pub returns-in_ok-push_place-in-Para : goal.returns-in_ok-push_place-in-Para
returns-in_ok-push_place-in-Para c =
    let key = c.in-Para in
    added c.bytes-in-Para-3.result _ _ _ _
    (para_of_parts key.first key.from key.from_side key.second key.into key.into_side key.place ∙ ap key_text (sym key.is))
    (five_added c.bytes-in-Para-3.result _ _ _ _ _ _ _ _ _ _ _
    (three_joined _ _ _ _ _ _ _ c.in_ok-bytes-in-Para.ensures.added c.in_ok-push_clause_side-in-Para.ensures c.in_ok-bytes-in-Para-2.ensures.added)
    c.in_ok-push_clause_side-in-Para-2.ensures c.in_ok-bytes-in-Para-3.ensures.added c.in_ok-push_place-in-Para.ensures c.bytes-in-Para-3.ensures.added)

pub returns-in_ok-push_chosen-in-Factor : goal.returns-in_ok-push_chosen-in-Factor
returns-in_ok-push_chosen-in-Factor c =
    let key = c.in-Factor in
    added c.bytes-in-Factor-3.result _ _ _ _
    (factor_of_parts key.clause key.becomes key.becomes_side key.other key.other_side ∙ ap key_text (sym key.is))
    (five_added c.bytes-in-Factor-3.result _ _ _ _ _ _ _ _ _ _ _ c.in_ok-bytes-in-Factor.ensures.added c.in_ok-push_clause_side-in-Factor.ensures
    c.in_ok-bytes-in-Factor-2.ensures.added c.in_ok-push_chosen-in-Factor.ensures.added c.bytes-in-Factor-3.ensures.added)
