use Rattle.std.proofs.Common.{rules, tests, ◌∙◌, ◌==◌, ap, length, not, unwrap_or, refl}
use Rattle.std.proofs.lemmas.Iterator.{YieldsList-from_slice}
use Rattle.std.proofs.lemmas.Iterator.Search.{position_from_yields_List}
use Rattle.tptp_token.specs.Pieces.{line_length}
use Rattle.tptp_token.proofs.AboutTexts.CountLemmas.{unwrap_or-position}
use Rattle.tptp_token.proofs.comment.line_length.Goals as goal

pub returns-clause-length : goal.returns-clause-length
unfolding line_length
returns-clause-length c =
    c.unwrap_or.ensures
    ∙ ap (λ o. unwrap_or o (length c.args.bytes.now))
    (position_from_yields_List (λ b. b == 10) _ _ _ c.position.ensures.ran (YieldsList-from_slice c.args.bytes.now cc)
    (λ x b q k. search (rules, tests)))
    ∙ unwrap_or-position (λ b. b == 10) (λ b. not (b == 10)) c.args.bytes.now (λ x. refl)
