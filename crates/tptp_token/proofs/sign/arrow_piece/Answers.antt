use Rattle.std.proofs.Common.{sym, ◌∙◌}
use Rattle.tptp_token.proofs.AboutLexemes.SignLemmas.{long_arrow, short_arrow, less_sign-alone, less_sign-before_tilde}
use Rattle.list_lemmas.proofs.Places.{take-rest}
use Rattle.tptp_token.proofs.sign.arrow_piece.Goals as goal

pub returns-then-not-starts_with_either : goal.returns-then-not-starts_with_either
returns-then-not-starts_with_either c = less_sign-alone _ (sym c.starts_with_either.ensures ∙ c.if-not-starts_with_either.true)

pub returns-then-starts_with : goal.returns-then-starts_with
returns-then-starts_with c =
    long_arrow _ _ (sym c.starts_with_either.ensures ∙ c.if-not-starts_with_either.false) (take-rest c.args.rest.now 1)
    (sym c.starts_with.ensures ∙ c.if-starts_with.true)

pub returns-then-starts_with-2 : goal.returns-then-starts_with-2
returns-then-starts_with-2 c =
    short_arrow _ _ (take-rest c.args.rest.now 1) (sym c.starts_with.ensures ∙ c.if-starts_with.false)
    (sym c.starts_with-2.ensures ∙ c.if-starts_with-2.true)

pub returns : goal.returns
returns c =
    less_sign-before_tilde _ _ (take-rest c.args.rest.now 1) (sym c.starts_with.ensures ∙ c.if-starts_with.false)
    (sym c.starts_with-2.ensures ∙ c.if-starts_with-2.false)
