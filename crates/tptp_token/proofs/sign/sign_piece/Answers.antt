use Rattle.std.proofs.Common.{sym, ◌∙◌, ap, arith}
use Rattle.tptp_token.specs.Pieces.{plain_piece}
use Rattle.tptp_token.proofs.AboutLexemes.SignLemmas.{not_equal, equal_sign, negation_sign, lone_sign, other_sign, no_sign}
use Rattle.tptp_token.proofs.sign.sign_piece.Goals as goal

pub returns-in-126 : goal.returns-in-126
returns-in-126 c =
    c.connective.ensures ∙ negation_sign c.args.rest.now _ c.starts_with_either.ensures
    ∙ ap (λ b. plain_piece b c.args.rest.now) (sym c.in-126.is)

pub returns-in-61 : goal.returns-in-61
returns-in-61 c =
    c.connective-in-61.ensures ∙ equal_sign c.args.rest.now _ c.starts_with.ensures
    ∙ ap (λ b. plain_piece b c.args.rest.now) (sym c.in-61.is)

pub returns-in-33 : goal.returns-in-33
returns-in-33 c =
    c.connective-in-33.ensures ∙ not_equal c.args.rest.now _ c.starts_with-in-33.ensures
    ∙ ap (λ b. plain_piece b c.args.rest.now) (sym c.in-33.is)

pub returns-in_default : goal.returns-in_default
returns-in_default c =
    c.connective-in_default.ensures ∙ lone_sign c.args.first c.args.rest.now (sym c.is_lone_connective.ensures ∙ c.if-is_lone_connective.true)

pub returns-in_default-2 : goal.returns-in_default-2
returns-in_default-2 c =
    other_sign _ _ c.requires (λ e. omega arith) (λ e. omega arith) (λ e. omega arith) (λ e. omega arith)
    (sym c.is_lone_connective.ensures ∙ c.if-is_lone_connective.false) (sym c.is_other_sign.ensures ∙ c.if-is_other_sign.true)

pub returns-in_default-3 : goal.returns-in_default-3
returns-in_default-3 c =
    no_sign _ _ c.requires (λ e. omega arith) (λ e. omega arith) (λ e. omega arith) (λ e. omega arith)
    (sym c.is_lone_connective.ensures ∙ c.if-is_lone_connective.false) (sym c.is_other_sign.ensures ∙ c.if-is_other_sign.false)
