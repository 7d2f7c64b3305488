use Rattle.std.proofs.Common.{slice_index_or, refl, arith}
use Rattle.tptp_token.specs.declared.token.Kind.TheVariants.{Lower}
use Rattle.tptp_token.specs.declared.token.Token.{Token}
use Rattle.tptp_token.proofs.AboutTexts.TextTokenLemmas.{next-token}
use Rattle.tptp_token.proofs.text_token.TextToken.at.Goals as goal

pub returns-clause-next : goal.returns-clause-next
returns-clause-next c =
    let none : Token = record { kind = Lower; start = 0; end = 0 } in
    next-token _ _ c.args.index _ (slice_index_or c.args.tokens.now c.args.index none) none (omega arith) refl c.of.ensures
