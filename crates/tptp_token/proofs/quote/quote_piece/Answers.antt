use Rattle.std.proofs.Common.{◌+◌, inl, inr, sym, ap, ◌∙◌, arith}
use Rattle.tptp_token.specs.declared.piece.Piece.TheVariants.{Bad}
use Rattle.tptp_token.proofs.AboutLexemes.QuoteLemmas.{quote-open, quote-bad, quote-closed, closing}
use Rattle.tptp_token.proofs.quote.quote_piece.Goals.{else-filled-eq0-via-then-filled-eq0+else-quote-eq39, else-filled-eq0-via-else-filled-eq0}
use Rattle.list_lemmas.proofs.Places.{take-rest}
use Rattle.tptp_token.proofs.quote.quote_piece.Goals as goal

pub returns-then-is_cut_off : goal.returns-then-is_cut_off
returns-then-is_cut_off c =
    quote-open _ _ _ _ _ c.requires c.filled_length-filled.ensures.length (take-rest c.args.inside.now c.filled_length-filled.result)
    (sym c.is_cut_off.ensures ∙ c.if-is_cut_off.true)

pub returns-then-not-starts_with : goal.returns-then-not-starts_with
returns-then-not-starts_with c =
    quote-bad _ _ _ _ _ c.requires c.filled_length-filled.ensures.length (take-rest c.args.inside.now c.filled_length-filled.result)
    (sym c.is_cut_off.ensures ∙ c.if-is_cut_off.false) (inl (sym c.starts_with.ensures ∙ c.if-not-starts_with.true))

pub returns-then-quote-eq39 : goal.returns-then-quote-eq39
returns-then-quote-eq39 c =
    ap (λ k. Bad (k + 1)) (sym c.if-filled-eq0.true)
    ∙ quote-bad _ _ _ _ _ c.requires c.filled_length-filled.ensures.length (take-rest c.args.inside.now c.filled_length-filled.result)
    (sym c.is_cut_off.ensures ∙ c.if-is_cut_off.false)
    (inr (sym c.starts_with.ensures ∙ c.if-not-starts_with.false, c.if-filled-eq0.true, c.if-quote-eq39.true))

pub returns : goal.returns
returns c =
    quote-closed _ _ _ _ _ c.requires c.filled_length-filled.ensures.length (take-rest c.args.inside.now c.filled_length-filled.result)
    (sym c.starts_with.ensures ∙ c.if-not-starts_with.false)
    (elim c.else-filled-eq0.branch [
      | else-filled-eq0-via-then-filled-eq0+else-quote-eq39 w ↦ inr (closing c.args.kind c.args.quote c.requires w.if-quote-eq39.false)
      | else-filled-eq0-via-else-filled-eq0 w ↦ inl (omega (arith, w.if-filled-eq0.false))
    ])
