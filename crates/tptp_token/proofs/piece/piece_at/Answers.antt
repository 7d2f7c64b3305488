use Rattle.std.proofs.Common.{◌+◌, ◌==◌, length, sym, ap, subst, ◌∙◌, ne_eqb}
use Rattle.std.proofs.lemmas.Bool.{and_left, and_right}
use Rattle.tptp_token.specs.Pieces.{StaysWithin}
use Rattle.tptp_token.specs.declared.piece.Piece.TheVariants.{Space}
use Rattle.tptp_token.proofs.AboutTexts.PieceLemmas.{blank-piece, line-piece, comment-piece, other-piece-of, piece-within}
use Rattle.tptp_token.proofs.piece.piece_at.Goals.{else-first-eq47-via-then-first-eq47+else-starts_with, else-first-eq47-via-else-first-eq47}
use Rattle.list_lemmas.proofs.Places.{take-rest}
use Rattle.tptp_token.proofs.piece.piece_at.Goals as goal

pub returns-then-is_blank-clause-piece : goal.returns-then-is_blank-clause-piece
returns-then-is_blank-clause-piece c = blank-piece _ _ (sym c.is_blank.ensures ∙ c.if-is_blank.true)

pub returns-then-first-eq37-clause-piece : goal.returns-then-first-eq37-clause-piece
returns-then-first-eq37-clause-piece c =
    ap (λ n. Space (n + 1)) c.line_length.ensures.length
    ∙ line-piece _ _ (sym c.is_blank.ensures ∙ c.if-is_blank.false) c.if-first-eq37.true

pub returns-then-starts_with-clause-piece : goal.returns-then-starts_with-clause-piece
returns-then-starts_with-clause-piece c =
    c.block_at.ensures
    ∙ comment-piece _ _ _ (sym c.is_blank.ensures ∙ c.if-is_blank.false) c.if-first-eq37.false c.if-first-eq47.true
    (sym c.starts_with.ensures ∙ c.if-starts_with.true) (take-rest c.args.rest.now 1)

pub returns-then-starts_with-clause-within : goal.returns-then-starts_with-clause-within
returns-then-starts_with-clause-within c =
    subst (StaysWithin (length c.args.rest.now + 1)) (sym (returns-then-starts_with-clause-piece c)) (piece-within _ _)

pub returns-clause-piece : goal.returns-clause-piece
returns-clause-piece c =
    c.token_at.ensures
    ∙ other-piece-of _ _ (sym c.is_blank.ensures ∙ c.if-is_blank.false) c.if-first-eq37.false
    (elim c.else-first-eq47.branch [
      | else-first-eq47-via-then-first-eq47+else-starts_with w ↦
          and_right (c.args.first == 47) _ (sym w.starts_with.ensures ∙ w.if-starts_with.false)
      | else-first-eq47-via-else-first-eq47 w ↦ and_left (c.args.first == 47) _ (ne_eqb c.args.first 47 w.if-first-eq47.false)
    ])

pub returns-clause-within : goal.returns-clause-within
returns-clause-within c =
    subst (StaysWithin (length c.args.rest.now + 1)) (sym (returns-clause-piece c)) (piece-within _ _)
