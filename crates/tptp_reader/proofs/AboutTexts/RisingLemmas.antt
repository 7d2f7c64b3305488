-- Tokens rise, and end within the text.
use Rattle.std.proofs.Common.{◌≡◌, ◌≤◌, ℕ, zero, suc, ◌+◌, ◌-◌, List, [], ◌∷◌, length, arith}
use Rattle.tptp_token.specs.Pieces.{piece_of, StaysWithin}
use Rattle.tptp_token.specs.Lexing.{piece_length, with_piece, lexed_from, lexed_of}
use Rattle.tptp_token.specs.declared.piece.Piece.{Piece}
use Rattle.tptp_token.specs.declared.piece.Piece.TheVariants.{Token, Space, Bad, Unclosed}
use Rattle.tptp_token.specs.declared.token.Lexed.{Lexed}
use Rattle.tptp_token.proofs.AboutTexts.PieceLemmas.{piece-within}
use Rattle.tptp_reader.specs.Rising.{StandBetween, TokensRise}

rising-with :
    (low place end : ℕ) (bs : List ℕ) (piece : Piece) (rest : Lexed)
    → low ≤ place → place + (length bs + 1) ≡ end → StaysWithin (length bs + 1) piece
    → ((from : ℕ) → from ≤ place + 1 + (piece_length piece - 1) → piece_length piece - 1 ≤ length bs → StandBetween from end rest.tokens)
    → StandBetween low end (with_piece place piece rest).tokens
rising-with low place end bs (Token kind n) rest l e w more = (l, omega (arith, w.0), more (place + n) (omega (arith, w.0)) (omega (arith, w.1)))
rising-with low place end bs (Space n) rest l e w more = more low (omega (arith, l)) (omega (arith, w.1))
rising-with low place end bs (Bad offset) rest l e w more = omega (arith, l, e)
rising-with low place end bs Unclosed rest l e w more = omega (arith, l, e)

rising-from :
    (low place skipped end : ℕ) (bs : List ℕ) → low ≤ place + skipped → skipped ≤ length bs → place + length bs ≡ end
    → StandBetween low end (lexed_from place skipped bs).tokens
unfolding lexed_from
rising-from low place skipped end [] l s e = omega (arith, l, s, e)
rising-from low place (suc skipped) end (b ∷ bs) l s e = rising-from low (place + 1) skipped end bs (omega (arith, l)) (omega (arith, s)) (omega (arith, e))
rising-from low place zero end (b ∷ bs) l s e =
    rising-with low place end bs (piece_of b bs) (lexed_from (place + 1) (piece_length (piece_of b bs) - 1) bs) (omega (arith, l)) (omega (arith, e)) (piece-within b bs)
    (λ from f g. rising-from from (place + 1) (piece_length (piece_of b bs) - 1) end bs f g (omega (arith, e)))

pub tokens-rise : TokensRise
unfolding lexed_of
tokens-rise bytes = rising-from 0 0 0 (length bytes) bytes (omega arith) (omega arith) (omega arith)
