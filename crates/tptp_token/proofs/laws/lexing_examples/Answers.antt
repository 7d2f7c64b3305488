use Rattle.std.proofs.Common.{refl, arith}
use Rattle.tptp_token.specs.Longest.{longest}
use Rattle.tptp_token.specs.Kinds.{is_token, kind_of}
use Rattle.tptp_token.specs.Pieces.{line_length, block_end, fills, piece_of}
use Rattle.tptp_token.specs.Lexing.{lexed_from, lexed_of}
use Rattle.tptp_token.proofs.laws.lexing_examples.Goals as goal

pub returns : goal.returns
unfolding longest is_token kind_of line_length block_end fills piece_of lexed_from lexed_of
returns c = record {
  four_tokens = refl;
  bad_underscore = refl;
  open_quote = refl;
  longest_signs = refl;
  empty_quote = refl;
  early_number = refl;
  endless_comment = refl;
  comments = refl;
  second_token = record { here = refl; within = omega arith };
}
