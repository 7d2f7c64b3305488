use Rattle.std.proofs.Common.{true, codes, refl, arith}
use Rattle.tptp_token.specs.Longest.{longest}
use Rattle.tptp_token.specs.Kinds.{is_token, kind_of}
use Rattle.tptp_token.specs.Pieces.{line_length, block_end, fills, piece_of}
use Rattle.tptp_token.specs.Lexing.{lexed_from, lexed_of}
use Rattle.tptp_token.specs.Words.{bare}
use Rattle.tptp_tree.specs.Spelling.{word_with, no_phrases, equation_atom, negated, atomic, alone}
use Rattle.tptp_tree.proofs.laws.level_examples.Goals as goal

pub returns : goal.returns
unfolding longest is_token kind_of line_length block_end fills piece_of lexed_from lexed_of
returns c = record {
  negated_equation = refl;
  bare_equation = (
    alone (negated (atomic (equation_atom true (word_with (bare (codes "a")) no_phrases) (word_with (bare (codes "a")) no_phrases)))),
    record { whole = refl; tokens = refl },
    refl,
    omega arith,
  );
  negated_quantifier = refl;
  negated_twice = refl;
  joined_operand = refl;
  written_brackets = refl;
  written_clause = refl;
}
