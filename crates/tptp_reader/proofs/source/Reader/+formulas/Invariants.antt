use Rattle.std.proofs.Common.{◌≡◌, [], ◌∷◌, ◌+◌, ◌-◌, ◌*◌, length}
use Rattle.tptp_token.specs.declared.token.Kind.TheVariants.{Connective}
use Rattle.tptp_token.specs.Lexemes.{lexeme}
use Rattle.tptp_tree.specs.Spelling.{unit_lexemes, unit_meant}
use Rattle.tptp_tree.specs.Shape.{formula_of}
use Rattle.tptp_reader.specs.Machine.{maybe_more_units}
use Rattle.tptp_reader.specs.Telling.{one, further_units}
use Rattle.tptp_reader.proofs.AboutRuns.LoopLemmas.{SoFar}
use Rattle.tptp_reader.proofs.source.Reader.+formulas.Given as goal

abbrev pub decreases-formula : goal.decreases-formula
decreases-formula l = 4 * (length l.self.now.tokens.now - l.at) + 2

abbrev pub decreases-after_unit : goal.decreases-after_unit
decreases-after_unit l = 4 * (length l.self.now.tokens.now - l.after) + 1

abbrev pub decreases-operands : goal.decreases-operands
decreases-operands l = 4 * (length l.self.now.tokens.now - l.at) + 1

abbrev pub decreases-unit : goal.decreases-unit
decreases-unit l = 4 * (length l.self.now.tokens.now - l.at)

abbrev pub decreases-negated : goal.decreases-negated
decreases-negated l = 4 * (length l.self.now.tokens.now - l.at) - 1

abbrev pub decreases-in_brackets : goal.decreases-in_brackets
decreases-in_brackets l = 4 * (length l.self.now.tokens.now - l.at) - 1

abbrev pub decreases-quantified : goal.decreases-quantified
decreases-quantified l = 4 * (length l.self.now.tokens.now - l.at) + 1

abbrev pub invariant-operands-loop-operands : goal.invariant-operands-loop-operands
invariant-operands-loop-operands l =
    record {
      read : SoFar unit_lexemes unit_meant (lexeme Connective l.sign) l.self (further_units l.sign) (one (maybe_more_units l.sign)) l.fn.bound l.level l.at l.next (formula_of l.fn.read ∷ []) l.operands;
      kept : l.bound ≡ l.fn.bound;
    }

abbrev pub decreases-operands-loop-operands : goal.decreases-operands-loop-operands
decreases-operands-loop-operands l = length l.self.tokens.now - l.next
