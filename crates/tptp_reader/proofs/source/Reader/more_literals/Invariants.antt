use Rattle.std.proofs.Common.{[], ◌∷◌, ◌-◌, length, codes}
use Rattle.tptp_token.specs.declared.token.Kind.TheVariants.{Connective}
use Rattle.tptp_token.specs.Lexemes.{lexeme}
use Rattle.tptp_tree.specs.Entries.{literal_lexemes, literal_meant}
use Rattle.tptp_tree.specs.Shape.{formula_of}
use Rattle.tptp_reader.specs.Machine.{maybe_more_literals}
use Rattle.tptp_reader.specs.Telling.{one, further_literals}
use Rattle.tptp_reader.proofs.AboutRuns.LoopLemmas.{SoFar}
use Rattle.tptp_reader.proofs.source.Reader.more_literals.Given as goal

abbrev pub invariant-loop-literals : goal.invariant-loop-literals
invariant-loop-literals l =
    SoFar literal_lexemes literal_meant (lexeme Connective (codes "|")) l.self further_literals (one maybe_more_literals) l.bound l.level l.at l.next (formula_of l.fn.first ∷ []) l.literals

abbrev pub decreases-loop-literals : goal.decreases-loop-literals
decreases-loop-literals l = length l.self.tokens.now - l.next
