use Rattle.std.proofs.Common.{[], ◌+◌, ◌-◌, ◌*◌, length, codes}
use Rattle.tptp_token.specs.declared.token.Kind.TheVariants.{Mark}
use Rattle.tptp_token.specs.Lexemes.{lexeme}
use Rattle.tptp_tree.specs.Spelling.{term_lexemes, term_meant}
use Rattle.tptp_reader.specs.Machine.{arguments, more_arguments}
use Rattle.tptp_reader.specs.Telling.{one}
use Rattle.tptp_reader.proofs.AboutRuns.LoopLemmas.{SoFar}
use Rattle.tptp_reader.proofs.source.Reader.+terms.Given as goal

abbrev pub decreases-term : goal.decreases-term
decreases-term l = 2 * (length l.self.now.tokens.now - l.at)

abbrev pub decreases-arguments : goal.decreases-arguments
decreases-arguments l = 2 * (length l.self.now.tokens.now - l.at) + 1

abbrev pub decreases-bracketed : goal.decreases-bracketed
decreases-bracketed l = 2 * (length l.self.now.tokens.now - l.at) + 1

abbrev pub invariant-bracketed-loop-terms : goal.invariant-bracketed-loop-terms
invariant-bracketed-loop-terms l =
    SoFar term_lexemes term_meant (lexeme Mark (codes ",")) l.self arguments (one more_arguments) l.bound l.level l.at l.next [] l.terms

abbrev pub decreases-bracketed-loop-terms : goal.decreases-bracketed-loop-terms
decreases-bracketed-loop-terms l = length l.self.tokens.now - l.next
