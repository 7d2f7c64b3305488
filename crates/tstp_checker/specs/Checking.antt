-- The answers of taking one line of a derivation, and of checking the whole.
use Rattle.std.specs.Prelude.{◌≡◌, ◌⊎◌, ⊤, ℕ, ◌+◌, ◌<◌, ◌≤◌, List, [], ◌∷◌, length, drop, Option, None, Some, if◌then◌else◌}
use Rattle.tptp_token.specs.Lexing.{lexed_of}
use Rattle.tptp_token.specs.Lexemes.{Lexeme}
use Rattle.tptp_token.specs.declared.token.LexFault.{LexFault}
use Rattle.tptp_tree.specs.declared.problem.Annotated.{Annotated}
use Rattle.clausal_form.specs.DerivationLine.{LineTree, NamedLine, Taken}
use Rattle.clausal_form.specs.DerivationParts.{Setting}
use Rattle.clausal_form.specs.DerivationCauses.{Cause as LineCause, text, no_empty_clause}
use Rattle.clausal_form.specs.DerivationLines.{all_taken, refused_at, then_line, ends_empty, Answer, accepted, refused_line}
use Rattle.clausal_form.specs.DerivationTexts.{text_tokens, SpellsLines, NoLineBegins, IsRefusedDerivation}
use Rattle.tstp_checker.specs.Causes.{cause_meant}
use Rattle.tstp_checker.specs.declared.derivation.CheckFault.{CheckFault}
use Rattle.tstp_checker.specs.declared.derivation.CheckFault.TheVariants.{NoMemory, Refused}

-- the line and cause of a refusal pass a test; out of memory may be answered anywhere
abbrev pub IsRefusalWhere : (ℕ → LineCause → Type 0) → CheckFault → Type 0
IsRefusalWhere is NoMemory = ⊤
IsRefusalWhere is (Refused line cause) = is line (cause_meant cause)

-- The line at the token `first` is taken after those before it. The token `next` is the first after it.
pub record IsTakenAt (bytes : List ℕ) (s : Setting) (first : ℕ) (before : Taken) (next : ℕ) (after : Taken) : Type 0 where
  pub tree : LineTree
  pub spelled : SpellsLines (drop first (text_tokens bytes)) (tree ∷ []) (drop next (text_tokens bytes))
  pub taken : then_line s (all_taken before) tree ≡ all_taken after
  pub onward : first < next
  pub within : next ≤ length (lexed_of bytes).tokens

-- no line can be read at that token, or the one that can be read is refused
abbrev pub IsRefusedAt : List ℕ → Setting → ℕ → Taken → ℕ → LineCause → Type 0
IsRefusedAt bytes s first before number cause =
    NoLineBegins (drop first (text_tokens bytes)) × (number ≡ length before.lines + 1) × (cause ≡ text)
    ⊎ (tree : LineTree) × (more : List Lexeme) × SpellsLines (drop first (text_tokens bytes)) (tree ∷ []) more
    × (then_line s (all_taken before) tree ≡ refused_at number cause)

-- the answer after the last token, by the fault of the tokens and the lines that are taken
abbrev pub ending_answer : Option LexFault → List NamedLine → Answer
ending_answer (Some fault) lines = refused_line (length lines + 1) text
ending_answer None lines =
    if ends_empty lines then accepted (length lines) else refused_line (length lines) no_empty_clause

-- the answer on a derivation that isn't accepted: its first bad line, by its number from 1, and the first cause there
abbrev pub IsCheckFault : List Annotated → List ℕ → CheckFault → Type 0
IsCheckFault problem bytes = IsRefusalWhere (IsRefusedDerivation problem bytes)
