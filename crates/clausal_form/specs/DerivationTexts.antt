-- Derivations as texts: the lines that a text's tokens spell, one after another, and the answer on a text.
use Rattle.std.specs.Prelude.{◌≡◌, ◌⊎◌, ⊤, ℕ, ◌+◌, true, List, [], ◌∷◌, ◌++◌, length, Option, None}
use Rattle.std.specs.List.{AllByRecursion}
use Rattle.tptp_token.specs.Lexemes.{Lexeme, lexemes_of}
use Rattle.tptp_token.specs.Lexing.{lexed_of}
use Rattle.tptp_tree.specs.Entries.{AnnotatedPhrase, is_right_annotated, annotated_lexemes, IsAnnotatedOf}
use Rattle.tptp_tree.specs.Causes.{Refusal, annotated_causes}
use Rattle.tptp_tree.specs.declared.limits.TheConstants.{MOST_DERIVATION_NESTING}
use Rattle.tptp_tree.specs.declared.problem.Annotated.{Annotated}
use Rattle.tptp_source.specs.Sources.{SpellsSource}
use Rattle.clausal_form.specs.DerivationLine.{LineTree, Taken}
use Rattle.clausal_form.specs.DerivationParts.{setting_of}
use Rattle.clausal_form.specs.DerivationCauses.{Cause, text}
use Rattle.clausal_form.specs.DerivationLines.{all_taken, refused_at, lines_verdict, Answer, accepted, refused_line, verdict_on_lines}

-- ---- lines

-- The phrase of an annotated formula is that of a line: no token of it is at fault within the levels, and its notes spell the source.
pub record IsLineOf (p : AnnotatedPhrase) (t : LineTree) : Type 0 where
  pub right : is_right_annotated p ≡ true
  pub faultless : AllByRecursion (λ (c : Option Refusal). c ≡ None) (annotated_causes MOST_DERIVATION_NESTING p)
  pub entry : IsAnnotatedOf p t.entry
  pub source : SpellsSource p.notes t.source

-- phrases of annotated formulas are those of lines, one for one
abbrev pub AreLinesOf : List AnnotatedPhrase → List LineTree → Type 0
AreLinesOf [] [] = ⊤
AreLinesOf [] (t ∷ ts) = ⊥
AreLinesOf (p ∷ ps) [] = ⊥
AreLinesOf (p ∷ ps) (t ∷ ts) = IsLineOf p t × AreLinesOf ps ts

-- the tokens of phrases, one after another, in front of those that follow them
abbrev pub phrases_lexemes : List AnnotatedPhrase → List Lexeme → List Lexeme
phrases_lexemes [] rest = rest
phrases_lexemes (p ∷ ps) rest = annotated_lexemes p (phrases_lexemes ps rest)

-- the tokens spell the lines, and the rest follows
pub record SpellsLines (tokens : List Lexeme) (ts : List LineTree) (rest : List Lexeme) : Type 0 where
  pub phrases : List AnnotatedPhrase
  pub spelled : tokens ≡ phrases_lexemes phrases rest
  pub lines : AreLinesOf phrases ts

-- ---- texts

-- the tokens up to the text's first fault
abbrev pub text_tokens : List ℕ → List Lexeme
text_tokens bytes = lexemes_of bytes (lexed_of bytes).tokens

-- no token and no fault is left
abbrev pub IsEnd : List ℕ → List Lexeme → Type 0
IsEnd bytes rest = (rest ≡ []) × ((lexed_of bytes).fault ≡ None)

-- no line can be read there
abbrev pub NoLineBegins : List Lexeme → Type 0
NoLineBegins tokens = (t : LineTree) (rest : List Lexeme) → SpellsLines tokens (t ∷ []) rest → ⊥

-- the text spells the lines, one after another, and nothing else
abbrev pub SpellsDerivation : List ℕ → List LineTree → Type 0
SpellsDerivation bytes ts = (rest : List Lexeme) × SpellsLines (text_tokens bytes) ts rest × IsEnd bytes rest

-- An accepted derivation, with its number of lines: the text spells lines that are accepted.
abbrev pub IsAcceptedDerivation : List Annotated → List ℕ → ℕ → Type 0
IsAcceptedDerivation problem bytes count =
    (ts : List LineTree) × SpellsDerivation bytes ts × (verdict_on_lines problem ts ≡ accepted count)

-- ---- the fault after lines that are taken, and its line

-- the text ends, without the empty clause
abbrev pub EndsEarly : List Annotated → List ℕ → List LineTree → List Lexeme → ℕ → Cause → Type 0
EndsEarly problem bytes before rest number cause = IsEnd bytes rest × (verdict_on_lines problem before ≡ refused_line number cause)

-- the text goes on, and no line can be read
abbrev pub IsUnread : List ℕ → List LineTree → List Lexeme → ℕ → Cause → Type 0
IsUnread bytes before rest number cause =
    (IsEnd bytes rest → ⊥) × NoLineBegins rest × (number ≡ length before + 1) × (cause ≡ text)

-- a further line can be read, and is refused
abbrev pub IsRefusedLine : List Annotated → List LineTree → List Lexeme → ℕ → Cause → Type 0
IsRefusedLine problem before rest number cause =
    (t : LineTree) × (more : List Lexeme) × SpellsLines rest (t ∷ []) more
    × (lines_verdict (setting_of problem) (before ++ t ∷ []) ≡ refused_at number cause)

-- A derivation that isn't accepted, with its first bad line and the first cause there: the text begins with lines that are taken, and
-- after them something is wrong.
pub record IsRefusedDerivation (problem : List Annotated) (bytes : List ℕ) (number : ℕ) (cause : Cause) : Type 0 where
  pub before : List LineTree
  pub rest : List Lexeme
  pub spelled : SpellsLines (text_tokens bytes) before rest
  pub taken : Taken
  pub all_before : lines_verdict (setting_of problem) before ≡ all_taken taken
  pub wrong :
      EndsEarly problem bytes before rest number cause
      ⊎ (IsUnread bytes before rest number cause ⊎ IsRefusedLine problem before rest number cause)

-- the answer on a text: accepted with its number of lines, or refused at a line, counted from 1, for a cause
abbrev pub IsAnswerOn : List Annotated → List ℕ → Answer → Type 0
IsAnswerOn problem bytes (accepted count) = IsAcceptedDerivation problem bytes count
IsAnswerOn problem bytes (refused_line number cause) = IsRefusedDerivation problem bytes number cause
