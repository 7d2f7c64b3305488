-- The grammar of includes as a machine that takes token after token: what may come next.
use Rattle.std.specs.Prelude.{◌≡◌, ◌≤◌, ◌++◌, ℕ, suc, ◌+◌, Option, None, Some, Bool, true, false, List, [], ◌∷◌, codes, drop, length, if◌then◌else◌}
use Rattle.tptp_token.specs.Lexemes.{Lexeme, lexeme, is_lexeme, is_mark}
use Rattle.tptp_token.specs.declared.token.Kind.TheVariants.{Lower, Mark}
use Rattle.tptp_tree.specs.Entries.{NamePhrase, name_lexeme, more_names_lexemes, include_end, names_meant}
use Rattle.tptp_token.specs.Words.{is_word, is_name}
use Rattle.tptp_problem.specs.declared.include.Awaited.{Awaited}
use Rattle.tptp_problem.specs.declared.include.Awaited.TheVariants.{Keyword, Open, File, AfterFile, OpenList, Name, AfterName, Close, Stop, Nothing}
use Rattle.tptp_problem.specs.declared.include.Ending.{Ending}
use Rattle.tptp_problem.specs.declared.include.Ending.TheVariants.{Whole, Stopped, Cut}

abbrev pub when : Bool → Awaited → Option Awaited → Option Awaited
when test next otherwise = if test then Some next else otherwise

-- the symbol that may come after a token, if that token may come
abbrev pub after : Awaited → Lexeme → Option Awaited
after Keyword t = when (is_lexeme Lower (codes "include") t) Open None
after Open t = when (is_mark (codes "(") t) File None
after File t = when (is_word t.kind) AfterFile None
after AfterFile t = when (is_mark (codes ")") t) Stop (when (is_mark (codes ",") t) OpenList None)
after OpenList t = when (is_mark (codes "[") t) Name None
after Name t = when (is_name t.kind t.bytes) AfterName None
after AfterName t = when (is_mark (codes ",") t) Name (when (is_mark (codes "]") t) Close None)
after Close t = when (is_mark (codes ")") t) Stop None
after Stop t = when (is_mark (codes ".") t) Nothing None
after Nothing t = None

abbrev pub is_nothing : Awaited → Bool
is_nothing Nothing = true
is_nothing Keyword = false
is_nothing Open = false
is_nothing File = false
is_nothing AfterFile = false
is_nothing OpenList = false
is_nothing Name = false
is_nothing AfterName = false
is_nothing Close = false
is_nothing Stop = false

-- after the token of an index, with what follows where more has to come
abbrev pub ended : ℕ → (Awaited → Ending) → Option Awaited → Ending
ended at more None = Stopped at
ended at more (Some next) = if is_nothing next then Whole (suc at) else more next

-- where the tokens end, the first of which has that index
abbrev pub ending_from : ℕ → Awaited → List Lexeme → Ending
ending_from at awaited [] = Cut
ending_from at awaited (t ∷ ts) = ended at (λ next. ending_from (suc at) next ts) (after awaited t)

-- ---- the names of a selection

-- the names that have still to be read from a token on, up to the bracket that closes the list
abbrev pub AreNamesAt : List Lexeme → ℕ → ℕ → List NamePhrase → Type 0
AreNamesAt tokens end at [] = end ≤ at
AreNamesAt tokens end at (n ∷ ns) =
    (drop at tokens ≡ name_lexeme n ∷ more_names_lexemes ns (lexeme Mark (codes "]") ∷ include_end (drop (end + 3) tokens)))
    × (end + 3 ≤ length tokens)

-- the names so far and those that have still to be read are those at the beginning
pub record StillReads (tokens : List Lexeme) (end first at : ℕ) (names : List (List ℕ)) : Type 0 where
  pub by :
      (all : List NamePhrase) → AreNamesAt tokens end first all
      → (rest : List NamePhrase) × AreNamesAt tokens end at rest × (names ++ names_meant rest ≡ names_meant all)
