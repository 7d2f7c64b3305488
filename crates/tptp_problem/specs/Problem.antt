-- The problem of a library: the formulas of a file after its includes and selections, in reading order, or the first fault.
-- A file is read entry by entry; an include's file is loaded and read where the include stands. So for each language of
-- annotated formulas; a problem's is that of `fof` and `cnf`.
use Rattle.std.specs.Prelude.{◌≡◌, ◌≤◌, ◌<◌, ◌⊎◌, ⊤, ℕ, zero, suc, ◌+◌, ◌*◌, Bool, true, false, ◌&&◌, ◌||◌, List, [], ◌∷◌, ◌++◌, length, drop, Option, None, Some, slice_get}
use Rattle.tptp_problem.specs.declared.limits.TheConstants.{MOST_INCLUDES}
use Rattle.outside.specs.Library.{Holdings, FoundMore}
use Rattle.tptp_token.specs.Lexemes.{Lexeme, lexemes_of}
use Rattle.tptp_token.specs.Lexing.{lexed_of}
use Rattle.tptp_token.specs.declared.token.Token.{Token}
use Rattle.tptp_token.specs.declared.token.LexFault.{LexFault}
use Rattle.tptp_token.specs.Words.{Word, name_of}
use Rattle.tptp_tree.specs.Entries.{NamePhrase, names_meant}
use Rattle.tptp_reader.specs.Faults.{IsEndFault}
use Rattle.tptp_reader.specs.declared.cause.ReadCause.{ReadCause}
use Rattle.tptp_reader.specs.declared.cause.ReadCause.TheVariants.{Syntax, SecondConjecture, SelectionMissing, IncludeDepth, TooLong, Load}
use Rattle.tptp_problem.specs.Files.{base_of, loaded_name, room_after, MayGive}
use Rattle.tptp_problem.specs.Includes.{is_include, IsInclude, StopsInclude, CutsInclude}
use Rattle.tptp_problem.specs.Languages.{PlacedTree, Language, selected, missing, counts, conjecture_begun, begun_counts}
use Rattle.tptp_problem.specs.Formulas.{Placed, annotated_formulas}

-- ---- the state of the reading

-- a file under the name under which it was loaded, with the selections around it, the outermost first
pub record LoadedFile : Type 0 where
  pub name : List ℕ
  pub bytes : List ℕ
  pub around : List (List (List ℕ))

abbrev pub tokens_of : LoadedFile → List Token
tokens_of source = (lexed_of source.bytes).tokens

abbrev pub lexemes : LoadedFile → List Lexeme
lexemes source = lexemes_of source.bytes (tokens_of source)

-- the place at which a token begins; 0 after the last one
abbrev pub start_of : Option Token → ℕ
start_of None = 0
start_of (Some token) = token.start

abbrev pub place_of : LoadedFile → ℕ → ℕ
place_of source index = start_of (slice_get (tokens_of source) index)

-- the progress of the reading: the bytes of the files that were loaded, and whether a conjecture that counts was met
pub record Progress : Type 0 where
  pub loaded : ℕ
  pub met : Bool

abbrev pub with_file : List ℕ → Progress → Progress
with_file bytes progress = record { loaded = progress.loaded + length bytes; met = progress.met }

-- ---- faults that no language has a part in: a cause, the name of a file and a place in it

-- at the first token with which no include goes on, or at the end of the tokens
abbrev pub IsIncludeSyntaxFault : LoadedFile → ℕ → ReadCause → List ℕ → ℕ → Type 0
IsIncludeSyntaxFault source first cause file place =
    (file ≡ source.name)
    × (((index : ℕ) × StopsInclude (lexemes source) first index × (cause ≡ Syntax) × (place ≡ place_of source index))
    ⊎ CutsInclude (lexemes source) first × IsEndFault (lexed_of source.bytes).fault (length source.bytes) cause place)

-- after the last token
pub record IsTextEndFault (source : LoadedFile) (first : ℕ) (cause : ReadCause) (file : List ℕ) (place : ℕ) : Type 0 where
  pub ended : length (tokens_of source) ≤ first
  pub fault : LexFault
  pub found : (lexed_of source.bytes).fault ≡ Some fault
  pub told : IsEndFault (Some fault) (length source.bytes) cause place
  pub file_is : file ≡ source.name

-- A file over the limit, or one that isn't loaded: a load may always fail.
abbrev pub IsLoadFault : Option Holdings → ℕ → List ℕ → Progress → ReadCause → List ℕ → ℕ → Type 0
IsLoadFault told found name start cause file place =
    (file ≡ name) × (place ≡ 0)
    × ((cause ≡ TooLong) × FoundMore told found name (room_after start.loaded) ⊎ (cause ≡ Load))

module _ {Tree Cause : Type 0} (language : Language Tree Cause) where
  -- ---- entries

  abbrev pub with_formula : List (List (List ℕ)) → PlacedTree Tree → Progress → Progress
  with_formula around f progress =
      record { loaded = progress.loaded; met = progress.met || (language.is_conjecture f.tree && counts around (language.name f.tree)) }

  -- an entry that was read: the formulas that it gives, the progress after it, and the token after it
  pub record Step : Type 0 where
    pub formulas : List (PlacedTree Tree)
    pub progress : Progress
    pub next : ℕ

  -- a second conjecture stands at a token, by the role word after it
  abbrev pub is_second : LoadedFile → ℕ → Progress → Bool
  is_second source first progress =
      progress.met && begun_counts source.around (conjecture_begun language.word (drop first (lexemes source)))

  pub record IsFormulaStep (source : LoadedFile) (first : ℕ) (progress : Progress) (step : Step) : Type 0 where
    pub single : is_second source first progress ≡ false
    pub formula : PlacedTree Tree
    pub read : language.IsRead source.name source.bytes first formula step.next
    pub formulas_are : step.formulas ≡ formula ∷ []
    pub progress_is : step.progress ≡ with_formula source.around formula progress

  -- a relation for the reading of the file of a name, within selections: from the progress before it to its formulas and the progress after it
  abbrev pub Reads : Type 1
  Reads = List ℕ → List (List (List ℕ)) → Progress → List (PlacedTree Tree) → Progress → Type 0

  -- The file is read whole; then each selected name is one of its formulas', and these are taken.
  pub record IsIncludeStep (base : List ℕ) (reads : Reads) (source : LoadedFile) (first : ℕ) (progress : Progress) (step : Step) : Type 0 where
    pub file : Word
    pub names : List NamePhrase
    pub spelled : IsInclude (lexemes source) first file names step.next
    pub formulas : List (PlacedTree Tree)
    pub read : reads (loaded_name base (name_of file)) (source.around ++ names_meant names ∷ []) progress formulas step.progress
    pub present : missing language (names_meant names) formulas ≡ None
    pub taken : step.formulas ≡ selected language (names_meant names) formulas

  abbrev pub IsStepBy : List ℕ → Reads → LoadedFile → Bool → ℕ → Progress → Step → Type 0
  IsStepBy base reads source true first progress step = IsIncludeStep base reads source first progress step
  IsStepBy base reads source false first progress step = IsFormulaStep source first progress step

  -- the entry that begins at a token
  abbrev pub IsStep : List ℕ → Reads → LoadedFile → ℕ → Progress → Step → Type 0
  IsStep base reads source first progress step =
      (first < length (tokens_of source)) × IsStepBy base reads source (is_include (drop first (lexemes source))) first progress step

  -- entries, one after the other
  abbrev pub AreSteps : List ℕ → Reads → LoadedFile → ℕ → Progress → List Step → Type 0
  AreSteps base reads source first progress [] = ⊤
  AreSteps base reads source first progress (s ∷ ss) =
      IsStep base reads source first progress s × AreSteps base reads source s.next s.progress ss

  -- the entry that begins at a token adds to the list of formulas
  pub record Adds (is : Step → Type 0) (before after : List (PlacedTree Tree)) (progress : Progress) (next : ℕ) : Type 0 where
    pub added : List (PlacedTree Tree)
    pub joined : after ≡ before ++ added
    pub step : is (record { formulas = added; progress = progress; next = next })

  -- the token after entries, the first of which begins at a token
  abbrev pub next_behind : ℕ → List Step → ℕ
  next_behind first [] = first
  next_behind first (s ∷ ss) = next_behind s.next ss

  abbrev pub progress_behind : Progress → List Step → Progress
  progress_behind progress [] = progress
  progress_behind progress (s ∷ ss) = progress_behind s.progress ss

  abbrev pub formulas_along : List Step → List (PlacedTree Tree)
  formulas_along [] = []
  formulas_along (s ∷ ss) = s.formulas ++ formulas_along ss

  -- ---- files

  -- The entries lead after the last token, and no fault of the tokens stands there.
  pub record ReadsText (base : List ℕ) (reads : Reads) (source : LoadedFile) (start : Progress) (formulas : List (PlacedTree Tree)) (progress : Progress) : Type 0 where
    pub steps : List Step
    pub are : AreSteps base reads source 0 start steps
    pub ended : length (tokens_of source) ≤ next_behind 0 steps
    pub clean : (lexed_of source.bytes).fault ≡ None
    pub formulas_are : formulas ≡ formulas_along steps
    pub progress_is : progress ≡ progress_behind start steps

  -- the file of a name is loaded and its text read
  pub record Loads (told : Option Holdings) (base : List ℕ) (reads : Reads) (name : List ℕ) (around : List (List (List ℕ))) (start : Progress) (formulas : List (PlacedTree Tree)) (progress : Progress) : Type 0 where
    pub bytes : List ℕ
    pub given : MayGive told name start.loaded bytes
    pub text : ReadsText base reads (record { name = name; bytes = bytes; around = around }) (with_file bytes start) formulas progress

  -- the file of a name is loaded and its text read, if files are nested at most `depth` deep, itself counted
  abbrev pub ReadsNamed : Option Holdings → List ℕ → ℕ → Reads
  ReadsNamed told base zero = λ name around start formulas progress. ⊥
  ReadsNamed told base (suc depth) = Loads told base (ReadsNamed told base depth)

  -- A file gives these formulas.
  abbrev pub IsWhole : Option Holdings → List ℕ → Option (List ℕ) → List (PlacedTree Tree) → Type 0
  IsWhole told file root formulas =
      (progress : Progress) × ReadsNamed told (base_of root file) (suc MOST_INCLUDES) file [] (record { loaded = 0; met = false }) formulas progress

  -- ---- faults

  -- a fault that no language has a part in, by its cause in this one
  abbrev pub InLanguage : (ReadCause → List ℕ → ℕ → Type 0) → Cause → List ℕ → ℕ → Type 0
  InLanguage is cause file place = (known : ReadCause) × (cause ≡ language.cause known) × is known file place

  abbrev pub Faults : Type 1
  Faults = List ℕ → List (List (List ℕ)) → Progress → Cause → List ℕ → ℕ → Type 0

  -- in the entry that begins at a token
  abbrev pub EntryFaults : Type 1
  EntryFaults = ℕ → Progress → Cause → List ℕ → ℕ → Type 0

  -- a second conjecture is refused before any fault after its role
  abbrev pub IsFormulaFault : LoadedFile → Bool → EntryFaults
  IsFormulaFault source true first progress cause file place =
      (cause ≡ language.cause SecondConjecture) × (file ≡ source.name) × (place ≡ place_of source (first + 4))
  IsFormulaFault source false first progress cause file place =
      (file ≡ source.name) × language.IsFault source.bytes first cause place

  -- The file was read, and no formula of it has one of the selected names. The names stand after `include ( FILE , [`, each but
  -- the first after a comma.
  pub record IsMissing (source : LoadedFile) (first : ℕ) (names : List (List ℕ)) (reads : List (PlacedTree Tree) → Progress → Type 0) (cause : Cause) (file : List ℕ) (place : ℕ) : Type 0 where
    pub formulas : List (PlacedTree Tree)
    pub behind : Progress
    pub read : reads formulas behind
    pub index : ℕ
    pub missing_is : missing language names formulas ≡ Some index
    pub cause_is : cause ≡ language.cause SelectionMissing
    pub file_is : file ≡ source.name
    pub place_is : place ≡ place_of source (first + 5 + 2 * index)

  -- a fault in the file of a whole include, or after that file
  pub record IsIncludedFault (base : List ℕ) (reads : Reads) (faults : Faults) (source : LoadedFile) (first : ℕ) (progress : Progress) (cause : Cause) (file : List ℕ) (place : ℕ) : Type 0 where
    pub word : Word
    pub names : List NamePhrase
    pub next : ℕ
    pub spelled : IsInclude (lexemes source) first word names next
    pub why :
        faults (loaded_name base (name_of word)) (source.around ++ names_meant names ∷ []) progress cause file place
        ⊎ IsMissing source first (names_meant names)
        (reads (loaded_name base (name_of word)) (source.around ++ names_meant names ∷ []) progress) cause file place

  -- an include at fault, if files may be nested `depth` deep below it
  abbrev pub IsIncludeFault : ℕ → List ℕ → Reads → Faults → LoadedFile → EntryFaults
  IsIncludeFault zero base reads faults source first progress cause file place =
      (cause ≡ language.cause IncludeDepth) × (file ≡ source.name) × (place ≡ place_of source first)
  IsIncludeFault (suc depth) base reads faults source first progress cause file place =
      InLanguage (IsIncludeSyntaxFault source first) cause file place
      ⊎ IsIncludedFault base reads faults source first progress cause file place

  abbrev pub IsFaultBy : ℕ → List ℕ → Reads → Faults → LoadedFile → Bool → EntryFaults
  IsFaultBy depth base reads faults source true first progress cause file place =
      IsIncludeFault depth base reads faults source first progress cause file place
  IsFaultBy depth base reads faults source false first progress cause file place =
      IsFormulaFault source (is_second source first progress) first progress cause file place

  abbrev pub IsEntryFault : ℕ → List ℕ → Reads → Faults → LoadedFile → EntryFaults
  IsEntryFault depth base reads faults source first progress cause file place =
      (first < length (tokens_of source))
      × IsFaultBy depth base reads faults source (is_include (drop first (lexemes source))) first progress cause file place

  -- The entries up to some token are read, and the next one or the end of the text is at fault.
  pub record FaultsText (depth : ℕ) (base : List ℕ) (reads : Reads) (faults : Faults) (source : LoadedFile) (start : Progress) (cause : Cause) (file : List ℕ) (place : ℕ) : Type 0 where
    pub steps : List Step
    pub are : AreSteps base reads source 0 start steps
    pub why :
        IsEntryFault depth base reads faults source (next_behind 0 steps) (progress_behind start steps) cause file place
        ⊎ InLanguage (IsTextEndFault source (next_behind 0 steps)) cause file place

  -- The file is loaded, and its text is at fault.
  pub record IsTextFault (told : Option Holdings) (text : LoadedFile → Progress → Cause → List ℕ → ℕ → Type 0) (name : List ℕ) (around : List (List (List ℕ))) (start : Progress) (cause : Cause) (file : List ℕ) (place : ℕ) : Type 0 where
    pub bytes : List ℕ
    pub given : MayGive told name start.loaded bytes
    pub fault : text (record { name = name; bytes = bytes; around = around }) (with_file bytes start) cause file place

  -- the fault of the file of a name, if files may be nested `depth` deep, itself counted
  abbrev pub FaultsNamed : Option Holdings → List ℕ → ℕ → ℕ → Faults
  FaultsNamed told base found zero = λ name around start cause file place. ⊥
  FaultsNamed told base found (suc depth) =
      λ name around start cause file place.
      InLanguage (IsLoadFault told found name start) cause file place
      ⊎ IsTextFault told (FaultsText depth base (ReadsNamed told base depth) (FaultsNamed told base found depth)) name around start cause file place

  -- the first fault of a file
  abbrev pub IsWholeFault : Option Holdings → ℕ → List ℕ → Option (List ℕ) → Cause → List ℕ → ℕ → Type 0
  IsWholeFault told found file root cause name place =
      FaultsNamed told (base_of root file) found (suc MOST_INCLUDES) file [] (record { loaded = 0; met = false }) cause name place

-- ---- problems

-- The formulas of a file are the problem's.
abbrev pub IsProblem : Option Holdings → List ℕ → Option (List ℕ) → List Placed → Type 0
IsProblem told file root formulas = IsWhole annotated_formulas told file root formulas

-- the first fault of a file
abbrev pub IsProblemFault : Option Holdings → ℕ → List ℕ → Option (List ℕ) → ReadCause → List ℕ → ℕ → Type 0
IsProblemFault told found file root cause name place = IsWholeFault annotated_formulas told found file root cause name place
