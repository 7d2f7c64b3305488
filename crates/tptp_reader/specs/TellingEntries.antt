-- The contracts of the functions that read an entry: what each says of the tokens before and after.
use Rattle.std.specs.Prelude.{◌≡◌, ◌<◌, ◌+◌, ⊤, ℕ, Bool, true, false, List, [], ◌∷◌, ◌++◌, drop, length, codes, Some, slice_get}
use Rattle.tptp_token.specs.Lexemes.{Lexeme, lexeme}
use Rattle.tptp_token.specs.declared.token.Kind.TheVariants.{Lower, Mark}
use Rattle.tptp_tree.specs.Formula.{FormulaTree}
use Rattle.tptp_tree.specs.Brackets.{are_balanced}
use Rattle.tptp_tree.specs.Entries.{NamePhrase, name_lexeme, name_meant, is_right_name, role_of, language_word, Body, is_clause_body, body_lexemes, body_meant, AnnotatedPhrase, is_right_annotated, notes_lexemes, annotated_lexemes, IsAnnotatedOf}
use Rattle.tptp_tree.specs.Causes.{outermost}
use Rattle.tptp_tree.specs.declared.role.Role.{Role}
use Rattle.tptp_reader.specs.Faults.{IsEndFault}
use Rattle.tptp_tree.specs.Shape.{entry_of}
use Rattle.tptp_reader.specs.Machine.{Symbol, a_name, a_role, a_clause, an_annotated, end_of_body, before_body, formula_symbols, read_up_to}
use Rattle.tptp_reader.specs.Telling.{lexemes, IsNext, Leads, told}
use Rattle.tptp_reader.specs.declared.source.Reader.{Reader}
use Rattle.tptp_reader.specs.declared.entry.Read.{Read}
use Rattle.tptp_token.specs.declared.token.Token.{Token}
use Rattle.tptp_token.specs.declared.token.Lexed.{Lexed}
use Rattle.tptp_reader.specs.declared.cause.Halt.{Halt}
use Rattle.tptp_reader.specs.declared.cause.Halt.TheVariants.{NoMemory, At, Ended}
use Rattle.tptp_reader.specs.declared.cause.Refusal.{Refusal as ToldRefusal}
use Rattle.tptp_reader.specs.declared.cause.Refusal.TheVariants.{Syntax, FreeVariable, Role as RoleRefusal, Nesting, Inappropriate}
use Rattle.tptp_reader.specs.declared.cause.ReadCause.{ReadCause}
use Rattle.tptp_reader.specs.declared.cause.ReadCause.TheVariants.{Syntax as SyntaxCause, FreeVariable as FreeVariableCause, Role as RoleCause, Nesting as NestingCause, Inappropriate as InappropriateCause}
use Rattle.tptp_reader.specs.declared.cause.ReadFault.{ReadFault}
use Rattle.tptp_reader.specs.declared.cause.ReadFault.TheVariants.{NoMemory as NoFaultMemory, At as FaultAt}

abbrev pub body_symbols : ℕ → Bool → List Symbol
body_symbols limit true = a_clause (outermost limit true) ∷ []
body_symbols limit false = formula_symbols (outermost limit false)

-- the word of an entry, `cnf` (true) or `fof` (false)
abbrev pub entry_symbols : ℕ → Bool → List Symbol
entry_symbols limit is_clause = before_body is_clause ++ body_symbols limit is_clause ++ end_of_body limit ∷ []

pub record ReadsLanguage (r : Reader) (at : ℕ) (is_clause : Bool) : Type 0 where
  pub here : IsNext r at (lexeme Lower (language_word is_clause))
  pub leads : Leads r (an_annotated r.limit ∷ []) at (entry_symbols r.limit is_clause) (at + 1)

pub record ReadsName (r : Reader) (at : ℕ) (name : List ℕ) : Type 0 where
  pub phrase : NamePhrase
  pub right : is_right_name phrase ≡ true
  pub here : IsNext r at (name_lexeme phrase)
  pub meant : name_meant phrase ≡ name
  pub leads : Leads r (a_name ∷ []) at [] (at + 1)

pub record ReadsRole (r : Reader) (at : ℕ) (is_clause : Bool) (role : Role) : Type 0 where
  pub word : List ℕ
  pub here : IsNext r at (lexeme Lower word)
  pub meant : role_of is_clause word ≡ Some role
  pub leads : Leads r (a_role is_clause ∷ []) at [] (at + 1)

pub record ReadsBody (r : Reader) (at next : ℕ) (is_clause : Bool) (f : FormulaTree) : Type 0 where
  pub body : Body
  pub kind : is_clause_body body ≡ is_clause
  pub spelled : drop at (lexemes r) ≡ body_lexemes body (drop next (lexemes r))
  pub meant : body_meant body ≡ f
  pub leads : Leads r (body_symbols r.limit is_clause) at [] next

-- notes, or none, and the end of the entry
pub record ReadsEnding (r : Reader) (at start end next : ℕ) : Type 0 where
  pub notes : List Lexeme
  pub balanced : are_balanced notes ≡ true
  pub spelled : drop at (lexemes r) ≡ notes_lexemes notes (lexeme Mark (codes ")") ∷ lexeme Mark (codes ".") ∷ drop next (lexemes r))
  pub leads : Leads r (end_of_body r.limit ∷ []) at [] next
  pub range : drop start (lexemes r) ≡ notes ++ drop end (lexemes r)

pub record ReadsEntry (r : Reader) (first : ℕ) (read : Read) : Type 0 where
  pub phrase : AnnotatedPhrase
  pub right : is_right_annotated phrase ≡ true
  pub spelled : drop first (lexemes r) ≡ annotated_lexemes phrase (drop read.next (lexemes r))
  pub meant : IsAnnotatedOf phrase (entry_of read.annotated)
  pub told_so : told r (an_annotated r.limit ∷ []) first ≡ read_up_to read.next
  pub range : drop read.notes_start (lexemes r) ≡ phrase.notes ++ drop read.notes_end (lexemes r)

-- ---- faults, by where reading halted

abbrev pub cause_told : ToldRefusal → ReadCause
cause_told Syntax = SyntaxCause
cause_told FreeVariable = FreeVariableCause
cause_told RoleRefusal = RoleCause
cause_told Nesting = NestingCause
cause_told (Inappropriate form) = InappropriateCause form

-- the cause and the place by where and why reading halted
abbrev pub IsCauseBy : List ℕ → Lexed → Halt → ReadCause → ℕ → Type 0
IsCauseBy bytes lexed NoMemory cause place = ⊥
IsCauseBy bytes lexed (At refusal index) cause place =
    (cause ≡ cause_told refusal)
    × ((token : Token) × (slice_get lexed.tokens index ≡ Some token) × (place ≡ token.start))
IsCauseBy bytes lexed Ended cause place = IsEndFault lexed.fault (length bytes) cause place

-- the index of the token that a halt names, if any, is below the count
abbrev pub IsWithin : ℕ → Halt → Type 0
IsWithin count NoMemory = ⊤
IsWithin count (At refusal index) = index < count
IsWithin count Ended = ⊤

-- out of memory is told exactly where reading halted for it
abbrev pub IsFaultOfHalt : List ℕ → Lexed → Halt → ReadFault → Type 0
IsFaultOfHalt bytes lexed halt NoFaultMemory = halt ≡ NoMemory
IsFaultOfHalt bytes lexed halt (FaultAt cause file place) = (file ≡ []) × IsCauseBy bytes lexed halt cause place
