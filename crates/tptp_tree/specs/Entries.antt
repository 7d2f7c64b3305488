-- The entries of a problem and the tokens that spell them: annotated formulas and includes (Sutcliffe 2017, this product's
-- profile).
use Rattle.std.specs.Prelude.{◌≡◌, ⊤, ℕ, Bool, true, false, ◌&&◌, List, [], ◌∷◌, ◌++◌, codes, bytes_eq, Option, None, Some, if◌then◌else◌}
use Rattle.std.specs.List.{list_all}
use Rattle.tptp_token.specs.Spelling.{is_digit}
use Rattle.tptp_token.specs.Lexemes.{Lexeme, IsLexedAs, lexeme, word_lexeme}
use Rattle.tptp_token.specs.declared.token.Kind.TheVariants.{Lower, Number, Connective, Mark}
use Rattle.tptp_tree.specs.declared.role.Role.{Role}
use Rattle.tptp_tree.specs.declared.role.Role.TheVariants.{Axiom, Hypothesis, Definition, Assumption, Lemma, Theorem, Corollary, NegatedConjecture, Plain, Conjecture}
use Rattle.tptp_tree.specs.Formula.{FormulaTree, negation, disjunction, FormulaTrees, no_formulas, formula_then}
use Rattle.tptp_tree.specs.Brackets.{are_balanced}
use Rattle.tptp_token.specs.Words.{Word, name_of}
use Rattle.tptp_tree.specs.Spelling.{TermPhrase, TermPhrases, Atom, true_atom, false_atom, predicate_atom, equation_atom, atom_lexemes, atom_meant, Phrase, phrase_lexemes, meant}

-- ---- clauses

-- an atom that isn't written with `!=`
pub data PlainAtom : Type 0 where
  plain_true : PlainAtom
  plain_false : PlainAtom
  plain_predicate : Word → TermPhrases → PlainAtom
  plain_equation : TermPhrase → TermPhrase → PlainAtom

-- the plain atom as an atom
abbrev pub atom_of : PlainAtom → Atom
atom_of plain_true = true_atom
atom_of plain_false = false_atom
atom_of (plain_predicate w ts) = predicate_atom w ts
atom_of (plain_equation s t) = equation_atom true s t

-- A literal of a clause: an atom, as `p(X)` or `X != a`; or `~` before a plain atom, as `~p(X)`, or with brackets, as `~(p(X))`.
pub data LiteralPhrase : Type 0 where
  positive_literal : Atom → LiteralPhrase
  negated_literal : PlainAtom → LiteralPhrase
  negated_in_brackets : PlainAtom → LiteralPhrase

-- A clause: one or more literals with `|` between two of them, as `p(X)|~q`; or a clause in brackets, as `(p(X)|~q)`.
pub data ClausePhrase : Type 0 where
  literals : LiteralPhrase → List LiteralPhrase → ClausePhrase
  clause_in_brackets : ClausePhrase → ClausePhrase

-- the tokens of a literal, then `rest`: `~`, `(`, the atom and `)` for `~(p)`
abbrev pub literal_lexemes : LiteralPhrase → List Lexeme → List Lexeme
literal_lexemes (positive_literal a) rest = atom_lexemes a rest
literal_lexemes (negated_literal a) rest = lexeme Connective (codes "~") ∷ atom_lexemes (atom_of a) rest
literal_lexemes (negated_in_brackets a) rest =
    lexeme Connective (codes "~") ∷ lexeme Mark (codes "(") ∷ atom_lexemes (atom_of a) (lexeme Mark (codes ")") ∷ rest)

-- the tokens of the literals after the first, each with the `|` before it, then `rest`
abbrev pub more_literals_lexemes : List LiteralPhrase → List Lexeme → List Lexeme
more_literals_lexemes [] rest = rest
more_literals_lexemes (l ∷ ls) rest = lexeme Connective (codes "|") ∷ literal_lexemes l (more_literals_lexemes ls rest)

-- the tokens of a clause, then `rest`
abbrev pub clause_lexemes : ClausePhrase → List Lexeme → List Lexeme
clause_lexemes (literals l ls) rest = literal_lexemes l (more_literals_lexemes ls rest)
clause_lexemes (clause_in_brackets c) rest = lexeme Mark (codes "(") ∷ clause_lexemes c (lexeme Mark (codes ")") ∷ rest)

-- the formula of a literal: an atom, or the negation of one
abbrev pub literal_meant : LiteralPhrase → FormulaTree
literal_meant (positive_literal a) = atom_meant a
literal_meant (negated_literal a) = negation (atom_meant (atom_of a))
literal_meant (negated_in_brackets a) = negation (atom_meant (atom_of a))

-- the formulas of literals, in order
abbrev pub literals_meant : List LiteralPhrase → FormulaTrees
literals_meant [] = no_formulas
literals_meant (l ∷ ls) = formula_then (literal_meant l) (literals_meant ls)

-- the formula of a clause: one literal is itself, more are a disjunction; brackets say nothing
abbrev pub clause_meant : ClausePhrase → FormulaTree
clause_meant (literals l []) = literal_meant l
clause_meant (literals l (m ∷ ls)) = disjunction (literals_meant (l ∷ m ∷ ls))
clause_meant (clause_in_brackets c) = clause_meant c

-- ---- names and roles

-- The name of a formula: a word, as `ax1` or `'A b'`, or digits alone, as `12`.
pub data NamePhrase : Type 0 where
  word_name : Word → NamePhrase
  digits_name : List ℕ → NamePhrase

-- the token of a formula's name
abbrev pub name_lexeme : NamePhrase → Lexeme
name_lexeme (word_name w) = word_lexeme w
name_lexeme (digits_name ds) = lexeme Number ds

-- the name that the phrase stands for: `'ax1'` stands for `ax1`, and digits for themselves
abbrev pub name_meant : NamePhrase → List ℕ
name_meant (word_name w) = name_of w
name_meant (digits_name ds) = ds

-- a name that isn't a word is of digits alone: `1.5` is a number, but no name
abbrev pub is_right_name : NamePhrase → Bool
is_right_name (word_name w) = true
is_right_name (digits_name ds) = list_all is_digit ds

-- the text spells the formula's name
abbrev pub SpellsFormulaName : List ℕ → List ℕ → Type 0
SpellsFormulaName text name =
    (n : NamePhrase) × (is_right_name n ≡ true) × IsLexedAs text (name_lexeme n ∷ []) × (name_meant n ≡ name)

-- the word of a role, as it stands in the text
abbrev pub role_word : Role → List ℕ
role_word Axiom = codes "axiom"
role_word Hypothesis = codes "hypothesis"
role_word Definition = codes "definition"
role_word Assumption = codes "assumption"
role_word Lemma = codes "lemma"
role_word Theorem = codes "theorem"
role_word Corollary = codes "corollary"
role_word NegatedConjecture = codes "negated_conjecture"
role_word Plain = codes "plain"
role_word Conjecture = codes "conjecture"

-- the role of a formula that is to be proved; the formulas of all other roles are taken as given
abbrev pub is_conjecture : Role → Bool
is_conjecture Axiom = false
is_conjecture Hypothesis = false
is_conjecture Definition = false
is_conjecture Assumption = false
is_conjecture Lemma = false
is_conjecture Theorem = false
is_conjecture Corollary = false
is_conjecture NegatedConjecture = false
is_conjecture Plain = false
is_conjecture Conjecture = true

-- the roles that `cnf` takes: all but the conjecture
abbrev pub clause_roles : List Role
clause_roles =
    Axiom ∷ Hypothesis ∷ Definition ∷ Assumption ∷ Lemma ∷ Theorem ∷ Corollary ∷ NegatedConjecture ∷ Plain ∷ []

-- the roles that `fof` takes: all
abbrev pub formula_roles : List Role
formula_roles = clause_roles ++ Conjecture ∷ []

-- the first role of the list with that word
abbrev pub role_among : List Role → List ℕ → Option Role
role_among [] word = None
role_among (r ∷ rs) word = if bytes_eq (role_word r) word then Some r else role_among rs word

-- the role of a word in `cnf` (true) or in `fof` (false), if it is taken there
abbrev pub role_of : Bool → List ℕ → Option Role
role_of is_clause word = role_among (if is_clause then clause_roles else formula_roles) word

-- ---- annotated formulas

-- the body of an annotated formula: a formula in `fof`, a clause in `cnf`
pub data Body : Type 0 where
  formula_body : Phrase → Body
  clause_body : ClausePhrase → Body

-- the body is a clause
abbrev pub is_clause_body : Body → Bool
is_clause_body (formula_body p) = false
is_clause_body (clause_body c) = true

-- `cnf` for a clause (true), `fof` for a formula (false)
abbrev pub language_word : Bool → List ℕ
language_word true = codes "cnf"
language_word false = codes "fof"

-- the tokens of a body, then `rest`
abbrev pub body_lexemes : Body → List Lexeme → List Lexeme
body_lexemes (formula_body p) rest = phrase_lexemes p rest
body_lexemes (clause_body c) rest = clause_lexemes c rest

-- the formula that a body stands for
abbrev pub body_meant : Body → FormulaTree
body_meant (formula_body p) = meant p
body_meant (clause_body c) = clause_meant c

-- An annotated formula as it is written: `fof(ax1,axiom,! [X] : p(X)).`, or with notes before the last bracket. The role is any
-- lower word here, and the notes are the tokens after the third comma, or none.
pub record AnnotatedPhrase : Type 0 where
  pub name : NamePhrase
  pub role : List ℕ
  pub body : Body
  pub notes : List Lexeme

-- the name is a word or of digits alone, and the brackets of the notes close
abbrev pub is_right_annotated : AnnotatedPhrase → Bool
is_right_annotated p = is_right_name p.name && are_balanced p.notes

-- the tokens of notes with the comma before them, or no tokens where there are no notes, then `rest`
abbrev pub notes_lexemes : List Lexeme → List Lexeme → List Lexeme
notes_lexemes [] rest = rest
notes_lexemes (n ∷ ns) rest = lexeme Mark (codes ",") ∷ n ∷ ns ++ rest

-- the tokens of an annotated formula from `fof` or `cnf` to the full stop, then `rest`
abbrev pub annotated_lexemes : AnnotatedPhrase → List Lexeme → List Lexeme
annotated_lexemes p rest =
    lexeme Lower (language_word (is_clause_body p.body)) ∷ lexeme Mark (codes "(") ∷ name_lexeme p.name
    ∷ lexeme Mark (codes ",") ∷ lexeme Lower p.role ∷ lexeme Mark (codes ",")
    ∷ body_lexemes p.body (notes_lexemes p.notes (lexeme Mark (codes ")") ∷ lexeme Mark (codes ".") ∷ rest))

-- the content of an annotated formula: its name, its role, whether it is a clause, and its formula
pub record AnnotatedTree : Type 0 where
  pub name : List ℕ
  pub role : Role
  pub is_clause : Bool
  pub formula : FormulaTree

-- the annotated formula of a phrase, with the role that its word names
pub record IsAnnotatedOf (p : AnnotatedPhrase) (tree : AnnotatedTree) : Type 0 where
  pub name : tree.name ≡ name_meant p.name
  pub role : role_of (is_clause_body p.body) p.role ≡ Some tree.role
  pub is_clause : tree.is_clause ≡ is_clause_body p.body
  pub formula : tree.formula ≡ body_meant p.body

-- the text spells the annotated formula
abbrev pub SpellsAnnotated : List ℕ → AnnotatedTree → Type 0
SpellsAnnotated text tree =
    (p : AnnotatedPhrase) × (is_right_annotated p ≡ true) × IsLexedAs text (annotated_lexemes p []) × IsAnnotatedOf p tree

-- ---- includes, and problems

-- the names of the formulas that an include selects, at least one: `[ax1,ax2]`
pub record Selection : Type 0 where
  pub first : NamePhrase
  pub others : List NamePhrase

-- An entry of a problem as it is written: an annotated formula; an include, `include('a.ax').`; or an include of a selection,
-- `include('a.ax',[ax1,ax2]).`
pub data EntryPhrase : Type 0 where
  annotated_entry : AnnotatedPhrase → EntryPhrase
  whole_include : Word → EntryPhrase
  selected_include : Word → Selection → EntryPhrase

-- the entry's names are words or of digits alone, and the brackets of its notes close
abbrev pub is_right_entry : EntryPhrase → Bool
is_right_entry (annotated_entry p) = is_right_annotated p
is_right_entry (whole_include file) = true
is_right_entry (selected_include file names) = is_right_name names.first && list_all is_right_name names.others

-- the tokens of the names after the first, each with the comma before it, then `rest`
abbrev pub more_names_lexemes : List NamePhrase → List Lexeme → List Lexeme
more_names_lexemes [] rest = rest
more_names_lexemes (n ∷ ns) rest = lexeme Mark (codes ",") ∷ name_lexeme n ∷ more_names_lexemes ns rest

-- the tokens `)` and `.` that end an include, then `rest`
abbrev pub include_end : List Lexeme → List Lexeme
include_end rest = lexeme Mark (codes ")") ∷ lexeme Mark (codes ".") ∷ rest

-- the tokens of an entry, then `rest`
abbrev pub entry_lexemes : EntryPhrase → List Lexeme → List Lexeme
entry_lexemes (annotated_entry p) rest = annotated_lexemes p rest
entry_lexemes (whole_include file) rest =
    lexeme Lower (codes "include") ∷ lexeme Mark (codes "(") ∷ word_lexeme file ∷ include_end rest
entry_lexemes (selected_include file names) rest =
    lexeme Lower (codes "include") ∷ lexeme Mark (codes "(") ∷ word_lexeme file ∷ lexeme Mark (codes ",")
    ∷ lexeme Mark (codes "[") ∷ name_lexeme names.first
    ∷ more_names_lexemes names.others (lexeme Mark (codes "]") ∷ include_end rest)

-- the tokens of the entries in order, with nothing between them
abbrev pub problem_lexemes : List EntryPhrase → List Lexeme
problem_lexemes [] = []
problem_lexemes (e ∷ es) = entry_lexemes e (problem_lexemes es)

-- The content of an entry: an annotated formula; or an include, by the name of its file and the names of the formulas that are taken
-- from it, with none where all are taken.
pub data EntryTree : Type 0 where
  annotated_tree : AnnotatedTree → EntryTree
  include_tree : List ℕ → Option (List (List ℕ)) → EntryTree

-- the names that the phrases stand for, in order
abbrev pub names_meant : List NamePhrase → List (List ℕ)
names_meant [] = []
names_meant (n ∷ ns) = name_meant n ∷ names_meant ns

-- the entry is the content of the phrase
abbrev pub IsEntryOf : EntryPhrase → EntryTree → Type 0
IsEntryOf (annotated_entry p) entry = (tree : AnnotatedTree) × IsAnnotatedOf p tree × (entry ≡ annotated_tree tree)
IsEntryOf (whole_include file) entry = entry ≡ include_tree (name_of file) None
IsEntryOf (selected_include file names) entry =
    entry ≡ include_tree (name_of file) (Some (name_meant names.first ∷ names_meant names.others))

-- there are as many entries as phrases, and each is the content of its phrase
abbrev pub AreEntriesOf : List EntryPhrase → List EntryTree → Type 0
AreEntriesOf [] [] = ⊤
AreEntriesOf [] (t ∷ ts) = ⊥
AreEntriesOf (e ∷ es) [] = ⊥
AreEntriesOf (e ∷ es) (t ∷ ts) = IsEntryOf e t × AreEntriesOf es ts

-- the text spells the entries
abbrev pub SpellsEntries : List ℕ → List EntryTree → Type 0
SpellsEntries text entries =
    (phrases : List EntryPhrase) × (list_all is_right_entry phrases ≡ true) × IsLexedAs text (problem_lexemes phrases)
    × AreEntriesOf phrases entries
