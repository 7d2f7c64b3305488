-- What symbols spell: the parts of a text that may stand for them.
use Rattle.std.proofs.Common.{◌≡◌, ℕ, Bool, true, false, Some, List, [], ◌∷◌, ◌++◌, codes, refl}
use Rattle.tptp_token.specs.Lexemes.{Lexeme, lexeme}
use Rattle.tptp_token.specs.declared.token.Kind.TheVariants.{Lower, Connective, Mark}
use Rattle.tptp_tree.specs.Formula.{BinaryConnective}
use Rattle.tptp_tree.specs.Spelling.{TermPhrase, TermPhrases, term_lexemes, arguments_lexemes, more_arguments_lexemes, Atom, equals_lexeme, atom_lexemes, Variables, UnitPhrase, UnitPhrases, unit_then, Phrase, alone, all_of, some_of, joined_by, connective_lexeme, more_variables_lexemes, variables_lexemes, unit_lexemes, units_lexemes, phrase_lexemes}
use Rattle.tptp_tree.specs.Brackets.{open_behind, is_nothing_open, are_balanced}
use Rattle.tptp_tree.specs.Entries.{PlainAtom, atom_of, LiteralPhrase, ClausePhrase, literal_lexemes, more_literals_lexemes, clause_lexemes, NamePhrase, name_lexeme, is_right_name, AnnotatedPhrase, is_right_annotated, notes_lexemes, annotated_lexemes}
use Rattle.tptp_reader.specs.Machine.{Symbol, mark, a_term, maybe_arguments, more_arguments, an_atom, maybe_applied, maybe_equation, an_equation, a_unit, maybe_connected, maybe_more_units, variables_bracket, next_variable, more_variables, a_clause, a_literal, a_plain_literal, maybe_more_literals, a_name, a_role, end_of_body, first_note, more_notes, an_annotated, Step, takes, passes, stops}

-- ---- equations: after a word or a variable that begins an atom; the Bool says whether `!=` may be used

abbrev pub SignFor : Bool → Type 0
SignFor true = Bool
SignFor false = Unit {0}

abbrev pub sign_for : (b : Bool) → SignFor b → Bool
sign_for true positive = positive
sign_for false u = true

abbrev pub AtomFor : Bool → Type 0
AtomFor true = Atom
AtomFor false = PlainAtom

abbrev pub atom_for : (b : Bool) → AtomFor b → Atom
atom_for true a = a
atom_for false a = atom_of a

pub data EquationEnd (b : Bool) : Type 0 where
  no_equation : EquationEnd b
  equation_with : SignFor b → TermPhrase → EquationEnd b

abbrev pub equation_lexemes : (b : Bool) → EquationEnd b → List Lexeme → List Lexeme
equation_lexemes b no_equation rest = rest
equation_lexemes b (equation_with sign t) rest = equals_lexeme (sign_for b sign) ∷ term_lexemes t rest

-- ---- formulas: behind the first operand

pub data PhraseEnd : Type 0 where
  ended : PhraseEnd
  and_all : UnitPhrase → UnitPhrases → PhraseEnd
  or_some : UnitPhrase → UnitPhrases → PhraseEnd
  and_joined : BinaryConnective → UnitPhrase → PhraseEnd

abbrev pub end_lexemes : PhraseEnd → List Lexeme → List Lexeme
end_lexemes ended rest = rest
end_lexemes (and_all u us) rest = units_lexemes (lexeme Connective (codes "&")) (unit_then u us) rest
end_lexemes (or_some u us) rest = units_lexemes (lexeme Connective (codes "|")) (unit_then u us) rest
end_lexemes (and_joined c u) rest = connective_lexeme c ∷ unit_lexemes u rest

abbrev pub with_end : UnitPhrase → PhraseEnd → Phrase
with_end u ended = alone u
with_end u (and_all v us) = all_of u v us
with_end u (or_some v us) = some_of u v us
with_end u (and_joined c v) = joined_by c u v

pub with_end-lexemes :
    (u : UnitPhrase) (e : PhraseEnd) (rest : List Lexeme) → unit_lexemes u (end_lexemes e rest) ≡ phrase_lexemes (with_end u e) rest
with_end-lexemes u ended rest = refl
with_end-lexemes u (and_all v us) rest = refl
with_end-lexemes u (or_some v us) rest = refl
with_end-lexemes u (and_joined c v) rest = refl

-- ---- symbols

-- the end of a quantifier's variables
abbrev pub colon_and : List Lexeme → List Lexeme
colon_and rest = lexeme Mark (codes "]") ∷ lexeme Mark (codes ":") ∷ rest

-- the closing bracket of an entry, and its full stop
abbrev pub entry_end : List Lexeme → List Lexeme
entry_end rest = lexeme Mark (codes ")") ∷ lexeme Mark (codes ".") ∷ rest

-- The first tokens are a part that the symbol stands for, in front of the others.
abbrev pub Spells : Symbol → List Lexeme → List Lexeme → Type 0
Spells (mark bytes) ts rest = ts ≡ lexeme Mark bytes ∷ rest
Spells (a_term s) ts rest = (t : TermPhrase) × (ts ≡ term_lexemes t rest)
Spells (maybe_arguments s) ts rest = (us : TermPhrases) × (ts ≡ arguments_lexemes us rest)
Spells (more_arguments s) ts rest = (us : TermPhrases) × (ts ≡ more_arguments_lexemes us rest)
Spells (an_atom b s) ts rest = (a : AtomFor b) × (ts ≡ atom_lexemes (atom_for b a) rest)
Spells (maybe_applied b s) ts rest = (us : TermPhrases) × (e : EquationEnd b) × (ts ≡ arguments_lexemes us (equation_lexemes b e rest))
Spells (maybe_equation b s) ts rest = (e : EquationEnd b) × (ts ≡ equation_lexemes b e rest)
Spells (an_equation b s) ts rest = (sign : SignFor b) × (t : TermPhrase) × (ts ≡ equals_lexeme (sign_for b sign) ∷ term_lexemes t rest)
Spells (a_unit s) ts rest = (u : UnitPhrase) × (ts ≡ unit_lexemes u rest)
Spells (maybe_connected s) ts rest = (e : PhraseEnd) × (ts ≡ end_lexemes e rest)
Spells (maybe_more_units sign s) ts rest = (us : UnitPhrases) × (ts ≡ units_lexemes (lexeme Connective sign) us rest)
Spells (variables_bracket s) ts rest =
    (xs : Variables) × (u : UnitPhrase) × (ts ≡ lexeme Mark (codes "[") ∷ variables_lexemes xs (colon_and (unit_lexemes u rest)))
Spells (next_variable before s) ts rest =
    (xs : Variables) × (u : UnitPhrase) × (ts ≡ variables_lexemes xs (colon_and (unit_lexemes u rest)))
Spells (more_variables before s) ts rest =
    (xs : List (List ℕ)) × (u : UnitPhrase) × (ts ≡ more_variables_lexemes xs (colon_and (unit_lexemes u rest)))
Spells (a_clause s) ts rest = (c : ClausePhrase) × (ts ≡ clause_lexemes c rest)
Spells (a_literal s) ts rest = (l : LiteralPhrase) × (ts ≡ literal_lexemes l rest)
Spells (a_plain_literal s) ts rest = (l : LiteralPhrase) × (lexeme Connective (codes "~") ∷ ts ≡ literal_lexemes l rest)
Spells (maybe_more_literals s) ts rest = (ls : List LiteralPhrase) × (ts ≡ more_literals_lexemes ls rest)
Spells a_name ts rest = (n : NamePhrase) × (is_right_name n ≡ true) × (ts ≡ name_lexeme n ∷ rest)
Spells (a_role is_clause) ts rest = (w : List ℕ) × (ts ≡ lexeme Lower w ∷ rest)
Spells (end_of_body limit) ts rest = (ns : List Lexeme) × (are_balanced ns ≡ true) × (ts ≡ notes_lexemes ns (entry_end rest))
Spells (first_note limit) ts rest =
    (n : Lexeme) × (ns : List Lexeme) × (are_balanced (n ∷ ns) ≡ true) × (ts ≡ n ∷ ns ++ entry_end rest)
Spells (more_notes limit unclosed) ts rest =
    (ns : List Lexeme) × (is_nothing_open (open_behind (Some unclosed) ns) ≡ true) × (ts ≡ ns ++ entry_end rest)
Spells (an_annotated limit) ts rest = (p : AnnotatedPhrase) × (is_right_annotated p ≡ true) × (ts ≡ annotated_lexemes p rest)

abbrev pub SpellAll : List Symbol → List Lexeme → List Lexeme → Type 0
SpellAll [] ts rest = ts ≡ rest
SpellAll (a ∷ s) ts rest = (between : List Lexeme) × Spells a ts between × SpellAll s between rest

-- what a symbol does with a token is right: what it then spells, it spells with the token before it
abbrev pub IsStepOf : Symbol → Lexeme → Step → Type 0
IsStepOf a t (takes new cause) = (ts rest : List Lexeme) → SpellAll new ts rest → Spells a (t ∷ ts) rest
IsStepOf a t passes = (ts : List Lexeme) → Spells a ts ts
IsStepOf a t (stops refusal) = Unit {0}

pub all-split :
    (new s : List Symbol) (ts rest : List Lexeme) → SpellAll (new ++ s) ts rest
    → (between : List Lexeme) × SpellAll new ts between × SpellAll s between rest
all-split [] s ts rest h = (ts, refl, h)
all-split (a ∷ new) s ts rest h = let more = all-split new s h.0 rest h.2 in (more.0, (h.0, h.1, more.1), more.2)
