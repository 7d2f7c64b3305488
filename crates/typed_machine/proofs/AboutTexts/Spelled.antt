-- What symbols spell: the parts of a text that may stand for them.
use Rattle.std.proofs.Common.{◌≡◌, true, Option, None, Some, List, [], ◌∷◌, ◌++◌, map, codes, refl}
use Rattle.tptp_token.specs.Lexemes.{Lexeme, lexeme}
use Rattle.tptp_token.specs.declared.token.Kind.TheVariants.{Lower, Dollar, Connective, Mark, Other}
use Rattle.tptp_tree.specs.Formula.{BinaryConnective}
use Rattle.tptp_tree.specs.Spelling.{connective_lexeme}
use Rattle.tptp_tree.specs.Brackets.{are_balanced}
use Rattle.tptp_tree.specs.Entries.{notes_lexemes}
use Rattle.tptp_reader.specs.Machine.{Symbol, Step, takes as plain_takes, passes as plain_passes, stops as plain_stops}
use Rattle.tptp_reader.proofs.AboutTexts.Spelled.{colon_and, entry_end, Spells as PlainSpells, SpellAll as PlainSpellAll, IsStepOf as IsPlainStepOf}
use Rattle.typed_tree.specs.TypedSpelling.{SortPhrase, sort_lexeme, sort_part_lexemes, VariablePhrase, variable_lexemes, VariablePhrases, more_variables_lexemes, UnitPhrase, UnitPhrases, unit_then, Phrase, alone, all_of, some_of, joined_by, unit_lexemes, units_lexemes, phrase_lexemes, more_sorts_lexemes, TypePhrase, type_lexemes, DeclarationPhrase, declaration_lexemes}
use Rattle.typed_tree.specs.TypedEntries.{BodyPhrase, role_word_of, is_right_body, TypedPhrase, is_right_typed, body_lexemes, typed_lexemes}
use Rattle.typed_machine.specs.TypedMachine.{TypedSymbol, untyped_symbol, an_entry, a_typed_role, a_unit, maybe_connected, maybe_more_units, variables_bracket, next_variable, maybe_sort, more_variables, a_sort_word, a_declaration, a_type, maybe_result, an_arrow, a_result, more_sorts, TypedStep, takes, passes, stops, typed_step_of}

-- ---- formulas: behind the first operand

pub data PhraseEnd : Type 0 where
  ended : PhraseEnd
  and_all : UnitPhrase → UnitPhrases → PhraseEnd
  or_some : UnitPhrase → UnitPhrases → PhraseEnd
  and_joined : BinaryConnective → UnitPhrase → PhraseEnd

abbrev pub end_lexemes : PhraseEnd → List Lexeme → List Lexeme
end_lexemes ended rest = rest
end_lexemes (and_all u us) rest = units_lexemes (lexeme Connective (codes "&")) (unit_then u us) rest
end_lexemes (or_some u us) rest = units_lexemes (lexeme Connective (codes "|")) (unit_then u us) rest
end_lexemes (and_joined c u) rest = connective_lexeme c ∷ unit_lexemes u rest

abbrev pub with_end : UnitPhrase → PhraseEnd → Phrase
with_end u ended = alone u
with_end u (and_all v us) = all_of u v us
with_end u (or_some v us) = some_of u v us
with_end u (and_joined c v) = joined_by c u v

pub with_end-lexemes :
    (u : UnitPhrase) (e : PhraseEnd) (rest : List Lexeme) → unit_lexemes u (end_lexemes e rest) ≡ phrase_lexemes (with_end u e) rest
with_end-lexemes u ended rest = refl
with_end-lexemes u (and_all v us) rest = refl
with_end-lexemes u (or_some v us) rest = refl
with_end-lexemes u (and_joined c v) rest = refl

-- ---- variables and types

abbrev pub variables_lexemes : VariablePhrases → List Lexeme → List Lexeme
variables_lexemes xs rest = variable_lexemes xs.first (more_variables_lexemes xs.others rest)

-- a result: a sort, or `$o`
abbrev pub result_lexeme : Option SortPhrase → Lexeme
result_lexeme None = lexeme Dollar (codes "$o")
result_lexeme (Some s) = sort_lexeme s

-- `>` and a result, or nothing
abbrev pub result_lexemes : Option (Option SortPhrase) → List Lexeme → List Lexeme
result_lexemes None rest = rest
result_lexemes (Some r) rest = lexeme Other (codes ">") ∷ result_lexeme r ∷ rest

-- ---- symbols

-- The first tokens are a part that the symbol stands for, in front of the others.
abbrev pub Spells : TypedSymbol → List Lexeme → List Lexeme → Type 0
Spells (untyped_symbol a) ts rest = PlainSpells a ts rest
Spells (an_entry limit) ts rest = (p : TypedPhrase) × (is_right_typed p ≡ true) × (ts ≡ typed_lexemes p rest)
Spells (a_typed_role limit) ts rest =
    (b : BodyPhrase) × (ns : List Lexeme) × (is_right_body b ≡ true) × (are_balanced ns ≡ true)
    × (ts ≡ lexeme Lower (role_word_of b) ∷ lexeme Mark (codes ",") ∷ body_lexemes b (notes_lexemes ns (entry_end rest)))
Spells (a_unit s) ts rest = (u : UnitPhrase) × (ts ≡ unit_lexemes u rest)
Spells (maybe_connected s) ts rest = (e : PhraseEnd) × (ts ≡ end_lexemes e rest)
Spells (maybe_more_units sign s) ts rest = (us : UnitPhrases) × (ts ≡ units_lexemes (lexeme Connective sign) us rest)
Spells (variables_bracket s) ts rest =
    (xs : VariablePhrases) × (u : UnitPhrase) × (ts ≡ lexeme Mark (codes "[") ∷ variables_lexemes xs (colon_and (unit_lexemes u rest)))
Spells (next_variable before s) ts rest =
    (xs : VariablePhrases) × (u : UnitPhrase) × (ts ≡ variables_lexemes xs (colon_and (unit_lexemes u rest)))
Spells maybe_sort ts rest = (o : Option SortPhrase) × (ts ≡ sort_part_lexemes o rest)
Spells (more_variables before s) ts rest =
    (xs : List VariablePhrase) × (u : UnitPhrase) × (ts ≡ more_variables_lexemes xs (colon_and (unit_lexemes u rest)))
Spells a_sort_word ts rest = (s : SortPhrase) × (ts ≡ sort_lexeme s ∷ rest)
Spells (a_declaration s) ts rest = (d : DeclarationPhrase) × (ts ≡ declaration_lexemes d rest)
Spells (a_type s) ts rest = (t : TypePhrase) × (ts ≡ type_lexemes t rest)
Spells maybe_result ts rest = (o : Option (Option SortPhrase)) × (ts ≡ result_lexemes o rest)
Spells an_arrow ts rest = ts ≡ lexeme Other (codes ">") ∷ rest
Spells a_result ts rest = (r : Option SortPhrase) × (ts ≡ result_lexeme r ∷ rest)
Spells more_sorts ts rest = (ss : List SortPhrase) × (ts ≡ more_sorts_lexemes ss (lexeme Mark (codes ")") ∷ rest))

abbrev pub SpellAll : List TypedSymbol → List Lexeme → List Lexeme → Type 0
SpellAll [] ts rest = ts ≡ rest
SpellAll (a ∷ s) ts rest = (between : List Lexeme) × Spells a ts between × SpellAll s between rest

-- what a symbol does with a token is right: what it then spells, it spells with the token before it
abbrev pub IsStepOf : TypedSymbol → Lexeme → TypedStep → Type 0
IsStepOf a t (takes new cause) = (ts rest : List Lexeme) → SpellAll new ts rest → Spells a (t ∷ ts) rest
IsStepOf a t passes = (ts : List Lexeme) → Spells a ts ts
IsStepOf a t (stops refusal) = Unit {0}

pub all-split :
    (new s : List TypedSymbol) (ts rest : List Lexeme) → SpellAll (new ++ s) ts rest
    → (between : List Lexeme) × SpellAll new ts between × SpellAll s between rest
all-split [] s ts rest h = (ts, refl, h)
all-split (a ∷ new) s ts rest h = let more = all-split new s h.0 rest h.2 in (more.0, (h.0, h.1, more.1), more.2)

-- ---- symbols of untyped formulas

pub all-plain : (s : List Symbol) (ts rest : List Lexeme) → SpellAll (map untyped_symbol s) ts rest → PlainSpellAll s ts rest
all-plain [] ts rest h = h
all-plain (a ∷ s) ts rest h = (h.0, h.1, all-plain s h.0 rest h.2)

pub plain-right : (a : Symbol) (t : Lexeme) (x : Step) → IsPlainStepOf a t x → IsStepOf (untyped_symbol a) t (typed_step_of x)
plain-right a t (plain_takes new cause) h = λ ts rest k. h ts rest (all-plain new ts rest k)
plain-right a t plain_passes h = h
plain-right a t (plain_stops refusal) h = tt
