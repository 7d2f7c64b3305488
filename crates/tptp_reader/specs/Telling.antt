-- The contracts of the functions that read an annotated formula: what each says of the tokens before and after,
-- told by the stack machine.
use Rattle.std.specs.Prelude.{◌≡◌, ◌≤◌, ◌+◌, ⊤, ℕ, Bool, true, false, List, [], ◌∷◌, ◌++◌, map, drop, codes, bytes_eq, Option, None, Some, not, if◌then◌else◌}
use Rattle.std.specs.List.{list_any}
use Rattle.tptp_token.specs.Lexemes.{Lexeme, lexemes_of, lexeme, IsTokenAt}
use Rattle.tptp_token.specs.declared.token.Kind.{Kind}
use Rattle.tptp_token.specs.declared.token.Kind.TheVariants.{Lower, Variable, Quoted, Distinct, Dollar, Number, Connective, Mark, Other}
use Rattle.tptp_tree.specs.Term.{TermTree, TermTrees}
use Rattle.tptp_tree.specs.Formula.{FormulaTree, quantified, Quantifier, for_all, exists_some, BinaryConnective, implies, implied, equivalent, different, nor, nand}
use Rattle.tptp_tree.specs.Spelling.{Atom, true_atom, false_atom, predicate_atom, equation_atom, atom_lexemes, atom_meant, UnitPhrase, unit_lexemes, unit_meant, phrase_lexemes, meant, Variables, variables_lexemes, TermPhrase, term_lexemes, arguments_lexemes, term_meant, terms_meant}
use Rattle.tptp_tree.specs.Entries.{LiteralPhrase, literal_lexemes, literal_meant, ClausePhrase, literals, clause_lexemes, clause_meant}
use Rattle.tptp_tree.specs.Causes.{Refusal, syntax, free_variable, role_not_taken, too_deep, left_out, Surroundings, binding, variable_cause}
use Rattle.tptp_reader.specs.Shape.{form_of}
use Rattle.tptp_reader.specs.Machine.{Symbol, mark, a_clause, a_literal, a_plain_literal, maybe_more_literals, an_atom, a_unit, maybe_more_units, formula_symbols, variables_bracket, next_variable, more_variables, a_term, maybe_arguments, arguments, is_truth_word, Verdict, refused_at, ran_out, verdict, going}
use Rattle.tptp_reader.specs.declared.source.Reader.{Reader}
use Rattle.tptp_reader.specs.declared.source.Name.{Name}
use Rattle.tptp_reader.specs.declared.source.Binary.{Binary}
use Rattle.tptp_reader.specs.declared.source.Binary.TheVariants.{Implies, Implied, Iff, Xor, Nor, Nand}
use Rattle.tptp_reader.specs.declared.cause.Halt.{Halt}
use Rattle.tptp_reader.specs.declared.cause.Halt.TheVariants.{NoMemory, At, Ended}
use Rattle.tptp_reader.specs.declared.cause.Refusal.{Refusal as ToldRefusal}
use Rattle.tptp_reader.specs.declared.cause.Refusal.TheVariants.{Syntax, FreeVariable, Role as RoleRefusal, Nesting, Inappropriate}
use Rattle.tptp_reader.specs.declared.cause.Form.TheVariants.{Number as NumberForm, Distinct as DistinctForm, Dollar as DollarForm}

-- ---- tokens

-- all tokens of a text
abbrev pub lexemes : Reader → List Lexeme
lexemes r = lexemes_of r.bytes.now r.tokens.now

-- the token at an index
abbrev pub IsNext : Reader → ℕ → Lexeme → Type 0
IsNext r at token = IsTokenAt r.bytes.now r.tokens.now at token

-- ---- refusals

abbrev pub refusal_of : ToldRefusal → Refusal
refusal_of Syntax = syntax
refusal_of FreeVariable = free_variable
refusal_of RoleRefusal = role_not_taken
refusal_of Nesting = too_deep
refusal_of (Inappropriate form) = left_out (form_of form)

-- Reading halts as the machine does; for out of memory it may halt anywhere.
abbrev pub IsEnd : Halt → Verdict → Type 0
IsEnd NoMemory v = ⊤
IsEnd (At refusal index) v = v ≡ refused_at index (refusal_of refusal)
IsEnd Ended v = v ≡ ran_out

-- ---- the machine from an index on

-- the verdict where these symbols have still to come at the token of that index
unfoldable pub told : Reader → List Symbol → ℕ → Verdict
told r symbols at = verdict at (going symbols) (drop at (lexemes r))

-- the first symbols at one token lead to the others at the other
pub record Leads (r : Reader) (first : List Symbol) (at : ℕ) (others : List Symbol) (next : ℕ) : Type 0 where
  pub by : (below : List Symbol) → told r (first ++ below) at ≡ told r (others ++ below) next

-- the symbols at a token lead to that end
pub record Ends (r : Reader) (symbols : List Symbol) (at : ℕ) (halt : Halt) : Type 0 where
  pub by : (below : List Symbol) → IsEnd halt (told r (symbols ++ below) at)

-- ---- variables

abbrev pub is_among : List Name → List ℕ → Bool
is_among names x = list_any (λ (n : Name). bytes_eq x n.bytes.now) names

-- a variable that none of the names binds, where one has to
abbrev pub is_free_among : Bool → List Name → List ℕ → Bool
is_free_among false names x = false
is_free_among true names x = not (is_among names x)

abbrev pub free_cause : Bool → Option Refusal
free_cause true = Some free_variable
free_cause false = None

-- the surroundings of a token, as the reader has them
pub record Suits (r : Reader) (names : List Name) (level : ℕ) (s : Surroundings) : Type 0 where
  pub limit_is : s.limit ≡ r.limit
  pub level_is : s.level ≡ level
  pub scope_is : (x : List ℕ) → variable_cause s.scope x ≡ free_cause (is_free_among r.closed names x)

-- ---- what a function that reads says

-- where the names are bound, at that level
pub record Starts (r : Reader) (start : Surroundings → List Symbol) (names : List Name) (level at next : ℕ) : Type 0 where
  pub by : (s : Surroundings) → Suits r names level s → Leads r (start s) at [] next
  pub onward : at ≤ next

-- The tokens between are a phrase with the value, which the machine takes.
pub record Reads {P M : Type 0} (spell : P → List Lexeme → List Lexeme) (meaning : P → M) (r : Reader) (start : Surroundings → List Symbol) (names : List Name) (level at next : ℕ) (value : M) : Type 0 where
  pub phrase : P
  pub spelled : drop at (lexemes r) ≡ spell phrase (drop next (lexemes r))
  pub meant : meaning phrase ≡ value
  pub leads : Starts r start names level at next

pub record Halts (r : Reader) (start : Surroundings → List Symbol) (names : List Name) (level at : ℕ) (halt : Halt) : Type 0 where
  pub by : (s : Surroundings) → Suits r names level s → Ends r (start s) at halt

abbrev pub one : (Surroundings → Symbol) → Surroundings → List Symbol
one symbol s = symbol s ∷ []

-- items from the second on, each with the token before it
abbrev pub further : {A : Type 0} → (A → List Lexeme → List Lexeme) → Lexeme → List A → List Lexeme → List Lexeme
further spell between [] rest = rest
further spell between (x ∷ xs) rest = between ∷ spell x (further spell between xs rest)

-- at least one item
pub record Listed (A : Type 0) : Type 0 where
  pub first : A
  pub others : List A

abbrev pub listed : {A : Type 0} → (A → List Lexeme → List Lexeme) → Lexeme → Listed A → List Lexeme → List Lexeme
listed spell between items rest = spell items.first (further spell between items.others rest)

abbrev pub items_meant : {A M : Type 0} → (A → M) → Listed A → List M
items_meant meaning items = map meaning (items.first ∷ items.others)

-- ---- terms

abbrev pub ReadsTerm : Reader → List Name → ℕ → ℕ → ℕ → TermTree → Type 0
ReadsTerm r names level at next t = Reads term_lexemes term_meant r (one a_term) names level at next t

abbrev pub ReadsArguments : Reader → List Name → ℕ → ℕ → ℕ → TermTrees → Type 0
ReadsArguments r names level at next ts = Reads arguments_lexemes terms_meant r (one maybe_arguments) names level at next ts

-- terms between commas, and the bracket after them
abbrev pub bracketed_lexemes : Listed TermPhrase → List Lexeme → List Lexeme
bracketed_lexemes ts rest = listed term_lexemes (lexeme Mark (codes ",")) ts (lexeme Mark (codes ")") ∷ rest)

abbrev pub ReadsBracketed : Reader → List Name → ℕ → ℕ → ℕ → List TermTree → Type 0
ReadsBracketed r names level at next ts =
    Reads bracketed_lexemes (items_meant term_meant) r arguments names level at next ts

-- why a token that is neither a word nor a variable can't stand where a term may
abbrev pub term_refusal : Kind → List ℕ → ToldRefusal
term_refusal Lower bytes = Syntax
term_refusal Variable bytes = Syntax
term_refusal Quoted bytes = Syntax
term_refusal Distinct bytes = Inappropriate DistinctForm
term_refusal Dollar bytes = if is_truth_word bytes then Syntax else Inappropriate DollarForm
term_refusal Number bytes = Inappropriate NumberForm
term_refusal Connective bytes = Syntax
term_refusal Mark bytes = Syntax
term_refusal Other bytes = Syntax

-- ---- atoms

-- without `!=` unless that may stand
abbrev pub is_allowed : Bool → Atom → Bool
is_allowed true a = true
is_allowed false true_atom = true
is_allowed false false_atom = true
is_allowed false (predicate_atom w ts) = true
is_allowed false (equation_atom positive s t) = positive

pub record AllowedAtom (may_differ : Bool) : Type 0 where
  pub atom : Atom
  pub allowed : is_allowed may_differ atom ≡ true

abbrev pub allowed_lexemes : (may_differ : Bool) → AllowedAtom may_differ → List Lexeme → List Lexeme
allowed_lexemes may_differ a rest = atom_lexemes a.atom rest

abbrev pub allowed_meant : (may_differ : Bool) → AllowedAtom may_differ → FormulaTree
allowed_meant may_differ a = atom_meant a.atom

abbrev pub ReadsAtom : Bool → Reader → List Name → ℕ → ℕ → ℕ → FormulaTree → Type 0
ReadsAtom may_differ r names level at next f =
    Reads (allowed_lexemes may_differ) (allowed_meant may_differ) r (one (an_atom may_differ)) names level at next f

-- ---- formulas

abbrev pub ReadsUnit : Reader → List Name → ℕ → ℕ → ℕ → FormulaTree → Type 0
ReadsUnit r names level at next f = Reads unit_lexemes unit_meant r (one a_unit) names level at next f

abbrev pub ReadsFormula : Reader → List Name → ℕ → ℕ → ℕ → FormulaTree → Type 0
ReadsFormula r names level at next f = Reads phrase_lexemes meant r formula_symbols names level at next f

-- further units after the first one and a sign, with that sign between them
abbrev pub further_units : List ℕ → Surroundings → List Symbol
further_units sign s = a_unit s ∷ maybe_more_units sign s ∷ []

abbrev pub ReadsUnits : List ℕ → FormulaTree → Reader → List Name → ℕ → ℕ → ℕ → List FormulaTree → Type 0
ReadsUnits sign first r names level at next fs =
    Reads (listed unit_lexemes (lexeme Connective sign)) (λ us. (first ∷ []) ++ items_meant unit_meant us) r (further_units sign) names level at next fs

-- the variables of a quantifier, and its unit
pub record BoundPhrase : Type 0 where
  pub variables : Variables
  pub unit : UnitPhrase

abbrev pub texts_of : Variables → List (List ℕ)
texts_of xs = xs.first ∷ xs.others

abbrev pub bound_lexemes : BoundPhrase → List Lexeme → List Lexeme
bound_lexemes b rest =
    lexeme Mark (codes "[") ∷ variables_lexemes b.variables (lexeme Mark (codes "]") ∷ lexeme Mark (codes ":") ∷ unit_lexemes b.unit rest)

abbrev pub bound_meant : Quantifier → BoundPhrase → FormulaTree
bound_meant q b = quantified q (texts_of b.variables) (unit_meant b.unit)

-- `!` where it is true, else `?`
abbrev pub quantifier_of : Bool → Quantifier
quantifier_of true = for_all
quantifier_of false = exists_some

abbrev pub ReadsBound : Bool → Reader → List Name → ℕ → ℕ → ℕ → FormulaTree → Type 0
ReadsBound all r names level at next f =
    Reads bound_lexemes (bound_meant (quantifier_of all)) r (one variables_bracket) names level at next f

-- the names of variables in brackets, which are bound in the unit that follows
pub record ReadsVariables (r : Reader) (names : List Name) (level at next : ℕ) (texts : List (List ℕ)) : Type 0 where
  pub variables : Variables
  pub are : texts_of variables ≡ texts
  pub spelled : drop at (lexemes r) ≡ lexeme Mark (codes "[") ∷ variables_lexemes variables (lexeme Mark (codes "]") ∷ drop next (lexemes r))
  pub leads :
      (s : Surroundings) → Suits r names level s
      → Leads r (variables_bracket s ∷ []) at (mark (codes ":") ∷ a_unit (binding texts s) ∷ []) next
  pub onward : at ≤ next

-- the names that are bound are the old ones and those
pub record Binds (old new : List Name) (texts : List (List ℕ)) : Type 0 where
  pub added : List Name
  pub grown : new ≡ old ++ added
  pub named : map (λ (n : Name). n.bytes.now) added ≡ texts

-- a connective of two operands
abbrev pub binary_of : Binary → BinaryConnective
binary_of Implies = implies
binary_of Implied = implied
binary_of Iff = equivalent
binary_of Xor = different
binary_of Nor = nor
binary_of Nand = nand

-- one variable of a quantifier, after those read before it
pub record ReadsVariable (r : Reader) (at next : ℕ) (before behind : List (List ℕ)) : Type 0 where
  pub name : List ℕ
  pub here : IsNext r at (lexeme Variable name)
  pub grown : behind ≡ before ++ name ∷ []
  pub leads : (s : Surroundings) → Leads r (next_variable before s ∷ []) at (more_variables behind s ∷ []) next
  pub next_is : next ≡ at + 1

pub record HaltsVariable (r : Reader) (at : ℕ) (before : List (List ℕ)) (halt : Halt) : Type 0 where
  pub by : (s : Surroundings) → Ends r (next_variable before s ∷ []) at halt

-- one more name is bound
pub record BindsOne (old new : List Name) (before behind : List (List ℕ)) : Type 0 where
  pub name : Name
  pub grown : new ≡ old ++ name ∷ []
  pub named : behind ≡ before ++ name.bytes.now ∷ []

-- ---- clauses

-- literals with `|` between them
abbrev pub further_literals : Surroundings → List Symbol
further_literals s = a_literal s ∷ maybe_more_literals s ∷ []

abbrev pub ReadsLiteral : Reader → List Name → ℕ → ℕ → ℕ → FormulaTree → Type 0
ReadsLiteral r names level at next f = Reads literal_lexemes literal_meant r (one a_literal) names level at next f

-- after `~`
pub record NegatedPhrase : Type 0 where
  pub bracketed : Bool
  pub atom : AllowedAtom false

abbrev pub negated_lexemes_by : Bool → Atom → List Lexeme → List Lexeme
negated_lexemes_by true a rest = lexeme Mark (codes "(") ∷ atom_lexemes a (lexeme Mark (codes ")") ∷ rest)
negated_lexemes_by false a rest = atom_lexemes a rest

abbrev pub negated_lexemes : NegatedPhrase → List Lexeme → List Lexeme
negated_lexemes p rest = negated_lexemes_by p.bracketed p.atom.atom rest

abbrev pub negated_meant : NegatedPhrase → FormulaTree
negated_meant p = atom_meant p.atom.atom

abbrev pub ReadsNegated : Reader → List Name → ℕ → ℕ → ℕ → FormulaTree → Type 0
ReadsNegated r names level at next f = Reads negated_lexemes negated_meant r (one a_plain_literal) names level at next f

abbrev pub ReadsLiterals : FormulaTree → Reader → List Name → ℕ → ℕ → ℕ → List FormulaTree → Type 0
ReadsLiterals first r names level at next fs =
    Reads (listed literal_lexemes (lexeme Connective (codes "|"))) (λ ls. (first ∷ []) ++ items_meant literal_meant ls) r further_literals names level at next fs

-- a clause without brackets
abbrev pub plain_clause : Listed LiteralPhrase → ClausePhrase
plain_clause ls = literals ls.first ls.others

abbrev pub plain_clause_lexemes : Listed LiteralPhrase → List Lexeme → List Lexeme
plain_clause_lexemes ls rest = clause_lexemes (plain_clause ls) rest

abbrev pub plain_clause_meant : Listed LiteralPhrase → FormulaTree
plain_clause_meant ls = clause_meant (plain_clause ls)

abbrev pub ReadsPlainClause : Reader → List Name → ℕ → ℕ → ℕ → FormulaTree → Type 0
ReadsPlainClause r names level at next f = Reads plain_clause_lexemes plain_clause_meant r further_literals names level at next f

abbrev pub ReadsClause : Reader → List Name → ℕ → ℕ → ℕ → FormulaTree → Type 0
ReadsClause r names level at next f = Reads clause_lexemes clause_meant r (one a_clause) names level at next f
