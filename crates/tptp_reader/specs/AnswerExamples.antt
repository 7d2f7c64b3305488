-- The machine's verdict on small texts, by their tokens: one for each cause.
use Rattle.std.specs.Prelude.{◌≡◌, ℕ, List, [], ◌∷◌, ◌++◌, codes}
use Rattle.tptp_token.specs.Lexemes.{Lexeme, lexeme}
use Rattle.tptp_token.specs.declared.token.Kind.TheVariants.{Lower, Variable, Quoted, Distinct, Dollar, Number, Connective, Mark, Other}
use Rattle.tptp_tree.specs.Causes.{typed, role_form, number_form, distinct_form, dollar_form, syntax, free_variable, role_not_taken, too_deep, left_out}
use Rattle.tptp_reader.specs.Machine.{read_up_to, refused_at, ran_out}
use Rattle.tptp_reader.specs.Verdicts.{verdict_on}

abbrev word : List ℕ → Lexeme
word bytes = lexeme Lower bytes

abbrev sign : List ℕ → Lexeme
sign bytes = lexeme Connective bytes

abbrev mark : List ℕ → Lexeme
mark bytes = lexeme Mark bytes

-- `WORD(a,ROLE,`, which has six tokens
abbrev heading : List ℕ → List ℕ → List Lexeme → List Lexeme
heading language role rest =
    word language ∷ mark (codes "(") ∷ word (codes "a") ∷ mark (codes ",") ∷ word role ∷ mark (codes ",") ∷ rest

abbrev end : List Lexeme
end = mark (codes ")") ∷ mark (codes ".") ∷ []

abbrev fof : List Lexeme → List Lexeme
fof rest = heading (codes "fof") (codes "axiom") rest

abbrev cnf : List Lexeme → List Lexeme
cnf rest = heading (codes "cnf") (codes "axiom") rest

-- `cnf(a,axiom,( ~ p(X) | X != 'A b' ), inference(res,[],{"x"})).` and what follows it
abbrev pub WholeClause : Type 0
WholeClause =
    verdict_on 3
    (cnf
    (mark (codes "(") ∷ sign (codes "~") ∷ word (codes "p") ∷ mark (codes "(") ∷ lexeme Variable (codes "X") ∷ mark (codes ")")
    ∷ sign (codes "|") ∷ lexeme Variable (codes "X") ∷ sign (codes "!=") ∷ lexeme Quoted (codes "'A b'") ∷ mark (codes ")")
    ∷ mark (codes ",") ∷ word (codes "inference") ∷ mark (codes "(") ∷ word (codes "res") ∷ mark (codes ",") ∷ mark (codes "[")
    ∷ mark (codes "]") ∷ mark (codes ",") ∷ lexeme Other (codes "{") ∷ lexeme Distinct (codes "\"x\"") ∷ lexeme Other (codes "}")
    ∷ mark (codes ")") ∷ end ++ word (codes "cnf") ∷ []))
    ≡ read_up_to 31

-- `fof(a,axiom,p & q => r).`
abbrev pub MixedConnectives : Type 0
MixedConnectives =
    verdict_on 500 (fof (word (codes "p") ∷ sign (codes "&") ∷ word (codes "q") ∷ sign (codes "=>") ∷ word (codes "r") ∷ end)) ≡ refused_at 9 syntax

-- `cnf(a,axiom,~ a != b).`
abbrev pub NegatedInequality : Type 0
NegatedInequality = verdict_on 500 (cnf (sign (codes "~") ∷ word (codes "a") ∷ sign (codes "!=") ∷ word (codes "b") ∷ end)) ≡ refused_at 8 syntax

-- `fof(a,axiom,p($true)).`
abbrev pub TruthAsTerm : Type 0
TruthAsTerm =
    verdict_on 500 (fof (word (codes "p") ∷ mark (codes "(") ∷ lexeme Dollar (codes "$true") ∷ mark (codes ")") ∷ end)) ≡ refused_at 8 syntax

-- `fof(a,axiom,p,).`
abbrev pub EmptyNotes : Type 0
EmptyNotes = verdict_on 500 (fof (word (codes "p") ∷ mark (codes ",") ∷ end)) ≡ refused_at 8 syntax

-- `fof(a,axiom,p,[)).`
abbrev pub CrossedNotes : Type 0
CrossedNotes = verdict_on 500 (fof (word (codes "p") ∷ mark (codes ",") ∷ mark (codes "[") ∷ mark (codes ")") ∷ end)) ≡ refused_at 9 syntax

-- `fof(a,axiom,X).`: an equation could still go on
abbrev pub FreeVariable : Type 0
FreeVariable = verdict_on 500 (fof (lexeme Variable (codes "X") ∷ end)) ≡ refused_at 6 free_variable

-- `fof(a,axiom,! [X] : p & X = a).`: a quantifier binds its unit alone
abbrev pub Unbound : Type 0
Unbound =
    verdict_on 500
    (fof
    (sign (codes "!") ∷ mark (codes "[") ∷ lexeme Variable (codes "X") ∷ mark (codes "]") ∷ mark (codes ":") ∷ word (codes "p")
    ∷ sign (codes "&") ∷ lexeme Variable (codes "X") ∷ end))
    ≡ refused_at 13 free_variable

-- `cnf(a,unknown,p).` and `cnf(a,conjecture,p).`
abbrev pub UnknownRole : Type 0
UnknownRole = verdict_on 500 (heading (codes "cnf") (codes "unknown") (word (codes "p") ∷ end)) ≡ refused_at 4 role_not_taken

abbrev pub ConjectureClause : Type 0
ConjectureClause = verdict_on 500 (heading (codes "cnf") (codes "conjecture") (word (codes "p") ∷ end)) ≡ refused_at 4 role_not_taken

-- `fof(a,axiom,! [X] : p).` with one level
abbrev pub TooDeep : Type 0
TooDeep =
    verdict_on 1
    (fof (sign (codes "!") ∷ mark (codes "[") ∷ lexeme Variable (codes "X") ∷ mark (codes "]") ∷ mark (codes ":") ∷ word (codes "p") ∷ end))
    ≡ refused_at 7 too_deep

-- `tff(a,axiom,p).`
abbrev pub TypedFormula : Type 0
TypedFormula = verdict_on 500 (heading (codes "tff") (codes "axiom") (word (codes "p") ∷ end)) ≡ refused_at 0 (left_out typed)

-- `fof(a,type,p).`
abbrev pub LeftOutRole : Type 0
LeftOutRole = verdict_on 500 (heading (codes "fof") (codes "type") (word (codes "p") ∷ end)) ≡ refused_at 4 (left_out role_form)

-- `fof(a,axiom,p(1)).`, `fof(a,axiom,"x" = a).` and `cnf(a,axiom,~ $less(a)).`
abbrev pub NumberTerm : Type 0
NumberTerm =
    verdict_on 500 (fof (word (codes "p") ∷ mark (codes "(") ∷ lexeme Number (codes "1") ∷ mark (codes ")") ∷ end)) ≡ refused_at 8 (left_out number_form)

abbrev pub DistinctTerm : Type 0
DistinctTerm =
    verdict_on 500 (fof (lexeme Distinct (codes "\"x\"") ∷ sign (codes "=") ∷ word (codes "a") ∷ end)) ≡ refused_at 6 (left_out distinct_form)

abbrev pub DollarAtom : Type 0
DollarAtom = verdict_on 500 (cnf (sign (codes "~") ∷ lexeme Dollar (codes "$less") ∷ end)) ≡ refused_at 7 (left_out dollar_form)

-- an include is no annotated formula, and a number is no role
abbrev pub IncludeEntry : Type 0
IncludeEntry = verdict_on 500 (word (codes "include") ∷ []) ≡ refused_at 0 syntax

abbrev pub NumberRole : Type 0
NumberRole =
    verdict_on 500 (word (codes "fof") ∷ mark (codes "(") ∷ word (codes "a") ∷ mark (codes ",") ∷ lexeme Number (codes "1") ∷ []) ≡ refused_at 4 syntax

-- `fof(a,axiom,p)`
abbrev pub CutOff : Type 0
CutOff = verdict_on 500 (fof (word (codes "p") ∷ mark (codes ")") ∷ [])) ≡ ran_out
