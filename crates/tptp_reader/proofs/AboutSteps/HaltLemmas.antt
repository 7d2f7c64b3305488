-- Why a token is refused that no text goes on with: which symbols take a variable and a word, and so a term, and which refuse
-- a token then.
use Rattle.std.proofs.Common.{◌≡◌, ◌⊎◌, inl, inr, ℕ, Bool, true, false, ◌&&◌, ◌||◌, Option, None, Some, List, [], ◌∷◌, ◌++◌, codes, refl, ap, ap₂, sym, ◌∙◌, bytes_eq}
use Rattle.std.specs.Prelude.{if◌then◌else◌}
use Rattle.std.specs.List.{list_all}
use Rattle.std.proofs.lemmas.Bool.{and_parts}
use Rattle.tptp_token.specs.Spelling.{is_digit, is_one_of}
use Rattle.tptp_token.specs.Lexemes.{Lexeme, lexeme, is_mark, is_connective}
use Rattle.tptp_token.specs.declared.token.Kind.{Kind}
use Rattle.tptp_token.specs.declared.token.Kind.TheVariants.{Lower, Variable, Quoted, Distinct, Dollar, Number, Connective, Mark, Other}
use Rattle.tptp_tree.specs.Brackets.{Bracket, round, square, curly, closes, opened, is_closing, with_opened, open_after}
use Rattle.tptp_tree.specs.Causes.{typed, role_form, number_form, distinct_form, dollar_form, Refusal, syntax, free_variable, role_not_taken, too_deep, left_out, Surroundings, deeper, binding, begun, outermost}
use Rattle.tptp_reader.specs.Machine.{Symbol, mark, a_term, maybe_arguments, more_arguments, an_atom, maybe_applied, maybe_equation, an_equation, a_unit, maybe_connected, maybe_more_units, variables_bracket, next_variable, more_variables, a_clause, a_literal, a_plain_literal, maybe_more_literals, a_name, a_role, end_of_body, first_note, more_notes, an_annotated, Step, takes, passes, stops, taken, followed_by, arguments, step, term_step, atom_step, equation_step, unit_step, connected_step, variable_step, literal_step, name_step, role_step, note_step, end_of_notes_step, before_body, formula_symbols, typed_words, annotated_step, is_binary_connective, is_sign_of_equation, is_truth_word}
use Rattle.tptp_reader.specs.Answers.{form_of_token}
use Rattle.tptp_reader.proofs.AboutTexts.TokenTests.{choose, lexeme-same}
use Rattle.list_lemmas.proofs.Bools.{or-either}

-- a variable and a word
abbrev pub a_variable : Lexeme
a_variable = lexeme Variable (codes "X")

abbrev pub a_word : Lexeme
a_word = lexeme Lower (codes "a")

-- all but the beginning of an entry
abbrev pub is_inner : Symbol → Bool
is_inner (an_annotated limit) = false
is_inner a = true

abbrev pub TakenBy : Symbol → Lexeme → Type 0
TakenBy a t = (new : List Symbol) × (c : Option Refusal) × (step a t ≡ takes new c)

-- a term may stand there
abbrev TermAt : Symbol → Type 0
TermAt a = TakenBy a a_variable × TakenBy a a_word

-- the reason is right
abbrev pub StopIsRight : Symbol → Lexeme → Refusal → Type 0
StopIsRight a t syntax = TakenBy a a_variable → TakenBy a a_word → form_of_token t.kind t.bytes ≡ None
StopIsRight a t (left_out typed) = (is_inner a ≡ false) × (t.kind ≡ Lower) × (is_one_of typed_words t.bytes ≡ true)
StopIsRight a t (left_out role_form) = ⊥
StopIsRight a t (left_out number_form) = TermAt a × (form_of_token t.kind t.bytes ≡ Some number_form)
StopIsRight a t (left_out distinct_form) = TermAt a × (form_of_token t.kind t.bytes ≡ Some distinct_form)
StopIsRight a t (left_out dollar_form) = TermAt a × (form_of_token t.kind t.bytes ≡ Some dollar_form)
StopIsRight a t free_variable = ⊥
StopIsRight a t role_not_taken = ⊥
StopIsRight a t too_deep = ⊥

-- Beginnings of entries never come; what is left out before this token is left out before a term; a stop is right.
abbrev pub IsHaltOf : Symbol → Lexeme → Step → Type 0
IsHaltOf a t (takes new cause) = list_all is_inner new ≡ true
IsHaltOf a t passes = (step a a_variable ≡ passes) × (step a a_word ≡ passes)
IsHaltOf a t (stops refusal) = StopIsRight a t refusal

-- a symbol that takes no variable, or no word
not_taken : (x : Step) → (refusal : Refusal) → x ≡ stops refusal → (P : Type 0) → (new : List Symbol) × (c : Option Refusal) × (x ≡ takes new c) → P
not_taken x refusal e P h = absurd (let f : stops refusal ≡ takes h.0 h.1 = sym e ∙ h.2 in cc)

-- ---- terms and atoms

term-halts : (s : Surroundings) (k : Kind) (bytes : List ℕ) → IsHaltOf (a_term s) (lexeme k bytes) (term_step s k bytes)
term-halts s Lower bytes = refl
term-halts s Variable bytes = refl
term-halts s Quoted bytes = refl
term-halts s Distinct bytes = (((_, _, refl), (_, _, refl)), refl)
term-halts s Dollar bytes = by (is_truth_word bytes) refl
  where
    by : (b : Bool) → is_truth_word bytes ≡ b → StopIsRight (a_term s) (lexeme Dollar bytes) (if b then syntax else left_out dollar_form)
    by true e = λ h k. ap (λ b. if b then None else Some dollar_form) e
    by false e = (((_, _, refl), (_, _, refl)), ap (λ b. if b then None else Some dollar_form) e)
term-halts s Number bytes = (((_, _, refl), (_, _, refl)), refl)
term-halts s Connective bytes = λ h k. refl
term-halts s Mark bytes = λ h k. refl
term-halts s Other bytes = λ h k. refl

-- whatever begins with an atom, among other things
atom-halts :
    (a : Symbol) (b : Bool) (s : Surroundings) (k : Kind) (bytes : List ℕ) → TermAt a → IsHaltOf a (lexeme k bytes) (atom_step b s k bytes)
atom-halts a b s Lower bytes t = refl
atom-halts a b s Variable bytes t = refl
atom-halts a b s Quoted bytes t = refl
atom-halts a b s Distinct bytes t = (t, refl)
atom-halts a b s Dollar bytes t =
    choose (IsHaltOf a (lexeme Dollar bytes)) (is_truth_word bytes) (taken []) (stops (left_out dollar_form)) (λ e. refl)
    (λ e. (t, ap (λ b. if b then None else Some dollar_form) e))
atom-halts a b s Number bytes t = (t, refl)
atom-halts a b s Connective bytes t = λ h k. refl
atom-halts a b s Mark bytes t = λ h k. refl
atom-halts a b s Other bytes t = λ h k. refl

-- a sign of an equation, or what comes otherwise
equation-halts : (a : Symbol) (b : Bool) (s : Surroundings) (t : Lexeme) (other : Step) → IsHaltOf a t other → IsHaltOf a t (equation_step b s other t)
equation-halts a b s t other h = choose (IsHaltOf a t) (is_sign_of_equation b t) (taken (a_term s ∷ [])) other (λ e. refl) (λ e. h)

no-sign-before : (b : Bool) (s : Surroundings) → (step (maybe_equation b s) a_variable ≡ passes) × (step (maybe_equation b s) a_word ≡ passes)
no-sign-before true s = (refl, refl)
no-sign-before false s = (refl, refl)

not-applied : (b : Bool) (s : Surroundings) → (step (maybe_applied b s) a_variable ≡ passes) × (step (maybe_applied b s) a_word ≡ passes)
not-applied true s = (refl, refl)
not-applied false s = (refl, refl)

sign-wanted : (b : Bool) (s : Surroundings) → step (an_equation b s) a_variable ≡ stops syntax
sign-wanted true s = refl
sign-wanted false s = refl

atom-term : (b : Bool) (s : Surroundings) → TermAt (an_atom b s)
atom-term b s = ((_, _, refl), (_, _, refl))

-- ---- formulas and clauses

unit-halts : (s : Surroundings) (t : Lexeme) → IsHaltOf (a_unit s) t (unit_step s t)
unit-halts s t =
    choose (IsHaltOf (a_unit s) t) (is_connective (codes "~") t) (takes (a_unit (deeper s) ∷ []) (begun s)) _ (λ e. refl)
    (λ e. choose (IsHaltOf (a_unit s) t) (is_connective (codes "!") t || is_connective (codes "?") t) (takes (variables_bracket (deeper s) ∷ []) (begun s)) _ (λ f. refl)
    (λ f. choose (IsHaltOf (a_unit s) t) (is_mark (codes "(") t) (takes (a_unit (deeper s) ∷ maybe_connected (deeper s) ∷ mark (codes ")") ∷ []) (begun s)) (atom_step true s t.kind t.bytes) (λ g. refl)
    (λ g. atom-halts (a_unit s) true s t.kind t.bytes ((_, _, refl), (_, _, refl)))))

connected-halts : (s : Surroundings) (t : Lexeme) → IsHaltOf (maybe_connected s) t (connected_step s t)
connected-halts s t =
    choose (IsHaltOf (maybe_connected s) t) (is_connective (codes "&") t) (taken (a_unit s ∷ maybe_more_units (codes "&") s ∷ [])) _ (λ e. refl)
    (λ e. choose (IsHaltOf (maybe_connected s) t) (is_connective (codes "|") t) (taken (a_unit s ∷ maybe_more_units (codes "|") s ∷ [])) _ (λ f. refl)
    (λ f. choose (IsHaltOf (maybe_connected s) t) (is_binary_connective t) (taken (a_unit s ∷ [])) passes (λ g. refl) (λ g. (refl, refl))))

variable-halts : (xs : List (List ℕ)) (s : Surroundings) (k : Kind) (bytes : List ℕ) → IsHaltOf (next_variable xs s) (lexeme k bytes) (variable_step xs s k bytes)
variable-halts xs s Variable bytes = refl
variable-halts xs s Lower bytes = λ h k. not_taken _ syntax refl _ k
variable-halts xs s Quoted bytes = λ h k. not_taken _ syntax refl _ k
variable-halts xs s Distinct bytes = λ h k. not_taken _ syntax refl _ k
variable-halts xs s Dollar bytes = λ h k. not_taken _ syntax refl _ k
variable-halts xs s Number bytes = λ h k. not_taken _ syntax refl _ k
variable-halts xs s Connective bytes = λ h k. not_taken _ syntax refl _ k
variable-halts xs s Mark bytes = λ h k. not_taken _ syntax refl _ k
variable-halts xs s Other bytes = λ h k. not_taken _ syntax refl _ k

literal-halts : (a : Symbol) (s : Surroundings) (t : Lexeme) → TermAt a → IsHaltOf a t (literal_step s t)
literal-halts a s t h =
    choose (IsHaltOf a t) (is_connective (codes "~") t) (takes (a_plain_literal (deeper s) ∷ []) (begun s)) (atom_step true s t.kind t.bytes) (λ e. refl)
    (λ e. atom-halts a true s t.kind t.bytes h)

inner-more : (new : List Symbol) (s : Surroundings) → list_all is_inner new ≡ true → list_all is_inner (new ++ maybe_more_literals s ∷ []) ≡ true
inner-more [] s h = refl
inner-more (a ∷ new) s h =
    let parts = and_parts (is_inner a) (list_all is_inner new) h in ap₂ (λ x y. x && y) parts.0 (inner-more new s parts.1)

followed-halts :
    (s : Surroundings) (t : Lexeme) (x : Step) → ((x ≡ passes) → ⊥) → IsHaltOf (a_clause s) t x → IsHaltOf (a_clause s) t (followed_by (maybe_more_literals s ∷ []) x)
followed-halts s t (takes new cause) n h = inner-more new s h
followed-halts s t passes n h = absurd (n refl)
followed-halts s t (stops refusal) n h = h

atom-never-passes : (b : Bool) (s : Surroundings) (k : Kind) (bytes : List ℕ) → (atom_step b s k bytes ≡ passes) → ⊥
atom-never-passes b s Dollar bytes e = by (is_truth_word bytes) e
  where
    by : (c : Bool) → ((if c then taken [] else stops (left_out dollar_form)) ≡ passes) → ⊥
    by true f = let g : takes [] None ≡ passes = f in cc
    by false f = let g : stops (left_out dollar_form) ≡ passes = f in cc
atom-never-passes b s k bytes e = cc

literal-never-passes : (s : Surroundings) (t : Lexeme) → (literal_step s t ≡ passes) → ⊥
literal-never-passes s t e = by (is_connective (codes "~") t) e
  where
    by : (c : Bool) → ((if c then takes (a_plain_literal (deeper s) ∷ []) (begun s) else atom_step true s t.kind t.bytes) ≡ passes) → ⊥
    by true f = let g : takes (a_plain_literal (deeper s) ∷ []) (begun s) ≡ passes = f in cc
    by false f = atom-never-passes true s t.kind t.bytes f

clause-halts : (s : Surroundings) (t : Lexeme) → IsHaltOf (a_clause s) t (step (a_clause s) t)
clause-halts s t =
    choose (IsHaltOf (a_clause s) t) (is_mark (codes "(") t) (takes (a_clause (deeper s) ∷ mark (codes ")") ∷ []) (begun s)) (followed_by (maybe_more_literals s ∷ []) (literal_step s t)) (λ e. refl)
    (λ e. followed-halts s t (literal_step s t) (literal-never-passes s t) (literal-halts (a_clause s) s t ((_, _, refl), (_, _, refl))))

plain-halts : (s : Surroundings) (t : Lexeme) → IsHaltOf (a_plain_literal s) t (step (a_plain_literal s) t)
plain-halts s t =
    choose (IsHaltOf (a_plain_literal s) t) (is_mark (codes "(") t) (takes (an_atom false (deeper s) ∷ mark (codes ")") ∷ []) (begun s)) (atom_step false s t.kind t.bytes) (λ e. refl)
    (λ e. atom-halts (a_plain_literal s) false s t.kind t.bytes ((_, _, refl), (_, _, refl)))

-- ---- notes

closing-formless : (t : Lexeme) → is_closing t ≡ true → form_of_token t.kind t.bytes ≡ None
closing-formless t h = by (or-either (closes round t) (closes square t || closes curly t) h)
  where
    of : (k : Kind) (bytes : List ℕ) → t ≡ lexeme k bytes → form_of_token k bytes ≡ None → form_of_token t.kind t.bytes ≡ None
    of k bytes e f = ap (λ (x : Lexeme). form_of_token x.kind x.bytes) e ∙ f

    last : (closes square t ≡ true) ⊎ (closes curly t ≡ true) → form_of_token t.kind t.bytes ≡ None
    last (inl e) = of Mark (codes "]") (lexeme-same Mark (codes "]") t e) refl
    last (inr e) = of Other (codes "}") (lexeme-same Other (codes "}") t e) refl

    by : (closes round t ≡ true) ⊎ ((closes square t || closes curly t) ≡ true) → form_of_token t.kind t.bytes ≡ None
    by (inl e) = of Mark (codes ")") (lexeme-same Mark (codes ")") t e) refl
    by (inr e) = last (or-either (closes square t) (closes curly t) e)

nothing-opened : (o : Option Bracket) (c : Bool) (bs : List Bracket) → with_opened o c bs ≡ None → c ≡ true
nothing-opened (Some b) c bs e = absurd (let f : Some (b ∷ bs) ≡ None = e in cc)
nothing-opened None true bs e = refl
nothing-opened None false bs e = absurd (let f : Some bs ≡ None = e in cc)

unmatched : (bs : List Bracket) (t : Lexeme) → open_after bs t ≡ None → is_closing t ≡ true
unmatched [] t e = nothing-opened (opened t) (is_closing t) [] e
unmatched (b ∷ bs) t e = by (closes b t) e
  where
    by : (c : Bool) → (if c then Some bs else with_opened (opened t) (is_closing t) (b ∷ bs)) ≡ None → is_closing t ≡ true
    by true f = absurd (let g : Some bs ≡ None = f in cc)
    by false f = nothing-opened (opened t) (is_closing t) (b ∷ bs) f

note-halts :
    (limit : ℕ) (t : Lexeme) (o : Option (List Bracket)) → open_after [] t ≡ o → IsHaltOf (first_note limit) t (note_step limit [] o (stops syntax) t)
note-halts limit t None e = λ h k. closing-formless t (unmatched [] t e)
note-halts limit t (Some behind) e = refl

end_of_notes-halts : (limit : ℕ) (bs : List Bracket) (t : Lexeme) → open_after bs t ≡ None → IsHaltOf (more_notes limit bs) t (end_of_notes_step bs t)
end_of_notes-halts limit [] t e =
    choose (IsHaltOf (more_notes limit []) t) (is_mark (codes ")") t) (taken (mark (codes ".") ∷ [])) (stops syntax) (λ f. refl)
    (λ f h k. closing-formless t (unmatched [] t e))
end_of_notes-halts limit (b ∷ bs) t e = λ h k. closing-formless t (unmatched (b ∷ bs) t e)

more_notes-halts :
    (limit : ℕ) (bs : List Bracket) (t : Lexeme) (o : Option (List Bracket)) → open_after bs t ≡ o
    → IsHaltOf (more_notes limit bs) t (note_step limit bs o (end_of_notes_step bs t) t)
more_notes-halts limit bs t None e = end_of_notes-halts limit bs t e
more_notes-halts limit bs t (Some behind) e = refl

-- ---- names, roles, entries

name-halts : (k : Kind) (bytes : List ℕ) → IsHaltOf a_name (lexeme k bytes) (name_step k bytes)
name-halts Lower bytes = refl
name-halts Quoted bytes = refl
name-halts Number bytes =
    choose (IsHaltOf a_name (lexeme Number bytes)) (list_all is_digit bytes) (taken []) (stops syntax) (λ e. refl) (λ e h k. not_taken _ syntax refl _ h)
name-halts Variable bytes = λ h k. not_taken _ syntax refl _ h
name-halts Distinct bytes = λ h k. not_taken _ syntax refl _ h
name-halts Dollar bytes = λ h k. not_taken _ syntax refl _ h
name-halts Connective bytes = λ h k. not_taken _ syntax refl _ h
name-halts Mark bytes = λ h k. not_taken _ syntax refl _ h
name-halts Other bytes = λ h k. not_taken _ syntax refl _ h

role-halts : (is_clause : Bool) (k : Kind) (bytes : List ℕ) → IsHaltOf (a_role is_clause) (lexeme k bytes) (role_step is_clause k bytes)
role-halts is_clause Lower bytes = refl
role-halts is_clause Variable bytes = λ h k. not_taken _ syntax refl _ h
role-halts is_clause Quoted bytes = λ h k. not_taken _ syntax refl _ h
role-halts is_clause Distinct bytes = λ h k. not_taken _ syntax refl _ h
role-halts is_clause Dollar bytes = λ h k. not_taken _ syntax refl _ h
role-halts is_clause Number bytes = λ h k. not_taken _ syntax refl _ h
role-halts is_clause Connective bytes = λ h k. not_taken _ syntax refl _ h
role-halts is_clause Mark bytes = λ h k. not_taken _ syntax refl _ h
role-halts is_clause Other bytes = λ h k. not_taken _ syntax refl _ h

typed-halts : (limit : ℕ) (bytes : List ℕ) → IsHaltOf (an_annotated limit) (lexeme Lower bytes) (stops (if is_one_of typed_words bytes then left_out typed else syntax))
typed-halts limit bytes = by (is_one_of typed_words bytes) refl
  where
    by : (b : Bool) → is_one_of typed_words bytes ≡ b → StopIsRight (an_annotated limit) (lexeme Lower bytes) (if b then left_out typed else syntax)
    by true e = (refl, refl, e)
    by false e = λ h k. not_taken _ syntax refl _ h

annotated-halts : (limit : ℕ) (k : Kind) (bytes : List ℕ) → IsHaltOf (an_annotated limit) (lexeme k bytes) (annotated_step limit k bytes)
annotated-halts limit Lower bytes =
    choose (IsHaltOf (an_annotated limit) (lexeme Lower bytes)) (bytes_eq bytes (codes "fof")) (taken (before_body false ++ formula_symbols (outermost limit false) ++ end_of_body limit ∷ [])) _ (λ e. refl)
    (λ e. choose (IsHaltOf (an_annotated limit) (lexeme Lower bytes)) (bytes_eq bytes (codes "cnf")) (taken (before_body true ++ a_clause (outermost limit true) ∷ end_of_body limit ∷ [])) _ (λ f. refl)
    (λ f. typed-halts limit bytes))
annotated-halts limit Variable bytes = λ h k. not_taken _ syntax refl _ h
annotated-halts limit Quoted bytes = λ h k. not_taken _ syntax refl _ h
annotated-halts limit Distinct bytes = λ h k. not_taken _ syntax refl _ h
annotated-halts limit Dollar bytes = λ h k. not_taken _ syntax refl _ h
annotated-halts limit Number bytes = λ h k. not_taken _ syntax refl _ h
annotated-halts limit Connective bytes = λ h k. not_taken _ syntax refl _ h
annotated-halts limit Mark bytes = λ h k. not_taken _ syntax refl _ h
annotated-halts limit Other bytes = λ h k. not_taken _ syntax refl _ h

-- a mark, or a stop
mark-halts : (a : Symbol) (bytes : List ℕ) (t : Lexeme) (new : List Symbol) (cause : Option Refusal) (other : Step) → list_all is_inner new ≡ true → IsHaltOf a t other → IsHaltOf a t (if is_mark bytes t then takes new cause else other)
mark-halts a bytes t new cause other h k = choose (IsHaltOf a t) (is_mark bytes t) (takes new cause) other (λ e. h) (λ e. k)

pub step-halts : (a : Symbol) (t : Lexeme) → IsHaltOf a t (step a t)
step-halts (mark bytes) t = mark-halts (mark bytes) bytes t [] None (stops syntax) refl (λ h k. not_taken _ syntax refl _ h)
step-halts (a_term s) t = term-halts s t.kind t.bytes
step-halts (maybe_arguments s) t = mark-halts (maybe_arguments s) (codes "(") t (arguments (deeper s)) (begun s) passes refl (refl, refl)
step-halts (more_arguments s) t =
    mark-halts (more_arguments s) (codes ",") t (arguments s) None _ refl
    (mark-halts (more_arguments s) (codes ")") t [] None (stops syntax) refl (λ h k. not_taken _ syntax refl _ h))
step-halts (an_atom b s) t = atom-halts (an_atom b s) b s t.kind t.bytes (atom-term b s)
step-halts (maybe_applied b s) t =
    mark-halts (maybe_applied b s) (codes "(") t (a_term (deeper s) ∷ more_arguments (deeper s) ∷ maybe_equation b s ∷ []) (begun s) _ refl
    (equation-halts (maybe_applied b s) b s t passes (not-applied b s))
step-halts (maybe_equation b s) t = equation-halts (maybe_equation b s) b s t passes (no-sign-before b s)
step-halts (an_equation b s) t = equation-halts (an_equation b s) b s t (stops syntax) (λ h k. not_taken _ syntax (sign-wanted b s) _ h)
step-halts (a_unit s) t = unit-halts s t
step-halts (maybe_connected s) t = connected-halts s t
step-halts (maybe_more_units sign s) t =
    choose (IsHaltOf (maybe_more_units sign s) t) (is_connective sign t) (taken (a_unit s ∷ maybe_more_units sign s ∷ [])) passes (λ e. refl) (λ e. (refl, refl))
step-halts (variables_bracket s) t =
    mark-halts (variables_bracket s) (codes "[") t (next_variable [] s ∷ []) (begun s) (stops syntax) refl (λ h k. not_taken _ syntax refl _ h)
step-halts (next_variable xs s) t = variable-halts xs s t.kind t.bytes
step-halts (more_variables xs s) t =
    mark-halts (more_variables xs s) (codes ",") t (next_variable xs s ∷ []) None _ refl
    (mark-halts (more_variables xs s) (codes "]") t (mark (codes ":") ∷ a_unit (binding xs s) ∷ []) None (stops syntax) refl (λ h k. not_taken _ syntax refl _ h))
step-halts (a_clause s) t = clause-halts s t
step-halts (a_literal s) t = literal-halts (a_literal s) s t ((_, _, refl), (_, _, refl))
step-halts (a_plain_literal s) t = plain-halts s t
step-halts (maybe_more_literals s) t =
    choose (IsHaltOf (maybe_more_literals s) t) (is_connective (codes "|") t) (taken (a_literal s ∷ maybe_more_literals s ∷ [])) passes (λ e. refl) (λ e. (refl, refl))
step-halts a_name t = name-halts t.kind t.bytes
step-halts (a_role is_clause) t = role-halts is_clause t.kind t.bytes
step-halts (end_of_body limit) t =
    mark-halts (end_of_body limit) (codes ",") t (first_note limit ∷ []) None _ refl
    (mark-halts (end_of_body limit) (codes ")") t (mark (codes ".") ∷ []) None (stops syntax) refl (λ h k. not_taken _ syntax refl _ h))
step-halts (first_note limit) t = note-halts limit t (open_after [] t) refl
step-halts (more_notes limit unclosed) t = more_notes-halts limit unclosed t (open_after unclosed t) refl
step-halts (an_annotated limit) t = annotated-halts limit t.kind t.bytes
