-- Each step of the machine on names, roles, notes and annotated formulas is right, and so is each step.
use Rattle.std.proofs.Common.{◌≡◌, ℕ, Bool, true, false, ◌&&◌, Option, None, Some, List, [], ◌∷◌, ◌++◌, codes, refl, ap, ap₂, ◌∙◌, bytes_eq}
use Rattle.std.specs.Prelude.{if◌then◌else◌}
use Rattle.std.specs.List.{list_all}
use Rattle.std.proofs.lemmas.Slice.Eq.{bytes_eq-Decides}
use Rattle.tptp_token.specs.Spelling.{is_digit, is_one_of}
use Rattle.tptp_token.specs.Lexemes.{Lexeme, lexeme, is_mark}
use Rattle.tptp_token.specs.declared.token.Kind.{Kind}
use Rattle.tptp_token.specs.declared.token.Kind.TheVariants.{Lower, Variable, Quoted, Distinct, Dollar, Number, Connective, Mark, Other}
use Rattle.tptp_token.specs.Words.{bare, quoted}
use Rattle.tptp_tree.specs.Brackets.{Bracket, open_after, open_behind, is_nothing_open}
use Rattle.tptp_tree.specs.Entries.{NamePhrase, word_name, digits_name, name_lexeme, is_right_name, formula_body, clause_body, Body, is_clause_body, body_lexemes, language_word, notes_lexemes}
use Rattle.tptp_tree.specs.Causes.{syntax, left_out, typed, outermost}
use Rattle.tptp_reader.specs.Machine.{Symbol, mark, a_term, maybe_arguments, more_arguments, an_atom, maybe_applied, maybe_equation, an_equation, a_unit, maybe_connected, maybe_more_units, variables_bracket, next_variable, more_variables, a_clause, a_literal, a_plain_literal, maybe_more_literals, a_name, a_role, end_of_body, first_note, more_notes, an_annotated, stops, taken, step, name_step, role_step, note_step, end_of_notes_step, before_body, formula_symbols, typed_words, language_step, annotated_step}
use Rattle.tptp_reader.proofs.AboutTexts.Spelled.{entry_end, Spells, SpellAll, IsStepOf}
use Rattle.tptp_reader.proofs.AboutTexts.TokenTests.{choose, mark-same}
use Rattle.tptp_reader.proofs.AboutSteps.StepTerms.{term-right, arguments-right, more_arguments-right, atom-right, applied-right, equation-right, sign-right}
use Rattle.tptp_reader.proofs.AboutSteps.StepFormulas.{formula-of, unit-right, connected-right, units-right, bracket-right, variable-right, more_variables-right, clause-right, literal-right, plain-right, literals-right}

mark-right : (bytes : List ℕ) (t : Lexeme) → IsStepOf (mark bytes) t (step (mark bytes) t)
mark-right bytes t =
    choose (IsStepOf (mark bytes) t) (is_mark bytes t) (taken []) (stops syntax) (λ e ts rest h. ap₂ (λ x xs. x ∷ xs) (mark-same bytes t e) h) (λ e. tt)

name-right : (k : Kind) (bytes : List ℕ) → IsStepOf a_name (lexeme k bytes) (name_step k bytes)
name-right Lower bytes = λ ts rest h. (word_name (bare bytes), refl, ap (λ xs. lexeme Lower bytes ∷ xs) h)
name-right Quoted bytes = λ ts rest h. (word_name (quoted bytes), refl, ap (λ xs. lexeme Quoted bytes ∷ xs) h)
name-right Number bytes =
    choose (IsStepOf a_name (lexeme Number bytes)) (list_all is_digit bytes) (taken []) (stops syntax)
    (λ e ts rest h. (digits_name bytes, e, ap (λ xs. lexeme Number bytes ∷ xs) h)) (λ e. tt)
name-right Variable bytes = tt
name-right Distinct bytes = tt
name-right Dollar bytes = tt
name-right Connective bytes = tt
name-right Mark bytes = tt
name-right Other bytes = tt

role-right : (is_clause : Bool) (k : Kind) (bytes : List ℕ) → IsStepOf (a_role is_clause) (lexeme k bytes) (role_step is_clause k bytes)
role-right is_clause Lower bytes = λ ts rest h. (bytes, ap (λ xs. lexeme Lower bytes ∷ xs) h)
role-right is_clause Variable bytes = tt
role-right is_clause Quoted bytes = tt
role-right is_clause Distinct bytes = tt
role-right is_clause Dollar bytes = tt
role-right is_clause Number bytes = tt
role-right is_clause Connective bytes = tt
role-right is_clause Mark bytes = tt
role-right is_clause Other bytes = tt

-- ---- notes

end_of_body-right : (limit : ℕ) (t : Lexeme) → IsStepOf (end_of_body limit) t (step (end_of_body limit) t)
end_of_body-right limit t =
    choose (IsStepOf (end_of_body limit) t) (is_mark (codes ",") t) (taken (first_note limit ∷ [])) _
    (λ e ts rest h. (h.1.0 ∷ h.1.1, h.1.2, ap₂ (λ x xs. x ∷ xs) (mark-same (codes ",") t e) (h.1.3 ∙ ap (λ xs. h.1.0 ∷ h.1.1 ++ entry_end xs) h.2)))
    (λ e. choose (IsStepOf (end_of_body limit) t) (is_mark (codes ")") t) (taken (mark (codes ".") ∷ [])) (stops syntax)
    (λ f ts rest h. ([], refl, ap₂ (λ x xs. x ∷ xs) (mark-same (codes ")") t f) (h.1 ∙ ap (λ xs. lexeme Mark (codes ".") ∷ xs) h.2))) (λ f. tt))

note-right :
    (limit : ℕ) (t : Lexeme) (o : Option (List Bracket)) → open_after [] t ≡ o → IsStepOf (first_note limit) t (note_step limit [] o (stops syntax) t)
note-right limit t None e = tt
note-right limit t (Some behind) e = λ ts rest h.
    (t, h.1.0, ap (λ o. is_nothing_open (open_behind o h.1.0)) e ∙ h.1.1, ap (λ xs. t ∷ xs) (h.1.2 ∙ ap (λ xs. h.1.0 ++ entry_end xs) h.2))

end_of_notes-right : (limit : ℕ) (unclosed : List Bracket) (t : Lexeme) → IsStepOf (more_notes limit unclosed) t (end_of_notes_step unclosed t)
end_of_notes-right limit [] t =
    choose (IsStepOf (more_notes limit []) t) (is_mark (codes ")") t) (taken (mark (codes ".") ∷ [])) (stops syntax)
    (λ e ts rest h. ([], refl, ap₂ (λ x xs. x ∷ xs) (mark-same (codes ")") t e) (h.1 ∙ ap (λ xs. lexeme Mark (codes ".") ∷ xs) h.2))) (λ e. tt)
end_of_notes-right limit (b ∷ bs) t = tt

more_notes-right :
    (limit : ℕ) (unclosed : List Bracket) (t : Lexeme) (o : Option (List Bracket)) → open_after unclosed t ≡ o
    → IsStepOf (more_notes limit unclosed) t (note_step limit unclosed o (end_of_notes_step unclosed t) t)
more_notes-right limit unclosed t None e = end_of_notes-right limit unclosed t
more_notes-right limit unclosed t (Some behind) e = λ ts rest h.
    (t ∷ h.1.0, ap (λ o. is_nothing_open (open_behind o h.1.0)) e ∙ h.1.1, ap (λ xs. t ∷ xs) (h.1.2 ∙ ap (λ xs. h.1.0 ++ entry_end xs) h.2))

-- ---- entries

heading-of :
    (is_clause : Bool) (more : List Symbol) (ts rest : List Lexeme) → SpellAll (before_body is_clause ++ more) ts rest
    → (n : NamePhrase) × (role : List ℕ) × (between : List Lexeme) × (is_right_name n ≡ true)
    × (ts ≡ lexeme Mark (codes "(") ∷ name_lexeme n ∷ lexeme Mark (codes ",") ∷ lexeme Lower role ∷ lexeme Mark (codes ",") ∷ between)
    × SpellAll more between rest
heading-of is_clause more ts rest h =
    let name = h.2.1 in
    let role = h.2.2.2.1 in
    let last = h.2.2.2.2 in (
      name.0,
      role.0,
      last.0,
      name.1,
      h.1 ∙ ap (λ xs. lexeme Mark (codes "(") ∷ xs)
          (name.2 ∙ ap (λ xs. name_lexeme name.0 ∷ xs)
          (h.2.2.1 ∙ ap (λ xs. lexeme Mark (codes ",") ∷ xs) (role.1 ∙ ap (λ xs. lexeme Lower role.0 ∷ xs) last.1))),
      last.2,
    )

-- an entry from its parts
entry-of :
    (limit : ℕ) (body : Body) (n : NamePhrase) (role : List ℕ) (bytes : List ℕ) (ts between rest last : List Lexeme)
    → is_right_name n ≡ true
    → bytes ≡ language_word (is_clause_body body)
    → ts ≡ lexeme Mark (codes "(") ∷ name_lexeme n ∷ lexeme Mark (codes ",") ∷ lexeme Lower role ∷ lexeme Mark (codes ",") ∷ between
    → between ≡ body_lexemes body last → SpellAll (end_of_body limit ∷ []) last rest
    → Spells (an_annotated limit) (lexeme Lower bytes ∷ ts) rest
entry-of limit body n role bytes ts between rest last right word e f h = (
  record { name = n; role = role; body = body; notes = h.1.0 },
  ap₂ (λ x y. x && y) right h.1.1,
  ap₂ (λ x xs. lexeme Lower x ∷ xs) word
      (e ∙ ap (λ xs. lexeme Mark (codes "(") ∷ name_lexeme n ∷ lexeme Mark (codes ",") ∷ lexeme Lower role ∷ lexeme Mark (codes ",") ∷ xs)
      (f ∙ ap (body_lexemes body) (h.1.2 ∙ ap (λ xs. notes_lexemes h.1.0 (entry_end xs)) h.2))),
)

language-right : (limit : ℕ) (bytes : List ℕ) → IsStepOf (an_annotated limit) (lexeme Lower bytes) (language_step limit bytes)
language-right limit bytes =
    choose (IsStepOf (an_annotated limit) (lexeme Lower bytes)) (bytes_eq bytes (codes "fof"))
    (taken (before_body false ++ formula_symbols (outermost limit false) ++ end_of_body limit ∷ [])) _
    (λ e ts rest h.
    let head = heading-of false (a_unit (outermost limit false) ∷ maybe_connected (outermost limit false) ∷ end_of_body limit ∷ []) ts rest h in
    let p = formula-of (outermost limit false) (end_of_body limit ∷ []) head.2 rest head.5 in
    entry-of limit (formula_body p.0) head.0 head.1 bytes ts head.2 rest p.1 head.3 ((bytes_eq-Decides bytes (codes "fof")).0 e) head.4 p.2 p.3)
    (λ e. choose (IsStepOf (an_annotated limit) (lexeme Lower bytes)) (bytes_eq bytes (codes "cnf"))
    (taken (before_body true ++ a_clause (outermost limit true) ∷ end_of_body limit ∷ [])) (stops (if is_one_of typed_words bytes then left_out typed else syntax))
    (λ f ts rest h.
    let head = heading-of true (a_clause (outermost limit true) ∷ end_of_body limit ∷ []) ts rest h in
    entry-of limit (clause_body head.5.1.0) head.0 head.1 bytes ts head.2 rest head.5.0 head.3 ((bytes_eq-Decides bytes (codes "cnf")).0 f) head.4 head.5.1.1 head.5.2)
    (λ f. tt))

annotated-right : (limit : ℕ) (k : Kind) (bytes : List ℕ) → IsStepOf (an_annotated limit) (lexeme k bytes) (annotated_step limit k bytes)
annotated-right limit Lower bytes = language-right limit bytes
annotated-right limit Variable bytes = tt
annotated-right limit Quoted bytes = tt
annotated-right limit Distinct bytes = tt
annotated-right limit Dollar bytes = tt
annotated-right limit Number bytes = tt
annotated-right limit Connective bytes = tt
annotated-right limit Mark bytes = tt
annotated-right limit Other bytes = tt

pub step-right : (a : Symbol) (t : Lexeme) → IsStepOf a t (step a t)
step-right (mark bytes) t = mark-right bytes t
step-right (a_term s) t = term-right s t.kind t.bytes
step-right (maybe_arguments s) t = arguments-right s t
step-right (more_arguments s) t = more_arguments-right s t
step-right (an_atom b s) t = atom-right b s t.kind t.bytes
step-right (maybe_applied b s) t = applied-right b s t
step-right (maybe_equation b s) t = equation-right b s t
step-right (an_equation b s) t = sign-right b s t
step-right (a_unit s) t = unit-right s t
step-right (maybe_connected s) t = connected-right s t
step-right (maybe_more_units sign s) t = units-right sign s t
step-right (variables_bracket s) t = bracket-right s t
step-right (next_variable xs s) t = variable-right xs s t.kind t.bytes
step-right (more_variables xs s) t = more_variables-right xs s t
step-right (a_clause s) t = clause-right s t
step-right (a_literal s) t = literal-right s t
step-right (a_plain_literal s) t = plain-right s t
step-right (maybe_more_literals s) t = literals-right s t
step-right a_name t = name-right t.kind t.bytes
step-right (a_role is_clause) t = role-right is_clause t.kind t.bytes
step-right (end_of_body limit) t = end_of_body-right limit t
step-right (first_note limit) t = note-right limit t (open_after [] t) refl
step-right (more_notes limit unclosed) t = more_notes-right limit unclosed t (open_after unclosed t) refl
step-right (an_annotated limit) t = annotated-right limit t.kind t.bytes
