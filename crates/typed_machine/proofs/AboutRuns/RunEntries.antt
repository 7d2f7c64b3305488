-- The machine runs over the tokens of an entry.
use Rattle.std.proofs.Common.{◌≡◌, ℕ, Bool, true, false, Option, None, Some, List, [], ◌∷◌, ◌++◌, length, codes, refl, ap, ◌∙◌, bytes_eq}
use Rattle.std.specs.Prelude.{if◌then◌else◌, not, ◌&&◌}
use Rattle.std.proofs.lemmas.Bool.{and_parts}
use Rattle.tptp_token.specs.Lexemes.{Lexeme, lexeme}
use Rattle.tptp_token.specs.declared.token.Kind.TheVariants.{Lower, Number, Mark}
use Rattle.tptp_token.specs.Words.{bare, quoted}
use Rattle.tptp_tree.specs.Brackets.{Bracket, opened, open_after, open_behind, is_nothing_open, are_balanced}
use Rattle.tptp_tree.specs.Entries.{NamePhrase, word_name, digits_name, name_lexeme, is_right_name, notes_lexemes, role_of}
use Rattle.tptp_tree.specs.Causes.{syntax, untaken_role_cause, note_cause, notes_causes, notes_part_causes}
use Rattle.tptp_reader.specs.Machine.{stops, taken, note_step, end_of_notes_step}
use Rattle.tptp_reader.proofs.AboutTexts.Spelled.{entry_end}
use Rattle.tptp_reader.proofs.AboutRuns.FollowLemmas.{EndsFormula}
use Rattle.typed_tree.specs.TypedSpelling.{phrase_lexemes}
use Rattle.typed_tree.specs.TypedEntries.{BodyPhrase, declaration_body, formula_body, role_word_of, is_right_body, TypedPhrase, is_right_typed, body_lexemes, typed_lexemes}
use Rattle.typed_tree.specs.TypedCauses.{outermost, role_cause, body_causes, typed_causes}
use Rattle.typed_machine.specs.TypedMachine.{TypedSymbol, an_entry, a_typed_role, a_unit, maybe_connected, a_declaration, typed_step_of, takes as typed_takes, taken as typed_taken}
use Rattle.typed_machine.proofs.AboutRuns.PlainSymbols.{mark, a_name, end_of_body, first_note, more_notes}
use Rattle.typed_machine.proofs.AboutRuns.Traces.{done, marked, moved_by, moved, by_move, emptied, trace, marks}
use Rattle.typed_machine.proofs.AboutRuns.Follows.{Follows, NoArrow}
use Rattle.typed_machine.proofs.AboutRuns.RunFormulas.{phrase-runs, declaration-runs}

-- ---- notes

more_notes-run :
    (limit : ℕ) (unclosed : List Bracket) (ns : List Lexeme) (rest : List Lexeme)
    → is_nothing_open (open_behind (Some unclosed) ns) ≡ true
    → trace (ns ++ entry_end rest) (more_notes limit unclosed ∷ []) ≡ marks (notes_causes limit (Some unclosed) ns ++ None ∷ None ∷ []) (done rest)
more_notes-run limit [] [] rest h = refl
more_notes-run limit (b ∷ bs) [] rest h = absurd (let t : false ≡ true = h in cc)
more_notes-run limit unclosed (n ∷ ns) rest h =
    by (λ behind k. more_notes-run limit behind ns rest k) (open_after unclosed n) h
  where
    by :
        ((behind : List Bracket) → is_nothing_open (open_behind (Some behind) ns) ≡ true
        → trace (ns ++ entry_end rest) (more_notes limit behind ∷ []) ≡ marks (notes_causes limit (Some behind) ns ++ None ∷ None ∷ []) (done rest))
        → (o : Option (List Bracket)) → is_nothing_open (open_behind o ns) ≡ true
        → by_move (λ next. trace (ns ++ entry_end rest) next) n (ns ++ entry_end rest)
        (moved_by (typed_step_of (note_step limit unclosed o (end_of_notes_step unclosed n) n)) [] emptied)
        ≡ marks (note_cause limit (length unclosed) (opened n) ∷ notes_causes limit o ns ++ None ∷ None ∷ []) (done rest)
    by more None k = absurd (let t : false ≡ true = k in cc)
    by more (Some behind) k = ap (marked (note_cause limit (length unclosed) (opened n))) (more behind k)

first_note-runs :
    (limit : ℕ) (n : Lexeme) (ns : List Lexeme) (rest : List Lexeme)
    → are_balanced (n ∷ ns) ≡ true
    → trace (n ∷ ns ++ entry_end rest) (first_note limit ∷ []) ≡ marks (notes_causes limit (Some []) (n ∷ ns) ++ None ∷ None ∷ []) (done rest)
first_note-runs limit n ns rest h = by (open_after [] n) h
  where
    by :
        (o : Option (List Bracket)) → is_nothing_open (open_behind o ns) ≡ true
        → by_move (λ next. trace (ns ++ entry_end rest) next) n (ns ++ entry_end rest)
        (moved_by (typed_step_of (note_step limit [] o (stops syntax) n)) [] emptied)
        ≡ marks (note_cause limit 0 (opened n) ∷ notes_causes limit o ns ++ None ∷ None ∷ []) (done rest)
    by None k = absurd (let t : false ≡ true = k in cc)
    by (Some behind) k = ap (marked (note_cause limit 0 (opened n))) (more_notes-run limit behind ns rest k)

notes-run :
    (limit : ℕ) (ns : List Lexeme) (rest : List Lexeme)
    → are_balanced ns ≡ true
    → trace (notes_lexemes ns (entry_end rest)) (end_of_body limit ∷ []) ≡ marks (notes_part_causes limit ns (None ∷ None ∷ [])) (done rest)
notes-run limit [] rest h = refl
notes-run limit (n ∷ ns) rest h = ap (marked None) (first_note-runs limit n ns rest h)

notes-end-formula : (limit : ℕ) (ns : List Lexeme) (rest : List Lexeme) → Follows EndsFormula (notes_lexemes ns (entry_end rest)) (end_of_body limit ∷ [])
notes-end-formula limit [] rest = record { atom = record { flat = refl; alone_here = refl }; no_and = refl; no_or = refl; no_binary = refl }
notes-end-formula limit (n ∷ ns) rest = record { atom = record { flat = refl; alone_here = refl }; no_and = refl; no_or = refl; no_binary = refl }

notes-end-type : (limit : ℕ) (ns : List Lexeme) (rest : List Lexeme) → Follows NoArrow (notes_lexemes ns (entry_end rest)) (end_of_body limit ∷ [])
notes-end-type limit [] rest = refl
notes-end-type limit (n ∷ ns) rest = refl

-- ---- names

name-runs :
    (n : NamePhrase) (rest : List Lexeme) (below : List TypedSymbol)
    → is_right_name n ≡ true → trace (name_lexeme n ∷ rest) (a_name ∷ below) ≡ marked None (trace rest below)
name-runs (word_name (bare w)) rest below h = refl
name-runs (word_name (quoted w)) rest below h = refl
name-runs (digits_name ds) rest below h =
    ap
    (λ b. by_move (λ next. trace rest next) (lexeme Number ds) rest
    (moved_by (typed_step_of (if b then taken [] else stops syntax)) below (moved below (lexeme Number ds))))
    h

-- ---- entries

role-runs :
    (limit : ℕ) (role : List ℕ) (ts : List Lexeme) → bytes_eq (codes "type") role ≡ false
    → trace (lexeme Lower role ∷ ts) (a_typed_role limit ∷ [])
    ≡ marked (untaken_role_cause (role_of false role) role)
    (trace ts (mark (codes ",") ∷ a_unit (outermost limit) ∷ maybe_connected (outermost limit) ∷ end_of_body limit ∷ []))
role-runs limit role ts h =
    ap
    (λ b. by_move (λ next. trace ts next) (lexeme Lower role) ts
    (moved_by
    (if b then typed_taken (mark (codes ",") ∷ a_declaration (outermost limit) ∷ end_of_body limit ∷ [])
    else typed_takes (mark (codes ",") ∷ a_unit (outermost limit) ∷ maybe_connected (outermost limit) ∷ end_of_body limit ∷ [])
    (untaken_role_cause (role_of false role) role))
    [] emptied))
    h

not-type : (b : Bool) → not b ≡ true → b ≡ false
not-type true h = cc
not-type false h = refl

-- from the role on
body-runs :
    (limit : ℕ) (b : BodyPhrase) (ns rest : List Lexeme) → is_right_body b ≡ true → are_balanced ns ≡ true
    → trace (lexeme Lower (role_word_of b) ∷ lexeme Mark (codes ",") ∷ body_lexemes b (notes_lexemes ns (entry_end rest))) (a_typed_role limit ∷ [])
    ≡ marked (role_cause b) (marked None (marks (body_causes limit b (notes_part_causes limit ns (None ∷ None ∷ []))) (done rest)))
body-runs limit (declaration_body d) ns rest h k =
    ap (λ u. marked None (marked None u))
    (declaration-runs (outermost limit) d (notes_lexemes ns (entry_end rest)) (end_of_body limit ∷ []) (notes_part_causes limit ns (None ∷ None ∷ []))
    (done rest) (notes-end-type limit ns rest) (notes-run limit ns rest k))
body-runs limit (formula_body role p) ns rest h k =
    role-runs limit role (lexeme Mark (codes ",") ∷ phrase_lexemes p (notes_lexemes ns (entry_end rest))) (not-type (bytes_eq (codes "type") role) h)
    ∙ ap (λ u. marked (untaken_role_cause (role_of false role) role) (marked None u))
    (phrase-runs (outermost limit) p (notes_lexemes ns (entry_end rest)) (end_of_body limit ∷ []) (notes_part_causes limit ns (None ∷ None ∷ []))
    (done rest) (notes-end-formula limit ns rest) (notes-run limit ns rest k))

pub entry-runs :
    (limit : ℕ) (p : TypedPhrase) (rest : List Lexeme) → is_right_typed p ≡ true
    → trace (typed_lexemes p rest) (an_entry limit ∷ []) ≡ marks (typed_causes limit p) (done rest)
entry-runs limit p rest h =
    let right = and_parts (is_right_name p.name) (is_right_body p.body && are_balanced p.notes) h in
    let parts = and_parts (is_right_body p.body) (are_balanced p.notes) right.1 in
    let role_on = lexeme Lower (role_word_of p.body) ∷ lexeme Mark (codes ",") ∷ body_lexemes p.body (notes_lexemes p.notes (entry_end rest)) in
    ap (λ u. marked None (marked None u))
    (name-runs p.name (lexeme Mark (codes ",") ∷ role_on) (mark (codes ",") ∷ a_typed_role limit ∷ []) right.0
    ∙ ap (λ u. marked None (marked None u)) (body-runs limit p.body p.notes rest parts.0 parts.1))
