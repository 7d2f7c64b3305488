-- The machine runs over the tokens of an annotated formula.
use Rattle.std.proofs.Common.{◌≡◌, ℕ, Bool, true, false, Option, None, Some, List, [], ◌∷◌, ◌++◌, length, codes, refl, ap, ◌∙◌}
use Rattle.std.specs.Prelude.{if◌then◌else◌}
use Rattle.std.proofs.lemmas.Bool.{and_parts}
use Rattle.tptp_token.specs.Lexemes.{Lexeme, lexeme}
use Rattle.tptp_token.specs.declared.token.Kind.TheVariants.{Lower, Number, Mark}
use Rattle.tptp_token.specs.Words.{bare, quoted}
use Rattle.tptp_tree.specs.Brackets.{Bracket, opened, open_after, open_behind, is_nothing_open, are_balanced}
use Rattle.tptp_tree.specs.Entries.{NamePhrase, word_name, digits_name, name_lexeme, is_right_name, Body, formula_body, clause_body, body_lexemes, AnnotatedPhrase, is_right_annotated, notes_lexemes, annotated_lexemes}
use Rattle.tptp_tree.specs.Causes.{syntax, role_cause, outermost, body_causes, note_cause, notes_causes, notes_part_causes, annotated_causes}
use Rattle.tptp_reader.specs.Machine.{Symbol, stops, taken, mark, a_unit, maybe_connected, a_clause, a_name, a_role, end_of_body, first_note, more_notes, an_annotated, note_step, end_of_notes_step}
use Rattle.tptp_reader.proofs.AboutRuns.TraceLemmas.{Trace, done, marked, moved_by, moved, by_move, emptied, trace, marks}
use Rattle.tptp_reader.proofs.AboutRuns.FollowLemmas.{Follows, EndsFormula, EndsClause}
use Rattle.tptp_reader.proofs.AboutTexts.Spelled.{entry_end}
use Rattle.tptp_reader.proofs.AboutRuns.RunFormulas.{phrase-runs, clause-runs}

-- ---- notes

more_notes-run :
    (limit : ℕ) (unclosed : List Bracket) (ns : List Lexeme) (rest : List Lexeme)
    → is_nothing_open (open_behind (Some unclosed) ns) ≡ true
    → trace (ns ++ entry_end rest) (more_notes limit unclosed ∷ []) ≡ marks (notes_causes limit (Some unclosed) ns ++ None ∷ None ∷ []) (done rest)
more_notes-run limit [] [] rest h = refl
more_notes-run limit (b ∷ bs) [] rest h = absurd (let t : false ≡ true = h in cc)
more_notes-run limit unclosed (n ∷ ns) rest h =
    by (λ behind k. more_notes-run limit behind ns rest k) (open_after unclosed n) h
  where
    by :
        ((behind : List Bracket) → is_nothing_open (open_behind (Some behind) ns) ≡ true
        → trace (ns ++ entry_end rest) (more_notes limit behind ∷ []) ≡ marks (notes_causes limit (Some behind) ns ++ None ∷ None ∷ []) (done rest))
        → (o : Option (List Bracket)) → is_nothing_open (open_behind o ns) ≡ true
        → by_move (λ next. trace (ns ++ entry_end rest) next) (n ∷ ns ++ entry_end rest)
        (moved_by (note_step limit unclosed o (end_of_notes_step unclosed n) n) [] emptied)
        ≡ marks (note_cause limit (length unclosed) (opened n) ∷ notes_causes limit o ns ++ None ∷ None ∷ []) (done rest)
    by more None k = absurd (let t : false ≡ true = k in cc)
    by more (Some behind) k = ap (marked (note_cause limit (length unclosed) (opened n))) (more behind k)

first_note-runs :
    (limit : ℕ) (n : Lexeme) (ns : List Lexeme) (rest : List Lexeme)
    → are_balanced (n ∷ ns) ≡ true
    → trace (n ∷ ns ++ entry_end rest) (first_note limit ∷ []) ≡ marks (notes_causes limit (Some []) (n ∷ ns) ++ None ∷ None ∷ []) (done rest)
first_note-runs limit n ns rest h = by (open_after [] n) h
  where
    by :
        (o : Option (List Bracket)) → is_nothing_open (open_behind o ns) ≡ true
        → by_move (λ next. trace (ns ++ entry_end rest) next) (n ∷ ns ++ entry_end rest)
        (moved_by (note_step limit [] o (stops syntax) n) [] emptied)
        ≡ marks (note_cause limit 0 (opened n) ∷ notes_causes limit o ns ++ None ∷ None ∷ []) (done rest)
    by None k = absurd (let t : false ≡ true = k in cc)
    by (Some behind) k = ap (marked (note_cause limit 0 (opened n))) (more_notes-run limit behind ns rest k)

notes-run :
    (limit : ℕ) (ns : List Lexeme) (rest : List Lexeme)
    → are_balanced ns ≡ true
    → trace (notes_lexemes ns (entry_end rest)) (end_of_body limit ∷ []) ≡ marks (notes_part_causes limit ns (None ∷ None ∷ [])) (done rest)
notes-run limit [] rest h = refl
notes-run limit (n ∷ ns) rest h = ap (marked None) (first_note-runs limit n ns rest h)

notes-end-formula : (limit : ℕ) (ns : List Lexeme) (rest : List Lexeme) → Follows EndsFormula (notes_lexemes ns (entry_end rest)) (end_of_body limit ∷ [])
notes-end-formula limit [] rest = record { atom = record { flat = refl; alone_here = refl }; no_and = refl; no_or = refl; no_binary = refl }
notes-end-formula limit (n ∷ ns) rest = record { atom = record { flat = refl; alone_here = refl }; no_and = refl; no_or = refl; no_binary = refl }

notes-end-clause : (limit : ℕ) (ns : List Lexeme) (rest : List Lexeme) → Follows EndsClause (notes_lexemes ns (entry_end rest)) (end_of_body limit ∷ [])
notes-end-clause limit [] rest = record { atom = record { flat = refl; alone_here = refl }; no_or = refl }
notes-end-clause limit (n ∷ ns) rest = record { atom = record { flat = refl; alone_here = refl }; no_or = refl }

-- ---- names

name-runs :
    (n : NamePhrase) (rest : List Lexeme) (below : List Symbol)
    → is_right_name n ≡ true → trace (name_lexeme n ∷ rest) (a_name ∷ below) ≡ marked None (trace rest below)
name-runs (word_name (bare w)) rest below h = refl
name-runs (word_name (quoted w)) rest below h = refl
name-runs (digits_name ds) rest below h =
    ap (λ b. by_move (λ next. trace rest next) (lexeme Number ds ∷ rest) (moved_by (if b then taken [] else stops syntax) below (moved below (lexeme Number ds)))) h

-- ---- entries

heading-runs :
    (p : AnnotatedPhrase) (inside : List Lexeme) (below : List Symbol) (is_clause : Bool) (r : Trace)
    → is_right_name p.name ≡ true → trace inside below ≡ r
    → trace (lexeme Mark (codes "(") ∷ name_lexeme p.name ∷ lexeme Mark (codes ",") ∷ lexeme Lower p.role ∷ lexeme Mark (codes ",") ∷ inside)
    (mark (codes "(") ∷ a_name ∷ mark (codes ",") ∷ a_role is_clause ∷ mark (codes ",") ∷ below)
    ≡ marked None (marked None (marked None (marked (role_cause is_clause p.role) (marked None r))))
heading-runs p inside below is_clause r h e =
    ap (marked None)
    (name-runs p.name (lexeme Mark (codes ",") ∷ lexeme Lower p.role ∷ lexeme Mark (codes ",") ∷ inside)
    (mark (codes ",") ∷ a_role is_clause ∷ mark (codes ",") ∷ below) h
    ∙ ap (λ u. marked None (marked None (marked (role_cause is_clause p.role) (marked None u)))) e)

pub annotated-runs :
    (limit : ℕ) (p : AnnotatedPhrase) (rest : List Lexeme) → is_right_annotated p ≡ true
    → trace (annotated_lexemes p rest) (an_annotated limit ∷ []) ≡ marks (annotated_causes limit p) (done rest)
annotated-runs limit p rest h = by p.body (and_parts (is_right_name p.name) (are_balanced p.notes) h)
  where
    by :
        (b : Body) → (is_right_name p.name ≡ true) × (are_balanced p.notes ≡ true)
        → trace (annotated_lexemes (record { name = p.name; role = p.role; body = b; notes = p.notes }) rest) (an_annotated limit ∷ [])
        ≡ marks (annotated_causes limit (record { name = p.name; role = p.role; body = b; notes = p.notes })) (done rest)
    by (formula_body f) k =
        ap (marked None)
        (heading-runs p (body_lexemes (formula_body f) (notes_lexemes p.notes (entry_end rest)))
        (a_unit (outermost limit false) ∷ maybe_connected (outermost limit false) ∷ end_of_body limit ∷ []) false
        (marks (body_causes limit (formula_body f) (notes_part_causes limit p.notes (None ∷ None ∷ []))) (done rest)) k.0
        (phrase-runs (outermost limit false) f (notes_lexemes p.notes (entry_end rest)) (end_of_body limit ∷ [])
        (notes_part_causes limit p.notes (None ∷ None ∷ [])) (done rest) (notes-end-formula limit p.notes rest) (notes-run limit p.notes rest k.1)))
    by (clause_body c) k =
        ap (marked None)
        (heading-runs p (body_lexemes (clause_body c) (notes_lexemes p.notes (entry_end rest)))
        (a_clause (outermost limit true) ∷ end_of_body limit ∷ []) true
        (marks (body_causes limit (clause_body c) (notes_part_causes limit p.notes (None ∷ None ∷ []))) (done rest)) k.0
        (clause-runs (outermost limit true) c (notes_lexemes p.notes (entry_end rest)) (end_of_body limit ∷ [])
        (notes_part_causes limit p.notes (None ∷ None ∷ [])) (done rest) (notes-end-clause limit p.notes rest) (notes-run limit p.notes rest k.1)))
