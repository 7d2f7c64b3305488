use Rattle.std.proofs.Common.{◌≡◌, true, false, ap, sym, List, [], ◌∷◌, codes, refl}
use Rattle.tptp_token.specs.Longest.{longest}
use Rattle.tptp_token.specs.Kinds.{is_token, kind_of}
use Rattle.tptp_token.specs.Pieces.{line_length, block_end, fills, piece_of}
use Rattle.tptp_token.specs.Lexing.{lexed_from, lexed_of}
use Rattle.tptp_token.specs.Lexemes.{Lexeme, lexeme}
use Rattle.tptp_token.specs.declared.token.Kind.TheVariants.{Lower, Quoted, Number, Mark}
use Rattle.tptp_tree.specs.declared.role.Role.TheVariants.{Plain}
use Rattle.tptp_tree.specs.Term.{no_terms}
use Rattle.tptp_tree.specs.Formula.{predicate}
use Rattle.tptp_token.specs.Words.{bare, quoted}
use Rattle.tptp_tree.specs.Spelling.{no_phrases, predicate_atom}
use Rattle.tptp_tree.specs.Entries.{NamePhrase, word_name, digits_name, name_lexeme, positive_literal, literals, is_clause_body, clause_body, EntryPhrase, annotated_entry, whole_include, selected_include, entry_lexemes, problem_lexemes}
use Rattle.tptp_tree.proofs.AboutUniqueness.UniqueAtoms.{head-same, tail-same, first_is}
use Rattle.tptp_tree.proofs.AboutUniqueness.UniqueEntries.{no-include}
use Rattle.tptp_tree.proofs.laws.include_examples.Goals as goal

-- `include(f,[]` and what follows it
abbrev empty_selection : List Lexeme → List Lexeme
empty_selection rest =
    lexeme Lower (codes "include") ∷ lexeme Mark (codes "(") ∷ lexeme Lower (codes "f") ∷ lexeme Mark (codes ",")
    ∷ lexeme Mark (codes "[") ∷ lexeme Mark (codes "]") ∷ rest

no-name : (n : NamePhrase) → name_lexeme n ≡ lexeme Mark (codes "]") → ⊥
no-name (word_name (bare w)) e = let k : Lower ≡ Mark = ap (λ (l : Lexeme). l.kind) e in cc
no-name (word_name (quoted w)) e = let k : Quoted ≡ Mark = ap (λ (l : Lexeme). l.kind) e in cc
no-name (digits_name ds) e = let k : Number ≡ Mark = ap (λ (l : Lexeme). l.kind) e in cc

no-entry : (p : EntryPhrase) (more rest : List Lexeme) → entry_lexemes p more ≡ empty_selection rest → ⊥
no-entry (annotated_entry p) more rest e = no-include (is_clause_body p.body) (head-same _ _ _ _ e)
no-entry (whole_include f) more rest e =
    let from_file = tail-same _ _ _ _ (tail-same _ _ _ _ e) in
    let x : false ≡ true = ap (first_is (codes ",")) (tail-same _ _ _ _ from_file) in cc
no-entry (selected_include f ns) more rest e =
    let from_file = tail-same _ _ _ _ (tail-same _ _ _ _ e) in
    let from_first = tail-same _ _ _ _ (tail-same _ _ _ _ (tail-same _ _ _ _ from_file)) in
    no-name ns.first (head-same _ _ _ _ from_first)

no-entries : (ps : List EntryPhrase) (rest : List Lexeme) → problem_lexemes ps ≡ empty_selection rest → ⊥
no-entries [] rest e = cc
no-entries (p ∷ ps) rest e = no-entry p (problem_lexemes ps) rest e

pub returns : goal.returns
unfolding longest is_token kind_of line_length block_end fills piece_of lexed_from lexed_of
returns c = record {
  whole_include = (whole_include (quoted (codes "'f.ax'")) ∷ [], refl, record { whole = refl; tokens = refl }, (refl, tt));
  selected_include =
      (selected_include (bare (codes "f")) (record { first = word_name (bare (codes "a")); others = word_name (quoted (codes "'B c'")) ∷ digits_name (codes "012") ∷ [] }) ∷ [], refl, record { whole = refl; tokens = refl }, (refl, tt));
  two_entries = (
    whole_include (bare (codes "f"))
        ∷ annotated_entry (record { name = word_name (bare (codes "a")); role = codes "plain"; body = clause_body (literals (positive_literal (predicate_atom (bare (codes "p")) no_phrases)) []); notes = [] }) ∷ [],
    refl,
    record { whole = refl; tokens = refl },
    (refl, ((record { name = codes "a"; role = Plain; is_clause = true; formula = predicate (codes "p") no_terms }, record { name = refl; role = refl; is_clause = refl; formula = refl }, refl), tt)),
  );
  no_entries = ([], refl, record { whole = refl; tokens = refl }, tt);
  empty_selection = λ entries s. no-entries s.0 (lexeme Mark (codes ")") ∷ lexeme Mark (codes ".") ∷ []) (sym s.2.tokens);
}
