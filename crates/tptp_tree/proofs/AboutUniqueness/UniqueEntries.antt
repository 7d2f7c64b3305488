-- A list of tokens is that of at most one annotated formula, with what follows it, and of at most one list of entries.
use Rattle.std.proofs.Common.{◌≡◌, ℕ, Option, None, Some, Bool, true, false, List, [], ◌∷◌, ◌++◌, codes, refl, ap, ap₂, sym, ◌∙◌, subst, bytes_eq}
use Rattle.std.specs.List.{list_all}
use Rattle.std.proofs.lemmas.Bool.{and_parts}
use Rattle.tptp_token.specs.Lexemes.{Lexeme, lexeme}
use Rattle.tptp_token.specs.declared.token.Kind.TheVariants.{Lower, Quoted, Number, Connective, Mark}
use Rattle.tptp_tree.specs.declared.role.Role.{Role}
use Rattle.tptp_tree.specs.Formula.{FormulaTree}
use Rattle.tptp_token.specs.Words.{bare, quoted}
use Rattle.tptp_tree.specs.Spelling.{Atom, atom_lexemes, atomic}
use Rattle.tptp_tree.specs.Brackets.{Bracket, open_after, open_behind, is_nothing_open, are_balanced}
use Rattle.tptp_tree.specs.Entries.{PlainAtom, plain_true, plain_false, plain_predicate, plain_equation, atom_of, LiteralPhrase, positive_literal, negated_literal, negated_in_brackets, ClausePhrase, literals, clause_in_brackets, literal_lexemes, more_literals_lexemes, clause_lexemes, NamePhrase, word_name, digits_name, name_lexeme, is_right_name, Body, formula_body, clause_body, is_clause_body, body_lexemes, language_word, AnnotatedPhrase, is_right_annotated, notes_lexemes, annotated_lexemes, AnnotatedTree, IsAnnotatedOf, Selection, EntryPhrase, annotated_entry, whole_include, selected_include, is_right_entry, more_names_lexemes, include_end, entry_lexemes, problem_lexemes, EntryTree, annotated_tree, IsEntryOf, AreEntriesOf}
use Rattle.tptp_tree.proofs.AboutUniqueness.UniqueAtoms.{tail-same, head-same, first_is, first_joint, nothing, ors, EndsUnit, EndsPhrase, word-same, first_start, atom_start, atom-start, atom-same}
use Rattle.tptp_tree.proofs.AboutUniqueness.UniqueLemmas.{tilde, bracket, atom_of as atom_unit, first_unit, unit-start, or-ends, closed-ends, phrase-same}

-- ---- literals and clauses

atom-here : (a b : Atom) (ls ms : List Lexeme) → EndsUnit ls → EndsUnit ms → atom_lexemes a ls ≡ atom_lexemes b ms → (a ≡ b) × (ls ≡ ms)
atom-here a b ls ms h k e = atom-same a b ls ms h k (sym (atom-start a ls) ∙ ap first_start e ∙ atom-start b ms) e

plain-same : (a b : PlainAtom) → atom_of a ≡ atom_of b → a ≡ b
plain-same plain_true plain_true e = refl
plain-same plain_true plain_false e = absurd (cc)
plain-same plain_true (plain_predicate w ts) e = absurd (cc)
plain-same plain_true (plain_equation l r) e = absurd (cc)
plain-same plain_false plain_true e = absurd (cc)
plain-same plain_false plain_false e = refl
plain-same plain_false (plain_predicate w ts) e = absurd (cc)
plain-same plain_false (plain_equation l r) e = absurd (cc)
plain-same (plain_predicate v us) plain_true e = absurd (cc)
plain-same (plain_predicate v us) plain_false e = absurd (cc)
plain-same (plain_predicate v us) (plain_predicate w ts) e = let x : v ≡ w = cc in let y : us ≡ ts = cc in ap₂ plain_predicate x y
plain-same (plain_predicate v us) (plain_equation l r) e = absurd (cc)
plain-same (plain_equation s t) plain_true e = absurd (cc)
plain-same (plain_equation s t) plain_false e = absurd (cc)
plain-same (plain_equation s t) (plain_predicate w ts) e = absurd (cc)
plain-same (plain_equation s t) (plain_equation l r) e = let x : s ≡ l = cc in let y : t ≡ r = cc in ap₂ plain_equation x y

atom-unit : (a : Atom) (ls : List Lexeme) → first_unit (atom_lexemes a ls) ≡ atom_unit (atom_start a)
atom-unit a ls = unit-start (atomic a) ls

no-tilde : (a : Atom) (ls ms : List Lexeme) → atom_lexemes a ls ≡ lexeme Connective (codes "~") ∷ ms → ⊥
no-tilde a ls ms e = let f : atom_unit (atom_start a) ≡ tilde = sym (atom-unit a ls) ∙ ap first_unit e in cc

no-bracket : (a : Atom) (ls ms : List Lexeme) → atom_lexemes a ls ≡ lexeme Mark (codes "(") ∷ ms → ⊥
no-bracket a ls ms e = let f : atom_unit (atom_start a) ≡ bracket = sym (atom-unit a ls) ∙ ap first_unit e in cc

closed-unit : (ls : List Lexeme) → EndsUnit (lexeme Mark (codes ")") ∷ ls)
closed-unit ls = (closed-ends ls).unit

literal-same :
    (l k : LiteralPhrase) (ls ms : List Lexeme) → EndsUnit ls → EndsUnit ms → literal_lexemes l ls ≡ literal_lexemes k ms → (l ≡ k) × (ls ≡ ms)
literal-same (positive_literal a) (positive_literal b) ls ms h k e = let same = atom-here a b ls ms h k e in (ap positive_literal same.0, same.1)
literal-same (positive_literal a) (negated_literal b) ls ms h k e = absurd (no-tilde a ls _ e)
literal-same (positive_literal a) (negated_in_brackets b) ls ms h k e = absurd (no-tilde a ls _ e)
literal-same (negated_literal a) (positive_literal b) ls ms h k e = absurd (no-tilde b ms _ (sym e))
literal-same (negated_literal a) (negated_literal b) ls ms h k e =
    let same = atom-here (atom_of a) (atom_of b) ls ms h k (tail-same _ _ _ _ e) in (ap negated_literal (plain-same a b same.0), same.1)
literal-same (negated_literal a) (negated_in_brackets b) ls ms h k e = absurd (no-bracket (atom_of a) ls _ (tail-same _ _ _ _ e))
literal-same (negated_in_brackets a) (positive_literal b) ls ms h k e = absurd (no-tilde b ms _ (sym e))
literal-same (negated_in_brackets a) (negated_literal b) ls ms h k e = absurd (no-bracket (atom_of b) ms _ (sym (tail-same _ _ _ _ e)))
literal-same (negated_in_brackets a) (negated_in_brackets b) ls ms h k e =
    let inner = tail-same _ _ _ _ (tail-same _ _ _ _ e) in
    let same = atom-here (atom_of a) (atom_of b) (lexeme Mark (codes ")") ∷ ls) (lexeme Mark (codes ")") ∷ ms) (closed-unit ls) (closed-unit ms) inner in
    (ap negated_in_brackets (plain-same a b same.0), tail-same _ _ _ _ same.1)

literals-end : (ls : List LiteralPhrase) (rest : List Lexeme) → EndsPhrase rest → EndsUnit (more_literals_lexemes ls rest)
literals-end [] rest h = h.unit
literals-end (l ∷ ls) rest h = or-ends _

literals-same :
    (ls ks : List LiteralPhrase) (rs ss : List Lexeme)
    → EndsPhrase rs → EndsPhrase ss → more_literals_lexemes ls rs ≡ more_literals_lexemes ks ss → (ls ≡ ks) × (rs ≡ ss)
literals-same [] [] rs ss h k e = (refl, e)
literals-same [] (m ∷ ks) rs ss h k e = absurd (let f : nothing ≡ ors = sym h.last ∙ ap first_joint e in cc)
literals-same (l ∷ ls) [] rs ss h k e = absurd (let f : ors ≡ nothing = ap first_joint e ∙ k.last in cc)
literals-same (l ∷ ls) (m ∷ ks) rs ss h k e =
    let first = literal-same l m (more_literals_lexemes ls rs) (more_literals_lexemes ks ss) (literals-end ls rs h) (literals-end ks ss k) (tail-same _ _ _ _ e) in
    let more = literals-same ls ks rs ss h k first.1 in
    (ap₂ (λ x xs. x ∷ xs) first.0 more.0, more.1)

literal-unit : (l : LiteralPhrase) (ls ms : List Lexeme) → literal_lexemes l ls ≡ lexeme Mark (codes "(") ∷ ms → ⊥
literal-unit (positive_literal a) ls ms e = no-bracket a ls ms e
literal-unit (negated_literal a) ls ms e = let f : tilde ≡ bracket = ap first_unit e in cc
literal-unit (negated_in_brackets a) ls ms e = let f : tilde ≡ bracket = ap first_unit e in cc

pub clause-same :
    (c d : ClausePhrase) (rs ss : List Lexeme) → EndsPhrase rs → EndsPhrase ss → clause_lexemes c rs ≡ clause_lexemes d ss → (c ≡ d) × (rs ≡ ss)
clause-same (literals l ls) (literals m ks) rs ss h k e =
    let first = literal-same l m (more_literals_lexemes ls rs) (more_literals_lexemes ks ss) (literals-end ls rs h) (literals-end ks ss k) e in
    let more = literals-same ls ks rs ss h k first.1 in
    (ap₂ literals first.0 more.0, more.1)
clause-same (literals l ls) (clause_in_brackets d) rs ss h k e = absurd (literal-unit l _ _ e)
clause-same (clause_in_brackets c) (literals m ks) rs ss h k e = absurd (literal-unit m _ _ (sym e))
clause-same (clause_in_brackets c) (clause_in_brackets d) rs ss h k e =
    let inner = clause-same c d (lexeme Mark (codes ")") ∷ rs) (lexeme Mark (codes ")") ∷ ss) (closed-ends rs) (closed-ends ss) (tail-same _ _ _ _ e) in
    (ap clause_in_brackets inner.0, tail-same _ _ _ _ inner.1)

-- ---- names and notes

pub name-same : (n m : NamePhrase) → name_lexeme n ≡ name_lexeme m → n ≡ m
name-same (word_name w) (word_name v) e = ap word_name (word-same w v e)
name-same (word_name (bare w)) (digits_name ds) e = absurd (let k : Lower ≡ Number = ap (λ (l : Lexeme). l.kind) e in cc)
name-same (word_name (quoted w)) (digits_name ds) e = absurd (let k : Quoted ≡ Number = ap (λ (l : Lexeme). l.kind) e in cc)
name-same (digits_name ds) (word_name (bare w)) e = absurd (let k : Number ≡ Lower = ap (λ (l : Lexeme). l.kind) e in cc)
name-same (digits_name ds) (word_name (quoted w)) e = absurd (let k : Number ≡ Quoted = ap (λ (l : Lexeme). l.kind) e in cc)
name-same (digits_name ds) (digits_name es) e = ap (λ (l : Lexeme). digits_name l.bytes) e

-- notes end at the first bracket that closes none of theirs
unmatched : (bs : List Bracket) (ts : List Lexeme) → is_nothing_open (Some bs) ≡ true → is_nothing_open (open_behind (open_after bs (lexeme Mark (codes ")"))) ts) ≡ true → ⊥
unmatched [] ts h k = let f : false ≡ true = k in cc
unmatched (b ∷ bs) ts h k = let f : false ≡ true = h in cc

balanced-same :
    (bs : List Bracket) (ns ms rs ss : List Lexeme)
    → is_nothing_open (open_behind (Some bs) ns) ≡ true → is_nothing_open (open_behind (Some bs) ms) ≡ true
    → ns ++ lexeme Mark (codes ")") ∷ rs ≡ ms ++ lexeme Mark (codes ")") ∷ ss → (ns ≡ ms) × (rs ≡ ss)
balanced-same bs [] [] rs ss h k e = (refl, tail-same _ _ _ _ e)
balanced-same bs [] (m ∷ ms) rs ss h k e =
    absurd (unmatched bs ms h (subst (λ t. is_nothing_open (open_behind (open_after bs t) ms) ≡ true) (sym (head-same _ _ _ _ e)) k))
balanced-same bs (n ∷ ns) [] rs ss h k e =
    absurd (unmatched bs ns k (subst (λ t. is_nothing_open (open_behind (open_after bs t) ns) ≡ true) (head-same _ _ _ _ e) h))
balanced-same bs (n ∷ ns) (m ∷ ms) rs ss h k e =
    let first = head-same _ _ _ _ e in
    let more =
    by (λ behind i j. balanced-same behind ns ms rs ss i j (tail-same _ _ _ _ e)) (open_after bs n) h
    (subst (λ t. is_nothing_open (open_behind (open_after bs t) ms) ≡ true) (sym first) k) in
    (ap₂ (λ x xs. x ∷ xs) first more.0, more.1)
  where
    by :
        ((behind : List Bracket) → is_nothing_open (open_behind (Some behind) ns) ≡ true → is_nothing_open (open_behind (Some behind) ms) ≡ true → (ns ≡ ms) × (rs ≡ ss))
        → (o : Option (List Bracket)) → is_nothing_open (open_behind o ns) ≡ true → is_nothing_open (open_behind o ms) ≡ true → (ns ≡ ms) × (rs ≡ ss)
    by more None i j = absurd (let f : false ≡ true = i in cc)
    by more (Some behind) i j = more behind i j

notes-same :
    (ns ms rs ss : List Lexeme) → are_balanced ns ≡ true → are_balanced ms ≡ true
    → notes_lexemes ns (lexeme Mark (codes ")") ∷ rs) ≡ notes_lexemes ms (lexeme Mark (codes ")") ∷ ss) → (ns ≡ ms) × (rs ≡ ss)
notes-same [] [] rs ss h k e = (refl, tail-same _ _ _ _ e)
notes-same [] (m ∷ ms) rs ss h k e = absurd (let f : false ≡ true = ap (first_is (codes ",")) e in cc)
notes-same (n ∷ ns) [] rs ss h k e = absurd (let f : true ≡ false = ap (first_is (codes ",")) e in cc)
notes-same (n ∷ ns) (m ∷ ms) rs ss h k e = balanced-same [] (n ∷ ns) (m ∷ ms) rs ss h k (tail-same _ _ _ _ e)

notes-end : (ns rest : List Lexeme) → EndsPhrase (notes_lexemes ns (lexeme Mark (codes ")") ∷ rest))
notes-end [] rest = closed-ends rest
notes-end (n ∷ ns) rest = record { unit = record { flat = refl; alone_here = refl }; last = refl }

-- ---- annotated formulas

language-same : (b d : Bool) → lexeme Lower (language_word b) ≡ lexeme Lower (language_word d) → b ≡ d
language-same true true e = refl
language-same true false e = let f : true ≡ false = ap (λ (l : Lexeme). bytes_eq l.bytes (codes "cnf")) e in cc
language-same false true e = let f : false ≡ true = ap (λ (l : Lexeme). bytes_eq l.bytes (codes "cnf")) e in cc
language-same false false e = refl

body-same :
    (b d : Body) (rs ss : List Lexeme) → is_clause_body b ≡ is_clause_body d → EndsPhrase rs → EndsPhrase ss
    → body_lexemes b rs ≡ body_lexemes d ss → (b ≡ d) × (rs ≡ ss)
body-same (formula_body p) (formula_body q) rs ss l h k e = let same = phrase-same p q rs ss h k e in (ap formula_body same.0, same.1)
body-same (formula_body p) (clause_body d) rs ss l h k e = absurd (cc)
body-same (clause_body c) (formula_body q) rs ss l h k e = absurd (cc)
body-same (clause_body c) (clause_body d) rs ss l h k e = let same = clause-same c d rs ss h k e in (ap clause_body same.0, same.1)

phrase-of : NamePhrase → List ℕ → Body → List Lexeme → AnnotatedPhrase
phrase-of n r b ns = record { name = n; role = r; body = b; notes = ns }

pub annotated-same :
    (p q : AnnotatedPhrase) (rs ss : List Lexeme) → is_right_annotated p ≡ true → is_right_annotated q ≡ true
    → annotated_lexemes p rs ≡ annotated_lexemes q ss → (p ≡ q) × (rs ≡ ss)
unfolding phrase-of
annotated-same p q rs ss h k e =
    let right_p = and_parts (is_right_name p.name) (are_balanced p.notes) h in
    let right_q = and_parts (is_right_name q.name) (are_balanced q.notes) k in
    let language = language-same (is_clause_body p.body) (is_clause_body q.body) (head-same _ _ _ _ e) in
    let from_name = tail-same _ _ _ _ (tail-same _ _ _ _ e) in
    let name = name-same p.name q.name (head-same _ _ _ _ from_name) in
    let from_role = tail-same _ _ _ _ (tail-same _ _ _ _ from_name) in
    let role : p.role ≡ q.role = ap (λ (l : Lexeme). l.bytes) (head-same _ _ _ _ from_role) in
    let from_body = tail-same _ _ _ _ (tail-same _ _ _ _ from_role) in
    let body =
    body-same p.body q.body (notes_lexemes p.notes (lexeme Mark (codes ")") ∷ lexeme Mark (codes ".") ∷ rs))
    (notes_lexemes q.notes (lexeme Mark (codes ")") ∷ lexeme Mark (codes ".") ∷ ss)) language
    (notes-end p.notes (lexeme Mark (codes ".") ∷ rs)) (notes-end q.notes (lexeme Mark (codes ".") ∷ ss)) from_body in
    let notes = notes-same p.notes q.notes (lexeme Mark (codes ".") ∷ rs) (lexeme Mark (codes ".") ∷ ss) right_p.1 right_q.1 body.1 in (
      ap₂ (λ n r. phrase-of n r p.body p.notes) name role ∙ ap₂ (λ b ns. phrase-of q.name q.role b ns) body.0 notes.0,
      tail-same _ _ _ _ notes.1,
    )

-- ---- entries

names-same :
    (ns ms : List NamePhrase) (rs ss : List Lexeme)
    → more_names_lexemes ns (lexeme Mark (codes "]") ∷ rs) ≡ more_names_lexemes ms (lexeme Mark (codes "]") ∷ ss) → (ns ≡ ms) × (rs ≡ ss)
names-same [] [] rs ss e = (refl, tail-same _ _ _ _ e)
names-same [] (m ∷ ms) rs ss e = absurd (let f : false ≡ true = ap (first_is (codes ",")) e in cc)
names-same (n ∷ ns) [] rs ss e = absurd (let f : true ≡ false = ap (first_is (codes ",")) e in cc)
names-same (n ∷ ns) (m ∷ ms) rs ss e =
    let inner = tail-same _ _ _ _ e in
    let more = names-same ns ms rs ss (tail-same _ _ _ _ inner) in
    (ap₂ (λ x xs. x ∷ xs) (name-same n m (head-same _ _ _ _ inner)) more.0, more.1)

pub no-include : (b : Bool) → lexeme Lower (language_word b) ≡ lexeme Lower (codes "include") → ⊥
no-include true e = let f : false ≡ true = ap (λ (l : Lexeme). bytes_eq l.bytes (codes "include")) e in cc
no-include false e = let f : false ≡ true = ap (λ (l : Lexeme). bytes_eq l.bytes (codes "include")) e in cc

selection-of : NamePhrase → List NamePhrase → Selection
selection-of n ns = record { first = n; others = ns }

entry-same :
    (a b : EntryPhrase) (rs ss : List Lexeme) → is_right_entry a ≡ true → is_right_entry b ≡ true
    → entry_lexemes a rs ≡ entry_lexemes b ss → (a ≡ b) × (rs ≡ ss)
unfolding selection-of
entry-same (annotated_entry p) (annotated_entry q) rs ss h k e = let same = annotated-same p q rs ss h k e in (ap annotated_entry same.0, same.1)
entry-same (annotated_entry p) (whole_include g) rs ss h k e = absurd (no-include (is_clause_body p.body) (head-same _ _ _ _ e))
entry-same (annotated_entry p) (selected_include g ms) rs ss h k e = absurd (no-include (is_clause_body p.body) (head-same _ _ _ _ e))
entry-same (whole_include f) (annotated_entry q) rs ss h k e = absurd (no-include (is_clause_body q.body) (sym (head-same _ _ _ _ e)))
entry-same (whole_include f) (whole_include g) rs ss h k e =
    let from_file = tail-same _ _ _ _ (tail-same _ _ _ _ e) in
    (ap whole_include (word-same f g (head-same _ _ _ _ from_file)), tail-same _ _ _ _ (tail-same _ _ _ _ (tail-same _ _ _ _ from_file)))
entry-same (whole_include f) (selected_include g ms) rs ss h k e =
    absurd (let from_file = tail-same _ _ _ _ (tail-same _ _ _ _ e) in let x : false ≡ true = ap (first_is (codes ",")) (tail-same _ _ _ _ from_file) in cc)
entry-same (selected_include f ns) (annotated_entry q) rs ss h k e = absurd (no-include (is_clause_body q.body) (sym (head-same _ _ _ _ e)))
entry-same (selected_include f ns) (whole_include g) rs ss h k e =
    absurd (let from_file = tail-same _ _ _ _ (tail-same _ _ _ _ e) in let x : true ≡ false = ap (first_is (codes ",")) (tail-same _ _ _ _ from_file) in cc)
entry-same (selected_include f ns) (selected_include g ms) rs ss h k e =
    let from_file = tail-same _ _ _ _ (tail-same _ _ _ _ e) in
    let from_first = tail-same _ _ _ _ (tail-same _ _ _ _ (tail-same _ _ _ _ from_file)) in
    let more = names-same ns.others ms.others (include_end rs) (include_end ss) (tail-same _ _ _ _ from_first) in (
      ap₂ selected_include (word-same f g (head-same _ _ _ _ from_file))
          (ap₂ selection-of (name-same ns.first ms.first (head-same _ _ _ _ from_first)) more.0),
      tail-same _ _ _ _ (tail-same _ _ _ _ more.1),
    )

entry-begins : (e : EntryPhrase) (rest : List Lexeme) → [] ≡ entry_lexemes e rest → ⊥
entry-begins (annotated_entry p) rest e = cc
entry-begins (whole_include f) rest e = cc
entry-begins (selected_include f ns) rest e = cc

pub entries-same :
    (es fs : List EntryPhrase) → list_all is_right_entry es ≡ true → list_all is_right_entry fs ≡ true
    → problem_lexemes es ≡ problem_lexemes fs → es ≡ fs
entries-same [] [] h k e = refl
entries-same [] (f ∷ fs) h k e = absurd (entry-begins f (problem_lexemes fs) e)
entries-same (d ∷ es) [] h k e = absurd (entry-begins d (problem_lexemes es) (sym e))
entries-same (d ∷ es) (f ∷ fs) h k e =
    let right = and_parts (is_right_entry d) (list_all is_right_entry es) h in
    let wanted = and_parts (is_right_entry f) (list_all is_right_entry fs) k in
    let first = entry-same d f (problem_lexemes es) (problem_lexemes fs) right.0 wanted.0 e in
    ap₂ (λ x xs. x ∷ xs) first.0 (entries-same es fs right.1 wanted.1 first.1)

-- ---- what phrases say

tree-of : List ℕ → Role → Bool → FormulaTree → AnnotatedTree
tree-of n r c f = record { name = n; role = r; is_clause = c; formula = f }

pub tree-same : (p : AnnotatedPhrase) (t u : AnnotatedTree) → IsAnnotatedOf p t → IsAnnotatedOf p u → t ≡ u
unfolding tree-of
tree-same p t u h k =
    let roles : Some t.role ≡ Some u.role = sym h.role ∙ k.role in
    let role : t.role ≡ u.role = cc in
    ap₂ (λ n r. tree-of n r t.is_clause t.formula) (h.name ∙ sym k.name) role
    ∙ ap₂ (λ c f. tree-of u.name u.role c f) (h.is_clause ∙ sym k.is_clause) (h.formula ∙ sym k.formula)

entry_tree-same : (e : EntryPhrase) (t u : EntryTree) → IsEntryOf e t → IsEntryOf e u → t ≡ u
entry_tree-same (annotated_entry p) t u h k = h.2 ∙ ap annotated_tree (tree-same p h.0 k.0 h.1 k.1) ∙ sym k.2
entry_tree-same (whole_include f) t u h k = h ∙ sym k
entry_tree-same (selected_include f ns) t u h k = h ∙ sym k

pub trees-same : (es : List EntryPhrase) (ts us : List EntryTree) → AreEntriesOf es ts → AreEntriesOf es us → ts ≡ us
trees-same [] [] [] h k = refl
trees-same [] [] (u ∷ us) h k = absurd k
trees-same [] (t ∷ ts) us h k = absurd h
trees-same (e ∷ es) [] us h k = absurd h
trees-same (e ∷ es) (t ∷ ts) [] h k = absurd k
trees-same (e ∷ es) (t ∷ ts) (u ∷ us) h k = ap₂ (λ x xs. x ∷ xs) (entry_tree-same e t u h.0 k.0) (trees-same es ts us h.1 k.1)
