-- A list of tokens is that of at most one entry, with what follows it.
use Rattle.std.proofs.Common.{◌≡◌, ℕ, Option, None, Some, true, false, List, [], ◌∷◌, codes, refl, ap, ap₂, sym, ◌∙◌, bytes_eq}
use Rattle.std.specs.Prelude.{not, ◌&&◌}
use Rattle.std.proofs.lemmas.Bool.{and_parts}
use Rattle.tptp_token.specs.Lexemes.{Lexeme, lexeme, word_lexeme}
use Rattle.tptp_token.specs.Words.{Word, bare, quoted}
use Rattle.tptp_token.specs.declared.token.Kind.TheVariants.{Lower, Quoted, Dollar, Mark, Other}
use Rattle.tptp_tree.specs.Spelling.{atomic as plain_atomic, alone as plain_alone, true_atom}
use Rattle.tptp_tree.specs.Brackets.{are_balanced}
use Rattle.tptp_tree.specs.Entries.{NamePhrase, word_name, is_right_name, formula_body as plain_body, AnnotatedPhrase, notes_lexemes}
use Rattle.tptp_tree.proofs.AboutUniqueness.UniqueAtoms.{tail-same, head-same, first_is, word-same, EndsPhrase}
use Rattle.tptp_tree.proofs.AboutUniqueness.UniqueEntries.{name-same, annotated-same}
use Rattle.typed_tree.specs.TypedSpelling.{SortPhrase, dollar_sort, word_sort, sort_lexeme, Phrase, ArgumentsPhrase, one_argument, arguments_in_brackets, more_sorts_lexemes, arguments_lexemes, TypePhrase, kind_of_sorts, constant_of, proposition, function_from, predicate_from, type_lexemes, DeclarationPhrase, declares, declaration_in_brackets, declaration_lexemes}
use Rattle.typed_tree.specs.TypedEntries.{BodyPhrase, declaration_body, formula_body, role_word_of, is_right_body, TypedPhrase, is_right_typed, body_lexemes, typed_lexemes}
use Rattle.typed_tree.proofs.AboutUniqueness.UniquePhrases.{sort-same, phrase-same}

-- ---- notes: as in an untyped entry with the same notes

plain_with : List Lexeme → AnnotatedPhrase
plain_with notes =
    record { name = word_name (bare (codes "a")); role = codes "axiom"; body = plain_body (plain_alone (plain_atomic true_atom)); notes = notes }

notes-same :
    (ns ms rs ss : List Lexeme) → are_balanced ns ≡ true → are_balanced ms ≡ true
    → notes_lexemes ns (lexeme Mark (codes ")") ∷ lexeme Mark (codes ".") ∷ rs)
    ≡ notes_lexemes ms (lexeme Mark (codes ")") ∷ lexeme Mark (codes ".") ∷ ss)
    → (ns ≡ ms) × (rs ≡ ss)
unfolding plain_with
notes-same ns ms rs ss h k e =
    let same =
    annotated-same (plain_with ns) (plain_with ms) rs ss h k
    (ap
    (λ ts.
    lexeme Lower (codes "fof") ∷ lexeme Mark (codes "(") ∷ lexeme Lower (codes "a") ∷ lexeme Mark (codes ",") ∷ lexeme Lower (codes "axiom")
    ∷ lexeme Mark (codes ",") ∷ lexeme Dollar (codes "$true") ∷ ts)
    e) in
    (ap (λ (p : AnnotatedPhrase). p.notes) same.0, same.1)

notes-end : (ns rest : List Lexeme) → EndsPhrase (notes_lexemes ns (lexeme Mark (codes ")") ∷ rest))
notes-end [] rest = record { unit = record { flat = refl; alone_here = refl }; last = refl }
notes-end (n ∷ ns) rest = record { unit = record { flat = refl; alone_here = refl }; last = refl }

-- ---- sorts of arguments

sort-no_bracket : (s : SortPhrase) → sort_lexeme s ≡ lexeme Mark (codes "(") → ⊥
sort-no_bracket dollar_sort e = let k : Dollar ≡ Mark = ap (λ (l : Lexeme). l.kind) e in cc
sort-no_bracket (word_sort (bare w)) e = let k : Lower ≡ Mark = ap (λ (l : Lexeme). l.kind) e in cc
sort-no_bracket (word_sort (quoted w)) e = let k : Quoted ≡ Mark = ap (λ (l : Lexeme). l.kind) e in cc

more_sorts-same :
    (ss ts : List SortPhrase) (ls ms : List Lexeme)
    → more_sorts_lexemes ss (lexeme Mark (codes ")") ∷ ls) ≡ more_sorts_lexemes ts (lexeme Mark (codes ")") ∷ ms) → (ss ≡ ts) × (ls ≡ ms)
more_sorts-same [] [] ls ms e = (refl, tail-same (lexeme Mark (codes ")")) (lexeme Mark (codes ")")) ls ms e)
more_sorts-same [] (t ∷ ts) ls ms e = absurd (let f : false ≡ true = ap (first_is (codes "*")) e in cc)
more_sorts-same (s ∷ ss) [] ls ms e = absurd (let f : true ≡ false = ap (first_is (codes "*")) e in cc)
more_sorts-same (s ∷ ss) (t ∷ ts) ls ms e =
    let inner = tail-same _ _ _ _ e in
    let more = more_sorts-same ss ts ls ms (tail-same _ _ _ _ inner) in
    (ap₂ (λ x xs. x ∷ xs) (sort-same s t (head-same _ _ _ _ inner)) more.0, more.1)

arguments-same :
    (a b : ArgumentsPhrase) (ls ms : List Lexeme) → arguments_lexemes a ls ≡ arguments_lexemes b ms → (a ≡ b) × (ls ≡ ms)
arguments-same (one_argument s) (one_argument t) ls ms e = (ap one_argument (sort-same s t (head-same _ _ _ _ e)), tail-same _ _ _ _ e)
arguments-same (one_argument s) (arguments_in_brackets t ts) ls ms e = absurd (sort-no_bracket s (head-same _ _ _ _ e))
arguments-same (arguments_in_brackets s ss) (one_argument t) ls ms e = absurd (sort-no_bracket t (sym (head-same _ _ _ _ e)))
arguments-same (arguments_in_brackets s ss) (arguments_in_brackets t ts) ls ms e =
    let inner = tail-same _ _ _ _ e in
    let more = more_sorts-same ss ts ls ms (tail-same _ _ _ _ inner) in
    (ap₂ arguments_in_brackets (sort-same s t (head-same _ _ _ _ inner)) more.0, more.1)

-- ---- types: what stands before the last token of a type, and that token

data Ends : Type 0 where
  in_sorts : Ends
  in_truth : Ends
  in_sort : SortPhrase → Ends

abbrev end_lexeme : Ends → Lexeme
end_lexeme in_sorts = lexeme Dollar (codes "$tType")
end_lexeme in_truth = lexeme Dollar (codes "$o")
end_lexeme (in_sort s) = sort_lexeme s

abbrev end_of : TypePhrase → Ends
end_of kind_of_sorts = in_sorts
end_of (constant_of s) = in_sort s
end_of proposition = in_truth
end_of (function_from a s) = in_sort s
end_of (predicate_from a) = in_truth

abbrev arguments_of : TypePhrase → Option ArgumentsPhrase
arguments_of kind_of_sorts = None
arguments_of (constant_of s) = None
arguments_of proposition = None
arguments_of (function_from a s) = Some a
arguments_of (predicate_from a) = Some a

abbrev type_with : Option ArgumentsPhrase → Ends → TypePhrase
type_with None in_sorts = kind_of_sorts
type_with None in_truth = proposition
type_with None (in_sort s) = constant_of s
type_with (Some a) in_sorts = kind_of_sorts
type_with (Some a) in_truth = predicate_from a
type_with (Some a) (in_sort s) = function_from a s

type-parts : (t : TypePhrase) → type_with (arguments_of t) (end_of t) ≡ t
type-parts kind_of_sorts = refl
type-parts (constant_of s) = refl
type-parts proposition = refl
type-parts (function_from a s) = refl
type-parts (predicate_from a) = refl

abbrev before_end : Option ArgumentsPhrase → List Lexeme → List Lexeme
before_end None ls = ls
before_end (Some a) ls = arguments_lexemes a (lexeme Other (codes ">") ∷ ls)

type-tokens : (t : TypePhrase) (ls : List Lexeme) → type_lexemes t ls ≡ before_end (arguments_of t) (end_lexeme (end_of t) ∷ ls)
type-tokens kind_of_sorts ls = refl
type-tokens (constant_of s) ls = refl
type-tokens proposition ls = refl
type-tokens (function_from a s) ls = refl
type-tokens (predicate_from a) ls = refl

-- a word after `$` is a sort where it is `$i`
dollar-sort : (bytes : List ℕ) (s : SortPhrase) → bytes_eq bytes (codes "$i") ≡ false → lexeme Dollar bytes ≡ sort_lexeme s → ⊥
dollar-sort bytes dollar_sort h e =
    let f : bytes_eq bytes (codes "$i") ≡ true = ap (λ (l : Lexeme). bytes_eq l.bytes (codes "$i")) e in
    let g : false ≡ true = sym h ∙ f in
    cc
dollar-sort bytes (word_sort (bare w)) h e = let k : Dollar ≡ Lower = ap (λ (l : Lexeme). l.kind) e in cc
dollar-sort bytes (word_sort (quoted w)) h e = let k : Dollar ≡ Quoted = ap (λ (l : Lexeme). l.kind) e in cc

end-same : (t u : Ends) → end_lexeme t ≡ end_lexeme u → t ≡ u
end-same in_sorts in_sorts e = refl
end-same in_sorts in_truth e = absurd (let f : true ≡ false = ap (λ (l : Lexeme). bytes_eq l.bytes (codes "$tType")) e in cc)
end-same in_sorts (in_sort s) e = absurd (dollar-sort (codes "$tType") s refl e)
end-same in_truth in_sorts e = absurd (let f : false ≡ true = ap (λ (l : Lexeme). bytes_eq l.bytes (codes "$tType")) e in cc)
end-same in_truth in_truth e = refl
end-same in_truth (in_sort s) e = absurd (dollar-sort (codes "$o") s refl e)
end-same (in_sort s) in_sorts e = absurd (dollar-sort (codes "$tType") s refl (sym e))
end-same (in_sort s) in_truth e = absurd (dollar-sort (codes "$o") s refl (sym e))
end-same (in_sort s) (in_sort t) e = ap in_sort (sort-same s t e)

end-no_bracket : (t : Ends) → end_lexeme t ≡ lexeme Mark (codes "(") → ⊥
end-no_bracket in_sorts e = let k : Dollar ≡ Mark = ap (λ (l : Lexeme). l.kind) e in cc
end-no_bracket in_truth e = let k : Dollar ≡ Mark = ap (λ (l : Lexeme). l.kind) e in cc
end-no_bracket (in_sort s) e = sort-no_bracket s e

-- a type that ends before other tokens than `>` has no arguments
no-arguments :
    (t : Ends) (a : ArgumentsPhrase) (ls ms : List Lexeme) → first_is (codes ">") ls ≡ false
    → end_lexeme t ∷ ls ≡ arguments_lexemes a (lexeme Other (codes ">") ∷ ms) → ⊥
no-arguments t (one_argument s) ls ms h e =
    let f : false ≡ true = sym h ∙ ap (first_is (codes ">")) (tail-same _ _ _ _ e) in cc
no-arguments t (arguments_in_brackets s ss) ls ms h e = end-no_bracket t (head-same _ _ _ _ e)

parts-same :
    (a b : Option ArgumentsPhrase) (t u : Ends) (ls ms : List Lexeme) → first_is (codes ">") ls ≡ false → first_is (codes ">") ms ≡ false
    → before_end a (end_lexeme t ∷ ls) ≡ before_end b (end_lexeme u ∷ ms) → (a ≡ b) × (t ≡ u) × (ls ≡ ms)
parts-same None None t u ls ms h k e = (refl, end-same t u (head-same _ _ _ _ e), tail-same _ _ _ _ e)
parts-same None (Some b) t u ls ms h k e = absurd (no-arguments t b ls (end_lexeme u ∷ ms) h e)
parts-same (Some a) None t u ls ms h k e = absurd (no-arguments u a ms (end_lexeme t ∷ ls) k (sym e))
parts-same (Some a) (Some b) t u ls ms h k e =
    let same = arguments-same a b (lexeme Other (codes ">") ∷ end_lexeme t ∷ ls) (lexeme Other (codes ">") ∷ end_lexeme u ∷ ms) e in
    let inner = tail-same _ _ _ _ same.1 in
    (ap Some same.0, end-same t u (head-same _ _ _ _ inner), tail-same _ _ _ _ inner)

type-same :
    (t u : TypePhrase) (ls ms : List Lexeme) → first_is (codes ">") ls ≡ false → first_is (codes ">") ms ≡ false
    → type_lexemes t ls ≡ type_lexemes u ms → (t ≡ u) × (ls ≡ ms)
type-same t u ls ms h k e =
    let same =
    parts-same (arguments_of t) (arguments_of u) (end_of t) (end_of u) ls ms h k (sym (type-tokens t ls) ∙ e ∙ type-tokens u ms) in
    (sym (type-parts t) ∙ ap₂ type_with same.0 same.1 ∙ type-parts u, same.2)

-- ---- declarations

word-no_bracket : (w : Word) → word_lexeme w ≡ lexeme Mark (codes "(") → ⊥
word-no_bracket w e = sort-no_bracket (word_sort w) e

declaration-same :
    (d f : DeclarationPhrase) (ls ms : List Lexeme) → first_is (codes ">") ls ≡ false → first_is (codes ">") ms ≡ false
    → declaration_lexemes d ls ≡ declaration_lexemes f ms → (d ≡ f) × (ls ≡ ms)
declaration-same (declares w t) (declares v u) ls ms h k e =
    let word = word-same w v (head-same _ _ _ _ e) in
    let more = type-same t u ls ms h k (tail-same _ _ _ _ (tail-same _ _ _ _ e)) in
    (ap₂ declares word more.0, more.1)
declaration-same (declares w t) (declaration_in_brackets f) ls ms h k e = absurd (word-no_bracket w (head-same _ _ _ _ e))
declaration-same (declaration_in_brackets d) (declares v u) ls ms h k e = absurd (word-no_bracket v (sym (head-same _ _ _ _ e)))
declaration-same (declaration_in_brackets d) (declaration_in_brackets f) ls ms h k e =
    let inner = declaration-same d f (lexeme Mark (codes ")") ∷ ls) (lexeme Mark (codes ")") ∷ ms) refl refl (tail-same _ _ _ _ e) in
    (ap declaration_in_brackets inner.0, tail-same _ _ _ _ inner.1)

-- ---- entries

notes-no_arrow : (ns rest : List Lexeme) → first_is (codes ">") (notes_lexemes ns (lexeme Mark (codes ")") ∷ rest)) ≡ false
notes-no_arrow [] rest = refl
notes-no_arrow (n ∷ ns) rest = refl

no-type : (role : List ℕ) (p : Phrase) → is_right_body (formula_body role p) ≡ true → codes "type" ≡ role → ⊥
no-type role p h e =
    let f : false ≡ true = ap (λ r. not (bytes_eq (codes "type") r)) e ∙ h in cc

body-same :
    (b d : BodyPhrase) (ns ms rs ss : List Lexeme) → is_right_body b ≡ true → is_right_body d ≡ true → role_word_of b ≡ role_word_of d
    → body_lexemes b (notes_lexemes ns (lexeme Mark (codes ")") ∷ rs)) ≡ body_lexemes d (notes_lexemes ms (lexeme Mark (codes ")") ∷ ss))
    → (b ≡ d) × (notes_lexemes ns (lexeme Mark (codes ")") ∷ rs) ≡ notes_lexemes ms (lexeme Mark (codes ")") ∷ ss))
body-same (declaration_body d) (declaration_body f) ns ms rs ss h k r e =
    let same =
    declaration-same d f (notes_lexemes ns (lexeme Mark (codes ")") ∷ rs)) (notes_lexemes ms (lexeme Mark (codes ")") ∷ ss))
    (notes-no_arrow ns rs) (notes-no_arrow ms ss) e in
    (ap declaration_body same.0, same.1)
body-same (declaration_body d) (formula_body role q) ns ms rs ss h k r e = absurd (no-type role q k r)
body-same (formula_body role p) (declaration_body f) ns ms rs ss h k r e = absurd (no-type role p h (sym r))
body-same (formula_body role p) (formula_body other q) ns ms rs ss h k r e =
    let same =
    phrase-same p q (notes_lexemes ns (lexeme Mark (codes ")") ∷ rs)) (notes_lexemes ms (lexeme Mark (codes ")") ∷ ss)) (notes-end ns rs)
    (notes-end ms ss) e in
    (ap₂ formula_body r same.0, same.1)

typed_with : NamePhrase → BodyPhrase → List Lexeme → TypedPhrase
typed_with n b ns = record { name = n; body = b; notes = ns }

pub typed-same :
    (p q : TypedPhrase) (rs ss : List Lexeme) → is_right_typed p ≡ true → is_right_typed q ≡ true
    → typed_lexemes p rs ≡ typed_lexemes q ss → (p ≡ q) × (rs ≡ ss)
unfolding typed_with
typed-same p q rs ss h k e =
    let right_p = and_parts (is_right_name p.name) (is_right_body p.body && are_balanced p.notes) h in
    let right_q = and_parts (is_right_name q.name) (is_right_body q.body && are_balanced q.notes) k in
    let parts_p = and_parts (is_right_body p.body) (are_balanced p.notes) right_p.1 in
    let parts_q = and_parts (is_right_body q.body) (are_balanced q.notes) right_q.1 in
    let from_name = tail-same _ _ _ _ (tail-same _ _ _ _ e) in
    let name = name-same p.name q.name (head-same _ _ _ _ from_name) in
    let from_role = tail-same _ _ _ _ (tail-same _ _ _ _ from_name) in
    let role : role_word_of p.body ≡ role_word_of q.body = ap (λ (l : Lexeme). l.bytes) (head-same _ _ _ _ from_role) in
    let from_body = tail-same _ _ _ _ (tail-same _ _ _ _ from_role) in
    let body =
    body-same p.body q.body p.notes q.notes (lexeme Mark (codes ".") ∷ rs) (lexeme Mark (codes ".") ∷ ss) parts_p.0 parts_q.0 role from_body in
    let notes = notes-same p.notes q.notes rs ss parts_p.1 parts_q.1 body.1 in
    (ap₂ (λ n b. typed_with n b p.notes) name body.0 ∙ ap (typed_with q.name q.body) notes.0, notes.1)
