-- Each step of the machine is right.
use Rattle.std.proofs.Common.{◌≡◌, ◌⊎◌, inl, inr, ℕ, Bool, true, false, Option, None, Some, List, [], ◌∷◌, codes, refl, ap, ap₂, ◌∙◌, bytes_eq}
use Rattle.std.specs.Prelude.{if◌then◌else◌, not, ◌&&◌, ◌||◌}
use Rattle.tptp_token.specs.Words.{Word, bare, quoted, is_word}
use Rattle.tptp_token.specs.Lexemes.{Lexeme, lexeme, word_lexeme, is_lexeme, is_mark, is_connective}
use Rattle.tptp_token.specs.declared.token.Kind.{Kind}
use Rattle.tptp_token.specs.declared.token.Kind.TheVariants.{Lower, Variable, Quoted, Distinct, Dollar, Number, Connective, Mark, Other}
use Rattle.tptp_tree.specs.Formula.{Quantifier, for_all, exists_some}
use Rattle.tptp_tree.specs.Spelling.{quantifier_lexeme}
use Rattle.tptp_tree.specs.Entries.{name_lexeme, notes_lexemes, role_of}
use Rattle.tptp_tree.specs.Causes.{syntax, left_out, typed, Surroundings, deeper, binding, begun, untaken_role_cause}
use Rattle.tptp_reader.specs.Machine.{an_atom as plain_atom, step as plain_step, is_binary_connective}
use Rattle.tptp_reader.proofs.AboutTexts.Spelled.{colon_and, entry_end}
use Rattle.tptp_reader.proofs.AboutTexts.TokenTests.{lexeme-same, mark-same, connective-same, binary-same}
use Rattle.tptp_reader.proofs.AboutSteps.StepEntries.{step-right as plain-step-right}
use Rattle.list_lemmas.proofs.Bools.{or-either}
use Rattle.typed_tree.specs.TypedSpelling.{SortPhrase, dollar_sort, word_sort, sort_lexeme, sort_part_lexemes, more_variables_lexemes, UnitPhrase, negated, bound, in_brackets, atomic, UnitPhrases, no_units, unit_then, Phrase, unit_lexemes, units_lexemes, phrase_lexemes, one_argument, arguments_in_brackets, more_sorts_lexemes, arguments_lexemes, ArgumentsPhrase, TypePhrase, kind_of_sorts, constant_of, proposition, function_from, predicate_from, type_lexemes, declares, declaration_in_brackets, declaration_lexemes}
use Rattle.typed_tree.specs.TypedEntries.{declaration_body, formula_body, body_lexemes, role_word_of}
use Rattle.typed_tree.specs.TypedCauses.{outermost}
use Rattle.typed_tree.specs.TypedAnswers.{plain}
use Rattle.typed_machine.specs.TypedMachine.{TypedSymbol, untyped_symbol, an_entry, a_typed_role, a_unit, maybe_connected, maybe_more_units, variables_bracket, next_variable, maybe_sort, more_variables, a_sort_word, a_declaration, a_type, maybe_result, an_arrow, a_result, more_sorts, TypedStep, takes, passes, stops, taken, typed_step_of, step, unit_step, connected_step, variable_step, is_sort_token, sort_step, sort_refusal, type_step, result_step, role_step, entry_step}
use Rattle.typed_machine.proofs.AboutRuns.PlainSymbols.{mark, a_name, end_of_body}
use Rattle.typed_machine.proofs.AboutTexts.Spelled.{ended, and_all, or_some, and_joined, with_end, with_end-lexemes, variables_lexemes, result_lexeme, result_lexemes, Spells, SpellAll, IsStepOf, plain-right}

-- both ways of a test
pub choose : (P : TypedStep → Type 0) (b : Bool) (x y : TypedStep) → (b ≡ true → P x) → (b ≡ false → P y) → P (if b then x else y)
choose P true x y h k = h refl
choose P false x y h k = k refl

-- what spells as one symbol does steps as that symbol does
mapped :
    (a b : TypedSymbol) (t : Lexeme) (x : TypedStep) → ((ts rest : List Lexeme) → Spells a ts rest → Spells b ts rest) → IsStepOf a t x → IsStepOf b t x
mapped a b t (takes new cause) f h = λ ts rest g. f (t ∷ ts) rest (h ts rest g)
mapped a b t passes f h = λ ts. f ts ts (h ts)
mapped a b t (stops refusal) f h = tt

pub untyped-right : (a : _) (t : Lexeme) → IsStepOf (untyped_symbol a) t (step (untyped_symbol a) t)
untyped-right a t = plain-right a t (plain_step a t) (plain-step-right a t)

-- ---- units

quantifier-same :
    (t : Lexeme) → (is_connective (codes "!") t ≡ true) ⊎ (is_connective (codes "?") t ≡ true) → (q : Quantifier) × (t ≡ quantifier_lexeme q)
quantifier-same t (inl e) = (for_all, connective-same (codes "!") t e)
quantifier-same t (inr e) = (exists_some, connective-same (codes "?") t e)

bound-unit :
    (s : Surroundings) (t : Lexeme) (q : Quantifier) → t ≡ quantifier_lexeme q → (ts rest : List Lexeme)
    → SpellAll (variables_bracket s ∷ []) ts rest → (u : UnitPhrase) × (t ∷ ts ≡ unit_lexemes u rest)
bound-unit s t q e ts rest h = (
  bound q h.1.0 h.1.1,
  ap₂ (λ x xs. x ∷ xs) e
      (h.1.2 ∙ ap (λ xs. lexeme Mark (codes "[") ∷ variables_lexemes h.1.0 (colon_and (unit_lexemes h.1.1 xs))) h.2),
)

-- a unit and what is connected with it is a formula
formula-of :
    (s : Surroundings) (more : List TypedSymbol) (ts rest : List Lexeme) → SpellAll (a_unit s ∷ maybe_connected s ∷ more) ts rest
    → (p : Phrase) × (between : List Lexeme) × (ts ≡ phrase_lexemes p between) × SpellAll more between rest
formula-of s more ts rest h =
    (with_end h.1.0 h.2.1.0, h.2.0, h.1.1 ∙ ap (unit_lexemes h.1.0) h.2.1.1 ∙ with_end-lexemes h.1.0 h.2.1.0 h.2.0, h.2.2)

-- a formula up to its closing bracket
bracketed-unit :
    (s : Surroundings) (t : Lexeme) → t ≡ lexeme Mark (codes "(") → (ts rest : List Lexeme)
    → SpellAll (a_unit s ∷ maybe_connected s ∷ mark (codes ")") ∷ []) ts rest → (u : UnitPhrase) × (t ∷ ts ≡ unit_lexemes u rest)
bracketed-unit s t e ts rest h =
    let f = formula-of s (mark (codes ")") ∷ []) ts rest h in
    (in_brackets f.0, ap₂ (λ x xs. x ∷ xs) e (f.2 ∙ ap (phrase_lexemes f.0) (f.3.1 ∙ ap (λ xs. lexeme Mark (codes ")") ∷ xs) f.3.2)))

unit-right : (s : Surroundings) (t : Lexeme) → IsStepOf (a_unit s) t (unit_step s t)
unit-right s t =
    choose (IsStepOf (a_unit s) t) (is_connective (codes "~") t) (takes (a_unit (deeper s) ∷ []) (begun s)) _
    (λ e ts rest h. (negated h.1.0, ap₂ (λ x xs. x ∷ xs) (connective-same (codes "~") t e) (h.1.1 ∙ ap (unit_lexemes h.1.0) h.2)))
    (λ e. choose (IsStepOf (a_unit s) t) (is_connective (codes "!") t || is_connective (codes "?") t) (taken (variables_bracket s ∷ [])) _
    (λ f ts rest h. let q = quantifier-same t (or-either (is_connective (codes "!") t) (is_connective (codes "?") t) f) in bound-unit s t q.0 q.1 ts rest h)
    (λ f. choose (IsStepOf (a_unit s) t) (is_mark (codes "(") t) (takes (a_unit (deeper s) ∷ maybe_connected (deeper s) ∷ mark (codes ")") ∷ []) (begun s)) _
    (λ g ts rest h. bracketed-unit (deeper s) t (mark-same (codes "(") t g) ts rest h)
    (λ g. mapped (untyped_symbol (plain_atom true s)) (a_unit s) t (typed_step_of (plain_step (plain_atom true s) t)) (λ ts rest h. (atomic h.0, h.1))
    (untyped-right (plain_atom true s) t))))

-- an operand and those behind it
two-units :
    (sign : List ℕ) (s : Surroundings) (ts rest : List Lexeme) → SpellAll (a_unit s ∷ maybe_more_units sign s ∷ []) ts rest
    → (u : UnitPhrase) × (us : UnitPhrases) × (ts ≡ unit_lexemes u (units_lexemes (lexeme Connective sign) us rest))
two-units sign s ts rest h =
    (h.1.0, h.2.1.0, h.1.1 ∙ ap (unit_lexemes h.1.0) (h.2.1.1 ∙ ap (units_lexemes (lexeme Connective sign) h.2.1.0) h.2.2))

connected-right : (s : Surroundings) (t : Lexeme) → IsStepOf (maybe_connected s) t (connected_step s t)
connected-right s t =
    choose (IsStepOf (maybe_connected s) t) (is_connective (codes "&") t) (taken (a_unit s ∷ maybe_more_units (codes "&") s ∷ [])) _
    (λ e ts rest h. let m = two-units (codes "&") s ts rest h in (and_all m.0 m.1, ap₂ (λ x xs. x ∷ xs) (connective-same (codes "&") t e) m.2))
    (λ e. choose (IsStepOf (maybe_connected s) t) (is_connective (codes "|") t) (taken (a_unit s ∷ maybe_more_units (codes "|") s ∷ [])) _
    (λ f ts rest h. let m = two-units (codes "|") s ts rest h in (or_some m.0 m.1, ap₂ (λ x xs. x ∷ xs) (connective-same (codes "|") t f) m.2))
    (λ f. choose (IsStepOf (maybe_connected s) t) (is_binary_connective t) (taken (a_unit s ∷ [])) passes
    (λ g ts rest h. let c = binary-same t g in (and_joined c.0 h.1.0, ap₂ (λ x xs. x ∷ xs) c.1 (h.1.1 ∙ ap (unit_lexemes h.1.0) h.2)))
    (λ g ts. (ended, refl))))

units-right : (sign : List ℕ) (s : Surroundings) (t : Lexeme) → IsStepOf (maybe_more_units sign s) t (step (maybe_more_units sign s) t)
units-right sign s t =
    choose (IsStepOf (maybe_more_units sign s) t) (is_connective sign t) (taken (a_unit s ∷ maybe_more_units sign s ∷ [])) passes
    (λ e ts rest h. let m = two-units sign s ts rest h in (unit_then m.0 m.1, ap₂ (λ x xs. x ∷ xs) (connective-same sign t e) m.2))
    (λ e ts. (no_units, refl))

-- ---- sorts

-- a token that is a sort
pub sort-of : (k : Kind) (bytes : List ℕ) → is_sort_token (lexeme k bytes) ≡ true → (s : SortPhrase) × (lexeme k bytes ≡ sort_lexeme s)
sort-of Lower bytes h = (word_sort (bare bytes), refl)
sort-of Quoted bytes h = (word_sort (quoted bytes), refl)
sort-of Dollar bytes h = (dollar_sort, lexeme-same Dollar (codes "$i") (lexeme Dollar bytes) h)
sort-of Variable bytes h = absurd (let f : false ≡ true = h in cc)
sort-of Distinct bytes h = absurd (let f : false ≡ true = h in cc)
sort-of Number bytes h = absurd (let f : false ≡ true = h in cc)
sort-of Connective bytes h = absurd (let f : false ≡ true = h in cc)
sort-of Mark bytes h = absurd (let f : false ≡ true = h in cc)
sort-of Other bytes h = absurd (let f : false ≡ true = h in cc)

sort-right : (t : Lexeme) → IsStepOf a_sort_word t (sort_step [] t)
sort-right t =
    choose (IsStepOf a_sort_word t) (is_sort_token t) (taken []) (stops (plain (sort_refusal t)))
    (λ e ts rest h. let s = sort-of t.kind t.bytes e in (s.0, ap₂ (λ x xs. x ∷ xs) s.1 h)) (λ e. tt)

-- ---- variables

bracket-right : (s : Surroundings) (t : Lexeme) → IsStepOf (variables_bracket s) t (step (variables_bracket s) t)
bracket-right s t =
    choose (IsStepOf (variables_bracket s) t) (is_mark (codes "[") t) (takes (next_variable [] s ∷ []) (begun s)) (stops (plain syntax))
    (λ e ts rest h. (
      h.1.0,
      h.1.1,
      ap₂ (λ x xs. x ∷ xs) (mark-same (codes "[") t e) (h.1.2 ∙ ap (λ xs. variables_lexemes h.1.0 (colon_and (unit_lexemes h.1.1 xs))) h.2),
    ))
    (λ e. tt)

-- a variable, its sort and those behind it
variable-right :
    (xs : List (List ℕ)) (s : Surroundings) (k : Kind) (bytes : List ℕ) → IsStepOf (next_variable xs s) (lexeme k bytes) (variable_step xs s (lexeme k bytes))
variable-right xs s Variable bytes =
    λ ts rest h. (
      record { first = record { name = bytes; sort = h.1.0 }; others = h.2.1.0 },
      h.2.1.1,
      ap (λ ys. lexeme Variable bytes ∷ ys)
          (h.1.1
          ∙ ap (sort_part_lexemes h.1.0)
          (h.2.1.2 ∙ ap (λ ys. more_variables_lexemes h.2.1.0 (colon_and (unit_lexemes h.2.1.1 ys))) h.2.2)),
    )
variable-right xs s Lower bytes = tt
variable-right xs s Quoted bytes = tt
variable-right xs s Distinct bytes = tt
variable-right xs s Dollar bytes = tt
variable-right xs s Number bytes = tt
variable-right xs s Connective bytes = tt
variable-right xs s Mark bytes = tt
variable-right xs s Other bytes = tt

sort_part-right : (t : Lexeme) → IsStepOf maybe_sort t (step maybe_sort t)
sort_part-right t =
    choose (IsStepOf maybe_sort t) (is_mark (codes ":") t) (taken (a_sort_word ∷ [])) passes
    (λ e ts rest h. (
      Some h.1.0,
      ap₂ (λ x xs. x ∷ xs) (mark-same (codes ":") t e) (h.1.1 ∙ ap (λ xs. sort_lexeme h.1.0 ∷ xs) h.2),
    ))
    (λ e ts. (None, refl))

more_variables-right : (xs : List (List ℕ)) (s : Surroundings) (t : Lexeme) → IsStepOf (more_variables xs s) t (step (more_variables xs s) t)
more_variables-right xs s t =
    choose (IsStepOf (more_variables xs s) t) (is_mark (codes ",") t) (taken (next_variable xs s ∷ [])) _
    (λ e ts rest h. (
      h.1.0.first ∷ h.1.0.others,
      h.1.1,
      ap₂ (λ x ys. x ∷ ys) (mark-same (codes ",") t e) (h.1.2 ∙ ap (λ ys. variables_lexemes h.1.0 (colon_and (unit_lexemes h.1.1 ys))) h.2),
    ))
    (λ e. choose (IsStepOf (more_variables xs s) t) (is_mark (codes "]") t) (taken (mark (codes ":") ∷ a_unit (binding xs s) ∷ [])) (stops (plain syntax))
    (λ f ts rest h. (
      [],
      h.2.1.0,
      ap₂ (λ x ys. x ∷ ys) (mark-same (codes "]") t f) (h.1 ∙ ap (λ ys. lexeme Mark (codes ":") ∷ ys) (h.2.1.1 ∙ ap (unit_lexemes h.2.1.0) h.2.2)),
    ))
    (λ f. tt))

-- ---- types

result-right : (t : Lexeme) → IsStepOf a_result t (result_step t)
result-right t =
    choose (IsStepOf a_result t) (is_lexeme Dollar (codes "$o") t) (taken []) _
    (λ e ts rest h. (None, ap₂ (λ x xs. x ∷ xs) (lexeme-same Dollar (codes "$o") t e) h))
    (λ e. choose (IsStepOf a_result t) (is_sort_token t) (taken []) (stops (plain (sort_refusal t)))
    (λ f ts rest h. let s = sort-of t.kind t.bytes f in (Some s.0, ap₂ (λ x xs. x ∷ xs) s.1 h)) (λ f. tt))

-- the type of those arguments and that result
with_result : ArgumentsPhrase → Option SortPhrase → TypePhrase
with_result a None = predicate_from a
with_result a (Some s) = function_from a s

result-of :
    (a : ArgumentsPhrase) (r : Option SortPhrase) (rest : List Lexeme)
    → arguments_lexemes a (lexeme Other (codes ">") ∷ result_lexeme r ∷ rest) ≡ type_lexemes (with_result a r) rest
unfolding with_result
result-of a None rest = refl
result-of a (Some s) rest = refl

-- a first sort, and a result or nothing
after-sort :
    (s : SortPhrase) (o : Option (Option SortPhrase)) (rest : List Lexeme)
    → (t : TypePhrase) × (sort_lexeme s ∷ result_lexemes o rest ≡ type_lexemes t rest)
after-sort s None rest = (constant_of s, refl)
after-sort s (Some r) rest = (with_result (one_argument s) r, result-of (one_argument s) r rest)

sort-type :
    (k : Kind) (bytes : List ℕ) (ts rest : List Lexeme) → is_sort_token (lexeme k bytes) ≡ true → SpellAll (maybe_result ∷ []) ts rest
    → (t : TypePhrase) × (lexeme k bytes ∷ ts ≡ type_lexemes t rest)
sort-type k bytes ts rest e h =
    let s = sort-of k bytes e in
    let t = after-sort s.0 h.1.0 rest in
    (t.0, ap₂ (λ x xs. x ∷ xs) s.1 (h.1.1 ∙ ap (result_lexemes h.1.0) h.2) ∙ t.1)

bracketed-type :
    (ts rest : List Lexeme) → SpellAll (a_sort_word ∷ more_sorts ∷ an_arrow ∷ a_result ∷ []) ts rest
    → (t : TypePhrase) × (lexeme Mark (codes "(") ∷ ts ≡ type_lexemes t rest)
bracketed-type ts rest h =
    let a = arguments_in_brackets h.1.0 h.2.1.0 in
    let r = h.2.2.2.1.0 in (
      with_result a r,
      ap (λ xs. lexeme Mark (codes "(") ∷ xs)
          (h.1.1
          ∙ ap (λ xs. sort_lexeme h.1.0 ∷ xs)
          (h.2.1.1
          ∙ ap (λ xs. more_sorts_lexemes h.2.1.0 (lexeme Mark (codes ")") ∷ xs))
          (h.2.2.1 ∙ ap (λ xs. lexeme Other (codes ">") ∷ xs) (h.2.2.2.1.1 ∙ ap (λ xs. result_lexeme r ∷ xs) h.2.2.2.2))))
          ∙ result-of a r rest,
    )

word-type :
    (t : Lexeme) → (is_lexeme Dollar (codes "$tType") t ≡ true) ⊎ (is_lexeme Dollar (codes "$o") t ≡ true)
    → (x : TypePhrase) × ((rest : List Lexeme) → t ∷ rest ≡ type_lexemes x rest)
word-type t (inl e) = (kind_of_sorts, λ rest. ap (λ x. x ∷ rest) (lexeme-same Dollar (codes "$tType") t e))
word-type t (inr e) = (proposition, λ rest. ap (λ x. x ∷ rest) (lexeme-same Dollar (codes "$o") t e))

type-right : (s : Surroundings) (t : Lexeme) → IsStepOf (a_type s) t (type_step s t)
type-right s t =
    choose (IsStepOf (a_type s) t) (is_lexeme Dollar (codes "$tType") t || is_lexeme Dollar (codes "$o") t) (taken []) _
    (λ e ts rest h.
    let x = word-type t (or-either (is_lexeme Dollar (codes "$tType") t) (is_lexeme Dollar (codes "$o") t) e) in
    (x.0, ap (λ xs. t ∷ xs) h ∙ x.1 rest))
    (λ e. choose (IsStepOf (a_type s) t) (is_connective (codes "!") t) (stops _) _ (λ f. tt)
    (λ f. choose (IsStepOf (a_type s) t) (is_mark (codes "(") t) (takes (a_sort_word ∷ more_sorts ∷ an_arrow ∷ a_result ∷ []) (begun s)) _
    (λ g ts rest h. let x = bracketed-type ts rest h in (x.0, ap (λ u. u ∷ ts) (mark-same (codes "(") t g) ∙ x.1))
    (λ g. choose (IsStepOf (a_type s) t) (is_sort_token t) (taken (maybe_result ∷ [])) (stops (plain (sort_refusal t)))
    (λ i ts rest h. sort-type t.kind t.bytes ts rest i h) (λ i. tt))))

maybe_result-right : (t : Lexeme) → IsStepOf maybe_result t (step maybe_result t)
maybe_result-right t =
    choose (IsStepOf maybe_result t) (is_lexeme Other (codes ">") t) (taken (a_result ∷ [])) passes
    (λ e ts rest h. (
      Some h.1.0,
      ap₂ (λ x xs. x ∷ xs) (lexeme-same Other (codes ">") t e) (h.1.1 ∙ ap (λ xs. result_lexeme h.1.0 ∷ xs) h.2),
    ))
    (λ e ts. (None, refl))

arrow-right : (t : Lexeme) → IsStepOf an_arrow t (step an_arrow t)
arrow-right t =
    choose (IsStepOf an_arrow t) (is_lexeme Other (codes ">") t) (taken []) (stops (plain syntax))
    (λ e ts rest h. ap₂ (λ x xs. x ∷ xs) (lexeme-same Other (codes ">") t e) h) (λ e. tt)

more_sorts-right : (t : Lexeme) → IsStepOf more_sorts t (step more_sorts t)
more_sorts-right t =
    choose (IsStepOf more_sorts t) (is_lexeme Other (codes "*") t) (taken (a_sort_word ∷ more_sorts ∷ [])) _
    (λ e ts rest h. (
      h.1.0 ∷ h.2.1.0,
      ap₂ (λ x xs. x ∷ xs) (lexeme-same Other (codes "*") t e)
          (h.1.1
          ∙ ap (λ xs. sort_lexeme h.1.0 ∷ xs) (h.2.1.1 ∙ ap (λ xs. more_sorts_lexemes h.2.1.0 (lexeme Mark (codes ")") ∷ xs)) h.2.2)),
    ))
    (λ e. choose (IsStepOf more_sorts t) (is_mark (codes ")") t) (taken []) (stops (plain syntax))
    (λ f ts rest h. ([], ap₂ (λ x xs. x ∷ xs) (mark-same (codes ")") t f) h)) (λ f. tt))

-- ---- declarations

word-of : (k : Kind) (bytes : List ℕ) → is_word k ≡ true → (w : Word) × (lexeme k bytes ≡ word_lexeme w)
word-of Lower bytes h = (bare bytes, refl)
word-of Quoted bytes h = (quoted bytes, refl)
word-of Variable bytes h = absurd (let f : false ≡ true = h in cc)
word-of Distinct bytes h = absurd (let f : false ≡ true = h in cc)
word-of Dollar bytes h = absurd (let f : false ≡ true = h in cc)
word-of Number bytes h = absurd (let f : false ≡ true = h in cc)
word-of Connective bytes h = absurd (let f : false ≡ true = h in cc)
word-of Mark bytes h = absurd (let f : false ≡ true = h in cc)
word-of Other bytes h = absurd (let f : false ≡ true = h in cc)

declaration-right : (s : Surroundings) (t : Lexeme) → IsStepOf (a_declaration s) t (step (a_declaration s) t)
declaration-right s t =
    choose (IsStepOf (a_declaration s) t) (is_mark (codes "(") t) (takes (a_declaration (deeper s) ∷ mark (codes ")") ∷ []) (begun s)) _
    (λ e ts rest h. (
      declaration_in_brackets h.1.0,
      ap₂ (λ x xs. x ∷ xs) (mark-same (codes "(") t e)
          (h.1.1 ∙ ap (declaration_lexemes h.1.0) (h.2.1 ∙ ap (λ xs. lexeme Mark (codes ")") ∷ xs) h.2.2)),
    ))
    (λ e. choose (IsStepOf (a_declaration s) t) (is_word t.kind) (taken (mark (codes ":") ∷ a_type s ∷ [])) (stops (plain syntax))
    (λ f ts rest h.
    let w = word-of t.kind t.bytes f in (
      declares w.0 h.2.1.0,
      ap₂ (λ x xs. x ∷ xs) w.1 (h.1 ∙ ap (λ xs. lexeme Mark (codes ":") ∷ xs) (h.2.1.1 ∙ ap (type_lexemes h.2.1.0) h.2.2)),
    ))
    (λ f. tt))

-- ---- entries

is-no-type : (role : List ℕ) → bytes_eq (codes "type") role ≡ false → not (bytes_eq (codes "type") role) ≡ true
is-no-type role e = ap not e

role-right : (limit : ℕ) (k : Kind) (bytes : List ℕ) → IsStepOf (a_typed_role limit) (lexeme k bytes) (role_step limit (lexeme k bytes))
role-right limit Lower bytes =
    choose (IsStepOf (a_typed_role limit) (lexeme Lower bytes)) (bytes_eq (codes "type") bytes)
    (taken (mark (codes ",") ∷ a_declaration (outermost limit) ∷ end_of_body limit ∷ []))
    (takes (mark (codes ",") ∷ a_unit (outermost limit) ∷ maybe_connected (outermost limit) ∷ end_of_body limit ∷ [])
    (untaken_role_cause (role_of false bytes) bytes))
    (λ e ts rest h. (
      declaration_body h.2.1.0,
      h.2.2.1.0,
      refl,
      h.2.2.1.1,
      ap₂ (λ x xs. x ∷ xs) (lexeme-same Lower (codes "type") (lexeme Lower bytes) e)
          (h.1
          ∙ ap (λ xs. lexeme Mark (codes ",") ∷ xs)
          (h.2.1.1 ∙ ap (declaration_lexemes h.2.1.0) (h.2.2.1.2 ∙ ap (λ xs. notes_lexemes h.2.2.1.0 (entry_end xs)) h.2.2.2))),
    ))
    (λ e ts rest h.
    let p = formula-of (outermost limit) (end_of_body limit ∷ []) h.0 rest h.2 in (
      formula_body bytes p.0,
      p.3.1.0,
      is-no-type bytes e,
      p.3.1.1,
      ap (λ xs. lexeme Lower bytes ∷ xs)
          (h.1
          ∙ ap (λ xs. lexeme Mark (codes ",") ∷ xs)
          (p.2 ∙ ap (phrase_lexemes p.0) (p.3.1.2 ∙ ap (λ xs. notes_lexemes p.3.1.0 (entry_end xs)) p.3.2))),
    ))
role-right limit Variable bytes = tt
role-right limit Quoted bytes = tt
role-right limit Distinct bytes = tt
role-right limit Dollar bytes = tt
role-right limit Number bytes = tt
role-right limit Connective bytes = tt
role-right limit Mark bytes = tt
role-right limit Other bytes = tt

begun-entry :
    (limit : ℕ) (t : Lexeme) → t ≡ lexeme Lower (codes "tff") → (ts rest : List Lexeme)
    → SpellAll (mark (codes "(") ∷ a_name ∷ mark (codes ",") ∷ a_typed_role limit ∷ []) ts rest → Spells (an_entry limit) (t ∷ ts) rest
begun-entry limit t e ts rest h =
    let name = h.2.1 in
    let role = h.2.2.2.1 in (
      record { name = name.0; body = role.0; notes = role.1 },
      ap₂ (λ x y. x && y) name.1 (ap₂ (λ x y. x && y) role.2 role.3),
      ap₂ (λ x xs. x ∷ xs) e
          (h.1
          ∙ ap (λ xs. lexeme Mark (codes "(") ∷ xs)
          (name.2
          ∙ ap (λ xs. name_lexeme name.0 ∷ xs)
          (h.2.2.1
          ∙ ap (λ xs. lexeme Mark (codes ",") ∷ xs)
          (role.4
          ∙ ap
          (λ xs. lexeme Lower (role_word_of role.0) ∷ lexeme Mark (codes ",") ∷ body_lexemes role.0 (notes_lexemes role.1 (entry_end xs)))
          h.2.2.2.2)))),
    )

entry-right : (limit : ℕ) (t : Lexeme) → IsStepOf (an_entry limit) t (entry_step limit t)
entry-right limit t =
    choose (IsStepOf (an_entry limit) t) (is_lexeme Lower (codes "tff") t)
    (taken (mark (codes "(") ∷ a_name ∷ mark (codes ",") ∷ a_typed_role limit ∷ [])) _
    (λ e ts rest h. begun-entry limit t (lexeme-same Lower (codes "tff") t e) ts rest h)
    (λ e. choose (IsStepOf (an_entry limit) t) (is_lexeme Lower (codes "fof") t || is_lexeme Lower (codes "cnf") t) (stops _) _ (λ f. tt)
    (λ f. choose (IsStepOf (an_entry limit) t) _ (stops (plain (left_out typed))) (stops (plain syntax)) (λ g. tt) (λ g. tt)))

pub step-right : (a : TypedSymbol) (t : Lexeme) → IsStepOf a t (step a t)
step-right (untyped_symbol a) t = untyped-right a t
step-right (an_entry limit) t = entry-right limit t
step-right (a_typed_role limit) t = role-right limit t.kind t.bytes
step-right (a_unit s) t = unit-right s t
step-right (maybe_connected s) t = connected-right s t
step-right (maybe_more_units sign s) t = units-right sign s t
step-right (variables_bracket s) t = bracket-right s t
step-right (next_variable xs s) t = variable-right xs s t.kind t.bytes
step-right maybe_sort t = sort_part-right t
step-right (more_variables xs s) t = more_variables-right xs s t
step-right a_sort_word t = sort-right t
step-right (a_declaration s) t = declaration-right s t
step-right (a_type s) t = type-right s t
step-right maybe_result t = maybe_result-right t
step-right an_arrow t = arrow-right t
step-right a_result t = result-right t
step-right more_sorts t = more_sorts-right t
