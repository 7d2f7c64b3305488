-- Sorts and types that are the same, and the type of a symbol: it has as many arguments as the symbol, and is the one that is told where that
-- passes.
use Rattle.std.proofs.Common.{◌≡◌, ℕ, zero, suc, ◌==◌, Bool, true, false, not, List, [], ◌∷◌, length, if◌then◌else◌, refl, ap, ap₂, sym}
use Rattle.std.specs.Prelude.{Option, None, Some}
use Rattle.std.proofs.lemmas.Bool.{and_parts, eqb-true, true≢false}
use lib.Pointwise.{pointwise}
use Rattle.list_lemmas.proofs.Lists.{bytes-same}
use Rattle.typed_tree.specs.Sorts.{SortTree, individuals, named_sort, same_sort, same_result, same_declared, SymbolType, Declared, a_sort, a_symbol, DeclarationTree}
use Rattle.typed_problem.specs.Declarations.{declared_as, declared_type, all_individuals, has_values, only_symbol, is_function_type, is_predicate_type, undeclared_function, undeclared_predicate, function_type, predicate_type}

-- ---- sorts and types that are the same

pub sort-same : (s u : SortTree) → same_sort s u ≡ true → s ≡ u
sort-same individuals individuals h = refl
sort-same individuals (named_sort v) h = absurd (true≢false (sym h))
sort-same (named_sort w) individuals h = absurd (true≢false (sym h))
sort-same (named_sort w) (named_sort v) h = ap named_sort (bytes-same w v h)

sorts-same : (ss us : List SortTree) → pointwise same_sort ss us ≡ true → ss ≡ us
sorts-same [] [] h = refl
sorts-same [] (u ∷ us) h = absurd (true≢false (sym h))
sorts-same (s ∷ ss) [] h = absurd (true≢false (sym h))
sorts-same (s ∷ ss) (u ∷ us) h =
    let parts = and_parts (same_sort s u) (pointwise same_sort ss us) h in ap₂ ◌∷◌ (sort-same s u parts.0) (sorts-same ss us parts.1)

result-same : (s u : Option SortTree) → same_result s u ≡ true → s ≡ u
result-same None None h = refl
result-same None (Some u) h = absurd (true≢false (sym h))
result-same (Some s) None h = absurd (true≢false (sym h))
result-same (Some s) (Some u) h = ap (λ x. Some x) (sort-same s u h)

pub declared-same : (d e : Declared) → same_declared d e ≡ true → d ≡ e
declared-same a_sort a_sort h = refl
declared-same a_sort (a_symbol t) h = absurd (true≢false (sym h))
declared-same (a_symbol s) a_sort h = absurd (true≢false (sym h))
declared-same (a_symbol s) (a_symbol t) h =
    let parts = and_parts (pointwise same_sort s.arguments t.arguments) (same_result s.result t.result) h in
    ap₂ (λ (ss : List SortTree) (r : Option SortTree). a_symbol (record { arguments = ss; result = r })) (sorts-same s.arguments t.arguments parts.0)
    (result-same s.result t.result parts.1)

-- ---- numbers of arguments

individuals-long : (n : ℕ) → length (all_individuals n) ≡ n
individuals-long zero = refl
individuals-long (suc n) = ap (λ k. suc k) (individuals-long n)

type-passes :
    (test : SymbolType → Bool) (P : SymbolType → Type 0) (found : Option Declared) (otherwise : SymbolType)
    → ((type : SymbolType) → test type ≡ true → P type) → P otherwise → P (declared_type test found otherwise)
type-passes test P None otherwise h k = k
type-passes test P (Some a_sort) otherwise h k = k
type-passes test P (Some (a_symbol type)) otherwise h k = by (test type) refl
  where
    by : (b : Bool) → test type ≡ b → P (if b then type else otherwise)
    by true e = h type e
    by false e = k

pub function-long : (ds : List DeclarationTree) (name : List ℕ) (arity : ℕ) → length (function_type ds name arity).arguments ≡ arity
function-long ds name arity =
    type-passes (is_function_type arity) (λ (type : SymbolType). length type.arguments ≡ arity) (declared_as ds name) (undeclared_function arity)
    (λ type e. eqb-true (length type.arguments) arity (and_parts (has_values type.result) (length type.arguments == arity) e).1)
    (individuals-long arity)

pub predicate-long : (ds : List DeclarationTree) (name : List ℕ) (arity : ℕ) → length (predicate_type ds name arity).arguments ≡ arity
predicate-long ds name arity =
    type-passes (is_predicate_type arity) (λ (type : SymbolType). length type.arguments ≡ arity) (declared_as ds name) (undeclared_predicate arity)
    (λ type e. eqb-true (length type.arguments) arity (and_parts (not (has_values type.result)) (length type.arguments == arity) e).1)
    (individuals-long arity)

-- ---- types by what is told of a symbol

-- the type that is told, where it passes
abbrev pub type_if : (SymbolType → Bool) → SymbolType → Option SymbolType → SymbolType
type_if test otherwise None = otherwise
type_if test otherwise (Some t) = if test t then t else otherwise

pub type-by :
    (test : SymbolType → Bool) (found : Option Declared) (otherwise : SymbolType) (told : Option SymbolType) → told ≡ only_symbol found
    → declared_type test found otherwise ≡ type_if test otherwise told
type-by test None otherwise told e = sym (ap (type_if test otherwise) e)
type-by test (Some a_sort) otherwise told e = sym (ap (type_if test otherwise) e)
type-by test (Some (a_symbol t)) otherwise told e = sym (ap (type_if test otherwise) e)
