-- Sameness of symbols is an equivalence, and symbols that are the same are hashed alike.
use Rattle.std.proofs.Common.{◌≡◌, ◌==◌, true, ◌&&◌, ◌∷◌, refl, ap, ◌∙◌, eq-eqb, eqb-true, subst}
use mathlib.Core.Bool.{beq}
use Rattle.std.specs.Prelude.{IsTrue, bytes_eq}
use Rattle.std.specs.Cmp.{IsEquivalence, decided}
use Rattle.std.specs.Hash as fed
use Rattle.std.proofs.lemmas.Slice.Eq.{bytes_eq-Decides}
use Rattle.std.proofs.lemmas.Bool.{and_parts}
use Rattle.signature.specs.declared.symbol.Symbol.{Symbol}
use Rattle.signature.specs.declared.symbol.SymbolKind.{SymbolKind}
use Rattle.signature.specs.declared.symbol.SymbolKind.TheVariants.{Predicate, Function}
use Rattle.signature.specs.Symbol.{is_predicate_kind, same_symbol}

kinds : (k l : SymbolKind) → beq (is_predicate_kind k) (is_predicate_kind l) ≡ true → k ≡ l
kinds Predicate Predicate h = refl
kinds Predicate Function h = cc
kinds Function Predicate h = cc
kinds Function Function h = refl

kind-refl : (k : SymbolKind) → beq (is_predicate_kind k) (is_predicate_kind k) ≡ true
kind-refl Predicate = refl
kind-refl Function = refl

pub same_symbol-refl : (s : Symbol) → same_symbol s s ≡ true
same_symbol-refl s =
    ap (λ t. t && (bytes_eq s.name s.name && s.arity == s.arity)) (kind-refl s.kind)
    ∙ ap (λ t. t && s.arity == s.arity) ((bytes_eq-Decides s.name s.name).1 refl)
    ∙ eq-eqb s.arity s.arity refl

pub same_symbol-true : (s t : Symbol) → same_symbol s t ≡ true → s ≡ t
same_symbol-true s t h =
    let parts : (beq (is_predicate_kind s.kind) (is_predicate_kind t.kind) ≡ true) × ((bytes_eq s.name t.name && s.arity == t.arity) ≡ true) = and_parts _ _ h in
    let rest : (bytes_eq s.name t.name ≡ true) × ((s.arity == t.arity) ≡ true) = and_parts _ _ parts.1 in
    made (kinds s.kind t.kind parts.0) ((bytes_eq-Decides s.name t.name).0 rest.0) (eqb-true s.arity t.arity rest.1)
  where
    made : s.kind ≡ t.kind → s.name ≡ t.name → s.arity ≡ t.arity → s ≡ t
    made k n a = λ i. record { kind = k i; name = n i; arity = a i }

pub same_symbols : IsEquivalence same_symbol
same_symbols = decided same_symbol (λ s t. (same_symbol-true s t, λ e. subst (λ u. same_symbol s u ≡ true) e (same_symbol-refl s)))

pub same_symbols_hash_alike : (s t : Symbol) → IsTrue (same_symbol s t) → s.name ∷ fed.u32 s.arity ≡ t.name ∷ fed.u32 t.arity
same_symbols_hash_alike s t h = ap (λ (u : Symbol). u.name ∷ fed.u32 u.arity) (same_symbol-true s t h)
