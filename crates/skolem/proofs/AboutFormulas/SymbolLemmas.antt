-- Skolem symbols are new.
use Rattle.std.proofs.Common.{◌≡◌, ℕ, zero, suc, ◌+◌, ◌<◌, ◌≤◌, ◌^◌, Bool, true, false, List, [], ◌∷◌, ◌++◌, length, take, drop, get_or, subst, refl, ap, sym, ◌∙◌, arith, append-nil}
use Rattle.std.specs.Prelude.{bytes_eq, slice_get, Some}
use Rattle.std.specs.List.{list_any}
use Rattle.std.specs.Fmt.{decimal}
use Rattle.std.proofs.lemmas.Fmt.{decimal_injective}
use Rattle.std.proofs.lemmas.Slice.Eq.{bytes_eq-Decides}
use Rattle.signature.specs.declared.symbol.Symbol.{Symbol}
use Rattle.signature.specs.Symbol.{is_named, function_symbol, true_symbol, IsSignature}
use Rattle.signature.specs.Form.{AreUnused, numbered_symbols}
use Rattle.skolem.proofs.AboutBindings.ListLemmas.{added, any-last, take-kept}
use Rattle.list_lemmas.proofs.Lists.{length-pushed, same-rest}
use Rattle.list_lemmas.proofs.Places.{drop-item, drop-all}

other-number : (prefix : List ℕ) (k n : ℕ) → k < 2 ^ 32 → n < k → bytes_eq (prefix ++ decimal k) (prefix ++ decimal n) ≡ false
other-number prefix k n h l = by (bytes_eq (prefix ++ decimal k) (prefix ++ decimal n)) refl
  where
    by : (t : Bool) → bytes_eq (prefix ++ decimal k) (prefix ++ decimal n) ≡ t → t ≡ false
    by false e = refl
    by true e =
        absurd (omega (
          arith,
          l,
          decimal_injective k n (omega (arith, h)) (omega (arith, h, l))
              (same-rest prefix (decimal k) (decimal n) ((bytes_eq-Decides (prefix ++ decimal k) (prefix ++ decimal n)).0 e)),
        ))

-- the later numbers are unused after a symbol is added
pub unused-then :
    (known new : List Symbol) (prefix : List ℕ) (n arity : ℕ)
    → new ≡ known ++ function_symbol (prefix ++ decimal n) arity ∷ [] → AreUnused known prefix n → AreUnused new prefix (n + 1)
unused-then known new prefix n arity e u k l h =
    ap (list_any (is_named (prefix ++ decimal k))) e
    ∙ any-last (is_named (prefix ++ decimal k)) known (function_symbol (prefix ++ decimal n) arity)
    (u k (omega (arith, l)) h) (other-number prefix k n h (omega (arith, l)))

pub numbered-then :
    (known new all : List Symbol) (prefix : List ℕ) (n : ℕ) (arities : List ℕ) (i arity : ℕ)
    → i < length arities → arity ≡ get_or arities i arity
    → new ≡ known ++ function_symbol (prefix ++ decimal n) arity ∷ []
    → known ++ numbered_symbols function_symbol prefix n (drop i arities) ≡ all
    → new ++ numbered_symbols function_symbol prefix (n + 1) (drop (i + 1) arities) ≡ all
numbered-then known new all prefix n arities i arity h g e m =
    added known new (function_symbol (prefix ++ decimal n) arity ∷ []) _ all e
    (ap (λ left. known ++ numbered_symbols function_symbol prefix n left) (sym (drop-item arities i arity h g)) ∙ m)

pub numbered-done :
    (known all : List Symbol) (prefix : List ℕ) (n : ℕ) (arities : List ℕ) (i : ℕ)
    → length arities ≤ i → known ++ numbered_symbols function_symbol prefix n (drop i arities) ≡ all → known ≡ all
numbered-done known all prefix n arities i h m =
    sym (append-nil known) ∙ ap (λ left. known ++ numbered_symbols function_symbol prefix n left) (sym (drop-all arities i h)) ∙ m

some-item : {X : Type 0} (xs : List X) (x : X) → slice_get xs 0 ≡ Some x → 1 ≤ length xs
some-item [] x h = cc
some-item (y ∷ ys) x h = omega arith

pub signature-some : (known : List Symbol) → IsSignature known → 1 ≤ length known
signature-some known h = some-item known true_symbol h.truth

-- one more symbol is added
pub symbols-then :
    (old known new all : List Symbol) (prefix : List ℕ) (next n m : ℕ) (arities : List ℕ) (i arity : ℕ)
    → i < length arities → arity ≡ get_or arities i arity
    → new ≡ known ++ function_symbol (prefix ++ decimal n) arity ∷ [] → m ≡ n + 1
    → (known ++ numbered_symbols function_symbol prefix n (drop i arities) ≡ all)
    × ((n ≡ next + i) × (AreUnused known prefix n × ((take (length old) known ≡ old) × (length old ≤ length known))))
    → (new ++ numbered_symbols function_symbol prefix m (drop (i + 1) arities) ≡ all)
    × ((m ≡ next + (i + 1)) × (AreUnused new prefix m × ((take (length old) new ≡ old) × (length old ≤ length new))))
symbols-then old known new all prefix next n m arities i arity h g e k inv = (
  ap (λ j. new ++ numbered_symbols function_symbol prefix j (drop (i + 1) arities)) k
      ∙ numbered-then known new all prefix n arities i arity h g e inv.0,
  (
    omega (arith, k, inv.1.0),
    (
      subst (AreUnused new prefix) (sym k) (unused-then known new prefix n arity e inv.1.1.0),
      (
        take-kept old known (function_symbol (prefix ++ decimal n) arity) new inv.1.1.1.0 e inv.1.1.1.1,
        omega (arith, ap length e, length-pushed known (function_symbol (prefix ++ decimal n) arity), inv.1.1.1.1),
      ),
    ),
  ),
)

pub same-item : {X : Type 0} (xs : List X) (i : ℕ) (d e : X) → i < length xs → get_or xs i d ≡ get_or xs i e
same-item [] i d e h = absurd (omega (arith, h))
same-item (x ∷ xs) zero d e h = refl
same-item (x ∷ xs) (suc i) d e h = same-item xs i d e (omega (arith, h))
