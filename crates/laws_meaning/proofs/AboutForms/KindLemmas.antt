-- The kinds of the symbols of a form: the problem's as they are, then Skolem symbols, which are functions, and names, which are
-- predicates.
use Rattle.std.proofs.Common.{◌≡◌, ℕ, zero, suc, ◌+◌, ◌-◌, ◌<◌, ◌≤◌, true, false, List, [], ◌∷◌, ◌++◌, length, length-append, refl, ap, ◌∙◌, arith}
use Rattle.std.specs.Prelude.{codes}
use Rattle.signature.specs.declared.symbol.Symbol.{Symbol}
use Rattle.signature.specs.Symbol.{predicate_symbol, function_symbol}
use Rattle.signature.specs.Prefix.{fresh_prefix_of}
use Rattle.signature.specs.Clausal.{Made}
use Rattle.signature.specs.Form.{numbered_symbols, spare_constant, with_skolem, with_naming, form_symbols}
use Rattle.clausal_form.specs.FormFunctions.{is_predicate_in}

kind-front : (xs ys : List Symbol) (g : ℕ) → g < length xs → is_predicate_in (xs ++ ys) g ≡ is_predicate_in xs g
kind-front [] ys g h = absurd (omega (arith, h))
kind-front (x ∷ xs) ys zero h = refl
kind-front (x ∷ xs) ys (suc g) h = kind-front xs ys g (omega (arith, h))

kind-behind : (xs ys : List Symbol) (g : ℕ) → is_predicate_in (xs ++ ys) (length xs + g) ≡ is_predicate_in ys g
kind-behind [] ys g = ap (is_predicate_in ys) (let e : 0 + g ≡ g = omega arith in e)
kind-behind (x ∷ xs) ys g =
    ap (is_predicate_in (x ∷ xs ++ ys)) (let e : suc (length xs) + g ≡ suc (length xs + g) = omega arith in e) ∙ kind-behind xs ys g

functions-kind : (prefix : List ℕ) (number : ℕ) (arities : List ℕ) (g : ℕ) → is_predicate_in (numbered_symbols function_symbol prefix number arities) g ≡ false
functions-kind prefix number [] zero = refl
functions-kind prefix number [] (suc g) = refl
functions-kind prefix number (a ∷ arities) zero = refl
functions-kind prefix number (a ∷ arities) (suc g) = functions-kind prefix (number + 1) arities g

predicates-kind :
    (prefix : List ℕ) (number : ℕ) (arities : List ℕ) (g : ℕ) → g < length arities
    → is_predicate_in (numbered_symbols predicate_symbol prefix number arities) g ≡ true
predicates-kind prefix number [] g h = absurd (omega (arith, h))
predicates-kind prefix number (a ∷ arities) zero h = refl
predicates-kind prefix number (a ∷ arities) (suc g) h = predicates-kind prefix (number + 1) arities g (omega (arith, h))

numbered-long :
    (make : List ℕ → ℕ → Symbol) (prefix : List ℕ) (number : ℕ) (arities : List ℕ)
    → length (numbered_symbols make prefix number arities) ≡ length arities
numbered-long make prefix number [] = refl
numbered-long make prefix number (a ∷ arities) = ap (λ n. suc n) (numbered-long make prefix (number + 1) arities)

module _ (known : List Symbol) (m : Made) where
  abbrev skolem_symbols : List Symbol
  skolem_symbols = numbered_symbols function_symbol (fresh_prefix_of known (codes "sk")) 0 m.skolem_arities

  abbrev naming_symbols : List Symbol
  naming_symbols = numbered_symbols predicate_symbol (fresh_prefix_of known (codes "nm")) 0 m.naming_arities

  abbrev spare_symbols : List Symbol
  spare_symbols = spare_constant (fresh_prefix_of known (codes "hc")) (with_naming known m)

  skolem-long : length (with_skolem known m) ≡ length known + length m.skolem_arities
  skolem-long = omega (arith, length-append known skolem_symbols, numbered-long function_symbol (fresh_prefix_of known (codes "sk")) 0 m.skolem_arities)

  naming-long : length (with_naming known m) ≡ length known + length m.skolem_arities + length m.naming_arities
  naming-long =
      omega (
        arith,
        length-append (with_skolem known m) naming_symbols,
        skolem-long,
        numbered-long predicate_symbol (fresh_prefix_of known (codes "nm")) 0 m.naming_arities,
      )

  pub known-kind : (g : ℕ) → g < length known → is_predicate_in (form_symbols known m) g ≡ is_predicate_in known g
  known-kind g h =
      kind-front (with_naming known m) spare_symbols g (omega (arith, h, naming-long))
      ∙ kind-front (with_skolem known m) naming_symbols g (omega (arith, h, skolem-long))
      ∙ kind-front known skolem_symbols g h

  pub skolem-kind :
      (g : ℕ) → length known ≤ g → g < length known + length m.skolem_arities → is_predicate_in (form_symbols known m) g ≡ false
  skolem-kind g l h =
      let k : ℕ = g - length known in
      let e : g ≡ length known + k = omega (arith, l) in
      kind-front (with_naming known m) spare_symbols g (omega (arith, h, naming-long))
      ∙ kind-front (with_skolem known m) naming_symbols g (omega (arith, h, skolem-long))
      ∙ ap (is_predicate_in (known ++ skolem_symbols)) e ∙ kind-behind known skolem_symbols k
      ∙ functions-kind (fresh_prefix_of known (codes "sk")) 0 m.skolem_arities k

  pub naming-kind :
      (g : ℕ) → length known + length m.skolem_arities ≤ g → g < length known + length m.skolem_arities + length m.naming_arities
      → is_predicate_in (form_symbols known m) g ≡ true
  naming-kind g l h =
      let k : ℕ = g - (length known + length m.skolem_arities) in
      let e : g ≡ length (with_skolem known m) + k = omega (arith, l, skolem-long) in
      kind-front (with_naming known m) spare_symbols g (omega (arith, h, naming-long))
      ∙ ap (is_predicate_in (with_skolem known m ++ naming_symbols)) e ∙ kind-behind (with_skolem known m) naming_symbols k
      ∙ predicates-kind (fresh_prefix_of known (codes "nm")) 0 m.naming_arities k (omega (arith, l, h))
