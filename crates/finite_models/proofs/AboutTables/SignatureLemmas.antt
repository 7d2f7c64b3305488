-- The symbols of a signature by their numbers.
use Rattle.std.proofs.Common.{◌≡◌, ℕ, zero, suc, ◌<◌, ◌==◌, nat_lt, true, false, List, [], ◌∷◌, length, refl, ap, sym, ◌∙◌, arith}
use Rattle.std.specs.Prelude.{option_map, unwrap_or}
use Rattle.std.proofs.lemmas.Bool.{lt-ltb, ltb-true, true≢false}
use Rattle.list_lemmas.proofs.Numbers.{not-same}
use Rattle.signature.specs.declared.symbol.Symbol.{Symbol}
use Rattle.signature.specs.Symbol.{is_predicate_kind, IsSignature}
use Rattle.clausal_form.specs.FormFunctions.{is_predicate_in}
use Rattle.finite_models.specs.Model.{has_arity_in}

-- a symbol that the signature has, has a number below its length
pub number-within : (symbols : List Symbol) (f k : ℕ) → has_arity_in symbols f k ≡ true → nat_lt f (length symbols) ≡ true
number-within [] f k h = absurd (true≢false (sym h ∙ past f))
  where
    past : (g : ℕ) → has_arity_in [] g k ≡ false
    past zero = refl
    past (suc g) = refl
number-within (s ∷ symbols) zero k h = lt-ltb 0 (suc (length symbols)) (omega arith)
number-within (s ∷ symbols) (suc f) k h =
    let low : f < length symbols = ltb-true f (length symbols) (number-within symbols f k h) in
    lt-ltb (suc f) (suc (length symbols)) (omega (arith, low))

-- the symbol `$true` is a predicate
pub truth-predicate : (symbols : List Symbol) → IsSignature symbols → is_predicate_in symbols 0 ≡ true
truth-predicate symbols signed = ap (λ o. unwrap_or (option_map (λ (s : Symbol). is_predicate_kind s.kind) o) false) signed.truth

-- a function isn't `$true`
pub function-proper :
    (symbols : List Symbol) → is_predicate_in symbols 0 ≡ true
    → (f : ℕ) → is_predicate_in symbols f ≡ false → (f == 0) ≡ false
function-proper symbols truth f e = not-same f 0 (λ z. true≢false (sym (ap (is_predicate_in symbols) z ∙ truth) ∙ e))
