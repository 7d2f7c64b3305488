-- What is shown of a table gives the problem's symbols what the whole table gives them.
use Rattle.std.proofs.Common.{◌≡◌, cond, ℕ, ◌<◌, ◌==◌, nat_lt, Bool, true, false, ◌&&◌, List, [], ◌∷◌, length, map, if◌then◌else◌, refl, ap, sym, ◌∙◌, subst}
use lib.Pointwise.{pointwise}
use Rattle.std.specs.Prelude.{filter}
use Rattle.std.specs.List.{list_all}
use Rattle.std.proofs.lemmas.Bool.{and_parts, and_from, lt-ltb, ltb-true, true≢false, cond-false}
use Rattle.list_lemmas.proofs.Numbers.{not-same}
use Rattle.fol_base.specs.Interpretation.{row_in_range, is_row_of, table_value}
use Rattle.signature.specs.declared.symbol.Symbol.{Symbol}
use Rattle.finite_models.specs.Found.{row_of}
use Rattle.finite_models.specs.declared.answer.Cell.{Cell}
use Rattle.model_writer.specs.TableText.{shown_cells}

module _ (symbols : List Symbol) where
  abbrev is_shown : Cell → Bool
  is_shown c = nat_lt c.symbol (length symbols)

  -- a cell that is left out is none of a symbol that the list has
  pub values-kept :
      (f : ℕ) (vs : List ℕ) → f < length symbols → (cells : List Cell)
      → table_value (map row_of cells) f vs ≡ table_value (map row_of (shown_cells symbols cells)) f vs
  values-kept f vs low [] = refl
  values-kept f vs low (c ∷ cells) = by (is_shown c) refl (values-kept f vs low cells)
    where
      rest : List Cell
      rest = shown_cells symbols cells

      other : is_shown c ≡ false → is_row_of f vs (row_of c) ≡ false
      other e =
          ap (λ (b : Bool). b && pointwise ◌==◌ c.arguments vs)
          (not-same c.symbol f
          (λ same. true≢false (sym (lt-ltb c.symbol (length symbols) (subst (λ (k : ℕ). k < length symbols) (sym same) low)) ∙ e)))

      by :
          (b : Bool) → is_shown c ≡ b → table_value (map row_of cells) f vs ≡ table_value (map row_of rest) f vs
          → (if is_row_of f vs (row_of c) then c.value else table_value (map row_of cells) f vs)
          ≡ table_value (map row_of (cond b (c ∷ rest) rest)) f vs
      by true e h = ap (λ (v : ℕ). if is_row_of f vs (row_of c) then c.value else v) h
      by false e h = cond-false (is_row_of f vs (row_of c)) c.value (table_value (map row_of cells) f vs) (other e) ∙ h

  -- values in range stay so where the symbols of the list have their kinds
  pub shown-in-range :
      (is_predicate kinds : ℕ → Bool) (size : ℕ) → ((f : ℕ) → f < length symbols → is_predicate f ≡ kinds f) → (cells : List Cell)
      → list_all (row_in_range is_predicate size) (map row_of cells) ≡ true
      → list_all (row_in_range kinds size) (map row_of (shown_cells symbols cells)) ≡ true
  shown-in-range is_predicate kinds size same [] h = refl
  shown-in-range is_predicate kinds size same (c ∷ cells) h =
      let parts = and_parts (row_in_range is_predicate size (row_of c)) (list_all (row_in_range is_predicate size) (map row_of cells)) h in
      by (is_shown c) refl parts.0 (shown-in-range is_predicate kinds size same cells parts.1)
    where
      rest : List Cell
      rest = shown_cells symbols cells

      by :
          (b : Bool) → is_shown c ≡ b → row_in_range is_predicate size (row_of c) ≡ true
          → list_all (row_in_range kinds size) (map row_of rest) ≡ true
          → list_all (row_in_range kinds size) (map row_of (cond b (c ∷ rest) rest)) ≡ true
      by true e r k =
          and_from (row_in_range kinds size (row_of c)) (list_all (row_in_range kinds size) (map row_of rest))
          (subst (λ (b : Bool). nat_lt c.value (if b then 2 else size) ≡ true) (same c.symbol (ltb-true c.symbol (length symbols) e)) r) k
      by false e r k = k
