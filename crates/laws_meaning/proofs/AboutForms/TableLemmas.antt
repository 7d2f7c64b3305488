-- A structure's values at some symbols as a table, over the values below a size.
use Rattle.std.proofs.Common.{◌≡◌, ℕ, zero, suc, ◌+◌, ◌<◌, ◌≤◌, ◌==◌, nat_lt, Bool, true, false, ◌&&◌, ◌||◌, List, [], ◌∷◌, ◌++◌, length, map, flat_map, filter, if◌then◌else◌, ◌⊎◌, inl, inr, ⊎_elim, append_assoc, refl, ap, ap₂, sym, ◌∙◌, arith}
use lib.Pointwise.{pointwise}
use Rattle.std.specs.List.{AllByRecursion, list_any, list_all}
use Rattle.std.proofs.lemmas.Bool.{and_parts, and_from, and_left, or_left, or_right, or_cases, eqb-true, eq-eqb, ne_eqb, lt-ltb, ltb-true, cases_lt, cases_eq, cond-false, true≢false}
use Rattle.std.proofs.lemmas.List.Folds.{list_all-append, list_any-append}
use Rattle.fol_base.specs.Canonical.{numbers_from}
use Rattle.fol_base.specs.Interpretation.{Row, Interpretation, IsInterpretation, row_in_range, is_row_of, table_value, symbol_value}
use Rattle.laws_meaning.proofs.AboutStructures.ListLemmas.{each-joined, each-weaker, each-all, numbers-between, is_listed, numbers-listed}
use Rattle.laws_meaning.proofs.AboutStructures.Structures.{Structure}

-- ---- all lists of values

-- the lists of that many values below the size
abbrev pub value_lists : ℕ → ℕ → List (List ℕ)
value_lists size zero = [] ∷ []
value_lists size (suc k) = flat_map (λ a. map (λ vs. a ∷ vs) (value_lists size k)) (numbers_from 0 size)

abbrev same_values : List ℕ → List ℕ → Bool
same_values us vs = pointwise ◌==◌ us vs

abbrev is_there : List (List ℕ) → List ℕ → Bool
is_there uss vs = list_any (λ us. same_values us vs) uss

same-values : (us vs : List ℕ) → same_values us vs ≡ true → us ≡ vs
same-values [] [] h = refl
same-values [] (v ∷ vs) h = absurd (true≢false (sym h))
same-values (u ∷ us) [] h = absurd (true≢false (sym h))
same-values (u ∷ us) (v ∷ vs) h =
    let parts = and_parts (u == v) (same_values us vs) h in ap₂ ◌∷◌ (eqb-true u v parts.0) (same-values us vs parts.1)

same-there : (vs : List ℕ) → same_values vs vs ≡ true
same-there [] = refl
same-there (v ∷ vs) = and_from (v == v) (same_values vs vs) (eq-eqb v v refl) (same-there vs)

headed-there : (v : ℕ) (vs : List ℕ) (uss : List (List ℕ)) → is_there uss vs ≡ true → is_there (map (λ us. v ∷ us) uss) (v ∷ vs) ≡ true
headed-there v vs [] h = h
headed-there v vs (us ∷ uss) h =
    ⊎_elim
    (λ here. or_left (same_values (v ∷ us) (v ∷ vs)) (is_there (map (λ ws. v ∷ ws) uss) (v ∷ vs)) (and_from (v == v) (same_values us vs) (eq-eqb v v refl) here))
    (λ later. or_right (same_values (v ∷ us) (v ∷ vs)) (is_there (map (λ ws. v ∷ ws) uss) (v ∷ vs)) (headed-there v vs uss later))
    (or_cases (same_values us vs) (is_there uss vs) h)

any-mapped :
    (test : List ℕ → Bool) (f : ℕ → List (List ℕ)) (ns : List ℕ) (v : ℕ)
    → is_listed ns v ≡ true → list_any test (f v) ≡ true → list_any test (flat_map f ns) ≡ true
any-mapped test f [] v l h = absurd (true≢false (sym l))
any-mapped test f (n ∷ ns) v l h =
    list_any-append test (f n) (flat_map f ns)
    ∙ ⊎_elim
    (λ here. or_left (list_any test (f n)) (list_any test (flat_map f ns)) (ap (λ w. list_any test (f w)) (sym (eqb-true v n here)) ∙ h))
    (λ later. or_right (list_any test (f n)) (list_any test (flat_map f ns)) (any-mapped test f ns v later h))
    (or_cases (v == n) (is_listed ns v) l)

value_lists-there :
    (size k : ℕ) (vs : List ℕ) → length vs ≡ k → AllByRecursion (λ v. v < size) vs → is_there (value_lists size k) vs ≡ true
value_lists-there size zero [] e h = refl
value_lists-there size zero (v ∷ vs) e h = absurd (omega (arith, e))
value_lists-there size (suc k) [] e h = absurd (omega (arith, e))
value_lists-there size (suc k) (v ∷ vs) e h =
    any-mapped (λ us. same_values us (v ∷ vs)) (λ a. map (λ us. a ∷ us) (value_lists size k)) (numbers_from 0 size) v (numbers-listed size v h.0)
    (headed-there v vs (value_lists size k) (value_lists-there size k vs (omega (arith, e)) h.1))

-- ---- rows

abbrev row_of : Structure → ℕ → List ℕ → Row
row_of s g vs = record { symbol = g; arguments = vs; value = s g vs }

abbrev rows_of : ℕ → Structure → (ℕ → ℕ) → ℕ → List Row
rows_of size s arity g = map (row_of s g) (value_lists size (arity g))

-- the rows of the symbols from the first on, that many
abbrev all_rows : ℕ → Structure → (ℕ → ℕ) → ℕ → ℕ → List Row
all_rows size s arity first count = flat_map (rows_of size s arity) (numbers_from first count)

-- the interpretation with these rows, and its own ones for the symbols before them
abbrev pub tabulated : Interpretation → Structure → (ℕ → ℕ) → ℕ → ℕ → Interpretation
tabulated i s arity first count =
    record { size = i.size; rows = all_rows i.size s arity first count ++ filter (λ (r : Row). nat_lt r.symbol first) i.rows }

abbrev Apart : ℕ → List Row → Type 0
Apart g rows = AllByRecursion (λ (r : Row). (r.symbol == g) ≡ false) rows

skipped : (rows more : List Row) (g : ℕ) (vs : List ℕ) → Apart g rows → table_value (rows ++ more) g vs ≡ table_value more g vs
skipped [] more g vs h = refl
skipped (r ∷ rows) more g vs h =
    cond-false (is_row_of g vs r) r.value (table_value (rows ++ more) g vs) (and_left (r.symbol == g) (pointwise ◌==◌ r.arguments vs) h.0)
    ∙ skipped rows more g vs h.1

none : (rows : List Row) (g : ℕ) (vs : List ℕ) → Apart g rows → table_value rows g vs ≡ 0
none [] g vs h = refl
none (r ∷ rows) g vs h =
    cond-false (is_row_of g vs r) r.value (table_value rows g vs) (and_left (r.symbol == g) (pointwise ◌==◌ r.arguments vs) h.0) ∙ none rows g vs h.1

each-mapped : (s : Structure) (g : ℕ) (P : Row → Type 0) → ((vs : List ℕ) → P (row_of s g vs)) → (uss : List (List ℕ)) → AllByRecursion P (map (row_of s g) uss)
each-mapped s g P h [] = tt
each-mapped s g P h (us ∷ uss) = (h us, each-mapped s g P h uss)

-- what holds of the rows of each symbol
each-row :
    (size : ℕ) (s : Structure) (arity : ℕ → ℕ) (P : Row → Type 0) (ns : List ℕ)
    → AllByRecursion (λ g. (vs : List ℕ) → P (row_of s g vs)) ns → AllByRecursion P (flat_map (rows_of size s arity) ns)
each-row size s arity P [] h = tt
each-row size s arity P (g ∷ ns) h =
    each-joined P (rows_of size s arity g) (flat_map (rows_of size s arity) ns) (each-mapped s g P h.0 (value_lists size (arity g)))
    (each-row size s arity P ns h.1)

rows-apart :
    (size : ℕ) (s : Structure) (arity : ℕ → ℕ) (first count g : ℕ)
    → ((h : ℕ) → first ≤ h → h < first + count → h ≡ g → ⊥) → Apart g (all_rows size s arity first count)
rows-apart size s arity first count g other =
    each-row size s arity (λ (r : Row). (r.symbol == g) ≡ false) (numbers_from first count)
    (each-weaker (λ h. (first ≤ h) × (h < first + count)) (λ h. (vs : List ℕ) → (h == g) ≡ false) (λ h b vs. ne_eqb h g (other h b.0 b.1))
    (numbers_from first count) (numbers-between first count))

filtered-apart : (first g : ℕ) (rows : List Row) → first ≤ g → Apart g (filter (λ (r : Row). nat_lt r.symbol first) rows)
filtered-apart first g [] h = tt
filtered-apart first g (r ∷ rows) h = by (nat_lt r.symbol first) refl (filtered-apart first g rows h)
  where
    far : r.symbol < first → r.symbol ≡ g → ⊥
    far l e = omega (arith, l, e, h)

    by :
        (b : Bool) → nat_lt r.symbol first ≡ b → Apart g (filter (λ (q : Row). nat_lt q.symbol first) rows)
        → Apart g (if b then r ∷ filter (λ (q : Row). nat_lt q.symbol first) rows else filter (λ (q : Row). nat_lt q.symbol first) rows)
    by true e rest = (ne_eqb r.symbol g (far (ltb-true r.symbol first e)), rest)
    by false e rest = rest

filtered-value :
    (first g : ℕ) (vs : List ℕ) (rows : List Row) → g < first
    → table_value (filter (λ (r : Row). nat_lt r.symbol first) rows) g vs ≡ table_value rows g vs
filtered-value first g vs [] h = refl
filtered-value first g vs (r ∷ rows) h = by (nat_lt r.symbol first) refl (filtered-value first g vs rows h)
  where
    far : (nat_lt r.symbol first ≡ true → ⊥) → r.symbol ≡ g → ⊥
    far d e = d (lt-ltb r.symbol first (omega (arith, e, h)))

    by :
        (b : Bool) → nat_lt r.symbol first ≡ b
        → table_value (filter (λ (q : Row). nat_lt q.symbol first) rows) g vs ≡ table_value rows g vs
        → table_value (if b then r ∷ filter (λ (q : Row). nat_lt q.symbol first) rows else filter (λ (q : Row). nat_lt q.symbol first) rows) g vs
        ≡ (if is_row_of g vs r then r.value else table_value rows g vs)
    by true e rest = ap (λ v. if is_row_of g vs r then r.value else v) rest
    by false e rest =
        rest
        ∙ sym (cond-false (is_row_of g vs r) r.value (table_value rows g vs)
        (and_left (r.symbol == g) (pointwise ◌==◌ r.arguments vs) (ne_eqb r.symbol g (far (λ k. true≢false (sym k ∙ e))))))

found :
    (s : Structure) (g : ℕ) (vs : List ℕ) (uss : List (List ℕ)) (more : List Row)
    → is_there uss vs ≡ true → table_value (map (row_of s g) uss ++ more) g vs ≡ s g vs
found s g vs [] more h = absurd (true≢false (sym h))
found s g vs (us ∷ uss) more h = by (g == g) (same_values us vs) (eq-eqb g g refl) refl h (found s g vs uss more)
  where
    by :
        (b c : Bool) → b ≡ true → same_values us vs ≡ c → (c || is_there uss vs) ≡ true
        → (is_there uss vs ≡ true → table_value (map (row_of s g) uss ++ more) g vs ≡ s g vs)
        → (if b && c then s g us else table_value (map (row_of s g) uss ++ more) g vs) ≡ s g vs
    by false c e k l rest = absurd (true≢false (sym e))
    by true true e k l rest = ap (s g) (same-values us vs k)
    by true false e k l rest = rest l

all-found :
    (size : ℕ) (s : Structure) (arity : ℕ → ℕ) (first count g : ℕ) (vs : List ℕ) (more : List Row)
    → first ≤ g → g < first + count → is_there (value_lists size (arity g)) vs ≡ true
    → table_value (all_rows size s arity first count ++ more) g vs ≡ s g vs
all-found size s arity first zero g vs more l h t = absurd (omega (arith, l, h))
all-found size s arity first (suc count) g vs more l h t =
    ap (λ rows. table_value rows g vs) (append_assoc (rows_of size s arity first) (all_rows size s arity (suc first) count) more)
    ∙ by (cases_eq first g) (λ far. all-found size s arity (suc first) count g vs more (beyond far) (omega (arith, h)) t)
  where
    beyond : (first ≡ g → ⊥) → suc first ≤ g
    beyond far = omega (arith, l, far)

    by :
        (first ≡ g) ⊎ (first ≡ g → ⊥)
        → ((first ≡ g → ⊥) → table_value (all_rows size s arity (suc first) count ++ more) g vs ≡ s g vs)
        → table_value (rows_of size s arity first ++ (all_rows size s arity (suc first) count ++ more)) g vs ≡ s g vs
    by (inl e) rest =
        ap (λ k. table_value (rows_of size s arity k ++ (all_rows size s arity (suc first) count ++ more)) g vs) e
        ∙ found s g vs (value_lists size (arity g)) (all_rows size s arity (suc first) count ++ more) t
    by (inr far) rest =
        skipped (rows_of size s arity first) (all_rows size s arity (suc first) count ++ more) g vs
        (each-mapped s first (λ (r : Row). (r.symbol == g) ≡ false) (λ us. ne_eqb first g far) (value_lists size (arity first)))
        ∙ rest far

-- ---- the table has the structure's values

-- p tells the predicates among all symbols, q among the first ones
pub record Tabulates (p q : ℕ → Bool) (i : Interpretation) (s : Structure) (first count : ℕ) : Type 0 where
  pub proper : IsInterpretation q i
  pub positive : 1 ≤ first
  pub kinds : (g : ℕ) → g < first → p g ≡ q g
  pub base : (g : ℕ) → g < first → s g ≡ symbol_value i g
  pub range : (g : ℕ) → first ≤ g → g < first + count → (vs : List ℕ) → s g vs < (if p g then 2 else i.size)
  pub past : (g : ℕ) → first + count ≤ g → (vs : List ℕ) → s g vs ≡ 0

module _ (p q : ℕ → Bool) (i : Interpretation) (s : Structure) (arity : ℕ → ℕ) (first count : ℕ) (t : Tabulates p q i s first count) where
  abbrev table : Interpretation
  table = tabulated i s arity first count

  pub first-kept : (g : ℕ) → g < first → (vs : List ℕ) → symbol_value table g vs ≡ symbol_value i g vs
  first-kept g l vs =
      ap (λ v. if g == 0 then 1 else v)
      (skipped (all_rows i.size s arity first count) (filter (λ (r : Row). nat_lt r.symbol first) i.rows) g vs
      (rows-apart i.size s arity first count g (λ h a b e. other h a e))
      ∙ filtered-value first g vs i.rows l)
    where
      other : (h : ℕ) → first ≤ h → h ≡ g → ⊥
      other h a e = omega (arith, a, e, l)

  pub symbol-same :
      (g : ℕ) (vs : List ℕ) → length vs ≡ arity g → AllByRecursion (λ v. v < i.size) vs → symbol_value table g vs ≡ s g vs
  symbol-same g vs e h = ⊎_elim low high (cases_lt g first)
    where
      later : first ≤ g → g ≡ 0 → ⊥
      later l z = omega (arith, l, z, t.positive)

      none-of : first + count ≤ g → (h : ℕ) → h < first + count → h ≡ g → ⊥
      none-of m h b c = omega (arith, m, b, c)

      low : g < first → symbol_value table g vs ≡ s g vs
      low l = first-kept g l vs ∙ sym (ap (λ (f : List ℕ → ℕ). f vs) (t.base g l))

      high : first ≤ g → symbol_value table g vs ≡ s g vs
      high l =
          cond-false (g == 0) 1 (table_value (table).rows g vs) (ne_eqb g 0 (later l))
          ∙ ⊎_elim
          (λ k. all-found i.size s arity first count g vs (filter (λ (r : Row). nat_lt r.symbol first) i.rows) l k (value_lists-there i.size (arity g) vs e h))
          (λ m.
          none (table).rows g vs
          (each-joined (λ (r : Row). (r.symbol == g) ≡ false) (all_rows i.size s arity first count) (filter (λ (r : Row). nat_lt r.symbol first) i.rows)
          (rows-apart i.size s arity first count g (λ h a b c. none-of m h b c)) (filtered-apart first g i.rows l))
          ∙ sym (t.past g m vs))
          (cases_lt g (first + count))

  pub table-proper : IsInterpretation p table
  table-proper =
      record {
        has_value = t.proper.has_value;
        rows_in_range =
            list_all-append (row_in_range p i.size) (all_rows i.size s arity first count) (filter (λ (r : Row). nat_lt r.symbol first) i.rows)
            ∙ and_from (list_all (row_in_range p i.size) (all_rows i.size s arity first count))
            (list_all (row_in_range p i.size) (filter (λ (r : Row). nat_lt r.symbol first) i.rows))
            (each-all (row_in_range p i.size) (all_rows i.size s arity first count)
            (each-row i.size s arity (λ r. row_in_range p i.size r ≡ true) (numbers_from first count)
            (each-weaker (λ g. (first ≤ g) × (g < first + count)) (λ g. (vs : List ℕ) → row_in_range p i.size (row_of s g vs) ≡ true)
            (λ g b vs. lt-ltb (s g vs) (if p g then 2 else i.size) (t.range g b.0 b.1 vs)) (numbers_from first count) (numbers-between first count))))
            (old i.rows t.proper.rows_in_range);
      }
    where
      old :
          (rows : List Row) → list_all (row_in_range q i.size) rows ≡ true
          → list_all (row_in_range p i.size) (filter (λ (r : Row). nat_lt r.symbol first) rows) ≡ true
      old [] h = refl
      old (r ∷ rows) h =
          let parts = and_parts (row_in_range q i.size r) (list_all (row_in_range q i.size) rows) h in
          by r rows parts.0 (nat_lt r.symbol first) refl (old rows parts.1)
        where
          by :
              (r : Row) (rows : List Row) → row_in_range q i.size r ≡ true → (b : Bool) → nat_lt r.symbol first ≡ b
              → list_all (row_in_range p i.size) (filter (λ (u : Row). nat_lt u.symbol first) rows) ≡ true
              → list_all (row_in_range p i.size) (if b then r ∷ filter (λ (u : Row). nat_lt u.symbol first) rows else filter (λ (u : Row). nat_lt u.symbol first) rows) ≡ true
          by r rows h true e rest =
              and_from (row_in_range p i.size r) (list_all (row_in_range p i.size) (filter (λ (u : Row). nat_lt u.symbol first) rows))
              (ap (λ (b : Bool). nat_lt r.value (if b then 2 else i.size)) (t.kinds r.symbol (ltb-true r.symbol first e)) ∙ h) rest
          by r rows h false e rest = rest
