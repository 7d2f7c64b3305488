-- Each model gives one of the same size in which the constants have their values in order.
use Rattle.std.proofs.Common.{◌≡◌, ℕ, zero, suc, ◌+◌, ◌*◌, ◌^◌, ◌<◌, ◌≤◌, ◌==◌, nat_lt, Bool, true, false, not, ◌&&◌, ◌||◌, List, [], ◌∷◌, length, Option, None, Some, if◌then◌else◌, refl, ap, ap₂, sym, ◌∙◌, subst, arith, ◌⊎◌, inl, inr, ⊎_elim}
use Rattle.std.specs.Prelude.{slice_get, slice_index_or, unwrap_or, option_map}
use Rattle.std.specs.List.{AllByRecursion, list_all}
use Rattle.std.proofs.Math.Nat.{pow-zero}
use Rattle.std.proofs.lemmas.Bool.{and_parts, or_right, cases_Bool, cases_order, lt-ltb, ltb-true, eqb-true, true≢false, cond-true, cond-false}
use Rattle.list_lemmas.proofs.Numbers.{not-same, below-or-same}
use Rattle.fol_base.specs.Clause.{TreeClause}
use Rattle.fol_base.specs.Interpretation.{Interpretation, IsInterpretation, symbol_value, HoldsIn}
use Rattle.fol_base.specs.WellFormed.{are_literals_of}
use Rattle.sat_core.specs.Clause.{Valuation}
use Rattle.signature.specs.declared.symbol.Symbol.{Symbol}
use Rattle.signature.specs.Symbol.{is_predicate_kind, IsSignature}
use Rattle.signature.specs.Form.{ClausalForm, is_constant}
use Rattle.kernel_steps.specs.Symbols.{clause_symbols_pass}
use Rattle.clausal_form.specs.FormFunctions.{is_predicate_in}
use Rattle.clausal_form.specs.FormLaws.{arity_in, use_of}
use Rattle.finite_models.specs.declared.entry_names.EntryNames.{EntryNames}
use Rattle.finite_models.specs.Agreement.{Agrees}
use Rattle.finite_models.specs.Constants.{is_constant_in, constants_before, has_none_above, constant_true, constants_true}
use Rattle.finite_models.specs.EntryNames.{entries_of}
use Rattle.finite_models.specs.Model.{has_arity_in, IsOverSignature, IsModel}
use Rattle.finite_models.proofs.AboutNumbers.ListLemmas.{all-numbers}
use Rattle.finite_models.proofs.AboutFlattening.ProperLemmas.{proper-literals}
use Rattle.finite_models.proofs.AboutFlattening.ReturnLemmas.{function-below}
use Rattle.finite_models.proofs.AboutTables.ExchangeLemmas.{exchanged, exchanged-second, exchanged-other, exchanged-twice, exchanged-below, moved, moved-interprets, function-moved, clause-moved}
use Rattle.finite_models.proofs.AboutTables.SignatureLemmas.{number-within, truth-predicate, function-proper}

-- ---- numbers

at-most : (a b : ℕ) → a ≡ b → a ≤ b
at-most a b e = omega (arith, e)

less-at-most : (a b : ℕ) → a < b → a ≤ b
less-at-most a b h = omega (arith, h)

less-then : (a b c : ℕ) → a < b → b ≤ c → a < c
less-then a b c h k = omega (arith, h, k)

at-most-then : (a b c : ℕ) → a ≤ b → b < c → a < c
at-most-then a b c h k = omega (arith, h, k)

not-both : (a b : ℕ) → a ≡ b → a < b → ⊥
not-both a b e h = omega (arith, e, h)

-- ---- constants

pub constant-kind :
    (symbols : List Symbol) (f : ℕ) → is_constant_in symbols f ≡ true
    → (is_predicate_in symbols f ≡ false) × (arity_in symbols f ≡ 0)
constant-kind symbols f h = by (slice_get symbols f) refl h
  where
    no : (b : Bool) → not b ≡ true → b ≡ false
    no true e = sym e
    no false e = refl

    by :
        (o : Option Symbol) → slice_get symbols f ≡ o → unwrap_or (option_map is_constant o) false ≡ true
        → (is_predicate_in symbols f ≡ false) × (arity_in symbols f ≡ 0)
    by None at e = absurd (true≢false (sym e))
    by (Some s) at e =
        let parts = and_parts (not (is_predicate_kind s.kind)) (s.arity == 0) e in (
          ap (λ o. unwrap_or (option_map (λ (u : Symbol). is_predicate_kind u.kind) o) false) at ∙ no (is_predicate_kind s.kind) parts.0,
          ap (λ o. unwrap_or (option_map (λ (u : Symbol). u.arity) o) 0) at ∙ eqb-true s.arity 0 parts.1,
        )

-- of two constants the earlier has fewer before it
constants-rise :
    (symbols : List Symbol) (f m : ℕ) → f < m → is_constant_in symbols f ≡ true → constants_before symbols f < constants_before symbols m
constants-rise symbols f zero l h = absurd (let none : ⊥ = omega (arith, l) in none)
constants-rise symbols f (suc m) l h = ⊎_elim (λ k. before (constants-rise symbols f m k h)) last (below-or-same f m (omega (arith, l)))
  where
    more : (a b : ℕ) → a ≤ a + b
    more a b = omega arith

    one-more : (a : ℕ) → a < a + 1
    one-more a = omega arith

    before : constants_before symbols f < constants_before symbols m → constants_before symbols f < constants_before symbols (suc m)
    before rise =
        let grows : constants_before symbols m ≤ constants_before symbols (suc m) =
        more (constants_before symbols m) (if is_constant_in symbols m then 1 else 0) in
        less-then (constants_before symbols f) (constants_before symbols m) (constants_before symbols (suc m)) rise grows

    last : f ≡ m → constants_before symbols f < constants_before symbols (suc m)
    last e =
        subst (λ (g : ℕ). constants_before symbols f < constants_before symbols (suc g)) e
        (subst (λ (b : Bool). constants_before symbols f < constants_before symbols f + (if b then 1 else 0)) (sym h) (one-more (constants_before symbols f)))

-- ---- one constant after another

module _ (form : ClausalForm) (over : IsOverSignature form) (signed : IsSignature form.symbols) where
  abbrev symbols : List Symbol
  symbols = form.symbols

  -- the constants with numbers below m have values in order
  abbrev InOrder : Interpretation → ℕ → Type 0
  InOrder i m = (f : ℕ) → f < m → is_constant_in symbols f ≡ true → symbol_value i f [] ≤ constants_before symbols f

  truth : is_predicate_in symbols 0 ≡ true
  truth = truth-predicate symbols signed

  -- an exchange makes the same clauses true
  module _ (π : ℕ → ℕ) (twice : (v : ℕ) → π (π v) ≡ v) (i : Interpretation) (below : (v : ℕ) → v < i.size → π v < i.size) (model : IsModel form i) where
    abbrev exchange : Interpretation
    exchange = moved symbols i model.interprets truth π twice below

    clauses-moved :
        (cs : List TreeClause)
        → list_all (λ (c : TreeClause). are_literals_of (use_of symbols) c.literals) cs ≡ true
        → list_all (clause_symbols_pass (has_arity_in symbols)) cs ≡ true
        → AllByRecursion (HoldsIn i) cs → AllByRecursion (HoldsIn exchange) cs
    clauses-moved [] used known holds = tt
    clauses-moved (c ∷ cs) used known holds =
        let us = and_parts (are_literals_of (use_of symbols) c.literals) (list_all (λ (d : TreeClause). are_literals_of (use_of symbols) d.literals) cs) used in
        let ks = and_parts (clause_symbols_pass (has_arity_in symbols) c) (list_all (clause_symbols_pass (has_arity_in symbols)) cs) known in (
          clause-moved symbols i model.interprets truth π twice below c
              (proper-literals (use_of symbols) (length symbols) (has_arity_in symbols) (number-within symbols) c.literals us.0 ks.0) holds.0,
          clauses-moved cs us.1 ks.1 holds.1,
        )

    exchange-model : IsModel form exchange
    exchange-model =
        record {
          interprets = moved-interprets symbols i model.interprets truth π twice below;
          makes_true = clauses-moved form.clauses over.used over.known model.makes_true;
        }

    -- a constant's value is exchanged
    exchange-constant : (f : ℕ) → f < length symbols → is_constant_in symbols f ≡ true → symbol_value exchange f [] ≡ π (symbol_value i f [])
    exchange-constant f known constant =
        let kind = constant-kind symbols f constant in
        function-moved symbols i model.interprets truth π twice below f [] known kind.0 (sym kind.1) tt

  -- one more constant in order
  module _ (i : Interpretation) (model : IsModel form i) (m : ℕ) (known : m < length symbols) (constant : is_constant_in symbols m ≡ true)
      (order : InOrder i m) (high : constants_before symbols m < symbol_value i m []) where
    abbrev lower : ℕ
    lower = constants_before symbols m

    abbrev upper : ℕ
    upper = symbol_value i m []

    upper-below : upper < i.size
    upper-below =
        let kind = constant-kind symbols m constant in
        function-below (is_predicate_in symbols) i m [] model.interprets (function-proper symbols truth m kind.0) kind.0

    swaps : (v : ℕ) → v < i.size → exchanged lower upper v < i.size
    swaps v h = exchanged-below lower upper i.size v (less-then lower upper i.size high (less-at-most upper i.size upper-below)) upper-below h

    abbrev next : Interpretation
    next = exchange (exchanged lower upper) (exchanged-twice lower upper) i swaps model

    next-order : InOrder next (suc m)
    next-order f l c = ⊎_elim before last (below-or-same f m (omega (arith, l)))
      where
        value-is : f < length symbols → symbol_value next f [] ≡ exchanged lower upper (symbol_value i f [])
        value-is k = exchange-constant (exchanged lower upper) (exchanged-twice lower upper) i swaps model f k c

        before : f < m → symbol_value next f [] ≤ constants_before symbols f
        before k =
            let least : symbol_value i f [] ≤ constants_before symbols f = order f k c in
            let low : symbol_value i f [] < lower =
            at-most-then (symbol_value i f []) (constants_before symbols f) lower least (constants-rise symbols f m k c) in
            let same : exchanged lower upper (symbol_value i f []) ≡ symbol_value i f [] =
            exchanged-other lower upper (symbol_value i f [])
            (not-same (symbol_value i f []) lower (λ e. not-both (symbol_value i f []) lower e low))
            (not-same (symbol_value i f []) upper
            (λ e. not-both (symbol_value i f []) upper e (less-then (symbol_value i f []) lower upper low (less-at-most lower upper high)))) in
            subst (λ (v : ℕ). v ≤ constants_before symbols f) (sym (value-is (below-known k) ∙ same)) least
          where
            below-known : f < m → f < length symbols
            below-known k = less-then f m (length symbols) k (less-at-most m (length symbols) known)

        last : f ≡ m → symbol_value next f [] ≤ constants_before symbols f
        last e =
            subst (λ (g : ℕ). symbol_value next g [] ≤ constants_before symbols g) (sym e)
            (subst (λ (v : ℕ). v ≤ lower)
            (sym (exchange-constant (exchanged lower upper) (exchanged-twice lower upper) i swaps model m known constant ∙ exchanged-second lower upper)) (at-most lower lower refl))

  pub record Ordered (size m : ℕ) : Type 0 where
    pub i : Interpretation
    pub model : IsModel form i
    pub size_is : i.size ≡ size
    pub order : InOrder i m

  pub in-order : (i : Interpretation) → IsModel form i → (m : ℕ) → m ≤ length symbols → Ordered i.size m
  in-order i model zero h =
      record { i = i; model = model; size_is = refl; order = λ f l c. absurd (let none : ⊥ = omega (arith, l) in none) }
  in-order i model (suc m) h = by (in-order i model m (omega (arith, h))) (cases_Bool (is_constant_in symbols m))
    where
      -- nothing changes
      keeps : (o : Ordered i.size m) → (is_constant_in symbols m ≡ true → symbol_value o.i m [] ≤ constants_before symbols m) → Ordered i.size (suc m)
      keeps o last =
          record {
            i = o.i;
            model = o.model;
            size_is = o.size_is;
            order = λ f l c.
                ⊎_elim (λ k. o.order f k c)
                (λ e.
                subst (λ (g : ℕ). symbol_value o.i g [] ≤ constants_before symbols g) (sym e)
                (last (subst (λ (g : ℕ). is_constant_in symbols g ≡ true) e c)))
                (below-or-same f m (omega (arith, l)));
          }

      by :
          Ordered i.size m → (is_constant_in symbols m ≡ true) ⊎ (is_constant_in symbols m ≡ false)
          → Ordered i.size (suc m)
      by o (inr none) = keeps o (λ c. absurd (true≢false (sym c ∙ none)))
      by o (inl c) =
          ⊎_elim (λ e. keeps o (λ d. at-most (symbol_value o.i m []) (constants_before symbols m) e))
          (λ apart.
          ⊎_elim (λ low. keeps o (λ d. less-at-most (symbol_value o.i m []) (constants_before symbols m) low))
          (λ high.
          let known : m < length symbols = omega (arith, h) in
          record {
            i = next o.i o.model m known c o.order high;
            model = exchange-model (exchanged (constants_before symbols m) (symbol_value o.i m []))
                (exchanged-twice (constants_before symbols m) (symbol_value o.i m [])) o.i (swaps o.i o.model m known c o.order high) o.model;
            size_is = o.size_is;
            order = next-order o.i o.model m known c o.order high;
          })
          apart)
          (cases_order (symbol_value o.i m []) (constants_before symbols m))

-- ---- and its valuation

-- a value of a constant is the place of its name
value-name : (n : EntryNames) (f v : ℕ) → slice_index_or n.firsts.items f 0 + v ≡ slice_index_or n.firsts.items f 0 + (v * n.size ^ 0 + 0)
value-name n f v =
    plain (slice_index_or n.firsts.items f 0) ∙ ap (λ (p : ℕ). slice_index_or n.firsts.items f 0 + (v * p + 0)) (sym (pow-zero n.size))
  where
    plain : (a : ℕ) → a + v ≡ a + (v * 1 + 0)
    plain a = omega arith

pub order-valued :
    (symbols : List Symbol) (n : EntryNames) (i : Interpretation) (valuation : Valuation)
    → Agrees (use_of symbols) (length symbols) (entries_of valuation n) i → is_predicate_in symbols 0 ≡ true → n.size ≡ i.size
    → ((f : ℕ) → f < length symbols → is_constant_in symbols f ≡ true → symbol_value i f [] ≤ constants_before symbols f)
    → constants_true symbols n valuation ≡ true
order-valued symbols n i valuation agrees truth size_is order =
    all-numbers (constant_true symbols n valuation) 0 (length symbols)
    (λ f l m. by f (low f (length symbols) m) (cases_Bool (is_constant_in symbols f)))
  where
    low : (a b : ℕ) → a < 0 + b → a < b
    low a b h = omega (arith, h)

    first : ℕ → ℕ
    first f = slice_index_or n.firsts.items f 0

    value-false :
        (f v : ℕ) → f < length symbols → is_constant_in symbols f ≡ true → v < n.size → constants_before symbols f < v
        → valuation (first f + v) ≡ false
    value-false f v known constant w high =
        let kind = constant-kind symbols f constant in
        ap valuation (value-name n f v)
        ∙ agrees.functions f v [] (function-proper symbols truth f kind.0) (lt-ltb f (length symbols) known) kind.0 (sym kind.1) tt (subst (λ (k : ℕ). v < k) size_is w)
        ∙ not-same (symbol_value i f []) v
        (λ e.
        not-both (symbol_value i f []) v e (at-most-then (symbol_value i f []) (constants_before symbols f) v (order f known constant) high))

    one : (f v : ℕ) → f < length symbols → is_constant_in symbols f ≡ true → v < n.size
        → (not (nat_lt (constants_before symbols f) v) || not (valuation (first f + v))) ≡ true
    one f v known constant w = decide (cases_Bool (nat_lt (constants_before symbols f) v))
      where
        decide :
            (nat_lt (constants_before symbols f) v ≡ true) ⊎ (nat_lt (constants_before symbols f) v ≡ false)
            → (not (nat_lt (constants_before symbols f) v) || not (valuation (first f + v))) ≡ true
        decide (inl e) =
            or_right (not (nat_lt (constants_before symbols f) v)) (not (valuation (first f + v)))
            (ap not (value-false f v known constant w (ltb-true (constants_before symbols f) v e)))
        decide (inr e) = ap (λ (b : Bool). not b || not (valuation (first f + v))) e

    by :
        (f : ℕ) → f < length symbols → (is_constant_in symbols f ≡ true) ⊎ (is_constant_in symbols f ≡ false)
        → constant_true symbols n valuation f ≡ true
    by f known (inr e) = cond-false (is_constant_in symbols f) (has_none_above n.size (first f) (constants_before symbols f) valuation) true e
    by f known (inl e) =
        cond-true (is_constant_in symbols f) (has_none_above n.size (first f) (constants_before symbols f) valuation) true e
        ∙ all-numbers (λ v. not (nat_lt (constants_before symbols f) v) || not (valuation (first f + v))) 0 n.size
        (λ v l m. one f v known e (low v n.size m))
