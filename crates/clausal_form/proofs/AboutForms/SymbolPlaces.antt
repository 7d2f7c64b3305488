-- Symbols at their places in a signature: terms, literals and clauses that are right over it.
use Rattle.std.proofs.Common.{◌≡◌, ◌⊎◌, inl, inr, ℕ, ◌==◌, Bool, true, false, not, List, [], ◌∷◌, ◌++◌, length, map, Some, refl, ap, sym, ◌∙◌, subst, arith}
use Rattle.std.specs.Prelude.{slice_get, unwrap_or, option_map}
use Rattle.std.specs.List.{list_all}
use Rattle.std.proofs.lemmas.Bool.{and_parts, and_from, eqb-true, eq-eqb, true≢false}
use Rattle.std.proofs.lemmas.Option.{same_Some}
use Rattle.std.proofs.lemmas.List.Folds.{list_all-append}
use Rattle.fol_base.specs.Tree.{Tree, variable, application, Trees, tree_then, trees_of, trees_count, true_tree}
use Rattle.fol_base.specs.Kind.{is_function_term, are_function_terms}
use Rattle.fol_base.specs.Clause.{TreeLiteral}
use Rattle.fol_base.specs.WellFormed.{has_arities, have_arities, is_literal_of, are_literals_of}
use Rattle.fol_base.proofs.AboutTerms.WellFormedLemmas.{is_literal-from_equation, is_literal-from_atom, is_literal_of-from}
use Rattle.signature.specs.declared.symbol.Symbol.{Symbol}
use Rattle.signature.specs.Symbol.{is_predicate_kind, predicate_symbol, function_symbol, true_symbol, has_symbol, number_of}
use Rattle.signature.specs.Clausal.{Literals, applied, all_pairs, atom_literal}
use Rattle.clausal_form.specs.FormFunctions.{is_predicate_in}
use Rattle.clausal_form.specs.FormLaws.{arity_in, use_of}

-- ---- places in lists

-- ---- symbols at their places

-- whether it is a predicate, and its number of arguments; it isn't `$true`
pub record IsAt (symbols : List Symbol) (place : ℕ) (is_predicate : Bool) (arity : ℕ) : Type 0 where
  pub used : is_predicate_in symbols place ≡ is_predicate
  pub takes : arity_in symbols place ≡ arity
  pub proper : (place == 0) ≡ false

pub at-place :
    (symbols : List Symbol) (place : ℕ) (s : Symbol) → slice_get symbols place ≡ Some s → (place == 0) ≡ false
    → IsAt symbols place (is_predicate_kind s.kind) s.arity
at-place symbols place s h p =
    record {
      used = ap (λ o. unwrap_or (option_map (λ (u : Symbol). is_predicate_kind u.kind) o) false) h;
      takes = ap (λ o. unwrap_or (option_map (λ (u : Symbol). u.arity) o) 0) h;
      proper = p;
    }

pub record Knows (symbols known : List Symbol) : Type 0 where
  pub there : (s : Symbol) → has_symbol s known ≡ true → slice_get symbols (number_of known s) ≡ Some s
  pub first : slice_get symbols 0 ≡ Some true_symbol

pub function-at :
    (symbols known : List Symbol) → Knows symbols known → (name : List ℕ) (arity : ℕ) → has_symbol (function_symbol name arity) known ≡ true
    → IsAt symbols (number_of known (function_symbol name arity)) false arity
function-at symbols known k name arity h =
    at-place symbols (number_of known s) s (k.there s h) (by (number_of known s == 0) refl)
  where
    s : Symbol
    s = function_symbol name arity

    by : (b : Bool) → (number_of known s == 0) ≡ b → b ≡ false
    by false e = refl
    by true e =
        let zeroth : number_of known s ≡ 0 = eqb-true (number_of known s) 0 e in
        let same : true_symbol ≡ s = same_Some true_symbol s (sym k.first ∙ ap (slice_get symbols) (sym zeroth) ∙ k.there s h) in
        absurd (true≢false (ap (λ (u : Symbol). is_predicate_kind u.kind) same))

-- a predicate of the problem, or `$true`
pub predicate-at :
    (symbols known : List Symbol) → Knows symbols known → (name : List ℕ) (arity : ℕ) → has_symbol (predicate_symbol name arity) known ≡ true
    → IsAt symbols (number_of known (predicate_symbol name arity)) true arity
    ⊎ (number_of known (predicate_symbol name arity) ≡ 0) × (arity ≡ 0)
predicate-at symbols known k name arity h = by (number_of known s == 0) refl
  where
    s : Symbol
    s = predicate_symbol name arity

    by : (b : Bool) → (number_of known s == 0) ≡ b → IsAt symbols (number_of known s) true arity ⊎ (number_of known s ≡ 0) × (arity ≡ 0)
    by false e = inl (at-place symbols (number_of known s) s (k.there s h) e)
    by true e =
        let zeroth : number_of known s ≡ 0 = eqb-true (number_of known s) 0 e in
        let same : true_symbol ≡ s = same_Some true_symbol s (sym k.first ∙ ap (slice_get symbols) (sym zeroth) ∙ k.there s h) in
        inr (zeroth, ap (λ (u : Symbol). u.arity) (sym same))

-- ---- function terms of the signature

pub record Right (symbols : List Symbol) (t : Tree) : Type 0 where
  pub kind : is_function_term (is_predicate_in symbols) t ≡ true
  pub arities : has_arities (arity_in symbols) t ≡ true

pub record RightAll (symbols : List Symbol) (ts : Trees) : Type 0 where
  pub kind : are_function_terms (is_predicate_in symbols) ts ≡ true
  pub arities : have_arities (arity_in symbols) ts ≡ true

pub right-then : (symbols : List Symbol) (t : Tree) (ts : Trees) → Right symbols t → RightAll symbols ts → RightAll symbols (tree_then t ts)
right-then symbols t ts h k = record { kind = and_from _ _ h.kind k.kind; arities = and_from _ _ h.arities k.arities }

pub right-application :
    (symbols : List Symbol) (f : ℕ) (ts : Trees) → IsAt symbols f false (trees_count ts) → RightAll symbols ts → Right symbols (application f ts)
right-application symbols f ts at h =
    record {
      kind = and_from _ _ (ap not at.proper) (and_from _ _ (ap not at.used) h.kind);
      arities = and_from _ _ (eq-eqb (arity_in symbols f) (trees_count ts) at.takes) h.arities;
    }

variables-right : (symbols : List Symbol) (vs : List ℕ) → RightAll symbols (trees_of (map variable vs))
variables-right symbols [] = record { kind = refl; arities = refl }
variables-right symbols (v ∷ vs) = right-then symbols (variable v) _ (record { kind = refl; arities = refl }) (variables-right symbols vs)

variables-count : (vs : List ℕ) → trees_count (trees_of (map variable vs)) ≡ length vs
variables-count [] = refl
variables-count (v ∷ vs) = omega (arith, variables-count vs)

pub applied-right : (symbols : List Symbol) (f : ℕ) (vs : List ℕ) → IsAt symbols f false (length vs) → Right symbols (applied f vs)
applied-right symbols f vs at =
    right-application symbols f _ (subst (λ a. IsAt symbols f false a) (sym (variables-count vs)) at) (variables-right symbols vs)

-- ---- literals and clauses

abbrev pub RightLiteral : List Symbol → TreeLiteral → Type 0
RightLiteral symbols l = is_literal_of (use_of symbols) l ≡ true

abbrev pub RightClauses : List Symbol → List Literals → Type 0
RightClauses symbols cs = list_all (are_literals_of (use_of symbols)) cs ≡ true

truth-right : (symbols : List Symbol) → slice_get symbols 0 ≡ Some true_symbol → has_arities (arity_in symbols) true_tree ≡ true
truth-right symbols h =
    and_from _ _ (eq-eqb (arity_in symbols 0) 0 (ap (λ o. unwrap_or (option_map (λ (u : Symbol). u.arity) o) 0) h)) refl

pub right-atom :
    (symbols : List Symbol) (sign : Bool) (f : ℕ) (ts : Trees) → slice_get symbols 0 ≡ Some true_symbol → IsAt symbols f true (trees_count ts)
    → RightAll symbols ts → RightLiteral symbols (atom_literal sign (application f ts))
right-atom symbols sign f ts first at h =
    is_literal_of-from (use_of symbols) (atom_literal sign (application f ts))
    (record {
      kind =
          is_literal-from_atom (is_predicate_in symbols) (atom_literal sign (application f ts))
          (inl (and_from _ _ (ap not at.proper) (and_from _ _ at.used h.kind)), refl);
      left_arities = and_from _ _ (eq-eqb (arity_in symbols f) (trees_count ts) at.takes) h.arities;
      right_arities = truth-right symbols first;
    })

pub right-truth : (symbols : List Symbol) (sign : Bool) → slice_get symbols 0 ≡ Some true_symbol → RightLiteral symbols (atom_literal sign true_tree)
right-truth symbols sign first =
    is_literal_of-from (use_of symbols) (atom_literal sign true_tree)
    (record {
      kind = is_literal-from_atom (is_predicate_in symbols) (atom_literal sign true_tree) (inr refl, refl);
      left_arities = truth-right symbols first;
      right_arities = truth-right symbols first;
    })

pub right-equation : (symbols : List Symbol) (l : TreeLiteral) → Right symbols l.left → Right symbols l.right → RightLiteral symbols l
right-equation symbols l h k =
    is_literal_of-from (use_of symbols) l
    (record {
      kind = is_literal-from_equation (is_predicate_in symbols) l (h.kind, k.kind);
      left_arities = h.arities;
      right_arities = k.arities;
    })

pub name-right :
    (symbols : List Symbol) (sign : Bool) (f : ℕ) (vs : List ℕ) → slice_get symbols 0 ≡ Some true_symbol → IsAt symbols f true (length vs)
    → RightLiteral symbols (atom_literal sign (applied f vs))
name-right symbols sign f vs first at =
    right-atom symbols sign f _ first (subst (λ a. IsAt symbols f true a) (sym (variables-count vs)) at) (variables-right symbols vs)

pub clauses-joined : (symbols : List Symbol) (a b : List Literals) → RightClauses symbols a → RightClauses symbols b → RightClauses symbols (a ++ b)
clauses-joined symbols a b h k = list_all-append (are_literals_of (use_of symbols)) a b ∙ and_from _ _ h k

before-right :
    (symbols : List Symbol) (c : Literals) (b : List Literals) → are_literals_of (use_of symbols) c ≡ true → RightClauses symbols b
    → RightClauses symbols (map (λ d. c ++ d) b)
before-right symbols c [] h k = refl
before-right symbols c (d ∷ b) h k =
    let parts = and_parts (are_literals_of (use_of symbols) d) _ k in
    and_from (are_literals_of (use_of symbols) (c ++ d)) _ (list_all-append (is_literal_of (use_of symbols)) c d ∙ and_from _ _ h parts.0)
    (before-right symbols c b h parts.1)

pub pairs-right : (symbols : List Symbol) (a b : List Literals) → RightClauses symbols a → RightClauses symbols b → RightClauses symbols (all_pairs a b)
pairs-right symbols [] b h k = refl
pairs-right symbols (c ∷ a) b h k =
    let parts = and_parts (are_literals_of (use_of symbols) c) _ h in
    clauses-joined symbols (map (λ d. c ++ d) b) (all_pairs a b) (before-right symbols c b parts.0 k) (pairs-right symbols a b parts.1 k)

pub headed-right :
    (symbols : List Symbol) (l : TreeLiteral) (cs : List Literals) → RightLiteral symbols l → RightClauses symbols cs
    → RightClauses symbols (map (λ c. l ∷ c) cs)
headed-right symbols l [] h k = refl
headed-right symbols l (c ∷ cs) h k =
    let parts = and_parts (are_literals_of (use_of symbols) c) _ k in
    and_from (are_literals_of (use_of symbols) (l ∷ c)) _ (and_from _ _ h parts.0) (headed-right symbols l cs h parts.1)
