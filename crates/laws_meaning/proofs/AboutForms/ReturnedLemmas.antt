-- An interpretation that makes a clausal form true makes its problem's formulas true, the conjecture negated.
use Rattle.std.proofs.Common.{◌≡◌, ℕ, suc, ◌+◌, ◌<◌, ◌≤◌, ◌==◌, nat_lt, Bool, true, false, not, ◌||◌, List, [], ◌∷◌, ◌++◌, length, map, flat_map, filter, get_or, Some, if◌then◌else◌, refl, ap, ap₂, sym, ◌∙◌, subst, arith}
use Rattle.std.specs.Prelude.{option_map, unwrap_or}
use mathlib.Core.Bool.{beq}
use Rattle.std.specs.List.{AllByRecursion, list_all}
use Rattle.std.proofs.lemmas.Bool.{and_parts, and_from, eqb-true, ltb-true, cond-false, cond_both, true≢false}
use Rattle.std.proofs.lemmas.Option.{slice_get_within}
use Rattle.tptp_tree.specs.Entries.{is_conjecture}
use Rattle.tptp_tree.specs.declared.problem.Annotated.{Annotated}
use Rattle.fol_base.specs.Tree.{Tree, variable, application, Trees, no_trees, tree_then, tree_variables}
use Rattle.fol_base.specs.Instance.{Substitution}
use Rattle.fol_base.specs.Clause.{TreeLiteral, TreeClause, literal_variables, clause_variables}
use Rattle.fol_base.specs.Canonical.{distinct, place_of, canonical_renaming}
use Rattle.fol_base.specs.Interpretation.{Row, Interpretation, row_in_range, is_row_of, table_value, symbol_value, Assignment, tree_value, trees_values, sides_true, literals_true_under, HoldsIn}
use Rattle.signature.specs.Symbol.{true_symbol}
use Rattle.signature.specs.Occurrences.{annotated_symbols, formula_symbols, problem_symbols}
use Rattle.signature.specs.Environment.{free_names, closed, term_in_force}
use Rattle.signature.specs.Clausal.{SymbolNumbers, Made, Worked, Literals, clauses_of, begun, canonical_literals}
use Rattle.signature.specs.Form.{symbol_numbers, problem_skolem_count, nothing_made, problem_form, clausal_form}
use Rattle.signature.specs.Truth.{value_in_force, annotated_true}
use Rattle.signature.proofs.SkolemLemmas.{skolem_symbols_of_problem_are_counted}
use Rattle.clausal_form.specs.FormFunctions.{is_predicate_in}
use Rattle.clausal_form.proofs.AboutForms.FunctionLemmas.{first-folded}
use Rattle.clausal_form.proofs.AboutNaming.NameLemmas.{closed-known}
use Rattle.laws_meaning.specs.Laws.{FormsReturn}
use Rattle.laws_meaning.proofs.AboutStructures.ListLemmas.{is_listed, each-weaker, listed-itself, listed-filtered}
use Rattle.laws_meaning.proofs.AboutStructures.Structures.{Structure, Same, value, values, holds, holds-same, all_hold, all_hold-joined}
use Rattle.laws_meaning.proofs.AboutStructures.Search.{HasSize}
use Rattle.laws_meaning.proofs.AboutFormulas.SignLemmas.{signed}
use Rattle.laws_meaning.proofs.AboutWork.Extending.{Base}
use Rattle.laws_meaning.proofs.AboutWork.Atoms.{AreKnown}
use Rattle.laws_meaning.proofs.AboutForms.FormedLemmas.{raw_clauses, holds-instance, formed-raw}
use Rattle.laws_meaning.proofs.AboutForms.KindLemmas.{skolem-kind}
use Rattle.laws_meaning.proofs.AboutForms.ExtendedLemmas.{each-known, none-left}
use Rattle.laws_meaning.proofs.AboutReturn.Ranges.{AllHold}
use Rattle.laws_meaning.proofs.AboutReturn.Openings.{SkolemBelow}
use Rattle.laws_meaning.proofs.AboutReturn.ReturnWorks.{formula-back}

-- ---- the structure of an interpretation

abbrev structure_of : Interpretation → Structure
structure_of j g vs = symbol_value j g vs

mutual
  tree-value : (j : Interpretation) (ρ : Assignment) (t : Tree) → tree_value j ρ t ≡ value (structure_of j) ρ t
  tree-value j ρ (variable v) = refl
  tree-value j ρ (application f ts) = ap (symbol_value j f) (trees-values j ρ ts)

  trees-values : (j : Interpretation) (ρ : Assignment) (ts : Trees) → trees_values j ρ ts ≡ values (structure_of j) ρ ts
  trees-values j ρ no_trees = refl
  trees-values j ρ (tree_then t ts) = ap₂ ◌∷◌ (tree-value j ρ t) (trees-values j ρ ts)

clause-value : (j : Interpretation) (ρ : Assignment) (ls : List TreeLiteral) → literals_true_under j ρ ls ≡ holds (structure_of j) ρ ls
clause-value j ρ [] = refl
clause-value j ρ (l ∷ ls) = ap₂ ◌||◌ (ap₂ (sides_true l.positive) (tree-value j ρ l.left) (tree-value j ρ l.right)) (clause-value j ρ ls)

-- what a function gives is below the size
rows-below :
    (p : ℕ → Bool) (size : ℕ) (rows : List Row) (f : ℕ) (vs : List ℕ)
    → 1 ≤ size → list_all (row_in_range p size) rows ≡ true → p f ≡ false → table_value rows f vs < size
rows-below p size [] f vs some h function = some
rows-below p size (r ∷ rows) f vs some h function =
    let parts = and_parts (row_in_range p size r) (list_all (row_in_range p size) rows) h in
    cond_both (is_row_of f vs r) r.value (table_value rows f vs) (λ v. v < size)
    (λ here.
    let same : r.symbol ≡ f = eqb-true r.symbol f (and_parts (r.symbol == f) _ here).0 in
    ltb-true r.value size (sym (ap (nat_lt r.value) (cond-false (p r.symbol) 2 size (ap p same ∙ function))) ∙ parts.0))
    (λ other. rows-below p size rows f vs some parts.1 function)

-- ---- clauses before their variables are numbered

-- the place of a number that is listed
record Placed (order : List ℕ) (v : ℕ) : Type 0 where
  place : ℕ
  is_at : place_of v order ≡ Some place
  there : get_or order place 0 ≡ v

placed : (order : List ℕ) (v : ℕ) → is_listed order v ≡ true → Placed order v
placed [] v h = absurd (true≢false (sym h))
placed (w ∷ order) v h = by (v == w) refl h (placed order v)
  where
    by : (b : Bool) → (v == w) ≡ b → (b || is_listed order v) ≡ true → (is_listed order v ≡ true → Placed order v) → Placed (w ∷ order) v
    by true e g rest =
        record {
          place = 0;
          is_at = ap (λ (b : Bool). if b then Some 0 else option_map suc (place_of v order)) e;
          there = sym (eqb-true v w e);
        }
    by false e g rest =
        let r = rest g in
        record {
          place = suc r.place;
          is_at = ap (λ (b : Bool). if b then Some 0 else option_map suc (place_of v order)) e ∙ ap (λ o. option_map suc o) r.is_at;
          there = r.there;
        }

listed-distinct : (vs : List ℕ) (v : ℕ) → is_listed vs v ≡ true → is_listed (distinct vs) v ≡ true
listed-distinct [] v h = h
listed-distinct (w ∷ vs) v h =
    by (v == w) refl h (λ e g. listed-filtered (λ u. not (u == w)) (distinct vs) v (ap not e) (listed-distinct vs v g))
  where
    by :
        (b : Bool) → (v == w) ≡ b → (b || is_listed vs v) ≡ true
        → ((v == w) ≡ false → is_listed vs v ≡ true → is_listed (filter (λ u. not (u == w)) (distinct vs)) v ≡ true)
        → (b || is_listed (filter (λ u. not (u == w)) (distinct vs)) v) ≡ true
    by true e g rest = refl
    by false e g rest = rest e g

raw-hold :
    (j : Interpretation) (cs : List Literals) → AllByRecursion (HoldsIn j) (map canonical_literals cs)
    → (ρ : Assignment) → HasSize j.size ρ → all_hold (structure_of j) ρ cs ≡ true
raw-hold j [] h ρ has = refl
raw-hold j (c ∷ cs) h ρ has =
    let clause : TreeClause = record { literals = c; names = [] } in
    let order : List ℕ = distinct (clause_variables clause) in
    let σ : Substitution = canonical_renaming clause in
    let τ : Assignment = λ k. ρ (get_or order k 0) in
    let same : Same (λ v. value (structure_of j) τ (σ v)) ρ (flat_map literal_variables c) =
    each-weaker (λ v. is_listed (flat_map literal_variables c) v ≡ true) (λ v. value (structure_of j) τ (σ v) ≡ ρ v)
    (λ v l.
    let x = placed order v (listed-distinct (flat_map literal_variables c) v l) in
    ap (λ o. ρ (get_or order (unwrap_or o v) 0)) x.is_at ∙ ap ρ x.there)
    (flat_map literal_variables c) (listed-itself (flat_map literal_variables c)) in
    and_from (holds (structure_of j) ρ c) (all_hold (structure_of j) ρ cs)
    (sym (holds-same (structure_of j) (λ v. value (structure_of j) τ (σ v)) ρ c same) ∙ sym (holds-instance (structure_of j) τ σ c)
    ∙ sym (clause-value j τ (canonical_literals c).literals) ∙ h.0 τ (λ k. has (get_or order k 0)))
    (raw-hold j cs h.1 ρ has)

-- ---- formulas

record IsClosed (n : SymbolNumbers) (a : Annotated) : Type 0 where
  no_free : free_names (closed a) ≡ []
  known : AreKnown n (formula_symbols (closed a))

each-closed :
    (n : SymbolNumbers) (fs : List Annotated)
    → list_all (λ (a : Annotated). length (free_names (closed a)) == 0) fs ≡ true
    → AllByRecursion (λ (a : Annotated). AreKnown n (annotated_symbols a)) fs → AllByRecursion (IsClosed n) fs
each-closed n [] c k = tt
each-closed n (a ∷ fs) c k =
    let parts = and_parts (length (free_names (closed a)) == 0) (list_all (λ (b : Annotated). length (free_names (closed b)) == 0) fs) c in
    (record { no_free = none-left (free_names (closed a)) parts.0; known = closed-known n.symbols a k.0 }, each-closed n fs parts.1 k.1)

from-signed : (b sign : Bool) → signed sign b ≡ true → beq b sign ≡ true
from-signed true true e = refl
from-signed true false e = e
from-signed false true e = e
from-signed false false e = refl

formulas-true :
    (n : SymbolNumbers) (j : Interpretation) → Base n j → SkolemBelow n j.size (structure_of j) → (fs : List Annotated) (m : Made)
    → AllByRecursion (IsClosed n) fs → n.first_skolem + (length m.skolem_arities + problem_skolem_count fs) ≤ n.first_naming
    → AllHold j.size (structure_of j) (raw_clauses n fs m)
    → list_all (λ (a : Annotated). beq (annotated_true n.symbols j a) (not (is_conjecture a.role))) fs ≡ true
formulas-true n j base small [] m c fits h = refl
formulas-true n j base small (a ∷ fs) m c fits h =
    let s : Structure = structure_of j in
    let sign : Bool = not (is_conjecture a.role) in
    let w : Worked = clauses_of n (closed a) sign [] (begun m) in
    let rest : List Literals = raw_clauses n fs w.made in
    let both : (τ : Assignment) → HasSize j.size τ → (all_hold s τ (w.clauses ++ w.made.defining) ≡ true) × (all_hold s τ rest ≡ true) =
    λ τ has.
    and_parts (all_hold s τ (w.clauses ++ w.made.defining)) (all_hold s τ rest)
    (sym (all_hold-joined s τ (w.clauses ++ w.made.defining) rest) ∙ h τ has) in
    let own : (τ : Assignment) → HasSize j.size τ → (all_hold s τ w.clauses ≡ true) × (all_hold s τ w.made.defining ≡ true) =
    λ τ has.
    and_parts (all_hold s τ w.clauses) (all_hold s τ w.made.defining)
    (sym (all_hold-joined s τ w.clauses w.made.defining) ∙ (both τ has).0) in
    let b = formula-back n j.size s j base refl (λ g l. refl) refl small (closed a) sign [] (c.0).known in
    let r =
    b.returned (begun m) (omega (arith, fits))
    (subst (λ (names : List (List ℕ)). AllByRecursion (λ x. AllByRecursion (λ v. v < 0) (tree_variables (term_in_force [] x))) names) (sym (c.0).no_free) tt)
    (λ τ has. (own τ has).1) in
    let zero_value : Assignment = λ v. 0 in
    let is_true =
    r.returns zero_value (λ v. base.some) []
    (subst (λ (names : List (List ℕ)). AllByRecursion (λ x. value_in_force [] x ≡ value s zero_value (term_in_force [] x)) names) (sym (c.0).no_free) tt)
    (λ τ has near. (own τ has).0) in
    and_from (beq (annotated_true n.symbols j a) sign) (list_all (λ (d : Annotated). beq (annotated_true n.symbols j d) (not (is_conjecture d.role))) fs)
    (from-signed (annotated_true n.symbols j a) sign is_true)
    (formulas-true n j base small fs w.made c.1 (omega (arith, fits, b.counted (begun m))) (λ τ has. (both τ has).1))

pub forms_return : FormsReturn
forms_return fs j closed_all proper h =
    formulas-true (symbol_numbers fs) j base small fs nothing_made
    (each-closed (symbol_numbers fs) fs closed_all (each-known (true_symbol ∷ []) fs)) (omega arith)
    (raw-hold j (raw_clauses (symbol_numbers fs) fs nothing_made)
    (subst (AllByRecursion (HoldsIn j)) (formed-raw (symbol_numbers fs) 0 fs nothing_made) h))
  where
    base : Base (symbol_numbers fs) j
    base =
        record {
          some = proper.has_value;
          first = slice_get_within (problem_symbols fs) 0 true_symbol (first-folded (true_symbol ∷ []) (flat_map annotated_symbols fs) true_symbol refl);
          known = refl;
        }

    positive : (g : ℕ) → length (problem_symbols fs) ≤ g → g ≡ 0 → ⊥
    positive g l e = omega (arith, l, e, base.first)

    small : SkolemBelow (symbol_numbers fs) j.size (structure_of j)
    small g l k vs =
        cond_both (g == 0) 1 (table_value j.rows g vs) (λ v. v < j.size) (λ e. absurd (positive g l (eqb-true g 0 e)))
        (λ e.
        rows-below (is_predicate_in (clausal_form fs).symbols) j.size j.rows g vs proper.has_value proper.rows_in_range
        (skolem-kind (problem_symbols fs) (problem_form fs).made g l (omega (arith, k, skolem_symbols_of_problem_are_counted fs))))
