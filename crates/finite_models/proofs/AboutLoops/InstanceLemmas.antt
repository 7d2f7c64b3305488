-- One more literal, one more instance, one more clause and one more symbol that are written out.
use Rattle.std.proofs.Common.{◌≡◌, ℕ, zero, suc, ◌+◌, ◌^◌, ◌<◌, ◌≤◌, nat_lt, Bool, true, false, ◌&&◌, ◌||◌, List, [], ◌∷◌, ◌++◌, length, map, take, get_or, Some, if◌then◌else◌, refl, ap, ap₂, sym, ◌∙◌, subst, arith}
use mathlib.Core.Bool.{beq}
use Rattle.std.specs.Prelude.{slice_get, slice_index_or, unwrap_or, option_map}
use Rattle.std.specs.List.{AllByRecursion, list_all}
use Rattle.std.proofs.lemmas.Bool.{and_parts, ltb-true}
use Rattle.std.proofs.lemmas.List.Folds.{list_any_more, list_all_more, list_any_at}
use Rattle.std.proofs.lemmas.Option.{slice_get_read}
use Rattle.plain_types.specs.declared.sequence.NameLit.{NameLit}
use Rattle.list_lemmas.proofs.Bools.{or-false}
use Rattle.fol_base.specs.Canonical.{numbers_from}
use Rattle.sat_core.specs.Clause.{PropClause, Valuation}
use Rattle.signature.specs.declared.symbol.Symbol.{Symbol}
use Rattle.signature.specs.Symbol.{is_predicate_kind}
use Rattle.finite_models.specs.declared.flat.FlatLiteral.{FlatLiteral}
use Rattle.finite_models.specs.declared.flat.FlatLiteral.TheVariants.{Entry}
use Rattle.finite_models.specs.declared.flat.FlatClause.{FlatClause}
use Rattle.finite_models.specs.declared.entry_names.EntryNames.{EntryNames}
use Rattle.finite_models.specs.declared.instances.Instance.TheVariants.{Truth, Name}
use Rattle.finite_models.specs.Digits.{digits}
use Rattle.finite_models.specs.Flattening.{value_in, flat_true, some_true, flat_clause_true}
use Rattle.finite_models.specs.EntryNames.{entry_count, entry_name, entries_of, flat_fits, AreEntryNames}
use Rattle.finite_models.specs.Translation.{Adds, IsUnder, is_function, one_symbol_true, symbol_true, flat_clauses_true}
use Rattle.finite_models.proofs.AboutNumbers.ListLemmas.{all-more}
use Rattle.finite_models.proofs.AboutTables.NameLemmas.{block-of}
use Rattle.finite_models.proofs.AboutLoops.AddsLemmas.{Writes, writes-more, writes-as, adds-more, adds-as, adds-wider}

-- ---- an item of a slice

pub test-at : {X : Type 0} (p : X → Bool) (xs : List X) (i : ℕ) (x : X) → list_all p xs ≡ true → i < length xs → x ≡ get_or xs i x → p x ≡ true
test-at p [] i x all h r = absurd (let none : ⊥ = omega (arith, h) in none)
test-at p (y ∷ xs) zero x all h r = ap p r ∙ (and_parts (p y) (list_all p xs) all).0
test-at p (y ∷ xs) (suc i) x all h r = test-at p xs i x (and_parts (p y) (list_all p xs) all).1 (omega (arith, h)) r

pub each-at : {X : Type 0} (P : X → Type 0) (xs : List X) (i : ℕ) (x : X) → AllByRecursion P xs → i < length xs → x ≡ get_or xs i x → P x
each-at P [] i x all h r = absurd (let none : ⊥ = omega (arith, h) in none)
each-at P (y ∷ xs) zero x all h r = subst P (sym r) all.0
each-at P (y ∷ xs) (suc i) x all h r = each-at P xs i x all.1 (omega (arith, h)) r

-- ---- one literal

-- the name of an entry fits
pub entry-fits :
    (n : EntryNames) (values : List ℕ) (positive : Bool) (f : ℕ) (slots : List ℕ) → flat_fits n values (Entry positive f slots) ≡ true
    → (f < length n.firsts.items) × (entry_name n f (map (value_in values) slots) < n.count)
entry-fits n values positive f slots h =
    let parts = and_parts (nat_lt f (length n.firsts.items)) (nat_lt (entry_name n f (map (value_in values) slots)) n.count) h in
    (ltb-true f (length n.firsts.items) parts.0, ltb-true (entry_name n f (map (value_in values) slots)) n.count parts.1)

pub entry-under :
    (n : EntryNames) (values : List ℕ) (positive : Bool) (f : ℕ) (slots : List ℕ) (name : ℕ)
    → flat_fits n values (Entry positive f slots) ≡ true → name ≡ entry_name n f (map (value_in values) slots)
    → IsUnder n values (Entry positive f slots) (Name (record { positive = positive; name = name }))
entry-under n values positive f slots name h e = (
  λ valuation. ap (λ (k : ℕ). beq (valuation k) positive) (sym e),
  subst (λ k. k < n.count) (sym e) (entry-fits n values positive f slots h).1,
)

-- ---- one more literal of a clause

module _ (n : EntryNames) (values : List ℕ) (ls : List FlatLiteral) (i : ℕ) (l : FlatLiteral) (h : i < length ls) (r : l ≡ get_or ls i l) where
  -- so many literals have a true one
  abbrev pub begun : ℕ → Valuation → Bool
  begun k valuation = some_true (entries_of valuation n) (take k ls) values

  some-more : (valuation : Valuation) → begun (i + 1) valuation ≡ (begun i valuation || flat_true (entries_of valuation n) values l)
  some-more valuation =
      list_any_more (flat_true (entries_of valuation n) values) ls i l h
      ∙ ap (λ (k : FlatLiteral). begun i valuation || flat_true (entries_of valuation n) values k) (sym r)

  pub false-next : (c : PropClause) → Writes n.count c (begun i) → IsUnder n values l (Truth false) → Writes n.count c (begun (i + 1))
  false-next c w u =
      writes-as n.count c (begun i) (begun (i + 1)) w
      (λ valuation. some-more valuation ∙ ap (λ b. begun i valuation || b) (u (entries_of valuation n)) ∙ or-false (begun i valuation))

  pub name-next :
      (c d : PropClause) (name : NameLit)
      → Writes n.count c (begun i) → IsUnder n values l (Name name) → d ≡ c ++ name ∷ [] → Writes n.count d (begun (i + 1))
  name-next c d name w u e =
      writes-more n.count c d name (begun i) (λ valuation. flat_true (entries_of valuation n) values l) (begun (i + 1)) w e u.1
      (λ valuation. sym (u.0 valuation)) some-more

  pub true-found : IsUnder n values l (Truth true) → (valuation : Valuation) → some_true (entries_of valuation n) ls values ≡ true
  true-found u valuation =
      list_any_at (flat_true (entries_of valuation n) values) ls i l h
      (ap (flat_true (entries_of valuation n) values) (sym r) ∙ u (entries_of valuation n))

-- ---- one more instance

pub instance-next :
    (n : EntryNames) (slots number : ℕ) (ls lent : List FlatLiteral) (values : List ℕ) (old mid new : List PropClause)
    → Adds n.count old mid
    (λ valuation. list_all (λ k. some_true (entries_of valuation n) ls (digits n.size slots k)) (numbers_from 0 number))
    → Adds n.count mid new (λ valuation. some_true (entries_of valuation n) lent values)
    → lent ≡ ls → values ≡ digits n.size slots number
    → Adds n.count old new
    (λ valuation. list_all (λ k. some_true (entries_of valuation n) ls (digits n.size slots k)) (numbers_from 0 (number + 1)))
instance-next n slots number ls lent values old mid new a b e d =
    adds-more n.count old mid new
    (λ valuation. list_all (λ k. some_true (entries_of valuation n) ls (digits n.size slots k)) (numbers_from 0 number))
    (λ valuation. some_true (entries_of valuation n) ls (digits n.size slots number))
    (λ valuation. list_all (λ k. some_true (entries_of valuation n) ls (digits n.size slots k)) (numbers_from 0 (number + 1)))
    a
    (adds-as n.count mid new (λ valuation. some_true (entries_of valuation n) lent values)
    (λ valuation. some_true (entries_of valuation n) ls (digits n.size slots number)) b
    (λ valuation. ap₂ (λ (ks : List FlatLiteral) (vs : List ℕ). some_true (entries_of valuation n) ks vs) e d))
    (λ valuation. all-more (λ k. some_true (entries_of valuation n) ls (digits n.size slots k)) number)

-- ---- one more clause

pub clause-next :
    (n : EntryNames) (cs : List FlatClause) (i : ℕ) (c : FlatClause) (old mid new : List PropClause)
    → i < length cs → c ≡ get_or cs i c
    → Adds n.count old mid (flat_clauses_true (take i cs) n)
    → Adds n.count mid new (λ valuation. flat_clause_true n.size (entries_of valuation n) c)
    → Adds n.count old new (flat_clauses_true (take (i + 1) cs) n)
clause-next n cs i c old mid new h r a b =
    adds-more n.count old mid new (flat_clauses_true (take i cs) n) (λ valuation. flat_clause_true n.size (entries_of valuation n) c)
    (flat_clauses_true (take (i + 1) cs) n) a b
    (λ valuation.
    list_all_more (flat_clause_true n.size (entries_of valuation n)) cs i c h
    ∙ ap (λ (d : FlatClause). flat_clauses_true (take i cs) n valuation && flat_clause_true n.size (entries_of valuation n) d) (sym r))

-- ---- one more symbol

symbol-same :
    (symbols : List Symbol) (n : EntryNames) (f : ℕ) (s : Symbol) (first : ℕ) (valuation : Valuation)
    → slice_get symbols f ≡ Some s → first ≡ slice_index_or n.firsts.items f 0
    → symbol_true symbols n valuation f ≡ one_symbol_true n.size first s valuation
symbol-same symbols n f s first valuation h e =
    ap₂ (λ (b : Bool) (k : ℕ). if b then true else is_function n.size (slice_index_or n.firsts.items f 0) (n.size ^ k) valuation)
    (ap (λ o. unwrap_or (option_map (λ (u : Symbol). is_predicate_kind u.kind) o) false) h)
    (ap (λ o. unwrap_or (option_map (λ (u : Symbol). u.arity) o) 0) h)
    ∙ ap (λ (k : ℕ). if is_predicate_kind s.kind then true else is_function n.size k (n.size ^ s.arity) valuation) (sym e)

pub symbol-next :
    (symbols : List Symbol) (n : EntryNames) (f : ℕ) (s : Symbol) (first : ℕ) (old mid new : List PropClause)
    → AreEntryNames symbols n → f < length symbols → s ≡ get_or symbols f s → first ≡ slice_index_or n.firsts.items f 0
    → Adds n.count old mid (λ valuation. list_all (symbol_true symbols n valuation) (numbers_from 0 f))
    → Adds (first + entry_count n.size s) mid new (one_symbol_true n.size first s)
    → Adds n.count old new (λ valuation. list_all (symbol_true symbols n valuation) (numbers_from 0 (f + 1)))
symbol-next symbols n f s first old mid new are h r e a b =
    let fits : first + entry_count n.size s ≤ n.count = omega (arith, block-of symbols n f s are h r, e) in
    adds-more n.count old mid new (λ valuation. list_all (symbol_true symbols n valuation) (numbers_from 0 f))
    (λ valuation. symbol_true symbols n valuation f) (λ valuation. list_all (symbol_true symbols n valuation) (numbers_from 0 (f + 1)))
    a
    (adds-as n.count mid new (one_symbol_true n.size first s) (λ valuation. symbol_true symbols n valuation f)
    (adds-wider (first + entry_count n.size s) n.count mid new (one_symbol_true n.size first s) fits b)
    (λ valuation. sym (symbol-same symbols n f s first valuation (slice_get_read symbols (length symbols) f s refl h r) e)))
    (λ valuation. all-more (symbol_true symbols n valuation) f)
