-- The literals of a flat clause have names, whatever values their slots have.
use Rattle.std.proofs.Common.{◌≡◌, ℕ, ◌+◌, ◌<◌, ◌≤◌, ◌==◌, nat_lt, Bool, true, false, List, [], ◌∷◌, ◌++◌, length, map, refl, sym, ◌∙◌, subst, arith}
use Rattle.std.proofs.lemmas.List.{length-map}
use Rattle.std.specs.List.{AllByRecursion, list_all}
use Rattle.std.proofs.lemmas.Bool.{and_from, and_parts, lt-ltb, ltb-true, cond-true, cond-false}
use Rattle.fol_base.specs.Tree.{Tree, variable, application, Trees, no_trees, tree_then, trees_count, true_symbol, is_truth}
use Rattle.fol_base.specs.Clause.{TreeLiteral, TreeClause}
use Rattle.signature.specs.declared.symbol.Symbol.{Symbol}
use Rattle.clausal_form.specs.FormFunctions.{is_predicate_in}
use Rattle.clausal_form.specs.FormLaws.{arity_in, use_of}
use Rattle.finite_models.specs.declared.flat.FlatLiteral.{FlatLiteral}
use Rattle.finite_models.specs.declared.flat.FlatLiteral.TheVariants.{Entry, Same, Constant}
use Rattle.finite_models.specs.declared.entry_names.EntryNames.{EntryNames}
use Rattle.finite_models.specs.Digits.{digits}
use Rattle.finite_models.specs.Measure.{occurrences, all_occurrences, variable_count}
use Rattle.finite_models.specs.Flattening.{value_in, flat_clause, term_slot, terms_slots, term_literals, terms_literals, headed_literals, equation_literals, atom_literals, literal_flattened, literal_slots, literals_flattened}
use Rattle.finite_models.specs.EntryNames.{AreEntryNames, entry_name, flat_fits}
use Rattle.finite_models.specs.Translation.{ClauseFits}
use Rattle.finite_models.proofs.AboutNumbers.ListLemmas.{each-joined}
use Rattle.finite_models.proofs.AboutNumbers.DigitLemmas.{digits-below}
use Rattle.finite_models.proofs.AboutFlattening.ProperLemmas.{Applies, Proper, AllProper, ProperAtom, ProperLiteral, an_equation, an_atom, a_truth}
use Rattle.finite_models.proofs.AboutFlattening.SlotLemmas.{values-below}
use Rattle.finite_models.proofs.AboutTables.NameLemmas.{width_in, entry-below}

length-of-slots : (first : ℕ) (ts : Trees) → length (terms_slots first ts) ≡ trees_count ts
length-of-slots first no_trees = refl
length-of-slots first (tree_then t ts) = omega (arith, length-of-slots (first + occurrences t) ts)

module _ (symbols : List Symbol) where
  -- the symbol is known, and there are as many slots as its entries have values
  abbrev pub Fits : FlatLiteral → Type 0
  Fits (Entry positive f slots) = (nat_lt f (length symbols) ≡ true) × (length slots ≡ width_in symbols f)
  Fits (Same positive x y) = Unit {0}
  Fits (Constant truth) = Unit {0}

  function-fits :
      (f slot first : ℕ) (positive : Bool) (ts : Trees)
      → Applies (use_of symbols) (length symbols) f ts → is_predicate_in symbols f ≡ false
      → Fits (Entry positive f (slot ∷ terms_slots first ts))
  function-fits f slot first positive ts a k = (
    a.is_known,
    sym (cond-false (is_predicate_in symbols f) (arity_in symbols f) (arity_in symbols f + 1) k
        ∙ omega (arith, a.arguments, length-of-slots first ts)),
  )

  mutual
    term-fits :
        (first : ℕ) (t : Tree) → Proper (use_of symbols) (length symbols) t → AllByRecursion Fits (term_literals first t)
    term-fits first (variable v) h = tt
    term-fits first (application f ts) h =
        each-joined Fits (terms_literals first ts) (Entry false f ((first + all_occurrences ts) ∷ terms_slots first ts) ∷ [])
        (terms-fit first ts h.2) (function-fits f (first + all_occurrences ts) first false ts h.0 h.1, tt)

    terms-fit :
        (first : ℕ) (ts : Trees) → AllProper (use_of symbols) (length symbols) ts → AllByRecursion Fits (terms_literals first ts)
    terms-fit first no_trees h = tt
    terms-fit first (tree_then t ts) h =
        each-joined Fits (term_literals first t) (terms_literals (first + occurrences t) ts) (term-fits first t h.0)
        (terms-fit (first + occurrences t) ts h.1)

  headed-fits :
      (first : ℕ) (positive : Bool) (f : ℕ) (ts : Trees) (other : Tree)
      → Proper (use_of symbols) (length symbols) (application f ts) → Proper (use_of symbols) (length symbols) other
      → AllByRecursion Fits (headed_literals first positive f ts other)
  headed-fits first positive f ts other h k =
      each-joined Fits (terms_literals first ts)
      (term_literals (first + all_occurrences ts) other ++ Entry positive f (term_slot (first + all_occurrences ts) other ∷ terms_slots first ts) ∷ [])
      (terms-fit first ts h.2)
      (each-joined Fits (term_literals (first + all_occurrences ts) other)
      (Entry positive f (term_slot (first + all_occurrences ts) other ∷ terms_slots first ts) ∷ [])
      (term-fits (first + all_occurrences ts) other k)
      (function-fits f (term_slot (first + all_occurrences ts) other) first positive ts h.0 h.1, tt))

  equation-fits :
      (first : ℕ) (positive : Bool) (s t : Tree)
      → Proper (use_of symbols) (length symbols) s → Proper (use_of symbols) (length symbols) t
      → AllByRecursion Fits (equation_literals first positive s t)
  equation-fits first positive (application f ts) t h k = headed-fits first positive f ts t h k
  equation-fits first positive (variable x) (application g us) h k = headed-fits first positive g us (variable x) k h
  equation-fits first positive (variable x) (variable y) h k = (tt, tt)

  atom-fits :
      (first : ℕ) (positive : Bool) (t : Tree)
      → ProperAtom (use_of symbols) (length symbols) t → AllByRecursion Fits (atom_literals first positive t)
  atom-fits first positive (variable v) h = absurd h
  atom-fits first positive (application f ts) h =
      subst (AllByRecursion Fits)
      (sym (cond-false (f == true_symbol) (Constant positive ∷ []) (terms_literals first ts ++ Entry positive f (terms_slots first ts) ∷ []) (h.0).not_truth))
      (each-joined Fits (terms_literals first ts) (Entry positive f (terms_slots first ts) ∷ []) (terms-fit first ts h.2) (
        (
          (h.0).is_known,
          length-of-slots first ts ∙ sym (h.0).arguments
              ∙ sym (cond-true (is_predicate_in symbols f) (arity_in symbols f) (arity_in symbols f + 1) h.1),
        ),
        tt,
      ))

  constant-fits : (first : ℕ) (positive : Bool) (t : Tree) → is_truth t ≡ true → AllByRecursion Fits (atom_literals first positive t)
  constant-fits first positive (variable v) h = (tt, tt)
  constant-fits first positive (application f ts) h =
      subst (AllByRecursion Fits)
      (sym (cond-true (f == true_symbol) (Constant positive ∷ []) (terms_literals first ts ++ Entry positive f (terms_slots first ts) ∷ []) (is-zero ts h)))
      (tt, tt)
    where
      is-zero : (us : Trees) → is_truth (application f us) ≡ true → (f == 0) ≡ true
      is-zero no_trees k = (and_parts (f == 0) true k).0
      is-zero (tree_then t us) k = (and_parts (f == 0) false k).0

  literal-fits :
      (first : ℕ) (l : TreeLiteral)
      → ProperLiteral (use_of symbols) (length symbols) l → AllByRecursion Fits (literal_flattened first l)
  literal-fits first l (an_equation t h k) =
      subst (AllByRecursion Fits)
      (sym (cond-false (is_truth l.right) (atom_literals first l.positive l.left) (equation_literals first l.positive l.left l.right) t))
      (equation-fits first l.positive l.left l.right h k)
  literal-fits first l (an_atom t h) =
      subst (AllByRecursion Fits)
      (sym (cond-true (is_truth l.right) (atom_literals first l.positive l.left) (equation_literals first l.positive l.left l.right) t))
      (atom-fits first l.positive l.left h)
  literal-fits first l (a_truth t h) =
      subst (AllByRecursion Fits)
      (sym (cond-true (is_truth l.right) (atom_literals first l.positive l.left) (equation_literals first l.positive l.left l.right) t))
      (constant-fits first l.positive l.left h)

  literals-fit :
      (first : ℕ) (ls : List TreeLiteral)
      → AllByRecursion (ProperLiteral (use_of symbols) (length symbols)) ls → AllByRecursion Fits (literals_flattened first ls)
  literals-fit first [] h = tt
  literals-fit first (l ∷ ls) h =
      each-joined Fits (literal_flattened first l) (literals_flattened (first + literal_slots l) ls) (literal-fits first l h.0)
      (literals-fit (first + literal_slots l) ls h.1)

  module _ (n : EntryNames) (are : AreEntryNames symbols n) (some : 1 ≤ n.size) where
    fits-under : (values : List ℕ) → AllByRecursion (λ v. v < n.size) values → (l : FlatLiteral) → Fits l → flat_fits n values l ≡ true
    fits-under values below (Entry positive f slots) h =
        and_from (nat_lt f (length n.firsts.items)) (nat_lt (entry_name n f (map (value_in values) slots)) n.count)
        (subst (λ k. nat_lt f k ≡ true) (sym are.symbols_are) h.0)
        (lt-ltb (entry_name n f (map (value_in values) slots)) n.count
        (entry-below symbols n are f (map (value_in values) slots) (ltb-true f (length symbols) h.0)
        (values-below n.size values slots some below) (length-map slots (value_in values) ∙ h.1)))
    fits-under values below (Same positive x y) h = refl
    fits-under values below (Constant truth) h = refl

    all-under :
        (values : List ℕ) → AllByRecursion (λ v. v < n.size) values
        → (ls : List FlatLiteral) → AllByRecursion Fits ls → list_all (flat_fits n values) ls ≡ true
    all-under values below [] h = refl
    all-under values below (l ∷ ls) h =
        and_from (flat_fits n values l) (list_all (flat_fits n values) ls) (fits-under values below l h.0) (all-under values below ls h.1)

    pub clause-fits :
        (c : TreeClause) → AllByRecursion (ProperLiteral (use_of symbols) (length symbols)) c.literals → ClauseFits n (flat_clause c)
    clause-fits c h number m =
        all-under (digits n.size (flat_clause c).slots number) (digits-below n.size (flat_clause c).slots number some m)
        (literals_flattened (variable_count c) c.literals) (literals-fit (variable_count c) c.literals h)
