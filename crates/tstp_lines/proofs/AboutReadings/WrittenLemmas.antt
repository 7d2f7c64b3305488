-- The literals of a formula, as a walk over them reads them.
use Rattle.std.proofs.Common.{◌≡◌, ℕ, ◌+◌, ◌<◌, ◌≤◌, Bool, true, false, ◌&&◌, List, [], ◌∷◌, length, map, drop, get_or, refl, ap, sym, ◌∙◌}
use Rattle.std.specs.Prelude.{Option, None, Some, is_some, filter_map, if◌then◌else◌}
use Rattle.std.specs.List.{list_all, cons_option}
use Rattle.std.proofs.lemmas.Bool.{and_parts}
use Rattle.plain_types.specs.declared.sequence.NameLit.{NameLit}
use Rattle.tptp_tree.specs.Term.{TermTree, terms_of}
use Rattle.tptp_tree.specs.Formula.{FormulaTree, predicate, list_of_formulas, formulas_of}
use Rattle.tptp_tree.specs.Shape.{formula_of}
use Rattle.tptp_tree.specs.declared.formula.Formula.{Formula}
use Rattle.kernel_steps.specs.Names.{name_before, are_sorted}
use Rattle.clausal_form.specs.DerivationClause.{literals_of, is_literal, atom_name, literal_name, names_come_last, is_written_clause}
use Rattle.tstp_lines.specs.Written.{may_follow}
use Rattle.list_lemmas.proofs.Places.{drop-item, drop-all}

pub listed-formulas : (fs : List FormulaTree) → list_of_formulas (formulas_of fs) ≡ fs
listed-formulas [] = refl
listed-formulas (f ∷ fs) = ap (λ gs. f ∷ gs) (listed-formulas fs)

-- a predicate with arguments is no name
pub no-name : (names : List (List ℕ)) (p : List ℕ) (ts : List TermTree) → (ts ≡ [] → false ≡ true) → None ≡ atom_name names (predicate p (terms_of ts))
no-name names p [] h = let f : false ≡ true = h refl in cc
no-name names p (t ∷ ts) h = refl

-- ---- whether the literals that are left are written as they have to be, behind one that is a name or none

abbrev pub rest_written : List (List ℕ) → Option NameLit → List FormulaTree → Bool
rest_written names None fs = list_all is_literal fs && (names_come_last names fs && are_sorted (filter_map (literal_name names) fs))
rest_written names (Some m) fs =
    list_all is_literal fs && (list_all (λ f. is_some (literal_name names f)) fs && are_sorted (m ∷ filter_map (literal_name names) fs))

nothing-left : (names : List (List ℕ)) (last : Option NameLit) → true ≡ rest_written names last []
nothing-left names None = refl
nothing-left names (Some m) = refl

literal-first : (a l k : Bool) → ((a && l) && k) ≡ (a && (l && k))
literal-first true l k = refl
literal-first false l k = refl

order-second : (a b l k s : Bool) → ((a && l) && (k && (b && s))) ≡ (a && (b && (l && (k && s))))
order-second true true l k s = refl
order-second true false true true s = refl
order-second true false true false s = refl
order-second true false false k s = refl
order-second false b l k s = refl

never : (a l n s : Bool) → ((a && l) && ((false && n) && s)) ≡ (a && false)
never true true n s = refl
never true false n s = refl
never false l n s = refl

one-more :
    (names : List (List ℕ)) (last : Option NameLit) (f : FormulaTree) (fs : List FormulaTree)
    → rest_written names last (f ∷ fs) ≡ (is_literal f && (may_follow last (literal_name names f) && rest_written names (literal_name names f) fs))
one-more names last f fs = unfolded last ∙ by last (literal_name names f)
  where
    rest : List NameLit
    rest = filter_map (literal_name names) fs

    named : Bool
    named = list_all (λ g. is_some (literal_name names g)) fs

    behind : Option NameLit → Option NameLit → Bool
    behind None o =
        (is_literal f && list_all is_literal fs)
        && ((if is_some o then named else names_come_last names fs) && are_sorted (cons_option o rest))
    behind (Some m) o = (is_literal f && list_all is_literal fs) && ((is_some o && named) && are_sorted (m ∷ cons_option o rest))

    unfolded : (l : Option NameLit) → rest_written names l (f ∷ fs) ≡ behind l (literal_name names f)
    unfolded None = refl
    unfolded (Some m) = refl

    by : (l o : Option NameLit) → behind l o ≡ (is_literal f && (may_follow l o && rest_written names o fs))
    by None None = literal-first (is_literal f) (list_all is_literal fs) (names_come_last names fs && are_sorted rest)
    by None (Some n) = literal-first (is_literal f) (list_all is_literal fs) (named && are_sorted (n ∷ rest))
    by (Some m) None = never (is_literal f) (list_all is_literal fs) named (are_sorted (m ∷ rest))
    by (Some m) (Some n) = order-second (is_literal f) (name_before m n) (list_all is_literal fs) named (are_sorted (n ∷ rest))

-- ---- the walk

abbrev pub written_from : List (List ℕ) → Option NameLit → List Formula → ℕ → Bool
written_from names last fs i = rest_written names last (map formula_of (drop i fs))

pub written-begins : (names : List (List ℕ)) (f : Formula) (fs : List Formula) → map formula_of fs ≡ literals_of (formula_of f) → written_from names None fs 0 ≡ is_written_clause names (formula_of f)
written-begins names f fs e = ap (rest_written names None) e

pub written-ends :
    (names : List (List ℕ)) (last : Option NameLit) (fs : List Formula) (i : ℕ) (whole : Bool)
    → length fs ≤ i → written_from names last fs i ≡ whole → true ≡ whole
written-ends names last fs i whole h w =
    nothing-left names last ∙ ap (λ gs. rest_written names last (map formula_of gs)) (sym (drop-all fs i h)) ∙ w

first-is :
    (names : List (List ℕ)) (last next : Option NameLit) (fs : List Formula) (i : ℕ) (f : Formula) (whole : Bool)
    → i < length fs → f ≡ get_or fs i f → next ≡ literal_name names (formula_of f) → written_from names last fs i ≡ whole
    → (is_literal (formula_of f) && (may_follow last next && written_from names next fs (i + 1))) ≡ whole
first-is names last next fs i f whole h e n w =
    ap (λ o. is_literal (formula_of f) && (may_follow last o && written_from names o fs (i + 1))) n
    ∙ sym (one-more names last (formula_of f) (map formula_of (drop (i + 1) fs)))
    ∙ ap (λ gs. rest_written names last (map formula_of gs)) (sym (drop-item fs i f h e)) ∙ w

pub written-goes :
    (names : List (List ℕ)) (last next : Option NameLit) (fs : List Formula) (i : ℕ) (f : Formula) (whole : Bool)
    → i < length fs → f ≡ get_or fs i f → next ≡ literal_name names (formula_of f)
    → true ≡ is_literal (formula_of f) → true ≡ may_follow last next
    → written_from names last fs i ≡ whole → written_from names next fs (i + 1) ≡ whole
written-goes names last next fs i f whole h e n a b w =
    ap (λ x. x && (true && written_from names next fs (i + 1))) a
    ∙ ap (λ x. is_literal (formula_of f) && (x && written_from names next fs (i + 1))) b
    ∙ first-is names last next fs i f whole h e n w

pub written-not-literal :
    (names : List (List ℕ)) (last next : Option NameLit) (fs : List Formula) (i : ℕ) (f : Formula) (whole : Bool)
    → i < length fs → f ≡ get_or fs i f → next ≡ literal_name names (formula_of f)
    → false ≡ is_literal (formula_of f) → written_from names last fs i ≡ whole → false ≡ whole
written-not-literal names last next fs i f whole h e n a w =
    ap (λ x. x && (may_follow last next && written_from names next fs (i + 1))) a ∙ first-is names last next fs i f whole h e n w

pub written-not-after :
    (names : List (List ℕ)) (last next : Option NameLit) (fs : List Formula) (i : ℕ) (f : Formula) (whole : Bool)
    → i < length fs → f ≡ get_or fs i f → next ≡ literal_name names (formula_of f)
    → false ≡ may_follow last next → written_from names last fs i ≡ whole → false ≡ whole
written-not-after names last next fs i f whole h e n b w =
    turned (is_literal (formula_of f))
    ∙ ap (λ x. is_literal (formula_of f) && (x && written_from names next fs (i + 1))) b
    ∙ first-is names last next fs i f whole h e n w
  where
    turned : (a : Bool) → false ≡ (a && false)
    turned true = refl
    turned false = refl

-- what is written as a clause has literals alone
pub written-literals :
    (names : List (List ℕ)) (f : FormulaTree) (fs : List FormulaTree)
    → is_written_clause names f ≡ true → fs ≡ literals_of f → list_all is_literal fs ≡ true
written-literals names f fs h e = ap (list_all is_literal) e ∙ (and_parts (list_all is_literal (literals_of f)) _ h).0
