-- General terms that are terms of formulas.
use Rattle.std.proofs.Common.{◌≡◌, ◌<◌, ◌≤◌, ◌+◌, ℕ, zero, suc, List, [], ◌∷◌, ◌++◌, map, drop, length, get_or, None, Some, Option, refl, sym, ap, ◌∙◌, arith}
use Rattle.tptp_tree.specs.Term.{TermTree, TermTrees, no_terms, terms_of}
use Rattle.tptp_source.specs.General.{tree_size, trees_size, trees_of}
use Rattle.tptp_source.specs.Shape.{tree_of}
use Rattle.tptp_source.specs.Items.{term_before, term_in, terms_in}
use Rattle.tptp_source.specs.declared.term.GeneralTerm.{GeneralTerm}
use Rattle.list_lemmas.proofs.Places.{drop-item}

-- ---- a member of a list is no larger than the list

tree-item : (ts : List GeneralTerm) (i : ℕ) (d : GeneralTerm) → i < length ts → tree_size (tree_of (get_or ts i d)) ≤ trees_size (trees_of (map tree_of ts))
tree-item [] i d h = absurd (omega arith)
tree-item (t ∷ ts) zero d h = omega arith
tree-item (t ∷ ts) (suc i) d h = omega (arith, tree-item ts i d (omega arith))

pub tree-item-is :
    (ts : List GeneralTerm) (i : ℕ) (t : GeneralTerm)
    → i < length ts → t ≡ get_or ts i t → tree_size (tree_of t) ≤ trees_size (trees_of (map tree_of ts))
tree-item-is ts i t h e = omega (arith, tree-item ts i t h, ap (λ u. tree_size (tree_of u)) e)

-- ---- the terms that were made, in front of those of the others

abbrev pub front_terms : List TermTree → Option TermTrees → Option TermTrees
front_terms [] ts = ts
front_terms (m ∷ ms) ts = term_before (Some m) (front_terms ms ts)

front-none : (ms : List TermTree) → front_terms ms None ≡ None
front-none [] = refl
front-none (m ∷ ms) = ap (term_before (Some m)) (front-none ms)

front-all : (ms : List TermTree) → front_terms ms (Some no_terms) ≡ Some (terms_of ms)
front-all [] = refl
front-all (m ∷ ms) = ap (term_before (Some m)) (front-all ms)

front-more : (ms : List TermTree) (t : TermTree) (ts : Option TermTrees) → front_terms (ms ++ t ∷ []) ts ≡ front_terms ms (term_before (Some t) ts)
front-more [] t ts = refl
front-more (m ∷ ms) t ts = ap (term_before (Some m)) (front-more ms t ts)

abbrev others_in : List GeneralTerm → ℕ → Option TermTrees
others_in ts i = terms_in (trees_of (map tree_of (drop i ts)))

next-in :
    (ts : List GeneralTerm) (i : ℕ) (t : GeneralTerm)
    → i < length ts → t ≡ get_or ts i t → others_in ts i ≡ term_before (term_in (tree_of t)) (others_in ts (i + 1))
next-in ts i t h e = ap (λ us. terms_in (trees_of (map tree_of us))) (drop-item ts i t h e)

pub terms-more :
    (ts : List GeneralTerm) (i : ℕ) (t : GeneralTerm) (m : TermTree) (ms more : List TermTree)
    → terms_in (trees_of (map tree_of ts)) ≡ front_terms ms (terms_in (trees_of (map tree_of (drop i ts))))
    → i < length ts → t ≡ get_or ts i t → Some m ≡ term_in (tree_of t) → more ≡ ms ++ m ∷ []
    → terms_in (trees_of (map tree_of ts)) ≡ front_terms more (terms_in (trees_of (map tree_of (drop (i + 1) ts))))
terms-more ts i t m ms more e h g f k =
    e ∙ ap (front_terms ms) (next-in ts i t h g) ∙ ap (λ o. front_terms ms (term_before o (others_in ts (i + 1)))) (sym f)
    ∙ sym (front-more ms m (others_in ts (i + 1))) ∙ ap (λ us. front_terms us (others_in ts (i + 1))) (sym k)

pub terms-none :
    (ts : List GeneralTerm) (i : ℕ) (t : GeneralTerm) (ms : List TermTree)
    → terms_in (trees_of (map tree_of ts)) ≡ front_terms ms (terms_in (trees_of (map tree_of (drop i ts))))
    → i < length ts → t ≡ get_or ts i t → None ≡ term_in (tree_of t)
    → (let o : Option TermTrees = None in o) ≡ terms_in (trees_of (map tree_of ts))
terms-none ts i t ms e h g f =
    sym (e ∙ ap (front_terms ms) (next-in ts i t h g) ∙ ap (λ o. front_terms ms (term_before o (others_in ts (i + 1)))) (sym f) ∙ front-none ms)

pub terms-all :
    (ts : List GeneralTerm) (i : ℕ) (ms : List TermTree)
    → terms_in (trees_of (map tree_of ts)) ≡ front_terms ms (terms_in (trees_of (map tree_of (drop i ts)))) → drop i ts ≡ []
    → Some (terms_of ms) ≡ terms_in (trees_of (map tree_of ts))
terms-all ts i ms e h =
    sym (e ∙ ap (λ us. front_terms ms (terms_in (trees_of (map tree_of us)))) h ∙ front-all ms)
