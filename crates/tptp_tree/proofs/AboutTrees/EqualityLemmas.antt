-- Formulas are the same exactly where they are equal.
use Rattle.std.proofs.Common.{◌≡◌, ℕ, suc, true, false, ◌&&◌, ◌↔◌, List, [], ◌∷◌, length, refl, ap, ap₂, sym, ◌∙◌, subst}
use Rattle.std.specs.Prelude.{bytes_eq, IsTrue}
use Rattle.std.proofs.lemmas.Bool.{and_parts, and_from, false≢true}
use Rattle.tptp_tree.specs.Term.{TermTree, variable, application, TermTrees, no_terms, term_then, terms_of}
use Rattle.tptp_tree.specs.Formula.{FormulaTree, formulas_of}
use Rattle.tptp_tree.specs.Codes.{encoded, decoded, decoded-formula, text_terms, encoded_formulas}
use Rattle.tptp_tree.specs.Equality.{same_term, same_terms, same_formula}
use Rattle.list_lemmas.proofs.Bools.{false-and}
use Rattle.list_lemmas.proofs.Lists.{bytes-self, bytes-same}

-- ---- terms

mutual
  pub term-same : (t u : TermTree) → same_term t u ≡ true → t ≡ u
  term-same (variable x) (variable y) h = ap variable (bytes-same x y h)
  term-same (variable x) (application g us) h = absurd (false≢true h)
  term-same (application f ts) (variable y) h = absurd (false≢true h)
  term-same (application f ts) (application g us) h =
      let parts = and_parts (bytes_eq f g) (same_terms ts us) h in ap₂ application (bytes-same f g parts.0) (terms-same ts us parts.1)

  pub terms-same : (ts us : TermTrees) → same_terms ts us ≡ true → ts ≡ us
  terms-same no_terms no_terms h = refl
  terms-same no_terms (term_then u us) h = absurd (false≢true h)
  terms-same (term_then t ts) no_terms h = absurd (false≢true h)
  terms-same (term_then t ts) (term_then u us) h =
      let parts = and_parts (same_term t u) (same_terms ts us) h in ap₂ term_then (term-same t u parts.0) (terms-same ts us parts.1)

mutual
  pub term-self : (t : TermTree) → same_term t t ≡ true
  term-self (variable x) = bytes-self x
  term-self (application f ts) = and_from (bytes_eq f f) (same_terms ts ts) (bytes-self f) (terms-self ts)

  pub terms-self : (ts : TermTrees) → same_terms ts ts ≡ true
  terms-self no_terms = refl
  terms-self (term_then t ts) = and_from (same_term t t) (same_terms ts ts) (term-self t) (terms-self ts)

-- ---- formulas

pub formula-self : (f : FormulaTree) → same_formula f f ≡ true
formula-self f = term-self (encoded f)

pub formula-same : (f g : FormulaTree) → same_formula f g ≡ true → f ≡ g
formula-same f g h = sym (decoded-formula f) ∙ ap decoded (term-same (encoded f) (encoded g) h) ∙ decoded-formula g

pub formulas-equal : (f g : FormulaTree) → IsTrue (same_formula f g) ↔ (f ≡ g)
formulas-equal f g = (formula-same f g, λ e. subst (λ h. IsTrue (same_formula f h)) e (formula-self f))

-- ---- lists of different lengths

pub terms-lengths : (ts us : List TermTree) → (length ts ≡ length us → ⊥) → false ≡ same_terms (terms_of ts) (terms_of us)
terms-lengths [] [] h = absurd (h refl)
terms-lengths [] (u ∷ us) h = refl
terms-lengths (t ∷ ts) [] h = refl
terms-lengths (t ∷ ts) (u ∷ us) h =
    false-and (same_term t u) ∙ ap (λ b. same_term t u && b) (terms-lengths ts us (λ e. h (ap suc e)))

pub names-lengths : (xs ys : List (List ℕ)) → (length xs ≡ length ys → ⊥) → false ≡ same_terms (text_terms xs) (text_terms ys)
names-lengths [] [] h = absurd (h refl)
names-lengths [] (y ∷ ys) h = refl
names-lengths (x ∷ xs) [] h = refl
names-lengths (x ∷ xs) (y ∷ ys) h =
    false-and (bytes_eq x y) ∙ ap (λ b. bytes_eq x y && b) (names-lengths xs ys (λ e. h (ap suc e)))

pub formulas-lengths :
    (fs gs : List FormulaTree)
    → (length fs ≡ length gs → ⊥) → false ≡ same_terms (encoded_formulas (formulas_of fs)) (encoded_formulas (formulas_of gs))
formulas-lengths [] [] h = absurd (h refl)
formulas-lengths [] (g ∷ gs) h = refl
formulas-lengths (f ∷ fs) [] h = refl
formulas-lengths (f ∷ fs) (g ∷ gs) h =
    false-and (same_term (encoded f) (encoded g))
    ∙ ap (λ b. same_term (encoded f) (encoded g) && b) (formulas-lengths fs gs (λ e. h (ap suc e)))
