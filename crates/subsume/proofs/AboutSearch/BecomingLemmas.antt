-- What turns terms into others turns each one into the one at its place.
use Rattle.std.proofs.Common.{◌≡◌, ◌⊎◌, inl, inr, ⊎_elim, ℕ, zero, suc, ◌<◌, false, ◌==◌, Some, List, [], ◌∷◌, length, map, get_or, refl, ap, sym, ◌∙◌, arith}
use Rattle.std.specs.Prelude.{unwrap_or}
use Rattle.std.proofs.lemmas.Bool.{cond-true, cond-false, cases_Bool, eqb-true, true≢false}
use Rattle.fol_base.specs.Tree.{Tree, variable, application, trees_of, list_of, tree_eq}
use Rattle.fol_base.specs.Instance.{Substitution, instance, instances}
use Rattle.fol_base.specs.Term.{tree_of}
use Rattle.fol_base.specs.declared.term.Term.{Term}
use Rattle.fol_base.proofs.AboutTerms.TreeLemmas.{list_of-trees_of, instances-trees_of, tree_eq-refl}
use Rattle.unifier.specs.Matching.{HasPairs, by_pairs, term_for}
use Rattle.unifier.proofs.AboutMatching.MatchLemmas.{Pairs}
use Rattle.subsume.specs.Choosing.{MayBecome}

-- the arguments of a term, where an instance of it is another one
pub arguments-become :
    (σ : Substitution) (f g : ℕ) (ts us : List Tree) (p q : Tree) (xs ys : List Term)
    → p ≡ application f (trees_of ts) → q ≡ application g (trees_of us) → map tree_of xs ≡ ts → map tree_of ys ≡ us
    → instance σ p ≡ q → map (instance σ) (map tree_of xs) ≡ map tree_of ys
arguments-become σ f g ts us p q xs ys e d k m h =
    let both : application f (instances σ (trees_of ts)) ≡ application g (trees_of us) = sym (ap (instance σ) e) ∙ h ∙ d in
    let rest : instances σ (trees_of ts) ≡ trees_of us = cc in
    ap (map (instance σ)) k
    ∙ sym (list_of-trees_of (map (instance σ) ts)) ∙ ap list_of (sym (instances-trees_of σ ts) ∙ rest) ∙ list_of-trees_of us ∙ sym m

-- ---- a variable with a pair

pairs-say : (ps : Pairs) (σ : Substitution) (v : ℕ) → HasPairs ps σ → (by_pairs ps v ≡ σ v) ⊎ (by_pairs ps v ≡ variable v)
pairs-say [] σ v h = inr refl
pairs-say (p ∷ ps) σ v h =
    ⊎_elim
    (λ same.
    inl (ap (λ o. unwrap_or o (variable v)) (cond-true (v == p.0) (Some p.1) (term_for v ps) same) ∙ sym h.0 ∙ ap σ (sym (eqb-true v p.0 same))))
    (λ other.
    let later : by_pairs (p ∷ ps) v ≡ by_pairs ps v = ap (λ o. unwrap_or o (variable v)) (cond-false (v == p.0) (Some p.1) (term_for v ps) other) in
    ⊎_elim (λ e. inl (later ∙ e)) (λ e. inr (later ∙ e)) (pairs-say ps σ v h.1))
    (cases_Bool (v == p.0))

-- it doesn't become another term than its own, unless it stands for itself
pub other-refused :
    (ps : Pairs) (v : ℕ) (pattern target term : Tree)
    → pattern ≡ variable v → term ≡ by_pairs ps v → tree_eq term target ≡ false → tree_eq term pattern ≡ false
    → MayBecome ps pattern target false
other-refused ps v pattern target term is own unlike no_self = λ σ has e.
    ⊎_elim
    (λ d.
    let same : term ≡ target = own ∙ d ∙ sym (ap (instance σ) is) ∙ e in
    absurd (true≢false (sym (tree_eq-refl term) ∙ ap (tree_eq term) same ∙ unlike)))
    (λ d.
    let same : term ≡ pattern = own ∙ d ∙ sym is in
    absurd (true≢false (sym (tree_eq-refl term) ∙ ap (tree_eq term) same ∙ no_self)))
    (pairs-say ps σ v has)

-- ---- each term of a list

pub item-becomes :
    (σ : Substitution) (xs ys : List Term) (i : ℕ) (x y : Term)
    → i < length xs → x ≡ get_or xs i x → i < length ys → y ≡ get_or ys i y
    → map (instance σ) (map tree_of xs) ≡ map tree_of ys → instance σ (tree_of x) ≡ tree_of y
item-becomes σ [] ys i x y h e k d all = absurd (omega arith)
item-becomes σ (z ∷ xs) [] i x y h e k d all = absurd (omega arith)
item-becomes σ (z ∷ xs) (w ∷ ys) zero x y h e k d all =
    let first : instance σ (tree_of z) ≡ tree_of w = cc in
    ap (λ t. instance σ (tree_of t)) e ∙ first ∙ ap tree_of (sym d)
item-becomes σ (z ∷ xs) (w ∷ ys) (suc i) x y h e k d all =
    let rest : map (instance σ) (map tree_of xs) ≡ map tree_of ys = cc in
    item-becomes σ xs ys i x y (omega arith) e (omega arith) d rest

pub lengths-become :
    (σ : Substitution) (xs ys : List Term) → map (instance σ) (map tree_of xs) ≡ map tree_of ys → length xs ≡ length ys
lengths-become σ [] [] e = refl
lengths-become σ [] (w ∷ ys) e = absurd cc
lengths-become σ (z ∷ xs) [] e = absurd cc
lengths-become σ (z ∷ xs) (w ∷ ys) e =
    let rest : map (instance σ) (map tree_of xs) ≡ map tree_of ys = cc in
    ap suc (lengths-become σ xs ys rest)
