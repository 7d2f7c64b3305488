-- Facts about look-ups of trees in lists of entries.
use Rattle.std.proofs.Common.{◌≡◌, ℕ, zero, suc, Bool, true, false, cond, List, [], ◌∷◌, ◌++◌, length, take, get_or, None, Some, is_some, refl, sym, ap, ◌∙◌, true≢false, arith, ◌<◌, if◌then◌else◌}
use Rattle.std.specs.Map.{lookup}
use Rattle.fol_base.specs.Tree.{Tree, variable, tree_eq}
use Rattle.fol_base.proofs.AboutTerms.TreeLemmas.{tree_eq-true, tree_eq-refl}
use Rattle.term_bank.specs.Entry.{interned, NoTreeTwice}

module _ {K X : Type 0} (test : K → Bool) where
  -- where nothing is found, neither the first entry nor a later one passes
  pub lookup-none : (e : K × X) (es : List (K × X)) → lookup test (e ∷ es) ≡ None → (test e.0 ≡ false) × (lookup test es ≡ None)
  lookup-none e es h = by (test e.0) h
    where
      by : (b : Bool) → cond b (Some e.1) (lookup test es) ≡ None → (b ≡ false) × (lookup test es ≡ None)
      by true found = absurd (true≢false (ap is_some found))
      by false rest = (refl, rest)

  -- behind entries that don't pass, one more decides
  pub lookup-push : (es : List (K × X)) (e : K × X) → lookup test es ≡ None → lookup test (es ++ e ∷ []) ≡ cond (test e.0) (Some e.1) None
  lookup-push [] e h = refl
  lookup-push (x ∷ es) e h =
      let both = lookup-none x es h in
      ap (λ b. cond b (Some x.1) (lookup test (es ++ e ∷ []))) both.0 ∙ lookup-push es e both.1

  -- one more that doesn't pass changes nothing
  pub lookup-past : (es : List (K × X)) (e : K × X) → test e.0 ≡ false → lookup test (es ++ e ∷ []) ≡ lookup test es
  lookup-past [] e h = ap (λ b. cond b (Some e.1) None) h
  lookup-past (x ∷ es) e h = ap (cond (test x.0) (Some x.1)) (lookup-past es e h)

  -- entries behind them change nothing for one that is found
  pub lookup-more : (es fs : List (K × X)) (x : X) → lookup test es ≡ Some x → lookup test (es ++ fs) ≡ Some x
  lookup-more [] fs x h = absurd (true≢false (sym (ap is_some h)))
  lookup-more (e ∷ es) fs x h = by (lookup-more es fs x) (test e.0) h
    where
      by : (lookup test es ≡ Some x → lookup test (es ++ fs) ≡ Some x)
          → (b : Bool) → cond b (Some e.1) (lookup test es) ≡ Some x → cond b (Some e.1) (lookup test (es ++ fs)) ≡ Some x
      by rest true found = found
      by rest false found = rest found

-- trees that differ do so either way round
apart : (t u : Tree) → tree_eq t u ≡ false → tree_eq u t ≡ false
apart t u h = by (tree_eq u t) refl
  where
    by : (b : Bool) → tree_eq u t ≡ b → b ≡ false
    by true same = absurd (true≢false (sym (tree_eq-refl t) ∙ ap (tree_eq t) (sym (tree_eq-true u t same)) ∙ h))
    by false differ = refl

-- a tree that isn't there can be added
pub NoTreeTwice-push : (es : List (Tree × ℕ)) (t : Tree) (n : ℕ) → NoTreeTwice es → lookup (tree_eq t) es ≡ None → NoTreeTwice (es ++ (t, n) ∷ [])
NoTreeTwice-push [] t n once h = (refl, tt)
NoTreeTwice-push (e ∷ es) t n once h =
    let both = lookup-none (tree_eq t) e es h in
    (lookup-push (tree_eq e.0) es (t, n) once.0 ∙ ap (λ b. cond b (Some n) None) (apart t e.0 both.0), NoTreeTwice-push es t n once.1 both.1)

-- a tree stands at no earlier place
pub not-before :
    (es : List (Tree × ℕ)) (i : ℕ) → i < length es → NoTreeTwice es
    → lookup (tree_eq (get_or es i (variable 0, 0)).0) (take i es) ≡ None
not-before [] i below once = absurd (omega arith)
not-before (e ∷ es) zero below once = refl
not-before (e ∷ es) (suc i) below once =
    let t : Tree = (get_or es i (variable 0, 0)).0 in
    ap (λ b. cond b (Some e.1) (lookup (tree_eq t) (take i es))) (apart e.0 t (absent es i (omega arith) once.0))
    ∙ not-before es i (omega arith) once.1
  where
    absent : (fs : List (Tree × ℕ)) (k : ℕ) → k < length fs → lookup (tree_eq e.0) fs ≡ None → tree_eq e.0 (get_or fs k (variable 0, 0)).0 ≡ false
    absent [] k less h = absurd (omega arith)
    absent (f ∷ fs) zero less h = (lookup-none (tree_eq e.0) f fs h).0
    absent (f ∷ fs) (suc k) less h = absent fs k (omega arith) (lookup-none (tree_eq e.0) f fs h).1

-- ---- a tree that is interned

pub interned-known : (es : List (Tree × ℕ)) (t : Tree) (n : ℕ) → lookup (tree_eq t) es ≡ Some n → es ≡ interned es t n
interned-known es t n h = ap (λ o. if is_some o then es else es ++ (t, n) ∷ []) (sym h)

pub interned-new : (es : List (Tree × ℕ)) (t : Tree) (n : ℕ) → lookup (tree_eq t) es ≡ None → es ++ (t, n) ∷ [] ≡ interned es t n
interned-new es t n h = ap (λ o. if is_some o then es else es ++ (t, n) ∷ []) (sym h)

-- the table then has the number
pub number-pushed : (es : List (Tree × ℕ)) (t : Tree) (n : ℕ) → lookup (tree_eq t) es ≡ None → lookup (tree_eq t) (es ++ (t, n) ∷ []) ≡ Some n
number-pushed es t n h = lookup-push (tree_eq t) es (t, n) h ∙ ap (λ b. cond b (Some n) None) (tree_eq-refl t)

-- a number that the table has stays
pub number-kept :
    (es fs : List (Tree × ℕ)) (t u : Tree) (n m : ℕ)
    → fs ≡ interned es t n → lookup (tree_eq u) es ≡ Some m → lookup (tree_eq u) fs ≡ Some m
number-kept es fs t u n m e h = ap (lookup (tree_eq u)) e ∙ by (is_some (lookup (tree_eq t) es))
  where
    by : (b : Bool) → lookup (tree_eq u) (if b then es else es ++ (t, n) ∷ []) ≡ Some m
    by true = h
    by false = lookup-more (tree_eq u) es ((t, n) ∷ []) m h
