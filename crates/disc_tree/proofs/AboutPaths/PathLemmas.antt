-- A path can be read along a query exactly where the two terms are compatible.
use Rattle.std.proofs.Common.{◌≡◌, ℕ, suc, ◌+◌, Bool, true, false, ◌&&◌, ◌==◌, List, [], ◌∷◌, ◌++◌, length, append-nil, append_assoc, refl, ap, sym, ◌∙◌, arith, ⊎_elim}
use Rattle.std.proofs.lemmas.Bool.{cases_Bool}
use Rattle.std.proofs.lemmas.Bool.Decides.{nat_tests}
use Rattle.fol_base.specs.Tree.{Tree, variable, application, Trees, no_trees, tree_then, trees_of, list_of}
use Rattle.fol_base.specs.Compatible.{compatible_by, all_compatible_by}
use Rattle.disc_tree.specs.declared.label.Label.{Label}
use Rattle.disc_tree.specs.declared.label.Label.TheVariants.{Symbol}
use Rattle.disc_tree.specs.Path.{path, paths, head, arguments, path_of_all, fits}

-- what stands against nothing is passed over
mutual
  pub fits-passed :
      (e q : Bool) (k : ℕ) (us : List Tree) (t : Tree) (p : List Label) → fits e q (suc k) us (path t ++ p) ≡ fits e q k us p
  fits-passed e q k us (variable v) p = refl
  fits-passed e q k us (application f ts) p = fits-all-passed e q k us ts p

  pub fits-all-passed :
      (e q : Bool) (k : ℕ) (us : List Tree) (ts : Trees) (p : List Label)
      → fits e q (length (list_of ts) + k) us (paths ts ++ p) ≡ fits e q k us p
  fits-all-passed e q k us no_trees p = ap (λ n. fits e q n us p) (omega arith)
  fits-all-passed e q k us (tree_then t ts) p =
      ap (λ n. fits e q n us ((path t ++ paths ts) ++ p)) (suc-plus (length (list_of ts)) k)
      ∙ ap (λ r. fits e q (suc (length (list_of ts) + k)) us r) (append_assoc (path t) (paths ts) p)
      ∙ fits-passed e q (length (list_of ts) + k) us t (paths ts ++ p) ∙ fits-all-passed e q k us ts p
    where
      suc-plus : (n k : ℕ) → suc n + k ≡ suc (n + k)
      suc-plus n k = omega arith

and-assoc : (a b c : Bool) → (a && (b && c)) ≡ ((a && b) && c)
and-assoc true b c = refl
and-assoc false b c = refl

pub compatible-lengths :
    (e q : Bool) (ts us : Trees) → (length (list_of ts) == length (list_of us)) ≡ false → all_compatible_by e q ts us ≡ false
compatible-lengths e q no_trees no_trees h = absurd (let wrong : true ≡ false = grind (arith, nat_tests) in cc)
compatible-lengths e q no_trees (tree_then u us) h = refl
compatible-lengths e q (tree_then t ts) no_trees h = refl
compatible-lengths e q (tree_then t ts) (tree_then u us) h =
    ap (λ b. compatible_by e q t u && b) (compatible-lengths e q ts us (grind (arith, nat_tests))) ∙ and_false (compatible_by e q t u)
  where
    and_false : (b : Bool) → (b && false) ≡ false
    and_false true = refl
    and_false false = refl

mutual
  pub fits-read :
      (e q : Bool) (t u : Tree) (us : List Tree) (p : List Label)
      → fits e q 0 (u ∷ us) (path t ++ p) ≡ (compatible_by e q t u && fits e q 0 us p)
  fits-read e q (variable v) (variable w) us p = refl
  fits-read e q (variable v) (application g vs) us p = refl
  fits-read e q (application f ts) (variable w) us p =
      ap (λ b. q && b)
      (ap (λ n. fits e q n us (paths ts ++ p)) (plus-zero (length (list_of ts))) ∙ fits-all-passed e q 0 us ts p)
    where
      plus-zero : (n : ℕ) → n ≡ n + 0
      plus-zero n = omega arith
  fits-read e q (application f ts) (application g vs) us p =
      ⊎_elim
      (λ same.
      ap (λ b. ((f == g) && b) && fits e q 0 (list_of vs ++ us) (paths ts ++ p)) same
      ∙ ap (λ b. b && fits e q 0 (list_of vs ++ us) (paths ts ++ p)) (and_true (f == g))
      ∙ ap (λ b. (f == g) && b) (fits-all-read e q ts vs us p same)
      ∙ and-assoc (f == g) (all_compatible_by e q ts vs) (fits e q 0 us p))
      (λ other.
      ap (λ b. ((f == g) && b) && fits e q 0 (list_of vs ++ us) (paths ts ++ p)) other
      ∙ ap (λ b. b && fits e q 0 (list_of vs ++ us) (paths ts ++ p)) (and_false (f == g))
      ∙ sym (ap (λ b. ((f == g) && b) && fits e q 0 us p) (compatible-lengths e q ts vs other) ∙ ap (λ b. b && fits e q 0 us p) (and_false (f == g))))
      (cases_Bool (length (list_of ts) == length (list_of vs)))
    where
      and_true : (b : Bool) → (b && true) ≡ b
      and_true true = refl
      and_true false = refl

      and_false : (b : Bool) → (b && false) ≡ false
      and_false true = refl
      and_false false = refl

  pub fits-all-read :
      (e q : Bool) (ts vs : Trees) (us : List Tree) (p : List Label)
      → (length (list_of ts) == length (list_of vs)) ≡ true
      → fits e q 0 (list_of vs ++ us) (paths ts ++ p) ≡ (all_compatible_by e q ts vs && fits e q 0 us p)
  fits-all-read e q no_trees no_trees us p h = refl
  fits-all-read e q no_trees (tree_then v vs) us p h = absurd (let wrong : true ≡ false = grind (arith, nat_tests) in cc)
  fits-all-read e q (tree_then t ts) no_trees us p h = absurd (let wrong : true ≡ false = grind (arith, nat_tests) in cc)
  fits-all-read e q (tree_then t ts) (tree_then v vs) us p h =
      ap (λ r. fits e q 0 (v ∷ (list_of vs ++ us)) r) (append_assoc (path t) (paths ts) p)
      ∙ fits-read e q t v (list_of vs ++ us) (paths ts ++ p)
      ∙ ap (λ b. compatible_by e q t v && b) (fits-all-read e q ts vs us p (grind (arith, nat_tests)))
      ∙ and-assoc (compatible_by e q t v) (all_compatible_by e q ts vs) (fits e q 0 us p)

pub fits-path : (e q : Bool) (t u : Tree) → fits e q 0 (u ∷ []) (path t) ≡ compatible_by e q t u
fits-path e q t u =
    ap (λ p. fits e q 0 (u ∷ []) p) (sym (append-nil (path t))) ∙ fits-read e q t u [] [] ∙ and_true (compatible_by e q t u)
  where
    and_true : (b : Bool) → (b && true) ≡ b
    and_true true = refl
    and_true false = refl

-- the path of terms is the head of the first, and then its arguments and the others
pub path-front : (t : Tree) (ts : List Tree) → path t ++ path_of_all ts ≡ head t ∷ path_of_all (arguments t ++ ts)
path-front (variable v) ts = refl
path-front (application f us) ts = ap (λ p. Symbol f (length (list_of us)) ∷ p) (all us ts)
  where
    all : (us : Trees) (ts : List Tree) → paths us ++ path_of_all ts ≡ path_of_all (list_of us ++ ts)
    all no_trees ts = refl
    all (tree_then u us) ts = append_assoc (path u) (paths us) (path_of_all ts) ∙ ap (λ p. path u ++ p) (all us ts)

-- lists of different lengths aren't compatible
pub lists-of-lengths :
    (e q : Bool) (ts us : List Tree)
    → (length ts ≡ length us → ⊥) → false ≡ all_compatible_by e q (trees_of ts) (trees_of us)
lists-of-lengths e q [] [] h = absurd (h refl)
lists-of-lengths e q [] (u ∷ us) h = refl
lists-of-lengths e q (t ∷ ts) [] h = refl
lists-of-lengths e q (t ∷ ts) (u ∷ us) h =
    and_false (compatible_by e q t u) ∙ ap (λ b. compatible_by e q t u && b) (lists-of-lengths e q ts us (λ n. h (ap suc n)))
  where
    and_false : (b : Bool) → false ≡ (b && false)
    and_false true = refl
    and_false false = refl
