-- A clause with other numbers for its variables has the same canonical form.
use Rattle.std.proofs.Common.{◌≡◌, ℕ, suc, Bool, true, false, not, ◌==◌, Option, None, Some, List, [], ◌∷◌, ◌++◌, map, refl, ap, ap₂, sym, ◌∙◌, subst, ⊎_elim}
use Rattle.std.specs.Prelude.{filter, flat_map, unwrap_or, option_map, is_some, if◌then◌else◌}
use Rattle.std.proofs.lemmas.Bool.{cond-true, cond-false, cases_Bool, eqb-true, eq-eqb, true≢false}
use Rattle.std.proofs.lemmas.List.{map-append}
use Rattle.fol_base.specs.Tree.{Tree, variable, application, Trees, no_trees, tree_then, tree_variables, trees_variables}
use Rattle.fol_base.specs.Instance.{instance, instances}
use Rattle.fol_base.specs.InstanceLaws.{after}
use Rattle.fol_base.specs.Clause.{TreeLiteral, literal_variables}
use Rattle.fol_base.specs.Ground.{literals_instance}
use Rattle.fol_base.specs.Canonical.{distinct, place_of, renaming}
use Rattle.fol_base.proofs.AboutCanonical.CanonicalLemmas.{number_in, literals_variables-renamed}
use Rattle.fol_base.proofs.AboutInstances.InstanceLemmas.{Agree, literals_instance-again, literals-agree}
use Rattle.eq_rules.proofs.AboutConclusions.WideLemmas.{Has, numbered, literals_back}

-- ---- different variables have different numbers

-- the variable of a number
back : (order : List ℕ) (v : ℕ) → is_some (place_of v order) ≡ true → numbered order (number_in order v) ≡ variable v
back order v has =
    let mark : TreeLiteral = record { positive = true; left = variable v; right = variable v } in
    ap first_left (literals_back order (mark ∷ []) (has, (has, tt)))
  where
    first_left : List TreeLiteral → Tree
    first_left [] = variable 0
    first_left (l ∷ ls) = l.left

variable-of : (v w : ℕ) → variable v ≡ variable w → v ≡ w
variable-of v w h = cc

same-number :
    (order : List ℕ) (v w : ℕ) → is_some (place_of v order) ≡ true → is_some (place_of w order) ≡ true
    → (number_in order v == number_in order w) ≡ (v == w)
same-number order v w has_v has_w =
    ⊎_elim
    (λ same.
    eq-eqb (number_in order v) (number_in order w) (ap (number_in order) (eqb-true v w same)) ∙ sym same)
    (λ differ.
    ⊎_elim
    (λ numbers.
    let is : v ≡ w =
    variable-of v w
    (sym (back order v has_v) ∙ ap (numbered order) (eqb-true (number_in order v) (number_in order w) numbers) ∙ back order w has_w) in
    absurd (true≢false (sym (eq-eqb v w is) ∙ differ)))
    (λ numbers. numbers ∙ sym differ)
    (cases_Bool (number_in order v == number_in order w)))
    (cases_Bool (v == w))

-- ---- lists of different variables

filter-has : (order vs : List ℕ) (p : ℕ → Bool) → Has order vs → Has order (filter p vs)
filter-has order [] p h = tt
filter-has order (v ∷ vs) p h =
    ⊎_elim
    (λ kept. subst (Has order) (sym (cond-true (p v) (v ∷ filter p vs) (filter p vs) kept)) (h.0, filter-has order vs p h.1))
    (λ gone. subst (Has order) (sym (cond-false (p v) (v ∷ filter p vs) (filter p vs) gone)) (filter-has order vs p h.1))
    (cases_Bool (p v))

distinct-has : (order vs : List ℕ) → Has order vs → Has order (distinct vs)
distinct-has order [] h = tt
distinct-has order (v ∷ vs) h = (h.0, filter-has order (distinct vs) (λ w. not (w == v)) (distinct-has order vs h.1))

filter-mapped :
    (order : List ℕ) (v : ℕ) (ws : List ℕ) → is_some (place_of v order) ≡ true → Has order ws
    → filter (λ u. not (u == number_in order v)) (map (number_in order) ws) ≡ map (number_in order) (filter (λ u. not (u == v)) ws)
filter-mapped order v [] has all = refl
filter-mapped order v (w ∷ ws) has all =
    ap (λ b. if not b then number_in order w ∷ rest else rest) (same-number order w v all.0 has)
    ∙ ap (λ ns. if not (w == v) then number_in order w ∷ ns else ns) (filter-mapped order v ws has all.1)
    ∙ either (not (w == v))
  where
    rest : List ℕ
    rest = filter (λ u. not (u == number_in order v)) (map (number_in order) ws)

    either :
        (b : Bool)
        → (if b then number_in order w ∷ map (number_in order) (filter (λ u. not (u == v)) ws) else map (number_in order) (filter (λ u. not (u == v)) ws))
        ≡ map (number_in order) (if b then w ∷ filter (λ u. not (u == v)) ws else filter (λ u. not (u == v)) ws)
    either true = refl
    either false = refl

distinct-mapped : (order vs : List ℕ) → Has order vs → distinct (map (number_in order) vs) ≡ map (number_in order) (distinct vs)
distinct-mapped order [] all = refl
distinct-mapped order (v ∷ vs) all =
    ap (λ ns. number_in order v ∷ ns)
    (ap (filter (λ u. not (u == number_in order v))) (distinct-mapped order vs all.1)
    ∙ filter-mapped order v (distinct vs) all.0 (distinct-has order vs all.1))

place-mapped :
    (order : List ℕ) (v : ℕ) (ws : List ℕ) → is_some (place_of v order) ≡ true → Has order ws
    → place_of (number_in order v) (map (number_in order) ws) ≡ place_of v ws
place-mapped order v [] has all = refl
place-mapped order v (w ∷ ws) has all =
    ap (λ b. if b then Some 0 else option_map suc (place_of (number_in order v) (map (number_in order) ws))) (same-number order v w has all.0)
    ∙ ap (λ o. if v == w then Some 0 else option_map suc o) (place-mapped order v ws has all.1)

-- ---- the canonical form

listed-place : (v : ℕ) (ws : List ℕ) (n : ℕ) → is_some (place_of v ws) ≡ true → unwrap_or (place_of v ws) n ≡ unwrap_or (place_of v ws) v
listed-place v ws n h = same (place_of v ws) h
  where
    same : (o : Option ℕ) → is_some o ≡ true → unwrap_or o n ≡ unwrap_or o v
    same None e = absurd (true≢false (sym e))
    same (Some k) e = refl

agree :
    (order vs us : List ℕ) → Has order us → Has (distinct vs) us → Has order vs
    → Agree (after (renaming (distinct (map (number_in order) vs))) (renaming order)) (renaming (distinct vs)) us
agree order vs [] all listed has = tt
agree order vs (u ∷ us) all listed has = (
  ap variable
      (ap (λ o. unwrap_or o (number_in order u))
      (ap (place_of (number_in order u)) (distinct-mapped order vs has)
      ∙ place-mapped order u (distinct vs) all.0 (distinct-has order vs has))
      ∙ listed-place u (distinct vs) (number_in order u) listed.0),
  agree order vs us all.1 listed.1 has,
)

pub canonical-renamed :
    (order : List ℕ) (ls : List TreeLiteral) → Has order (flat_map literal_variables ls)
    → Has (distinct (flat_map literal_variables ls)) (flat_map literal_variables ls)
    → literals_instance (renaming (distinct (flat_map literal_variables (literals_instance (renaming order) ls)))) (literals_instance (renaming order) ls)
    ≡ literals_instance (renaming (distinct (flat_map literal_variables ls))) ls
canonical-renamed order ls has listed =
    let vs : List ℕ = flat_map literal_variables ls in
    ap (λ ns. literals_instance (renaming (distinct ns)) (literals_instance (renaming order) ls)) (literals_variables-renamed order ls)
    ∙ literals_instance-again (renaming (distinct (map (number_in order) vs))) (renaming order) ls
    ∙ literals-agree (after (renaming (distinct (map (number_in order) vs))) (renaming order)) (renaming (distinct vs)) ls
    (agree order vs vs has listed has)
