-- The search of a term, from the inside out.
use Rattle.std.proofs.Common.{◌≡◌, ℕ, zero, suc, ◌+◌, ◌<◌, ◌≤◌, Bool, true, false, List, [], ◌∷◌, ◌++◌, length, map, take, ◌-◌, length-append, refl, ap, ap₂, sym, ◌∙◌, subst, ⊎_elim, ◌⊎◌, inl, inr, arith, get_or, append_assoc, append-nil}
use Rattle.std.proofs.Math.Seq.{take-append_seam}
use Rattle.std.specs.Prelude.{Option, None, Some, slice_get, option_and_then, ◌&&◌, if◌then◌else◌}
use Rattle.std.proofs.lemmas.Bool.{true≢false}
use Rattle.std.proofs.lemmas.Option.{none-some, same_Some}
use Rattle.fol_base.specs.Term.{tree_of}
use Rattle.fol_base.specs.declared.term.Term.{Term}
use Rattle.fol_base.specs.Tree.{Tree, variable, application, Trees, trees_of, list_of, tree_size, is_variable}
use Rattle.fol_base.specs.Instance.{instance}
use Rattle.fol_base.specs.Place.{subterm}
use Rattle.fol_base.specs.Clause.{TreeLiteral, TreeClause}
use Rattle.fol_base.specs.Sides.{side_of, other_side_of}
use Rattle.fol_base.proofs.AboutTerms.TreeLemmas.{tree_size-positive, list_of-trees_of}
use Rattle.kbo_order.proofs.AboutReading.HeadLemmas.{smaller-not_greater, low_head-not_greater}
use Rattle.disc_tree.specs.Entries.{IsIn}
use Rattle.disc_tree.proofs.AboutChanges.EditLemmas.{is_in-append}
use Rattle.bank_clause.specs.Clause.{clause_at, side_number}
use Rattle.bank_clause.specs.declared.clause.BankClause.{BankClause}
use Rattle.bank_clause.specs.declared.member.Member.{Member}
use Rattle.fol_base.specs.Subsumption.{assertions, is_among}
use Rattle.disc_tree.proofs.AboutQueries.UnifierLemmas.{generalisation-compatible}
use Rattle.rewriting.proofs.AboutSearches.TryLemmas.{redex-may}
use Rattle.rewriting.specs.Units.{HasCandidates, usable, usable_clause, clause_numbered, is_kept}
use Rattle.rewriting.specs.Redex.{Spot, spot_at, inner, root_spot, HasRedex, IsNormal, IsNormalLiteral}
use Rattle.rewriting.specs.Searching.{IsPlaced, IsFoundIn, IsFoundInSome, IsFoundAt, IsFoundAtSide, IsFoundOf, IsFoundOfLiteral, IsFoundOfSide, IsRewrite, NotBy}
use Rattle.rewriting.specs.declared.searching.Rewrite.{Rewrite}
use Rattle.rewriting.specs.declared.searching.Found.{Found}
use Rattle.fol_base.specs.declared.clause.Side.{Side}
use Rattle.fol_base.specs.declared.clause.Side.TheVariants.{Left, Right}
use Rattle.fol_base.specs.declared.clause.Literal.{Literal}
use Rattle.fol_base.specs.Literal.{literal_of}
use Rattle.list_lemmas.proofs.Numbers.{below-or-same}

-- ---- one term

-- a variable has no redex
pub variable-no_redex : (clauses : ℕ → Option TreeClause) (spot : Spot) (v : ℕ) → HasRedex clauses spot (variable v) → ⊥
variable-no_redex clauses spot v h =
    let new : Tree = instance h.matcher (other_side_of h.side h.equation) in
    let positive = tree_size-positive new in
    ⊎_elim
    (λ (big : 1 < tree_size new). true≢false (sym h.redex.greater ∙ sym (smaller-not_greater (variable v) new big)))
    (λ (equal : 1 ≡ tree_size new). true≢false (sym h.redex.greater ∙ sym (low_head-not_greater (variable v) new equal refl)))
    (above-or (tree_size new) positive)
  where
    above-or : (n : ℕ) → 1 ≤ n → (1 < n) ⊎ (1 ≡ n)
    above-or zero h = absurd (omega arith)
    above-or (suc zero) h = inr refl
    above-or (suc (suc n)) h = inl (omega arith)

usable-same :
    (out : Option ℕ) (names : List ℕ) (n : ℕ) (c : BankClause) (d : TreeClause) → usable_clause out names n c ≡ Some d → clause_at c ≡ d
usable-same out names n c d h = same (is_kept out n && is_among (assertions (clause_at c).names) names) h
  where
    same : (b : Bool) → (if b then Some (clause_at c) else None) ≡ Some d → clause_at c ≡ d
    same true e = same_Some (clause_at c) d e
    same false e = absurd (none-some d e)

pub usable-from :
    (ms : List Member) (out : Option ℕ) (names : List ℕ) (n : ℕ) (d : TreeClause) → usable ms out names n ≡ Some d
    → (c : BankClause) × (clause_numbered n ms ≡ Some c) × (clause_at c ≡ d)
usable-from ms out names n d h = from (clause_numbered n ms) refl h
  where
    from :
        (o : Option BankClause) → clause_numbered n ms ≡ o → option_and_then (usable_clause out names n) o ≡ Some d
        → (c : BankClause) × (clause_numbered n ms ≡ Some c) × (clause_at c ≡ d)
    from None is h = absurd (none-some d h)
    from (Some c) is h = (c, is, usable-same out names n c d h)

-- no entry that was found gives a redex, so there is none
pub none-found :
    (ms : List Member) (out : Option ℕ) (names : List ℕ) (spot : Spot) (old : Tree) (numbers : List ℕ)
    → HasCandidates ms old numbers
    → ((x : ℕ) → IsIn x numbers → NotBy (usable ms out names) spot old x)
    → HasRedex (usable ms out names) spot old → ⊥
none-found ms out names spot old numbers all none h =
    let unit = usable-from ms out names h.number h.unit h.there in
    none (side_number h.number h.side)
    (all h.number unit.0 h.equation h.side unit.1
    (ap (λ (d : TreeClause). d.literals) unit.2 ∙ h.alone) (redex-may h.equation h.side spot old h.matcher h.redex)
    (generalisation-compatible (side_of h.side h.equation) old h.matcher h.redex.matches))
    h refl

pub one-more-tried :
    (P : ℕ → Type 0) (xs : List ℕ) (i x : ℕ) → take (i + 1) xs ≡ take i xs ++ x ∷ []
    → ((y : ℕ) → IsIn y (take i xs) → P y) → P x → (y : ℕ) → IsIn y (take (i + 1) xs) → P y
one-more-tried P xs i x more before now y there =
    ⊎_elim
    (λ early. before y early)
    (λ last. ⊎_elim (λ same. subst P (sym same) now) (λ none. absurd none) last)
    (is_in-append y (take i xs) (x ∷ []) (subst (IsIn y) more there))

-- ---- places

spot-inner : (place : List ℕ) → spot_at inner place ≡ inner
spot-inner [] = refl
spot-inner (i ∷ place) = refl

below-argument :
    (clauses : ℕ → Option TreeClause) (ts : Trees)
    → ((i : ℕ) (t : Tree) → slice_get (list_of ts) i ≡ Some t → IsNormal clauses inner t)
    → (i : ℕ) (place : List ℕ) (old : Tree) (o : Option Tree)
    → slice_get (list_of ts) i ≡ o → option_and_then (subterm place) o ≡ Some old → HasRedex clauses inner old → ⊥
below-argument clauses ts below i place old None is there = absurd (none-some old there)
below-argument clauses ts below i place old (Some t) is there =
    λ h. below i t is place old there (subst (λ s. HasRedex clauses s old) (sym (spot-inner place)) h)

-- a term is normal where its arguments are and it has no redex itself
pub application-normal :
    (clauses : ℕ → Option TreeClause) (spot : Spot) (f : ℕ) (ts : Trees)
    → ((i : ℕ) (t : Tree) → slice_get (list_of ts) i ≡ Some t → IsNormal clauses inner t)
    → (HasRedex clauses spot (application f ts) → ⊥)
    → IsNormal clauses spot (application f ts)
application-normal clauses spot f ts below root [] old there h =
    root (subst (λ t. HasRedex clauses spot t) (sym (same_Some (application f ts) old there)) h)
application-normal clauses spot f ts below root (i ∷ place) old there h =
    below-argument clauses ts below i place old (slice_get (list_of ts) i) refl there h

pub variable-normal : (clauses : ℕ → Option TreeClause) (spot : Spot) (v : ℕ) → IsNormal clauses spot (variable v)
variable-normal clauses spot v [] old there h =
    variable-no_redex clauses spot v (subst (λ t. HasRedex clauses spot t) (sym (same_Some (variable v) old there)) h)
variable-normal clauses spot v (i ∷ place) old there h = none-some old there

-- a redex of an argument is one of the term
pub placed-below :
    (clauses : ℕ → Option TreeClause) (spot : Spot) (f : ℕ) (ts : Trees) (before path : List ℕ) (r : Rewrite) (i : ℕ) (t : Tree)
    → slice_get (list_of ts) i ≡ Some t → IsPlaced clauses inner t (before ++ i ∷ []) path r
    → IsPlaced clauses spot (application f ts) before path r
placed-below clauses spot f ts before path r i t at p = record {
  place = i ∷ p.place;
  path_is = p.path_is ∙ append_assoc before (i ∷ []) p.place;
  old = p.old;
  old_there = ap (option_and_then (subterm p.place)) at ∙ p.old_there;
  rewrite = subst (λ s. IsRewrite clauses s p.old r) (spot-inner p.place) p.rewrite;
}

pub placed-here :
    (clauses : ℕ → Option TreeClause) (spot : Spot) (t : Tree) (before path : List ℕ) (r : Rewrite)
    → path ≡ before → IsRewrite clauses spot t r → IsPlaced clauses spot t before path r
placed-here clauses spot t before path r same rewrite = record {
  place = [];
  path_is = same ∙ sym (append-nil before);
  old = t;
  old_there = refl;
  rewrite = rewrite;
}

-- ---- the walk over the arguments

-- an argument more without a redex
pub one-more-normal :
    (clauses : ℕ → Option TreeClause) (ts : List Tree) (n : ℕ) (t : Tree)
    → slice_get ts n ≡ Some t → ((i : ℕ) (u : Tree) → i < n → slice_get ts i ≡ Some u → IsNormal clauses inner u)
    → IsNormal clauses inner t
    → (i : ℕ) (u : Tree) → i < n + 1 → slice_get ts i ≡ Some u → IsNormal clauses inner u
one-more-normal clauses ts n t at before now i u less there =
    ⊎_elim
    (λ (low : i < n). before i u low there)
    (λ (same : i ≡ n).
    subst (λ v. IsNormal clauses inner v) (same_Some t u (sym at ∙ ap (slice_get ts) (sym same) ∙ there)) now)
    (below-or-same i n less)

-- ---- from the calls

pub item-at : (xs : List Term) (i : ℕ) (x : Term) → i < length xs → x ≡ get_or xs i x → slice_get (map tree_of xs) i ≡ Some (tree_of x)
item-at [] i x less is = absurd (omega arith)
item-at (y ∷ ys) zero x less is = ap (λ (z : Term). Some (tree_of z)) (sym is)
item-at (y ∷ ys) (suc i) x less is = item-at ys i x (omega arith) is

pub application-found :
    (clauses : ℕ → Option TreeClause) (spot : Spot) (t : Tree) (f : ℕ) (read us : List Tree) (before path : List ℕ) (answer : Option Rewrite)
    → t ≡ application f (trees_of us) → read ≡ us → IsFoundInSome clauses read before path None → IsFoundAt clauses spot t answer
    → IsFoundIn clauses spot t before path answer
application-found clauses spot t f read us before path answer term same arguments here =
    subst (λ u. IsFoundIn clauses spot u before path answer) (sym term)
    (found answer (subst (λ u. IsFoundAt clauses spot u answer) term here))
  where
    below : (i : ℕ) (u : Tree) → slice_get (list_of (trees_of us)) i ≡ Some u → IsNormal clauses inner u
    below i u there = arguments.1 i u (ap (λ (vs : List Tree). slice_get vs i) (same ∙ sym (list_of-trees_of us)) ∙ there)

    found : (o : Option Rewrite) → IsFoundAt clauses spot (application f (trees_of us)) o → IsFoundIn clauses spot (application f (trees_of us)) before path o
    found None none = (arguments.0, application-normal clauses spot f (trees_of us) below none)
    found (Some r) some = placed-here clauses spot (application f (trees_of us)) before path r arguments.0 some

pub argument-found :
    (clauses : ℕ → Option TreeClause) (spot : Spot) (t : Tree) (f : ℕ) (read us : List Tree) (before path : List ℕ) (r : Rewrite)
    → t ≡ application f (trees_of us) → read ≡ us → IsFoundInSome clauses read before path (Some r)
    → IsPlaced clauses spot t before path r
argument-found clauses spot t f read us before path r term same arguments =
    subst (λ u. IsPlaced clauses spot u before path r) (sym term)
    (placed-below clauses spot f (trees_of us) before path r arguments.0 arguments.1
    (ap (λ (vs : List Tree). slice_get vs arguments.0) (list_of-trees_of us ∙ sym same) ∙ arguments.2) arguments.3)

pub variable-found :
    (clauses : ℕ → Option TreeClause) (spot : Spot) (t : Tree) (v : ℕ) → t ≡ variable v → IsNormal clauses spot t
variable-found clauses spot t v is = subst (λ u. IsNormal clauses spot u) (sym is) (variable-normal clauses spot v)

-- what a push and a pop leave, where what was called between keeps the list
pub popped :
    (before pushed found after : List ℕ) (i n : ℕ)
    → pushed ≡ before ++ i ∷ [] → found ≡ pushed → n ≡ length found → after ≡ take (n - 1) found → after ≡ before
popped before pushed found after i n push keep len pop =
    let whole : found ≡ before ++ i ∷ [] = keep ∙ push in
    let count : n - 1 ≡ length before = omega (arith, len, ap (λ (xs : List ℕ). length xs) whole, length-append before (i ∷ [])) in
    pop ∙ ap₂ (λ k xs. take k xs) count whole ∙ take-append_seam before (i ∷ [])

-- ---- literals

pub side-normal :
    (clauses : ℕ → Option TreeClause) (spot root : Spot) (t u : Tree) → spot ≡ root → t ≡ u → IsNormal clauses spot t → IsNormal clauses root u
side-normal clauses spot root t u same_spot same normal =
    subst (λ s. IsNormal clauses s u) same_spot (subst (λ v. IsNormal clauses spot v) same normal)

pub both-normal :
    (clauses : ℕ → Option TreeClause) (l : TreeLiteral)
    → IsNormal clauses (root_spot Left l) l.left → IsNormal clauses (root_spot Right l) l.right → IsNormalLiteral clauses l
both-normal clauses l left right Left = left
both-normal clauses l left right Right = right

pub found-of :
    (clauses : ℕ → Option TreeClause) (ls : List TreeLiteral) (l : TreeLiteral) (index : ℕ) (side : Side) (f : Found)
    → slice_get ls index ≡ Some l → IsFoundAtSide clauses l index side f → IsFoundOf clauses ls f
found-of clauses ls l index side f there at = record {
  literal = l;
  literal_there = ap (slice_get ls) at.of_literal ∙ there;
  old = at.old;
  old_there = ap (λ z. subterm f.place (side_of z l)) at.of_side ∙ at.old_there;
  rewrite = subst (λ z. IsRewrite clauses (spot_at (root_spot z l) f.place) at.old f.rewrite) (sym at.of_side) at.rewrite;
}

pub literal-at : (xs : List Literal) (i : ℕ) (x : Literal) → i < length xs → x ≡ get_or xs i x → slice_get (map literal_of xs) i ≡ Some (literal_of x)
literal-at [] i x less is = absurd (omega arith)
literal-at (y ∷ ys) zero x less is = ap (λ (z : Literal). Some (literal_of z)) (sym is)
literal-at (y ∷ ys) (suc i) x less is = literal-at ys i x (omega arith) is

pub literals-count : (xs : List Literal) → length (map literal_of xs) ≡ length xs
literals-count [] = refl
literals-count (x ∷ xs) = ap suc (literals-count xs)

pub one-more-literal :
    (clauses : ℕ → Option TreeClause) (ls : List TreeLiteral) (n : ℕ) (l : TreeLiteral)
    → slice_get ls n ≡ Some l → ((i : ℕ) (k : TreeLiteral) → i < n → slice_get ls i ≡ Some k → IsNormalLiteral clauses k)
    → IsNormalLiteral clauses l
    → (i : ℕ) (k : TreeLiteral) → i < n + 1 → slice_get ls i ≡ Some k → IsNormalLiteral clauses k
one-more-literal clauses ls n l at before now i k less there =
    ⊎_elim
    (λ (low : i < n). before i k low there)
    (λ (same : i ≡ n).
    subst (λ m. IsNormalLiteral clauses m) (same_Some l k (sym at ∙ ap (slice_get ls) (sym same) ∙ there)) now)
    (below-or-same i n less)

pub literal-found :
    (clauses : ℕ → Option TreeClause) (l : TreeLiteral) (index : ℕ) (o : Option Found)
    → IsNormal clauses (root_spot Left l) l.left → IsFoundOfSide clauses l index Right o → IsFoundOfLiteral clauses l index o
literal-found clauses l index None left right = both-normal clauses l left right
literal-found clauses l index (Some f) left right = (Right, right)

-- ---- terms that are remembered

and-false : (b : Bool) → (b && false) ≡ false
and-false true = refl
and-false false = refl

-- a redex at a spot is one below the root
redex-inside : (clauses : ℕ → Option TreeClause) (spot : Spot) (old : Tree) → HasRedex clauses spot old → HasRedex clauses inner old
redex-inside clauses spot old h = record {
  number = h.number;
  unit = h.unit;
  there = h.there;
  equation = h.equation;
  alone = h.alone;
  positive = h.positive;
  side = h.side;
  matcher = h.matcher;
  redex = record {
    matches = h.redex.matches;
    no_atom = and-false (is_variable (side_of h.side h.equation));
    no_new_variables = h.redex.no_new_variables;
    greater = h.redex.greater;
    within = refl;
  };
}

pub normal-anywhere : (clauses : ℕ → Option TreeClause) (spot : Spot) (t : Tree) → IsNormal clauses inner t → IsNormal clauses spot t
normal-anywhere clauses spot t normal [] old there h = normal [] old there (redex-inside clauses spot old h)
normal-anywhere clauses spot t normal (i ∷ place) old there h = normal (i ∷ place) old there h

-- where nothing was found in a term below the root of a side
pub normal-inside :
    (clauses : ℕ → Option TreeClause) (spot : Spot) (t : Tree) (before path : List ℕ) (answer : Option Rewrite)
    → IsFoundIn clauses spot t before path answer → answer ≡ None → spot ≡ inner → IsNormal clauses inner t
normal-inside clauses spot t before path answer found none inside =
    subst (λ s. IsNormal clauses s t) inside (subst (λ (o : Option Rewrite). IsFoundIn clauses spot t before path o) none found).1
