-- Interning several trees, one after another.
use Rattle.std.proofs.Common.{◌≡◌, ℕ, Bool, true, false, cond, ◌||◌, List, [], ◌∷◌, ◌++◌, Some, is_some, if◌then◌else◌, refl, sym, ap, subst, ◌∙◌, append_assoc, append-nil, get_or, arith}
use Rattle.std.proofs.lemmas.List.{map-append}
use Rattle.std.proofs.lemmas.List.Elements.{All-nil, All-cons, All-head, All-tail, Contains-append_right}
use Rattle.std.specs.Prelude.{Contains}
use Rattle.std.proofs.lemmas.List.Folds.{list_any-append}
use Rattle.std.specs.List.{All, list_any}
use Rattle.std.specs.Option.{unwrap_or}
use Rattle.std.specs.Map.{lookup}
use Rattle.fol_base.specs.Tree.{Tree, tree_eq}
use Rattle.fol_base.proofs.AboutTerms.TreeLemmas.{tree_eq-refl}
use Rattle.term_bank.specs.Table.{entries, number_in}
use Rattle.term_bank.proofs.LookupLemmas.{lookup-more}
use Rattle.term_bank.specs.Laws.{InternsNone, InternsOne, InternsOnward, InternsPartlyOnward, InternsFirstOfMore, LearnsOnlyThese, InternedAgain, KeepsAllNumbers, KeepsNumbersOnTheWay, NumbersOnce, NumbersThese, InternsAfterFirst}
use Rattle.term_bank.specs.Interning.{first_seen, trees_in, InternsAll}
use Rattle.term_bank.specs.declared.table.Table.{Table}

-- ---- the trees that are seen first

first_seen-append :
    (known ts us : List Tree)
    → first_seen known (ts ++ us) ≡ first_seen known ts ++ first_seen (known ++ first_seen known ts) us
first_seen-append known [] us = ap (λ ks. first_seen ks us) (sym (append-nil known))
first_seen-append known (t ∷ ts) us =
    by (list_any (tree_eq t) known) (first_seen-append known ts us) (first_seen-append (known ++ t ∷ []) ts us)
  where
    by : (b : Bool)
        → first_seen known (ts ++ us) ≡ first_seen known ts ++ first_seen (known ++ first_seen known ts) us
        → first_seen (known ++ t ∷ []) (ts ++ us) ≡ first_seen (known ++ t ∷ []) ts ++ first_seen ((known ++ t ∷ []) ++ first_seen (known ++ t ∷ []) ts) us
        → (if b then first_seen known (ts ++ us) else t ∷ first_seen (known ++ t ∷ []) (ts ++ us))
        ≡ (if b then first_seen known ts else t ∷ first_seen (known ++ t ∷ []) ts)
        ++ first_seen (known ++ (if b then first_seen known ts else t ∷ first_seen (known ++ t ∷ []) ts)) us
    by true there new = there
    by false there new =
        ap (λ rest. t ∷ rest) new
        ∙ ap (λ ks. t ∷ first_seen (known ++ t ∷ []) ts ++ first_seen ks us) (append_assoc known (t ∷ []) (first_seen (known ++ t ∷ []) ts))

-- known trees are not seen first
first_seen-known : (known ts : List Tree) → All (λ t. list_any (tree_eq t) known ≡ true) ts → first_seen known ts ≡ []
first_seen-known known [] all = refl
first_seen-known known (t ∷ ts) all =
    ap (λ b. if b then first_seen known ts else t ∷ first_seen (known ++ t ∷ []) ts) (All-head (λ u. list_any (tree_eq u) known ≡ true) t ts all)
    ∙ first_seen-known known ts (All-tail (λ u. list_any (tree_eq u) known ≡ true) t ts all)

-- so they may be left out in front
seen-before :
    (known ts us : List Tree)
    → All (λ t. list_any (tree_eq t) known ≡ true) ts → first_seen known (ts ++ us) ≡ first_seen known us
seen-before known ts us all =
    first_seen-append known ts us
    ∙ ap (λ fs. fs ++ first_seen (known ++ fs) us) (first_seen-known known ts all)
    ∙ ap (λ ks. first_seen ks us) (append-nil known)

-- each of the trees is known in the end
all-seen : (known ts : List Tree) → All (λ u. list_any (tree_eq u) (known ++ first_seen known ts) ≡ true) ts
all-seen known [] = All-nil (λ u. list_any (tree_eq u) (known ++ []) ≡ true)
all-seen known (t ∷ ts) = by (list_any (tree_eq t) known) refl (all-seen known ts) (all-seen (known ++ t ∷ []) ts)
  where
    by : (b : Bool) → list_any (tree_eq t) known ≡ b
        → All (λ u. list_any (tree_eq u) (known ++ first_seen known ts) ≡ true) ts
        → All (λ u. list_any (tree_eq u) ((known ++ t ∷ []) ++ first_seen (known ++ t ∷ []) ts) ≡ true) ts
        → All (λ u. list_any (tree_eq u) (known ++ (if b then first_seen known ts else t ∷ first_seen (known ++ t ∷ []) ts)) ≡ true) (t ∷ ts)
    by true is there new =
        All-cons (λ u. list_any (tree_eq u) (known ++ first_seen known ts) ≡ true) t ts
        (list_any-append (tree_eq t) known (first_seen known ts) ∙ ap (λ b. b || list_any (tree_eq t) (first_seen known ts)) is)
        there
    by false is there new =
        let rest : List Tree = first_seen (known ++ t ∷ []) ts in
        All-cons (λ u. list_any (tree_eq u) (known ++ t ∷ rest) ≡ true) t ts
        (list_any-append (tree_eq t) known (t ∷ rest)
        ∙ ap (λ b. b || (tree_eq t t || list_any (tree_eq t) rest)) is
        ∙ ap (λ b. b || list_any (tree_eq t) rest) (tree_eq-refl t))
        (subst (λ ks. All (λ u. list_any (tree_eq u) ks ≡ true) ts) (append_assoc known (t ∷ []) rest) new)

-- and none but these is seen
first_seen-among : (known ts : List Tree) → All (Contains ts) (first_seen known ts)
first_seen-among known [] = All-nil (Contains [])
first_seen-among known (t ∷ ts) = by (list_any (tree_eq t) known) (first_seen-among known ts) (first_seen-among (known ++ t ∷ []) ts)
  where
    wider : (us : List Tree) → All (Contains ts) us → All (Contains (t ∷ ts)) us
    wider us all k d below = Contains-append_right (t ∷ []) ts _ (all k d below)

    by : (b : Bool) → All (Contains ts) (first_seen known ts) → All (Contains ts) (first_seen (known ++ t ∷ []) ts)
        → All (Contains (t ∷ ts)) (if b then first_seen known ts else t ∷ first_seen (known ++ t ∷ []) ts)
    by true there new = wider (first_seen known ts) there
    by false there new =
        All-cons (Contains (t ∷ ts)) t (first_seen (known ++ t ∷ []) ts) (0, omega arith, refl) (wider (first_seen (known ++ t ∷ []) ts) new)

-- ---- one tree

-- a table has a number for a tree where its entries have the tree
is-known : (t : Tree) (es : List (Tree × ℕ)) → is_some (lookup (tree_eq t) es) ≡ list_any (tree_eq t) (trees_in es)
is-known t [] = refl
is-known t (e ∷ es) = by (tree_eq t e.0) (is-known t es)
  where
    by : (b : Bool) → is_some (lookup (tree_eq t) es) ≡ list_any (tree_eq t) (trees_in es)
        → is_some (cond b (Some e.1) (lookup (tree_eq t) es)) ≡ (b || list_any (tree_eq t) (trees_in es))
    by true rest = refl
    by false rest = rest

pub interns_one : InternsOne
interns_one known learned t n table =
    by (is_some (lookup (tree_eq t) (entries known))) (is-known t (entries known)) table
  where
    by : (b : Bool) → b ≡ list_any (tree_eq t) (trees_in (entries known))
        → entries learned ≡ (if b then entries known else entries known ++ (t, n) ∷ [])
        → InternsAll (t ∷ []) known learned
    by true is same = record {
      more = [];
      table = same ∙ sym (append-nil (entries known));
      first = ap (λ b. if b then [] else t ∷ []) is;
    }
    by false is longer = record {
      more = (t, n) ∷ [];
      table = longer;
      first = ap (λ b. if b then [] else t ∷ []) is;
    }

-- ---- no tree, and several

pub interns_none : InternsNone
interns_none known learned table = record {
  more = [];
  table = table ∙ sym (append-nil (entries known));
  first = refl;
}

-- the trees of the table afterwards
trees-learned :
    (trees : List Tree) (known learned : Table) → InternsAll trees known learned
    → trees_in (entries learned) ≡ trees_in (entries known) ++ first_seen (trees_in (entries known)) trees
trees-learned trees known learned all =
    ap trees_in all.table ∙ map-append (λ e. e.0) (entries known) all.more ∙ ap (λ us. trees_in (entries known) ++ us) all.first

pub interns_onward : InternsOnward
interns_onward trees further first second third near far = record {
  more = near.more ++ far.more;
  table = far.table ∙ ap (λ es. es ++ far.more) near.table ∙ append_assoc (entries first) near.more far.more;
  first =
      map-append (λ e. e.0) near.more far.more
      ∙ (λ j. near.first j ++ (far.first ∙ ap (λ ks. first_seen ks further) (trees-learned trees first second near)) j)
      ∙ sym (first_seen-append (trees_in (entries first)) trees further);
}

pub interns_partly_onward : InternsPartlyOnward
interns_partly_onward trees further first second third near part = (
  trees ++ part.0,
  part.1,
  ap (λ us. trees ++ us) part.2 ∙ sym (append_assoc trees part.0 part.1),
  interns_onward trees part.0 first second third near part.3,
)

pub interns_first_of_more : InternsFirstOfMore
interns_first_of_more trees further first second part =
    (part.0, part.1 ++ further, ap (λ us. us ++ further) part.2 ∙ append_assoc part.0 part.1 further, part.3)

pub learns_only_these : LearnsOnlyThese
learns_only_these trees known learned all =
    subst (λ us. All (Contains trees) us) (sym all.first) (first_seen-among (trees_in (entries known)) trees)

pub interned_again : InternedAgain
interned_again trees first second third once again =
    let none : trees_in again.more ≡ [] =
    again.first ∙ ap (λ ks. first_seen ks trees) (trees-learned trees first second once)
    ∙ first_seen-known (trees_in (entries first) ++ first_seen (trees_in (entries first)) trees) trees (all-seen (trees_in (entries first)) trees) in
    again.table ∙ ap (λ es. entries second ++ es) (nothing again.more none) ∙ append-nil (entries second)
  where
    nothing : (es : List (Tree × ℕ)) → trees_in es ≡ [] → es ≡ []
    nothing [] h = refl
    nothing (e ∷ es) h = absurd (cc)

pub keeps_all_numbers : KeepsAllNumbers
keeps_all_numbers trees known learned u m all has =
    ap (lookup (tree_eq u)) all.table ∙ lookup-more (tree_eq u) (entries known) all.more m has

pub keeps_numbers_on_the_way : KeepsNumbersOnTheWay
keeps_numbers_on_the_way trees known learned u m part has = keeps_all_numbers part.0 known learned u m part.3 has

pub numbers_once : NumbersOnce
numbers_once table r s first second same =
    ap (λ n. unwrap_or n 0) (sym first ∙ ap (number_in table) same ∙ second)

pub numbers_these : NumbersThese
numbers_these trees known learned all k d below =
    is-known (get_or trees k d) (entries learned)
    ∙ ap (list_any (tree_eq (get_or trees k d))) (trees-learned trees known learned all)
    ∙ all-seen (trees_in (entries known)) trees k d below

pub interns_after_first : InternsAfterFirst
interns_after_first trees first second third part all =
    let done : List Tree = part.0 in
    let rest : List Tree = part.1 in
    let near : InternsAll done first second = part.3 in
    let seen : All (λ t. list_any (tree_eq t) (trees_in (entries second)) ≡ true) done =
    subst (λ ks. All (λ t. list_any (tree_eq t) ks ≡ true) done) (sym (trees-learned done first second near))
    (all-seen (trees_in (entries first)) done) in
    let far : InternsAll rest second third = record {
      more = all.more;
      table = all.table;
      first = all.first ∙ ap (first_seen (trees_in (entries second))) part.2 ∙ seen-before (trees_in (entries second)) done rest seen;
    } in
    subst (λ ts. InternsAll ts first third) (sym part.2)
    (interns_onward done rest first second third near far)
