-- The compatible prefixes of a query without variables, by which the reads of a search are counted (McCune 1992).
use Rattle.std.specs.Prelude.{◌≡◌, ◌⊎◌, ℕ, suc, ◌+◌, ◌*◌, ◌≤◌, Bool, true, false, ◌&&◌, ◌||◌, List, [], ◌∷◌, ◌++◌, length, ⊤, if◌then◌else◌}
use Rattle.fol_base.specs.Tree.{Tree}
use Rattle.fol_base.specs.Ground.{is_ground}
use Rattle.disc_tree.specs.declared.label.Label.{Label}
use Rattle.disc_tree.specs.declared.label.Label.TheVariants.{Star, Symbol}
use Rattle.disc_tree.specs.Path.{head, arguments, path, same_label}
use Rattle.disc_tree.specs.Entries.{IsIn}
use Rattle.disc_tree.specs.Rows.{Row}

-- whether labels can be read along terms in preorder: each is the head there, or a star, which passes over the whole subterm
abbrev pub can_read : List Tree → List Label → Bool
can_read ts [] = true
can_read [] (l ∷ p) = false
can_read (t ∷ ts) (Star ∷ p) = can_read ts p
can_read (t ∷ ts) (Symbol f n ∷ p) = same_label (Symbol f n) (head t) && can_read (arguments t ++ ts) p

-- how many beginnings of one path can be read along terms, the empty one included
abbrev pub reads : List Tree → List Label → ℕ
reads ts [] = 1
reads [] (l ∷ p) = 1
reads (t ∷ ts) (Star ∷ p) = suc (reads ts p)
reads (t ∷ ts) (Symbol f n ∷ p) = if same_label (Symbol f n) (head t) then suc (reads (arguments t ++ ts) p) else 1

-- each of the paths with a label before it
abbrev pub behind : Label → List (List Label) → List (List Label)
behind l [] = []
behind l (p ∷ ps) = (l ∷ p) ∷ behind l ps

-- the prefixes of a path, the empty one and the whole path included
abbrev pub prefixes : List Label → List (List Label)
prefixes [] = [] ∷ []
prefixes (l ∷ p) = [] ∷ behind l (prefixes p)

-- those of the entries' paths
abbrev pub all_prefixes : List (Tree × ℕ) → List (List Label)
all_prefixes [] = []
all_prefixes (e ∷ es) = prefixes (path e.0) ++ all_prefixes es

-- those of a list that can be read along terms
abbrev pub readable : List Tree → List (List Label) → List (List Label)
readable ts [] = []
readable ts (p ∷ ps) = if can_read ts p then p ∷ readable ts ps else readable ts ps

abbrev pub same_path : List Label → List Label → Bool
same_path [] [] = true
same_path [] (l ∷ q) = false
same_path (k ∷ p) [] = false
same_path (k ∷ p) (l ∷ q) = same_label k l && same_path p q

abbrev pub has_path : List Label → List (List Label) → Bool
has_path p [] = false
has_path p (q ∷ qs) = same_path p q || has_path p qs

-- each path of a list once
abbrev pub different : List (List Label) → List (List Label)
different [] = []
different (p ∷ ps) = if has_path p ps then different ps else p ∷ different ps

-- how many different prefixes of the entries' paths can be read along a query, the empty one always included
abbrev pub compatible_prefixes : Tree → List (Tree × ℕ) → ℕ
compatible_prefixes query es = length (different ([] ∷ readable (query ∷ []) (all_prefixes es)))

-- ---- the same from node to node

abbrev pub AreGround : List Tree → Type 0
AreGround [] = ⊤
AreGround (t ∷ ts) = (is_ground t ≡ true) × AreGround ts

-- a prefix of some row's path that can be read along terms
pub record IsCompatible (ts : List Tree) (rs : List Row) (p : List Label) : Type 0 where
  pub row : Row
  pub more : List Label
  pub is_in : IsIn row rs
  pub begins : row.0 ≡ p ++ more
  pub is_read : can_read ts p ≡ true

-- a list of all of them
abbrev pub HasCompatible : List Tree → List Row → List (List Label) → Type 0
HasCompatible ts rs ps = (p : List Label) → IsCompatible ts rs p → IsIn p ps

-- at most two steps for each of them and the empty one, from a node on
abbrev pub StaysWithin : List Tree → List Row → ℕ → ℕ → Type 0
StaysWithin ts rs before after = (ps : List (List Label)) → IsIn [] ps → HasCompatible ts rs ps → after ≤ before + 2 * length ps

-- the same with one step for the look-up by which the node is reached, if there is one
abbrev pub FollowsWithin : List Tree → List Row → ℕ → ℕ → Type 0
FollowsWithin ts rs before after = (ps : List (List Label)) → HasCompatible ts rs ps → after ≤ before + 1 + 2 * length ps

-- no path stands in a list twice
abbrev pub AreDifferent : List (List Label) → Type 0
AreDifferent [] = ⊤
AreDifferent (p ∷ ps) = (IsIn p ps → ⊥) × AreDifferent ps

-- a list of some of them
abbrev pub AreCompatible : List Tree → List Row → List (List Label) → Type 0
AreCompatible ts rs ps = (p : List Label) → IsIn p ps → IsCompatible ts rs p

-- at least one step for each of them and the empty one, from a node on
abbrev pub VisitsEach : List Tree → List Row → ℕ → ℕ → Type 0
VisitsEach ts rs before after =
    (ps : List (List Label))
    → AreDifferent ps → ((p : List Label) → IsIn p ps → (p ≡ []) ⊎ IsCompatible ts rs p) → before + length ps ≤ after

-- the same, and one step for the look-up by which the node is reached, if there is one
abbrev pub FollowsEach : List Tree → List Row → ℕ → ℕ → Type 0
FollowsEach ts rs before after =
    (ps : List (List Label)) → AreDifferent ps → AreCompatible ts rs ps → before + 1 + length ps ≤ after
