-- A smaller tree isn't greater, nor one of equal size whose head doesn't reach the other one's.
use Rattle.std.proofs.Common.{◌≡◌, ℕ, ◌<◌, ◌≤◌, Bool, false, nat_le, sym, ⊎_elim, arith}
use Rattle.std.proofs.lemmas.Bool.{false_from_ne_true}
use Rattle.std.proofs.lemmas.Bool.Decides.{same_from_decides, nat_tests}
use Rattle.fol_base.specs.Tree.{Tree, variable, application, tree_size}
use Rattle.fol_base.specs.Order.{tree_greater, compare_trees, TreeGreater}
use Rattle.fol_base.proofs.AboutOrders.OrderLemmas.{tree_greater_decided}
use Rattle.kbo_order.specs.declared.cmp.Cmp.{Cmp}
use Rattle.kbo_order.specs.Cmp.{comparison_of, is_greater}
use Rattle.kbo_order.proofs.AboutLaws.SubtermLemmas.{greater-size}
use Rattle.kbo_order.proofs.AboutReading.AnswerLemmas.{compared-answer, greater-decides}

-- Both begin with symbols, of which the second one isn't higher. Without this the first tree isn't greater at equal sizes.
abbrev pub head_reaches : Tree → Tree → Bool
head_reaches (variable v) t = false
head_reaches (application f ts) (variable w) = false
head_reaches (application f ts) (application g us) = nat_le g f

pub smaller-not_greater : (s t : Tree) → tree_size s < tree_size t → false ≡ tree_greater s t
smaller-not_greater s t less =
    sym (false_from_ne_true (tree_greater s t) (λ h.
    let size : tree_size t ≤ tree_size s = greater-size s t ((tree_greater_decided s t).0 h) in absurd (omega arith)))

reaches : (f g : ℕ) → nat_le g f ≡ false → f < g
reaches f g e = grind (arith, nat_tests)

head-not_greater : (s t : Tree) → tree_size s ≡ tree_size t → head_reaches s t ≡ false → TreeGreater s t → ⊥
head-not_greater (variable v) t level e h = ⊎_elim (λ more. absurd (omega arith)) (λ tie. tie.1) h.1
head-not_greater (application f ts) (variable w) level e h = ⊎_elim (λ more. absurd (omega arith)) (λ tie. tie.1) h.1
head-not_greater (application f ts) (application g us) level e h =
    let less : f < g = reaches f g e in
    ⊎_elim
    (λ more. absurd (omega arith))
    (λ tie. ⊎_elim (λ higher. absurd (omega arith)) (λ same. let d : f ≡ g = same.0 in absurd (omega arith)) tie.1)
    h.1

pub low_head-not_greater : (s t : Tree) → tree_size s ≡ tree_size t → head_reaches s t ≡ false → false ≡ tree_greater s t
low_head-not_greater s t level e =
    sym (false_from_ne_true (tree_greater s t) (λ h. head-not_greater s t level e ((tree_greater_decided s t).0 h)))

pub greater-answer : (c : Cmp) (s t : Tree) → comparison_of c ≡ compare_trees s t → is_greater c ≡ tree_greater s t
greater-answer c s t compared =
    same_from_decides {P = TreeGreater s t} (is_greater c) (tree_greater s t)
    (greater-decides c s t (compared-answer c s t compared)) (tree_greater_decided s t)
