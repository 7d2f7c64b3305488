-- What is seen at the top of a tree is what would be picked.
use Rattle.std.proofs.Common.{◌≡◌, ℕ, ◌≤◌, List, [], ◌∷◌, ◌++◌, Contains, sym, subst, ◌⊎◌, inl, inr, ⊎_elim, arith}
use Rattle.std.specs.List.{AllByRecursion}
use Rattle.std.proofs.lemmas.Bool.{cases_eq}
use Rattle.std.proofs.lemmas.List.Elements.{All-from_recursion, Contains-append_right}
use Rattle.clause_queue.specs.Pairs.{numbers, IsAbsent}
use Rattle.clause_queue.specs.Node.{pair_of, MayStandBelow}
use Rattle.clause_queue.specs.Pick.{IsPick}
use Rattle.clause_queue.specs.declared.choice.Choice.TheVariants.{Light, Old}
use Rattle.clause_queue.specs.declared.tree.Node.{Node}
use Rattle.clause_queue.proofs.PairsLemmas.{all-append}
use Rattle.clause_queue.proofs.Numbers.{light_pick, contains_number-with_pair}
use Rattle.clause_queue.proofs.Placed.{IsNodeOf}

pub peek_light : {d : List (ℕ × ℕ)} (n : Node) → IsNodeOf d n → IsPick Light d n.entry.number
peek_light n node =
    subst (λ ps. IsPick Light ps n.entry.number) (sym node.is)
    (light_pick (pair_of n.entry) (n.lower ++ n.upper)
    (all-append (MayStandBelow (pair_of n.entry)) n.lower n.upper node.placed.lower_below node.placed.upper_below))

absent-or : (m : ℕ) (ps : List (ℕ × ℕ)) → IsAbsent m ps ⊎ Contains (numbers ps) m
absent-or m [] = inl tt
absent-or m (p ∷ ps) =
    ⊎_elim
    (λ same. inr (0, omega arith, same))
    (λ other.
    ⊎_elim
    (λ absent. inl (other, absent))
    (λ has. inr (Contains-append_right (p.0 ∷ []) (numbers ps) m has))
    (absent-or m ps))
    (cases_eq p.0 m)

pub peek_old :
    {d : List (ℕ × ℕ)} (n : Node) (m : ℕ) → IsNodeOf d n → AllByRecursion (λ q. m ≤ q.0) d → (IsAbsent m d → m ≡ n.entry.number)
    → IsPick Old d m
peek_old {d} n m node least given = (
  ⊎_elim
      (λ absent.
      subst (λ k. Contains (numbers d) k) (sym (given absent))
      (subst (λ ps. Contains (numbers ps) n.entry.number) (sym node.is) (contains_number-with_pair (pair_of n.entry) (n.lower ++ n.upper))))
      (λ has. has)
      (absent-or m d),
  All-from_recursion (λ q. m ≤ q.0) d least,
)
