-- Classes that join no more than the equations ask.
use Rattle.std.proofs.Common.{◌≡◌, ℕ, ◌<◌, true, List, [], ◌∷◌, length, map, get_or, drop, nat_lt, inl, inr, ⊎_elim, ◌⊎◌, refl, sym, ap, ap₂, subst, ◌∙◌}
use Rattle.std.proofs.lemmas.Bool.{and_parts, eqb-true}
use Rattle.std.specs.List.{list_all}
use Rattle.list_lemmas.proofs.Numbers.{less-says}
use Rattle.congruence.specs.declared.node.Node.{Node}
use Rattle.congruence.specs.declared.node.Equation.{Equation}
use Rattle.congruence.specs.Congruence.{Numbering, node_at, equation_at, are_nodes, is_between, are_between, signature, IsCongruence, joins, joins_all, class_in, IsLeastCongruence}
use Rattle.congruence.specs.Joined.{exchanged, AreOne, AreSound, AreAlike, AreRelabelled}
use Rattle.congruence.proofs.AboutClasses.PlaceLemmas.{all-here}

-- ---- at the beginning

pub sound-own :
    (nodes : List Node) (equations : List Equation) (classes : List ℕ) → length classes ≡ length nodes
    → ((n : ℕ) → n < length nodes → class_in classes n ≡ n) → AreSound nodes equations classes
sound-own nodes equations classes sized own = record {
  sized = sized;
  sound = λ n low. λ other congruent contains. ap other (own n low);
}

-- ---- pairs that are one

-- the sides of an equation
pub one-by-equation :
    (nodes : List Node) (equations : List Equation) (k : ℕ) → k < length equations
    → AreOne nodes equations (equation_at equations k).left (equation_at equations k).right
one-by-equation nodes equations k low =
    λ other congruent contains. eqb-true _ _ (all-here (joins other) equations k (record { left = 0; right = 0 }) contains low)

pub equation-between :
    (nodes : List Node) (equations : List Equation) (k : ℕ) → are_between nodes equations ≡ true → k < length equations
    → ((equation_at equations k).left < length nodes) × ((equation_at equations k).right < length nodes)
equation-between nodes equations k between low =
    let both =
    and_parts _ _ (all-here (is_between nodes) equations k (record { left = 0; right = 0 }) between low) in
    (less-says _ _ both.0, less-says _ _ both.1)

-- the classes of the arguments stand for the arguments
by-classes :
    (nodes : List Node) (equations : List Equation) (classes : List ℕ) (other : Numbering) → AreSound nodes equations classes
    → IsCongruence nodes other → joins_all other equations ≡ true
    → (ns : List ℕ) → list_all (λ a. nat_lt a (length nodes)) ns ≡ true → map other (map (class_in classes) ns) ≡ map other ns
by-classes nodes equations classes other sound congruent contains [] below = refl
by-classes nodes equations classes other sound congruent contains (n ∷ ns) below =
    let parts = and_parts (nat_lt n (length nodes)) (list_all (λ a. nat_lt a (length nodes)) ns) below in
    ap₂ (λ k ks. k ∷ ks) (sound.sound n (less-says _ _ parts.0) other congruent contains)
    (by-classes nodes equations classes other sound congruent contains ns parts.1)

-- nodes with one signature
pub one-by-signature :
    (nodes : List Node) (equations : List Equation) (classes : List ℕ) (e : Equation) → are_nodes nodes ≡ true
    → AreSound nodes equations classes → AreAlike nodes (class_in classes) e → AreOne nodes equations e.left e.right
one-by-signature nodes equations classes e proper sound like =
    λ other congruent contains. congruent e.left e.right like.left_there like.right_there (same other congruent contains)
  where
    left : Node
    left = node_at nodes e.left

    right : Node
    right = node_at nodes e.right

    below : (n : ℕ) → n < length nodes → list_all (λ a. nat_lt a (length nodes)) (node_at nodes n).arguments ≡ true
    below n low =
        all-here (λ (node : Node). list_all (λ a. nat_lt a (length nodes)) node.arguments) nodes n (record { symbol = 0; arguments = [] }) proper low

    heads : left.symbol ≡ right.symbol
    heads = ap (λ (l : List ℕ). get_or l 0 0) like.alike

    arguments : map (class_in classes) left.arguments ≡ map (class_in classes) right.arguments
    arguments = ap (λ (l : List ℕ). drop 1 l) like.alike

    same : (other : Numbering) → IsCongruence nodes other → joins_all other equations ≡ true → signature other left ≡ signature other right
    same other congruent contains =
        ap₂ (λ k ks. k ∷ ks) heads
        (sym (by-classes nodes equations classes other sound congruent contains left.arguments (below e.left like.left_there))
        ∙ ap (map other) arguments
        ∙ by-classes nodes equations classes other sound congruent contains right.arguments (below e.right like.right_there))

-- ---- classes that become another one

-- the classes of nodes that are one are one
pub classes-one :
    (nodes : List Node) (equations : List Equation) (classes : List ℕ) (m n : ℕ) → AreSound nodes equations classes
    → m < length nodes → n < length nodes → AreOne nodes equations m n
    → AreOne nodes equations (class_in classes m) (class_in classes n)
classes-one nodes equations classes m n sound low high one =
    λ other congruent contains.
    sound.sound m low other congruent contains ∙ one other congruent contains ∙ sym (sound.sound n high other congruent contains)

pub sound-relabelled :
    (nodes : List Node) (equations : List Equation) (from to : ℕ) (old new : List ℕ) → AreSound nodes equations old
    → AreOne nodes equations from to → AreRelabelled from to old new → AreSound nodes equations new
sound-relabelled nodes equations from to old new sound one moved = record {
  sized = moved.sized ∙ sound.sized;
  sound =
      λ n low. λ other congruent contains.
      ⊎_elim
      (λ e. ap other e ∙ sound.sound n low other congruent contains)
      (λ both. ap other both.1 ∙ sym (one other congruent contains) ∙ ap other (sym both.0) ∙ sound.sound n low other congruent contains)
      (moved.each n);
}

-- the pair in either order
pub one-either-way :
    (nodes : List Node) (equations : List Equation) (e f : Equation) → AreOne nodes equations e.left e.right
    → e.left < length nodes → e.right < length nodes → (f ≡ e) ⊎ (f ≡ exchanged e)
    → AreOne nodes equations f.left f.right × ((f.left < length nodes) × (f.right < length nodes))
one-either-way nodes equations e f one low high (inl same) =
    subst (λ (g : Equation). AreOne nodes equations g.left g.right × ((g.left < length nodes) × (g.right < length nodes))) (sym same)
    (one, (low, high))
one-either-way nodes equations e f one low high (inr turned) =
    subst (λ (g : Equation). AreOne nodes equations g.left g.right × ((g.left < length nodes) × (g.right < length nodes))) (sym turned)
    ((λ other congruent contains. sym (one other congruent contains)), (high, low))

-- the class of a pair's first side becomes that of its second side
pub sound-joined :
    (nodes : List Node) (equations : List Equation) (classes new : List ℕ) (e f : Equation) (from to : ℕ) → AreSound nodes equations classes
    → AreOne nodes equations e.left e.right → e.left < length nodes → e.right < length nodes → (f ≡ e) ⊎ (f ≡ exchanged e)
    → from ≡ class_in classes f.left → to ≡ class_in classes f.right → AreRelabelled from to classes new → AreSound nodes equations new
sound-joined nodes equations classes new e f from to sound one low high either left right moved =
    let turned = one-either-way nodes equations e f one low high either in
    sound-relabelled nodes equations from to classes new sound
    (λ other congruent contains.
    ap other left
    ∙ classes-one nodes equations classes f.left f.right sound turned.1.0 turned.1.1 turned.0 other congruent contains
    ∙ ap other (sym right))
    moved

-- ---- classes that join all that the equations ask

pub sound-least :
    (nodes : List Node) (equations : List Equation) (classes : List ℕ) → AreSound nodes equations classes
    → joins_all (class_in classes) equations ≡ true → IsCongruence nodes (class_in classes) → IsLeastCongruence nodes equations classes
sound-least nodes equations classes sound contains congruent = record {
  sized = sound.sized;
  congruence = congruent;
  contains = contains;
  least =
      λ other proper holds m n low high same.
      sym (sound.sound m low other proper holds) ∙ ap other same ∙ sound.sound n high other proper holds;
}
