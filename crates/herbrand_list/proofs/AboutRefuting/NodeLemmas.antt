-- Nodes for terms, while more come.
use Rattle.std.proofs.Common.{◌≡◌, ℕ, zero, suc, ◌+◌, ◌<◌, ◌≤◌, ◌^◌, ◌==◌, Bool, true, List, [], ◌∷◌, ◌++◌, length, map, take, get_or, nat_lt, Result, Ok, Err, if◌then◌else◌, ⊎_elim, refl, sym, ap, ap₂, subst, ◌∙◌, arith}
use Rattle.std.proofs.lemmas.Bool.{and_parts, and_from, eq-eqb, eqb-true}
use Rattle.std.proofs.lemmas.Bool.Decides.{nat_tests}
use Rattle.std.proofs.lemmas.List.{get_or_append_left, append_assoc, append-nil, length-append}
use Rattle.std.specs.Prelude.{IfOk, bytes_eq}
use Rattle.std.specs.List.{list_all}
use Rattle.list_lemmas.proofs.Bools.{and-true}
use Rattle.list_lemmas.proofs.Lists.{length-pushed, bytes-same}
use Rattle.list_lemmas.proofs.Places.{last-item}
use Rattle.list_lemmas.proofs.Numbers.{below-or-same, less-says, not-same}
use Rattle.list_lemmas.proofs.Tests.{all-joined}
use Rattle.fol_base.specs.Tree.{Tree, variable, application, Trees, no_trees, tree_then, trees_of, true_symbol}
use Rattle.fol_base.specs.Ground.{is_ground, are_ground}
use Rattle.fol_base.specs.Interpretation.{Interpretation, symbol_value}
use Rattle.fol_base.specs.Term.{tree_of}
use Rattle.fol_base.specs.declared.term.Term.{Term}
use Rattle.fol_base.proofs.ListLemmas.{map-take_more_item}
use Rattle.congruence.specs.declared.node.Node.{Node}
use Rattle.congruence.specs.Congruence.{Numbering, node_at, are_nodes}
use Rattle.congruence.proofs.AboutClasses.PlaceLemmas.{all-here, all-weaker}
use Rattle.herbrand_list.specs.Nodes.{Stands, AllStand, HasNodeValues, AreTermNodes, is_node_of, IsGrown}

ltb-from : (m n : ℕ) → m < n → nat_lt m n ≡ true
ltb-from m n low = grind (arith, nat_tests)

-- ---- more at the end

pub grown-none : {X : Type 0} (xs : List X) → IsGrown xs xs
grown-none xs = record { more = []; is = sym (append-nil xs) }

pub grown-twice : {X : Type 0} (xs ys zs : List X) → IsGrown xs ys → IsGrown ys zs → IsGrown xs zs
grown-twice xs ys zs first second = record {
  more = first.more ++ second.more;
  is = second.is ∙ ap (λ l. l ++ second.more) first.is ∙ append_assoc xs first.more second.more;
}

pub grown-longer : {X : Type 0} (xs ys : List X) → IsGrown xs ys → length xs ≤ length ys
grown-longer xs ys grown = omega (arith, ap length grown.is, length-append xs grown.more)

pub grown-at : {X : Type 0} (xs ys : List X) (n : ℕ) (d : X) → IsGrown xs ys → n < length xs → get_or ys n d ≡ get_or xs n d
grown-at xs ys n d grown low = ap (λ l. get_or l n d) grown.is ∙ get_or_append_left xs grown.more d n low

-- a tree's node stands for it still
mutual
  pub stands-still : (old new : List Node) → IsGrown old new → (n : ℕ) (t : Tree) → Stands old n t → Stands new n t
  stands-still old new grown n (variable v) h = absurd h
  stands-still old new grown n (application f ts) h =
      let same : node_at new n ≡ node_at old n = grown-at old new n (record { symbol = 0; arguments = [] }) grown h.0 in
      let longer : length old ≤ length new = grown-longer old new grown in (
        omega (arith, longer, h.0),
        ap (λ (m : Node). m.symbol) same ∙ h.1,
        subst (λ (m : Node). AllStand new m.arguments ts) (sym same) (all-stand-still old new grown (node_at old n).arguments ts h.2),
      )

  pub all-stand-still : (old new : List Node) → IsGrown old new → (ns : List ℕ) (ts : Trees) → AllStand old ns ts → AllStand new ns ts
  all-stand-still old new grown [] no_trees h = tt
  all-stand-still old new grown [] (tree_then t ts) h = absurd h
  all-stand-still old new grown (n ∷ ns) no_trees h = absurd h
  all-stand-still old new grown (n ∷ ns) (tree_then t ts) h =
      (stands-still old new grown n t h.0, all-stand-still old new grown ns ts h.1)

-- what stands for trees is below the number of nodes
pub stands-within : (nodes : List Node) (n : ℕ) (t : Tree) → Stands nodes n t → n < length nodes
stands-within nodes n (variable v) h = absurd h
stands-within nodes n (application f ts) h = h.0

pub all-within : (nodes : List Node) (ns : List ℕ) (ts : Trees) → AllStand nodes ns ts → list_all (λ a. nat_lt a (length nodes)) ns ≡ true
all-within nodes [] no_trees h = refl
all-within nodes [] (tree_then t ts) h = absurd h
all-within nodes (n ∷ ns) no_trees h = absurd h
all-within nodes (n ∷ ns) (tree_then t ts) h =
    and_from (nat_lt n (length nodes)) (list_all (λ a. nat_lt a (length nodes)) ns) (ltb-from n (length nodes) (stands-within nodes n t h.0)) (all-within nodes ns ts h.1)

-- a tree from its head's node
pub stands-by :
    (nodes : List Node) (n f : ℕ) (arguments : List ℕ) (ts : Trees) → n < length nodes
    → node_at nodes n ≡ record { symbol = f; arguments = arguments } → AllStand nodes arguments ts → Stands nodes n (application f ts)
stands-by nodes n f arguments ts low is all =
    (low, ap (λ (m : Node). m.symbol) is, subst (λ (m : Node). AllStand nodes m.arguments ts) (sym is) all)

-- a tree at the end
abbrev pub trees-last : Trees → Tree → Trees
trees-last no_trees t = tree_then t no_trees
trees-last (tree_then u us) t = tree_then u (trees-last us t)

pub trees-last-of : (ts : List Tree) (t : Tree) → trees_of (ts ++ t ∷ []) ≡ trees-last (trees_of ts) t
trees-last-of [] t = refl
trees-last-of (u ∷ us) t = ap (tree_then u) (trees-last-of us t)

-- one more tree
pub all-stand-last :
    (nodes : List Node) (ns : List ℕ) (ts : Trees) (n : ℕ) (t : Tree) (joined : Trees) → AllStand nodes ns ts → Stands nodes n t
    → joined ≡ trees-last ts t → AllStand nodes (ns ++ n ∷ []) joined
all-stand-last nodes ns ts n t joined all last is = subst (AllStand nodes (ns ++ n ∷ [])) (sym is) (by ns ts all)
  where
    by : (ms : List ℕ) (us : Trees) → AllStand nodes ms us → AllStand nodes (ms ++ n ∷ []) (trees-last us t)
    by [] no_trees h = (last, tt)
    by [] (tree_then u us) h = absurd h
    by (m ∷ ms) no_trees h = absurd h
    by (m ∷ ms) (tree_then u us) h = (h.0, by ms us h.1)

-- ---- one more node

proper-still : (old : List Node) (m : Node) → are_nodes old ≡ true → list_all (λ a. nat_lt a (length old)) m.arguments ≡ true → are_nodes (old ++ m ∷ []) ≡ true
proper-still old m proper arguments =
    all-joined within old (m ∷ [])
    (all-weaker (λ (node : Node). list_all (λ a. nat_lt a (length old)) node.arguments) within (λ (node : Node). longer node.arguments) old proper)
    (and-true (within m) ∙ longer m.arguments arguments)
  where
    within : Node → Bool
    within node = list_all (λ a. nat_lt a (length (old ++ m ∷ []))) node.arguments

    longer : (ns : List ℕ) → list_all (λ a. nat_lt a (length old)) ns ≡ true → list_all (λ a. nat_lt a (length (old ++ m ∷ []))) ns ≡ true
    longer ns h =
        all-weaker (λ a. nat_lt a (length old)) (λ a. nat_lt a (length (old ++ m ∷ [])))
        (λ a low. ltb-from a (length (old ++ m ∷ [])) (omega (arith, less-says a (length old) low, length-pushed old m))) ns h

-- the values of the nodes with one more
values-still :
    (i : Interpretation) (old : List Node) (m : Node) → are_nodes old ≡ true → list_all (λ a. nat_lt a (length old)) m.arguments ≡ true
    → HasNodeValues i old → HasNodeValues i (old ++ m ∷ [])
values-still i old m proper arguments has = record {
  value = value;
  each = λ n low. ⊎_elim (λ less. earlier n less) (λ e. last n e) (below-or-same n (length old) (omega (arith, low, length-pushed old m)));
}
  where
    new : ℕ
    new = symbol_value i m.symbol (map has.value m.arguments)

    value : Numbering
    value n = if n == length old then new else has.value n

    kept : (n : ℕ) → n < length old → value n ≡ has.value n
    kept n less = ap (λ b. if b then new else has.value n) (not-same n (length old) (λ e. absurd (omega (arith, e, less))))

    all-kept : (ns : List ℕ) → list_all (λ a. nat_lt a (length old)) ns ≡ true → map value ns ≡ map has.value ns
    all-kept [] h = refl
    all-kept (n ∷ ns) h =
        let parts = and_parts (nat_lt n (length old)) (list_all (λ a. nat_lt a (length old)) ns) h in
        ap₂ (λ k ks. k ∷ ks) (kept n (less-says n (length old) parts.0)) (all-kept ns parts.1)

    Fits : ℕ → Node → Type 0
    Fits n node = value n ≡ symbol_value i node.symbol (map value node.arguments)

    earlier : (n : ℕ) → n < length old → Fits n (node_at (old ++ m ∷ []) n)
    earlier n less =
        subst (Fits n) (sym (get_or_append_left old (m ∷ []) (record { symbol = 0; arguments = [] }) n less))
        (kept n less ∙ has.each n less
        ∙ ap (symbol_value i (node_at old n).symbol)
        (sym (all-kept (node_at old n).arguments
        (all-here (λ (node : Node). list_all (λ a. nat_lt a (length old)) node.arguments) old n (record { symbol = 0; arguments = [] }) proper less))))

    last : (n : ℕ) → n ≡ length old → Fits n (node_at (old ++ m ∷ []) n)
    last n e =
        subst (λ k. Fits k (node_at (old ++ m ∷ []) k)) (sym e)
        (subst (Fits (length old)) (sym (last-item old m (record { symbol = 0; arguments = [] })))
        (ap (λ b. if b then new else has.value (length old)) (eq-eqb (length old) (length old) refl)
        ∙ ap (symbol_value i m.symbol) (sym (all-kept m.arguments arguments))))

pub nodes-more :
    (old new : List Node) (m : Node) → AreTermNodes old → list_all (λ a. nat_lt a (length old)) m.arguments ≡ true → length old < 2 ^ 32
    → new ≡ old ++ m ∷ [] → AreTermNodes new
nodes-more old new m are arguments few is =
    subst AreTermNodes (sym is) record {
      proper = proper-still old m are.proper arguments;
      few = omega (arith, length-pushed old m, few);
      some = omega (arith, length-pushed old m);
      truth = get_or_append_left old (m ∷ []) (record { symbol = 0; arguments = [] }) 0 are.some ∙ are.truth;
      values = λ i. values-still i old m are.proper arguments (are.values i);
    }

-- `$true` alone
pub nodes-first : (nodes : List Node) → nodes ≡ record { symbol = true_symbol; arguments = [] } ∷ [] → AreTermNodes nodes
nodes-first nodes is =
    subst AreTermNodes (sym is) record {
      proper = refl;
      few = omega arith;
      some = omega arith;
      truth = refl;
      values = λ i. record { value = λ n. 1; each = λ n low. only i n low };
    }
  where
    only :
        (i : Interpretation) (n : ℕ) → n < 1
        → 1 ≡ symbol_value i (node_at (record { symbol = true_symbol; arguments = [] } ∷ []) n).symbol (map (λ (k : ℕ). 1) (node_at (record { symbol = true_symbol; arguments = [] } ∷ []) n).arguments)
    only i zero low = refl
    only i (suc n) low = absurd (omega (arith, low))

-- a node that was tested
pub node-is : (f : ℕ) (arguments : List ℕ) (m : Node) → is_node_of f arguments m ≡ true → m ≡ record { symbol = f; arguments = arguments }
node-is f arguments m h =
    let parts = and_parts (m.symbol == f) (bytes_eq m.arguments arguments) h in
    let made : ℕ → List ℕ → Node = λ g ns. record { symbol = g; arguments = ns } in
    ap₂ made (eqb-true m.symbol f parts.0) (bytes-same m.arguments arguments parts.1)

-- what holds of the nodes once one is pushed
pub node-pushed :
    (old new : List Node) (f n : ℕ) (arguments field : List ℕ) → AreTermNodes old → list_all (λ a. nat_lt a (length old)) arguments ≡ true
    → n ≡ length old → n < 2 ^ 32 → field ≡ arguments → new ≡ old ++ record { symbol = f; arguments = field } ∷ []
    → (n < length new) × (node_at new n ≡ record { symbol = f; arguments = arguments }) × IsGrown old new × AreTermNodes new
node-pushed old new f n arguments field are below at few same is = (
  omega (arith, at, ap length pushed, length-pushed old made),
  ap (λ l. node_at l n) pushed ∙ ap (node_at (old ++ made ∷ [])) at ∙ last-item old made (record { symbol = 0; arguments = [] }),
  record { more = made ∷ []; is = pushed },
  nodes-more old new made are below (omega (arith, at, few)) pushed,
)
  where
    made : Node
    made = record { symbol = f; arguments = arguments }

    pushed : new ≡ old ++ made ∷ []
    pushed = is ∙ ap (λ (ns : List ℕ). old ++ record { symbol = f; arguments = ns } ∷ []) same

-- ---- a walk over terms

-- a term of ground terms
pub ground-item :
    (xs : List Term) (ts : List Tree) (i : ℕ) (x : Term) → map tree_of xs ≡ ts → i < length xs → x ≡ get_or xs i x
    → are_ground (trees_of ts) ≡ true → is_ground (tree_of x) ≡ true
ground-item xs ts i x e low read all =
    subst (λ (y : Term). is_ground (tree_of y) ≡ true) (sym read)
    (at_index xs i x low (subst (λ (us : List Tree). are_ground (trees_of us) ≡ true) (sym e) all))
  where
    at_index :
        (ys : List Term) (k : ℕ) (d : Term) → k < length ys → are_ground (trees_of (map tree_of ys)) ≡ true → is_ground (tree_of (get_or ys k d)) ≡ true
    at_index [] k d l h = absurd (omega (arith, l))
    at_index (y ∷ ys) zero d l h = (and_parts (is_ground (tree_of y)) (are_ground (trees_of (map tree_of ys))) h).0
    at_index (y ∷ ys) (suc k) d l h =
        at_index ys k d (omega (arith, l)) (and_parts (is_ground (tree_of y)) (are_ground (trees_of (map tree_of ys))) h).1

-- the nodes of one more term
pub walked-more :
    (old new : List Node) (terms : List Term) (i : ℕ) (term : Term) (ns later : List ℕ) (n : ℕ) → i < length terms → term ≡ get_or terms i term
    → AllStand old ns (trees_of (map tree_of (take i terms))) → IsGrown old new → Stands new n (tree_of term) → later ≡ ns ++ n ∷ []
    → AllStand new later (trees_of (map tree_of (take (i + 1) terms)))
walked-more old new terms i term ns later n low read all grown last is =
    subst (λ (ks : List ℕ). AllStand new ks (trees_of (map tree_of (take (i + 1) terms)))) (sym is)
    (all-stand-last new ns (trees_of (map tree_of (take i terms))) n (tree_of term) (trees_of (map tree_of (take (i + 1) terms)))
    (all-stand-still old new grown ns (trees_of (map tree_of (take i terms))) all) last
    (ap trees_of (map-take_more_item tree_of terms i term low read) ∙ trees-last-of (map tree_of (take i terms)) (tree_of term)))

-- ---- what calls answer

pub stands-answered :
    {E : Type 0} (r : Result ℕ E) (old new : List Node) (f : ℕ) (arguments : List ℕ) (ts : Trees) (t : Tree) → AllStand old arguments ts
    → t ≡ application f ts → IfOk r (λ (n : ℕ). n < length new)
    → IfOk r (λ (n : ℕ). node_at new n ≡ record { symbol = f; arguments = arguments }) → IfOk r (λ (n : ℕ). IsGrown old new)
    → IfOk r (λ (n : ℕ). Stands new n t)
stands-answered (Ok n) old new f arguments ts t all e within is grown =
    subst (Stands new n) (sym e) (stands-by new n f arguments ts within is (all-stand-still old new grown arguments ts all))
stands-answered (Err fault) old new f arguments ts t all e within is grown = tt

pub grown-answered :
    {E X : Type 0} (r : Result X E) (start old new : List Node) → IsGrown start old → IfOk r (λ (x : X). IsGrown old new)
    → IfOk r (λ (x : X). IsGrown start new)
grown-answered (Ok x) start old new first second = grown-twice start old new first second
grown-answered (Err fault) start old new first second = tt
