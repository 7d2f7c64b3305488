-- What is known at a place that has a node, and what a step down the tree keeps.
use Rattle.std.proofs.Common.{◌≡◌, ◌≢◌, ℕ, ◌<◌, ◌≤◌, List, [], ◌∷◌, ◌++◌, length, min, Option, Some, None, IfSome, IfNone, Box, refl, ap, sym, ◌∙◌, subst, inl, inr, arith, length-append}
use Rattle.std.specs.List.{AllByRecursion}
use Rattle.std.specs.declared.alloc.Global.{Global}
use Rattle.clause_queue.specs.Order.{IsLighter, IsNoHeavier}
use Rattle.clause_queue.specs.Pairs.{with_pair, IsAbsent}
use Rattle.clause_queue.specs.Node.{pair_of, pairs_of, MayStandBelow, IsPlaced, IsSound, IsSettled, IsBare, Takes, IsTopOf, Leads}
use Rattle.clause_queue.specs.TreeFalls.{length-with_pair}
use Rattle.clause_queue.specs.declared.tree.Entry.{Entry}
use Rattle.clause_queue.specs.declared.tree.Node.{Node}
use Rattle.clause_queue.proofs.PairsLemmas.{all-with_pair, all_parts, all-append, all_sides, all-weaker, all_both, with_pair_comm, with_pair-append_left, with_pair-append_right}

-- what is known of a place's pairs d once its node is n
pub record IsNodeOf (d : List (ℕ × ℕ)) (n : Node) : Type 0 where
  pub is : d ≡ with_pair (pair_of n.entry) (n.lower ++ n.upper)
  pub placed : IsPlaced n
  pub lower_shorter : length n.lower < length d
  pub upper_shorter : length n.upper < length d

pub node_of : {a : Option (Box Node Global)} {d : List (ℕ × ℕ)} {b : Box Node Global} (n : Node) → pairs_of a ≡ d → IsSound a → a ≡ Some b → n ≡ b.value → IsNodeOf d n
node_of {a} {d} {b} n view_is sound is same =
    let e : d ≡ with_pair (pair_of b.value.entry) (b.value.lower ++ b.value.upper) = sym view_is ∙ ap pairs_of is in
    let l = length-with_pair (pair_of b.value.entry) (b.value.lower ++ b.value.upper) in
    let m = length-append b.value.lower b.value.upper in
    rw same (record {
      is = e;
      placed = subst IsSound is sound;
      lower_shorter = rw e (omega (arith, l, m));
      upper_shorter = rw e (omega (arith, l, m));
    })

-- p may stand above all that stands below a heavier pair
below_lighter : (p q r : ℕ × ℕ) → IsLighter p q → p.0 ≢ r.0 → MayStandBelow q r → MayStandBelow p r
below_lighter p q r lighter other below = ((omega arith, λ tie. omega arith), λ same. other (sym same))

-- of a pair q that is put at a node: what is above, what goes on down, and that the pairs are the same
pub record IsStep (q above below : ℕ × ℕ) (n : Node) : Type 0 where
  pub order : MayStandBelow above below
  pub lower : AllByRecursion (MayStandBelow above) n.lower
  pub upper : AllByRecursion (MayStandBelow above) n.upper
  pub lower_free : IsAbsent below.0 n.lower
  pub upper_free : IsAbsent below.0 n.upper
  pub same : with_pair above (with_pair below (n.lower ++ n.upper)) ≡ with_pair q (with_pair (pair_of n.entry) (n.lower ++ n.upper))

stand_below : (p q : ℕ × ℕ) → IsLighter q p → (rs : List (ℕ × ℕ)) → IsAbsent q.0 rs → AllByRecursion (MayStandBelow p) rs → AllByRecursion (MayStandBelow q) rs
stand_below p q lighter [] absent below = tt
stand_below p q lighter (r ∷ rs) absent below =
    (below_lighter q p r lighter (λ same. absent.0 (sym same)) below.0, stand_below p q lighter rs absent.1 below.1)

pub step : (q above below : ℕ × ℕ) (n : Node) → IsPlaced n → IsAbsent q.0 (with_pair (pair_of n.entry) (n.lower ++ n.upper)) → IsSettled (pair_of n.entry) q above below → IsStep q above below n
step q above below n placed absent settled =
    let p : ℕ × ℕ = pair_of n.entry in
    let parts = all_parts (λ r. r.0 ≢ q.0) p (n.lower ++ n.upper) absent in
    let sides = all_sides (λ r. r.0 ≢ q.0) n.lower n.upper parts.1 in
    elim settled [
      | inl kept ↦ rw (kept.0, kept.1) (record {
        order = ((omega arith, λ tie. omega arith), λ same. parts.0 (sym same));
        lower = placed.lower_below;
        upper = placed.upper_below;
        lower_free = sides.0;
        upper_free = sides.1;
        same = with_pair_comm p q (n.lower ++ n.upper) parts.0;
      })
      | inr changed ↦ rw (changed.0, changed.1) (record {
        order = (changed.2, parts.0);
        lower = stand_below p q changed.2 n.lower sides.0 placed.lower_below;
        upper = stand_below p q changed.2 n.upper sides.1 placed.upper_below;
        lower_free = all-weaker (MayStandBelow p) (λ r. r.0 ≢ p.0) (λ r below. below.1) n.lower placed.lower_below;
        upper_free = all-weaker (MayStandBelow p) (λ r. r.0 ≢ p.0) (λ r below. below.1) n.upper placed.upper_below;
        same = refl;
      })
    ]

-- the same, from what is known where a node's entry is settled
pub step_of : {d : List (ℕ × ℕ)} (q above below : ℕ × ℕ) (n : Node) → IsNodeOf d n → IsAbsent q.0 d → IsSettled (pair_of n.entry) q above below → IsStep q above below n
step_of q above below n node absent settled = step q above below n node.placed (rw node.is at absent) settled

-- what a node is after a change of its entry and its sides, from a place that had the pairs d
pub record IsChanged (d : List (ℕ × ℕ)) (n : Node) : Type 0 where
  pub placed : IsPlaced n
  pub is : with_pair (pair_of n.entry) (n.lower ++ n.upper) ≡ d

-- what goes down is put into the lower side
pub put_lower : {d : List (ℕ × ℕ)} (q : ℕ × ℕ) (e f : Entry) (n : Node) (l : List (ℕ × ℕ)) → IsNodeOf d n → IsStep q (pair_of e) (pair_of f) n → f.number < n.split → l ≡ with_pair (pair_of f) n.lower → IsChanged (with_pair q d) (record { entry = e; split = n.split; lower = l; upper = n.upper })
put_lower {d} q e f n l node s left is =
    let above = all-weaker (λ r. n.split ≤ r.0) (λ r. f.number < r.0) (λ r high. omega arith) n.upper node.placed.upper_side in
    record {
      placed = record {
        lower_below = rw is (all-with_pair (MayStandBelow (pair_of e)) (pair_of f) n.lower s.order s.lower);
        upper_below = s.upper;
        lower_side = rw is (all-with_pair (λ r. r.0 < n.split) (pair_of f) n.lower left node.placed.lower_side);
        upper_side = node.placed.upper_side;
      };
      is = cc (with_pair-append_left (pair_of f) n.lower n.upper above, s.same, node.is, is);
    }

-- what goes down is put into the upper side
pub put_upper : {d : List (ℕ × ℕ)} (q : ℕ × ℕ) (e f : Entry) (n : Node) (u : List (ℕ × ℕ)) → IsNodeOf d n → IsStep q (pair_of e) (pair_of f) n → n.split ≤ f.number → u ≡ with_pair (pair_of f) n.upper → IsChanged (with_pair q d) (record { entry = e; split = n.split; lower = n.lower; upper = u })
put_upper {d} q e f n u node s right is =
    let below = all-weaker (λ r. r.0 < n.split) (λ r. r.0 ≤ f.number) (λ r low. omega arith) n.lower node.placed.lower_side in
    record {
      placed = record {
        lower_below = s.lower;
        upper_below = rw is (all-with_pair (MayStandBelow (pair_of e)) (pair_of f) n.upper s.order s.upper);
        lower_side = node.placed.lower_side;
        upper_side = rw is (all-with_pair (λ r. n.split ≤ r.0) (pair_of f) n.upper right node.placed.upper_side);
      };
      is = cc (with_pair-append_right (pair_of f) n.lower n.upper below, s.same, node.is, is);
    }

no_heavier_trans : (p q r : ℕ × ℕ) → IsNoHeavier p q → IsNoHeavier q r → IsNoHeavier p r
no_heavier_trans p q r first then = (omega arith, λ tie. omega arith)

-- the side whose top is no heavier leads
pub leads : {side other : List (ℕ × ℕ)} (n m : Node) → IsNodeOf side n → IsNodeOf other m → IsNoHeavier (pair_of n.entry) (pair_of m.entry) → Leads side other
leads {side} {other} n m first second order = record {
  over = λ p over.
      let above = all_parts (IsNoHeavier p) (pair_of n.entry) (n.lower ++ n.upper) (rw first.is at over) in
      let here = no_heavier_trans p (pair_of n.entry) (pair_of m.entry) above.0 order in
      let onward : (q : ℕ × ℕ) → MayStandBelow (pair_of m.entry) q → IsNoHeavier p q = λ q below. (omega arith, λ tie. omega arith) in
      rw second.is (all-with_pair (IsNoHeavier p) (pair_of m.entry) (m.lower ++ m.upper) here
      (all-append (IsNoHeavier p) m.lower m.upper (all-weaker _ (IsNoHeavier p) onward m.lower second.placed.lower_below) (all-weaker _ (IsNoHeavier p) onward m.upper second.placed.upper_below)));
  empty = λ none. absurd (omega (arith, first.lower_shorter, ap length none));
}

-- the node n is left as m where the lightest entry below it was taken out, in the node b
pub record IsPulled (n m : Node) (b : Box Node Global) : Type 0 where
  pub entry : m.entry ≡ n.entry
  pub bare : IsBare b
  pub is : n.lower ++ n.upper ≡ with_pair (pair_of b.value.entry) (m.lower ++ m.upper)
  pub placed : IsPlaced (record { entry = b.value.entry; split = m.split; lower = m.lower; upper = m.upper })

-- what was taken from a side that leads is no heavier than the other side
over_other : (b : Box Node Global) (side other new : List (ℕ × ℕ)) → Leads side other → Takes b side new → IsTopOf (pair_of b.value.entry) new → AllByRecursion (IsNoHeavier (pair_of b.value.entry)) other
over_other b side other new lead taken top =
    let p = pair_of b.value.entry in
    lead.over p (rw taken.is (all-with_pair (IsNoHeavier p) p new (omega arith, λ tie. omega arith) (all-weaker (MayStandBelow p) (IsNoHeavier p) (λ q below. (omega arith, λ tie. omega arith)) new top)))

pub pull_upper : {d : List (ℕ × ℕ)} (n m : Node) (b : Box Node Global) (u : List (ℕ × ℕ)) → IsNodeOf d n → Leads n.upper n.lower → Takes b n.upper u → IsTopOf (pair_of b.value.entry) u → m ≡ record { entry = n.entry; split = n.split; lower = n.lower; upper = u } → IsPulled n m b
pull_upper {d} n m b u node lead taken top left =
    let p = pair_of b.value.entry in
    let over = over_other b n.upper n.lower u lead taken top in
    let side = all_parts (λ r. n.split ≤ r.0) p u (rw taken.is at node.placed.upper_side) in
    let below : AllByRecursion (λ r. r.0 ≤ p.0) n.lower = all-weaker (λ r. r.0 < n.split) (λ r. r.0 ≤ p.0) (λ r low. omega (arith, side.0)) n.lower node.placed.lower_side in
    rw left (record {
      entry = refl;
      bare = taken.bare;
      is = ap (λ l. n.lower ++ l) taken.is ∙ sym (with_pair-append_right p n.lower u below);
      placed = record {
        lower_below = all_both (IsNoHeavier p) (λ r. r.0 < n.split) (MayStandBelow p) (λ r no_heavier low. ((omega arith, λ tie. omega (arith, side.0)), λ same. absurd (omega (arith, side.0)))) n.lower over node.placed.lower_side;
        upper_below = top;
        lower_side = node.placed.lower_side;
        upper_side = side.1;
      };
    })

pub pull_lower : {d : List (ℕ × ℕ)} (n m : Node) (b : Box Node Global) (l : List (ℕ × ℕ)) → IsNodeOf d n → Leads n.lower n.upper → Takes b n.lower l → IsTopOf (pair_of b.value.entry) l → m ≡ record { entry = n.entry; split = n.split; lower = l; upper = n.upper } → IsPulled n m b
pull_lower {d} n m b l node lead taken top left =
    let p = pair_of b.value.entry in
    let over = over_other b n.lower n.upper l lead taken top in
    let side = all_parts (λ r. r.0 < n.split) p l (rw taken.is at node.placed.lower_side) in
    let above : AllByRecursion (λ r. p.0 < r.0) n.upper = all-weaker (λ r. n.split ≤ r.0) (λ r. p.0 < r.0) (λ r high. omega (arith, side.0)) n.upper node.placed.upper_side in
    rw left (record {
      entry = refl;
      bare = taken.bare;
      is = ap (λ t. t ++ n.upper) taken.is ∙ sym (with_pair-append_left p l n.upper above);
      placed = record {
        lower_below = top;
        upper_below = all_both (IsNoHeavier p) (λ r. n.split ≤ r.0) (MayStandBelow p) (λ r no_heavier high. ((omega arith, λ tie. omega (arith, side.0)), λ same. absurd (omega (arith, side.0)))) n.upper over node.placed.upper_side;
        lower_side = side.1;
        upper_side = node.placed.upper_side;
      };
    })

-- the old entry is above all that is left
pub pulled_top : {d : List (ℕ × ℕ)} (n m : Node) (b : Box Node Global) → IsNodeOf d n → IsPulled n m b → IsTopOf (pair_of n.entry) (with_pair (pair_of b.value.entry) (m.lower ++ m.upper))
pulled_top n m b node pulled = rw (← pulled.is) (all-append (MayStandBelow (pair_of n.entry)) n.lower n.upper node.placed.lower_below node.placed.upper_below)

-- nothing but the old entry is gone
pub pulled_is : {d : List (ℕ × ℕ)} (n m : Node) (b : Box Node Global) → IsNodeOf d n → IsPulled n m b → d ≡ with_pair (pair_of n.entry) (with_pair (pair_of b.value.entry) (m.lower ++ m.upper))
pulled_is n m b node pulled = node.is ∙ ap (λ l. with_pair (pair_of n.entry) l) pulled.is

-- what a take of a number leaves of a place that had the pairs d: the place a, and the answer r
pub record IsTaken (number : ℕ) (d : List (ℕ × ℕ)) (a r : Option (Box Node Global)) : Type 0 where
  pub sound : IsSound a
  pub taken : IfSome r (λ b. Takes b d (pairs_of a))
  pub none : IfNone r (IsAbsent number d × (pairs_of a ≡ d))

pub take_lower : {d : List (ℕ × ℕ)} (number : ℕ) (n : Node) (l : List (ℕ × ℕ)) (o : Box Node Global) (r : Option (Box Node Global)) → IsNodeOf d n → o.value ≡ record { entry = n.entry; split = n.split; lower = l; upper = n.upper } → number ≢ n.entry.number → number < n.split → IfSome r (λ b. Takes b n.lower l) → IfNone r (IsAbsent number n.lower × (l ≡ n.lower)) → IsTaken number d (Some o) r
take_lower {d} number n l o None node left differ less taken none = rw left (record {
  sound = rw none.1 node.placed;
  taken = tt;
  none = (
    rw node.is (all-with_pair (λ q. q.0 ≢ number) (pair_of n.entry) (n.lower ++ n.upper) (λ same. differ (sym same))
        (all-append (λ q. q.0 ≢ number) n.lower n.upper none.0 (all-weaker (λ q. n.split ≤ q.0) (λ q. q.0 ≢ number) (λ q high same. absurd (omega arith)) n.upper node.placed.upper_side))),
    rw none.1 (sym node.is),
  );
})
take_lower {d} number n l o (Some b) node left differ less taken none =
    let p = pair_of b.value.entry in
    let below = all_parts (MayStandBelow (pair_of n.entry)) p l (rw taken.is at node.placed.lower_below) in
    let side = all_parts (λ q. q.0 < n.split) p l (rw taken.is at node.placed.lower_side) in
    let above : AllByRecursion (λ q. p.0 < q.0) n.upper = all-weaker (λ q. n.split ≤ q.0) (λ q. p.0 < q.0) (λ q high. omega (arith, side.0)) n.upper node.placed.upper_side in
    rw left (record {
      sound = record { lower_below = below.1; upper_below = node.placed.upper_below; lower_side = side.1; upper_side = node.placed.upper_side };
      taken = record {
        bare = taken.bare;
        is = cc (node.is, taken.is, with_pair-append_left p l n.upper above, with_pair_comm p (pair_of n.entry) (l ++ n.upper) below.0.1);
      };
      none = tt;
    })

pub take_upper : {d : List (ℕ × ℕ)} (number : ℕ) (n : Node) (u : List (ℕ × ℕ)) (o : Box Node Global) (r : Option (Box Node Global)) → IsNodeOf d n → o.value ≡ record { entry = n.entry; split = n.split; lower = n.lower; upper = u } → number ≢ n.entry.number → n.split ≤ number → IfSome r (λ b. Takes b n.upper u) → IfNone r (IsAbsent number n.upper × (u ≡ n.upper)) → IsTaken number d (Some o) r
take_upper {d} number n u o None node left differ more taken none = rw left (record {
  sound = rw none.1 node.placed;
  taken = tt;
  none = (
    rw node.is (all-with_pair (λ q. q.0 ≢ number) (pair_of n.entry) (n.lower ++ n.upper) (λ same. differ (sym same))
        (all-append (λ q. q.0 ≢ number) n.lower n.upper (all-weaker (λ q. q.0 < n.split) (λ q. q.0 ≢ number) (λ q low same. absurd (omega arith)) n.lower node.placed.lower_side) none.0)),
    rw none.1 (sym node.is),
  );
})
take_upper {d} number n u o (Some b) node left differ more taken none =
    let p = pair_of b.value.entry in
    let below = all_parts (MayStandBelow (pair_of n.entry)) p u (rw taken.is at node.placed.upper_below) in
    let side = all_parts (λ q. n.split ≤ q.0) p u (rw taken.is at node.placed.upper_side) in
    let under : AllByRecursion (λ q. q.0 ≤ p.0) n.lower = all-weaker (λ q. q.0 < n.split) (λ q. q.0 ≤ p.0) (λ q low. omega (arith, side.0)) n.lower node.placed.lower_side in
    rw left (record {
      sound = record { lower_below = node.placed.lower_below; upper_below = below.1; lower_side = node.placed.lower_side; upper_side = side.1 };
      taken = record {
        bare = taken.bare;
        is = cc (node.is, taken.is, with_pair-append_right p n.lower u under, with_pair_comm p (pair_of n.entry) (n.lower ++ u) below.0.1);
      };
      none = tt;
    })

-- the lightest entry of a place is its node's
pub top_number : {d : List (ℕ × ℕ)} (n : Node) (b : Box Node Global) (new : List (ℕ × ℕ)) → IsNodeOf d n → Takes b d new → IsTopOf (pair_of b.value.entry) new → b.value.entry.number ≡ n.entry.number
top_number {d} n b new node taken top =
    let p = pair_of b.value.entry in
    let q = pair_of n.entry in
    let self : IsNoHeavier p p = (omega arith, λ tie. omega arith) in
    let own : IsNoHeavier q q = (omega arith, λ tie. omega arith) in
    let down : (s : ℕ × ℕ) (r : ℕ × ℕ) → MayStandBelow s r → IsNoHeavier s r = λ s r below. (omega arith, λ tie. omega arith) in
    let over = all-with_pair (IsNoHeavier p) p new self (all-weaker (MayStandBelow p) (IsNoHeavier p) (down p) new top) in
    let under = all-with_pair (IsNoHeavier q) q (n.lower ++ n.upper) own (all-append (IsNoHeavier q) n.lower n.upper (all-weaker (MayStandBelow q) (IsNoHeavier q) (down q) n.lower node.placed.lower_below) (all-weaker (MayStandBelow q) (IsNoHeavier q) (down q) n.upper node.placed.upper_below)) in
    let here = (all_parts (IsNoHeavier p) q (n.lower ++ n.upper) (rw (← taken.is, node.is) at over)).0 in
    let there = (all_parts (IsNoHeavier q) p new (rw (← node.is, taken.is) at under)).0 in
    omega (arith, here.0, there.0, here.1, there.1)

-- m is the least of a number and of those of the pairs d
pub record IsLeastNumber (number m : ℕ) (d : List (ℕ × ℕ)) : Type 0 where
  pub least : AllByRecursion (λ q. m ≤ q.0) d
  pub given : IsAbsent m d → m ≡ number

-- a number that a place lacks is not its node's, and neither side has it
pub absent_parts : {d : List (ℕ × ℕ)} (n : Node) (m : ℕ) → IsNodeOf d n → IsAbsent m d → (n.entry.number ≢ m) × IsAbsent m n.lower × IsAbsent m n.upper
absent_parts {d} n m node absent =
    let parts = all_parts (λ q. q.0 ≢ m) (pair_of n.entry) (n.lower ++ n.upper) (rw node.is at absent) in
    let sides = all_sides (λ q. q.0 ≢ m) n.lower n.upper parts.1 in
    (parts.0, sides.0, sides.1)

below_split : (split m : ℕ) (qs : List (ℕ × ℕ)) → (qs ≡ [] → ⊥) → AllByRecursion (λ q. m ≤ q.0) qs → AllByRecursion (λ q. q.0 < split) qs → m ≤ split
below_split split m [] some least side = absurd (some refl)
below_split split m (q ∷ qs) some least side = omega (arith, least.0, side.0)

-- a step to the lower side, which has the lower numbers
pub least_of_lower : {d : List (ℕ × ℕ)} (n : Node) (number m : ℕ) → IsNodeOf d n → (n.lower ≡ [] → ⊥) → m ≤ min number n.entry.number → IsLeastNumber (min number n.entry.number) m n.lower → IsLeastNumber number m d
least_of_lower {d} n number m node some own below =
    let first : m ≤ n.split = below_split n.split m n.lower some below.least node.placed.lower_side in
    record {
      least = rw node.is (all-with_pair (λ q. m ≤ q.0) (pair_of n.entry) (n.lower ++ n.upper) (omega arith)
          (all-append (λ q. m ≤ q.0) n.lower n.upper below.least (all-weaker (λ q. n.split ≤ q.0) (λ q. m ≤ q.0) (λ q high. omega arith) n.upper node.placed.upper_side)));
      given = λ absent. let parts = absent_parts n m node absent in let same = below.given parts.1 in omega (arith, parts.0);
    }

-- a step to the upper side, where the lower has nothing
pub least_of_upper : {d : List (ℕ × ℕ)} (n : Node) (number m : ℕ) → IsNodeOf d n → n.lower ≡ [] → m ≤ min number n.entry.number → IsLeastNumber (min number n.entry.number) m n.upper → IsLeastNumber number m d
least_of_upper {d} n number m node none own below = record {
  least = rw node.is (all-with_pair (λ q. m ≤ q.0) (pair_of n.entry) (n.lower ++ n.upper) (omega arith) (all-append (λ q. m ≤ q.0) n.lower n.upper (rw none tt) below.least));
  given = λ absent. let parts = absent_parts n m node absent in let same = below.given parts.2 in omega (arith, parts.0);
}
