-- A step from clauses whose names have other numbers, in the same order, concludes the same clause with these numbers.
use mathlib.Core.Bool.{beq}
use Rattle.std.proofs.Common.{◌≡◌, ℕ, Bool, true, false, not, ◌&&◌, ◌||◌, ◌==◌, List, [], ◌∷◌, ◌++◌, map, length, Option, None, Some, refl, ap, ap₂, sym, ◌∙◌, subst, ⊎_elim}
use Rattle.std.specs.Prelude.{nat_lt, flat_map, option_map, option_and_then, if◌then◌else◌}
use Rattle.std.specs.List.{list_all, AllByRecursion}
use Rattle.std.proofs.lemmas.Bool.{and_parts, or_cases, eqb-true, false≢true}
use Rattle.std.proofs.lemmas.Option.{none-some, same_Some, option_and_then_some}
use Rattle.std.proofs.lemmas.List.{map-append}
use Rattle.plain_types.specs.declared.sequence.NameLit.{NameLit}
use Rattle.plain_types.specs.Names.{same_name, opposite, has_name, without, can_resolve, resolvent}
use Rattle.fol_base.specs.Tree.{Tree}
use Rattle.fol_base.specs.Clause.{TreeLiteral, TreeClause}
use Rattle.fol_base.proofs.WorkedExamples.TestLemmas.{option_map-some, if_some}
use Rattle.kernel_steps.specs.Names.{name_before, with_name, with_names, sorted_names, chained_from, chained, are_sorted}
use Rattle.kernel_steps.specs.Parents.{Parent, Parents, all_there}
use Rattle.kernel_steps.specs.Split.{is_split, literals_at, defines, are_defined, is_part, share_out, share_no_variables}
use Rattle.kernel_steps.specs.Conclusion.{concludes, verdict_of, verdict_if, clause_with, by_one, by_two, split_from, names_alone, names_at, clause_of_names}
use Rattle.kernel_steps.proofs.AboutNames.SortedNames.{sorted_names_law}
use Rattle.kernel_steps.proofs.AboutCalls.VerdictParts.{OneParts, TwoParts, SplitParts}

module _ (number : ℕ → ℕ) where
  abbrev pub renamed : NameLit → NameLit
  renamed n = record { positive = n.positive; name = number n.name }

  abbrev pub renamed_clause : TreeClause → TreeClause
  renamed_clause c = record { literals = c.literals; names = map renamed c.names }

  abbrev pub renamed_parent : Parent → Parent
  renamed_parent p = record { clause = renamed_clause p.clause; introduces = p.introduces }

  -- ---- numbers of which some are known

  module _ (Known : ℕ → Type 0) where
    abbrev pub AllKnown : List NameLit → Type 0
    AllKnown ns = AllByRecursion (λ (n : NameLit). Known n.name) ns

    abbrev pub HaveKnown : List Parent → Type 0
    HaveKnown ds = AllByRecursion (λ (d : Parent). AllKnown d.clause.names) ds

    -- the conclusion has known names, which are sorted, and is the renamed one from the renamed parents
    pub record IsRenamedVerdict (c : TreeClause) (renamed_verdict : TreeClause → Type 0) : Type 0 where
      pub known : AllKnown c.names
      pub sorted : are_sorted c.names ≡ true
      pub concluded : renamed_verdict (renamed_clause c)

    -- what a parent by its number is, where it is another number's
    abbrev pub IsRenamedAt : Parents → Parents → (ℕ → ℕ) → ℕ → Type 0
    IsRenamedAt look other place n =
        (p : Parent) → look n ≡ Some p → AllKnown p.clause.names × (other (place n) ≡ Some (renamed_parent p))

    -- ---- and keep their order

    module _ (order : (n m : ℕ) → Known n → Known m → (nat_lt (number n) (number m) ≡ nat_lt n m) × ((number n == number m) ≡ (n == m))) where
      same-renamed : (n m : NameLit) → Known n.name → Known m.name → same_name (renamed n) (renamed m) ≡ same_name n m
      same-renamed n m k l = ap (λ b. beq n.positive m.positive && b) (order n.name m.name k l).1

      before-renamed : (n m : NameLit) → Known n.name → Known m.name → name_before (renamed n) (renamed m) ≡ name_before n m
      before-renamed n m k l =
          ap₂ (λ a b. a || (b && (not n.positive && m.positive))) (order n.name m.name k l).0 (order n.name m.name k l).1

      pub are_sorted-renamed : (ns : List NameLit) → AllKnown ns → are_sorted (map renamed ns) ≡ are_sorted ns
      are_sorted-renamed [] h = refl
      are_sorted-renamed (n ∷ []) h = refl
      are_sorted-renamed (n ∷ m ∷ ms) h =
          ap₂ ◌&&◌ (before-renamed n m h.0 (h.1).0) (are_sorted-renamed (m ∷ ms) h.1)

      pub known-joined : (ns ms : List NameLit) → AllKnown ns → AllKnown ms → AllKnown (ns ++ ms)
      known-joined [] ms h g = g
      known-joined (n ∷ ns) ms h g = (h.0, known-joined ns ms h.1 g)

      -- ---- sorted lists

      with_name-known : (n : NameLit) (ms : List NameLit) → Known n.name → AllKnown ms → AllKnown (with_name n ms)
      with_name-known n [] k h = (k, tt)
      with_name-known n (m ∷ ms) k h = by (same_name n m) (name_before n m) (with_name-known n ms k h.1)
        where
          by :
              (s b : Bool) → AllKnown (with_name n ms)
              → AllKnown (if s then m ∷ ms else (if b then n ∷ m ∷ ms else m ∷ with_name n ms))
          by true b rest = h
          by false true rest = (k, h)
          by false false rest = (h.0, rest)

      with_name-renamed :
          (n : NameLit) (ms : List NameLit) → Known n.name → AllKnown ms
          → with_name (renamed n) (map renamed ms) ≡ map renamed (with_name n ms)
      with_name-renamed n [] k h = refl
      with_name-renamed n (m ∷ ms) k h =
          ap₂ (λ s b. put s b) (same-renamed n m k h.0) (before-renamed n m k h.0)
          ∙ by (same_name n m) (name_before n m) (with_name-renamed n ms k h.1)
        where
          put : Bool → Bool → List NameLit
          put s b =
              if s then renamed m ∷ map renamed ms
              else (if b then renamed n ∷ renamed m ∷ map renamed ms else renamed m ∷ with_name (renamed n) (map renamed ms))

          by :
              (s b : Bool) → with_name (renamed n) (map renamed ms) ≡ map renamed (with_name n ms)
              → put s b ≡ map renamed (if s then m ∷ ms else (if b then n ∷ m ∷ ms else m ∷ with_name n ms))
          by true b rest = refl
          by false true rest = refl
          by false false rest = ap (λ xs. renamed m ∷ xs) rest

      with_names-known : (ns ms : List NameLit) → AllKnown ns → AllKnown ms → AllKnown (with_names ns ms)
      with_names-known [] ms h g = g
      with_names-known (n ∷ ns) ms h g = with_names-known ns (with_name n ms) h.1 (with_name-known n ms h.0 g)

      with_names-renamed :
          (ns ms : List NameLit) → AllKnown ns → AllKnown ms
          → with_names (map renamed ns) (map renamed ms) ≡ map renamed (with_names ns ms)
      with_names-renamed [] ms h g = refl
      with_names-renamed (n ∷ ns) ms h g =
          ap (with_names (map renamed ns)) (with_name-renamed n ms h.0 g)
          ∙ with_names-renamed ns (with_name n ms) h.1 (with_name-known n ms h.0 g)

      sorted-known : (ns : List NameLit) → AllKnown ns → AllKnown (sorted_names ns)
      sorted-known ns h = with_names-known ns [] h tt

      sorted-renamed : (ns : List NameLit) → AllKnown ns → sorted_names (map renamed ns) ≡ map renamed (sorted_names ns)
      sorted-renamed ns h = with_names-renamed ns [] h tt

      -- ---- resolution

      has-known : (n : NameLit) (ms : List NameLit) → AllKnown ms → has_name n ms ≡ true → Known n.name
      has-known n [] h has = absurd (false≢true has)
      has-known n (m ∷ ms) h has =
          ⊎_elim
          (λ same. subst Known (sym (eqb-true n.name m.name (and_parts (beq n.positive m.positive) (n.name == m.name) same).1)) h.0)
          (λ later. has-known n ms h.1 later)
          (or_cases (same_name n m) (has_name n ms) has)

      has-renamed : (n : NameLit) (ms : List NameLit) → Known n.name → AllKnown ms → has_name (renamed n) (map renamed ms) ≡ has_name n ms
      has-renamed n [] k h = refl
      has-renamed n (m ∷ ms) k h = ap₂ ◌||◌ (same-renamed n m k h.0) (has-renamed n ms k h.1)

      without-known : (n : NameLit) (ms : List NameLit) → AllKnown ms → AllKnown (without n ms)
      without-known n [] h = tt
      without-known n (m ∷ ms) h = by (not (same_name n m)) (without-known n ms h.1)
        where
          by : (b : Bool) → AllKnown (without n ms) → AllKnown (if b then m ∷ without n ms else without n ms)
          by true rest = (h.0, rest)
          by false rest = rest

      without-renamed :
          (n : NameLit) (ms : List NameLit) → Known n.name → AllKnown ms → without (renamed n) (map renamed ms) ≡ map renamed (without n ms)
      without-renamed n [] k h = refl
      without-renamed n (m ∷ ms) k h =
          ap (λ s. if not s then renamed m ∷ without (renamed n) (map renamed ms) else without (renamed n) (map renamed ms)) (same-renamed n m k h.0)
          ∙ by (not (same_name n m)) (without-renamed n ms k h.1)
        where
          by :
              (b : Bool) → without (renamed n) (map renamed ms) ≡ map renamed (without n ms)
              → (if b then renamed m ∷ without (renamed n) (map renamed ms) else without (renamed n) (map renamed ms))
              ≡ map renamed (if b then m ∷ without n ms else without n ms)
          by true rest = ap (λ xs. renamed m ∷ xs) rest
          by false rest = rest

      resolvent-known : (p : NameLit) (ns ms : List NameLit) → AllKnown ns → AllKnown ms → AllKnown (resolvent p ns ms)
      resolvent-known p ns ms h g =
          known-joined (without p ns) (without (opposite p) ms) (without-known p ns h) (without-known (opposite p) ms g)

      resolvent-renamed :
          (p : NameLit) (ns ms : List NameLit) → Known p.name → AllKnown ns → AllKnown ms
          → resolvent (renamed p) (map renamed ns) (map renamed ms) ≡ map renamed (resolvent p ns ms)
      resolvent-renamed p ns ms k h g =
          ap₂ ◌++◌ (without-renamed p ns k h) (without-renamed (opposite p) ms k g)
          ∙ sym (map-append renamed (without p ns) (without (opposite p) ms))

      -- what is known of a chain, and that it is one with the other numbers
      pub record IsRenamedChain (names pivots : List NameLit) (mss : List (List NameLit)) (made : List NameLit) : Type 0 where
        pub pivots_known : AllKnown pivots
        pub made_known : AllKnown made
        pub made_sorted : are_sorted made ≡ true
        pub renamed_is : chained_from (map renamed names) (map renamed pivots) (map (map renamed) mss) ≡ Some (map renamed made)

      chain-renamed :
          (names pivots : List NameLit) (mss : List (List NameLit)) (made : List NameLit)
          → AllKnown names → are_sorted names ≡ true → AllByRecursion AllKnown mss → chained_from names pivots mss ≡ Some made
          → IsRenamedChain names pivots mss made
      chain-renamed names [] [] made h sorted g is = record {
        pivots_known = tt;
        made_known = subst AllKnown (same_Some names made is) h;
        made_sorted = ap are_sorted (sym (same_Some names made is)) ∙ sorted;
        renamed_is = ap (λ ns. Some (map renamed ns)) (same_Some names made is);
      }
      chain-renamed names [] (ms ∷ mss) made h sorted g is = absurd (none-some made is)
      chain-renamed names (p ∷ ps) [] made h sorted g is = absurd (none-some made is)
      chain-renamed names (p ∷ ps) (ms ∷ mss) made h sorted g is =
          let next : List NameLit = sorted_names (resolvent p names ms) in
          let tests = if_some (can_resolve p names ms) (chained_from next ps mss) made is in
          let known : Known p.name = has-known p names h (and_parts (has_name p names) (has_name (opposite p) ms) tests.0).0 in
          let rest : IsRenamedChain next ps mss made =
          chain-renamed next ps mss made (sorted-known (resolvent p names ms) (resolvent-known p names ms h g.0))
          (sorted_names_law (resolvent p names ms)).0 g.1 tests.1 in
          let can : can_resolve (renamed p) (map renamed names) (map renamed ms) ≡ true =
          ap₂ ◌&&◌ (has-renamed p names known h) (has-renamed (opposite p) ms known g.0) ∙ tests.0 in
          let next_is : sorted_names (resolvent (renamed p) (map renamed names) (map renamed ms)) ≡ map renamed next =
          ap sorted_names (resolvent-renamed p names ms known h g.0) ∙ sorted-renamed (resolvent p names ms) (resolvent-known p names ms h g.0) in
          record {
            pivots_known = (known, rest.pivots_known);
            made_known = rest.made_known;
            made_sorted = rest.made_sorted;
            renamed_is =
                ap₂ (λ b ns. if b then chained_from ns (map renamed ps) (map (map renamed) mss) else None) can next_is
                ∙ rest.renamed_is;
          }

      -- ---- what is concluded

      clause-known : (ns : List NameLit) (ls : List TreeLiteral) (c : TreeClause) → AllKnown ns → clause_with ns ls ≡ c → AllKnown c.names
      clause-known ns ls c h gives = subst (λ (d : TreeClause). AllKnown d.names) gives (sorted-known ns h)

      clause-sorted : (ns : List NameLit) (ls : List TreeLiteral) (c : TreeClause) → clause_with ns ls ≡ c → are_sorted c.names ≡ true
      clause-sorted ns ls c gives = ap (λ (d : TreeClause). are_sorted d.names) (sym gives) ∙ (sorted_names_law ns).0

      clause-renamed :
          (ns : List NameLit) (ls : List TreeLiteral) (c : TreeClause) → AllKnown ns → clause_with ns ls ≡ c
          → clause_with (map renamed ns) ls ≡ renamed_clause c
      clause-renamed ns ls c h gives =
          ap (λ ms. with_literals ms) (sorted-renamed ns h) ∙ ap renamed_clause gives
        where
          with_literals : List NameLit → TreeClause
          with_literals ms = record { literals = ls; names = ms }

      pub one-named :
          (parent : Option Parent) (bind : List Tree) (rule : List TreeLiteral → Option (List TreeLiteral)) (c : TreeClause)
          → (parts : OneParts parent bind rule c) → AllKnown (parts.source).clause.names
          → IsRenamedVerdict c (λ d. by_one (Some (renamed_parent parts.source)) bind rule ≡ concludes d)
      one-named parent bind rule c parts h =
          let ns : List NameLit = (parts.source).clause.names in
          record {
            known = clause-known ns parts.literals c h parts.gives;
            sorted = clause-sorted ns parts.literals c parts.gives;
            concluded =
                ap₂ (λ b o. verdict_if b (option_map (clause_with (map renamed ns)) o)) parts.bound parts.made
                ∙ ap concludes (clause-renamed ns parts.literals c h parts.gives);
          }

      pub two-named :
          (first : Option Parent) (x : List Tree) (second : Option Parent) (y : List Tree)
          (rule : List TreeLiteral → List TreeLiteral → Option (List TreeLiteral)) (c : TreeClause)
          → (parts : TwoParts first x second y rule c) → AllKnown (parts.source).clause.names → AllKnown (parts.target).clause.names
          → IsRenamedVerdict c
          (λ d. by_two (Some (renamed_parent parts.source)) x (Some (renamed_parent parts.target)) y rule ≡ concludes d)
      two-named first x second y rule c parts h g =
          let ns : List NameLit = (parts.source).clause.names in
          let ms : List NameLit = (parts.target).clause.names in
          let both : AllKnown (ns ++ ms) = known-joined ns ms h g in
          record {
            known = clause-known (ns ++ ms) parts.literals c both parts.gives;
            sorted = clause-sorted (ns ++ ms) parts.literals c parts.gives;
            concluded =
                ap₂ (λ b o. verdict_if b (option_map (clause_with (map renamed ns ++ map renamed ms)) o))
                (ap₂ ◌&&◌ parts.first_bound parts.second_bound) parts.made
                ∙ ap (λ ks. concludes (clause_with ks parts.literals)) (sym (map-append renamed ns ms))
                ∙ ap concludes (clause-renamed (ns ++ ms) parts.literals c both parts.gives);
          }

      -- ---- splits

      defined-renamed :
          (ds : List Parent) (lss : List (List TreeLiteral))
          → are_defined (map Some (map renamed_parent ds)) lss ≡ are_defined (map Some ds) lss
      defined-renamed [] [] = refl
      defined-renamed [] (ls ∷ lss) = refl
      defined-renamed (d ∷ ds) [] = refl
      defined-renamed (d ∷ ds) (ls ∷ lss) = ap (λ b. defines d ls && b) (defined-renamed ds lss)

      split-renamed :
          (ls : List TreeLiteral) (ds : List Parent) (parts : List (List ℕ)) → is_split ls (map renamed_parent ds) parts ≡ is_split ls ds parts
      split-renamed ls ds parts =
          ap
          (λ b. not (length parts == 0) && (list_all is_part parts && (share_out (length ls) parts && (share_no_variables (map (literals_at ls) parts) && b))))
          (defined-renamed ds (map (literals_at ls) parts))

      abbrev names_of : List Parent → List NameLit
      names_of ds = flat_map (λ (d : Parent). d.clause.names) ds

      names-known : (ds : List Parent) → HaveKnown ds → AllKnown (names_of ds)
      names-known [] h = tt
      names-known (d ∷ ds) h = known-joined d.clause.names (names_of ds) h.0 (names-known ds h.1)

      names-renamed : (ds : List Parent) → names_of (map renamed_parent ds) ≡ map renamed (names_of ds)
      names-renamed [] = refl
      names-renamed (d ∷ ds) =
          ap (λ ns. map renamed d.clause.names ++ ns) (names-renamed ds) ∙ sym (map-append renamed d.clause.names (names_of ds))

      opposites-known : (ns : List NameLit) → AllKnown ns → AllKnown (map opposite ns)
      opposites-known [] h = tt
      opposites-known (n ∷ ns) h = (h.0, opposites-known ns h.1)

      opposites-renamed : (ns : List NameLit) → map opposite (map renamed ns) ≡ map renamed (map opposite ns)
      opposites-renamed [] = refl
      opposites-renamed (n ∷ ns) = ap (λ ms. opposite (renamed n) ∷ ms) (opposites-renamed ns)

      pub split-named :
          (parent : Option Parent) (definitions : List (Option Parent)) (shares : List (List ℕ)) (c : TreeClause)
          → (parts : SplitParts parent definitions shares c) → AllKnown (parts.source).clause.names → HaveKnown parts.defined
          → IsRenamedVerdict c
          (λ d. verdict_of (split_from (renamed_parent parts.source) (map renamed_parent parts.defined) shares) ≡ concludes d)
      split-named parent definitions shares c parts h g =
          let p : Parent = parts.source in
          let ds : List Parent = parts.defined in
          let ns : List NameLit = p.clause.names in
          let ms : List NameLit = map opposite (names_of ds) in
          let both : AllKnown (ns ++ ms) = known-joined ns ms h (opposites-known (names_of ds) (names-known ds g)) in
          let names_are : map renamed ns ++ map opposite (names_of (map renamed_parent ds)) ≡ map renamed (ns ++ ms) =
          ap (λ ks. map renamed ns ++ map opposite ks) (names-renamed ds) ∙ ap (λ ks. map renamed ns ++ ks) (opposites-renamed (names_of ds))
          ∙ sym (map-append renamed ns ms) in
          record {
            known = clause-known (ns ++ ms) [] c both parts.gives;
            sorted = clause-sorted (ns ++ ms) [] c parts.gives;
            concluded =
                ap₂ (λ b ks. verdict_of (if b then Some (clause_with ks []) else None)) (split-renamed p.clause.literals ds shares ∙ parts.is_one) names_are
                ∙ ap concludes (clause-renamed (ns ++ ms) [] c both parts.gives);
          }

      -- ---- chains

      names-alone :
          (p : Parent) (ns : List NameLit) → names_alone p ≡ Some ns → AllKnown p.clause.names
          → AllKnown ns × (names_alone (renamed_parent p) ≡ Some (map renamed ns))
      names-alone p ns h known =
          let tests = if_some (length p.clause.literals == 0) (Some p.clause.names) ns h in
          let same : p.clause.names ≡ ns = same_Some p.clause.names ns tests.1 in (
            subst AllKnown same known,
            ap (λ b. if b then Some (map renamed p.clause.names) else None) tests.0 ∙ ap (λ ms. Some (map renamed ms)) same,
          )

      pub chain-named :
          (lists : List (List NameLit)) (pivots names : List NameLit)
          → AllByRecursion AllKnown lists → chained lists pivots ≡ Some names
          → AllKnown pivots
          × IsRenamedVerdict (clause_of_names names) (λ d. chained (map (map renamed) lists) (map renamed pivots) ≡ Some d.names)
      chain-named [] pivots names h is = absurd (none-some names is)
      chain-named (ns ∷ nss) pivots names h is =
          let chain : IsRenamedChain (sorted_names ns) pivots nss names =
          chain-renamed (sorted_names ns) pivots nss names (sorted-known ns h.0) (sorted_names_law ns).0 h.1 is in (
            chain.pivots_known,
            record {
              known = chain.made_known;
              sorted = chain.made_sorted;
              concluded = ap (λ ms. chained_from ms (map renamed pivots) (map (map renamed) nss)) (sorted-renamed ns h.0) ∙ chain.renamed_is;
            },
          )

      -- ---- parents that are looked up elsewhere, renamed

      pub parents-there :
          (look other : Parents) (place : ℕ → ℕ) (ns : List ℕ) (ps : List Parent)
          → AllByRecursion (IsRenamedAt look other place) ns → all_there (map look ns) ≡ Some ps
          → HaveKnown ps × (all_there (map other (map place ns)) ≡ Some (map renamed_parent ps))
      parents-there look other place [] ps h there =
          let same : [] ≡ ps = same_Some [] ps there in (subst HaveKnown same tt, ap (λ qs. Some (map renamed_parent qs)) same)
      parents-there look other place (n ∷ ns) ps h there =
          option_and_then_some (λ x. option_map (λ ys. x ∷ ys) (all_there (map look ns))) (look n) ps there λ p p_is p_step.
          option_map-some (λ ys. p ∷ ys) (all_there (map look ns)) ps p_step λ qs qs_is gives.
          let first = h.0 p p_is in
          let rest = parents-there look other place ns qs h.1 qs_is in (
            subst HaveKnown gives (first.0, rest.0),
            ap₂ (λ (o : Option Parent) os. option_and_then (λ x. option_map (λ ys. x ∷ ys) os) o) first.1 rest.1
                ∙ ap (λ qs. Some (map renamed_parent qs)) gives,
          )

      pub lists-there :
          (look other : Parents) (place : ℕ → ℕ) (ns : List ℕ) (lists : List (List NameLit))
          → AllByRecursion (IsRenamedAt look other place) ns → all_there (map (names_at look) ns) ≡ Some lists
          → AllByRecursion AllKnown lists × (all_there (map (names_at other) (map place ns)) ≡ Some (map (map renamed) lists))
      lists-there look other place [] lists h there =
          let same : [] ≡ lists = same_Some [] lists there in
          (subst (AllByRecursion AllKnown) same tt, ap (λ nss. Some (map (map renamed) nss)) same)
      lists-there look other place (n ∷ ns) lists h there =
          option_and_then_some (λ x. option_map (λ ys. x ∷ ys) (all_there (map (names_at look) ns))) (names_at look n) lists there λ names names_is step.
          option_map-some (λ ys. names ∷ ys) (all_there (map (names_at look) ns)) lists step λ nss nss_is gives.
          option_and_then_some names_alone (look n) names names_is λ p p_is alone.
          let at = h.0 p p_is in
          let first = names-alone p names alone at.0 in
          let rest = lists-there look other place ns nss h.1 nss_is in
          let first_there : names_at other (place n) ≡ Some (map renamed names) = ap (option_and_then names_alone) at.1 ∙ first.1 in (
            subst (AllByRecursion AllKnown) gives (first.0, rest.0),
            ap₂ (λ (o : Option (List NameLit)) os. option_and_then (λ x. option_map (λ ys. x ∷ ys) os) o) first_there rest.1
                ∙ ap (λ nss. Some (map (map renamed) nss)) gives,
          )
