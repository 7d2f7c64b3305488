-- Resolution on names keeps grounded names grounded.
use Rattle.std.proofs.Common.{◌≡◌, ℕ, ◌⊎◌, inl, inr, Bool, true, false, ◌==◌, List, [], ◌∷◌, Some, refl, ap, sym, ◌∙◌, subst, ⊎_elim}
use mathlib.Core.Bool.{beq}
use Rattle.std.specs.Prelude.{if◌then◌else◌}
use Rattle.std.specs.List.{AllByRecursion}
use Rattle.std.proofs.lemmas.Bool.{and_parts, and_from, and_left, and_right, cases_Bool, eqb-true, cond_both, cond-true, cond-false}
use Rattle.std.proofs.lemmas.List.Elements.{recursion_from_All, All-weaker}
use Rattle.std.proofs.lemmas.Option.{none-some, same_Some}
use Rattle.plain_types.specs.declared.sequence.NameLit.{NameLit}
use Rattle.plain_types.specs.Names.{same_name, has_name, can_resolve, resolvent, positive_of, negative_of}
use Rattle.fol_base.specs.Clause.{TreeClause}
use Rattle.fol_base.specs.Ground.{GroundClause, GroundInstance}
use Rattle.fol_base.specs.Symbols.{FunctionSymbols}
use Rattle.fol_base.specs.Interpretation.{Interpretation, clause_true}
use Rattle.fol_base.specs.Covered.{InstanceOf}
use Rattle.fol_base.proofs.WorkedExamples.TestLemmas.{if_some}
use Rattle.kernel_steps.specs.Names.{sorted_names, chained_from, chained}
use Rattle.kernel_steps.specs.Soundness.{IsUsable, IsChoice}
use Rattle.kernel_steps.proofs.AboutGrounding.GroundedLemmas.{Supports, Supports-instance, Supports-then, Supports-more, Supports-each, all_true-or}
use Rattle.kernel_steps.proofs.AboutGrounding.GroundedLemmasNames.{AreAmong, AreAmong-sorted, IsUsable-among, IsChoice-among, name_that_passes, list_any-name, chosen_name_true, chosen_true, chosen_true-among, resolvent-first, resolvent-second}

-- for every choice for the positive names, ground instances of usable clauses make what is chosen for one of them true
abbrev pub NamesGrounded : {is_predicate : ℕ → Bool} → FunctionSymbols is_predicate → List TreeClause → (ℕ → TreeClause) → List NameLit → Type 0
NamesGrounded functions form bodies ns =
    (choice : ℕ → GroundClause) → IsChoice functions bodies ns choice
    → Supports functions (IsUsable form bodies ns) (λ i. chosen_true i choice ns ≡ true)

-- a choice with another ground instance for one name
abbrev changed_choice : ℕ → GroundClause → (ℕ → GroundClause) → ℕ → GroundClause
changed_choice n g choice m = if n == m then g else choice m

-- what is true of a changed choice
changed_choice-true :
    (i : Interpretation) (n : ℕ) (g : GroundClause) (choice : ℕ → GroundClause) (ps rs : List NameLit)
    → ((k : NameLit) → has_name k ps ≡ true → same_name (positive_of n) k ≡ false → has_name k rs ≡ true)
    → chosen_true i (changed_choice n g choice) ps ≡ true → (clause_true i g ≡ true) ⊎ (chosen_true i choice rs ≡ true)
changed_choice-true i n g choice ps rs stay some = which (cases_Bool (n == k.name))
  where
    it : (k : NameLit) × (has_name k ps ≡ true) × (chosen_name_true i (changed_choice n g choice) k ≡ true)
    it = name_that_passes (chosen_name_true i (changed_choice n g choice)) ps some

    k : NameLit
    k = it.0

    parts : (k.positive ≡ true) × (clause_true i (changed_choice n g choice k.name) ≡ true)
    parts = and_parts k.positive (clause_true i (changed_choice n g choice k.name)) it.2

    which : ((n == k.name) ≡ true) ⊎ ((n == k.name) ≡ false) → (clause_true i g ≡ true) ⊎ (chosen_true i choice rs ≡ true)
    which (inl same) = inl (ap (clause_true i) (sym (cond-true (n == k.name) g (choice k.name) same)) ∙ parts.1)
    which (inr other) =
        inr
        (list_any-name (chosen_name_true i choice) k rs (stay k it.1 (and_right (beq true k.positive) (n == k.name) other))
        (and_from k.positive (clause_true i (choice k.name)) parts.0
        (ap (clause_true i) (sym (cond-false (n == k.name) g (choice k.name) other)) ∙ parts.1)))

module _ {is_predicate : ℕ → Bool} (functions : FunctionSymbols is_predicate) (form : List TreeClause) (bodies : ℕ → TreeClause) where
  -- more names
  pub NamesGrounded-among :
      (ns ms : List NameLit) → AreAmong ns ms → NamesGrounded functions form bodies ns → NamesGrounded functions form bodies ms
  NamesGrounded-among ns ms among grounded choice is_choice =
      Supports-more functions (IsUsable-among form bodies ns ms (λ n. among (negative_of n)))
      (Supports-then functions (λ i ok. chosen_true-among i choice ns ms among)
      (grounded choice (IsChoice-among functions bodies ns ms choice among is_choice)))

  -- Resolution on the name n. The second list's ground instances for the choice are usable, but for those of n's body; with such a one
  -- chosen for n, the first list's ground instances make it true, or what is chosen for another name.
  resolve :
      (n : ℕ) (ps ns rs : List NameLit)
      → ((k : NameLit) → has_name k ps ≡ true → same_name (positive_of n) k ≡ false → has_name k rs ≡ true)
      → ((k : NameLit) → has_name k ns ≡ true → same_name (negative_of n) k ≡ false → has_name k rs ≡ true)
      → NamesGrounded functions form bodies ps → NamesGrounded functions form bodies ns
      → NamesGrounded functions form bodies rs
  resolve n ps ns rs ps_stay ns_stay ps_grounded ns_grounded choice is_choice = all_together
    where
      given : Supports functions (IsUsable form bodies ns) (λ i. chosen_true i choice ns ≡ true)
      given = ns_grounded choice (λ m has. is_choice m (ns_stay (positive_of m) has refl))

      Result : GroundClause → Interpretation → Type 0
      Result g i = (clause_true i g ≡ true) ⊎ (chosen_true i choice rs ≡ true)

      from_body : (g : GroundClause) → GroundInstance functions (bodies n) g → Supports functions (IsUsable form bodies rs) (Result g)
      from_body g made =
          Supports-more functions (IsUsable-among form bodies ps rs (λ m has. ps_stay (negative_of m) has refl))
          (Supports-then functions (λ i ok. changed_choice-true i n g choice ps rs ps_stay)
          (ps_grounded (changed_choice n g choice) (λ m has.
          cond_both (n == m) g (choice m) (λ h. GroundInstance functions (bodies m) h)
          (λ same. subst (λ k. GroundInstance functions (bodies k) g) (eqb-true n m same) made)
          (λ other. is_choice m (ps_stay (positive_of m) has other)))))

      one : (g : GroundClause) (c : TreeClause) → IsUsable form bodies ns c → GroundInstance functions c g → Supports functions (IsUsable form bodies rs) (Result g)
      one g c (inl there) made = Supports-then functions (λ i ok. inl) (Supports-instance functions c g (inl there) made)
      one g c (inr it) made =
          ⊎_elim
          (λ same.
          from_body g
          (subst (λ m. GroundInstance functions (bodies m) g) (sym (eqb-true n it.0 same))
          (subst (λ d. GroundInstance functions d g) it.2 made)))
          (λ other.
          Supports-then functions (λ i ok. inl)
          (Supports-instance functions c g (inr (it.0, ns_stay (negative_of it.0) it.1 other, it.2)) made))
          (cases_Bool (n == it.0))

      each : AllByRecursion (λ g. Supports functions (IsUsable form bodies rs) (Result g)) given.by
      each =
          recursion_from_All (λ g. Supports functions (IsUsable form bodies rs) (Result g)) given.by
          (All-weaker (InstanceOf functions (IsUsable form bodies ns)) (λ g. Supports functions (IsUsable form bodies rs) (Result g))
          (λ g it. one g it.clause it.holds it.is_instance) given.by given.instances)

      positive_stays : (i : Interpretation) → chosen_true i choice ns ≡ true → chosen_true i choice rs ≡ true
      positive_stays i some =
          let it = name_that_passes (chosen_name_true i choice) ns some in
          let parts = and_parts it.0.positive (clause_true i (choice it.0.name)) it.2 in
          list_any-name (chosen_name_true i choice) it.0 rs
          (ns_stay it.0 it.1 (and_left (beq false it.0.positive) (n == it.0.name) (ap (beq false) parts.0)))
          it.2

      all_together : Supports functions (IsUsable form bodies rs) (λ i. chosen_true i choice rs ≡ true)
      all_together =
          Supports-then functions (λ i ok all.
          ⊎_elim (λ all_true. positive_stays i (given.fact i ok all_true)) (λ done. done)
          (all_true-or i (chosen_true i choice rs ≡ true) given.by all))
          (Supports-each functions Result given.by each)

  -- the pivot is in the first list
  resolvent-grounded :
      (positive : Bool) (name : ℕ) (ns ms : List NameLit)
      → NamesGrounded functions form bodies ns → NamesGrounded functions form bodies ms
      → NamesGrounded functions form bodies (sorted_names (resolvent (record { positive = positive; name = name }) ns ms))
  resolvent-grounded true n ns ms ns_grounded ms_grounded =
      resolve n ns ms (sorted_names (resolvent (positive_of n) ns ms)) (resolvent-first (positive_of n) ns ms) (resolvent-second (positive_of n) ns ms)
      ns_grounded ms_grounded
  resolvent-grounded false n ns ms ns_grounded ms_grounded =
      resolve n ms ns (sorted_names (resolvent (negative_of n) ns ms)) (resolvent-second (negative_of n) ns ms) (resolvent-first (negative_of n) ns ms)
      ms_grounded ns_grounded

  chained_from-grounded :
      (names : List NameLit) (pivots : List NameLit) (nss : List (List NameLit)) (made : List NameLit)
      → chained_from names pivots nss ≡ Some made
      → NamesGrounded functions form bodies names → AllByRecursion (NamesGrounded functions form bodies) nss
      → NamesGrounded functions form bodies made
  chained_from-grounded names [] [] made is grounded each =
      subst (NamesGrounded functions form bodies) (same_Some names made is) grounded
  chained_from-grounded names [] (ms ∷ mss) made is grounded each = absurd (none-some made is)
  chained_from-grounded names (pivot ∷ pivots) [] made is grounded each = absurd (none-some made is)
  chained_from-grounded names (pivot ∷ pivots) (ms ∷ mss) made is grounded each =
      let next : List NameLit = sorted_names (resolvent pivot names ms) in
      let step = if_some (can_resolve pivot names ms) (chained_from next pivots mss) made is in
      chained_from-grounded next pivots mss made step.1 (resolvent-grounded pivot.positive pivot.name names ms grounded each.0) each.1

  pub chained-grounded :
      (nss : List (List NameLit)) (pivots made : List NameLit)
      → chained nss pivots ≡ Some made → AllByRecursion (NamesGrounded functions form bodies) nss
      → NamesGrounded functions form bodies made
  chained-grounded [] pivots made is each = absurd (none-some made is)
  chained-grounded (ns ∷ nss) pivots made is each =
      chained_from-grounded (sorted_names ns) pivots nss made is
      (NamesGrounded-among ns (sorted_names ns) (AreAmong-sorted ns) each.0) each.1
