-- Literals without solution and literals that stand twice: the lines by which they go, and where there are none.
use Rattle.std.proofs.Common.{◌≡◌, ℕ, ◌+◌, ◌<◌, ◌≤◌, true, false, ◌&&◌, ◌==◌, not, Option, None, Some, List, [], ◌∷◌, length, refl, ap, sym, ◌∙◌, subst, inl, inr, ⊎_elim, arith}
use Rattle.std.specs.Prelude.{slice_get, remove, is_some, option_and_then, if◌then◌else◌}
use Rattle.std.proofs.lemmas.Bool.{true≢false, cases_order, cond-true, cond-false, eqb-true, eq-eqb, false_from_ne_true}
use Rattle.std.proofs.lemmas.Option.{none-some, same_Some, slice_get_within}
use Rattle.fol_base.specs.Tree.{tree_eq}
use Rattle.fol_base.specs.Clause.{TreeLiteral, TreeClause}
use Rattle.fol_base.specs.Order.{equivalent_literals}
use Rattle.fol_base.specs.Literal.{clause_of}
use Rattle.fol_base.specs.Rules.{resolved, merged}
use Rattle.fol_base.proofs.AboutOrders.OrderLemmas.{literals_equivalence}
use Rattle.fol_base.proofs.AboutClauses.RuleLemmas.{merged-from, merged-parts}
use Rattle.kernel_steps.specs.declared.step.TheConstants.{CLAUSE_NUMBERS}
use Rattle.kernel_steps.specs.declared.step.Step.TheVariants as step
use Rattle.kernel_steps.specs.declared.step.Line.{Line}
use Rattle.kernel_steps.specs.declared.step.Reduced.{Reduced}
use Rattle.reduced_clause.specs.Extending.{IsExtended, last_number}
use Rattle.unit_cutting.specs.Fit.{GoesOnAlone, HasNoTrivial, HasNoEqual}
use Rattle.unit_cutting.specs.Removing.{IsOwnStep, IsFoundTrivial, IsFoundBefore}
use Rattle.unit_cutting.proofs.AboutLeaving.RemovalLemmas.{resolved-removes, merged-removes}
use Rattle.unit_cutting.proofs.AboutLeaving.MoveLemmas.{IsOnOne, removal-lines}

past : (lines : List Line) → CLAUSE_NUMBERS ≤ last_number lines
past lines = omega arith

-- ---- the lines

pub dropped :
    (old new : Reduced) (number i : ℕ) (line : Line) → number ≡ last_number old.lines
    → IsOwnStep (λ ls. resolved ls i) (λ bind. step.Refl number i bind) (clause_of old.clause) line
    → IsExtended old None (line ∷ []) new → GoesOnAlone old new
dropped old new number i line last own extended p clauses fit =
    let c : TreeClause = clause_of old.clause in
    let own' : IsOwnStep (λ ls. resolved ls i) (λ bind. step.Refl (last_number old.lines) i bind) c line =
    subst (λ n. IsOwnStep (λ ls. resolved ls i) (λ bind. step.Refl n i bind) c line) last own in
    record {
      move = record { by = None; gives = clause_of line.clause };
      lines = line ∷ [];
      of_unit = refl;
      makes =
          removal-lines (λ ls. resolved ls i) i (resolved-removes i) (last_number old.lines) (past old.lines) c fit line own'.bind
          (subst (λ s. IsOnOne (λ ls. resolved ls i) (last_number old.lines) own'.bind s) (sym own'.of_step)
          (record { on_literals = refl; by_rule = λ parents. refl; binds = refl; parent = refl }))
          own'.gives
          (λ d made names. inl (record { i = i; gives = made; names = names })) p clauses;
      extended = extended;
    }

pub merged-dropped :
    (old new : Reduced) (number i j : ℕ) (line : Line) → number ≡ last_number old.lines
    → IsOwnStep (λ ls. merged ls i j) (λ bind. step.Merge number i j bind) (clause_of old.clause) line
    → IsExtended old None (line ∷ []) new → GoesOnAlone old new
merged-dropped old new number i j line last own extended p clauses fit =
    let c : TreeClause = clause_of old.clause in
    let own' : IsOwnStep (λ ls. merged ls i j) (λ bind. step.Merge (last_number old.lines) i j bind) c line =
    subst (λ n. IsOwnStep (λ ls. merged ls i j) (λ bind. step.Merge n i j bind) c line) last own in
    record {
      move = record { by = None; gives = clause_of line.clause };
      lines = line ∷ [];
      of_unit = refl;
      makes =
          removal-lines (λ ls. merged ls i j) j (merged-removes i j) (last_number old.lines) (past old.lines) c fit line own'.bind
          (subst (λ s. IsOnOne (λ ls. merged ls i j) (last_number old.lines) own'.bind s) (sym own'.of_step)
          (record { on_literals = refl; by_rule = λ parents. refl; binds = refl; parent = refl }))
          own'.gives
          (λ d made names. inr (record { stays = i; goes = j; gives = made; names = names })) p clauses;
      extended = extended;
    }

-- ---- where there are none

pub no_trivial : (c : TreeClause) → IsFoundTrivial c None → HasNoTrivial c
no_trivial c none d h = none-some d.literals (sym (none h.i) ∙ h.gives)

pub no_equal : (c : TreeClause) → ((i j : ℕ) → merged c.literals i j ≡ None) → HasNoEqual c
no_equal c none d h = none-some d.literals (sym (none h.stays h.goes) ∙ h.gives)

-- ---- the search

-- of one more literal
pub trivial-more :
    (ls : List TreeLiteral) (n : ℕ) → ((i : ℕ) → i < n → resolved ls i ≡ None) → resolved ls n ≡ None
    → (i : ℕ) → i < n + 1 → resolved ls i ≡ None
trivial-more ls n before here i less =
    ⊎_elim (λ same. ap (resolved ls) same ∙ here)
    (λ r. ⊎_elim (λ below. before i below) (λ above. absurd (omega (arith, less, above))) r)
    (cases_order i n)

-- past the end there is none
pub trivial-all :
    (ls : List TreeLiteral) → ((i : ℕ) → i < length ls → resolved ls i ≡ None) → (i : ℕ) → resolved ls i ≡ None
trivial-all ls none i = known (slice_get ls i) refl
  where
    known : (o : Option TreeLiteral) → slice_get ls i ≡ o → resolved ls i ≡ None
    known None e =
        ap (option_and_then (λ (l : TreeLiteral). if not l.positive && tree_eq l.left l.right then Some (remove ls i) else None)) e
    known (Some l) e = none i (slice_get_within ls i l e)

-- a literal as the search looks at it
pub trivial-there :
    (ls : List TreeLiteral) (i : ℕ) (l : TreeLiteral) → slice_get ls i ≡ Some l → (not l.positive && tree_eq l.left l.right) ≡ true
    → is_some (resolved ls i) ≡ true
trivial-there ls i l there h =
    ap (λ (o : Option TreeLiteral). is_some (option_and_then (λ (k : TreeLiteral). if not k.positive && tree_eq k.left k.right then Some (remove ls i) else None) o)) there
    ∙ ap (λ (o : Option (List TreeLiteral)). is_some o) (cond-true (not l.positive && tree_eq l.left l.right) (Some (remove ls i)) None h)

pub trivial-not :
    (ls : List TreeLiteral) (i : ℕ) (l : TreeLiteral) → slice_get ls i ≡ Some l → (not l.positive && tree_eq l.left l.right) ≡ false
    → resolved ls i ≡ None
trivial-not ls i l there h =
    ap (option_and_then (λ (k : TreeLiteral). if not k.positive && tree_eq k.left k.right then Some (remove ls i) else None)) there
    ∙ cond-false (not l.positive && tree_eq l.left l.right) (Some (remove ls i)) None h

-- ---- the search for two literals that are the same

-- two different literals that aren't the same, whichever stands first
abbrev pub NoneBefore : TreeClause → ℕ → Type 0
NoneBefore c n = (goes : ℕ) → goes < n → IsFoundBefore c goes None

pub none_before-more : (c : TreeClause) (n : ℕ) → NoneBefore c n → IsFoundBefore c n None → NoneBefore c (n + 1)
none_before-more c n before here goes less =
    ⊎_elim (λ same. subst (λ k. IsFoundBefore c k None) (sym same) here)
    (λ r. ⊎_elim (λ below. before goes below) (λ above. absurd (omega (arith, less, above))) r)
    (cases_order goes n)

none-made : (o : Option (List TreeLiteral)) → ((made : List TreeLiteral) → o ≡ Some made → ⊥) → o ≡ None
none-made None h = refl
none-made (Some made) h = absurd (h made refl)

pub none-equal : (c : TreeClause) → NoneBefore c (length c.literals) → (i j : ℕ) → merged c.literals i j ≡ None
none-equal c before i j = none-made (merged c.literals i j) (λ made h.
    let m = merged-parts c.literals i j made h in
    ⊎_elim
    (λ same. absurd (true≢false (sym (eq-eqb i j same) ∙ m.differ)))
    (λ r.
    ⊎_elim
    (λ less.
    absurd (true≢false (sym m.same ∙ before j (slice_get_within c.literals j m.literal_j m.j_there) i m.literal_i m.literal_j less m.i_there m.j_there)))
    (λ more.
    absurd (true≢false (sym (sym (literals_equivalence.symm m.literal_i m.literal_j) ∙ m.same)
    ∙ before i (slice_get_within c.literals i m.literal_i m.i_there) j m.literal_j m.literal_i more m.j_there m.i_there)))
    r)
    (cases_order i j))

pub equal-there :
    (ls : List TreeLiteral) (i j : ℕ) (l m : TreeLiteral) → i < j → slice_get ls i ≡ Some l → slice_get ls j ≡ Some m
    → equivalent_literals l m ≡ true → is_some (merged ls i j) ≡ true
equal-there ls i j l m less i_there j_there same =
    ap is_some (merged-from ls i j (remove ls j) (record {
      differ = false_from_ne_true (i == j) (λ e. let k : i ≡ j = eqb-true i j e in omega (arith, k, less));
      literal_i = l;
      i_there = i_there;
      literal_j = m;
      j_there = j_there;
      same = same;
      gives = refl;
    }))

pub before-more :
    (c : TreeClause) (n goes : ℕ) (k m : TreeLiteral) → slice_get c.literals n ≡ Some k → slice_get c.literals goes ≡ Some m
    → equivalent_literals k m ≡ false
    → ((i : ℕ) (l m : TreeLiteral) → i < n → slice_get c.literals i ≡ Some l → slice_get c.literals goes ≡ Some m → equivalent_literals l m ≡ false)
    → (i : ℕ) (l m : TreeLiteral) → i < n + 1 → slice_get c.literals i ≡ Some l → slice_get c.literals goes ≡ Some m → equivalent_literals l m ≡ false
before-more c n goes k m k_there m_there differ before i l m' less l_there m'_there =
    ⊎_elim
    (λ same.
    ap (λ x. equivalent_literals x m') (same_Some l k (sym l_there ∙ ap (slice_get c.literals) same ∙ k_there))
    ∙ ap (equivalent_literals k) (same_Some m' m (sym m'_there ∙ m_there))
    ∙ differ)
    (λ r. ⊎_elim (λ below. before i l m' below l_there m'_there) (λ above. absurd (omega (arith, less, above))) r)
    (cases_order i n)
