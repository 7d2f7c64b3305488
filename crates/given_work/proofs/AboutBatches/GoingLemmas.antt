-- What becomes of a told clause that was reduced by the others.
use Rattle.std.proofs.Common.{◌≡◌, ℕ, ◌==◌, not, Bool, true, false, List, [], ◌∷◌, ◌++◌, map, Option, Some, None, refl, ap, sym, ◌∙◌, subst, ⊎_elim, inl, inr, append-nil}
use Rattle.std.specs.Prelude.{All, Contains, ◌&&◌, nat_lt, option_map, if◌then◌else◌, IsTrue}
use Rattle.std.proofs.Math.Path.{fun_ext}
use Rattle.std.proofs.lemmas.Bool.{eq-eqb, true≢false, lt-ltb}
use Rattle.std.proofs.lemmas.List.Elements.{All-append, All-cons, All-nil, All-weaker, Contains-append_left}
use Rattle.std.proofs.lemmas.Option.{same_Some}
use Rattle.fol_base.specs.Clause.{TreeClause}
use Rattle.fol_base.specs.Literal.{clause_of}
use Rattle.fol_base.specs.Subsumption.{Subsumes, is_among}
use Rattle.fol_base.specs.WellFormed.{SymbolUse, are_literals_of}
use Rattle.fol_base.specs.declared.clause.Clause.{Clause}
use Rattle.fol_base.proofs.WorkedExamples.TestLemmas.{if_some}
use Rattle.kernel_steps.specs.Inference.{CutsBy, IsIrreducible, Reduces, RewritesBy, SomeClause, is_tautology}
use Rattle.kernel_steps.specs.Lines.{clauses_named}
use Rattle.kernel_steps.specs.Moves.{Move, AreMoves, end_of_moves, units_of}
use Rattle.kernel_steps.specs.declared.step.TheConstants.{CLAUSE_NUMBERS}
use Rattle.kernel_steps.specs.declared.step.Line.{Line}
use Rattle.kernel_steps.specs.declared.step.Reduced.{Reduced}
use Rattle.bank_clause.specs.Clause.{clause_at}
use Rattle.bank_clause.specs.declared.member.Member.{Member}
use Rattle.rewriting.specs.Units.{is_kept}
use Rattle.laws_calculus.specs.Lifting.{among, IsMember}
use Rattle.reduced_clause.specs.Reduced.{IsReduced, last_clause, with_number}
use Rattle.reduced_clause.proofs.ExtendingLemmas.{noted-all, with_number-has, with_number-keeps}
use Rattle.bank_clause.specs.Members.{AreMembersOfUse, IsMemberOfUse}
use Rattle.demodulate.specs.Reducing.{IsFurther, IsIrreducibleBySteps, IsReduction}
use Rattle.demodulate.specs.declared.reducing.Reduction.{Reduction}
use Rattle.demodulate.specs.declared.reducing.Reduction.TheVariants as ended
use Rattle.demodulate.specs.Subsuming.{IsSubsumedBySome, IsSubsumedOrNot}
use Rattle.demodulate.specs.Usable.{AreFormed, IsAmong, without}
use Rattle.pool_history.specs.Record.{GivenJob}
use Rattle.pool_history.specs.Lines.{result_of}
use Rattle.pool_history.specs.Reduction.{Lookup, AreLinesFrom, clauses_used, handed_back}
use Rattle.pool_history.specs.Batches.{IsReducedBeside, IsRightlyReplaced, is_told, is_told_beside}
use Rattle.pool_history.specs.declared.options.Options.{Options}
use Rattle.pool_history.specs.declared.batch.Redundancy.TheVariants.{Tautology, Subsumed}
use Rattle.pool_history.specs.declared.batch.Removal.{Removal}
use Rattle.pool_history.specs.declared.batch.Fate.TheVariants.{Kept, Dropped}
use Rattle.given_work.specs.Going.{GoesRightly, IsReducedBy, IsRemovalOf, IsReplacedOrSame, StaysOrGoes, batch_lines}
use Rattle.given_work.specs.Telling.{AreToldSets, told_of}
use Rattle.given_work.proofs.AboutBatches.BatchLines.{all-pass, victim-bound, victim-lines}
use Rattle.given_work.proofs.AboutBatches.Justifiers.{Contains-distinct, all-from, named-before, result-is, same-from}
use Rattle.given_work.proofs.AboutIndexes.Slots.{Contains-filtered}

-- ---- irreducible clauses

-- what holds of fewer clauses reduces less
reduces-weaker :
    (p : ℕ → Bool) (H K : TreeClause → Type 0) (c d : TreeClause) → ((e : TreeClause) → H e → K e) → Reduces p H c d → Reduces p K c d
reduces-weaker p H K c d onward step =
    ⊎_elim (λ drops. inl drops)
    (λ more. ⊎_elim (λ merges. inr (inl merges))
    (λ units. ⊎_elim
    (λ rewrites. inr (inr (inl (by H K onward (λ u. RewritesBy p u c d) rewrites))))
    (λ cuts. inr (inr (inr (by H K onward (λ u. CutsBy p u c d) cuts)))) units) more) step
  where
    by : (H K : TreeClause → Type 0) → ((e : TreeClause) → H e → K e) → (Does : TreeClause → Type 0) → SomeClause H Does → SomeClause K Does
    by H K onward Does some = record { clause = some.clause; holds = onward some.clause some.holds; does = some.does }

pub irreducible-among :
    (p : ℕ → Bool) (looked : Lookup) (is_member : ℕ → Bool) (clauses : Lookup) (c : TreeClause)
    → among is_member clauses ≡ looked
    → ((d : TreeClause) → Reduces p (IsAmong looked) c d → ⊥) → is_tautology c ≡ false
    → ((n : ℕ) (d : TreeClause) → looked n ≡ Some d → Subsumes p d c → ⊥)
    → IsIrreducible p (IsMember is_member clauses) c
irreducible-among p looked is_member clauses c same no_step no_tautology none = record {
  no_step = λ d step. no_step d (reduces-weaker p (IsMember is_member clauses) (IsAmong looked) c d (λ e h. record { number = h.0; there = ap (λ (f : Lookup). f h.0) (sym same) ∙ h.1 }) step);
  no_tautology = no_tautology;
  not_subsumed = λ some. none (some.holds).0 some.clause (ap (λ (f : Lookup). f (some.holds).0) (sym same) ∙ (some.holds).1) some.does;
}

-- what is irreducible by the told clauses
pub irreducible-told :
    (p : ℕ → Bool) (is_member : ℕ → Bool) (clauses : Lookup) (c : TreeClause)
    → IsIrreducible p (IsAmong (among is_member clauses)) c → IsIrreducible p (IsMember is_member clauses) c
irreducible-told p is_member clauses c it =
    irreducible-among p (among is_member clauses) is_member clauses c refl it.no_step it.no_tautology
    λ n d there subsumes. it.not_subsumed (record { clause = d; holds = record { number = n; there = there }; does = subsumes })

-- ---- look-ups

-- the told clauses but for one
pub beside-is :
    (clauses : Lookup) (j : GivenJob) (n : ℕ) → among (is_told_beside j n) clauses ≡ without (Some n) (told_of clauses j)
beside-is clauses j n =
    fun_ext λ k. by (is_told j k) (not (k == n)) (clauses k)
  where
    by : (a b : Bool) (o : Option TreeClause) → (if a && b then o else None) ≡ (if b then (if a then o else None) else None)
    by true true o = refl
    by true false o = refl
    by false true o = refl
    by false false o = refl

-- ---- told clauses are well-formed

module _
    (usage : SymbolUse) (clauses : Lookup) (j : GivenJob) (es us ms : List Member) (sets : AreToldSets usage clauses j es us ms) where
  formed-at : (k : ℕ) (d : TreeClause) → told_of clauses j k ≡ Some d → IsTrue (are_literals_of usage d.literals)
  formed-at k d at = (sets.whole k d at).formed

  -- each clause together with the sets
  pub sets-formed : (c : TreeClause) → IsTrue (are_literals_of usage c.literals) → AreFormed usage es us c
  sets-formed c clause = record {
    clause = clause;
    equations = λ k u found. formed-at k (clause_at u) ((sets.of_clauses.equations k (clause_at u)).0 (ap (option_map clause_at) found)).0;
    units = λ k u found. formed-at k (clause_at u) ((sets.of_clauses.units k (clause_at u)).0 (ap (option_map clause_at) found)).0;
  }

  pub told-formed : (n : ℕ) (c : TreeClause) → told_of clauses j n ≡ Some c → AreFormed usage es us c
  told-formed n c there = sets-formed c (formed-at n c there)

  pub members-formed : AreMembersOfUse usage ms
  members-formed = all-from (IsMemberOfUse usage) ms λ m at.
      formed-at m.number (clause_at m.clause)
      ((sets.has_all m.number (clause_at m.clause)).0 (record { member = m; there = at; number = refl; clause = refl }))

module _
    (usage : SymbolUse) (options : Options) (clauses : Lookup) (j : GivenJob) (es us ms : List Member)
    (sets : AreToldSets usage clauses j es us ms) (split : Bool) (splits : options.split ≡ split)
    (n : ℕ) (c : TreeClause) (there : told_of clauses j n ≡ Some c)
    (r : Reduced) (by : IsReducedBy es us (Some n) c r) where
  abbrev p : ℕ → Bool
  p = usage.is_predicate

  abbrev beside : Lookup
  beside = among (is_told_beside j n) clauses

  formed : AreFormed usage es us c
  formed = told-formed usage clauses j es us ms sets n c there

  pub result-formed : IsTrue (are_literals_of usage (clause_of r.clause).literals)
  result-formed = by.formed usage formed

  is-reduced : IsReduced p beside c r
  is-reduced =
      subst (λ (f : Lookup). IsReduced p f c r) (sym (beside-is clauses j n)) (by.reduced usage (told_of clauses j) formed sets.of_clauses)

  -- ---- redundant

  pub goes-tautology :
      is_tautology (clause_of r.clause) ≡ true
      → StaysOrGoes p options clauses j n c (Some (record { victim = n; justifiers = r.used; fate = Dropped Tautology }))
  goes-tautology tautology = record {
    victim = refl;
    right = record {
      clause = c;
      there = there;
      moves = is-reduced.moves;
      moved = is-reduced.moved;
      redundant = ap is_tautology (sym is-reduced.moved_to) ∙ tautology;
      justified =
          same-from r.used (units_of is-reduced.moves ++ [])
          (subst (λ ns. All (Contains ns) r.used) (sym (append-nil (units_of is-reduced.moves))) is-reduced.all_used)
          (subst (λ ns. All (Contains r.used) ns) (sym (append-nil (units_of is-reduced.moves))) is-reduced.by_used);
    };
    leaves = tt;
  }

  -- what is found among the sets but for the clause is found beside it
  abbrev pub IsFoundAmong : Option ℕ → Type 0
  IsFoundAmong found = IsSubsumedOrNot p (without (Some n) (told_of clauses j)) (clause_of r.clause) found

  pub goes-subsumed :
      (k : ℕ) (justifiers : List ℕ) → justifiers ≡ with_number k r.used
      → IsFoundAmong (Some k)
      → StaysOrGoes p options clauses j n c (Some (record { victim = n; justifiers = justifiers; fate = Dropped (Subsumed k) }))
  goes-subsumed k justifiers is found =
      record {
        victim = refl;
        right = record {
          clause = c;
          there = there;
          moves = is-reduced.moves;
          moved = is-reduced.moved;
          redundant =
              record {
                clause = found.clause;
                there = ap (λ (f : Lookup). f k) (beside-is clauses j n) ∙ found.there;
                infers = subst (λ (d : TreeClause). Subsumes p found.clause d) is-reduced.moved_to found.infers;
              };
          justified =
              subst (λ (ns : List ℕ). (is_among ns (units_of is-reduced.moves ++ k ∷ []) && is_among (units_of is-reduced.moves ++ k ∷ []) ns) ≡ true) (sym is)
              (same-from (with_number k r.used) (units_of is-reduced.moves ++ k ∷ [])
              (noted-all (units_of is-reduced.moves) (Some k) r.used is-reduced.all_used)
              (All-append (Contains (with_number k r.used)) (units_of is-reduced.moves) (k ∷ [])
              (All-weaker (Contains r.used) (Contains (with_number k r.used)) (λ m h. with_number-keeps k m r.used h) (units_of is-reduced.moves) is-reduced.by_used)
              (All-cons (Contains (with_number k r.used)) k [] (with_number-has k r.used) (All-nil (Contains (with_number k r.used))))));
        };
        leaves = tt;
      }

  -- ---- irreducible

  irreducible-result :
      is_tautology (clause_of r.clause) ≡ false → IsFoundAmong None
      → IsReducedBeside p options clauses j n (clause_of r.clause)
  irreducible-result no_tautology none =
      irreducible-among p (without (Some n) (told_of clauses j)) (is_told_beside j n) clauses (clause_of r.clause) (beside-is clauses j n)
      (by.irreducible no_tautology usage (told_of clauses j) formed sets.of_clauses) no_tautology
      λ k d at subsumes. none (record { clause = d; holds = record { number = k; there = at }; does = subsumes })

  pub stays :
      r.lines ≡ [] → is_tautology (clause_of r.clause) ≡ false → IsFoundAmong None
      → StaysOrGoes p options clauses j n c None
  stays none no_tautology not_subsumed =
      subst (IsReducedBeside p options clauses j n) (is-reduced.ends ∙ ap (last_clause c) none) (irreducible-result no_tautology not_subsumed)

  -- ---- replaced

  result-led : (lines : List Line) → (lines ≡ [] → ⊥) → result_of (batch_lines n lines) ≡ Some (last_clause c lines)
  result-led [] some = absurd (some refl)
  result-led (l ∷ ls) some = result-is c _ (batch_lines n ls) ∙ ap Some (same-last c l ls)
    where
      same-last : (d : TreeClause) (l : Line) (ls : List Line) → last_clause d (batch_lines n (l ∷ ls)) ≡ last_clause d (l ∷ ls)
      same-last d l [] = refl
      same-last d l (k ∷ ks) = same-last (clause_of l.clause) k ks

  abbrev lines : List Line
  lines = batch_lines n r.lines

  below : nat_lt n CLAUSE_NUMBERS ≡ true
  below = lt-ltb n CLAUSE_NUMBERS (sets.numbered n c there)

  wider : (k : ℕ) (d : TreeClause) → beside k ≡ Some d → told_of clauses j k ≡ Some d
  wider k d h = (if_some (is_kept (Some n) k) (told_of clauses j k) d (ap (λ (f : Lookup). f k) (sym (beside-is clauses j n)) ∙ h)).1

  are-lines : AreLinesFrom p (told_of clauses j) lines
  are-lines =
      let right = victim-lines (told_of clauses j) beside c n r.lines there below wider is-reduced.are_lines.kinds p is-reduced.are_lines in
      record {
        lines_right = right;
        symbols = λ test truth passes.
            let bound =
            victim-bound (told_of clauses j) beside c n r.lines there below wider is-reduced.are_lines.kinds test
            (is-reduced.symbols test truth (passes n c there) λ d one. passes one.number d (wider one.number d one.there)) in
            (all-pass (told_of clauses j) lines test right.steps passes bound, bound);
      }

  used-back : (ms : List ℕ) → All (Contains r.used) ms → All (Contains r.used) (ms ++ clauses_used n lines)
  used-back ms all =
      All-append (Contains r.used) ms (clauses_used n lines) all
      (all-from (Contains r.used) (clauses_used n lines) λ k h.
      let parts = Contains-filtered (λ m. not (m == n)) (clauses_named lines) k h in
      subst (λ ns. Contains ns k) (sym is-reduced.used)
      (Contains-distinct (clauses_named r.lines) k
      (named-before n r.lines k parts.0 (λ e. true≢false (sym parts.1 ∙ ap not (eq-eqb k n e))))))

  pub goes-replaced :
      (results : List Clause) → map clause_of results ≡ handed_back split (clause_of r.clause)
      → (r.lines ≡ [] → ⊥) → is_tautology (clause_of r.clause) ≡ false → IsFoundAmong None
      → StaysOrGoes p options clauses j n c (Some (record { victim = n; justifiers = r.used; fate = Kept lines results }))
  goes-replaced results are some no_tautology not_subsumed = record {
    victim = refl;
    right = split-moves is-reduced.moves is-reduced.moved is-reduced.moved_to is-reduced.by_used is-reduced.all_used (λ e. some (is-reduced.some_moved e));
    leaves = λ result led.
        subst (IsReducedBeside p options clauses j n)
        (is-reduced.ends ∙ same_Some (last_clause c r.lines) result (sym (result-led r.lines some) ∙ led))
        (irreducible-result no_tautology not_subsumed);
  }
    where
      split-moves :
          (moves : List Move) → AreMoves p beside c moves → clause_of r.clause ≡ end_of_moves c moves
          → All (Contains r.used) (units_of moves) → All (Contains (units_of moves)) r.used → (moves ≡ [] → ⊥)
          → IsRightlyReplaced p options clauses j n r.used lines (map clause_of results)
      split-moves [] moved ends by_used all_used none = absurd (none refl)
      split-moves (m ∷ moves) moved ends by_used all_used none = record {
        clause = c;
        there = there;
        are_lines = are-lines;
        move = m;
        moves = moves;
        result = clause_of r.clause;
        reduced = record { moved = moved; ends = sym ends; led = result-led r.lines some ∙ ap Some (sym is-reduced.ends) };
        justified =
            same-from r.used (units_of (m ∷ moves) ++ clauses_used n lines)
            (All-weaker (Contains (units_of (m ∷ moves))) (Contains (units_of (m ∷ moves) ++ clauses_used n lines))
            (λ k h. Contains-append_left (units_of (m ∷ moves)) (clauses_used n lines) k h) r.used all_used)
            (used-back (units_of (m ∷ moves)) by_used);
        given = are ∙ sym (ap (λ (b : Bool). handed_back b (clause_of r.clause)) splits);
      }

-- ---- what the calls give

pub reduced-by :
    (es us : List Member) (out : Option ℕ) (c : TreeClause) (old new : Reduced) (reduction : Reduction)
    → clause_of old.clause ≡ c → ((q : ℕ → Bool) (looked : Lookup) → IsReduced q looked c old)
    → IsFurther es us out old new → IsReduction es us out old new reduction → IsReducedBy es us out c new
reduced-by es us out c old new reduction same first further ends = record {
  formed = λ usage formed. further.formed usage (at usage formed);
  reduced = λ usage looked formed of. further.reduced usage looked (at usage formed) of c (first usage.is_predicate (without out looked));
  irreducible = λ no_tautology usage looked formed of. steps reduction ends no_tautology usage looked (at usage formed) of;
}
  where
    steps :
        (reduction : Reduction) → IsReduction es us out old new reduction → is_tautology (clause_of new.clause) ≡ false → IsIrreducibleBySteps es us out old new
    steps ended.Tautology tautology no_tautology = absurd (true≢false (sym tautology ∙ no_tautology))
    steps ended.Irreducible irreducible no_tautology = irreducible.0

    at : (usage : SymbolUse) → AreFormed usage es us c → AreFormed usage es us (clause_of old.clause)
    at usage formed = subst (AreFormed usage es us) (sym same) formed

pub goes-dropped :
    (split : Bool) (es us ms : List Member) (n : ℕ) (c : TreeClause) (r : Reduced) → IsReducedBy es us (Some n) c r → is_tautology (clause_of r.clause) ≡ true
    → IsRemovalOf split es us ms n c (Some (record { victim = n; justifiers = r.used; fate = Dropped Tautology }))
goes-dropped split es us ms n c r by tautology usage options clauses j sets splits there =
    goes-tautology usage options clauses j es us ms sets split splits n c there r by tautology

-- what a search for subsumers finds among the sets
module _
    (usage : SymbolUse) (options : Options) (clauses : Lookup) (j : GivenJob) (es us ms : List Member) (sets : AreToldSets usage clauses j es us ms)
    (split : Bool) (splits : options.split ≡ split) (n : ℕ) (c : TreeClause) (there : told_of clauses j n ≡ Some c) (r : Reduced)
    (by : IsReducedBy es us (Some n) c r) where
  found-among :
      (found : Option ℕ) → IsSubsumedBySome es us ms (Some n) (clause_of r.clause) found
      → IsSubsumedOrNot usage.is_predicate (without (Some n) (told_of clauses j)) (clause_of r.clause) found
  found-among found told =
      told usage (told_of clauses j)
      (sets-formed usage clauses j es us ms sets (clause_of r.clause) (result-formed usage options clauses j es us ms sets split splits n c there r by))
      (members-formed usage clauses j es us ms sets) sets.of_clauses sets.has_all

pub goes-redundant :
    (split : Bool) (es us ms : List Member) (n : ℕ) (c : TreeClause) (r : Reduced) (k : ℕ) (justifiers : List ℕ)
    → IsReducedBy es us (Some n) c r → IsSubsumedBySome es us ms (Some n) (clause_of r.clause) (Some k) → justifiers ≡ with_number k r.used
    → IsRemovalOf split es us ms n c (Some (record { victim = n; justifiers = justifiers; fate = Dropped (Subsumed k) }))
goes-redundant split es us ms n c r k justifiers by found is usage options clauses j sets splits there =
    goes-subsumed usage options clauses j es us ms sets split splits n c there r by k justifiers is
    (found-among usage options clauses j es us ms sets split splits n c there r by (Some k) found)

pub goes-or-stays :
    (split : Bool) (es us ms : List Member) (n : ℕ) (c : TreeClause) (r : Reduced) (gone : Option Removal)
    → IsReducedBy es us (Some n) c r → IsSubsumedBySome es us ms (Some n) (clause_of r.clause) None → is_tautology (clause_of r.clause) ≡ false → IsReplacedOrSame split n r gone
    → IsRemovalOf split es us ms n c gone
goes-or-stays split es us ms n c r None by found no_tautology same usage options clauses j sets splits there =
    stays usage options clauses j es us ms sets split splits n c there r by same no_tautology
    (found-among usage options clauses j es us ms sets split splits n c there r by None found)
goes-or-stays split es us ms n c r (Some m) by found no_tautology it usage options clauses j sets splits there =
    subst (λ (k : Removal). GoesRightly usage.is_predicate options clauses j n k) (sym it.removal)
    (goes-replaced usage options clauses j es us ms sets split splits n c there r by it.results it.given it.some no_tautology
    (found-among usage options clauses j es us ms sets split splits n c there r by None found))
