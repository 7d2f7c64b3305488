-- A reduced clause that goes on by a move is a reduced clause.
use Rattle.std.proofs.Common.{◌≡◌, ℕ, ◌+◌, Bool, true, List, [], ◌∷◌, ◌++◌, append-nil, Option, Some, None, refl, ap, sym, ◌∙◌, subst, ⊎_elim}
use Rattle.std.specs.Prelude.{filter, flat_map, All, Contains, nat_lt, if◌then◌else◌}
use Rattle.std.proofs.lemmas.Bool.{cond-true, cond-false, cases_Bool}
use Rattle.std.proofs.lemmas.Grind.{flat_map-append}
use Rattle.std.proofs.lemmas.List.Elements.{All-append, All-nil, All-cons, All-weaker, All-contains, filter-append, filter_map-append, Contains-append_left, Contains-push}
use Rattle.std.proofs.lemmas.List.Sums.{fold-append}
use Rattle.fol_base.specs.Clause.{TreeClause}
use Rattle.fol_base.specs.Literal.{clause_of}
use Rattle.fol_base.specs.Canonical.{distinct}
use Rattle.fol_base.specs.Kind.{is_function_term}
use Rattle.fol_base.specs.Numbering.{with_variable}
use Rattle.fol_base.proofs.AboutCanonical.NumberingLemmas.{all_met}
use Rattle.fol_base.proofs.WorkedExamples.TestLemmas.{list_all-joined}
use Rattle.kernel_steps.specs.Derivation.{reduced_parents}
use Rattle.kernel_steps.specs.Lines.{AreLines, IsNumbered, clause_parents, clauses_named, has_small_terms, is_on_literals, step_parents}
use Rattle.kernel_steps.specs.Moves.{Move, AreMoves, MovesTo, end_of_moves, units_of}
use Rattle.kernel_steps.specs.Soundness.{binds_each}
use Rattle.kernel_steps.specs.Split.{has_number}
use Rattle.kernel_steps.specs.Symbols.{symbols_pass, clause_symbols_pass, bound_symbols_pass}
use Rattle.kernel_steps.specs.declared.step.TheConstants.{CLAUSE_NUMBERS}
use Rattle.kernel_steps.specs.declared.step.Line.{Line}
use Rattle.kernel_steps.specs.declared.step.Reduced.{Reduced}
use Rattle.kernel_steps.proofs.AboutSplits.SplitTables.{placed-listed}
use Rattle.reduced_clause.specs.Reduced.{IsReduced, BindsSymbolsOf, last_clause, with_number}
use Rattle.reduced_clause.specs.Extending.{AreLinesOfMove, IsExtended, MovesExtend, StepsGoOn, last_number, noted, unit_numbers}
use Rattle.reduced_clause.proofs.LineLemmas.{steps-joined}
use Rattle.reduced_clause.proofs.SymbolLemmas.{last-passes, Contains-has}

-- ---- numbers that are noted

noted-more : (n : ℕ) (ns : List ℕ) → with_number n (distinct ns) ≡ distinct (ns ++ n ∷ [])
noted-more n ns =
    ap (λ b. if b then distinct ns else distinct ns ++ n ∷ []) (sym (placed-listed n (distinct ns)))
    ∙ ap (λ order. with_variable order n) (sym (all_met ns))
    ∙ sym (fold-append with_variable [] ns (n ∷ []))
    ∙ all_met (ns ++ n ∷ [])

noted-distinct : (by : Option ℕ) (ns : List ℕ) → noted by (distinct ns) ≡ distinct (ns ++ unit_numbers by)
noted-distinct None ns = ap distinct (sym (append-nil ns))
noted-distinct (Some n) ns = noted-more n ns

-- what was noted stays, and the unit is there
pub with_number-keeps : (n m : ℕ) (ns : List ℕ) → Contains ns m → Contains (with_number n ns) m
with_number-keeps n m ns there =
    ⊎_elim
    (λ listed. subst (λ ks. Contains ks m) (sym (cond-true (has_number n ns) ns (ns ++ n ∷ []) listed)) there)
    (λ new. subst (λ ks. Contains ks m) (sym (cond-false (has_number n ns) ns (ns ++ n ∷ []) new)) (Contains-append_left ns (n ∷ []) m there))
    (cases_Bool (has_number n ns))

pub with_number-has : (n : ℕ) (ns : List ℕ) → Contains (with_number n ns) n
with_number-has n ns =
    ⊎_elim
    (λ listed. subst (λ ks. Contains ks n) (sym (cond-true (has_number n ns) ns (ns ++ n ∷ []) listed)) (Contains-has n ns listed))
    (λ new. subst (λ ks. Contains ks n) (sym (cond-false (has_number n ns) ns (ns ++ n ∷ []) new)) (Contains-push ns n))
    (cases_Bool (has_number n ns))

noted-keeps : (by : Option ℕ) (m : ℕ) (ns : List ℕ) → Contains ns m → Contains (noted by ns) m
noted-keeps None m ns there = there
noted-keeps (Some n) m ns there = with_number-keeps n m ns there

noted-has : (by : Option ℕ) (ns : List ℕ) → All (Contains (noted by ns)) (unit_numbers by)
noted-has None ns = All-nil (Contains ns)
noted-has (Some n) ns = All-cons (Contains (with_number n ns)) n [] (with_number-has n ns) (All-nil (Contains (with_number n ns)))

-- each number that is noted is one of those before, or the new one
pub noted-all : (ms : List ℕ) (by : Option ℕ) (ns : List ℕ) → All (Contains ms) ns → All (Contains (ms ++ unit_numbers by)) (noted by ns)
noted-all ms None ns all = subst (λ ks. All (Contains ks) ns) (sym (append-nil ms)) all
noted-all ms (Some n) ns all =
    let before : All (Contains (ms ++ n ∷ [])) ns =
    All-weaker (Contains ms) (Contains (ms ++ n ∷ [])) (λ k there. Contains-append_left ms (n ∷ []) k there) ns all in
    ⊎_elim
    (λ listed. subst (All (Contains (ms ++ n ∷ []))) (sym (cond-true (has_number n ns) ns (ns ++ n ∷ []) listed)) before)
    (λ new.
    subst (All (Contains (ms ++ n ∷ []))) (sym (cond-false (has_number n ns) ns (ns ++ n ∷ []) new))
    (All-append (Contains (ms ++ n ∷ [])) ns (n ∷ []) before
    (All-cons (Contains (ms ++ n ∷ [])) n [] (Contains-push ms n) (All-nil (Contains (ms ++ n ∷ []))))))
    (cases_Bool (has_number n ns))

-- ---- lists that are joined

named-append : (ls ks : List Line) → clauses_named (ls ++ ks) ≡ clauses_named ls ++ clauses_named ks
named-append ls ks =
    ap (filter (λ n. nat_lt n CLAUSE_NUMBERS)) (flat_map-append (λ (l : Line). step_parents l.step) ls ks)
    ∙ filter-append (λ n. nat_lt n CLAUSE_NUMBERS) (flat_map (λ (l : Line). step_parents l.step) ls) (flat_map (λ (l : Line). step_parents l.step) ks)

last-append : (c : TreeClause) (ls ks : List Line) → last_clause c (ls ++ ks) ≡ last_clause (last_clause c ls) ks
last-append c [] ks = refl
last-append c (l ∷ ls) ks = last-append (clause_of l.clause) ls ks

push-some : (ms : List Move) (m : Move) → ms ++ m ∷ [] ≡ [] → ⊥
push-some [] m none = cc
push-some (k ∷ ms) m none = cc

module _ (is_predicate : ℕ → Bool) (clauses : ℕ → Option TreeClause) where
  moves-push :
      (c : TreeClause) (ms : List Move) (m : Move)
      → AreMoves is_predicate clauses c ms → MovesTo is_predicate clauses (end_of_moves c ms) m
      → AreMoves is_predicate clauses c (ms ++ m ∷ [])
  moves-push c [] m are to = (to, tt)
  moves-push c (k ∷ ms) m are to = (are.0, moves-push k.gives ms m are.1 to)

end-push : (c : TreeClause) (ms : List Move) (m : Move) → end_of_moves c (ms ++ m ∷ []) ≡ m.gives
end-push c [] m = refl
end-push c (k ∷ ms) m = end-push k.gives ms m

units-one : (by : Option ℕ) (d : TreeClause) → units_of (record { by = by; gives = d } ∷ []) ≡ unit_numbers by
units-one None d = refl
units-one (Some n) d = refl

units-push : (ms : List Move) (m : Move) → units_of (ms ++ m ∷ []) ≡ units_of ms ++ unit_numbers m.by
units-push ms m =
    filter_map-append (λ (k : Move). k.by) ms (m ∷ []) ∙ ap (λ ns. units_of ms ++ ns) (units-one m.by m.gives)

-- ---- the law

module _
    (p : ℕ → Bool) (clauses : ℕ → Option TreeClause) (c : TreeClause) (old new : Reduced) (m : Move) (lines : List Line)
    (it : IsReduced p clauses c old)
    (are : AreLinesOfMove p clauses (clause_of old.clause) (last_number old.lines) m lines)
    (is : IsExtended old m.by lines new) where
  abbrev all : List Line
  all = old.lines ++ lines

  are_lines : AreLines p (CLAUSE_NUMBERS + 1) (reduced_parents (clause_parents clauses) c) all
  are_lines = record {
    kinds = list_all-joined (λ (l : Line). is_on_literals l.step) old.lines lines it.are_lines.kinds are.are_lines.kinds;
    steps =
        steps-joined (clause_parents clauses) c old.lines it.are_lines.kinds (clause_of old.clause) it.ends lines are.are_lines.kinds
        it.are_lines.steps are.are_lines.steps;
    numbered = All-append IsNumbered old.lines lines it.are_lines.numbered are.are_lines.numbered;
    terms =
        list_all-joined (λ (l : Line). binds_each (is_function_term p) l.step) old.lines lines it.are_lines.terms are.are_lines.terms;
    small = list_all-joined has_small_terms old.lines lines it.are_lines.small are.are_lines.small;
  }

  symbols : BindsSymbolsOf clauses c (noted m.by old.used) all
  symbols test truth passes each =
      let before : bound_symbols_pass test old.lines ≡ true =
      it.symbols test truth passes λ d one.
      each d (record { number = one.number; listed = noted-keeps m.by one.number old.used one.listed; there = one.there }) in
      let last =
      last-passes clauses c old.used old.lines it.are_lines.kinds it.are_lines.steps it.used test passes
      (λ d one. each d (record { number = one.number; listed = noted-keeps m.by one.number old.used one.listed; there = one.there })) before in
      list_all-joined (λ (l : Line). binds_each (symbols_pass test) l.step) old.lines lines before
      (are.symbols test truth (ap (clause_symbols_pass test) it.ends ∙ last) λ d one.
      each d (record {
        number = one.number;
        listed = All-contains (Contains (noted m.by old.used)) (unit_numbers m.by) one.number (noted-has m.by old.used) one.listed;
        there = one.there;
      }))

  pub extended : IsReduced p clauses c new
  extended = record {
    are_lines = subst (λ ls. AreLines p (CLAUSE_NUMBERS + 1) (reduced_parents (clause_parents clauses) c) ls) (sym is.lines) are_lines;
    ends =
        is.clause
        ∙ ap (λ d. last_clause d lines) it.ends
        ∙ sym (last-append c old.lines lines)
        ∙ ap (last_clause c) (sym is.lines);
    symbols =
        subst (λ ls. BindsSymbolsOf clauses c new.used ls) (sym is.lines)
        (subst (λ ns. BindsSymbolsOf clauses c ns all) (sym is.used) symbols);
    used =
        is.used
        ∙ ap (noted m.by) it.used
        ∙ noted-distinct m.by (clauses_named old.lines)
        ∙ ap (λ ns. distinct (clauses_named old.lines ++ ns)) (sym are.named)
        ∙ ap distinct (sym (named-append old.lines lines))
        ∙ ap (λ ls. distinct (clauses_named ls)) (sym is.lines);
    moves = it.moves ++ m ∷ [];
    moved = moves-push p clauses c it.moves m it.moved (subst (λ d. MovesTo p clauses d m) it.moved_to are.moved);
    moved_to = is.clause ∙ sym are.ends ∙ sym (end-push c it.moves m);
    by_used =
        subst (λ ns. All (Contains ns) (units_of (it.moves ++ m ∷ []))) (sym is.used)
        (subst (λ ns. All (Contains (noted m.by old.used)) ns) (sym (units-push it.moves m))
        (All-append (Contains (noted m.by old.used)) (units_of it.moves) (unit_numbers m.by)
        (All-weaker (Contains old.used) (Contains (noted m.by old.used)) (λ n there. noted-keeps m.by n old.used there) (units_of it.moves) it.by_used)
        (noted-has m.by old.used)));
    all_used =
        subst (λ ns. All (Contains (units_of (it.moves ++ m ∷ []))) ns) (sym is.used)
        (subst (λ ns. All (Contains ns) (noted m.by old.used)) (sym (units-push it.moves m))
        (noted-all (units_of it.moves) m.by old.used it.all_used));
    some_moved = λ none. absurd (push-some it.moves m none);
  }

pub moves_extend : MovesExtend
moves_extend p clauses c old new m lines it are is = extended p clauses c old new m lines it are is

pub steps_go_on : StepsGoOn
steps_go_on p clauses c by old new it goes =
    moves_extend p clauses c old new goes.move goes.lines it goes.makes
    (subst (λ n. IsExtended old n goes.lines new) (sym goes.of_unit) goes.extended)
