-- Clauses that are reduced by moves, or found redundant: their ground instances are covered by the result and the clauses used.
use Rattle.std.proofs.Common.{◌≡◌, ℕ, Bool, true, ◌==◌, List, [], ◌∷◌, refl, sym, subst, inl, inr, ⊎_elim}
use Rattle.std.specs.Prelude.{Option, None, Some, filter_map, All, Contains, IsTrue}
use Rattle.std.specs.List.{list_all, list_any, cons_option}
use Rattle.std.proofs.lemmas.Bool.{and_parts, eqb-true, eq-eqb}
use Rattle.std.proofs.lemmas.List.Elements.{All-contains}
use Rattle.fol_base.specs.Clause.{TreeClause, clause_variables}
use Rattle.fol_base.specs.Canonical.{canonical_clause, distinct}
use Rattle.fol_base.specs.Symbols.{FunctionSymbols}
use Rattle.fol_base.specs.Subsumption.{Subsumes}
use Rattle.kbo_order.proofs.AboutMultisets.MemberLemmas.{In, In-contains, any-In, In-all}
use Rattle.kernel_steps.specs.Inference.{Reduces, is_tautology}
use Rattle.kernel_steps.specs.Named.{OfOne}
use Rattle.kernel_steps.specs.Moves.{Move, IsMove, AreMoves, end_of_moves, units_of}
use Rattle.laws_calculus.specs.Symbols.{is_allowed, HasSymbolsOf}
use Rattle.laws_calculus.specs.Coverage.{CoversEach, MovesCovered, MovedAwayCovered, used_by_moves}
use Rattle.laws_calculus.proofs.AboutCovering.ClauseLemmas.{some-In}
use Rattle.laws_calculus.proofs.AboutCovering.SymbolLemmas.{renamed-pass}
use Rattle.laws_calculus.proofs.AboutCovering.CoverLemmas.{Together, together-listed, canonical_covers, tautologies, subsumed}
use Rattle.laws_calculus.proofs.AboutCovering.EachLemmas.{each-held, each-more, each-beside}
use Rattle.laws_calculus.proofs.AboutCovering.RewriteLemmas.{AllPass, reductions, step_keeps_symbols}

-- the number passes the test, where there is one
abbrev PassesUnit : (ℕ → Bool) → Option ℕ → Type 0
PassesUnit p None = Unit {0}
PassesUnit p (Some n) = p n ≡ true

units-pass : (p : ℕ → Bool) (o : Option ℕ) (ns : List ℕ) → list_all p (cons_option o ns) ≡ true → PassesUnit p o × (list_all p ns ≡ true)
units-pass p None ns h = (tt, h)
units-pass p (Some n) ns h = and_parts (p n) (list_all p ns) h

module _
    (is_predicate : ℕ → Bool) (functions : FunctionSymbols is_predicate) (Used : TreeClause → Type 0) (used_pass : AllPass (is_allowed functions) Used) where
  -- where c came to d
  pub record Reached (c d : TreeClause) : Type 0 where
    pub covers : CoversEach functions (Together Used d) c
    pub symbols : HasSymbolsOf functions d

  step-reached : (c d : TreeClause) → HasSymbolsOf functions c → Reduces is_predicate Used c d → Reached c (canonical_clause d)
  step-reached c d symbols step = record {
    covers =
        canonical_covers is_predicate functions (Together Used d) (Together Used (canonical_clause d)) c d
        (λ e one. ⊎_elim (λ (used : Used e). inl (inl used)) (λ (same : e ≡ d). inr same) one)
        (inr refl) (reductions is_predicate functions Used c d symbols step);
    symbols =
        renamed-pass (is_allowed functions) (distinct (clause_variables d)) d.literals
        (step_keeps_symbols is_predicate (is_allowed functions) Used c d used_pass symbols step);
  }

  module _ (clauses : ℕ → Option TreeClause) (p : ℕ → Bool) (uses : (n : ℕ) (u : TreeClause) → clauses n ≡ Some u → p n ≡ true → Used u) where
    move-reached :
        (c d : TreeClause) (by : Option ℕ) → IsMove is_predicate clauses c by d → PassesUnit p by → HasSymbolsOf functions c
        → Reached c (canonical_clause d)
    move-reached c d None move unit symbols =
        step-reached c d symbols (⊎_elim (λ trivial. inl trivial) (λ merging. inr (inl merging)) move)
    move-reached c d (Some n) move unit symbols =
        let used : Used move.clause = uses n move.clause move.there unit in
        step-reached c d symbols
        (⊎_elim
        (λ rewrites. inr (inr (inl (record { clause = move.clause; holds = used; does = rewrites }))))
        (λ cuts. inr (inr (inr (record { clause = move.clause; holds = used; does = cuts }))))
        move.infers)

    pub moves-reached :
        (ms : List Move) (c : TreeClause)
        → AreMoves is_predicate clauses c ms → list_all p (units_of ms) ≡ true → HasSymbolsOf functions c
        → Reached c (end_of_moves c ms)
    moves-reached [] c moves units symbols = record { covers = each-held functions (Together Used c) c (inr refl); symbols = symbols }
    moves-reached (m ∷ ms) c moves units symbols =
        let moved = moves.0 in
        let unit = units-pass p m.by (units_of ms) units in
        let first : Reached c m.gives =
        subst (Reached c) (sym moved.canonical) (move-reached c moved.result m.by moved.step unit.0 symbols) in
        let rest = moves-reached ms m.gives moves.1 unit.1 first.symbols in
        let End : TreeClause → Type 0 = Together Used (end_of_moves m.gives ms) in
        record {
          covers = each-beside functions Used End c m.gives (λ u used. each-held functions End u (inl used)) rest.covers first.covers;
          symbols = rest.symbols;
        }

    -- ---- redundant clauses

    pub subsumed-covered :
        (c : TreeClause) (n : ℕ)
        → HasSymbolsOf functions c → OfOne clauses n (λ d. Subsumes is_predicate d c) → p n ≡ true → CoversEach functions Used c
    subsumed-covered c n symbols by passes =
        each-more functions (λ e. e ≡ by.clause) Used c (λ e same. subst Used (sym same) (uses n by.clause by.there passes))
        (subsumed is_predicate functions by.clause c symbols by.infers)

  -- what leads to a clause that is covered by what was used
  pub away-covered : (c d : TreeClause) → Reached c d → CoversEach functions Used d → CoversEach functions Used c
  away-covered c d reached covers = each-beside functions Used Used c d (λ u used. each-held functions Used u used) covers reached.covers

-- ---- by the clauses that moves use

In-option : {X : Type 0} (o : Option X) (xs : List X) (x : X) → In x xs → In x (cons_option o xs)
In-option None xs x there = there
In-option (Some y) xs x there = inr there

first-option : {X : Type 0} (o : Option X) (xs : List X) (x : X) → o ≡ Some x → In x (cons_option o xs)
first-option o xs x is = subst (λ p. In x (cons_option p xs)) (sym is) (inl refl)

looked-up : (clauses : ℕ → Option TreeClause) (ns : List ℕ) (n : ℕ) (u : TreeClause) → clauses n ≡ Some u → In n ns → In u (filter_map clauses ns)
looked-up clauses [] n u there none = absurd none
looked-up clauses (m ∷ ms) n u there among =
    ⊎_elim
    (λ (same : n ≡ m). first-option (clauses m) (filter_map clauses ms) u (subst (λ k. clauses k ≡ Some u) same there))
    (λ (later : In n ms). In-option (clauses m) (filter_map clauses ms) u (looked-up clauses ms n u there later))
    among

module _
    (is_predicate : ℕ → Bool) (functions : FunctionSymbols is_predicate) (clauses : ℕ → Option TreeClause) (c : TreeClause) (ms : List Move)
    (all : All (HasSymbolsOf functions) (used_by_moves clauses ms)) (symbols : HasSymbolsOf functions c) (moves : AreMoves is_predicate clauses c ms) where
  abbrev used : List TreeClause
  used = used_by_moves clauses ms

  abbrev Used : TreeClause → Type 0
  Used = Contains used

  used_pass : AllPass (is_allowed functions) Used
  used_pass u there = All-contains (HasSymbolsOf functions) used u all there

  abbrev is_unit : ℕ → Bool
  is_unit n = list_any (λ m. n == m) (units_of ms)

  uses : (n : ℕ) (u : TreeClause) → clauses n ≡ Some u → is_unit n ≡ true → Used u
  uses n u there unit =
      let found = any-In (λ m. n == m) (units_of ms) unit in
      In-contains u used
      (looked-up clauses (units_of ms) n u there (subst (λ k. In k (units_of ms)) (sym (eqb-true n found.0 found.2)) found.1))

  reached : Reached is_predicate functions Used used_pass c (end_of_moves c ms)
  reached =
      moves-reached is_predicate functions Used used_pass clauses is_unit uses ms c moves
      (In-all is_unit (units_of ms) (λ n there. some-In (λ m. n == m) (units_of ms) n there (eq-eqb n n refl))) symbols

  covered : CoversEach functions (Contains (end_of_moves c ms ∷ used)) c
  covered =
      each-more functions (Together Used (end_of_moves c ms)) (Contains (end_of_moves c ms ∷ used)) c
      (λ e one. together-listed used (end_of_moves c ms) e one) reached.covers

  away-by_none : IsTrue (is_tautology (end_of_moves c ms)) → CoversEach functions Used c
  away-by_none tautology =
      away-covered is_predicate functions Used used_pass c (end_of_moves c ms) reached
      (tautologies is_predicate functions Used (end_of_moves c ms) tautology)

  away-by_one : (d : TreeClause) → Subsumes is_predicate d (end_of_moves c ms) → CoversEach functions (Contains (d ∷ used)) c
  away-by_one d by =
      let Holds : TreeClause → Type 0 = Contains (d ∷ used) in
      each-beside functions Used Holds c (end_of_moves c ms)
      (λ u there. each-held functions Holds u (together-listed used d u (inl there)))
      (each-more functions (λ e. e ≡ d) Holds (end_of_moves c ms) (λ e same. together-listed used d e (inr same))
      (subsumed is_predicate functions d (end_of_moves c ms) reached.symbols by))
      reached.covers

pub moves_covered : MovesCovered
moves_covered is_predicate functions clauses c ms all symbols moves = covered is_predicate functions clauses c ms all symbols moves

pub moved_away_covered : MovedAwayCovered
moved_away_covered is_predicate functions clauses c ms all symbols moves = (
  away-by_none is_predicate functions clauses c ms all symbols moves,
  away-by_one is_predicate functions clauses c ms all symbols moves,
)
