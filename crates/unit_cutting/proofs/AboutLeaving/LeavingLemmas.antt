-- What the two lines of a cut leave, whatever use the symbols have: the clause without the literal, numbered anew.
use Rattle.std.proofs.Common.{◌≡◌, ℕ, ◌+◌, ◌≤◌, Bool, true, false, not, Some, List, [], ◌∷◌, ◌++◌, refl, ap, ap₂, sym, ◌∙◌, subst, arith}
use Rattle.std.specs.Prelude.{flat_map, slice_get, sum_by, remove, Option}
use Rattle.std.proofs.lemmas.Option.{same_Some}
use Rattle.plain_types.specs.declared.sequence.NameLit.{NameLit}
use Rattle.fol_base.specs.Tree.{trees_of, trees_variables}
use Rattle.fol_base.specs.Clause.{TreeLiteral, TreeClause, literal_instance, literal_size, literal_variables, clause_size}
use Rattle.fol_base.specs.Ground.{literals_instance}
use Rattle.fol_base.specs.Canonical.{canonical_clause, distinct, renaming}
use Rattle.fol_base.specs.Literal.{clause_of}
use Rattle.fol_base.specs.Numbering.{with_variables}
use Rattle.fol_base.specs.Rules.{resolved}
use Rattle.fol_base.specs.Sides.{other_side_of}
use Rattle.fol_base.specs.declared.limits.TheConstants.{MOST_SYMBOLS, MOST_BOUND_SYMBOLS}
use Rattle.fol_base.proofs.AboutClauses.InferenceLemmas.{map-remove}
use Rattle.kernel_steps.specs.Derivation.{complement}
use Rattle.kernel_steps.specs.Names.{sorted_names}
use Rattle.kernel_steps.specs.declared.step.Step.TheVariants.{Refl}
use Rattle.kernel_steps.specs.declared.step.Line.{Line}
use Rattle.kernel_steps.proofs.AboutNames.NameRanks.{sorted-same}
use Rattle.eq_rules.proofs.AboutConclusions.WideLemmas.{renamed-literals_size}
use Rattle.unit_cutting.specs.Cutting.{IsFirstLine, IsFitting, before_last, last_index, open_side, unit_terms}
use Rattle.unit_cutting.specs.Fit.{IsFit}
use Rattle.unit_cutting.specs.Removing.{IsOwnStep}
use Rattle.kernel_steps.specs.Lines.{own_terms}
use Rattle.unit_cutting.specs.declared.cutting.Cut.{Cut}
use Rattle.unit_cutting.proofs.AboutLeaving.RemovalLemmas.{resolved-removes}
use Rattle.unit_cutting.proofs.AboutLeaving.MoveLemmas.{IsOnOne, d-canonical, smaller-removed}
use Rattle.unit_cutting.proofs.AboutCuts.SuperposingLemmas.{under-renamed}
use Rattle.unit_cutting.proofs.AboutCuts.CutLemmas.{negative-unit, positive-unit, unit-below}
use Rattle.unit_cutting.proofs.AboutCuts.CutLineLemmas.{canonical-left, left-before, size-before}
use Rattle.unit_cutting.proofs.AboutCuts.OwnLemmas.{own-below}

abbrev pub canon : List TreeLiteral → List TreeLiteral
canon ls = literals_instance (renaming (distinct (flat_map literal_variables ls))) ls

-- the literals of the first line: plain ones with the variables by new numbers
pub record FirstShape (plain : List TreeLiteral) (line : Line) : Type 0 where
  pub order : List ℕ
  pub others : List ℕ
  pub met : order ≡ with_variables (with_variables [] (flat_map literal_variables plain)) others
  pub literals : (clause_of line.clause).literals ≡ literals_instance (renaming order) plain

pub first-shape :
    (uc : TreeClause) (u : TreeLiteral) (is_unit : uc.literals ≡ u ∷ []) (c : TreeClause) (l : TreeLiteral) (cut : Cut)
    → slice_get c.literals cut.index ≡ Some l → IsFitting (complement u) l cut.fitting → (n number : ℕ) (line : Line)
    → (positive : Bool) → u.positive ≡ not positive → IsFirstLine positive uc n c number l cut line
    → FirstShape (before_last positive c.literals cut.index (other_side_of (open_side l) l)) line
first-shape uc u is_unit c l cut there fits n number line true sign it =
    let plain : List TreeLiteral = before_last true c.literals cut.index (other_side_of (open_side l) l) in
    record {
      order = it.order;
      others = trees_variables (trees_of (own_terms c ++ unit_terms uc cut.fitting.terms));
      met = it.order_met;
      literals =
          same_Some (clause_of line.clause).literals (literals_instance (renaming it.order) plain)
          (sym it.gives
          ∙ under-renamed c.literals uc.literals _ _ _ _ _ _ it.first_bind it.second_bind it.order (own-below c)
          (unit-below uc u is_unit l cut.fitting fits) it.first_renamed it.second_renamed plain
          (negative-unit uc u is_unit l cut.fitting fits c cut.index there sign));
    }
first-shape uc u is_unit c l cut there fits n number line false sign it =
    let plain : List TreeLiteral = before_last false c.literals cut.index (other_side_of (open_side l) l) in
    record {
      order = it.order;
      others = trees_variables (trees_of (unit_terms uc cut.fitting.terms ++ own_terms c));
      met = it.order_met;
      literals =
          same_Some (clause_of line.clause).literals (literals_instance (renaming it.order) plain)
          (sym it.gives
          ∙ under-renamed uc.literals c.literals _ _ _ _ _ _ it.first_bind it.second_bind it.order
          (unit-below uc u is_unit l cut.fitting fits) (own-below c) it.first_renamed it.second_renamed plain
          (positive-unit uc u is_unit l cut.fitting fits c cut.index there sign));
    }

module _
    (c : TreeClause) (fit : IsFit c) (number : ℕ) (l : TreeLiteral) (j : ℕ) (there : slice_get c.literals j ≡ Some l) (positive : Bool)
    (first second : Line) (names : (clause_of first.clause).names ≡ sorted_names c.names)
    (shape : FirstShape (before_last positive c.literals j (other_side_of (open_side l) l)) first)
    (own : IsOwnStep (λ ls. resolved ls (last_index positive j)) (λ bind. Refl (number + 1) (last_index positive j) bind) (clause_of first.clause) second) where
  abbrev plain : List TreeLiteral
  plain = before_last positive c.literals j (other_side_of (open_side l) l)

  abbrev k : ℕ
  k = last_index positive j

  abbrev d : TreeClause
  d = clause_of first.clause

  abbrev e : TreeClause
  e = clause_of second.clause

  abbrev rule : List TreeLiteral → Option (List TreeLiteral)
  rule ls = resolved ls k

  pub on-last : IsOnOne rule (number + 1) own.bind second.step
  on-last =
      subst (λ st. IsOnOne rule (number + 1) own.bind st) (sym own.of_step)
      (record { on_literals = refl; by_rule = λ parents. refl; binds = refl; parent = refl })

  pub bounded-first : clause_size d ≤ MOST_BOUND_SYMBOLS
  bounded-first =
      let size : clause_size d ≡ sum_by literal_size plain = ap (sum_by literal_size) shape.literals ∙ renamed-literals_size shape.order plain in
      omega (arith, size, size-before positive c.literals j l there fit.small)

  left-renamed : remove d.literals k ≡ literals_instance (renaming shape.order) (remove c.literals j)
  left-renamed =
      ap (λ ls. remove ls k) shape.literals
      ∙ map-remove (literal_instance (renaming shape.order)) plain k
      ∙ ap (literals_instance (renaming shape.order)) (left-before positive c.literals j (other_side_of (open_side l) l))

  pub left-small : sum_by literal_size (remove d.literals k) ≤ MOST_SYMBOLS
  left-small =
      let size : sum_by literal_size (remove d.literals k) ≡ sum_by literal_size (remove c.literals j) =
      ap (sum_by literal_size) left-renamed ∙ renamed-literals_size shape.order (remove c.literals j) in
      omega (arith, size, smaller-removed c.literals j, fit.small)

  e-canonical : e.literals ≡ canon (remove c.literals j)
  e-canonical =
      d-canonical rule k (resolved-removes k) (number + 1) d bounded-first left-small second own.bind on-last own.gives
      ∙ ap (λ ls. canon (remove ls k)) shape.literals
      ∙ canonical-left plain (remove c.literals j) shape.others shape.order k (left-before positive c.literals j (other_side_of (open_side l) l)) shape.met

  e-names : e.names ≡ c.names
  e-names = own.gives.names ∙ ap sorted_names (names ∙ sym (sorted-same c.names fit.names)) ∙ sym (sorted-same c.names fit.names)

  pub left-canonical : e ≡ canonical_clause (record { literals = remove c.literals j; names = c.names })
  left-canonical = ap₂ (λ (ls : List TreeLiteral) (ms : List NameLit). let f : TreeClause = record { literals = ls; names = ms } in f) e-canonical e-names
