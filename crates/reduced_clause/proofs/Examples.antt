-- The worked reduction, and lines and numbers that are none.
use Rattle.std.proofs.Common.{◌≡◌, ℕ, zero, suc, ◌+◌, List, [], ◌∷◌, refl, sym, ◌∙◌, subst, inl, arith}
use Rattle.std.specs.Prelude.{Some, take, Contains, IsTrue, IsFalse}
use Rattle.std.proofs.lemmas.Bool.{true≢false}
use Rattle.std.proofs.lemmas.Option.{none-some, same_Some}
use Rattle.std.proofs.lemmas.List.Elements.{All-nil, All-cons}
use Rattle.fol_base.specs.Tree.{Tree, tree_variables}
use Rattle.fol_base.specs.Instance.{instance}
use Rattle.fol_base.specs.Place.{subterm}
use Rattle.fol_base.specs.Unifier.{IsMatcher}
use Rattle.fol_base.specs.Ground.{literals_instance}
use Rattle.fol_base.specs.Sides.{side_of, other_side_of}
use Rattle.fol_base.specs.Order.{tree_greater}
use Rattle.fol_base.specs.Canonical.{canonical_clause}
use Rattle.fol_base.specs.declared.clause.Side.{Side}
use Rattle.kernel_steps.specs.Inference.{have_heads_of_one_kind}
use Rattle.fol_base.specs.Clause.{TreeLiteral}
use Rattle.fol_base.specs.Examples.{a, b, c, f, equation, clause, is_predicate, all_a}
use Rattle.fol_base.specs.Rules.{disequation, superposed}
use Rattle.fol_base.specs.Literal.{clause_of}
use Rattle.fol_base.specs.declared.clause.Side.TheVariants.{Left, Right}
use Rattle.kernel_steps.specs.Derivation.{AreSteps, continued, reduced_parents}
use Rattle.kernel_steps.specs.Conclusion.{concludes, verdict}
use Rattle.kernel_steps.specs.declared.step.TheConstants.{CLAUSE_NUMBERS}
use Rattle.kernel_steps.specs.declared.step.Line.{Line}
use Rattle.kernel_steps.specs.Lines.{clause_parents, IsNumbered}
use Rattle.kernel_steps.specs.Moves.{MovesTo}
use Rattle.reduced_clause.specs.Reduced.{IsReduced, BindsSymbolsOf}
use Rattle.reduced_clause.specs.Extending.{AreLinesOfMove, parents_with}
use Rattle.reduced_clause.specs.Examples.{units, given, first_line, second_line, rewriting_lines, reduced_to, move_to}

are_steps : AreSteps (CLAUSE_NUMBERS + 1) (reduced_parents (clause_parents units) given) (rewriting_lines (CLAUSE_NUMBERS + 1))
are_steps zero line there =
    subst
    (λ (l : Line). verdict l.step (continued (CLAUSE_NUMBERS + 1) (reduced_parents (clause_parents units) given) []) ≡ concludes (clause_of l.clause))
    (same_Some _ line there) refl
are_steps (suc zero) line there =
    subst
    (λ (l : Line). verdict l.step
    (continued (CLAUSE_NUMBERS + 1) (reduced_parents (clause_parents units) given) (take 1 (rewriting_lines (CLAUSE_NUMBERS + 1))))
    ≡ concludes (clause_of l.clause))
    (same_Some _ line there) refl
are_steps (suc (suc n)) line there = absurd (none-some line there)

-- literal m, on its own, by a unit of the list with this number
step_by :
    (number : ℕ) (l m made : TreeLiteral) (side : Side) (place : List ℕ) (old : Tree)
    → units number ≡ Some (clause (l ∷ []))
    → subterm place m.left ≡ Some old → IsTrue (have_heads_of_one_kind is_predicate (side_of side l) old)
    → IsMatcher (side_of side l) old all_a → IsTrue (tree_greater old (instance all_a (other_side_of side l)))
    → tree_variables (other_side_of side l) ≡ [] → IsFalse m.positive
    → superposed (literals_instance all_a (l ∷ [])) 0 side (m ∷ []) 0 Left place ≡ Some (made ∷ [])
    → clause (made ∷ []) ≡ canonical_clause (clause (made ∷ []))
    → MovesTo is_predicate units (clause (m ∷ [])) (record { by = Some number; gives = clause (made ∷ []) })
step_by number l m made side place old unit there kind matches greater none negative gives canonical = record {
  result = clause (made ∷ []);
  step =
      record {
        clause = clause (l ∷ []);
        there = unit;
        infers =
            inl
            (
            record {
              equation = l;
              is_unit = refl;
              from_side = side;
              j = 0;
              literal = m;
              literal_there = refl;
              into_side = Left;
              place = place;
              old = old;
              old_there = there;
              one_kind = kind;
              matcher = all_a;
              function_terms = λ v. refl;
              matches = matches;
              greater = greater;
              no_new_variables = rw none (All-nil _);
              root_allowed = λ positive root. absurd (true≢false (sym positive ∙ negative));
              asserted = refl;
              gives = gives;
              names = refl;
            }
            );
      };
  canonical = canonical;
}

cons-some : {X : Type 0} (x : X) (xs : List X) → x ∷ xs ≡ [] → ⊥
cons-some x xs none = cc

symbols_kept : BindsSymbolsOf units given (0 ∷ 1 ∷ []) (rewriting_lines (CLAUSE_NUMBERS + 1))
symbols_kept test truth pass all = refl

pub rewritten :
    IsReduced is_predicate units given
    (reduced_to (disequation c c ∷ []) (rewriting_lines (CLAUSE_NUMBERS + 1)) (0 ∷ 1 ∷ []))
rewritten =
    let last : Line = second_line (CLAUSE_NUMBERS + 1) in
    record {
      are_lines =
          record {
            kinds = refl;
            steps = are_steps;
            numbered =
                All-cons IsNumbered first_line (last ∷ []) (record { canonical = refl; bindings = refl })
                (All-cons IsNumbered last [] (record { canonical = refl; bindings = refl }) (All-nil IsNumbered));
            terms = refl;
            small = refl;
          };
      ends = refl;
      symbols = symbols_kept;
      used = refl;
      moves =
          record { by = Some 0; gives = clause (disequation (f a) c ∷ []) } ∷ record { by = Some 1; gives = clause (disequation c c ∷ []) } ∷ [];
      moved = (
        step_by 0 (equation a b) (disequation (f b) c) (disequation (f a) c) Right (0 ∷ []) b refl refl refl refl refl refl refl refl refl,
        (
          step_by 1 (equation (f a) c) (disequation (f a) c) (disequation c c) Left [] (f a) refl refl refl refl refl refl refl refl refl,
          tt,
        ),
      );
      moved_to = refl;
      by_used =
          All-cons (Contains (0 ∷ 1 ∷ [])) 0 (1 ∷ []) (0, omega arith, refl)
          (All-cons (Contains (0 ∷ 1 ∷ [])) 1 [] (1, omega arith, refl) (All-nil (Contains (0 ∷ 1 ∷ []))));
      all_used =
          All-cons (Contains (0 ∷ 1 ∷ [])) 0 (1 ∷ []) (0, omega arith, refl)
          (All-cons (Contains (0 ∷ 1 ∷ [])) 1 [] (1, omega arith, refl) (All-nil (Contains (0 ∷ 1 ∷ []))));
      some_moved = λ none. absurd (cons-some _ _ none);
    }

-- a line that isn't there yet is no parent
pub later_parent :
    IsReduced is_predicate units given
    (reduced_to (disequation c c ∷ []) (rewriting_lines (CLAUSE_NUMBERS + 2)) (0 ∷ 1 ∷ []))
    → ⊥
later_parent it = let e = it.are_lines.steps 1 _ refl in cc

-- ---- one move

second_step : AreSteps (CLAUSE_NUMBERS + 2) (parents_with (clause_parents units) (CLAUSE_NUMBERS + 1) (clause (disequation (f a) c ∷ []))) (second_line (CLAUSE_NUMBERS + 1) ∷ [])
second_step zero line there =
    subst
    (λ (l : Line). verdict l.step
    (continued (CLAUSE_NUMBERS + 2) (parents_with (clause_parents units) (CLAUSE_NUMBERS + 1) (clause (disequation (f a) c ∷ []))) [])
    ≡ concludes (clause_of l.clause))
    (same_Some _ line there) refl
second_step (suc n) line there = absurd (none-some line there)

pub one_move :
    AreLinesOfMove is_predicate units (clause (disequation (f a) c ∷ [])) (CLAUSE_NUMBERS + 1)
    (move_to (Some 1) (disequation c c ∷ [])) (second_line (CLAUSE_NUMBERS + 1) ∷ [])
one_move =
    let last : Line = second_line (CLAUSE_NUMBERS + 1) in
    record {
      are_lines =
          record {
            kinds = refl;
            steps = second_step;
            numbered = All-cons IsNumbered last [] (record { canonical = refl; bindings = refl }) (All-nil IsNumbered);
            terms = refl;
            small = refl;
          };
      named = refl;
      symbols = λ test truth pass all. refl;
      ends = refl;
      moved =
          step_by 1 (equation (f a) c) (disequation (f a) c) (disequation c c) Left [] (f a) refl refl refl refl refl refl refl refl refl;
    }
