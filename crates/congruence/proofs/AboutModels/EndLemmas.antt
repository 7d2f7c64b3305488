-- What holds of the clauses while models are excluded, and what the answers say.
use Rattle.std.proofs.Common.{◌≡◌, ℕ, ◌<◌, Bool, true, false, ◌&&◌, List, [], ◌∷◌, ◌++◌, length, refl, sym, ap, subst, ◌∙◌}
use Rattle.std.proofs.lemmas.Bool.{true≢false}
use Rattle.std.proofs.lemmas.List.Folds.{list_all-append}
use Rattle.std.specs.Prelude.{◌↔◌, IsTrue}
use Rattle.std.specs.List.{list_all}
use Rattle.list_lemmas.proofs.Bools.{and-true, and-false}
use Rattle.list_lemmas.proofs.Tests.{all-joined, all-parts}
use Rattle.sat_core.specs.Clause.{PropClause, Valuation, is_below, names_below, clause_true, clauses_true, valuation_of}
use Rattle.sat_core.specs.Answer.{IsRightModel, IsRightLog}
use Rattle.sat_core.specs.declared.answer.Chain.{Chain}
use Rattle.sat_core.proofs.AboutTrails.TruthLemmas.{right_logs_refute}
use Rattle.congruence.specs.declared.node.Node.{Node}
use Rattle.congruence.specs.declared.node.Equation.{Equation}
use Rattle.congruence.specs.Congruence.{Numbering, IsCongruence}
use Rattle.congruence.specs.Models.{values_by, HasNoModel, HasModel, AreExtended, KeepEquality, IsConflict}
use Rattle.congruence.proofs.AboutModels.ClauseLemmas.{clauses-agree}
use Rattle.congruence.proofs.AboutModels.CountLemmas.{passing, count-falls}

-- how many models there are
abbrev pub models_left : ℕ → List PropClause → ℕ
models_left names clauses = passing names (λ vs. clauses_true (valuation_of vs) clauses)

pub extended-none : (nodes : List Node) (atoms : List Equation) (clauses : List PropClause) → names_below (length atoms) clauses ≡ true → AreExtended nodes atoms clauses clauses
extended-none nodes atoms clauses below = record {
  below = below;
  follow = λ class congruent holds. holds;
  stay = λ v holds. holds;
}

pub extended-more :
    (nodes : List Node) (atoms : List Equation) (first now new : List PropClause) (v : Valuation) (clause : PropClause)
    → AreExtended nodes atoms first now → IsConflict nodes atoms v clause → new ≡ now ++ clause ∷ [] → AreExtended nodes atoms first new
extended-more nodes atoms first now new v clause so_far conflict is =
    subst (AreExtended nodes atoms first) (sym is) record {
      below =
          all-joined (λ (c : PropClause). list_all (is_below (length atoms)) c) now (clause ∷ []) so_far.below
          (and-true (list_all (is_below (length atoms)) clause) ∙ conflict.below);
      follow =
          λ class congruent holds.
          all-joined (clause_true (values_by class atoms)) now (clause ∷ []) (so_far.follow class congruent holds)
          (and-true (clause_true (values_by class atoms) clause) ∙ conflict.valid class congruent);
      stay = λ w holds. so_far.stay w (all-parts (clause_true w) now (clause ∷ []) holds).0;
    }

pub extended-twice :
    (nodes : List Node) (atoms : List Equation) (first now new : List PropClause) → AreExtended nodes atoms first now
    → AreExtended nodes atoms now new → AreExtended nodes atoms first new
extended-twice nodes atoms first now new so_far more = record {
  below = more.below;
  follow = λ class congruent holds. more.follow class congruent (so_far.follow class congruent holds);
  stay = λ v holds. so_far.stay v (more.stay v holds);
}

-- clauses with a conflict are false
pub conflict-there :
    (nodes : List Node) (atoms : List Equation) (now new : List PropClause) (v : Valuation) (clause : PropClause)
    → IsConflict nodes atoms v clause → new ≡ now ++ clause ∷ [] → clauses_true v new ≡ false
conflict-there nodes atoms now new v clause conflict is =
    ap (clauses_true v) is
    ∙ list_all-append (clause_true v) now (clause ∷ [])
    ∙ ap (λ b. clauses_true v now && (b && true)) conflict.broken
    ∙ and-false (clauses_true v now)

pub fewer-models :
    (nodes : List Node) (atoms : List Equation) (now new : List PropClause) (names : ℕ) (truths : List Bool)
    → IsRightModel names now truths → AreExtended nodes atoms now new → clauses_true (valuation_of truths) new ≡ false
    → models_left names new < models_left names now
fewer-models nodes atoms now new names truths right extended broken =
    count-falls names (λ vs. clauses_true (valuation_of vs) now) (λ vs. clauses_true (valuation_of vs) new)
    (λ vs holds. extended.stay (valuation_of vs) holds) truths right.complete right.makes_true broken

-- ---- the answers

no-model :
    (nodes : List Node) (atoms : List Equation) (first now : List PropClause) (log : List Chain)
    → AreExtended nodes atoms first now → IsRightLog now log → HasNoModel nodes atoms first
no-model nodes atoms first now log extended right class congruent = by (clauses_true (values_by class atoms) first) refl
  where
    by : (b : Bool) → clauses_true (values_by class atoms) first ≡ b → clauses_true (values_by class atoms) first ≡ false
    by false e = e
    by true e = absurd (true≢false (sym (extended.follow class congruent e) ∙ right_logs_refute now log right (values_by class atoms)))

pub refuted-by-log :
    (nodes : List Node) (atoms : List Equation) (first now : List PropClause) (log : List Chain)
    → AreExtended nodes atoms first now → IsRightLog now log → IsTrue true ↔ HasNoModel nodes atoms first
refuted-by-log nodes atoms first now log extended right = ((λ _. no-model nodes atoms first now log extended right), λ _. refl)

-- the classes of a model that keeps equality make the clauses true
pub model-kept :
    (nodes : List Node) (atoms : List Equation) (first now : List PropClause) (names : ℕ) (truths : List Bool)
    → names_below (length atoms) first ≡ true → AreExtended nodes atoms first now → IsRightModel names now truths
    → KeepEquality nodes atoms (valuation_of truths) → HasModel nodes atoms first
model-kept nodes atoms first now names truths below extended right kept = record {
  class = kept.class;
  congruence = kept.congruence;
  makes_true =
      sym (clauses-agree (valuation_of truths) (values_by kept.class atoms) (length atoms) kept.agree first below)
      ∙ extended.stay (valuation_of truths) right.makes_true;
}

-- so it isn't so that none does
pub told-by-model : (nodes : List Node) (atoms : List Equation) (first : List PropClause) → HasModel nodes atoms first → IsTrue false ↔ HasNoModel nodes atoms first
told-by-model nodes atoms first model = (
  (λ e. absurd (true≢false (sym e))),
  λ none. absurd (true≢false (sym model.makes_true ∙ none model.class model.congruence)),
)
