-- The lines of a derivation are grounded, so a form that has a refutation is Herbrand-refuted.
use Rattle.std.proofs.Common.{◌≡◌, ℕ, zero, suc, ◌<◌, inl, inr, Bool, true, false, ◌==◌, List, [], ◌∷◌, length, take, Some, refl, ap, sym, ◌∙◌, subst, arith, ⊎_elim}
use Rattle.std.specs.Prelude.{slice_get, unwrap_or, Contains}
use Rattle.std.specs.List.{list_all}
use Rattle.std.proofs.lemmas.Bool.{or_left, eq-eqb, false≢true, false_from_ne_true}
use Rattle.plain_types.specs.Names.{has_name, positive_of, negative_of}
use Rattle.fol_base.specs.Tree.{Tree}
use Rattle.fol_base.specs.Clause.{TreeClause}
use Rattle.fol_base.specs.Literal.{clause_of}
use Rattle.fol_base.specs.Ground.{ground_over, is_over, GroundInstance, literals_instance}
use Rattle.fol_base.specs.Symbols.{FunctionSymbols}
use Rattle.fol_base.specs.Interpretation.{clause_true, clauses_true}
use Rattle.fol_base.proofs.AboutClauses.MeaningLemmas.{constants_give_ground_trees}
use Rattle.fol_base.proofs.WorkedExamples.TestLemmas.{list_all-item}
use Rattle.kernel_steps.specs.Parents.{Parent}
use Rattle.kernel_steps.specs.Conclusion.{empty_clause}
use Rattle.kernel_steps.specs.Derivation.{is_clause_step, introduces_name, line_parents, is_component_of, component_clause, body, complement, ComesBy, IsDerivation}
use Rattle.kernel_steps.specs.Soundness.{bindings_of, binds_each, BindsOver, IsUsable, Grounds, IsGrounded, LinesAreGrounded, RefutationsHerbrandRefute}
use Rattle.kernel_steps.specs.declared.step.Step.{Step}
use Rattle.kernel_steps.specs.declared.step.Step.TheVariants.{Input, Negate, Clausify, Component, Opposite}
use Rattle.kernel_steps.specs.declared.step.Line.{Line}
use Rattle.kernel_steps.proofs.AboutCalls.ItemLemmas.{Contains-item}
use Rattle.kernel_steps.proofs.AboutGrounding.GroundTrees.{one_literal-ground}
use Rattle.kernel_steps.proofs.AboutCalls.LineLemmas.{parent_line, last-there, component_clause-at, component_clause-earlier}
use Rattle.kernel_steps.proofs.AboutGrounding.GroundedLemmas.{Supports-always, Supports-instance, Supports-then, Supports-more, Supports-grounded, Grounds-supported}
use Rattle.kernel_steps.proofs.AboutGrounding.GroundedLemmasNames.{list_any-name, chosen_name_true}
use Rattle.kernel_steps.proofs.AboutGrounding.GroundedLemmasSplit.{DefinesName, complement-or}
use Rattle.kernel_steps.proofs.AboutGrounding.GroundedLemmasSteps.{grounded-from, AreGrounded, DefineNames, verdict-grounded}

-- ---- bodies

body-literals :
    (name : ℕ) (lines : List Line) (c : TreeClause) → component_clause name lines ≡ Some c → (body lines name).literals ≡ c.literals
body-literals name lines c is = ap (λ o. (unwrap_or o empty_clause).literals) is

-- component and opposite lines define their names
step-defines :
    (form : List TreeClause) (lines : List Line) (n : ℕ) (line : Line) (step : Step)
    → slice_get lines n ≡ Some line → line.step ≡ step → ComesBy step form (take n lines) (clause_of line.clause)
    → introduces_name step ≡ true → DefinesName (body lines) (clause_of line.clause)
step-defines form lines n line (Component name) at is comes introduces =
    inl (record {
      name = name;
      one_name = comes.one_name;
      same_literals =
          body-literals name lines (clause_of line.clause)
          (component_clause-at lines n line name comes.is_new at (ap (is_component_of name) is ∙ eq-eqb name name refl));
    })
step-defines form lines n line (Opposite name) at is comes introduces =
    inr (record {
      name = name;
      one_name = comes.one_name;
      literal = comes.literal;
      ground = comes.ground;
      same_literals =
          body-literals name lines comes.component (component_clause-earlier lines n name comes.component comes.introduced) ∙ comes.one_literal;
      complemented = comes.complemented;
    })
step-defines form lines n line step at is comes introduces = absurd (false≢true introduces)

lines-define :
    (form : List TreeClause) (lines : List Line) (n : ℕ)
    → IsDerivation form lines → DefineNames (body lines) (line_parents (take n lines))
lines-define form lines n derived k p is introduces =
    let it = parent_line lines n k p is in
    subst (λ (q : Parent). DefinesName (body lines) q.clause) it.gives
    (step-defines form lines k it.line it.line.step it.there refl (derived k it.line it.there)
    (ap (λ (q : Parent). q.introduces) it.gives ∙ introduces))

-- ---- lines

module _ {is_predicate : ℕ → Bool} (functions : FunctionSymbols is_predicate) (form : List TreeClause) where
  -- a clause whose own literals are those of a usable clause
  instance-grounded :
      (bodies : ℕ → TreeClause) (c d : TreeClause)
      → IsUsable form bodies c.names d → d.literals ≡ c.literals → IsGrounded functions form bodies c
  instance-grounded bodies c d usable same =
      grounded-from functions form bodies c.literals c.names λ σ choice ground is_choice.
      Supports-then functions (λ i ok. inl)
      (Supports-instance functions d (literals_instance σ c.literals) usable
      (record { trees = σ; trees_ground = ground; literals = ap (literals_instance σ) (sym same) }))

  -- The definition of a name. The instances of a component line are those of the body, which are usable; and of an opposite line's
  -- literal and what is chosen for the name one is true.
  definition-grounded : (bodies : ℕ → TreeClause) (c : TreeClause) → DefinesName bodies c → IsGrounded functions form bodies c
  definition-grounded bodies c (inl it) =
      instance-grounded bodies c (bodies it.name)
      (inr (
        it.name,
        ap (has_name (negative_of it.name)) it.one_name ∙ or_left (it.name == it.name) false (eq-eqb it.name it.name refl),
        refl,
      ))
      it.same_literals
  definition-grounded bodies c (inr it) =
      grounded-from functions form bodies c.literals c.names λ σ choice ground is_choice.
      let has : has_name (positive_of it.name) c.names ≡ true =
      ap (has_name (positive_of it.name)) it.one_name ∙ or_left (it.name == it.name) false (eq-eqb it.name it.name refl) in
      let made : GroundInstance functions (bodies it.name) (choice it.name) = is_choice it.name has in
      let chosen : choice it.name ≡ it.literal ∷ [] =
      made.literals ∙ ap (literals_instance made.trees) it.same_literals
      ∙ one_literal-ground made.trees it.literal it.ground in
      let own : literals_instance σ c.literals ≡ complement it.literal ∷ [] =
      ap (literals_instance σ) it.complemented ∙ one_literal-ground σ (complement it.literal) it.ground in
      Supports-always functions (λ i.
      ⊎_elim
      (λ holds.
      inr (list_any-name (chosen_name_true i choice) (positive_of it.name) c.names has (ap (clause_true i) chosen ∙ holds)))
      (λ other. inl (ap (clause_true i) own ∙ other))
      (complement-or i it.literal))

  -- Each line that is one of a clause. The form's clauses ground themselves.
  step-grounded :
      (lines : List Line) (n : ℕ) (step : Step) (c : TreeClause)
      → (introduces_name step ≡ true → DefinesName (body lines) c)
      → AreGrounded functions form (body lines) (line_parents (take n lines))
      → DefineNames (body lines) (line_parents (take n lines))
      → list_all (list_all (is_over functions.symbols)) (bindings_of step) ≡ true
      → ComesBy step form (take n lines) c → is_clause_step step ≡ true
      → IsGrounded functions form (body lines) c
  step-grounded lines n (Input place) c defines grounded define over comes is_clause = absurd (false≢true is_clause)
  step-grounded lines n (Negate place) c defines grounded define over comes is_clause = absurd (false≢true is_clause)
  step-grounded lines n (Clausify k) c defines grounded define over comes is_clause =
      instance-grounded (body lines) c c (inl (Contains-item form k c comes)) refl
  step-grounded lines n (Component name) c defines grounded define over comes is_clause =
      definition-grounded (body lines) c (defines refl)
  step-grounded lines n (Opposite name) c defines grounded define over comes is_clause =
      definition-grounded (body lines) c (defines refl)
  step-grounded lines n step c defines grounded define over comes is_clause =
      verdict-grounded functions form (body lines) step (line_parents (take n lines)) c grounded define over comes

  -- by the number of a line that is later
  lines-grounded :
      (lines : List Line)
      → BindsOver functions.symbols lines → IsDerivation form lines
      → (n m : ℕ) (line : Line) → m < n → slice_get lines m ≡ Some line → is_clause_step line.step ≡ true
      → IsGrounded functions form (body lines) (clause_of line.clause)
  lines-grounded lines over derived zero m line within at is_clause = absurd (omega arith)
  lines-grounded lines over derived (suc n) m line within at is_clause =
      step-grounded lines m line.step (clause_of line.clause) (step-defines form lines m line line.step at refl (derived m line at))
      (λ k p is.
      let it = parent_line lines m k p is in
      subst (λ (q : Parent). IsGrounded functions form (body lines) q.clause) it.gives
      (lines-grounded lines over derived n k it.line (omega (arith, within, it.earlier)) it.there it.is_clause))
      (lines-define form lines m derived)
      (list_all-item (λ (l : Line). binds_each (is_over functions.symbols) l.step) lines m line at over)
      (derived m line at) is_clause

pub lines_are_grounded : LinesAreGrounded
lines_are_grounded is_predicate functions form lines over derived n line at is_clause =
    lines-grounded functions form lines over derived (suc n) n line (omega arith) at is_clause

-- The empty clause is its own ground instance and no body is usable for it, so the form's instances that ground it are refuted.
pub refutations_herbrand_refute : RefutationsHerbrandRefute
refutations_herbrand_refute is_predicate functions form lines over refutation = record {
  by = grounds.by;
  instances = grounds.instances;
  refuted = λ i ok. false_from_ne_true (clauses_true i grounds.by) (λ all. false≢true (grounds.entailed i ok all));
}
  where
    some_tree : (t : Tree) × (ground_over functions.symbols t ≡ true)
    some_tree = (constants_give_ground_trees functions.symbols).1 functions.constant

    last_grounded : IsGrounded functions form (body lines) empty_clause
    last_grounded =
        subst (IsGrounded functions form (body lines)) refutation.is_empty
        (lines_are_grounded is_predicate functions form lines over refutation.derived (length refutation.before) refutation.last (last-there form lines refutation)
        refutation.is_clause)

    with_bodies : Grounds functions (IsUsable form (body lines) []) []
    with_bodies =
        last_grounded [] (λ n. [])
        (record { trees = λ v. some_tree.0; trees_ground = λ v. some_tree.1; literals = refl })
        (λ n has. absurd (false≢true has))

    of_form : (c : TreeClause) → IsUsable form (body lines) [] c → Contains form c
    of_form c (inl there) = there
    of_form c (inr it) = absurd (false≢true it.1)

    grounds : Grounds functions (Contains form) []
    grounds = Grounds-supported functions [] (Supports-more functions of_form (Supports-grounded functions [] with_bodies))
