-- The answer on a derivation without names, and its constant.
use Rattle.std.proofs.Common.{◌≡◌, ℕ, ◌≤◌, Bool, true, false, ◌&&◌, ◌==◌, List, [], ◌∷◌, map, Result, Ok, Err, None, if◌then◌else◌, ⊎_elim, refl, sym, ap, ◌∙◌}
use Rattle.std.specs.Prelude.{IfOk, IfErr}
use Rattle.std.proofs.lemmas.Bool.{true≢false, and_from, eq-eqb}
use Rattle.list_lemmas.proofs.Bools.{or-either, or-first, or-second}
use Rattle.fol_base.specs.Tree.{Tree, application, no_trees}
use Rattle.fol_base.specs.Symbols.{FunctionSymbol, has_constant}
use Rattle.fol_base.specs.Ground.{has_symbol, ground_over}
use Rattle.fol_base.specs.Literal.{clause_of}
use Rattle.fol_base.specs.declared.clause.Clause.{Clause}
use Rattle.kernel_steps.specs.declared.step.Line.{Line}
use Rattle.herbrand_list.specs.declared.fault.TheConstants.{MOST_WEIGHT}
use Rattle.herbrand_list.specs.declared.fault.GroundFault.{GroundFault}
use Rattle.herbrand_list.specs.declared.fault.GroundFault.TheVariants.{Names, Large, NoMemory}
use Rattle.herbrand_list.specs.GroundList.{names_line, ground_list, weight, first_constant}
use Rattle.herbrand_list.specs.GroundLaws.{FirstConstantsAreGround}
use Rattle.herbrand_list.specs.Worked.{SaysLarge}
use Rattle.herbrand_list.specs.Answer.{nameless, IsGroundAnswer}

pub answer-from :
    (constant : Tree) (lines : List Line) (result : Result (List Clause) GroundFault) → names_line lines ≡ None
    → IfOk result (λ _. weight constant lines ≤ MOST_WEIGHT) → IfOk result (λ list. map clause_of list ≡ map nameless (ground_list constant lines))
    → IfErr result (SaysLarge (weight constant lines)) → IsGroundAnswer constant lines result
answer-from constant lines (Ok list) none light all large = (none, light, all)
answer-from constant lines (Err (Names line)) none light all large = absurd large
answer-from constant lines (Err Large) none light all large = (none, large)
answer-from constant lines (Err NoMemory) none light all large = tt

-- ---- the first constant

first-there :
    (symbols all : List FunctionSymbol) → has_constant symbols ≡ true
    → ((f arity : ℕ) → has_symbol symbols f arity ≡ true → has_symbol all f arity ≡ true) → ground_over all (first_constant symbols) ≡ true
first-there [] all some into = absurd (true≢false (sym some))
first-there (s ∷ symbols) all some into =
    by (s.arity == 0) refl
    (λ e.
    first-there symbols all
    (⊎_elim (λ one. absurd (true≢false (sym one ∙ e))) (λ later. later) (or-either (s.arity == 0) (has_constant symbols) some))
    (λ f arity h. into f arity (or-second ((s.number == f) && (s.arity == arity)) (has_symbol symbols f arity) h)))
  where
    by :
        (b : Bool) → (s.arity == 0) ≡ b → ((s.arity == 0) ≡ false → ground_over all (first_constant symbols) ≡ true)
        → ground_over all (if b then application s.number no_trees else first_constant symbols) ≡ true
    by true e rest =
        ap (λ b. b && true)
        (into s.number 0
        (or-first ((s.number == s.number) && (s.arity == 0)) (has_symbol symbols s.number 0)
        (and_from (s.number == s.number) (s.arity == 0) (eq-eqb s.number s.number refl) e)))
    by false e rest = rest e

pub first_constants_are_ground : FirstConstantsAreGround
first_constants_are_ground is_predicate functions = first-there functions.symbols functions.symbols functions.constant (λ f arity h. h)
