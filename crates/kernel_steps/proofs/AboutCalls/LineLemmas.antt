-- Lines as parents, and the names that lines introduce.
use Rattle.std.proofs.Common.{◌≡◌, ℕ, zero, suc, ◌<◌, true, false, ◌==◌, List, [], ◌∷◌, ◌++◌, length, take, Option, Some, None, refl, ap, sym, ◌∙◌, arith, ⊎_elim}
use Rattle.std.specs.Prelude.{slice_get}
use Rattle.std.proofs.lemmas.Bool.{cond-true, cond-false, cases_Bool, or_left, or_right, eqb-true, eq-eqb, true≢false}
use Rattle.std.proofs.lemmas.Option.{none-some, same_Some, option_and_then_some}
use Rattle.std.proofs.lemmas.List.Folds.{list_any-append}
use Rattle.fol_base.specs.Clause.{TreeClause}
use Rattle.fol_base.specs.Literal.{clause_of}
use Rattle.fol_base.proofs.WorkedExamples.TestLemmas.{if_some}
use Rattle.kernel_steps.specs.Parents.{Parent}
use Rattle.kernel_steps.specs.Split.{has_number}
use Rattle.kernel_steps.specs.Derivation.{is_clause_step, introduces_name, line_parent, line_parents, is_component, is_component_of, component_clause, IsRefutation}
use Rattle.kernel_steps.specs.declared.step.Step.{Step}
use Rattle.kernel_steps.specs.declared.step.Step.TheVariants.{Component}
use Rattle.kernel_steps.specs.declared.step.Line.{Line}

-- an item of a front is one of the list
pub slice_get-take :
    {X : Type 0} (xs : List X) (n k : ℕ) (x : X) → slice_get (take n xs) k ≡ Some x → (k < n) × (slice_get xs k ≡ Some x)
slice_get-take xs zero k x at = absurd (none-some x at)
slice_get-take [] (suc n) k x at = absurd (none-some x at)
slice_get-take (y ∷ ys) (suc n) zero x at = (omega arith, at)
slice_get-take (y ∷ ys) (suc n) (suc k) x at =
    let rest = slice_get-take ys n k x at in let less : suc k < suc n = omega (arith, rest.0) in (less, rest.1)

-- the last line
pub slice_get-last : {X : Type 0} (xs : List X) (x : X) → slice_get (xs ++ x ∷ []) (length xs) ≡ Some x
slice_get-last [] x = refl
slice_get-last (y ∷ xs) x = slice_get-last xs x

pub last-there : (form : List TreeClause) (lines : List Line) (r : IsRefutation form lines) → slice_get lines (length r.before) ≡ Some r.last
last-there form lines r = ap (λ ls. slice_get ls (length r.before)) r.ends ∙ slice_get-last r.before r.last

-- a parent among the first lines
pub record ParentLine (lines : List Line) (n : ℕ) (k : ℕ) (p : Parent) : Type 0 where
  pub line : Line
  pub earlier : k < n
  pub there : slice_get lines k ≡ Some line
  pub is_clause : is_clause_step line.step ≡ true
  pub gives : record { clause = clause_of line.clause; introduces = introduces_name line.step } ≡ p

pub parent_line : (lines : List Line) (n k : ℕ) (p : Parent) → line_parents (take n lines) k ≡ Some p → ParentLine lines n k p
parent_line lines n k p h =
    option_and_then_some line_parent (slice_get (take n lines) k) p h λ line line_is step.
    let at = slice_get-take lines n k line line_is in
    let made : Parent = record { clause = clause_of line.clause; introduces = introduces_name line.step } in
    let tests = if_some (is_clause_step line.step) (Some made) p step in
    record { line = line; earlier = at.0; there = at.1; is_clause = tests.0; gives = same_Some made p tests.1 }

-- ---- component lines

-- the line of a name that is new
pub component_clause-at :
    (lines : List Line) (n : ℕ) (line : Line) (name : ℕ)
    → component_clause name (take n lines) ≡ None → slice_get lines n ≡ Some line → is_component_of name line.step ≡ true
    → component_clause name lines ≡ Some (clause_of line.clause)
component_clause-at [] n line name is_new at is_one = absurd (none-some line at)
component_clause-at (l ∷ ls) zero line name is_new at is_one =
    let same : l ≡ line = same_Some l line at in
    cond-true (is_component_of name l.step) (Some (clause_of l.clause)) (component_clause name ls)
    (ap (λ (m : Line). is_component_of name m.step) same ∙ is_one)
    ∙ ap (λ (m : Line). let o : Option TreeClause = Some (clause_of m.clause) in o) same
component_clause-at (l ∷ ls) (suc n) line name is_new at is_one =
    ⊎_elim
    (λ here.
    absurd
    (none-some (clause_of l.clause)
    (sym is_new ∙ cond-true (is_component_of name l.step) (Some (clause_of l.clause)) (component_clause name (take n ls)) here)))
    (λ later.
    cond-false (is_component_of name l.step) (Some (clause_of l.clause)) (component_clause name ls) later
    ∙ component_clause-at ls n line name
    (sym (cond-false (is_component_of name l.step) (Some (clause_of l.clause)) (component_clause name (take n ls)) later) ∙ is_new) at is_one)
    (cases_Bool (is_component_of name l.step))

-- of a name that was introduced
pub component_clause-earlier :
    (lines : List Line) (n : ℕ) (name : ℕ) (c : TreeClause)
    → component_clause name (take n lines) ≡ Some c → component_clause name lines ≡ Some c
component_clause-earlier lines zero name c there = absurd (none-some c there)
component_clause-earlier [] (suc n) name c there = there
component_clause-earlier (l ∷ ls) (suc n) name c there =
    ⊎_elim
    (λ here.
    cond-true (is_component_of name l.step) (Some (clause_of l.clause)) (component_clause name ls) here
    ∙ sym (cond-true (is_component_of name l.step) (Some (clause_of l.clause)) (component_clause name (take n ls)) here)
    ∙ there)
    (λ later.
    cond-false (is_component_of name l.step) (Some (clause_of l.clause)) (component_clause name ls) later
    ∙ component_clause-earlier ls n name c
    (sym (cond-false (is_component_of name l.step) (Some (clause_of l.clause)) (component_clause name (take n ls)) later) ∙ there))
    (cases_Bool (is_component_of name l.step))

-- the names of component lines
abbrev pub names_of_step : Step → List ℕ
names_of_step (Component name) = name ∷ []
names_of_step _ = []

abbrev pub introduced : List Line → List ℕ
introduced [] = []
introduced (l ∷ ls) = names_of_step l.step ++ introduced ls

named : (step : Step) (name : ℕ) → is_component_of name step ≡ true → has_number name (names_of_step step) ≡ true
named (Component n) name h = or_left (name == n) false (eq-eqb name n (sym (eqb-true n name h)))
named _ name h = absurd (true≢false (sym h))

pub introduced-there : (lines : List Line) (name : ℕ) (c : TreeClause) → component_clause name lines ≡ Some c → has_number name (introduced lines) ≡ true
introduced-there [] name c there = absurd (none-some c there)
introduced-there (l ∷ ls) name c there =
    list_any-append (λ k. name == k) (names_of_step l.step) (introduced ls)
    ∙ ⊎_elim
    (λ here. or_left (has_number name (names_of_step l.step)) (has_number name (introduced ls)) (named l.step name here))
    (λ later.
    or_right (has_number name (names_of_step l.step)) (has_number name (introduced ls))
    (introduced-there ls name c (sym (cond-false (is_component_of name l.step) (Some (clause_of l.clause)) (component_clause name ls) later) ∙ there)))
    (cases_Bool (is_component_of name l.step))

-- the component line of a name that was introduced
pub record ComponentLine (lines : List Line) (name : ℕ) (c : TreeClause) : Type 0 where
  pub number : ℕ
  pub line : Line
  pub there : slice_get lines number ≡ Some line
  pub is_one : is_component line.step ≡ true
  pub gives : clause_of line.clause ≡ c

component-step : (step : Step) (name : ℕ) → is_component_of name step ≡ true → is_component step ≡ true
component-step (Component n) name h = refl
component-step _ name h = absurd (true≢false (sym h))

pub component_line-there : (lines : List Line) (name : ℕ) (c : TreeClause) → component_clause name lines ≡ Some c → ComponentLine lines name c
component_line-there [] name c there = absurd (none-some c there)
component_line-there (l ∷ ls) name c there =
    ⊎_elim
    (λ here. record {
      number = 0;
      line = l;
      there = refl;
      is_one = component-step l.step name here;
      gives =
          same_Some (clause_of l.clause) c
          (sym (cond-true (is_component_of name l.step) (Some (clause_of l.clause)) (component_clause name ls) here) ∙ there);
    })
    (λ later.
    let it =
    component_line-there ls name c
    (sym (cond-false (is_component_of name l.step) (Some (clause_of l.clause)) (component_clause name ls) later) ∙ there) in
    record { number = suc it.number; line = it.line; there = it.there; is_one = it.is_one; gives = it.gives })
    (cases_Bool (is_component_of name l.step))

pub component_line-earlier :
    (lines : List Line) (n : ℕ) (name : ℕ) (c : TreeClause) → component_clause name (take n lines) ≡ Some c → ComponentLine lines name c
component_line-earlier lines n name c there = component_line-there lines name c (component_clause-earlier lines n name c there)
