-- Steps: their parents, and what they conclude where these get other numbers.
use Rattle.std.proofs.Common.{◌≡◌, ℕ, true, false, ◌==◌, List, [], ◌∷◌, map, take, Option, Some, None, refl, ap, ap₂, sym, ◌∙◌, subst, ⊎_elim}
use Rattle.std.specs.Prelude.{slice_get, option_map, option_and_then, if◌then◌else◌}
use Rattle.std.proofs.lemmas.Bool.{or_cases, or_left, or_right, eqb-true, eq-eqb, false≢true}
use Rattle.std.proofs.lemmas.Option.{same_Some, slice_get-map, option_and_then_some}
use Rattle.plain_types.specs.declared.sequence.NameLit.{NameLit}
use Rattle.fol_base.specs.Clause.{TreeLiteral, TreeClause}
use Rattle.fol_base.specs.Literal.{clause_of}
use Rattle.fol_base.specs.Rules.{superposed, resolved, factored, merged}
use Rattle.fol_base.proofs.WorkedExamples.TestLemmas.{option_map-some}
use Rattle.kernel_steps.specs.Parents.{Parent, Parents, all_there}
use Rattle.kernel_steps.specs.Conclusion.{concludes, by_one, by_two, verdict_of, split_from, names_alone, names_at, clause_of_names}
use Rattle.kernel_steps.specs.Names.{chained}
use Rattle.kernel_steps.specs.Derivation.{is_clause_step, introduces_name, is_component_of, component_clause, line_parents, IsComponent, IsOpposite, ComesBy, IsDerivation}
use Rattle.kernel_steps.specs.Lines.{step_parents}
use Rattle.kernel_steps.specs.Split.{has_number}
use Rattle.kernel_steps.specs.declared.step.Step.{Step}
use Rattle.kernel_steps.specs.declared.step.Step.TheVariants.{Input, Negate, Clausify, Para, Refl, Factor, Merge, Component, Opposite, Split, Chain}
use Rattle.kernel_steps.specs.declared.step.Line.{Line}
use Rattle.kernel_steps.proofs.AboutCalls.VerdictParts.{by_one-parts, by_two-parts, split-parts, chain-parts}
use Rattle.kernel_steps.specs.ParentNumbers.{with_parents}
use Rattle.tstp_writer.specs.Cone as cone
use Rattle.tstp_writer.proofs.AboutNeeded.EarlierLemmas.{looked-up, need-earlier}
use Rattle.pool_writer.specs.Bodies.{HasBody, ComesWithBody}
use Rattle.pool_writer.specs.Retraced.{steps_of}
use Rattle.pool_writer.proofs.AboutRetracing.NeededLemmas.{same-number}

-- ---- other numbers

-- what a line is as a parent
abbrev pub parent_by : Step → TreeClause → Option Parent
parent_by step c = if is_clause_step step then Some (record { clause = c; introduces = introduces_name step }) else None

pub mapped-parent : (to : ℕ → ℕ) (step : Step) (c : TreeClause) → parent_by (with_parents to step) c ≡ parent_by step c
mapped-parent to (Input place) c = refl
mapped-parent to _ c = refl

pub mapped-clause_step : (to : ℕ → ℕ) (step : Step) → is_clause_step (with_parents to step) ≡ is_clause_step step
mapped-clause_step to (Input place) = refl
mapped-clause_step to _ = refl

pub mapped-body : (bodies : List (List TreeLiteral)) (to : ℕ → ℕ) (step : Step) (c : TreeClause) → HasBody bodies step c → HasBody bodies (with_parents to step) c
mapped-body bodies to (Input place) c has = has
mapped-body bodies to _ c has = has

-- what a step needs, it needs under other numbers
pub component-mapped : (to : ℕ → ℕ) (name : ℕ) (step : Step) → is_component_of name (with_parents to step) ≡ is_component_of name step
component-mapped to name (Input place) = refl
component-mapped to name _ = refl

has-mapped : (to : ℕ → ℕ) (ns : List ℕ) (m : ℕ) → cone.has_number ns m ≡ true → cone.has_number (map to ns) (to m) ≡ true
has-mapped to [] m has = absurd (false≢true has)
has-mapped to (n ∷ ns) m has =
    ⊎_elim (λ same. or_left (to n == to m) (cone.has_number (map to ns) (to m)) (eq-eqb (to n) (to m) (ap to (eqb-true n m same))))
    (λ later. or_right (to n == to m) (cone.has_number (map to ns) (to m)) (has-mapped to ns m later))
    (or_cases (n == m) (cone.has_number ns m) has)

pub needs-mapped :
    (to : ℕ → ℕ) (step other : Step) (m : ℕ) → cone.needs_step step m other ≡ true
    → cone.needs_step (with_parents to step) (to m) (with_parents to other) ≡ true
needs-mapped to (Input place) other m need = absurd (false≢true need)
needs-mapped to (Negate place) other m need = absurd (false≢true need)
needs-mapped to (Clausify i) other m need = absurd (false≢true need)
needs-mapped to (Component name) other m need = absurd (false≢true need)
needs-mapped to (Opposite name) other m need = component-mapped to name other ∙ need
needs-mapped to (Para first second from from_side into into_side place first_bind second_bind) other m need = has-mapped to (first ∷ second ∷ []) m need
needs-mapped to (Refl parent literal bind) other m need = has-mapped to (parent ∷ []) m need
needs-mapped to (Factor parent becomes becomes_side literal other_side bind) other m need = has-mapped to (parent ∷ []) m need
needs-mapped to (Merge parent stays goes bind) other m need = has-mapped to (parent ∷ []) m need
needs-mapped to (Split parent definitions parts) other m need = has-mapped to (parent ∷ definitions) m need
needs-mapped to (Chain numbers pivots) other m need = has-mapped to numbers m need

-- ---- conclusions

concludes-same : (c d : TreeClause) → concludes c ≡ concludes d → c ≡ d
concludes-same c d h = cc

same-clause : (c d : TreeClause) → c.literals ≡ d.literals → c.names ≡ d.names → c ≡ d
same-clause c d literals names = λ i. record { literals = literals i; names = names i }

-- a step concludes one clause, where names have these bodies
pub comes-once :
    (form : List TreeClause) (bodies : List (List TreeLiteral)) (lines : List Line) (step : Step) (c d : TreeClause)
    → ComesWithBody form bodies step lines c → ComesWithBody form bodies step lines d → c ≡ d
comes-once form bodies lines (Input place) c d one other = one.comes ∙ sym other.comes
comes-once form bodies lines (Negate place) c d one other = one.comes ∙ sym other.comes
comes-once form bodies lines (Clausify i) c d one other = same_Some c d (sym one.comes ∙ other.comes)
comes-once form bodies lines (Component name) c d one other =
    let first : IsComponent name lines c = one.comes in
    let second : IsComponent name lines d = other.comes in
    same-clause c d (same_Some c.literals d.literals (sym one.body ∙ other.body)) (first.one_name ∙ sym second.one_name)
comes-once form bodies lines (Opposite name) c d one other =
    let first : IsOpposite name lines c = one.comes in
    let second : IsOpposite name lines d = other.comes in
    same-clause c d (same_Some c.literals d.literals (sym one.body ∙ other.body)) (first.one_name ∙ sym second.one_name)
comes-once form bodies lines (Para first second from from_side into into_side place first_bind second_bind) c d one other =
    concludes-same c d (sym one.comes ∙ other.comes)
comes-once form bodies lines (Refl parent literal bind) c d one other = concludes-same c d (sym one.comes ∙ other.comes)
comes-once form bodies lines (Factor parent becomes becomes_side literal other_side bind) c d one other =
    concludes-same c d (sym one.comes ∙ other.comes)
comes-once form bodies lines (Merge parent stays goes bind) c d one other = concludes-same c d (sym one.comes ∙ other.comes)
comes-once form bodies lines (Split parent definitions parts) c d one other = concludes-same c d (sym one.comes ∙ other.comes)
comes-once form bodies lines (Chain numbers pivots) c d one other = concludes-same c d (sym one.comes ∙ other.comes)

-- numbers that are looked up, each by its new number
looks-same :
    {X : Type 0} (look other : ℕ → Option X) (to : ℕ → ℕ) (ns : List ℕ)
    → ((k : ℕ) → has_number k ns ≡ true → look (to k) ≡ other k) → map look (map to ns) ≡ map other ns
looks-same look other to [] same = refl
looks-same look other to (n ∷ ns) same =
    ap₂ (λ o os. o ∷ os) (same n (or_left (n == n) (has_number n ns) (eq-eqb n n refl)))
    (looks-same look other to ns (λ k has. same k (or_right (k == n) (has_number k ns) has)))

-- where its parents and its name are the same, the parents by their new numbers, it concludes the same
pub comes-mapped :
    (to : ℕ → ℕ) (form : List TreeClause) (before lines : List Line) (step : Step) (c : TreeClause)
    → ((m : ℕ) → has_number m (step_parents step) ≡ true → line_parents lines (to m) ≡ line_parents before m)
    → ((name : ℕ) → step ≡ Component name → component_clause name before ≡ None → component_clause name lines ≡ None)
    → ((name : ℕ) (d : TreeClause) → step ≡ Opposite name → component_clause name before ≡ Some d → component_clause name lines ≡ Some d)
    → ComesBy step form before c → ComesBy (with_parents to step) form lines c
comes-mapped to form before lines (Input place) c same fresh found comes = comes
comes-mapped to form before lines (Negate place) c same fresh found comes = comes
comes-mapped to form before lines (Clausify i) c same fresh found comes = comes
comes-mapped to form before lines (Component name) c same fresh found comes =
    let is : IsComponent name before c = comes in
    record { is_new = fresh name refl is.is_new; some_literal = is.some_literal; one_name = is.one_name }
comes-mapped to form before lines (Opposite name) c same fresh found comes =
    let is : IsOpposite name before c = comes in
    record {
      component = is.component;
      introduced = found name is.component refl is.introduced;
      literal = is.literal;
      one_literal = is.one_literal;
      positive = is.positive;
      ground = is.ground;
      complemented = is.complemented;
      one_name = is.one_name;
    }
comes-mapped to form before lines (Para first second from from_side into into_side place first_bind second_bind) c same fresh found comes =
    ap₂ (λ (o p : Option Parent). by_two o first_bind p second_bind (λ ls ks. superposed ls from from_side ks into into_side place))
    (same first (or_left (first == first) (has_number first (second ∷ [])) (eq-eqb first first refl)))
    (same second (or_right (second == first) (has_number second (second ∷ [])) (or_left (second == second) false (eq-eqb second second refl))))
    ∙ comes
comes-mapped to form before lines (Refl parent literal bind) c same fresh found comes =
    ap (λ (o : Option Parent). by_one o bind (λ ls. resolved ls literal))
    (same parent (or_left (parent == parent) false (eq-eqb parent parent refl)))
    ∙ comes
comes-mapped to form before lines (Factor parent becomes becomes_side other other_side bind) c same fresh found comes =
    ap (λ (o : Option Parent). by_one o bind (λ ls. factored ls becomes becomes_side other other_side))
    (same parent (or_left (parent == parent) false (eq-eqb parent parent refl)))
    ∙ comes
comes-mapped to form before lines (Merge parent stays goes bind) c same fresh found comes =
    ap (λ (o : Option Parent). by_one o bind (λ ls. merged ls stays goes))
    (same parent (or_left (parent == parent) false (eq-eqb parent parent refl)))
    ∙ comes
comes-mapped to form before lines (Split parent definitions parts) c same fresh found comes =
    ap₂
    (λ (o : Option Parent) (os : List (Option Parent)).
    verdict_of (option_and_then (λ p. option_and_then (λ ds. split_from p ds parts) (all_there os)) o))
    (same parent (or_left (parent == parent) (has_number parent definitions) (eq-eqb parent parent refl)))
    (looks-same (line_parents lines) (line_parents before) to definitions
    (λ k has. same k (or_right (k == parent) (has_number k definitions) has)))
    ∙ comes
comes-mapped to form before lines (Chain numbers pivots) c same fresh found comes =
    ap
    (λ (os : List (Option (List NameLit))).
    verdict_of (option_map clause_of_names (option_and_then (λ nss. chained nss pivots) (all_there os))))
    (looks-same (names_at (line_parents lines)) (names_at (line_parents before)) to numbers
    (λ k has. ap (option_and_then names_alone) (same k has)))
    ∙ comes

-- ---- parents

one-there : (parents : Parents) (a k : ℕ) (p : Parent) → parents a ≡ Some p → has_number k (a ∷ []) ≡ true → (q : Parent) × (parents k ≡ Some q)
one-there parents a k p there has =
    ⊎_elim (λ same. (p, ap parents (eqb-true k a same) ∙ there)) (λ none. absurd (false≢true none)) (or_cases (k == a) false has)

-- what a step concludes from is there
parent-there :
    (form : List TreeClause) (lines : List Line) (step : Step) (c : TreeClause) (m : ℕ)
    → ComesBy step form lines c → has_number m (step_parents step) ≡ true → (p : Parent) × (line_parents lines m ≡ Some p)
parent-there form lines (Input place) c m comes has = absurd (false≢true has)
parent-there form lines (Negate place) c m comes has = absurd (false≢true has)
parent-there form lines (Clausify i) c m comes has = absurd (false≢true has)
parent-there form lines (Component name) c m comes has = absurd (false≢true has)
parent-there form lines (Opposite name) c m comes has = absurd (false≢true has)
parent-there form lines (Para first second from from_side into into_side place first_bind second_bind) c m comes has =
    let parents : Parents = line_parents lines in
    let parts = by_two-parts (parents first) first_bind (parents second) second_bind (λ ls ks. superposed ls from from_side ks into into_side place) c comes in
    ⊎_elim (λ same. (parts.source, ap parents (eqb-true m first same) ∙ parts.first_there))
    (λ later. one-there parents second m parts.target parts.second_there later)
    (or_cases (m == first) (has_number m (second ∷ [])) has)
parent-there form lines (Refl parent literal bind) c m comes has =
    let parts = by_one-parts (line_parents lines parent) bind (λ ls. resolved ls literal) c comes in
    one-there (line_parents lines) parent m parts.source parts.there has
parent-there form lines (Factor parent becomes becomes_side other other_side bind) c m comes has =
    let parts = by_one-parts (line_parents lines parent) bind (λ ls. factored ls becomes becomes_side other other_side) c comes in
    one-there (line_parents lines) parent m parts.source parts.there has
parent-there form lines (Merge parent stays goes bind) c m comes has =
    let parts = by_one-parts (line_parents lines parent) bind (λ ls. merged ls stays goes) c comes in
    one-there (line_parents lines) parent m parts.source parts.there has
parent-there form lines (Split parent definitions parts) c m comes has =
    let parents : Parents = line_parents lines in
    let split = split-parts (parents parent) (map parents definitions) parts c comes in
    ⊎_elim (λ same. (split.source, ap parents (eqb-true m parent same) ∙ split.there))
    (λ later. looked-up parents definitions split.defined m split.definitions_there (same-number definitions m ∙ later))
    (or_cases (m == parent) (has_number m definitions) has)
parent-there form lines (Chain numbers pivots) c m comes has =
    let parents : Parents = line_parents lines in
    let chain = chain-parts parents numbers pivots c comes in
    let found = looked-up (names_at parents) numbers chain.lists m chain.there (same-number numbers m ∙ has) in
    option_and_then_some names_alone (parents m) found.0 found.1 λ p p_is alone. (p, p_is)

-- a derivation that has these steps
module _ (form : List TreeClause) (steps : List Step) (old : List Line) (derived : IsDerivation form old) (same : steps_of old ≡ steps) where
  pub step-at : (n : ℕ) (line : Line) → slice_get old n ≡ Some line → slice_get steps n ≡ Some line.step
  step-at n line at =
      ap (λ (ss : List Step). slice_get ss n) (sym same) ∙ slice_get-map (λ (l : Line). l.step) old n ∙ ap (option_map (λ (l : Line). l.step)) at

  pub line-at : (n : ℕ) (step : Step) → slice_get steps n ≡ Some step → (line : Line) × (slice_get old n ≡ Some line) × (line.step ≡ step)
  line-at n step at =
      option_map-some (λ (l : Line). l.step) (slice_get old n) step
      (sym (slice_get-map (λ (l : Line). l.step) old n) ∙ ap (λ (ss : List Step). slice_get ss n) same ∙ at)
      (λ line line_is gives. (line, line_is, gives))

  pub parent-at :
      (n m : ℕ) (line : Line) → slice_get old n ≡ Some line → has_number m (step_parents line.step) ≡ true
      → (p : Parent) × (line_parents (take n old) m ≡ Some p)
  parent-at n m line at has = parent-there form (take n old) line.step (clause_of line.clause) m (derived n line at) has

  pub steps-earlier : cone.StepsNeedEarlier steps
  steps-earlier n m step other at other_at need =
      let found = line-at n step at in
      let needed = line-at m other other_at in
      need-earlier form old derived n m found.0 needed.0 found.1 needed.1
      (subst (λ (s : Step). cone.needs_step s m needed.0.step ≡ true) (sym found.2)
      (subst (λ (s : Step). cone.needs_step step m s ≡ true) (sym needed.2) need))
