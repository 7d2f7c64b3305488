-- Derivations are sound.
use Rattle.std.proofs.Common.{◌≡◌, ℕ, zero, suc, ◌<◌, ◌≤◌, Bool, true, false, ◌&&◌, ◌||◌, ◌==◌, List, [], ◌∷◌, take, Some, refl, ap, sym, ◌∙◌, subst, arith, ⊎_elim}
use mathlib.Core.Bool.{beq}
use Rattle.std.specs.Prelude.{not, slice_get, map, All, unwrap_or, nat_lt}
use Rattle.std.specs.List.{list_all, AllByRecursion}
use Rattle.std.proofs.lemmas.Bool.{and_parts, and_from, or_left, or_right, not-true, not-false, cases_Bool, cond-false, cond_both, ltb-true, eqb-true, eq-eqb, true≢false}
use Rattle.std.proofs.lemmas.List.Elements.{All-contains}
use Rattle.plain_types.specs.Names.{opposite}
use Rattle.fol_base.specs.Tree.{Tree, variable, application, true_symbol}
use Rattle.fol_base.specs.Instance.{substitution}
use Rattle.fol_base.specs.Clause.{TreeLiteral, TreeClause}
use Rattle.fol_base.specs.Kind.{is_function_term, are_function_terms}
use Rattle.fol_base.specs.Ground.{is_ground_literal, is_ground_clause}
use Rattle.fol_base.specs.Literal.{clause_of}
use Rattle.fol_base.specs.Interpretation.{Interpretation, IsInterpretation, Row, row_in_range, is_row_of, table_value, Assignment, tree_value, trees_values, literal_true_under, literals_true_under, HasValues}
use Rattle.fol_base.proofs.AboutClauses.MeaningLemmas.{truth_of_ground_clauses}
use Rattle.fol_base.proofs.WorkedExamples.TestLemmas.{list_all-item}
use Rattle.kernel_steps.specs.Parents.{Parent}
use Rattle.kernel_steps.specs.Conclusion.{empty_clause, verdict, concludes}
use Rattle.kernel_steps.specs.Derivation.{is_clause_step, introduces_name, line_parents, is_component_of, body, complement, IsComponent, IsOpposite, ComesBy, IsDerivation}
use Rattle.kernel_steps.specs.Soundness.{NameTruth, names_true, MeansBody, bindings_of, binds_each, BindsFunctionTerms, DerivationsAreSound}
use Rattle.kernel_steps.specs.declared.step.Step.{Step}
use Rattle.kernel_steps.specs.declared.step.Step.TheVariants.{Input, Negate, Clausify, Para, Refl, Factor, Merge, Component, Opposite, Split, Chain}
use Rattle.kernel_steps.specs.declared.step.Line.{Line}
use Rattle.kernel_steps.proofs.AboutCalls.ItemLemmas.{Contains-item, get_or-passes}
use Rattle.kernel_steps.proofs.AboutSoundness.RuleTruth.{complement-truth}
use Rattle.kernel_steps.proofs.AboutCalls.LineLemmas.{parent_line, component_clause-at, component_clause-earlier}
use Rattle.kernel_steps.proofs.AboutSoundness.OverValues.{Within, HoldsOver, FailsOver, MeansOver, ClauseOver, KeepsOver}
use Rattle.kernel_steps.proofs.AboutSoundness.StepTruth.{DefinesOver, ParentsOver, verdict-over}

-- ---- lines

-- the clause of a line is true, and fails where its name stands for false
abbrev pub LineOver : (ℕ → Type 0) → Interpretation → NameTruth → Line → Type 0
LineOver Value i truth l =
    ClauseOver Value i truth (clause_of l.clause)
    × DefinesOver Value i truth (record { clause = clause_of l.clause; introduces = introduces_name l.step })

abbrev Before : (ℕ → Type 0) → Interpretation → NameTruth → List Line → ℕ → Type 0
Before Value i truth lines n =
    (m : ℕ) (line : Line) → m < n → slice_get lines m ≡ Some line → is_clause_step line.step ≡ true → LineOver Value i truth line

parents-over :
    (Value : ℕ → Type 0) (i : Interpretation) (truth : NameTruth) (lines : List Line) (n : ℕ)
    → Before Value i truth lines n → ParentsOver Value i truth (line_parents (take n lines))
parents-over Value i truth lines n earlier k p there =
    let at = parent_line lines n k p there in
    let P : Parent → Type 0 = λ q. ClauseOver Value i truth q.clause × DefinesOver Value i truth q in
    subst P at.gives (earlier k at.line at.earlier at.there at.is_clause)

-- a rule's line introduces no name
no_name :
    (Value : ℕ → Type 0) (i : Interpretation) (truth : NameTruth) (line : Line) (step : Step)
    → line.step ≡ step → introduces_name step ≡ false
    → DefinesOver Value i truth (record { clause = clause_of line.clause; introduces = introduces_name line.step })
no_name Value i truth line step is none introduces fails =
    absurd (true≢false (sym introduces ∙ ap introduces_name is ∙ none))

-- the truth of one ground literal, and of its complement
ground_truth :
    (i : Interpretation) (ρ π : Assignment) (l : TreeLiteral) → is_ground_literal l ≡ true → literal_true_under i ρ l ≡ literal_true_under i π l
ground_truth i ρ π l ground =
    or-false (literal_true_under i ρ l)
    ∙ truth_of_ground_clauses i ρ (l ∷ []) one
    ∙ sym (truth_of_ground_clauses i π (l ∷ []) one)
    ∙ sym (or-false (literal_true_under i π l))
  where
    one : is_ground_clause (l ∷ []) ≡ true
    one = and_from (is_ground_literal l) true ground refl

    or-false : (b : Bool) → b ≡ (b || false)
    or-false true = refl
    or-false false = refl

or-last : (b : Bool) → (b || false) ≡ b
or-last true = refl
or-last false = refl

-- a component line
component-over :
    (Value : ℕ → Type 0) (i : Interpretation) (truth : NameTruth) (lines : List Line) (n : ℕ) (line : Line) (name : ℕ)
    → MeansOver Value i (body lines name).literals (truth name) → slice_get lines n ≡ Some line → line.step ≡ Component name
    → IsComponent name (take n lines) (clause_of line.clause) → LineOver Value i truth line
component-over Value i truth lines n line name means at is it = (
  λ ρ within.
      ⊎_elim
      (λ holds. or_left (literals_true_under i ρ c.literals) (names_true truth c.names) (subst (λ ls. literals_true_under i ρ ls ≡ true) own (means.0 holds ρ within)))
      (λ fails.
      or_right (literals_true_under i ρ c.literals) (names_true truth c.names)
      (ap (names_true truth) it.one_name ∙ ap (λ b. beq false b || false) fails))
      (cases_Bool (truth name)),
  λ introduces none. subst (FailsOver Value i) own (means.1 (is_false none)),
)
  where
    c : TreeClause
    c = clause_of line.clause

    own : (body lines name).literals ≡ c.literals
    own =
        ap (λ o. (unwrap_or o empty_clause).literals)
        (component_clause-at lines n line name it.is_new at (ap (is_component_of name) is ∙ eq-eqb name name refl))

    beq-true : (b : Bool) → (beq true b || false) ≡ b
    beq-true true = refl
    beq-true false = refl

    is_false : names_true truth (map opposite c.names) ≡ false → truth name ≡ false
    is_false none = sym (beq-true (truth name)) ∙ sym (ap (λ ns. names_true truth (map opposite ns)) it.one_name) ∙ none

-- an opposite line
opposite-over :
    (Value : ℕ → Type 0) (i : Interpretation) (truth : NameTruth) (some : Assignment) (lines : List Line) (n : ℕ) (line : Line) (name : ℕ)
    → Within Value some → MeansOver Value i (body lines name).literals (truth name)
    → IsOpposite name (take n lines) (clause_of line.clause) → LineOver Value i truth line
opposite-over Value i truth some lines n line name some_within means it = (
  λ ρ within.
      ⊎_elim
      (λ holds.
      or_right (literals_true_under i ρ c.literals) (names_true truth c.names)
      (ap (names_true truth) it.one_name ∙ ap (λ b. beq true b || false) holds))
      (λ fails. or_left (literals_true_under i ρ c.literals) (names_true truth c.names) (turned ρ ∙ ap not (false_everywhere (means.1 fails) ρ)))
      (cases_Bool (truth name)),
  λ introduces none. record {
    values = some;
    within = some_within;
    is_false = turned some ∙ ap not (sym (or-last (literal_true_under i some it.literal)) ∙ subst (λ ls. literals_true_under i some ls ≡ true) own (means.0 (is_true none) some some_within));
  },
)
  where
    c : TreeClause
    c = clause_of line.clause

    own : (body lines name).literals ≡ it.literal ∷ []
    own =
        ap (λ o. (unwrap_or o empty_clause).literals) (component_clause-earlier lines n name it.component it.introduced)
        ∙ it.one_literal

    turned : (ρ : Assignment) → literals_true_under i ρ c.literals ≡ not (literal_true_under i ρ it.literal)
    turned ρ = ap (literals_true_under i ρ) it.complemented ∙ or-last (literal_true_under i ρ (complement it.literal)) ∙ complement-truth i ρ it.literal

    false_everywhere : FailsOver Value i (body lines name).literals → (ρ : Assignment) → literal_true_under i ρ it.literal ≡ false
    false_everywhere fails ρ =
        ground_truth i ρ fails.values it.literal it.ground
        ∙ sym (or-last (literal_true_under i fails.values it.literal))
        ∙ subst (λ ls. literals_true_under i fails.values ls ≡ false) own fails.is_false

    beq-false : (b : Bool) → (beq false b || false) ≡ not b
    beq-false true = refl
    beq-false false = refl

    is_true : names_true truth (map opposite c.names) ≡ false → truth name ≡ true
    is_true none =
        not-false (truth name) (sym (beq-false (truth name)) ∙ sym (ap (λ ns. names_true truth (map opposite ns)) it.one_name) ∙ none)

-- what the lines of a derivation are over
pub record Setting (Value : ℕ → Type 0) (i : Interpretation) (truth : NameTruth) (form : List TreeClause) (lines : List Line) : Type 0 where
  pub some : Assignment
  pub some_within : Within Value some
  pub holds : All (λ (c : TreeClause). HoldsOver Value i c.literals) form
  pub means : (n : ℕ) → MeansOver Value i (body lines n).literals (truth n)
  pub keeps : (n : ℕ) (line : Line) → slice_get lines n ≡ Some line → AllByRecursion (KeepsOver Value i) (bindings_of line.step)

-- a line that a rule concludes
rule-over :
    (Value : ℕ → Type 0) (i : Interpretation) (truth : NameTruth) (form : List TreeClause) (lines : List Line) (n : ℕ) (line : Line) (step : Step)
    → Setting Value i truth form lines → slice_get lines n ≡ Some line → line.step ≡ step → introduces_name step ≡ false
    → Before Value i truth lines n → verdict step (line_parents (take n lines)) ≡ concludes (clause_of line.clause) → LineOver Value i truth line
rule-over Value i truth form lines n line step setting at is none earlier v = (
  verdict-over Value i truth setting.some (line_parents (take n lines)) step (clause_of line.clause) setting.some_within
      (parents-over Value i truth lines n earlier) (subst (λ s. AllByRecursion (KeepsOver Value i) (bindings_of s)) is (setting.keeps n line at)) v,
  no_name Value i truth line step is none,
)

line-over :
    (Value : ℕ → Type 0) (i : Interpretation) (truth : NameTruth) (form : List TreeClause) (lines : List Line) (n : ℕ) (line : Line) (step : Step)
    → Setting Value i truth form lines → slice_get lines n ≡ Some line → line.step ≡ step → is_clause_step step ≡ true
    → Before Value i truth lines n → ComesBy step form (take n lines) (clause_of line.clause) → LineOver Value i truth line
line-over Value i truth form lines n line (Input place) setting at is is_clause earlier comes = absurd (true≢false (sym is_clause))
line-over Value i truth form lines n line (Negate place) setting at is is_clause earlier comes = absurd (true≢false (sym is_clause))
line-over Value i truth form lines n line (Clausify k) setting at is is_clause earlier comes = (
  λ ρ within.
      or_left (literals_true_under i ρ (clause_of line.clause).literals) (names_true truth (clause_of line.clause).names)
      (All-contains (λ (c : TreeClause). HoldsOver Value i c.literals) form (clause_of line.clause) setting.holds
      (Contains-item form k (clause_of line.clause) comes) ρ within),
  no_name Value i truth line (Clausify k) is refl,
)
line-over Value i truth form lines n line (Component name) setting at is is_clause earlier comes =
    component-over Value i truth lines n line name (setting.means name) at is comes
line-over Value i truth form lines n line (Opposite name) setting at is is_clause earlier comes =
    opposite-over Value i truth setting.some lines n line name setting.some_within (setting.means name) comes
line-over Value i truth form lines n line (Para a b j s k z place first second) setting at is is_clause earlier comes =
    rule-over Value i truth form lines n line (Para a b j s k z place first second) setting at is refl earlier comes
line-over Value i truth form lines n line (Refl a k bind) setting at is is_clause earlier comes =
    rule-over Value i truth form lines n line (Refl a k bind) setting at is refl earlier comes
line-over Value i truth form lines n line (Factor a j s k z bind) setting at is is_clause earlier comes =
    rule-over Value i truth form lines n line (Factor a j s k z bind) setting at is refl earlier comes
line-over Value i truth form lines n line (Merge a j k bind) setting at is is_clause earlier comes =
    rule-over Value i truth form lines n line (Merge a j k bind) setting at is refl earlier comes
line-over Value i truth form lines n line (Split a definitions parts) setting at is is_clause earlier comes =
    rule-over Value i truth form lines n line (Split a definitions parts) setting at is refl earlier comes
line-over Value i truth form lines n line (Chain numbers pivots) setting at is is_clause earlier comes =
    rule-over Value i truth form lines n line (Chain numbers pivots) setting at is refl earlier comes

lines-before :
    (Value : ℕ → Type 0) (i : Interpretation) (truth : NameTruth) (form : List TreeClause) (lines : List Line)
    → Setting Value i truth form lines → IsDerivation form lines → (n : ℕ) → Before Value i truth lines n
lines-before Value i truth form lines setting derived zero m line within at is_clause = absurd (omega arith)
lines-before Value i truth form lines setting derived (suc n) m line within at is_clause =
    line-over Value i truth form lines m line line.step setting at refl is_clause
    (λ a other before there other_clause. lines-before Value i truth form lines setting derived n a other (omega (arith, within, before)) there other_clause)
    (derived m line at)

-- each clause line of a derivation is true
pub lines-over :
    (Value : ℕ → Type 0) (i : Interpretation) (truth : NameTruth) (form : List TreeClause) (lines : List Line)
    → Setting Value i truth form lines → IsDerivation form lines
    → (n : ℕ) (line : Line) → slice_get lines n ≡ Some line → is_clause_step line.step ≡ true → ClauseOver Value i truth (clause_of line.clause)
lines-over Value i truth form lines setting derived n line at is_clause =
    (lines-before Value i truth form lines setting derived (suc n) n line (omega arith) at is_clause).0

-- ---- values of function terms

table_value-below :
    (p : ℕ → Bool) (size : ℕ) (rows : List Row) (f : ℕ) (values : List ℕ)
    → 1 ≤ size → list_all (row_in_range p size) rows ≡ true → p f ≡ false → table_value rows f values < size
table_value-below p size [] f values some in_range function = some
table_value-below p size (r ∷ rows) f values some in_range function =
    let both = and_parts (row_in_range p size r) (list_all (row_in_range p size) rows) in_range in
    let P : ℕ → Type 0 = λ v. v < size in
    cond_both (is_row_of f values r) r.value (table_value rows f values) P
    (λ here.
    let same : r.symbol ≡ f = eqb-true r.symbol f (and_parts (r.symbol == f) _ here).0 in
    ltb-true r.value size
    (sym (ap (nat_lt r.value) (cond-false (p r.symbol) 2 size (ap p same ∙ function))) ∙ both.0))
    (λ other. table_value-below p size rows f values some both.1 function)

pub function_term-value :
    (p : ℕ → Bool) (i : Interpretation) (ρ : Assignment) (t : Tree)
    → IsInterpretation p i → HasValues i ρ → is_function_term p t ≡ true → tree_value i ρ t < i.size
function_term-value p i ρ (variable v) ok values function = values v
function_term-value p i ρ (application f ts) ok values function =
    let head = and_parts (not (f == true_symbol)) (not (p f) && are_function_terms p ts) function in
    let rest = and_parts (not (p f)) (are_function_terms p ts) head.1 in
    let P : ℕ → Type 0 = λ v. v < i.size in
    subst P (sym (cond-false (f == true_symbol) 1 (table_value i.rows f (trees_values i ρ ts)) (not-true (f == true_symbol) head.0)))
    (table_value-below p i.size i.rows f (trees_values i ρ ts) ok.has_value ok.rows_in_range (not-true (p f) rest.0))

-- what each binding puts in
pub keeps-function_terms :
    (p : ℕ → Bool) (i : Interpretation) (bind : List Tree)
    → IsInterpretation p i → list_all (is_function_term p) bind ≡ true → KeepsOver (λ v. v < i.size) i bind
keeps-function_terms p i bind ok functions ρ within v =
    function_term-value p i ρ (substitution bind v) ok within (get_or-passes (is_function_term p) bind v (variable v) functions refl)

list_all-recursion :
    {X : Type 0} (test : X → Bool) (P : X → Type 0) → ((x : X) → test x ≡ true → P x)
    → (xs : List X) → list_all test xs ≡ true → AllByRecursion P xs
list_all-recursion test P h [] all = tt
list_all-recursion test P h (x ∷ xs) all =
    let both = and_parts (test x) (list_all test xs) all in (h x both.0, list_all-recursion test P h xs both.1)

pub keeps-lines :
    (p : ℕ → Bool) (i : Interpretation) (lines : List Line)
    → IsInterpretation p i → BindsFunctionTerms p lines
    → (n : ℕ) (line : Line) → slice_get lines n ≡ Some line → AllByRecursion (KeepsOver (λ v. v < i.size) i) (bindings_of line.step)
keeps-lines p i lines ok functions n line at =
    list_all-recursion (list_all (is_function_term p)) (KeepsOver (λ v. v < i.size) i) (λ bind h. keeps-function_terms p i bind ok h)
    (bindings_of line.step) (list_all-item (λ (l : Line). binds_each (is_function_term p) l.step) lines n line at functions)

-- ---- the law

means-values : (i : Interpretation) (c : TreeClause) (b : Bool) → MeansBody i c b → MeansOver (λ v. v < i.size) i c.literals b
means-values i c b means = (
  means.0,
  λ fails. let it = means.1 fails in record { values = it.values; within = it.are_values; is_false = it.is_false },
)

pub derivations_are_sound : DerivationsAreSound
derivations_are_sound p i truth form lines ok functions derived holds means =
    lines-over (λ v. v < i.size) i truth form lines
    (record {
      some = λ v. 0;
      some_within = λ v. ok.has_value;
      holds = holds;
      means = λ n. means-values i (body lines n) (truth n) (means n);
      keeps = keeps-lines p i lines ok functions;
    })
    derived
