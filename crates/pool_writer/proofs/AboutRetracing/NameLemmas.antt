-- The component lines of names.
use Rattle.std.proofs.Common.{◌≡◌, ℕ, zero, suc, Bool, true, false, List, [], ◌∷◌, take, None, Some, refl, ap, sym, ◌∙◌, subst}
use Rattle.std.specs.Prelude.{slice_get, if◌then◌else◌}
use Rattle.std.proofs.lemmas.Bool.{true≢false}
use Rattle.std.proofs.lemmas.Option.{none-some, same_Some}
use Rattle.plain_types.specs.Names.{negative_of}
use Rattle.fol_base.specs.Clause.{TreeLiteral, TreeClause}
use Rattle.fol_base.specs.Literal.{clause_of}
use Rattle.kernel_steps.specs.Derivation.{is_component_of, component_clause, IsComponent, ComesBy, IsDerivation}
use Rattle.kernel_steps.specs.declared.step.Step.{Step}
use Rattle.kernel_steps.specs.declared.step.Step.TheVariants.{Component}
use Rattle.kernel_steps.specs.declared.step.Line.{Line}
use Rattle.tstp_writer.proofs.AboutNeeded.EarlierLemmas.{component-named}
use Rattle.pool_writer.specs.Bodies.{HasBody, HaveBodies}

-- the component line of a name that was introduced
pub record ComponentAt (lines : List Line) (name : ℕ) (c : TreeClause) : Type 0 where
  pub number : ℕ
  pub line : Line
  pub there : slice_get lines number ≡ Some line
  pub is_one : is_component_of name line.step ≡ true
  pub clause_is : clause_of line.clause ≡ c

pub component-at : (lines : List Line) (name : ℕ) (c : TreeClause) → component_clause name lines ≡ Some c → ComponentAt lines name c
component-at [] name c h = absurd (none-some c h)
component-at (l ∷ ls) name c h = by (is_component_of name l.step) refl h (component-at ls name c)
  where
    by :
        (t : Bool) → is_component_of name l.step ≡ t → (if t then Some (clause_of l.clause) else component_clause name ls) ≡ Some c
        → (component_clause name ls ≡ Some c → ComponentAt ls name c) → ComponentAt (l ∷ ls) name c
    by true is_one g later = record { number = 0; line = l; there = refl; is_one = is_one; clause_is = same_Some (clause_of l.clause) c g }
    by false other g later =
        let rest : ComponentAt ls name c = later g in
        record { number = suc rest.number; line = rest.line; there = rest.there; is_one = rest.is_one; clause_is = rest.clause_is }

-- a name that no line introduces
pub none-component :
    (name : ℕ) (lines : List Line) → ((n : ℕ) (line : Line) → slice_get lines n ≡ Some line → is_component_of name line.step ≡ false)
    → component_clause name lines ≡ None
none-component name [] none = refl
none-component name (l ∷ ls) none =
    ap (λ b. if b then Some (clause_of l.clause) else component_clause name ls) (none 0 l refl)
    ∙ none-component name ls (λ n line at. none (suc n) line at)

pub no-component :
    (name : ℕ) (lines : List Line) → component_clause name lines ≡ None
    → (n : ℕ) (line : Line) → slice_get lines n ≡ Some line → is_component_of name line.step ≡ false
no-component name [] none n line at = absurd (none-some line at)
no-component name (l ∷ ls) none n line at = by (is_component_of name l.step) refl none n line at (no-component name ls)
  where
    by :
        (t : Bool) → is_component_of name l.step ≡ t → (if t then Some (clause_of l.clause) else component_clause name ls) ≡ None
        → (n : ℕ) (line : Line) → slice_get (l ∷ ls) n ≡ Some line
        → (component_clause name ls ≡ None → (n : ℕ) (line : Line) → slice_get ls n ≡ Some line → is_component_of name line.step ≡ false)
        → is_component_of name line.step ≡ false
    by true is g n line at later = absurd (none-some (clause_of l.clause) (sym g))
    by false is g zero line at later = subst (λ (m : Line). is_component_of name m.step ≡ false) (same_Some l line at) is
    by false is g (suc n) line at later = later g n line at

-- a name whose component lines all have one clause
pub one-component :
    (name : ℕ) (c : TreeClause) (lines : List Line)
    → ((n : ℕ) (line : Line) → slice_get lines n ≡ Some line → is_component_of name line.step ≡ true → clause_of line.clause ≡ c)
    → (n : ℕ) (line : Line) → slice_get lines n ≡ Some line → is_component_of name line.step ≡ true → component_clause name lines ≡ Some c
one-component name c [] each n line at is_one = absurd (none-some line at)
one-component name c (l ∷ ls) each n line at is_one =
    by (is_component_of name l.step) refl n line at is_one (one-component name c ls (λ k other there is. each (suc k) other there is))
  where
    by :
        (t : Bool) → is_component_of name l.step ≡ t → (n : ℕ) (line : Line) → slice_get (l ∷ ls) n ≡ Some line
        → is_component_of name line.step ≡ true
        → ((n : ℕ) (line : Line) → slice_get ls n ≡ Some line → is_component_of name line.step ≡ true → component_clause name ls ≡ Some c)
        → (if t then Some (clause_of l.clause) else component_clause name ls) ≡ Some c
    by true is n line at is_one later = ap Some (each 0 l refl is)
    by false is zero line at is_one later =
        absurd (true≢false (sym is_one ∙ sym (ap (λ (m : Line). is_component_of name m.step) (same_Some l line at)) ∙ is))
    by false is (suc n) line at is_one later = later n line at is_one

-- ---- clauses of component lines

-- the name's body, under the negative name
pub record IsDefinition (bodies : List (List TreeLiteral)) (name : ℕ) (c : TreeClause) : Type 0 where
  pub body : slice_get bodies name ≡ Some c.literals
  pub one_name : c.names ≡ negative_of name ∷ []

pub is-definition :
    (form : List TreeClause) (bodies : List (List TreeLiteral)) (lines : List Line) → IsDerivation form lines → HaveBodies bodies lines
    → (name n : ℕ) (line : Line) → slice_get lines n ≡ Some line → is_component_of name line.step ≡ true
    → IsDefinition bodies name (clause_of line.clause)
is-definition form bodies lines derived have name n line at is_one =
    let step_is : line.step ≡ Component name = component-named name line.step is_one in
    let is : IsComponent name (take n lines) (clause_of line.clause) =
    subst (λ (s : Step). ComesBy s form (take n lines) (clause_of line.clause)) step_is (derived n line at) in
    record {
      body = subst (λ (s : Step). HasBody bodies s (clause_of line.clause)) step_is (have n line at);
      one_name = is.one_name;
    }

pub one-definition : (bodies : List (List TreeLiteral)) (name : ℕ) (c d : TreeClause) → IsDefinition bodies name c → IsDefinition bodies name d → c ≡ d
one-definition bodies name c d one other =
    let literals : c.literals ≡ d.literals = same_Some c.literals d.literals (sym one.body ∙ other.body) in
    let names : c.names ≡ d.names = one.one_name ∙ sym other.one_name in
    λ i. record { literals = literals i; names = names i }
