-- The verdict on a component line, of a name that is introduced by now.
use Rattle.std.proofs.Common.{◌≡◌, ℕ, Bool, true, false, not, ◌&&◌, ◌||◌, ◌==◌, List, [], ◌∷◌, length, refl, ap, sym, ◌∙◌}
use Rattle.std.specs.Prelude.{bytes_eq, if◌then◌else◌}
use Rattle.std.specs.List.{list_any, list_all, position_or_len}
use Rattle.plain_types.specs.Names.{negative_of}
use Rattle.fol_base.specs.Clause.{TreeClause, clause_eq, names_eq}
use Rattle.tptp_tree.specs.Formula.{FormulaTree}
use Rattle.tptp_tree.specs.Entries.{AnnotatedTree}
use Rattle.tptp_source.specs.Sources.{SourceTree, component_source}
use Rattle.signature.specs.Symbol.{has_symbol}
use Rattle.kernel_steps.specs.declared.step.Step.{Step}
use Rattle.kernel_steps.specs.declared.step.Step.TheVariants.{Component}
use Rattle.clausal_form.specs.DerivationClause.{is_written_clause, ordinary_literals, symbols_in, numbering, clause_by}
use Rattle.clausal_form.specs.DerivationSteps.{component_kind}
use Rattle.clausal_form.specs.DerivationLine.{LineTree, NamedLine, Taken, names_with}
use Rattle.clausal_form.specs.DerivationParts.{Setting}
use Rattle.clausal_form.specs.DerivationCauses.{text, order, rule, conclusion, fault, gives_clause, is_old_name, LineVerdict, refused, compared, line_verdict}
use Rattle.tstp_checker.specs.Verdicts.{IsComponentLine}
use Rattle.tstp_checker.proofs.AboutVerdicts.ClauseLineLemmas.{clause_eq-refl, line_unless}

abbrev line_with : AnnotatedTree → SourceTree → LineTree
line_with a source = record { entry = a; source = source }

-- the clause that a formula is, with these names and nothing bound
abbrev pub clause_with : Setting → List (List ℕ) → FormulaTree → TreeClause
clause_with s names f = clause_by (numbering (s.form).symbols (ordinary_literals names f) []) names f

abbrev pub is_new_with : Setting → List (List ℕ) → FormulaTree → Bool
is_new_with s names f = not (list_all (λ x. has_symbol x (s.form).symbols) (symbols_in (ordinary_literals names f) []))

abbrev pub names_it : ℕ → TreeClause → Bool
names_it n c = not (length c.literals == 0) && names_eq c.names (negative_of n ∷ [])

-- what is asked of the line before its clause is
abbrev pub asked_first : Bool → Bool → LineVerdict → LineVerdict
asked_first written there v = if not written then refused text else if there then refused order else v

-- what is asked of its clause
abbrev pub component_of : ℕ → TreeClause → Bool → Bool → LineVerdict
component_of n c is_right is_new = if is_right then line_unless (Component n) c is_new else refused rule

abbrev pub verdict_with : Setting → AnnotatedTree → List (List ℕ) → List NamedLine → ℕ → Bool → LineVerdict
verdict_with s a names lines n is_old =
    asked_first (a.is_clause && is_written_clause names a.formula) (list_any (λ (l : NamedLine). bytes_eq a.name l.name) lines)
    (component_of n (clause_with s names a.formula) (names_it n (clause_with s names a.formula)) (is_new_with s names a.formula || is_old))

self-same :
    (st : Step) (c : TreeClause) (is_right is_new : Bool)
    → (if is_right then (if not (clause_eq c c) then refused conclusion else line_unless st c is_new) else refused rule)
    ≡ (if is_right then line_unless st c is_new else refused rule)
self-same st c true is_new = ap (λ b. if not b then refused conclusion else line_unless st c is_new) (clause_eq-refl c)
self-same st c false is_new = refl

given-compared :
    (s : Setting) (e : Taken) (a : AnnotatedTree) (name : List ℕ) (n : ℕ) (c : TreeClause) (is_right : Bool)
    → compared s e (line_with a (component_source name)) (if is_right then gives_clause (Component n) c else fault rule)
    ≡ (if is_right then compared s e (line_with a (component_source name)) (gives_clause (Component n) c) else refused rule)
given-compared s e a name n c true = refl
given-compared s e a name n c false = refl

-- among the lines before the name is introduced
before :
    (s : Setting) (e : Taken) (a : AnnotatedTree) (name : List ℕ)
    → line_verdict s e (line_with a (component_source name))
    ≡ verdict_with s a (names_with e.introduced (component_kind name)) e.lines (position_or_len (bytes_eq name) e.introduced)
    (is_old_name s e (component_kind name))
before s e a name =
    let names : List (List ℕ) = names_with e.introduced (component_kind name) in
    let n : ℕ = position_or_len (bytes_eq name) e.introduced in
    let c : TreeClause = clause_with s names a.formula in
    ap (asked_first (a.is_clause && is_written_clause names a.formula) (list_any (λ (l : NamedLine). bytes_eq a.name l.name) e.lines))
    (given-compared s e a name n c (names_it n c)
    ∙ self-same (Component n) c (names_it n c) (is_new_with s names a.formula || is_old_name s e (component_kind name)))

pub component-verdict :
    (s : Setting) (e now : Taken) (a : AnnotatedTree) (source : SourceTree) (n : ℕ) (is_old : Bool)
    → IsComponentLine s e now (record { entry = a; source = source }) n is_old
    → line_verdict s e (record { entry = a; source = source }) ≡ verdict_with s a now.introduced now.lines n is_old
component-verdict s e now a source n is_old l =
    ap (λ x. line_verdict s e (line_with a x)) l.source
    ∙ before s e a l.name
    ∙ ap (λ names. verdict_with s a names e.lines (position_or_len (bytes_eq l.name) e.introduced) (is_old_name s e (component_kind l.name))) l.introduced
    ∙ ap (λ lines. verdict_with s a now.introduced lines (position_or_len (bytes_eq l.name) e.introduced) (is_old_name s e (component_kind l.name))) l.lines
    ∙ ap (λ m. verdict_with s a now.introduced now.lines m (is_old_name s e (component_kind l.name))) l.its_number
    ∙ ap (verdict_with s a now.introduced now.lines n) l.old

-- ---- the causes in their order

pub component-text :
    (s : Setting) (e now : Taken) (a : AnnotatedTree) (source : SourceTree) (n : ℕ) (is_old : Bool)
    → IsComponentLine s e now (record { entry = a; source = source }) n is_old
    → false ≡ (a.is_clause && is_written_clause now.introduced a.formula)
    → line_verdict s e (record { entry = a; source = source }) ≡ refused text
component-text s e now a source n is_old l w =
    component-verdict s e now a source n is_old l
    ∙ ap (λ b. asked_first b (list_any (λ (k : NamedLine). bytes_eq a.name k.name) now.lines)
    (component_of n (clause_with s now.introduced a.formula) (names_it n (clause_with s now.introduced a.formula))
    (is_new_with s now.introduced a.formula || is_old))) (sym w)

pub component-order :
    (s : Setting) (e now : Taken) (a : AnnotatedTree) (source : SourceTree) (n : ℕ) (is_old : Bool)
    → IsComponentLine s e now (record { entry = a; source = source }) n is_old
    → true ≡ (a.is_clause && is_written_clause now.introduced a.formula)
    → true ≡ list_any (λ (k : NamedLine). bytes_eq a.name k.name) now.lines
    → line_verdict s e (record { entry = a; source = source }) ≡ refused order
component-order s e now a source n is_old l w o =
    let v : LineVerdict =
    component_of n (clause_with s now.introduced a.formula) (names_it n (clause_with s now.introduced a.formula))
    (is_new_with s now.introduced a.formula || is_old) in
    component-verdict s e now a source n is_old l
    ∙ ap (λ b. asked_first b (list_any (λ (k : NamedLine). bytes_eq a.name k.name) now.lines) v) (sym w)
    ∙ ap (λ b. asked_first true b v) (sym o)

-- the clause's own verdict, where nothing is amiss before
pub component-so :
    (s : Setting) (e now : Taken) (a : AnnotatedTree) (source : SourceTree) (n : ℕ) (is_old : Bool) (c : TreeClause) (is_right is_new : Bool)
    → IsComponentLine s e now (record { entry = a; source = source }) n is_old
    → true ≡ (a.is_clause && is_written_clause now.introduced a.formula)
    → false ≡ list_any (λ (k : NamedLine). bytes_eq a.name k.name) now.lines
    → c ≡ clause_with s now.introduced a.formula → is_right ≡ names_it n c → is_new ≡ is_new_with s now.introduced a.formula
    → line_verdict s e (record { entry = a; source = source }) ≡ component_of n c is_right (is_new || is_old)
component-so s e now a source n is_old c is_right is_new l w o c_is right new =
    let d : TreeClause = clause_with s now.introduced a.formula in
    let v : LineVerdict = component_of n d (names_it n d) (is_new_with s now.introduced a.formula || is_old) in
    component-verdict s e now a source n is_old l
    ∙ ap (λ b. asked_first b (list_any (λ (k : NamedLine). bytes_eq a.name k.name) now.lines) v) (sym w)
    ∙ ap (λ b. asked_first true b v) (sym o)
    ∙ ap (λ k. component_of n k (names_it n k) (is_new_with s now.introduced a.formula || is_old)) (sym c_is)
    ∙ ap (λ b. component_of n c b (is_new_with s now.introduced a.formula || is_old)) (sym right)
    ∙ ap (λ b. component_of n c is_right (b || is_old)) (sym new)
