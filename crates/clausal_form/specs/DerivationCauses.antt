-- The verdict on a line of a derivation: it is taken, or the first cause for which it is refused.
use Rattle.std.specs.Prelude.{ℕ, Bool, true, false, not, ◌&&◌, ◌||◌, ◌==◌, List, [], ◌∷◌, map, zip, length, codes, Option, None, Some, option_map, option_and_then, unwrap_or, is_some, slice_get, position, bytes_eq, if◌then◌else◌}
use Rattle.std.specs.List.{list_any, list_all, position_or_len}
use Rattle.plain_types.specs.Names.{positive_of, negative_of}
use Rattle.fol_base.specs.Tree.{Tree}
use Rattle.fol_base.specs.Clause.{TreeLiteral, TreeClause, clause_eq, names_eq}
use Rattle.fol_base.specs.Ground.{is_ground_literal}
use Rattle.tptp_tree.specs.Formula.{FormulaTree, negation}
use Rattle.tptp_tree.specs.Entries.{AnnotatedTree, is_conjecture}
use Rattle.signature.specs.Symbol.{predicate_symbol, has_symbol}
use Rattle.kernel_steps.specs.Parents.{Parent}
use Rattle.kernel_steps.specs.Conclusion.{Verdict, binding_fault, rule_fault, concludes, empty_clause, binds, verdict}
use Rattle.kernel_steps.specs.Derivation.{complement, component_clause}
use Rattle.kernel_steps.specs.declared.step.Step.{Step}
use Rattle.kernel_steps.specs.declared.step.Step.TheVariants.{Input, Negate, Clausify, Component, Opposite}
use Rattle.kernel_steps.specs.declared.step.Line.{Line}
use Rattle.tptp_source.specs.Sources.{SourceTree, file_source}
use Rattle.clausal_form.specs.DerivationClause.{is_written_clause, name_number, symbols_in}
use Rattle.clausal_form.specs.DerivationItems.{only_one, plain_word, row_arguments}
use Rattle.clausal_form.specs.DerivationSteps.{LineKind, input_kind, negate_kind, clausify_kind, component_kind, opposite_kind, bindings_count, of_number, rule_step}
use Rattle.clausal_form.specs.DerivationLine.{LineTree, same_formula, same_entry, NamedLine, Taken, kernel_lines}
use Rattle.tptp_tree.specs.Shape.{entry_of}
use Rattle.kernel_steps.specs.FromTrees.{line_of}
use Rattle.clausal_form.specs.DerivationParts.{Setting, entry_at, line_kind, items_of, parent_places, parents_of, parent_lines, only_parent_step, line_names, line_literals, all_bound, line_clause, line_bindings}

-- The causes for which a line is refused, in the order in which they are asked.
pub data Cause : Type 0 where
  -- a clause line isn't written as one; in a text, no line can be read
  text : Cause
  -- the line's name is that of an earlier line
  order : Cause
  -- a parent isn't the name of an earlier line
  unknown_parent : Cause
  -- the problem has no such formula
  leaf : Cause
  -- the form has no such clause, or not from this parent, or the items aren't those of the row
  clausification : Cause
  -- the bindings aren't right for the parents
  binding : Cause
  -- there is no such rule, or the items or the parents aren't those of its row, or its condition fails
  rule : Cause
  -- the formula or the clause isn't what the rule gives
  conclusion : Cause
  -- the clause or a binding has a symbol that the form doesn't have, or a name isn't new
  new_symbol : Cause
  -- after the last line: it isn't the empty clause
  no_empty_clause : Cause

-- ---- the result of a source

-- the result of a line's source: a fault; or a step, with the formula or the clause that the line has to have
pub data Given : Type 0 where
  fault : Cause → Given
  gives_formula : Step → FormulaTree → Given
  gives_clause : Step → TreeClause → Given

-- Input: the entry that the line cites, with the name in its source and the line's role, kind and formula. It has to be one of the
-- problem's; the name of the file is any word.
abbrev pub cited : LineTree → List ℕ → AnnotatedTree
cited t name = record { name = name; role = (t.entry).role; is_clause = (t.entry).is_clause; formula = (t.entry).formula }

-- the place of the first formula of the problem that equals an entry
abbrev pub place_of_entry : Setting → AnnotatedTree → Option ℕ
place_of_entry s a = position (λ b. same_entry a (entry_of b)) s.problem

-- the result of `file(FILE,NAME)`
abbrev pub given_by_file : Setting → LineTree → SourceTree → Given
given_by_file s t (file_source file name) =
    unwrap_or
    (option_map (λ place. gives_formula (Input place) (t.entry).formula)
    (option_and_then (λ word. place_of_entry s (cited t name)) (plain_word file)))
    (fault leaf)
given_by_file s t source = fault leaf

-- Negate: the negation of the conjecture, from its input line.
abbrev pub negation_from : Setting → Step → Option Given
negation_from s (Input place) =
    option_and_then
    (λ (a : AnnotatedTree). if is_conjecture a.role then Some (gives_formula (Negate place) (negation a.formula)) else None)
    (entry_at s place)
negation_from s step = None

-- The result of `inference(negate,[status(cth)],[P])`. P has to be the conjecture's input line.
abbrev pub given_by_negate : Setting → Taken → LineTree → Given
given_by_negate s e t =
    unwrap_or
    (option_and_then (λ row. option_and_then (negation_from s) (only_parent_step e t)) (row_arguments (codes "cth") [] (items_of t.source)))
    (fault rule)

-- Clausify: the clause with the number is that of the form, and the parent is the line of the formula that it comes from: an input
-- line, or for the conjecture a negate line. Two places of formulas fit each other if these are equal in name, role, kind and formula.
abbrev pub fits : Setting → ℕ → ℕ → Bool
fits s place other = unwrap_or (option_and_then (λ a. option_map (same_entry a) (entry_at s other)) (entry_at s place)) false

-- whether the problem's formula at a place is its conjecture
abbrev pub is_conjecture_at : Setting → ℕ → Bool
is_conjecture_at s place = unwrap_or (option_map (λ (a : AnnotatedTree). is_conjecture a.role) (entry_at s place)) false

-- whether a step is that of the input line of the formula at a place, or for the conjecture that of its negate line
abbrev pub is_line_of : Setting → ℕ → Step → Bool
is_line_of s origin (Input place) = fits s place origin && not (is_conjecture_at s place)
is_line_of s origin (Negate place) = fits s place origin && is_conjecture_at s place
is_line_of s origin step = false

-- whether clause i of the clausal form is the line's clause, and the line's parent is the line of that clause's formula
abbrev pub is_clausified : Setting → Taken → LineTree → ℕ → Bool
is_clausified s e t i =
    unwrap_or (option_and_then (λ origin. option_map (is_line_of s origin) (only_parent_step e t)) (slice_get (s.form).origins i)) false
    && unwrap_or (option_map (λ c. clause_eq c (line_clause s e t)) (slice_get (s.form).clauses i)) false

-- the clause's number in `inference(clausify,[status(esa),index(I)],[P])`
abbrev pub index_in : LineTree → Option ℕ
index_in t =
    option_and_then of_number (option_and_then only_one (row_arguments (codes "esa") (codes "index" ∷ []) (items_of t.source)))

-- the result of a clausify line
abbrev pub given_by_clausify : Setting → Taken → LineTree → Given
given_by_clausify s e t =
    unwrap_or
    (option_and_then (λ i. if is_clausified s e t i then Some (gives_clause (Clausify i) (line_clause s e t)) else None) (index_in t))
    (fault clausification)

-- Component: the clause has at least one ordinary literal, and exactly one name, the line's own, negated.
abbrev pub given_by_component : Setting → Taken → LineTree → List ℕ → Given
given_by_component s e t name =
    let n : ℕ = position_or_len (bytes_eq name) e.introduced in
    let c : TreeClause = line_clause s e t in
    if not (length c.literals == 0) && names_eq c.names (negative_of n ∷ []) then gives_clause (Component n) c else fault rule

-- Opposite: of a name that was introduced for one ground positive literal. The clause is that literal's complement, with the name,
-- positive.
abbrev pub opposite_from : ℕ → TreeLiteral → Option Given
opposite_from n l =
    if l.positive && is_ground_literal l
    then Some (gives_clause (Opposite n) (record { literals = complement l ∷ []; names = positive_of n ∷ [] }))
    else None

-- The result of an opposite line. Its name has to be introduced by the component line of one ground positive literal.
abbrev pub given_by_opposite : Taken → List ℕ → Given
given_by_opposite e name =
    unwrap_or
    (option_and_then
    (λ n. option_and_then (opposite_from n) (option_and_then (λ (c : TreeClause). only_one c.literals) (component_clause n (kernel_lines e))))
    (name_number e.introduced name))
    (fault rule)

-- The rules with parents: first the bindings are asked, as many as the rule has, each right for its parent; then the rule. A parent
-- that is no clause line is left to the rule.
abbrev pub is_bound : Option (List Tree) → Option Parent → Bool
is_bound bind None = true
is_bound None (Some p) = false
is_bound (Some ts) (Some p) = binds ts p.clause

-- whether a line has as many bindings as its rule, and each is right for its parent
abbrev pub are_bound : Setting → Taken → LineTree → Bool
are_bound s e t =
    (length (line_bindings s e t) == bindings_count (line_kind t))
    && list_all (λ b. is_bound b.0 (parent_lines e b.1)) (zip (line_bindings s e t) (parents_of e t))

-- the step of a line of a rule with parents, if its items and parents are those of the rule's row
abbrev pub line_step : Setting → Taken → LineTree → Option Step
line_step s e t =
    rule_step (line_kind t) e.introduced (items_of t.source) (parents_of e t) (map (λ o. unwrap_or o []) (line_bindings s e t))

-- the result of a step by the kernel's verdict on it: a fault, or the conclusion
abbrev pub concluded : Step → Verdict → Given
concluded step binding_fault = fault binding
concluded step rule_fault = fault rule
concluded step (concludes c) = gives_clause step c

-- the result of a line of a rule with parents: `para`, `refl`, `factor`, `merge`, `split` or `chain`
abbrev pub given_by_rule : Setting → Taken → LineTree → Given
given_by_rule s e t =
    if are_bound s e t
    then unwrap_or (option_map (λ step. concluded step (verdict step (parent_lines e))) (line_step s e t)) (fault rule)
    else fault binding

-- the result of a line's source, by the kind of the line
abbrev pub given_by : Setting → Taken → LineTree → LineKind → Given
given_by s e t input_kind = given_by_file s t t.source
given_by s e t negate_kind = given_by_negate s e t
given_by s e t clausify_kind = given_by_clausify s e t
given_by s e t (component_kind name) = given_by_component s e t name
given_by s e t (opposite_kind name) = given_by_opposite e name
given_by s e t kind = given_by_rule s e t

-- ---- the verdict

-- whether lines of a kind have formulas, and not clauses: input and negate lines
abbrev pub is_formula_kind : LineKind → Bool
is_formula_kind input_kind = true
is_formula_kind negate_kind = true
is_formula_kind kind = false

-- whether a line is written as its kind asks: a clause line with `cnf`, as a clause is
abbrev pub is_written : Taken → LineTree → Bool
is_written e t =
    is_formula_kind (line_kind t) || ((t.entry).is_clause && is_written_clause (line_names e t) (t.entry).formula)

-- whether some symbol of the clause, or of a binding, isn't one of the form
abbrev pub has_new_symbol : Setting → Taken → LineTree → Bool
has_new_symbol s e t = not (list_all (λ x. has_symbol x (s.form).symbols) (symbols_in (line_literals e t) (all_bound t)))

-- whether the name of a component line is no new one: it is a predicate of the form without arguments, or was introduced before
abbrev pub is_old_name : Setting → Taken → LineKind → Bool
is_old_name s e (component_kind name) = has_symbol (predicate_symbol name 0) (s.form).symbols || list_any (bytes_eq name) e.introduced
is_old_name s e kind = false

-- the verdict on a line: the first cause for which it is refused, or the kernel's line that it is taken as
pub data LineVerdict : Type 0 where
  refused : Cause → LineVerdict
  taken : Line → LineVerdict

-- the line's own formula or clause against the result of its source
abbrev pub compared : Setting → Taken → LineTree → Given → LineVerdict
compared s e t (fault cause) = refused cause
compared s e t (gives_formula step f) =
    if same_formula f (t.entry).formula then taken (line_of step empty_clause) else refused conclusion
compared s e t (gives_clause step c) =
    if not (clause_eq c (line_clause s e t)) then refused conclusion
    else if has_new_symbol s e t || is_old_name s e (line_kind t) then refused new_symbol
    else taken (line_of step c)

-- the verdict on a line, the causes in their order
abbrev pub line_verdict : Setting → Taken → LineTree → LineVerdict
line_verdict s e t =
    if not (is_written e t) then refused text
    else if list_any (λ (l : NamedLine). bytes_eq (t.entry).name l.name) e.lines then refused order
    else if not (list_all is_some (parent_places e t)) then refused unknown_parent
    else compared s e t (given_by s e t (line_kind t))
