-- What a line's source gives is a kernel step from the form and the lines before it.
use Rattle.std.proofs.Common.{◌≡◌, ℕ, ◌+◌, ◌<◌, ◌≤◌, Bool, true, false, not, ◌&&◌, ◌==◌, List, [], ◌∷◌, ◌++◌, map, length, Option, Some, None, refl, ap, ap₂, sym, ◌∙◌, subst, arith}
use Rattle.std.specs.Prelude.{option_map, option_and_then, unwrap_or, slice_get, bytes_eq, codes, if◌then◌else◌}
use Rattle.std.specs.List.{list_all, list_any, position_or_len}
use Rattle.std.proofs.lemmas.Bool.{and_parts, not-true, eq-eqb, true≢false}
use Rattle.std.proofs.lemmas.Option.{none-some, same_Some, option_and_then_some}
use Rattle.plain_types.specs.declared.sequence.NameLit.{NameLit}
use Rattle.plain_types.specs.Names.{same_name, positive_of, negative_of}
use Rattle.plain_types.proofs.NameLemmas.{same_name-true}
use Rattle.fol_base.specs.Tree.{Tree}
use Rattle.fol_base.specs.Clause.{TreeLiteral, TreeClause, literals_eq, names_eq, clause_eq}
use Rattle.fol_base.specs.Ground.{is_ground_literal}
use Rattle.fol_base.proofs.WorkedExamples.TestLemmas.{option_map-some, if_some}
use Rattle.tptp_tree.specs.Formula.{negation}
use Rattle.tptp_tree.specs.Entries.{AnnotatedTree, is_conjecture}
use Rattle.signature.specs.Symbol.{predicate_symbol, has_symbol}
use Rattle.kernel_steps.specs.Conclusion.{Verdict, binding_fault, rule_fault, concludes, empty_clause, verdict}
use Rattle.kernel_steps.specs.Derivation.{complement, component_clause, line_parents, IsComponent, IsOpposite, ComesBy}
use Rattle.kernel_steps.specs.Soundness.{binds_each}
use Rattle.kernel_steps.specs.declared.step.Step.{Step}
use Rattle.kernel_steps.specs.declared.step.Line.{Line}
use Rattle.kernel_steps.proofs.AboutSplits.SplitTests.{literals_eq-says}
use Rattle.tptp_source.specs.Sources.{SourceTree, file_source, inference_source, component_source, opposite_source}
use Rattle.clausal_form.specs.DerivationClause.{name_number}
use Rattle.clausal_form.specs.DerivationItems.{only_one, plain_word, row_arguments}
use Rattle.clausal_form.specs.DerivationSteps.{LineKind}
use Rattle.clausal_form.specs.DerivationLine.{LineTree, Taken, kernel_lines, names_with}
use Rattle.clausal_form.specs.DerivationParts.{Setting, entry_at, line_kind, items_of, parents_of, parent_lines, only_parent_step, line_clause, line_bindings}
use Rattle.clausal_form.specs.DerivationCauses.{Cause, leaf, clausification, binding, rule, Given, fault, gives_formula, gives_clause, cited, place_of_entry, given_by_file, negation_from, given_by_negate, is_line_of, is_clausified, index_in, given_by_clausify, given_by_component, opposite_from, given_by_opposite, are_bound, line_step, concluded, given_by_rule, given_by, is_old_name}
use Rattle.clausal_form.proofs.AboutWriting.StepBinds.{step-binds}
use Rattle.list_lemmas.proofs.Bools.{neither-true}
use Rattle.list_lemmas.proofs.Tests.{position-past}
use Rattle.list_lemmas.proofs.Lists.{length-pushed}
use Rattle.kernel_steps.specs.declared.step.Step.TheVariants as step
use Rattle.clausal_form.specs.DerivationSteps as kind

-- ---- equal names and clauses

pub names_eq-says : (ns ms : List NameLit) → names_eq ns ms ≡ true → ns ≡ ms
names_eq-says [] [] h = refl
names_eq-says [] (m ∷ ms) h = absurd (true≢false (sym h))
names_eq-says (n ∷ ns) [] h = absurd (true≢false (sym h))
names_eq-says (n ∷ ns) (m ∷ ms) h =
    let parts = and_parts (same_name n m) (names_eq ns ms) h in ap₂ ◌∷◌ (same_name-true n m parts.0) (names_eq-says ns ms parts.1)

pub clause_eq-says : (c d : TreeClause) → clause_eq c d ≡ true → c ≡ d
clause_eq-says c d h =
    let parts = and_parts (literals_eq c.literals d.literals) (names_eq c.names d.names) h in
    let make : List TreeLiteral → List NameLit → TreeClause = λ ls ns. record { literals = ls; names = ns } in
    ap₂ make (literals_eq-says c.literals d.literals parts.0) (names_eq-says c.names d.names parts.1)

equal-there : (o : Option TreeClause) (d : TreeClause) → unwrap_or (option_map (λ c. clause_eq c d) o) false ≡ true → o ≡ Some d
equal-there None d h = absurd (true≢false (sym h))
equal-there (Some c) d h = ap Some (clause_eq-says c d h)

only_one-says : {X : Type 0} (xs : List X) (x : X) → only_one xs ≡ Some x → xs ≡ x ∷ []
only_one-says [] x h = absurd (none-some x h)
only_one-says (y ∷ []) x h = ap (λ z. z ∷ []) (same_Some y x h)
only_one-says (y ∷ z ∷ zs) x h = absurd (none-some x h)

-- ---- what is right

-- a component step has a number below a bound
abbrev pub NameBelow : ℕ → Step → Type 0
NameBelow n (step.Component name) = name < n
NameBelow n st = Unit {0}

-- all that is bound passes a test
abbrev pub Binds : (Tree → Bool) → Setting → Taken → LineTree → Type 0
Binds test s e t = list_all (list_all test) (map (λ o. unwrap_or o []) (line_bindings s e t)) ≡ true

-- names that aren't introduced have no component line
abbrev pub NoneFrom : Taken → Type 0
NoneFrom e = (n : ℕ) → length e.introduced ≤ n → component_clause n (kernel_lines e) ≡ None

pub record ComesRight (test : Tree → Bool) (s : Setting) (e : Taken) (t : LineTree) (k : LineKind) (st : Step) (c : TreeClause) : Type 0 where
  pub comes : ComesBy st (s.form).clauses (kernel_lines e) c
  pub below : NameBelow (length (names_with e.introduced k)) st
  pub binds : Binds test s e t → binds_each test st ≡ true

abbrev pub IsRight : (Tree → Bool) → Setting → Taken → LineTree → LineKind → Given → Type 0
IsRight test s e t k (fault cause) = Unit {0}
IsRight test s e t k (gives_formula st f) = ComesRight test s e t k st empty_clause × (binds_each test st ≡ true)
IsRight test s e t k (gives_clause st c) = is_old_name s e k ≡ false → ComesRight test s e t k st c

or_fault :
    (P : Given → Type 0) (cause : Cause) (o : Option Given)
    → P (fault cause) → ((g : Given) → o ≡ Some g → P g) → P (unwrap_or o (fault cause))
or_fault P cause None h k = h
or_fault P cause (Some g) h k = k g refl

either : (P : Given → Type 0) (b : Bool) (g h : Given) → (b ≡ true → P g) → P h → P (if b then g else h)
either P true g h first second = first refl
either P false g h first second = second

-- ---- by kinds

right-file : (test : Tree → Bool) (s : Setting) (e : Taken) (t : LineTree) (k : LineKind) (source : SourceTree) → IsRight test s e t k (given_by_file s t source)
right-file test s e t k (file_source file name) =
    or_fault (IsRight test s e t k) leaf
    (option_map (λ place. gives_formula (step.Input place) (t.entry).formula) (option_and_then (λ word. place_of_entry s (cited t name)) (plain_word file)))
    tt λ g h.
    option_map-some (λ place. gives_formula (step.Input place) (t.entry).formula)
    (option_and_then (λ word. place_of_entry s (cited t name)) (plain_word file)) g h λ place place_is e'.
    subst (IsRight test s e t k) e' (record { comes = refl; below = tt; binds = λ _. refl }, refl)
right-file test s e t k (inference_source r items parents) = tt
right-file test s e t k (component_source name) = tt
right-file test s e t k (opposite_source name) = tt

right-negation :
    (test : Tree → Bool) (s : Setting) (e : Taken) (t : LineTree) (k : LineKind) (st : Step) (g : Given)
    → negation_from s st ≡ Some g → IsRight test s e t k g
right-negation test s e t k (step.Input place) g h =
    option_and_then_some
    (λ (a : AnnotatedTree). if is_conjecture a.role then Some (gives_formula (step.Negate place) (negation a.formula)) else None)
    (entry_at s place) g h λ a a_is more.
    let parts = if_some (is_conjecture a.role) (Some (gives_formula (step.Negate place) (negation a.formula))) g more in
    subst (IsRight test s e t k) (same_Some (gives_formula (step.Negate place) (negation a.formula)) g parts.1)
    (record { comes = refl; below = tt; binds = λ _. refl }, refl)
right-negation test s e t k (step.Negate place) g h = absurd (none-some g h)
right-negation test s e t k (step.Clausify i) g h = absurd (none-some g h)
right-negation test s e t k (step.Para a b c d f i j l m) g h = absurd (none-some g h)
right-negation test s e t k (step.Refl a b c) g h = absurd (none-some g h)
right-negation test s e t k (step.Factor a b c d f i) g h = absurd (none-some g h)
right-negation test s e t k (step.Merge a b c d) g h = absurd (none-some g h)
right-negation test s e t k (step.Component n) g h = absurd (none-some g h)
right-negation test s e t k (step.Opposite n) g h = absurd (none-some g h)
right-negation test s e t k (step.Split a b c) g h = absurd (none-some g h)
right-negation test s e t k (step.Chain a b) g h = absurd (none-some g h)

right-negate : (test : Tree → Bool) (s : Setting) (e : Taken) (t : LineTree) (k : LineKind) → IsRight test s e t k (given_by_negate s e t)
right-negate test s e t k =
    or_fault (IsRight test s e t k) rule
    (option_and_then (λ row. option_and_then (negation_from s) (only_parent_step e t)) (row_arguments (codes "cth") [] (items_of t.source)))
    tt λ g h.
    option_and_then_some (λ row. option_and_then (negation_from s) (only_parent_step e t)) (row_arguments (codes "cth") [] (items_of t.source)) g h
    λ row row_is more. option_and_then_some (negation_from s) (only_parent_step e t) g more λ st st_is last. right-negation test s e t k st g last

right-clausify : (test : Tree → Bool) (s : Setting) (e : Taken) (t : LineTree) (k : LineKind) → IsRight test s e t k (given_by_clausify s e t)
right-clausify test s e t k =
    or_fault (IsRight test s e t k) clausification
    (option_and_then (λ i. if is_clausified s e t i then Some (gives_clause (step.Clausify i) (line_clause s e t)) else None) (index_in t)) tt λ g h.
    option_and_then_some (λ i. if is_clausified s e t i then Some (gives_clause (step.Clausify i) (line_clause s e t)) else None) (index_in t) g h
    λ i i_is more.
    let parts = if_some (is_clausified s e t i) (Some (gives_clause (step.Clausify i) (line_clause s e t))) g more in
    let halves =
    and_parts
    (unwrap_or (option_and_then (λ origin. option_map (is_line_of s origin) (only_parent_step e t)) (slice_get (s.form).origins i)) false)
    (unwrap_or (option_map (λ c. clause_eq c (line_clause s e t)) (slice_get (s.form).clauses i)) false) parts.0 in
    let there = equal-there (slice_get (s.form).clauses i) (line_clause s e t) halves.1 in
    subst (IsRight test s e t k) (same_Some (gives_clause (step.Clausify i) (line_clause s e t)) g parts.1)
    (λ _. record { comes = there; below = tt; binds = λ _. refl })

one-longer :
    (names : List (List ℕ)) (name : List ℕ) → list_any (bytes_eq name) names ≡ false
    → length (names_with names (kind.component_kind name)) ≡ length names + 1
one-longer names name h = by (list_any (bytes_eq name) names) h
  where
    by : (b : Bool) → b ≡ false → length (if b then names else names ++ name ∷ []) ≡ length names + 1
    by true h = absurd (true≢false h)
    by false h = length-pushed names name

not-empty : (n : ℕ) → not (n == 0) ≡ true → n ≡ 0 → ⊥
not-empty n h e = true≢false (sym (eq-eqb n 0 e) ∙ not-true (n == 0) h)

component-right :
    (test : Tree → Bool) (s : Setting) (e : Taken) (t : LineTree) (name : List ℕ) (n : ℕ) (c : TreeClause) → NoneFrom e
    → n ≡ position_or_len (bytes_eq name) e.introduced
    → (not (length c.literals == 0) && names_eq c.names (negative_of n ∷ [])) ≡ true
    → is_old_name s e (kind.component_kind name) ≡ false → ComesRight test s e t (kind.component_kind name) (step.Component n) c
component-right test s e t name n c none n_is h old =
    let fresh : list_any (bytes_eq name) e.introduced ≡ false = (neither-true (has_symbol (predicate_symbol name 0) (s.form).symbols) (list_any (bytes_eq name) e.introduced) old).1 in
    let at_end : n ≡ length e.introduced = n_is ∙ position-past (bytes_eq name) e.introduced fresh in
    let parts = and_parts (not (length c.literals == 0)) (names_eq c.names (negative_of n ∷ [])) h in
    let made : IsComponent n (kernel_lines e) c = record {
      is_new = none n (omega (arith, at_end));
      some_literal = not-empty (length c.literals) parts.0;
      one_name = names_eq-says c.names (negative_of n ∷ []) parts.1;
    } in
    record { comes = made; below = omega (arith, at_end, one-longer e.introduced name fresh); binds = λ _. refl }

right-component :
    (test : Tree → Bool) (s : Setting) (e : Taken) (t : LineTree) (name : List ℕ) → NoneFrom e
    → IsRight test s e t (kind.component_kind name) (given_by_component s e t name)
right-component test s e t name none =
    let n : ℕ = position_or_len (bytes_eq name) e.introduced in
    let c : TreeClause = line_clause s e t in
    either (IsRight test s e t (kind.component_kind name)) (not (length c.literals == 0) && names_eq c.names (negative_of n ∷ []))
    (gives_clause (step.Component n) c) (fault rule) (λ h old. component-right test s e t name n c none refl h old) tt

opposite-right :
    (test : Tree → Bool) (s : Setting) (e : Taken) (t : LineTree) (k : LineKind) (n : ℕ) (c : TreeClause) (l : TreeLiteral) (g : Given)
    → component_clause n (kernel_lines e) ≡ Some c → only_one c.literals ≡ Some l → opposite_from n l ≡ Some g → IsRight test s e t k g
opposite-right test s e t k n c l g there one h =
    let made : TreeClause = record { literals = complement l ∷ []; names = positive_of n ∷ [] } in
    let parts = if_some (l.positive && is_ground_literal l) (Some (gives_clause (step.Opposite n) made)) g h in
    let tests = and_parts l.positive (is_ground_literal l) parts.0 in
    let right : IsOpposite n (kernel_lines e) made = record {
      component = c;
      introduced = there;
      literal = l;
      one_literal = only_one-says c.literals l one;
      positive = tests.0;
      ground = tests.1;
      complemented = refl;
      one_name = refl;
    } in
    subst (IsRight test s e t k) (same_Some (gives_clause (step.Opposite n) made) g parts.1) (λ _. record { comes = right; below = tt; binds = λ _. refl })

right-opposite : (test : Tree → Bool) (s : Setting) (e : Taken) (t : LineTree) (k : LineKind) (name : List ℕ) → IsRight test s e t k (given_by_opposite e name)
right-opposite test s e t k name =
    or_fault (IsRight test s e t k) rule
    (option_and_then
    (λ n. option_and_then (opposite_from n) (option_and_then (λ (c : TreeClause). only_one c.literals) (component_clause n (kernel_lines e))))
    (name_number e.introduced name)) tt λ g h.
    option_and_then_some
    (λ n. option_and_then (opposite_from n) (option_and_then (λ (c : TreeClause). only_one c.literals) (component_clause n (kernel_lines e))))
    (name_number e.introduced name) g h λ n n_is more.
    option_and_then_some (opposite_from n) (option_and_then (λ (c : TreeClause). only_one c.literals) (component_clause n (kernel_lines e))) g more
    λ l l_is last.
    option_and_then_some (λ (c : TreeClause). only_one c.literals) (component_clause n (kernel_lines e)) l l_is λ c there one.
    opposite-right test s e t k n c l g there one last

-- ---- rules with parents

-- a step that concludes is one by a rule
comes-by-rule :
    (st : Step) (form : List TreeClause) (lines : List Line) (c : TreeClause) (n : ℕ)
    → verdict st (line_parents lines) ≡ concludes c → ComesBy st form lines c × NameBelow n st
comes-by-rule (step.Input place) form lines c n h = absurd (cc)
comes-by-rule (step.Negate place) form lines c n h = absurd (cc)
comes-by-rule (step.Clausify i) form lines c n h = absurd (cc)
comes-by-rule (step.Para a b d f g i j k l) form lines c n h = (h, tt)
comes-by-rule (step.Refl a b d) form lines c n h = (h, tt)
comes-by-rule (step.Factor a b d f g i) form lines c n h = (h, tt)
comes-by-rule (step.Merge a b d f) form lines c n h = (h, tt)
comes-by-rule (step.Component m) form lines c n h = absurd (cc)
comes-by-rule (step.Opposite m) form lines c n h = absurd (cc)
comes-by-rule (step.Split a b d) form lines c n h = (h, tt)
comes-by-rule (step.Chain a b) form lines c n h = (h, tt)

concluded-right :
    (test : Tree → Bool) (s : Setting) (e : Taken) (t : LineTree) (k : LineKind) (st : Step) (v : Verdict)
    → verdict st (parent_lines e) ≡ v → line_step s e t ≡ Some st → IsRight test s e t k (concluded st v)
concluded-right test s e t k st binding_fault h st_is = tt
concluded-right test s e t k st rule_fault h st_is = tt
concluded-right test s e t k st (concludes c) h st_is =
    let came = comes-by-rule st (s.form).clauses (kernel_lines e) c (length (names_with e.introduced k)) h in
    λ _. record {
      comes = came.0;
      below = came.1;
      binds =
          λ all.
          step-binds test (line_kind t) e.introduced (items_of t.source) (parents_of e t) (map (λ o. unwrap_or o []) (line_bindings s e t)) st st_is all;
    }

right-rule : (test : Tree → Bool) (s : Setting) (e : Taken) (t : LineTree) (k : LineKind) → IsRight test s e t k (given_by_rule s e t)
right-rule test s e t k =
    either (IsRight test s e t k) (are_bound s e t)
    (unwrap_or (option_map (λ st. concluded st (verdict st (parent_lines e))) (line_step s e t)) (fault rule)) (fault binding)
    (λ _.
    or_fault (IsRight test s e t k) rule (option_map (λ st. concluded st (verdict st (parent_lines e))) (line_step s e t)) tt λ g h.
    option_map-some (λ st. concluded st (verdict st (parent_lines e))) (line_step s e t) g h λ st st_is made.
    subst (IsRight test s e t k) made (concluded-right test s e t k st (verdict st (parent_lines e)) refl st_is))
    tt

pub right-given : (test : Tree → Bool) (s : Setting) (e : Taken) (t : LineTree) (k : LineKind) → NoneFrom e → IsRight test s e t k (given_by s e t k)
right-given test s e t kind.input_kind none = right-file test s e t kind.input_kind t.source
right-given test s e t kind.negate_kind none = right-negate test s e t kind.negate_kind
right-given test s e t kind.clausify_kind none = right-clausify test s e t kind.clausify_kind
right-given test s e t kind.para_kind none = right-rule test s e t kind.para_kind
right-given test s e t kind.refl_kind none = right-rule test s e t kind.refl_kind
right-given test s e t kind.factor_kind none = right-rule test s e t kind.factor_kind
right-given test s e t kind.merge_kind none = right-rule test s e t kind.merge_kind
right-given test s e t (kind.component_kind name) none = right-component test s e t name none
right-given test s e t (kind.opposite_kind name) none = right-opposite test s e t (kind.opposite_kind name) name
right-given test s e t kind.split_kind none = right-rule test s e t kind.split_kind
right-given test s e t kind.chain_kind none = right-rule test s e t kind.chain_kind
right-given test s e t kind.no_rule_kind none = right-rule test s e t kind.no_rule_kind
