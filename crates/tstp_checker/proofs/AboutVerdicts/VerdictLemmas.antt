-- The verdict on a line, by its kind.
use Rattle.std.proofs.Common.{◌≡◌, ◌⊎◌, inl, inr, ℕ, ◌+◌, Bool, true, false, not, ◌&&◌, ◌||◌, ◌==◌, List, [], ◌∷◌, ◌++◌, length, map, Option, refl, ap, ap₂, sym, ◌∙◌, subst, arith}
use Rattle.std.specs.Prelude.{Result, Ok, Err, IfOk, OnErr, IsErrAnd, option_map, unwrap_or, flat_map, bytes_eq, if◌then◌else◌}
use Rattle.std.specs.List.{list_any, list_all, position_or_len}
use Rattle.std.proofs.lemmas.Bool.{true≢false}
use Rattle.std.proofs.lemmas.Cmp.{nat_list_eq_equiv}
use Rattle.fol_base.specs.Literal.{clause_of}
use Rattle.tptp_tree.specs.Term.{TermTree}
use Rattle.tptp_tree.specs.Formula.{FormulaTree}
use Rattle.tptp_source.specs.General.{GeneralTree}
use Rattle.tptp_source.specs.Sources.{SourceTree, file_source, inference_source, component_source, opposite_source}
use Rattle.signature.specs.declared.symbol.Symbol.{Symbol}
use Rattle.signature.specs.Symbol.{predicate_symbol, has_symbol}
use Rattle.kernel_steps.specs.Derivation.{is_component}
use Rattle.kernel_steps.specs.declared.step.Step.{Step}
use Rattle.kernel_steps.specs.declared.step.Line.{Line}
use Rattle.clausal_form.specs.DerivationClause.{is_written_clause, ordinary_literals, symbols_in, Numbering, numbering, term_by, clause_by}
use Rattle.clausal_form.specs.DerivationItems.{bindings_in}
use Rattle.clausal_form.specs.DerivationSteps.{LineKind, rule_kind, kind_of, bindings_count}
use Rattle.clausal_form.specs.DerivationLine.{LineTree, Taken, names_with}
use Rattle.clausal_form.specs.DerivationParts.{Setting, line_kind, items_of, bound_terms, line_names}
use Rattle.clausal_form.specs.DerivationCauses.{text, given_by, given_by_rule, is_formula_kind, is_old_name, LineVerdict, refused, compared, line_verdict}
use Rattle.tstp_lines.specs.declared.parts.LineParts.{LineParts}
use Rattle.tstp_lines.specs.declared.numbers.LineNumbers.{LineNumbers}
use Rattle.tstp_lines.specs.declared.steps.Kind.{Kind}
use Rattle.tstp_checker.specs.declared.refusal.Refusal.{Refusal}
use Rattle.tstp_checker.specs.declared.refusal.Refusal.TheVariants.{Cause, NoMemory}
use Rattle.tstp_lines.specs.Bindings.{all_bound}
use Rattle.tstp_checker.specs.ClauseLines.{is_component_kind}
use Rattle.tstp_lines.specs.Parts.{parts_numbering}
use Rattle.tstp_lines.specs.Sources.{bound_items}
use Rattle.tstp_lines.specs.Steps.{kind_meant}
use Rattle.tstp_lines.specs.Tables.{with_name, place_of_name}
use Rattle.tstp_checker.specs.Taken.{IsNext, introduced_by}
use Rattle.tstp_checker.specs.Verdicts.{IsVerdict, IfAnswered, with_names_asked, AreParents, ArePartsOf, IsComponentLine}
use Rattle.tstp_lines.proofs.AboutReadings.TableLemmas.{last-place}
use Rattle.tstp_checker.proofs.AboutVerdicts.ClauseLineLemmas.{clause-asked, verdict-as}
use Rattle.list_lemmas.proofs.Tests.{position-past}
use Rattle.kernel_steps.specs.declared.step.Step.TheVariants as step
use Rattle.clausal_form.specs.DerivationSteps as kind
use Rattle.tstp_lines.specs.declared.steps.Kind.TheVariants as told

-- ---- answers

pub if-answered : {X : Type 0} (P : Type 0) (r : Result X Refusal) → P → IfAnswered r P
if-answered P (Ok x) p = p
if-answered P (Err (Cause cause)) p = p
if-answered P (Err NoMemory) p = tt

-- a refusal that is passed on
pub passed : (v : LineVerdict) (q : Result Line Refusal) (r : Refusal) → IsErrAnd q (λ h. h ≡ r) → IsVerdict v (Err r) → IsVerdict v q
passed v (Ok line) r e h = absurd e
passed v (Err x) r e h = subst (λ y. IsVerdict v (Err y)) (sym e) h

pub named-by :
    {E : Type 0} (r : Result Line E) (new old : List (List ℕ)) (j k : LineKind)
    → j ≡ k → IfOk r (λ _. new ≡ names_with old j) → IfOk r (λ _. new ≡ names_with old k)
named-by (Ok line) new old j k e h = h ∙ ap (names_with old) e
named-by (Err fault) new old j k e h = tt

-- the same symbols and variables are the same numbers
pub same-numbers : (n m : LineNumbers) → m.symbols ≡ n.symbols → m.variables ≡ n.variables → m ≡ n
same-numbers n m symbols variables = λ i. record { symbols = symbols i; variables = variables i }

-- ---- kinds

-- the rules with parents, and what is no rule
pub given-rest :
    (s : Setting) (e : Taken) (t : LineTree) (k : Kind)
    → is_formula_kind (kind_meant k) ≡ false → is_component_kind (kind_meant k) ≡ false
    → (k ≡ told.Clausify → ⊥) → ((name : _) → k ≡ told.Opposite name → ⊥)
    → given_by s e t (kind_meant k) ≡ given_by_rule s e t
given-rest s e t told.Input f c no_clausify no_opposite = absurd (true≢false f)
given-rest s e t told.Negate f c no_clausify no_opposite = absurd (true≢false f)
given-rest s e t told.Clausify f c no_clausify no_opposite = absurd (no_clausify refl)
given-rest s e t told.Para f c no_clausify no_opposite = refl
given-rest s e t told.Refl f c no_clausify no_opposite = refl
given-rest s e t told.Factor f c no_clausify no_opposite = refl
given-rest s e t told.Merge f c no_clausify no_opposite = refl
given-rest s e t (told.Component name) f c no_clausify no_opposite = absurd (true≢false c)
given-rest s e t (told.Opposite name) f c no_clausify no_opposite = absurd (no_opposite name refl)
given-rest s e t told.Split f c no_clausify no_opposite = refl
given-rest s e t told.Chain f c no_clausify no_opposite = refl
given-rest s e t told.NoRule f c no_clausify no_opposite = refl

pub formula-kind : (k : Kind) → (k ≡ told.Input) ⊎ (k ≡ told.Negate) → is_formula_kind (kind_meant k) ≡ true
formula-kind k (inl h) = ap (λ j. is_formula_kind (kind_meant j)) h
formula-kind k (inr h) = ap (λ j. is_formula_kind (kind_meant j)) h

pub formula-unnamed : (k : Kind) → (k ≡ told.Input) ⊎ (k ≡ told.Negate) → is_component_kind (kind_meant k) ≡ false
formula-unnamed k (inl h) = ap (λ j. is_component_kind (kind_meant j)) h
formula-unnamed k (inr h) = ap (λ j. is_component_kind (kind_meant j)) h

pub clause-kind : (k : Kind) → (k ≡ told.Input → ⊥) → (k ≡ told.Negate → ⊥) → is_formula_kind (kind_meant k) ≡ false
clause-kind told.Input no_input no_negate = absurd (no_input refl)
clause-kind told.Negate no_input no_negate = absurd (no_negate refl)
clause-kind told.Clausify no_input no_negate = refl
clause-kind told.Para no_input no_negate = refl
clause-kind told.Refl no_input no_negate = refl
clause-kind told.Factor no_input no_negate = refl
clause-kind told.Merge no_input no_negate = refl
clause-kind (told.Component name) no_input no_negate = refl
clause-kind (told.Opposite name) no_input no_negate = refl
clause-kind told.Split no_input no_negate = refl
clause-kind told.Chain no_input no_negate = refl
clause-kind told.NoRule no_input no_negate = refl

pub clause-unnamed : (k : Kind) → ((name : _) → k ≡ told.Component name → ⊥) → is_component_kind (kind_meant k) ≡ false
clause-unnamed told.Input no_name = refl
clause-unnamed told.Negate no_name = refl
clause-unnamed told.Clausify no_name = refl
clause-unnamed told.Para no_name = refl
clause-unnamed told.Refl no_name = refl
clause-unnamed told.Factor no_name = refl
clause-unnamed told.Merge no_name = refl
clause-unnamed (told.Component name) no_name = absurd (no_name name refl)
clause-unnamed (told.Opposite name) no_name = refl
clause-unnamed told.Split no_name = refl
clause-unnamed told.Chain no_name = refl
clause-unnamed told.NoRule no_name = refl

-- only component lines introduce a name
pub names-same : (names : List (List ℕ)) (k : LineKind) → is_component_kind k ≡ false → names_with names k ≡ names
names-same names kind.input_kind h = refl
names-same names kind.negate_kind h = refl
names-same names kind.clausify_kind h = refl
names-same names kind.para_kind h = refl
names-same names kind.refl_kind h = refl
names-same names kind.factor_kind h = refl
names-same names kind.merge_kind h = refl
names-same names (kind.component_kind name) h = absurd (true≢false h)
names-same names (kind.opposite_kind name) h = refl
names-same names kind.split_kind h = refl
names-same names kind.chain_kind h = refl
names-same names kind.no_rule_kind h = refl

pub no-old-name : (s : Setting) (e : Taken) (k : LineKind) → is_component_kind k ≡ false → is_old_name s e k ≡ false
no-old-name s e kind.input_kind h = refl
no-old-name s e kind.negate_kind h = refl
no-old-name s e kind.clausify_kind h = refl
no-old-name s e kind.para_kind h = refl
no-old-name s e kind.refl_kind h = refl
no-old-name s e kind.factor_kind h = refl
no-old-name s e kind.merge_kind h = refl
no-old-name s e (kind.component_kind name) h = absurd (true≢false h)
no-old-name s e (kind.opposite_kind name) h = refl
no-old-name s e kind.split_kind h = refl
no-old-name s e kind.chain_kind h = refl
no-old-name s e kind.no_rule_kind h = refl

pub next-same : (n : ℕ) (st : Step) → is_component st ≡ false → IsNext n st
next-same n (step.Input a) h = tt
next-same n (step.Negate a) h = tt
next-same n (step.Clausify a) h = tt
next-same n (step.Para a b d f g i j k m) h = tt
next-same n (step.Refl a b d) h = tt
next-same n (step.Factor a b d f g i) h = tt
next-same n (step.Merge a b d f) h = tt
next-same n (step.Component a) h = absurd (true≢false h)
next-same n (step.Opposite a) h = tt
next-same n (step.Split a b d) h = tt
next-same n (step.Chain a b) h = tt

introduced-none : (st : Step) → is_component st ≡ false → introduced_by st ≡ 0
introduced-none (step.Input a) h = refl
introduced-none (step.Negate a) h = refl
introduced-none (step.Clausify a) h = refl
introduced-none (step.Para a b d f g i j k m) h = refl
introduced-none (step.Refl a b d) h = refl
introduced-none (step.Factor a b d f g i) h = refl
introduced-none (step.Merge a b d f) h = refl
introduced-none (step.Component a) h = absurd (true≢false h)
introduced-none (step.Opposite a) h = refl
introduced-none (step.Split a b d) h = refl
introduced-none (step.Chain a b) h = refl

-- a step that is no component step
pub all-next : {E : Type 0} (n : ℕ) (r : Result Line E) → IfOk r (λ line. is_component line.step ≡ false) → IfOk r (λ line. IsNext n line.step)
all-next n (Ok line) h = next-same n line.step h
all-next n (Err fault) h = tt

pub all-counted :
    {E : Type 0} (n m : ℕ) (r : Result Line E) → m ≡ n → IfOk r (λ line. is_component line.step ≡ false) → IfOk r (λ line. m ≡ n + introduced_by line.step)
all-counted n m (Ok line) e h = omega (arith, e, introduced-none line.step h)
all-counted n m (Err fault) e h = tt

pub ok-so : {X E : Type 0} (P : Type 0) (r : Result X E) → P → IfOk r (λ _. P)
ok-so P (Ok x) p = p
ok-so P (Err fault) p = tt

pub err-so : {X : Type 0} (P : Type 0) (r : Result X Refusal) → P → OnErr r (IfAnswered r P)
err-so P (Ok x) p = tt
err-so P (Err (Cause cause)) p = p
err-so P (Err NoMemory) p = tt

-- a component step introduces the next name
pub component-next :
    {E : Type 0} (n : ℕ) (r : Result Line E) → IfOk r (λ line. line.step ≡ step.Component n) → IfOk r (λ line. IsNext n line.step)
component-next n (Ok line) h = subst (IsNext n) (sym h) refl
component-next n (Err fault) h = tt

pub component-counted :
    {E : Type 0} (n m k : ℕ) (r : Result Line E)
    → IfOk r (λ line. line.step ≡ step.Component k) → IfOk r (λ line. m ≡ n + 1) → IfOk r (λ line. m ≡ n + introduced_by line.step)
component-counted n m k (Ok line) h e = e ∙ ap (λ st. n + introduced_by st) (sym h)
component-counted n m k (Err fault) h e = tt

-- ---- sources

no-component : (r : GeneralTree) → is_component_kind (rule_kind r) ≡ false
no-component r = by _ _ _ _ _ _ _ _
  where
    by :
        (a b c d f g h i : Bool)
        → is_component_kind
        (if a then kind.negate_kind else if b then kind.clausify_kind else if c then kind.para_kind else if d then kind.refl_kind
        else if f then kind.factor_kind else if g then kind.merge_kind else if h then kind.split_kind else if i then kind.chain_kind else kind.no_rule_kind)
        ≡ false
    by true b c d f g h i = refl
    by false true c d f g h i = refl
    by false false true d f g h i = refl
    by false false false true f g h i = refl
    by false false false false true g h i = refl
    by false false false false false true h i = refl
    by false false false false false false true i = refl
    by false false false false false false false true = refl
    by false false false false false false false false = refl

abbrev name_in : LineKind → List ℕ
name_in (kind.component_kind name) = name
name_in k = []

pub component-source : (source : SourceTree) (name : List ℕ) → kind.component_kind name ≡ kind_of source → source ≡ component_source name
component-source (file_source file m) name h = absurd (true≢false (ap is_component_kind h))
component-source (inference_source r items parents) name h = absurd (true≢false (ap is_component_kind h ∙ no-component r))
component-source (component_source m) name h = ap component_source (sym (ap name_in h))
component-source (opposite_source m) name h = absurd (true≢false (ap is_component_kind h))

-- ---- the parts of a line

items-bound : (k : LineKind) (source : SourceTree) → bindings_in (bound_items k source) ≡ (if bindings_count k == 0 then [] else bindings_in (items_of source))
items-bound k source = by (bindings_count k == 0)
  where
    by : (b : Bool) → bindings_in (if b then [] else items_of source) ≡ (if b then [] else bindings_in (items_of source))
    by true = refl
    by false = refl

pub bound-read :
    (t : LineTree) (k : LineKind) (items : List GeneralTree)
    → line_kind t ≡ k → items ≡ bound_items k t.source → bindings_in items ≡ bound_terms t
bound-read t k items same e =
    ap bindings_in e ∙ items-bound k t.source ∙ ap (λ j. if bindings_count j == 0 then [] else bindings_in (items_of t.source)) (sym same)

abbrev numbering_for : List Symbol → List (List ℕ) → FormulaTree → List (Option (List TermTree)) → Numbering
numbering_for symbols names f bound = numbering symbols (ordinary_literals names f) (flat_map (λ o. unwrap_or o []) bound)

abbrev new_in : List Symbol → List (List ℕ) → FormulaTree → List (Option (List TermTree)) → Bool
new_in symbols names f bound = not (list_all (λ x. has_symbol x symbols) (symbols_in (ordinary_literals names f) (flat_map (λ o. unwrap_or o []) bound)))

-- what is read of a line are its parts
pub parts-read :
    (s : Setting) (e : Taken) (t : LineTree) (symbols : List Symbol) (names : List (List ℕ)) (items : List GeneralTree) (parts : LineParts)
    → symbols ≡ (s.form).symbols → names ≡ line_names e t → bindings_in items ≡ bound_terms t
    → clause_of parts.clause ≡ clause_by (parts_numbering symbols names (t.entry).formula items) names (t.entry).formula
    → parts.bindings ≡ map (option_map (map (term_by (parts_numbering symbols names (t.entry).formula items)))) (bindings_in items)
    → parts.has_new_symbol ≡ not (list_all (λ x. has_symbol x symbols) (symbols_in (ordinary_literals names (t.entry).formula) (all_bound items)))
    → ArePartsOf s e t parts
parts-read s e t symbols names items parts known named bound clause bindings new = record {
  clause =
      clause ∙ ap (λ ss. clause_by (numbering_for ss names f (bindings_in items)) names f) known
      ∙ ap (λ ns. clause_by (numbering_for (s.form).symbols ns f (bindings_in items)) ns f) named
      ∙ ap (λ bs. clause_by (numbering_for (s.form).symbols (line_names e t) f bs) (line_names e t) f) bound;
  bindings =
      bindings ∙ ap (λ ss. map (option_map (map (term_by (numbering_for ss names f (bindings_in items))))) (bindings_in items)) known
      ∙ ap (λ ns. map (option_map (map (term_by (numbering_for (s.form).symbols ns f (bindings_in items))))) (bindings_in items)) named
      ∙ ap (λ bs. map (option_map (map (term_by (numbering_for (s.form).symbols (line_names e t) f bs)))) bs) bound;
  new_symbol =
      new ∙ ap (λ ss. new_in ss names f (bindings_in items)) known
      ∙ ap (λ ns. new_in (s.form).symbols ns f (bindings_in items)) named
      ∙ ap (λ bs. new_in (s.form).symbols (line_names e t) f bs) bound;
}
  where
    f : FormulaTree
    f = (t.entry).formula

-- ---- lines of clauses

-- it isn't written as a clause is
pub clause-unwritten :
    (s : Setting) (e : Taken) (t : LineTree) (k : LineKind)
    → line_kind t ≡ k → is_formula_kind k ≡ false → is_component_kind k ≡ false
    → false ≡ ((t.entry).is_clause && is_written_clause e.introduced (t.entry).formula) → line_verdict s e t ≡ refused text
clause-unwritten s e t k same no_formula no_name h =
    sym
    (ap (λ b. if not b then refused text else with_names_asked e t (compared s e t (given_by s e t (line_kind t))))
    (h ∙ ap (λ ns. (t.entry).is_clause && is_written_clause ns (t.entry).formula) (sym (names-same e.introduced k no_name) ∙ ap (names_with e.introduced) (sym same)))
    ∙ clause-asked s e t (ap is_formula_kind same ∙ no_formula))

-- it is, and its names are asked
clause-written :
    (s : Setting) (e : Taken) (t : LineTree) (k : LineKind)
    → line_kind t ≡ k → is_formula_kind k ≡ false → is_component_kind k ≡ false
    → true ≡ ((t.entry).is_clause && is_written_clause e.introduced (t.entry).formula)
    → line_verdict s e t ≡ with_names_asked e t (compared s e t (given_by s e t k))
clause-written s e t k same no_formula no_name h =
    sym
    (ap (λ j. with_names_asked e t (compared s e t (given_by s e t j))) (sym same)
    ∙ ap (λ b. if not b then refused text else with_names_asked e t (compared s e t (given_by s e t (line_kind t))))
    (h ∙ ap (λ ns. (t.entry).is_clause && is_written_clause ns (t.entry).formula) (sym (names-same e.introduced k no_name) ∙ ap (names_with e.introduced) (sym same)))
    ∙ clause-asked s e t (ap is_formula_kind same ∙ no_formula))

pub clause-parents-refused :
    (s : Setting) (e : Taken) (t : LineTree) (k : LineKind) (r : Refusal)
    → line_kind t ≡ k → is_formula_kind k ≡ false → is_component_kind k ≡ false
    → true ≡ ((t.entry).is_clause && is_written_clause e.introduced (t.entry).formula)
    → AreParents e t (Err r) → IsVerdict (line_verdict s e t) (Err r)
clause-parents-refused s e t k (Cause cause) same no_formula no_name h parents =
    clause-written s e t k same no_formula no_name h ∙ parents (compared s e t (given_by s e t k))
clause-parents-refused s e t k NoMemory same no_formula no_name h parents = tt

pub clause-judged :
    (s : Setting) (e : Taken) (t : LineTree) (k : LineKind) (places : List ℕ) (r : Result Line Refusal)
    → line_kind t ≡ k → is_formula_kind k ≡ false → is_component_kind k ≡ false
    → true ≡ ((t.entry).is_clause && is_written_clause e.introduced (t.entry).formula)
    → AreParents e t (Ok places) → IsVerdict (compared s e t (given_by s e t k)) r → IsVerdict (line_verdict s e t) r
clause-judged s e t k places r same no_formula no_name h parents v =
    verdict-as _ _ r (clause-written s e t k same no_formula no_name h ∙ parents.0 (compared s e t (given_by s e t k))) v

-- ---- the name of a component line

pub place-before : (names : List (List ℕ)) (name : List ℕ) → position_or_len (bytes_eq name) (with_name names name) ≡ position_or_len (bytes_eq name) names
place-before names name = by (list_any (bytes_eq name) names) refl
  where
    by :
        (b : Bool) → list_any (bytes_eq name) names ≡ b
        → position_or_len (bytes_eq name) (if b then names else names ++ name ∷ []) ≡ position_or_len (bytes_eq name) names
    by true h = refl
    by false h = last-place (bytes_eq name) name names (nat_list_eq_equiv.refl name) h ∙ sym (position-past (bytes_eq name) names h)

pub old-so :
    (s : Setting) (e : Taken) (name : List ℕ) (found predicate : Bool)
    → found ≡ list_any (bytes_eq name) e.introduced → predicate ≡ has_symbol (predicate_symbol name 0) (s.form).symbols
    → is_old_name s e (kind.component_kind name) ≡ (found || predicate)
old-so s e name found predicate f p = ap₂ ◌||◌ (sym p) (sym f) ∙ either predicate found
  where
    either : (a b : Bool) → (a || b) ≡ (b || a)
    either true true = refl
    either true false = refl
    either false true = refl
    either false false = refl

-- where the line is taken its name was new
pub new-number :
    (names : List (List ℕ)) (name : List ℕ) (number : ℕ)
    → list_any (bytes_eq name) names ≡ false → number ≡ place_of_name (with_name names name) name → number ≡ length names
new-number names name number h e = e ∙ place-before names name ∙ position-past (bytes_eq name) names h

pub fresh-name :
    (names : List (List ℕ)) (name : List ℕ) (is_new is_old predicate : Bool)
    → not is_new ≡ list_any (bytes_eq name) names → is_old ≡ (not is_new || predicate) → is_old ≡ false → list_any (bytes_eq name) names ≡ false
fresh-name names name is_new is_old predicate new old none = sym new ∙ left-false (not is_new) predicate (sym old ∙ none)
  where
    left-false : (a b : Bool) → (a || b) ≡ false → a ≡ false
    left-false true b h = absurd (true≢false h)
    left-false false b h = refl

-- a component line, when its name is in the table
pub component-line :
    (s : Setting) (e now : Taken) (t : LineTree) (name : List ℕ) (number : ℕ) (is_new is_old : Bool)
    → t.source ≡ component_source name → e.lines ≡ now.lines → now.introduced ≡ with_name e.introduced name
    → number ≡ place_of_name now.introduced name → not is_new ≡ list_any (bytes_eq name) e.introduced
    → is_old ≡ (not is_new || has_symbol (predicate_symbol name 0) (s.form).symbols) → IsComponentLine s e now t number is_old
component-line s e now t name number is_new is_old source lines introduced place new old = record {
  name = name;
  source = source;
  lines = lines;
  introduced = sym introduced;
  its_number = sym (place ∙ ap (position_or_len (bytes_eq name)) introduced ∙ place-before e.introduced name);
  old = old-so s e name (not is_new) (has_symbol (predicate_symbol name 0) (s.form).symbols) new refl ∙ sym old;
}

-- its step, where it is taken
pub component-step :
    (names now : List (List ℕ)) (name : List ℕ) (number : ℕ) (st : Step)
    → list_any (bytes_eq name) names ≡ false → now ≡ with_name names name → number ≡ place_of_name now name
    → st ≡ step.Component number → st ≡ step.Component (length names)
component-step names now name number st fresh added place is =
    is ∙ ap step.Component (new-number names name number fresh (place ∙ ap (λ ns. place_of_name ns name) added))
