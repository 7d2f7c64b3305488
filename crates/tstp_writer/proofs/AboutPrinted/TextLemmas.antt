-- Printed names, clauses and sources, put together from their parts.
use Rattle.std.proofs.Common.{Result, IfOk, Option, None, Some, ◌≡◌, ℕ, ◌+◌, ◌<◌, Bool, true, false, ◌==◌, List, [], ◌∷◌, ◌++◌, map, length, drop, get_or, codes, refl, ap, ap₂, sym, ◌∙◌, append_assoc, append-nil}
use Rattle.std.specs.Prelude.{filter_map, slice_get, if◌then◌else◌}
use Rattle.std.specs.List.{cons_option, AllByRecursion}
use Rattle.plain_types.specs.declared.sequence.NameLit.{NameLit}
use Rattle.fol_base.specs.Tree.{Tree, variable, application, tree_eq, true_tree}
use Rattle.fol_base.specs.Clause.{TreeLiteral}
use Rattle.kernel_steps.specs.Derivation.{introduces_name}
use Rattle.kernel_steps.specs.declared.step.Step.{Step}
use Rattle.kernel_steps.specs.declared.step.Step.TheVariants.{Input, Negate, Clausify, Para, Refl, Factor, Merge, Component, Opposite, Split, Chain}
use Rattle.kernel_steps.specs.Keys.{commas_before, with_commas}
use Rattle.signature.specs.declared.symbol.Symbol.{Symbol}
use Rattle.tptp_token.specs.Spelling.{is_lower_word}
use Rattle.tptp_token.specs.Words.{name_text}
use Rattle.tptp_tree.specs.Formula.{FormulaTree, truth, predicate, equation, formulas_of, with_sign}
use Rattle.tptp_tree.specs.Term.{TermTree, variable as named_variable, application as named_application, TermTrees, no_terms, term_then}
use Rattle.tptp_tree.specs.Printing.{term_text, arguments_text, more_arguments_text, is_joined, in_parentheses, formula_text, more_operands_text}
use Rattle.tptp_source.specs.General.{GeneralTree, trees_of}
use Rattle.tptp_source.specs.Sources.{inference_source, component_source, opposite_source, word_of as word_term, list_of as list_term}
use Rattle.tstp_writer.specs.SourceTexts.{general_text, arguments_text as general_arguments, items_text, more_text, name_term, source_text}
use Rattle.tstp_writer.specs.ClauseTrees.{symbol_name, term_tree, term_trees, atom_formula, literal_formula, introduced_name, signed_name_formula, one_of, clause_formula}
use Rattle.tptp_source.specs.Sources.{SourceTree}
use Rattle.tptp_tree.specs.Entries.{AnnotatedTree, language_word, role_word}
use Rattle.clausal_form.specs.DerivationLine.{LineTree}
use Rattle.tstp_writer.specs.LineTexts.{formula_name_text, line_text, lines_text, shown_text, shown_texts}
use Rattle.tstp_writer.specs.LineTrees.{with_source, Script, is_conjecture_at, origin, Layout, place_in, line_name, cited_name, negated_name, derived_name, named, status_item, term_item, term_items, bind_item, pivot_name, pivot_item, rule_word, status_word, step_items, origin_name, parent_names, step_source}
use Rattle.tstp_writer.specs.NameTexts.{signed_name_text, more_names_text, more_items_text, definition_text, introduction_text, inference_text, head_text}
use Rattle.tstp_writer.proofs.AboutPrinted.PieceTexts.{formula-name-same, three_added, two_joined, three_joined, drop-there, drop-next, numbered-lower, bare-text, bare-name, line_name-lower}

-- ---- clauses

pub signed-name :
    (prefix : List ℕ) (n : NameLit) → is_lower_word prefix ≡ true → signed_name_text prefix n ≡ formula_text (signed_name_formula prefix n)
signed-name prefix n h = by n.positive
  where
    name : List ℕ
    name = introduced_name prefix n.name

    same : name ≡ name_text name ++ []
    same = sym (append-nil (name_text name) ∙ bare-text name (numbered-lower prefix n.name h))

    by : (t : Bool) → (if t then [] else codes "~") ++ name ≡ formula_text (with_sign t (predicate name no_terms))
    by true = same
    by false = ap (λ us. 126 ∷ us) same

name-single : (prefix : List ℕ) (n : NameLit) → is_joined (signed_name_formula prefix n) ≡ false
name-single prefix n = by n.positive
  where
    by : (t : Bool) → is_joined (with_sign t (predicate (introduced_name prefix n.name) no_terms)) ≡ false
    by true = refl
    by false = refl

literal-single : (symbols : List Symbol) (l : TreeLiteral) → is_joined (literal_formula symbols l) ≡ false
literal-single symbols l = by (tree_eq l.right true_tree)
  where
    zero_or : (t : Bool) (f : FormulaTree) → is_joined f ≡ false → is_joined (if t then truth else f) ≡ false
    zero_or true f h = refl
    zero_or false f h = h

    atom : (t : Tree) → is_joined (atom_formula symbols t) ≡ false
    atom (variable v) = refl
    atom (application f ts) = zero_or (f == 0) (predicate (symbol_name symbols f) (term_trees symbols ts)) refl

    signed : (t : Bool) → is_joined (with_sign t (atom_formula symbols l.left)) ≡ false
    signed true = atom l.left
    signed false = refl

    by :
        (t : Bool)
        → is_joined (if t then with_sign l.positive (atom_formula symbols l.left) else equation l.positive (term_tree symbols l.left) (term_tree symbols l.right)) ≡ false
    by true = signed l.positive
    by false = refl

one_of-text :
    (f : FormulaTree) (fs : List FormulaTree) → is_joined f ≡ false
    → formula_text (one_of (f ∷ fs)) ≡ formula_text f ++ more_operands_text (codes " | ") (formulas_of fs)
one_of-text f [] h = sym (append-nil (formula_text f))
one_of-text f (g ∷ fs) h =
    ap (λ t. in_parentheses t (formula_text f) ++ more_operands_text (codes " | ") (formulas_of (g ∷ fs))) h

operands-append :
    (sign : List ℕ) (fs gs : List FormulaTree)
    → more_operands_text sign (formulas_of (fs ++ gs)) ≡ more_operands_text sign (formulas_of fs) ++ more_operands_text sign (formulas_of gs)
operands-append sign [] gs = refl
operands-append sign (f ∷ fs) gs =
    ap (λ us. sign ++ in_parentheses (is_joined f) (formula_text f) ++ us) (operands-append sign fs gs)
    ∙ sym (append_assoc (sign ++ in_parentheses (is_joined f) (formula_text f)) (more_operands_text sign (formulas_of fs)) (more_operands_text sign (formulas_of gs)))

names-operands :
    (prefix : List ℕ) (ns : List NameLit) → is_lower_word prefix ≡ true
    → more_operands_text (codes " | ") (formulas_of (map (signed_name_formula prefix) ns)) ≡ more_names_text prefix ns
names-operands prefix [] h = refl
names-operands prefix (n ∷ ns) h =
    ap (λ t. codes " | " ++ in_parentheses t (formula_text (signed_name_formula prefix n)) ++ more_operands_text (codes " | ") (formulas_of (map (signed_name_formula prefix) ns)))
    (name-single prefix n)
    ∙ ap₂ (λ us vs. codes " | " ++ us ++ vs) (sym (signed-name prefix n h)) (names-operands prefix ns h)

-- a text goes on with the next literal
pub next_literal :
    (symbols : List Symbol) (ls : List TreeLiteral) (i : ℕ) (l : TreeLiteral) (old sign new whole : List ℕ)
    → slice_get ls i ≡ Some l → sign ≡ old ++ codes " | " → new ≡ sign ++ formula_text (literal_formula symbols l)
    → old ++ more_operands_text (codes " | ") (formulas_of (map (literal_formula symbols) (drop i ls))) ≡ whole
    → new ++ more_operands_text (codes " | ") (formulas_of (map (literal_formula symbols) (drop (i + 1) ls))) ≡ whole
next_literal symbols ls i l old sign new whole at first second h =
    ap (λ us. us ++ rest) (two_joined old sign new (codes " | ") text first second)
    ∙ append_assoc old (codes " | " ++ text) rest
    ∙ ap (λ us. old ++ us) (sym (ap (λ t. codes " | " ++ in_parentheses t text ++ rest) (literal-single symbols l)))
    ∙ ap (λ ks. old ++ more_operands_text (codes " | ") (formulas_of (map (literal_formula symbols) ks))) (sym (drop-there ls i l at))
    ∙ h
  where
    text : List ℕ
    text = formula_text (literal_formula symbols l)

    rest : List ℕ
    rest = more_operands_text (codes " | ") (formulas_of (map (literal_formula symbols) (drop (i + 1) ls)))

-- literals first
pub clause_of_parts :
    (symbols : List Symbol) (prefix : List ℕ) (l : TreeLiteral) (ls : List TreeLiteral) (ns : List NameLit) → is_lower_word prefix ≡ true
    → formula_text (literal_formula symbols l) ++ more_operands_text (codes " | ") (formulas_of (map (literal_formula symbols) ls)) ++ more_names_text prefix ns
    ≡ formula_text (clause_formula symbols prefix (record { literals = l ∷ ls; names = ns }))
clause_of_parts symbols prefix l ls ns h =
    ap (λ us. formula_text (literal_formula symbols l) ++ more_operands_text (codes " | ") (formulas_of (map (literal_formula symbols) ls)) ++ us)
    (sym (names-operands prefix ns h))
    ∙ append_assoc (formula_text (literal_formula symbols l)) (more_operands_text (codes " | ") (formulas_of (map (literal_formula symbols) ls)))
    (more_operands_text (codes " | ") (formulas_of (map (signed_name_formula prefix) ns)))
    ∙ ap (λ us. formula_text (literal_formula symbols l) ++ us)
    (sym (operands-append (codes " | ") (map (literal_formula symbols) ls) (map (signed_name_formula prefix) ns)))
    ∙ sym (one_of-text (literal_formula symbols l) (map (literal_formula symbols) ls ++ map (signed_name_formula prefix) ns) (literal-single symbols l))

-- names alone
pub names_of_parts :
    (prefix : List ℕ) (n : NameLit) (ns : List NameLit) → is_lower_word prefix ≡ true
    → signed_name_text prefix n ++ more_names_text prefix ns ≡ formula_text (one_of (map (signed_name_formula prefix) (n ∷ ns)))
names_of_parts prefix n ns h =
    ap₂ (λ us vs. us ++ vs) (signed-name prefix n h) (sym (names-operands prefix ns h))
    ∙ sym (one_of-text (signed_name_formula prefix n) (map (signed_name_formula prefix) ns) (name-single prefix n))

-- ---- lists of terms

more-commas : (close : List ℕ) (ts : List GeneralTree) → more_text close (trees_of ts) ≡ commas_before (map general_text ts) ++ close
more-commas close [] = refl
more-commas close (t ∷ ts) =
    ap (λ us. codes "," ++ general_text t ++ us) (more-commas close ts)
    ∙ sym (append_assoc (codes "," ++ general_text t) (commas_before (map general_text ts)) close)

items-commas : (ts : List GeneralTree) → items_text (trees_of ts) ≡ with_commas (map general_text ts) ++ codes "]"
items-commas [] = refl
items-commas (t ∷ ts) =
    ap (λ us. general_text t ++ us) (more-commas (codes "]") ts)
    ∙ sym (append_assoc (general_text t) (commas_before (map general_text ts)) (codes "]"))

-- the texts of terms that are made from values
each-text : {X : Type 0} (make : X → GeneralTree) (text : X → List ℕ) → ((x : X) → general_text (make x) ≡ text x) → (xs : List X) → map general_text (map make xs) ≡ map text xs
each-text make text h [] = refl
each-text make text h (x ∷ xs) = ap₂ (λ u us. u ∷ us) (h x) (each-text make text h xs)

mutual
  term-text : (t : TermTree) → general_text (term_item t) ≡ term_text t
  term-text (named_variable x) = refl
  term-text (named_application f ts) = ap (λ us. name_text f ++ us) (arguments-text ts)

  arguments-text : (ts : TermTrees) → general_arguments (term_items ts) ≡ arguments_text ts
  arguments-text no_terms = refl
  arguments-text (term_then t ts) = ap₂ (λ us vs. codes "(" ++ us ++ vs) (term-text t) (more-text ts)

  more-text : (ts : TermTrees) → more_text (codes ")") (term_items ts) ≡ more_arguments_text ts
  more-text no_terms = refl
  more-text (term_then t ts) = ap₂ (λ us vs. codes "," ++ us ++ vs) (term-text t) (more-text ts)

pub bind-text :
    (symbols : List Symbol) (ts : List Tree)
    → codes ",bind([" ++ with_commas (map (λ t. term_text (term_tree symbols t)) ts) ++ codes "])" ≡ codes "," ++ general_text (bind_item symbols ts)
bind-text symbols ts =
    let terms : List (List ℕ) = map (λ t. term_text (term_tree symbols t)) ts in
    ap (λ us. codes ",bind([" ++ us) (sym (append_assoc (with_commas terms) (codes "]") (codes ")")))
    ∙ ap (λ us. codes ",bind([" ++ (us ++ codes ")"))
    (sym (items-commas (map (λ t. term_item (term_tree symbols t)) ts
    ) ∙ ap (λ vs. with_commas vs ++ codes "]") (each-text (λ t. term_item (term_tree symbols t)) (λ t. term_text (term_tree symbols t)) (λ t. term-text (term_tree symbols t)) ts)))

pivot-text : (prefix : List ℕ) → is_lower_word prefix ≡ true → (n : NameLit) → general_text (pivot_item prefix n) ≡ signed_name_text prefix n
pivot-text prefix h n = by n.positive
  where
    name : List ℕ
    name = introduced_name prefix n.name

    bare : name_text name ≡ name
    bare = bare-text name (numbered-lower prefix n.name h)

    by : (t : Bool) → general_text (pivot_name t name) ≡ (if t then [] else codes "~") ++ name
    by true = append-nil (name_text name) ∙ bare
    by false = ap (λ us. 126 ∷ us) bare

pub pivots-text :
    (prefix : List ℕ) (ns : List NameLit) → is_lower_word prefix ≡ true
    → items_text (trees_of (map (pivot_item prefix) ns)) ≡ with_commas (map (signed_name_text prefix) ns) ++ codes "]"
pivots-text prefix ns h =
    items-commas (map (pivot_item prefix) ns)
    ∙ ap (λ vs. with_commas vs ++ codes "]") (each-text (pivot_item prefix) (signed_name_text prefix) (pivot-text prefix h) ns)

pub pivots_of_parts :
    (prefix : List ℕ) (ns : List NameLit) → is_lower_word prefix ≡ true
    → codes ",pivots([" ++ with_commas (map (signed_name_text prefix) ns) ++ codes "])"
    ≡ codes "," ++ general_text (word_term (codes "pivots") (list_term (map (pivot_item prefix) ns) ∷ []))
pivots_of_parts prefix ns h =
    let names : List (List ℕ) = map (signed_name_text prefix) ns in
    ap (λ us. codes ",pivots([" ++ us) (sym (append_assoc (with_commas names) (codes "]") (codes ")")))
    ∙ ap (λ us. codes ",pivots([" ++ (us ++ codes ")")) (sym (pivots-text prefix ns h))

-- ---- sources

abbrev pub AllLower : List (List ℕ) → Type 0
AllLower names = AllByRecursion (λ w. is_lower_word w ≡ true) names

parents-text : (names : List (List ℕ)) → AllLower names → items_text (trees_of (map name_term names)) ≡ with_commas names ++ codes "]"
parents-text names h = items-commas (map name_term names) ∙ ap (λ vs. with_commas vs ++ codes "]") (all-bare names h)
  where
    all-bare : (ns : List (List ℕ)) → AllLower ns → map general_text (map name_term ns) ≡ ns
    all-bare [] g = refl
    all-bare (n ∷ ns) g = ap₂ (λ u us. u ∷ us) (bare-name n g.0) (all-bare ns g.1)

pub definition-component : (name : List ℕ) → is_lower_word name ≡ true → definition_text (codes "component") name ≡ source_text (component_source name)
definition-component name h =
    ap (λ us. codes "introduced(definition,[component(" ++ us)
    (sym (ap (λ us. us ++ codes ")" ++ codes "]" ++ codes ")") (bare-name name h)
    ∙ append_assoc (name ++ codes ")") (codes "]") (codes ")") ∙ append_assoc name (codes ")") (codes "])")))

pub definition-opposite : (name : List ℕ) → is_lower_word name ≡ true → definition_text (codes "opposite") name ≡ source_text (opposite_source name)
definition-opposite name h =
    ap (λ us. codes "introduced(definition,[opposite(" ++ us)
    (sym (ap (λ us. us ++ codes ")" ++ codes "]" ++ codes ")") (bare-name name h)
    ∙ append_assoc (name ++ codes ")") (codes "]") (codes ")") ∙ append_assoc name (codes ")") (codes "])")))

inference-flat :
    (rule status items parents : List ℕ)
    → codes "inference(" ++ rule ++ codes ",[status(" ++ status ++ codes ")" ++ items ++ codes "],[" ++ parents ++ codes "])"
    ≡ codes "inference(" ++ (rule ++ (codes ",[status(" ++ (status ++ (41 ∷ (items ++ (93 ∷ 44 ∷ 91 ∷ (parents ++ codes "])")))))))
inference-flat rule status items parents =
    append_assoc (codes "inference(" ++ rule ++ codes ",[status(" ++ status ++ codes ")" ++ items ++ codes "],[") parents (codes "])")
    ∙ append_assoc (codes "inference(" ++ rule ++ codes ",[status(" ++ status ++ codes ")" ++ items) (codes "],[") (parents ++ codes "])")
    ∙ append_assoc (codes "inference(" ++ rule ++ codes ",[status(" ++ status ++ codes ")") items (codes "],[" ++ (parents ++ codes "])"))
    ∙ append_assoc (codes "inference(" ++ rule ++ codes ",[status(" ++ status) (codes ")") (items ++ (codes "],[" ++ (parents ++ codes "])")))
    ∙ append_assoc (codes "inference(" ++ rule ++ codes ",[status(") status (41 ∷ (items ++ (codes "],[" ++ (parents ++ codes "])"))))
    ∙ append_assoc (codes "inference(" ++ rule) (codes ",[status(") (status ++ (41 ∷ (items ++ (codes "],[" ++ (parents ++ codes "])")))))
    ∙ append_assoc (codes "inference(") rule (codes ",[status(" ++ (status ++ (41 ∷ (items ++ (codes "],[" ++ (parents ++ codes "])"))))))

pub inference-text :
    (rule status : List ℕ) (items : List GeneralTree) (parents : List (List ℕ))
    → is_lower_word rule ≡ true → is_lower_word status ≡ true → AllLower parents
    → inference_text rule status items parents ≡ source_text (inference_source (named rule) (status_item status ∷ items) parents)
inference-text rule status items parents h k p =
    let more : List ℕ = more_items_text items in
    let names : List ℕ = with_commas parents in
    let rest : List ℕ = 44 ∷ 91 ∷ (items_text (trees_of (map name_term parents)) ++ codes ")") in
    inference-flat rule status more names
    ∙ sym (
    ap₂ (λ us vs. codes "inference(" ++ (us ++ (codes ",[status(" ++ (vs ++ codes ")" ++ more_text (codes "]") (trees_of items) ++ rest))))
    (append-nil (name_text rule) ∙ bare-text rule h) (append-nil (name_text status) ∙ bare-text status k)
    ∙ ap (λ us. codes "inference(" ++ (rule ++ (codes ",[status(" ++ us)))
    (append_assoc (status ++ codes ")") (more_text (codes "]") (trees_of items)) rest
    ∙ append_assoc status (codes ")") (more_text (codes "]") (trees_of items) ++ rest)
    ∙ ap (λ us. status ++ (41 ∷ us))
    (ap (λ us. us ++ rest) (more-commas (codes "]") items)
    ∙ append_assoc more (codes "]") rest
    ∙ ap (λ us. more ++ (93 ∷ 44 ∷ 91 ∷ us)) (ap (λ us. us ++ codes ")") (parents-text parents p) ∙ append_assoc names (codes "]") (codes ")"))))
    )

pub line_names-lower : (f : ℕ → ℕ) (ns : List ℕ) → AllLower (map (λ n. line_name (f n)) ns)
line_names-lower f [] = tt
line_names-lower f (n ∷ ns) = (line_name-lower (f n), line_names-lower f ns)

origin_name-lower : (script : Script) (layout : Layout) (place : ℕ) → is_lower_word (origin_name script layout place) ≡ true
origin_name-lower script layout place = by (is_conjecture_at script place)
  where
    by : (t : Bool) → is_lower_word (if t then negated_name layout place else cited_name layout place) ≡ true
    by true = line_name-lower _
    by false = line_name-lower _

derived_names-lower : (layout : Layout) (ns : List ℕ) → AllLower (map (derived_name layout) ns)
derived_names-lower layout ns = line_names-lower (λ n. length layout.cited + length layout.negated + place_in n layout.numbers) ns

-- names of parents are names of lines
parent_names-lower : (script : Script) (layout : Layout) (step : Step) → AllLower (parent_names script layout step)
parent_names-lower script layout (Input place) = tt
parent_names-lower script layout (Negate place) = (line_name-lower (place_in place layout.cited), tt)
parent_names-lower script layout (Clausify i) = (origin_name-lower script layout (origin script i), tt)
parent_names-lower script layout (Para first second from from_side into into_side place first_bind second_bind) = derived_names-lower layout (first ∷ second ∷ [])
parent_names-lower script layout (Refl parent literal bind) = derived_names-lower layout (parent ∷ [])
parent_names-lower script layout (Factor parent becomes becomes_side other other_side bind) = derived_names-lower layout (parent ∷ [])
parent_names-lower script layout (Merge parent stays goes bind) = derived_names-lower layout (parent ∷ [])
parent_names-lower script layout (Component name) = tt
parent_names-lower script layout (Opposite name) = tt
parent_names-lower script layout (Split parent definitions parts) = derived_names-lower layout (parent ∷ definitions)
parent_names-lower script layout (Chain parents pivots) = derived_names-lower layout parents

rule_word-lower : (step : Step) → is_lower_word (rule_word step) ≡ true
rule_word-lower (Input place) = refl
rule_word-lower (Negate place) = refl
rule_word-lower (Clausify i) = refl
rule_word-lower (Para first second from from_side into into_side place first_bind second_bind) = refl
rule_word-lower (Refl parent literal bind) = refl
rule_word-lower (Factor parent becomes becomes_side other other_side bind) = refl
rule_word-lower (Merge parent stays goes bind) = refl
rule_word-lower (Component name) = refl
rule_word-lower (Opposite name) = refl
rule_word-lower (Split parent definitions parts) = refl
rule_word-lower (Chain parents pivots) = refl

status_word-lower : (step : Step) → is_lower_word (status_word step) ≡ true
status_word-lower (Input place) = refl
status_word-lower (Negate place) = refl
status_word-lower (Clausify i) = refl
status_word-lower (Para first second from from_side into into_side place first_bind second_bind) = refl
status_word-lower (Refl parent literal bind) = refl
status_word-lower (Factor parent becomes becomes_side other other_side bind) = refl
status_word-lower (Merge parent stays goes bind) = refl
status_word-lower (Component name) = refl
status_word-lower (Opposite name) = refl
status_word-lower (Split parent definitions parts) = refl
status_word-lower (Chain parents pivots) = refl

-- the columns of a row make its source
columns :
    (script : Script) (layout : Layout) (step : Step)
    → inference_text (rule_word step) (status_word step) (step_items script step) (parent_names script layout step)
    ≡ source_text (inference_source (named (rule_word step)) (status_item (status_word step) ∷ step_items script step) (parent_names script layout step))
columns script layout step =
    inference-text (rule_word step) (status_word step) (step_items script step) (parent_names script layout step) (rule_word-lower step)
    (status_word-lower step) (parent_names-lower script layout step)

pub source_of_columns :
    (script : Script) (layout : Layout) (step : Step) → introduces_name step ≡ false
    → inference_text (rule_word step) (status_word step) (step_items script step) (parent_names script layout step)
    ≡ source_text (step_source script layout step)
source_of_columns script layout (Input place) h = columns script layout (Input place)
source_of_columns script layout (Negate place) h = columns script layout (Negate place)
source_of_columns script layout (Clausify i) h = columns script layout (Clausify i)
source_of_columns script layout (Para first second from from_side into into_side place first_bind second_bind) h = columns script layout (Para first second from from_side into into_side place first_bind second_bind)
source_of_columns script layout (Refl parent literal bind) h = columns script layout (Refl parent literal bind)
source_of_columns script layout (Factor parent becomes becomes_side other other_side bind) h = columns script layout (Factor parent becomes becomes_side other other_side bind)
source_of_columns script layout (Merge parent stays goes bind) h = columns script layout (Merge parent stays goes bind)
source_of_columns script layout (Component name) h = absurd (let t : true ≡ false = h in cc)
source_of_columns script layout (Opposite name) h = absurd (let t : true ≡ false = h in cc)
source_of_columns script layout (Split parent definitions parts) h = columns script layout (Split parent definitions parts)
source_of_columns script layout (Chain parents pivots) h = columns script layout (Chain parents pivots)

pub source_of_introduction :
    (script : Script) (layout : Layout) (step : Step) → is_lower_word script.prefix ≡ true → introduces_name step ≡ true
    → introduction_text script.prefix step ≡ source_text (step_source script layout step)
source_of_introduction script layout (Input place) l h = absurd (let t : false ≡ true = h in cc)
source_of_introduction script layout (Negate place) l h = absurd (let t : false ≡ true = h in cc)
source_of_introduction script layout (Clausify i) l h = absurd (let t : false ≡ true = h in cc)
source_of_introduction script layout (Para first second from from_side into into_side place first_bind second_bind) l h = absurd (let t : false ≡ true = h in cc)
source_of_introduction script layout (Refl parent literal bind) l h = absurd (let t : false ≡ true = h in cc)
source_of_introduction script layout (Factor parent becomes becomes_side other other_side bind) l h = absurd (let t : false ≡ true = h in cc)
source_of_introduction script layout (Merge parent stays goes bind) l h = absurd (let t : false ≡ true = h in cc)
source_of_introduction script layout (Component name) l h = definition-component (introduced_name script.prefix name) (numbered-lower script.prefix name l)
source_of_introduction script layout (Opposite name) l h = definition-opposite (introduced_name script.prefix name) (numbered-lower script.prefix name l)
source_of_introduction script layout (Split parent definitions parts) l h = absurd (let t : false ≡ true = h in cc)
source_of_introduction script layout (Chain parents pivots) l h = absurd (let t : false ≡ true = h in cc)

-- ---- lines

-- the parts of a line make its text
pub line_of_parts :
    (a : AnnotatedTree) (source : SourceTree) (n : ℕ) → a.name ≡ line_name n
    → head_text (language_word a.is_clause) (line_name n) (role_word a.role) ++ formula_text a.formula ++ codes "," ++ source_text source ++ codes ").\n"
    ≡ line_text (with_source a source)
line_of_parts a source n e =
    ap (λ us. language_word a.is_clause ++ codes "(" ++ us ++ codes "," ++ role_word a.role ++ codes "," ++ formula_text a.formula ++ codes ","
    ++ source_text source ++ codes ").\n")
    (sym (ap formula_name_text e ∙ formula-name-same (line_name n) ∙ bare-name (line_name n) (line_name-lower n)))

pub five_added :
    {E : Type 0} (r : Result (Unit {0}) E) (p q s t v w a b c d e : List ℕ)
    → q ≡ p ++ a → s ≡ q ++ b → t ≡ s ++ c → v ≡ t ++ d → IfOk r (λ _. w ≡ v ++ e) → IfOk r (λ _. w ≡ p ++ (a ++ b ++ c ++ d ++ e))
five_added r p q s t v w a b c d e first second third fourth fifth =
    three_added r p t v w (a ++ b ++ c) d e (three_joined p q s t a b c first second third) fourth fifth

pub next_shown :
    (tree : ℕ → Option LineTree) (ns : List ℕ) (i : ℕ) (old new whole : List ℕ)
    → i < length ns → new ≡ old ++ shown_text (tree (get_or ns i 0)) → old ++ shown_texts tree (drop i ns) ≡ whole
    → new ++ shown_texts tree (drop (i + 1) ns) ≡ whole
next_shown tree ns i old new whole h e k =
    ap (λ us. us ++ shown_texts tree (drop (i + 1) ns)) e
    ∙ append_assoc old (shown_text (tree (get_or ns i 0))) (shown_texts tree (drop (i + 1) ns))
    ∙ ap (λ ms. old ++ shown_texts tree ms) (sym (drop-next ns i h)) ∙ k

shown-lines : (tree : ℕ → Option LineTree) (ns : List ℕ) → shown_texts tree ns ≡ lines_text (filter_map tree ns)
shown-lines tree [] = refl
shown-lines tree (n ∷ ns) = by (tree n) (shown-lines tree ns)
  where
    by :
        (o : Option LineTree) → shown_texts tree ns ≡ lines_text (filter_map tree ns)
        → shown_text o ++ shown_texts tree ns ≡ lines_text (cons_option o (filter_map tree ns))
    by None h = h
    by (Some t) h = ap (λ us. line_text t ++ us) h

lines-append : (ts us : List LineTree) → lines_text (ts ++ us) ≡ lines_text ts ++ lines_text us
lines-append [] us = refl
lines-append (t ∷ ts) us = ap (λ vs. line_text t ++ vs) (lines-append ts us) ∙ sym (append_assoc (line_text t) (lines_text ts) (lines_text us))

pub shown_of_parts :
    (f g h : ℕ → Option LineTree) (ks ls ms : List ℕ)
    → shown_texts f ks ++ shown_texts g ls ++ shown_texts h ms ≡ lines_text (filter_map f ks ++ filter_map g ls ++ filter_map h ms)
shown_of_parts f g h ks ls ms =
    ap₂ (λ us vs. us ++ vs) (ap₂ (λ us vs. us ++ vs) (shown-lines f ks) (shown-lines g ls)) (shown-lines h ms)
    ∙ sym (lines-append (filter_map f ks ++ filter_map g ls) (filter_map h ms)
    ∙ ap (λ us. us ++ lines_text (filter_map h ms)) (lines-append (filter_map f ks) (filter_map g ls)))
