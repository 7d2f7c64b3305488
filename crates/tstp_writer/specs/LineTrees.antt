-- The lines of a written derivation: the formulas of the problem that it stands on, the negation of the conjecture if it is one of them, and
-- lines that the kernel made. They are named c0, c1 and so on, in that order.
use Rattle.std.specs.Prelude.{ℕ, ◌+◌, Bool, true, false, ◌==◌, List, [], ◌∷◌, ◌++◌, map, filter, filter_map, length, codes, Option, None, Some, option_map, option_and_then, unwrap_or, slice_get, if◌then◌else◌}
use Rattle.std.specs.Fmt.{decimal}
use Rattle.std.specs.List.{list_any, position_or_len}
use Rattle.plain_types.specs.declared.sequence.NameLit.{NameLit}
use Rattle.fol_base.specs.Tree.{Tree}
use Rattle.fol_base.specs.Clause.{TreeClause}
use Rattle.fol_base.specs.Literal.{clause_of}
use Rattle.fol_base.specs.Canonical.{numbers_from}
use Rattle.fol_base.specs.declared.clause.Side.{Side}
use Rattle.tptp_tree.specs.Term.{TermTree, variable as named_variable, application as named_application, TermTrees, no_terms, term_then}
use Rattle.tptp_tree.specs.Formula.{negation}
use Rattle.tptp_tree.specs.Entries.{AnnotatedTree, is_conjecture}
use Rattle.tptp_tree.specs.declared.role.Role.TheVariants.{NegatedConjecture, Plain}
use Rattle.tptp_tree.specs.declared.problem.Annotated.{Annotated}
use Rattle.signature.specs.declared.symbol.Symbol.{Symbol}
use Rattle.signature.specs.Form.{ClausalForm, clausal_form}
use Rattle.signature.specs.Prefix.{fresh_prefix_of}
use Rattle.kernel_steps.specs.Lines.{step_parents}
use Rattle.kernel_steps.specs.Derivation.{is_clause_step}
use Rattle.kernel_steps.specs.Keys.{side_word}
use Rattle.kernel_steps.specs.declared.step.Step.{Step}
use Rattle.kernel_steps.specs.declared.step.Step.TheVariants.{Input, Negate, Clausify, Para, Refl, Factor, Merge, Component, Opposite, Split, Chain}
use Rattle.kernel_steps.specs.declared.step.Line.{Line}
use Rattle.tptp_source.specs.declared.sign.NumberSign.TheVariants.{Unsigned}
use Rattle.tptp_source.specs.General.{GeneralTree, variable, word, number, negated, GeneralTrees, no_trees, tree_then}
use Rattle.tptp_source.specs.Sources.{SourceTree, file_source, inference_source, component_source, opposite_source, word_of, list_of}
use Rattle.clausal_form.specs.DerivationLine.{LineTree}
use Rattle.tptp_tree.specs.Shape.{entry_of}
use Rattle.tstp_writer.specs.ClauseTrees.{term_tree, introduced_name, clause_formula}

-- ---- the script of a derivation

-- The name of the problem's file, the problem's formulas, the symbols of its clausal form by their numbers, for each clause of the form
-- the place of its formula, and the prefix of the names that the derivation introduces.
pub record Script : Type 0 where
  pub file : List ℕ
  pub formulas : List AnnotatedTree
  pub symbols : List Symbol
  pub origins : List ℕ
  pub prefix : List ℕ

abbrev pub script_of : List ℕ → List Annotated → Script
script_of file problem =
    let form : ClausalForm = clausal_form problem in
    record {
      file = file;
      formulas = map entry_of problem;
      symbols = form.symbols;
      origins = form.origins;
      prefix = fresh_prefix_of form.symbols (codes "spl");
    }

abbrev pub is_conjecture_at : Script → ℕ → Bool
is_conjecture_at script place =
    unwrap_or (option_map (λ (a : AnnotatedTree). is_conjecture a.role) (slice_get script.formulas place)) false

-- the place of the formula from which a clause of the form comes
abbrev pub origin : Script → ℕ → ℕ
origin script i = unwrap_or (slice_get script.origins i) 0

-- ---- the layout: the lines and their names

-- the formulas that are cited, by their places; those of them that are negated; and the lines of the derivation, by their numbers
pub record Layout : Type 0 where
  pub cited : List ℕ
  pub negated : List ℕ
  pub numbers : List ℕ

-- a clause of that formula
abbrev pub comes_from : Script → ℕ → Step → Bool
comes_from script place (Clausify i) = origin script i == place
comes_from script place step = false

-- the lines with those numbers
abbrev pub lines_at : List Line → List ℕ → List Line
lines_at lines numbers = filter_map (λ n. slice_get lines n) numbers

-- the formulas, in order, from which a clause of the lines comes
abbrev pub cited_places : Script → List Line → List ℕ
cited_places script lines =
    filter (λ place. list_any (λ (l : Line). comes_from script place l.step) lines) (numbers_from 0 (length script.formulas))

abbrev pub layout_of : Script → List Line → List ℕ → Layout
layout_of script lines numbers =
    let places : List ℕ = cited_places script (lines_at lines numbers) in
    record { cited = places; negated = filter (is_conjecture_at script) places; numbers = numbers }

abbrev pub place_in : ℕ → List ℕ → ℕ
place_in n ns = position_or_len (λ m. m == n) ns

abbrev pub line_name : ℕ → List ℕ
line_name n = codes "c" ++ decimal n

-- the names of a formula's line, of its negation's and of a line of the derivation
abbrev pub cited_name : Layout → ℕ → List ℕ
cited_name layout place = line_name (place_in place layout.cited)

abbrev pub negated_name : Layout → ℕ → List ℕ
negated_name layout place = line_name (length layout.cited + place_in place layout.negated)

abbrev pub derived_name : Layout → ℕ → List ℕ
derived_name layout n = line_name (length layout.cited + length layout.negated + place_in n layout.numbers)

-- ---- items

abbrev pub named : List ℕ → GeneralTree
named w = word_of w []

abbrev pub number_item : ℕ → GeneralTree
number_item n = number Unsigned (decimal n)

abbrev pub numbers_item : List ℕ → GeneralTree
numbers_item ns = list_of (map number_item ns)

abbrev pub side_item : Side → GeneralTree
side_item s = named (side_word s)

abbrev mutual
  pub term_item : TermTree → GeneralTree
  term_item (named_variable x) = variable x
  term_item (named_application f ts) = word f (term_items ts)

  pub term_items : TermTrees → GeneralTrees
  term_items no_terms = no_trees
  term_items (term_then t ts) = tree_then (term_item t) (term_items ts)

abbrev pub status_item : List ℕ → GeneralTree
status_item w = word_of (codes "status") (named w ∷ [])

abbrev pub bind_item : List Symbol → List Tree → GeneralTree
bind_item symbols ts = word_of (codes "bind") (list_of (map (λ t. term_item (term_tree symbols t)) ts) ∷ [])

abbrev pub literal_item : ℕ → GeneralTree
literal_item i = word_of (codes "lit") (number_item i ∷ [])

abbrev pub side_of_literal_item : ℕ → Side → GeneralTree
side_of_literal_item i s = word_of (codes "lit") (number_item i ∷ side_item s ∷ [])

abbrev pub from_item : ℕ → Side → GeneralTree
from_item i s = word_of (codes "from") (number_item i ∷ side_item s ∷ [])

abbrev pub into_item : ℕ → Side → List ℕ → GeneralTree
into_item i s place = word_of (codes "into") (number_item i ∷ side_item s ∷ numbers_item place ∷ [])

abbrev pub pivot_name : Bool → List ℕ → GeneralTree
pivot_name true name = named name
pivot_name false name = negated name

abbrev pub pivot_item : List ℕ → NameLit → GeneralTree
pivot_item prefix n = pivot_name n.positive (introduced_name prefix n.name)

-- ---- the columns of the table of steps: rule, status, items, parents

abbrev pub rule_word : Step → List ℕ
rule_word (Input place) = codes "input"
rule_word (Component name) = codes "component"
rule_word (Opposite name) = codes "opposite"
rule_word (Negate place) = codes "negate"
rule_word (Clausify i) = codes "clausify"
rule_word (Para first second from from_side into into_side place first_bind second_bind) = codes "para"
rule_word (Refl parent literal bind) = codes "refl"
rule_word (Factor parent becomes becomes_side other other_side bind) = codes "factor"
rule_word (Merge parent stays goes bind) = codes "merge"
rule_word (Split parent definitions parts) = codes "split"
rule_word (Chain parents pivots) = codes "chain"

abbrev pub status_word : Step → List ℕ
status_word (Negate place) = codes "cth"
status_word (Clausify i) = codes "esa"
status_word (Split parent definitions parts) = codes "esa"
status_word _ = codes "thm"

-- the items after the status
abbrev pub step_items : Script → Step → List GeneralTree
step_items script (Clausify i) = word_of (codes "index") (number_item i ∷ []) ∷ []
step_items script (Para first second from from_side into into_side place first_bind second_bind) =
    from_item from from_side ∷ into_item into into_side place ∷ bind_item script.symbols first_bind ∷ bind_item script.symbols second_bind ∷ []
step_items script (Refl parent literal bind) = literal_item literal ∷ bind_item script.symbols bind ∷ []
step_items script (Factor parent becomes becomes_side other other_side bind) =
    side_of_literal_item becomes becomes_side ∷ side_of_literal_item other other_side ∷ bind_item script.symbols bind ∷ []
step_items script (Merge parent stays goes bind) = literal_item stays ∷ literal_item goes ∷ bind_item script.symbols bind ∷ []
step_items script (Split parent definitions parts) = word_of (codes "parts") (list_of (map numbers_item parts) ∷ []) ∷ []
step_items script (Chain parents pivots) = word_of (codes "pivots") (list_of (map (pivot_item script.prefix) pivots) ∷ []) ∷ []
step_items script _ = []

-- a clause comes from its formula's line, and from the negation's where the formula is a conjecture
abbrev pub origin_name : Script → Layout → ℕ → List ℕ
origin_name script layout place =
    if is_conjecture_at script place then negated_name layout place else cited_name layout place

abbrev pub parent_names : Script → Layout → Step → List (List ℕ)
parent_names script layout (Negate place) = cited_name layout place ∷ []
parent_names script layout (Clausify i) = origin_name script layout (origin script i) ∷ []
parent_names script layout step = map (derived_name layout) (step_parents step)

-- ---- sources

-- Component and opposite lines have a definition, all others an inference. An input line has the source of its formula, which isn't asked here.
abbrev pub step_source : Script → Layout → Step → SourceTree
step_source script layout (Component name) = component_source (introduced_name script.prefix name)
step_source script layout (Opposite name) = opposite_source (introduced_name script.prefix name)
step_source script layout step =
    inference_source (named (rule_word step)) (status_item (status_word step) ∷ step_items script step) (parent_names script layout step)

-- ---- lines

abbrev pub with_source : AnnotatedTree → SourceTree → LineTree
with_source a source = record { entry = a; source = source }

-- a formula of the problem, under the line's name, from the file with its own name there
abbrev pub input_tree : Script → List ℕ → AnnotatedTree → LineTree
input_tree script name a =
    with_source (record a { name = name }) (file_source (named script.file) a.name)

-- the negation of a formula
abbrev pub negate_tree : Script → Layout → List ℕ → ℕ → AnnotatedTree → LineTree
negate_tree script layout name place a =
    with_source (record { name = name; role = NegatedConjecture; is_clause = false; formula = negation a.formula })
    (step_source script layout (Negate place))

abbrev pub input_at : Script → List ℕ → ℕ → Option LineTree
input_at script name place = option_map (input_tree script name) (slice_get script.formulas place)

abbrev pub negate_at : Script → Layout → List ℕ → ℕ → Option LineTree
negate_at script layout name place = option_map (negate_tree script layout name place) (slice_get script.formulas place)

-- a clause, with the step that gave it
abbrev pub clause_tree : Script → List ℕ → TreeClause → SourceTree → LineTree
clause_tree script name c source =
    with_source
    (record { name = name; role = Plain; is_clause = true; formula = clause_formula script.symbols script.prefix c }) source

-- of an input or negate line
abbrev pub formula_tree : Script → Layout → List ℕ → Step → Option LineTree
formula_tree script layout name (Input place) = input_at script name place
formula_tree script layout name (Negate place) = negate_at script layout name place
formula_tree script layout name step = None

abbrev pub line_tree : Script → Layout → List ℕ → Line → Option LineTree
line_tree script layout name line =
    if is_clause_step line.step
    then Some (clause_tree script name (clause_of line.clause) (step_source script layout line.step))
    else formula_tree script layout name line.step

abbrev pub derived_tree : Script → Layout → List Line → ℕ → Option LineTree
derived_tree script layout lines n = option_and_then (line_tree script layout (derived_name layout n)) (slice_get lines n)

-- the line of a formula, and of its negation
abbrev pub cited_tree : Script → Layout → ℕ → Option LineTree
cited_tree script layout place = input_at script (cited_name layout place) place

abbrev pub negated_tree : Script → Layout → ℕ → Option LineTree
negated_tree script layout place = negate_at script layout (negated_name layout place) place

abbrev pub laid_out_trees : Script → Layout → List Line → List LineTree
laid_out_trees script layout lines =
    filter_map (cited_tree script layout) layout.cited ++ filter_map (negated_tree script layout) layout.negated
    ++ filter_map (derived_tree script layout lines) layout.numbers

-- The lines that are written for lines of a derivation, those with the given numbers.
abbrev pub derivation_trees : Script → List Line → List ℕ → List LineTree
derivation_trees script lines numbers = laid_out_trees script (layout_of script lines numbers) lines
