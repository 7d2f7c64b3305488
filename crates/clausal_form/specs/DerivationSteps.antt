-- The step that a line claims: the rows of the table of rules with parents.
use Rattle.std.specs.Prelude.{ℕ, List, [], ◌∷◌, codes, Option, None, option_map, option_and_then, if◌then◌else◌}
use Rattle.fol_base.specs.Tree.{Tree}
use Rattle.fol_base.specs.declared.clause.Side.{Side}
use Rattle.kernel_steps.specs.declared.step.Step.{Step}
use Rattle.kernel_steps.specs.declared.step.Step.TheVariants.{Para, Refl, Factor, Merge, Split, Chain}
use Rattle.tptp_source.specs.General.{GeneralTree}
use Rattle.tptp_source.specs.Sources.{SourceTree, file_source, inference_source, component_source, opposite_source}
use Rattle.tptp_source.specs.Items.{number_in}
use Rattle.clausal_form.specs.DerivationItems.{is_plain, side_of, list_in, numbers_in, introduced_in, only_one, row_arguments}

-- The kinds of lines, by their sources. A component or opposite line has the name that it introduces or speaks of.
pub data LineKind : Type 0 where
  input_kind : LineKind
  negate_kind : LineKind
  clausify_kind : LineKind
  para_kind : LineKind
  refl_kind : LineKind
  factor_kind : LineKind
  merge_kind : LineKind
  component_kind : List ℕ → LineKind
  opposite_kind : List ℕ → LineKind
  split_kind : LineKind
  chain_kind : LineKind
  no_rule_kind : LineKind

-- The kind of a line `inference(RULE,..)` by its rule's word: `negate`, `clausify`, `para`, `refl`,
-- `factor`, `merge`, `split` or `chain`.
abbrev pub rule_kind : GeneralTree → LineKind
rule_kind rule =
    if is_plain (codes "negate") rule then negate_kind
    else if is_plain (codes "clausify") rule then clausify_kind
    else if is_plain (codes "para") rule then para_kind
    else if is_plain (codes "refl") rule then refl_kind
    else if is_plain (codes "factor") rule then factor_kind
    else if is_plain (codes "merge") rule then merge_kind
    else if is_plain (codes "split") rule then split_kind
    else if is_plain (codes "chain") rule then chain_kind
    else no_rule_kind

-- The kind of a line by its source. `file(..)` makes an input line, `introduced(definition,..)` a
-- component line or an opposite line.
abbrev pub kind_of : SourceTree → LineKind
kind_of (file_source file name) = input_kind
kind_of (inference_source rule items parents) = rule_kind rule
kind_of (component_source name) = component_kind name
kind_of (opposite_source name) = opposite_kind name

-- the number of parents whose variables the rule binds
abbrev pub bindings_count : LineKind → ℕ
bindings_count para_kind = 2
bindings_count refl_kind = 1
bindings_count factor_kind = 1
bindings_count merge_kind = 1
bindings_count kind = 0

-- ---- the arguments of items

-- a literal and its side
pub record OfLiteral : Type 0 where
  pub literal : ℕ
  pub side : Side

-- a literal's number and a side, from two arguments
abbrev pub literal_side : GeneralTree → GeneralTree → Option OfLiteral
literal_side i s = option_and_then (λ n. option_map (λ z. record { literal = n; side = z }) (side_of s)) (number_in i)

-- literal I and its side S, from the arguments `I,S` of `from(I,S)` or `lit(I,S)`
abbrev pub of_literal : List GeneralTree → Option OfLiteral
of_literal (i ∷ s ∷ []) = literal_side i s
of_literal ts = None

-- literal J, its side S and the place in it, from the arguments of `into(J,S,[..])`
abbrev pub into_literal : List GeneralTree → Option (OfLiteral × List ℕ)
into_literal (j ∷ s ∷ place ∷ []) = option_and_then (λ l. option_map (λ p. (l, p)) (numbers_in place)) (literal_side j s)
into_literal ts = None

-- a number, from the argument of `lit(I)` or `index(I)`
abbrev pub of_number : List GeneralTree → Option ℕ
of_number ts = option_and_then number_in (only_one ts)

-- ---- steps, from the arguments of a row's items, the parents' places and the bindings

-- Superposition of parent a into parent b, from `from(I,S),into(J,T,[..])`: at the place in side T of b's literal J, side S of a's
-- literal I is replaced by its other side.
abbrev pub para_step : List ℕ → List (List Tree) → List (List GeneralTree) → Option Step
para_step (a ∷ b ∷ []) (a_bind ∷ b_bind ∷ []) (from ∷ into ∷ binds) =
    option_and_then (λ i. option_map (λ j. Para a b i.literal i.side (j.0).literal (j.0).side j.1 a_bind b_bind) (into_literal into))
    (of_literal from)
para_step parents binds row = None

-- equality resolution of a parent, from `lit(I)`: its literal I, a disequation with equal sides, goes
abbrev pub refl_step : List ℕ → List (List Tree) → List (List GeneralTree) → Option Step
refl_step (a ∷ []) (bind ∷ []) (literal ∷ binds) = option_map (λ i. Refl a i bind) (of_number literal)
refl_step parents binds row = None

-- equality factoring of a parent, from `lit(I,S),lit(J,T)`: literal I becomes the disequation of
-- the sides other than S of I and T of J
abbrev pub factor_step : List ℕ → List (List Tree) → List (List GeneralTree) → Option Step
factor_step (a ∷ []) (bind ∷ []) (becomes ∷ other ∷ binds) =
    option_and_then (λ i. option_map (λ j. Factor a i.literal i.side j.literal j.side bind) (of_literal other)) (of_literal becomes)
factor_step parents binds row = None

-- merging of two equal literals of a parent, from `lit(I),lit(J)`: literal I stays, and literal J goes
abbrev pub merge_step : List ℕ → List (List Tree) → List (List GeneralTree) → Option Step
merge_step (a ∷ []) (bind ∷ []) (stays ∷ goes ∷ binds) =
    option_and_then (λ i. option_map (λ j. Merge a i j bind) (of_number goes)) (of_number stays)
merge_step parents binds row = None

-- splitting of the first parent, from `parts([[0,2],[1]])`: its literals by parts, with a
-- definition line as a further parent for each part
abbrev pub split_step : List ℕ → List (List GeneralTree) → Option Step
split_step (a ∷ definitions) (parts ∷ []) =
    option_map (λ ps. Split a definitions ps) (option_and_then (list_in numbers_in) (only_one parts))
split_step parents row = None

-- resolution of parents on names, from `pivots([spl0,~spl1])`: the introduced names, in order, that are resolved away
abbrev pub chain_step : List (List ℕ) → List ℕ → List (List GeneralTree) → Option Step
chain_step names parents (pivots ∷ []) =
    option_map (λ ps. Chain parents ps) (option_and_then (list_in (introduced_in names)) (only_one pivots))
chain_step names parents row = None

-- The step of a rule with parents, a row each: the word of its status, its items, and its step. There is none if the items aren't
-- those of the row.
abbrev pub rule_step : LineKind → List (List ℕ) → List GeneralTree → List ℕ → List (List Tree) → Option Step
rule_step para_kind names items parents binds =
    option_and_then (para_step parents binds)
    (row_arguments (codes "thm") (codes "from" ∷ codes "into" ∷ codes "bind" ∷ codes "bind" ∷ []) items)
rule_step refl_kind names items parents binds =
    option_and_then (refl_step parents binds) (row_arguments (codes "thm") (codes "lit" ∷ codes "bind" ∷ []) items)
rule_step factor_kind names items parents binds =
    option_and_then (factor_step parents binds) (row_arguments (codes "thm") (codes "lit" ∷ codes "lit" ∷ codes "bind" ∷ []) items)
rule_step merge_kind names items parents binds =
    option_and_then (merge_step parents binds) (row_arguments (codes "thm") (codes "lit" ∷ codes "lit" ∷ codes "bind" ∷ []) items)
rule_step split_kind names items parents binds =
    option_and_then (split_step parents) (row_arguments (codes "esa") (codes "parts" ∷ []) items)
rule_step chain_kind names items parents binds =
    option_and_then (chain_step names parents) (row_arguments (codes "thm") (codes "pivots" ∷ []) items)
rule_step kind names items parents binds = None
