-- The rule on the words of the command line, and the values that it gives.
use Rattle.std.specs.Prelude.{ℕ, Bool, true, false, not, ◌&&◌, ◌==◌, nat_le, List, [], ◌∷◌, ◌++◌, fold, Option, None, Some, option_map, option_and_then, unwrap_or, is_some, bytes_eq, if◌then◌else◌, codes}
use Rattle.std.specs.List.{filter, before_first, after_first}
use Rattle.plain_types.specs.declared.limits.TheConstants.{DEFAULT_INFERENCES, MOST_INFERENCES}
use Rattle.literal_selection.specs.declared.choice.Selection.{Selection}
use Rattle.literal_selection.specs.declared.choice.Selection.TheVariants.{Nothing, Negative}
use Rattle.pool_history.specs.declared.options.Options.{Options}
use Rattle.tptp_source.specs.Items.{decimal_in}
use Rattle.pool_history.specs.declared.options.TheConstants.{MOST_WORKERS}
use Rattle.command_words.specs.declared.command.TheConstants.{DEFAULT_SIZE, DEFAULT_WORKERS, MOST_BENCH, MOST_SIZE, LEAST_TOLERANCE, MOST_TOLERANCE, MOST_DEPTH}
use Rattle.command_words.specs.declared.command.CommandName.{CommandName}
use Rattle.command_words.specs.declared.command.CommandName.TheVariants.{Prove, Check, Bench, Model, Ground, Decide}
use Rattle.command_words.specs.declared.command.OptionName.{OptionName}
use Rattle.command_words.specs.declared.command.OptionName.TheVariants.{Workers, Inferences, Tptp, Select, Split, Tolerance, Depth, Size}
use Rattle.command_words.specs.declared.command.AxiomSelection.{AxiomSelection}
use Rattle.command_words.specs.declared.command.ProveOptions.{ProveOptions}

-- ---- the tables: each command with its word, its files and its options, and each option with its name and its values

abbrev pub commands : List CommandName
commands = Prove ∷ Check ∷ Bench ∷ Model ∷ Ground ∷ Decide ∷ []

abbrev pub command_word : CommandName → List ℕ
command_word Prove = codes "prove"
command_word Check = codes "check"
command_word Bench = codes "bench"
command_word Model = codes "model"
command_word Ground = codes "ground"
command_word Decide = codes "decide"

abbrev pub options_of : CommandName → List OptionName
options_of Prove = Workers ∷ Inferences ∷ Tptp ∷ Select ∷ Split ∷ Tolerance ∷ Depth ∷ []
options_of Check = Tptp ∷ []
options_of Bench = []
options_of Model = Size ∷ Tptp ∷ []
options_of Ground = Tptp ∷ []
options_of Decide = Tptp ∷ []

abbrev pub option_word : OptionName → List ℕ
option_word Workers = codes "--workers"
option_word Inferences = codes "--inferences"
option_word Tptp = codes "--tptp"
option_word Select = codes "--select"
option_word Split = codes "--split"
option_word Tolerance = codes "--tolerance"
option_word Depth = codes "--depth"
option_word Size = codes "--size"

-- the files of a command, or the number that it has in their place, and the values of an option, as the usage text shows them
abbrev pub files_shown : CommandName → List ℕ
files_shown Prove = codes "FILE"
files_shown Check = codes "FILE DERIVATION"
files_shown Bench = codes "N"
files_shown Model = codes "FILE"
files_shown Ground = codes "FILE DERIVATION"
files_shown Decide = codes "FILE"

abbrev pub values_shown : OptionName → List ℕ
values_shown Workers = codes "K"
values_shown Inferences = codes "N"
values_shown Tptp = codes "DIR"
values_shown Select = codes "none|negative"
values_shown Split = codes "on|off"
values_shown Tolerance = codes "T"
values_shown Depth = codes "D"
values_shown Size = codes "S"

-- an option that is given with the one before it, or neither is: they stand in one bracket
abbrev pub is_joined : OptionName → Bool
is_joined Depth = true
is_joined option = false

-- ---- the usage text: a line for each command, the first one after `usage: `

abbrev pub option_shown : OptionName → List ℕ
option_shown o = option_word o ++ codes "=" ++ values_shown o

-- after an option in its bracket
abbrev pub more_shown : List OptionName → List ℕ
more_shown [] = codes "]\n"
more_shown (o ∷ os) = (if is_joined o then codes " " else codes "] [") ++ option_shown o ++ more_shown os

abbrev pub options_shown : List OptionName → List ℕ
options_shown [] = codes "\n"
options_shown (o ∷ os) = codes " [" ++ option_shown o ++ more_shown os

abbrev pub usage_lines : List ℕ → List CommandName → List ℕ
usage_lines start [] = []
usage_lines start (c ∷ cs) =
    start ++ command_word c ++ codes " " ++ files_shown c ++ options_shown (options_of c) ++ usage_lines (codes "       ") cs

abbrev pub usage_text : List ℕ
usage_text = usage_lines (codes "usage: ") commands

-- ---- what the words give

-- what options give: how many workers there are, how many inferences are counted, which literal of a clause is chosen, whether clauses are split,
-- the folder from which includes are loaded, the tolerance and the depth of an axiom selection, and the largest size that is tried
pub record Given : Type 0 where
  pub workers : Option ℕ
  pub inferences : Option ℕ
  pub select : Option Selection
  pub split : Option Bool
  pub root : Option (List ℕ)
  pub tolerance : Option ℕ
  pub depth : Option ℕ
  pub size : Option ℕ

-- A command with its values.
pub data Command : Type 0 where
  -- a problem's file, the folder of includes where it is given, how it is proved, and the number of workers
  prove : List ℕ → Option (List ℕ) → ProveOptions → ℕ → Command
  -- a problem's file, a derivation's, and the folder of includes where it is given
  check : List ℕ → List ℕ → Option (List ℕ) → Command
  -- the number of a problem that no file spells
  bench : ℕ → Command
  -- a problem's file, the folder of includes where it is given, and the largest size that is tried
  model : List ℕ → Option (List ℕ) → ℕ → Command
  -- a problem's file, a derivation's, and the folder of includes where it is given
  list_ground : List ℕ → List ℕ → Option (List ℕ) → Command
  -- a problem's file, and the folder of includes where it is given
  decide : List ℕ → Option (List ℕ) → Command

-- ---- after the command: file words, and options in any place

-- an option begins with `-`
abbrev pub is_option : List ℕ → Bool
is_option [] = false
is_option (b ∷ bs) = b == 45

-- a file word isn't empty
abbrev pub is_filled : List ℕ → Bool
is_filled [] = false
is_filled (b ∷ bs) = true

abbrev pub file_words : List (List ℕ) → List (List ℕ)
file_words words = filter (λ w. not (is_option w)) words

-- One file word or two, none of them empty; or others.
pub data Files : Type 0 where
  one_file : List ℕ → Files
  two_files : List ℕ → List ℕ → Files
  other_files : Files

abbrev pub files_in : List (List ℕ) → Files
files_in (file ∷ []) = if is_filled file then one_file file else other_files
files_in (file ∷ second ∷ []) = if is_filled file && is_filled second then two_files file second else other_files
files_in words = other_files

-- ---- options, each at most once

-- An option is a name, `=` and a value that isn't empty.
abbrev pub setting_in : List ℕ → Option (List ℕ × List ℕ)
setting_in word =
    if is_filled (after_first (λ b. b == 61) word) then Some (before_first (λ b. b == 61) word, after_first (λ b. b == 61) word) else None

-- the option of a name, of those that a command has
abbrev pub option_named : List OptionName → List ℕ → Option OptionName
option_named [] name = None
option_named (o ∷ os) name = if bytes_eq name (option_word o) then Some o else option_named os name

abbrev pub no_options : Given
no_options =
    record { workers = None; inferences = None; select = None; split = None; root = None; tolerance = None; depth = None; size = None }

abbrev pub within : ℕ → ℕ → Option ℕ
within most n = if nat_le 1 n && nat_le n most then Some n else None

-- a number from 1 to `most`, in decimal digits without a leading zero
abbrev pub number_in : ℕ → List ℕ → Option ℕ
number_in most value = option_and_then (within most) (decimal_in value)

abbrev pub from_least : ℕ → Option ℕ
from_least n = if nat_le LEAST_TOLERANCE n then Some n else None

abbrev pub tolerance_in : List ℕ → Option ℕ
tolerance_in value = option_and_then from_least (number_in MOST_TOLERANCE value)

abbrev pub selection_in : List ℕ → Option Selection
selection_in value =
    if bytes_eq value (codes "none") then Some Nothing else if bytes_eq value (codes "negative") then Some Negative else None

abbrev pub switch_in : List ℕ → Option Bool
switch_in value = if bytes_eq value (codes "on") then Some true else if bytes_eq value (codes "off") then Some false else None

abbrev pub with_root : Given → List ℕ → Option Given
with_root given root = if is_some given.root then None else Some (record given { root = Some root })

abbrev pub with_workers : Given → ℕ → Option Given
with_workers given n = if is_some given.workers then None else Some (record given { workers = Some n })

abbrev pub with_inferences : Given → ℕ → Option Given
with_inferences given n = if is_some given.inferences then None else Some (record given { inferences = Some n })

abbrev pub with_selection : Given → Selection → Option Given
with_selection given select = if is_some given.select then None else Some (record given { select = Some select })

abbrev pub with_split : Given → Bool → Option Given
with_split given split = if is_some given.split then None else Some (record given { split = Some split })

abbrev pub with_tolerance : Given → ℕ → Option Given
with_tolerance given t = if is_some given.tolerance then None else Some (record given { tolerance = Some t })

abbrev pub with_depth : Given → ℕ → Option Given
with_depth given d = if is_some given.depth then None else Some (record given { depth = Some d })

abbrev pub with_size : Given → ℕ → Option Given
with_size given n = if is_some given.size then None else Some (record given { size = Some n })

-- and the value of an option more; None where the option can't have it, or has one already
abbrev pub with_value : Given → OptionName → List ℕ → Option Given
with_value given Workers value = option_and_then (with_workers given) (number_in MOST_WORKERS value)
with_value given Inferences value = option_and_then (with_inferences given) (number_in MOST_INFERENCES value)
with_value given Tptp value = with_root given value
with_value given Select value = option_and_then (with_selection given) (selection_in value)
with_value given Split value = option_and_then (with_split given) (switch_in value)
with_value given Tolerance value = option_and_then (with_tolerance given) (tolerance_in value)
with_value given Depth value = option_and_then (with_depth given) (number_in MOST_DEPTH value)
with_value given Size value = option_and_then (with_size given) (number_in MOST_SIZE value)

-- and an option word more, of a command that has these options
abbrev pub with_option : List OptionName → Given → List ℕ → Option Given
with_option options given word =
    option_and_then (λ (setting : List ℕ × List ℕ). option_and_then (λ option. with_value given option setting.1) (option_named options setting.0))
    (setting_in word)

abbrev pub options_in : List OptionName → List (List ℕ) → Option Given
options_in options words = fold (λ given w. option_and_then (λ g. with_option options g w) given) (Some no_options) (filter is_option words)

-- how a pool works by what is given
abbrev pub options_by : Given → Options
options_by given = record {
  select = unwrap_or given.select Negative;
  split = unwrap_or given.split true;
  inferences = unwrap_or given.inferences DEFAULT_INFERENCES;
}

-- the axiom selection of a tolerance and a depth. None where one stands alone
abbrev pub selection_by : Option ℕ → Option ℕ → Option (Option AxiomSelection)
selection_by None None = Some None
selection_by (Some t) (Some d) = Some (Some (record { tolerance = t; depth = d }))
selection_by tolerance depth = None

-- ---- commands; None where the words are usage

abbrev pub prove_with : Files → Option Given → Option Command
prove_with (one_file file) (Some given) =
    option_map
    (λ axioms. prove file given.root (record { pool = options_by given; axioms = axioms }) (unwrap_or given.workers DEFAULT_WORKERS))
    (selection_by given.tolerance given.depth)
prove_with files given = None

abbrev pub check_with : Files → Option Given → Option Command
check_with (two_files file derivation) (Some given) = Some (check file derivation given.root)
check_with files given = None

-- the problem's number stands in the place of a file
abbrev pub bench_with : Files → Option Given → Option Command
bench_with (one_file word) (Some given) = option_map bench (number_in MOST_BENCH word)
bench_with files given = None

abbrev pub model_with : Files → Option Given → Option Command
model_with (one_file file) (Some given) = Some (model file given.root (unwrap_or given.size DEFAULT_SIZE))
model_with files given = None

abbrev pub ground_with : Files → Option Given → Option Command
ground_with (two_files file derivation) (Some given) = Some (list_ground file derivation given.root)
ground_with files given = None

abbrev pub decide_with : Files → Option Given → Option Command
decide_with (one_file file) (Some given) = Some (decide file given.root)
decide_with files given = None

-- by its file words, and what its options give
abbrev pub command_with : CommandName → Files → Option Given → Option Command
command_with Prove files given = prove_with files given
command_with Check files given = check_with files given
command_with Bench files given = bench_with files given
command_with Model files given = model_with files given
command_with Ground files given = ground_with files given
command_with Decide files given = decide_with files given

-- the command of a word
abbrev pub command_named : List CommandName → List ℕ → Option CommandName
command_named [] word = None
command_named (c ∷ cs) word = if bytes_eq word (command_word c) then Some c else command_named cs word

abbrev pub command_of : List (List ℕ) → Option Command
command_of [] = None
command_of (word ∷ words) =
    option_and_then (λ name. command_with name (files_in (file_words words)) (options_in (options_of name) words))
    (command_named commands word)
