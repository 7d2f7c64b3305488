-- The words after a command as the program counts them: none, one, two, or more, or an empty one; and its values.
use Rattle.std.specs.Prelude.{◌≤◌, ⊤, ℕ, IsTrue, List, fold, Option, if◌then◌else◌}
use Rattle.std.specs.Borrow.{Bor}
use Rattle.std.specs.Option.{option_map}
use Rattle.pool_history.specs.Inputs.{IsLimit}
use Rattle.pool_history.specs.declared.options.TheConstants.{MOST_WORKERS}
use Rattle.command_words.specs.Words.{Given as GivenOptions, Command as Commanded, prove, check, bench, model, list_ground, decide, is_filled, Files, one_file, two_files, other_files}
use Rattle.command_words.specs.declared.command.Command.{Command}
use Rattle.command_words.specs.declared.command.Command.TheVariants.{Prove, Check, Bench, Model, Ground, Decide}
use Rattle.command_words.specs.declared.options.Given.{Given}
use Rattle.command_words.specs.declared.command.TheConstants.{MOST_BENCH, MOST_SIZE}
use Rattle.command_words.specs.declared.words.FileWords.{FileWords}
use Rattle.command_words.specs.declared.words.FileWords.TheVariants.{None as NoWord, One, Two, More}

pub data FewWords : Type 0 where
  no_word : FewWords
  one_word : List ℕ → FewWords
  two_words : List ℕ → List ℕ → FewWords
  more_words : FewWords

-- and a word more
abbrev pub few_and : FewWords → List ℕ → FewWords
few_and no_word w = one_word w
few_and (one_word v) w = two_words v w
few_and (two_words u v) w = more_words
few_and more_words w = more_words

-- that isn't empty, or else it counts as more
abbrev pub few_with : FewWords → List ℕ → FewWords
few_with few w = if is_filled w then few_and few w else more_words

abbrev pub few_of : List (List ℕ) → FewWords
few_of words = fold few_with no_word words

abbrev pub few_meant : FileWords → FewWords
few_meant NoWord = no_word
few_meant (One v) = one_word v.now
few_meant (Two u v) = two_words u.now v.now
few_meant More = more_words

-- a name and a value
abbrev pub setting_meant : Bor (List ℕ) × Bor (List ℕ) → List ℕ × List ℕ
setting_meant s = (s.0.now, s.1.now)

abbrev pub lent : Option (Bor (List ℕ)) → Option (List ℕ)
lent o = option_map (λ x. x.now) o

abbrev pub given_meant : Given → GivenOptions
given_meant o = record {
  workers = o.workers;
  inferences = o.inferences;
  select = o.select;
  split = o.split;
  root = lent o.root;
  tolerance = o.tolerance;
  depth = o.depth;
  size = o.size;
}

abbrev pub command_meant : Command → Commanded
command_meant (Prove file root options workers) = prove file.now (lent root) options workers
command_meant (Check file derivation root) = check file.now derivation.now (lent root)
command_meant (Bench number) = bench number
command_meant (Model file root most) = model file.now (lent root) most
command_meant (Ground file derivation root) = list_ground file.now derivation.now (lent root)
command_meant (Decide file root) = decide file.now (lent root)

-- file words that are counted so
abbrev pub files_by : FewWords → Files
files_by (one_word file) = one_file file
files_by (two_words file second) = two_files file second
files_by few = other_files

-- the options are such as a pool takes, the workers are as many as a team may have, and the file has a name; the problem of that number is made;
-- the largest size is one that the search takes
abbrev pub IsFit : Commanded → Type 0
IsFit (prove file root options workers) = IsLimit options.pool × ((1 ≤ workers) × (workers ≤ MOST_WORKERS)) × IsTrue (is_filled file)
IsFit (check file derivation root) = ⊤
IsFit (bench number) = (1 ≤ number) × (number ≤ MOST_BENCH)
IsFit (model file root most) = (1 ≤ most) × (most ≤ MOST_SIZE)
IsFit (list_ground file derivation root) = ⊤
IsFit (decide file root) = ⊤
