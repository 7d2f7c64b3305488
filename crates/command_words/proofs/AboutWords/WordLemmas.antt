-- Words after a command, counted and by their rule; and the values of options.
use Rattle.std.proofs.Common.{◌≡◌, ◌≤◌, ◌<◌, ℕ, ◌+◌, Bool, true, false, not, ◌&&◌, List, [], ◌∷◌, length, map, drop, get_or, Option, None, Some, refl, ap, sym, ◌∙◌, subst, arith}
use Rattle.std.specs.Prelude.{⊤, fold, nat_le, option_map, option_and_then, unwrap_or, is_some, if◌then◌else◌}
use Rattle.std.specs.List.{filter}
use Rattle.std.proofs.lemmas.Bool.{leb-true}
use Rattle.std.proofs.lemmas.List.{drop_more}
use Rattle.plain_types.specs.declared.limits.TheConstants.{DEFAULT_INFERENCES, MOST_INFERENCES}
use Rattle.tptp_source.specs.Items.{decimal_in}
use Rattle.literal_selection.specs.declared.choice.Selection.{Selection}
use Rattle.command_words.specs.Words.{Given, Command, prove, bench, commands, options_of, is_option, is_filled, file_words, Files, one_file, two_files, other_files, files_in, setting_in, option_named, no_options, within, number_in, tolerance_in, selection_in, switch_in, with_root, with_workers, with_inferences, with_selection, with_split, with_tolerance, with_depth, with_size, with_value, with_option, options_in, options_by, selection_by, prove_with, check_with, bench_with, model_with, ground_with, decide_with, command_with, command_named, command_of}
use Rattle.command_words.specs.WordParts.{IsFit, FewWords, no_word, one_word, more_words, few_and, few_with, few_of, files_by}
use Rattle.command_words.specs.declared.command.CommandName.{CommandName}
use Rattle.command_words.specs.declared.command.CommandName.TheVariants.{Prove, Check, Bench, Model, Ground, Decide}
use Rattle.command_words.specs.declared.command.OptionName.{OptionName}
use Rattle.command_words.specs.declared.command.OptionName.TheVariants.{Workers, Inferences, Tptp, Select, Split, Tolerance, Depth, Size}
use Rattle.command_words.specs.declared.command.AxiomSelection.{AxiomSelection}
use Rattle.command_words.specs.declared.command.TheConstants.{DEFAULT_SIZE, DEFAULT_WORKERS, MOST_BENCH, MOST_DEPTH, MOST_SIZE}
use Rattle.pool_history.specs.declared.options.TheConstants.{MOST_WORKERS}

-- ---- counted words

more-and : (w : List ℕ) → few_with more_words w ≡ more_words
more-and w = by (is_filled w)
  where
    by : (b : Bool) → (if b then more_words else more_words) ≡ more_words
    by true = refl
    by false = refl

more-stays : (ws : List (List ℕ)) → fold few_with more_words ws ≡ more_words
more-stays [] = refl
more-stays (w ∷ ws) = ap (λ x. fold few_with x ws) (more-and w) ∙ more-stays ws

abbrev step : Bool → FewWords → List ℕ → FewWords
step b x w = if b then few_and x w else more_words

-- three words are more
third : (f g h : List ℕ) → few_with (few_with (few_with no_word f) g) h ≡ more_words
third f g h = by (is_filled f) (is_filled g) (is_filled h)
  where
    by : (b c d : Bool) → step d (step c (step b no_word f) g) h ≡ more_words
    by true true true = refl
    by true true false = refl
    by true false true = refl
    by true false false = refl
    by false true true = refl
    by false true false = refl
    by false false true = refl
    by false false false = refl

files-counted : (files : List (List ℕ)) → files_by (few_of files) ≡ files_in files
files-counted [] = refl
files-counted (f ∷ []) = by (is_filled f)
  where
    by : (b : Bool) → files_by (if b then one_word f else more_words) ≡ (if b then one_file f else other_files)
    by true = refl
    by false = refl
files-counted (f ∷ g ∷ []) = by (is_filled f) (is_filled g)
  where
    by :
        (b c : Bool)
        → files_by (if c then few_and (if b then one_word f else more_words) g else more_words) ≡ (if b && c then two_files f g else other_files)
    by true true = refl
    by true false = refl
    by false true = refl
    by false false = refl
files-counted (f ∷ g ∷ h ∷ fs) = ap (λ x. files_by (fold few_with x fs)) (third f g h) ∙ ap files_by (more-stays fs)

-- and none of one or two is empty
abbrev AreFilled : Files → Type 0
AreFilled (one_file f) = is_filled f ≡ true
AreFilled (two_files f g) = (is_filled f ≡ true) × (is_filled g ≡ true)
AreFilled other_files = ⊤

are-filled : (files : List (List ℕ)) → AreFilled (files_in files)
are-filled [] = tt
are-filled (f ∷ []) = by (is_filled f) refl
  where
    by : (b : Bool) → is_filled f ≡ b → AreFilled (if b then one_file f else other_files)
    by true e = e
    by false e = tt
are-filled (f ∷ g ∷ []) = by (is_filled f) refl (is_filled g) refl
  where
    by : (b : Bool) → is_filled f ≡ b → (c : Bool) → is_filled g ≡ c → AreFilled (if b && c then two_files f g else other_files)
    by true e true k = (e, k)
    by true e false k = tt
    by false e c k = tt
are-filled (f ∷ g ∷ h ∷ fs) = tt

-- ---- the numbers that are given are within their limits

abbrev AreWithin : ℕ → ℕ → Type 0
AreWithin most n = (1 ≤ n) × (n ≤ most)

abbrev IsWithin : ℕ → Option ℕ → Type 0
IsWithin most None = ⊤
IsWithin most (Some n) = AreWithin most n

-- the number of inferences, the number of workers, and the largest size
abbrev GivenCounts : Given → Type 0
GivenCounts given = IsWithin MOST_INFERENCES given.inferences × IsWithin MOST_WORKERS given.workers × IsWithin MOST_SIZE given.size

abbrev Counts : Option Given → Type 0
Counts None = ⊤
Counts (Some given) = GivenCounts given

within-counts : (most n : ℕ) → IsWithin most (within most n)
within-counts most n = by (nat_le 1 n) refl (nat_le n most) refl
  where
    by : (b : Bool) → nat_le 1 n ≡ b → (c : Bool) → nat_le n most ≡ c → IsWithin most (if b && c then Some n else None)
    by true h true k = (leb-true 1 n h, leb-true n most k)
    by true h false k = tt
    by false h c k = tt

number-counts : (most : ℕ) (o : Option ℕ) → IsWithin most (option_and_then (within most) o)
number-counts most None = tt
number-counts most (Some n) = within-counts most n

root-counts : (given : Given) (root : List ℕ) → GivenCounts given → Counts (with_root given root)
root-counts given root h = by (is_some given.root)
  where
    by : (b : Bool) → Counts (if b then None else Some (record given { root = Some root }))
    by true = tt
    by false = h

inferences-count : (given : Given) (o : Option ℕ) → GivenCounts given → IsWithin MOST_INFERENCES o → Counts (option_and_then (with_inferences given) o)
inferences-count given None h k = tt
inferences-count given (Some n) h k = by (is_some given.inferences)
  where
    by : (b : Bool) → Counts (if b then None else Some (record given { inferences = Some n }))
    by true = tt
    by false = (k, h.1, h.2)

workers-count : (given : Given) (o : Option ℕ) → GivenCounts given → IsWithin MOST_WORKERS o → Counts (option_and_then (with_workers given) o)
workers-count given None h k = tt
workers-count given (Some n) h k = by (is_some given.workers)
  where
    by : (b : Bool) → Counts (if b then None else Some (record given { workers = Some n }))
    by true = tt
    by false = (h.0, k, h.2)

selection-counts : (given : Given) (o : Option Selection) → GivenCounts given → Counts (option_and_then (with_selection given) o)
selection-counts given None h = tt
selection-counts given (Some select) h = by (is_some given.select)
  where
    by : (b : Bool) → Counts (if b then None else Some (record given { select = Some select }))
    by true = tt
    by false = h

split-counts : (given : Given) (o : Option Bool) → GivenCounts given → Counts (option_and_then (with_split given) o)
split-counts given None h = tt
split-counts given (Some split) h = by (is_some given.split)
  where
    by : (b : Bool) → Counts (if b then None else Some (record given { split = Some split }))
    by true = tt
    by false = h

tolerance-counts : (given : Given) (o : Option ℕ) → GivenCounts given → Counts (option_and_then (with_tolerance given) o)
tolerance-counts given None h = tt
tolerance-counts given (Some t) h = by (is_some given.tolerance)
  where
    by : (b : Bool) → Counts (if b then None else Some (record given { tolerance = Some t }))
    by true = tt
    by false = h

depth-counts : (given : Given) (o : Option ℕ) → GivenCounts given → Counts (option_and_then (with_depth given) o)
depth-counts given None h = tt
depth-counts given (Some d) h = by (is_some given.depth)
  where
    by : (b : Bool) → Counts (if b then None else Some (record given { depth = Some d }))
    by true = tt
    by false = h

size-counts : (given : Given) (o : Option ℕ) → GivenCounts given → IsWithin MOST_SIZE o → Counts (option_and_then (with_size given) o)
size-counts given None h k = tt
size-counts given (Some n) h k = by (is_some given.size)
  where
    by : (b : Bool) → Counts (if b then None else Some (record given { size = Some n }))
    by true = tt
    by false = (h.0, h.1, k)

value-counts : (given : Given) (option : OptionName) (value : List ℕ) → GivenCounts given → Counts (with_value given option value)
value-counts given Workers value h = workers-count given (number_in MOST_WORKERS value) h (number-counts MOST_WORKERS (decimal_in value))
value-counts given Inferences value h =
    inferences-count given (number_in MOST_INFERENCES value) h (number-counts MOST_INFERENCES (decimal_in value))
value-counts given Tptp value h = root-counts given value h
value-counts given Select value h = selection-counts given (selection_in value) h
value-counts given Split value h = split-counts given (switch_in value) h
value-counts given Tolerance value h = tolerance-counts given (tolerance_in value) h
value-counts given Depth value h = depth-counts given (number_in MOST_DEPTH value) h
value-counts given Size value h = size-counts given (number_in MOST_SIZE value) h (number-counts MOST_SIZE (decimal_in value))

option-counts :
    (options : List OptionName) (given : Given) (word : List ℕ) → GivenCounts given → Counts (with_option options given word)
option-counts options given word h = by (setting_in word)
  where
    named : (value : List ℕ) (o : Option OptionName) → Counts (option_and_then (λ option. with_value given option value) o)
    named value None = tt
    named value (Some option) = value-counts given option value h

    by :
        (s : Option (List ℕ × List ℕ))
        → Counts
        (option_and_then (λ (setting : List ℕ × List ℕ). option_and_then (λ option. with_value given option setting.1) (option_named options setting.0))
        s)
    by None = tt
    by (Some (name, value)) = named value (option_named options name)

abbrev kept : List OptionName → Option Given → List (List ℕ) → Option Given
kept options given words = fold (λ g w. option_and_then (λ o. with_option options o w) g) given words

options-count : (options : List OptionName) (words : List (List ℕ)) (given : Option Given) → Counts given → Counts (kept options given words)
options-count options [] given h = h
options-count options (w ∷ ws) None h = options-count options ws None tt
options-count options (w ∷ ws) (Some given) h = options-count options ws (with_option options given w) (option-counts options given w h)

abbrev Fits : Option Command → Type 0
Fits None = ⊤
Fits (Some command) = IsFit command

prove-fits : (files : Files) (given : Option Given) → AreFilled files → Counts given → Fits (prove_with files given)
prove-fits (one_file f) None filled h = tt
prove-fits (one_file f) (Some given) filled h = by (selection_by given.tolerance given.depth)
  where
    limit : (o : Option ℕ) → IsWithin MOST_INFERENCES o → AreWithin MOST_INFERENCES (unwrap_or o DEFAULT_INFERENCES)
    limit None k = (omega arith, omega arith)
    limit (Some n) k = k

    workers : (o : Option ℕ) → IsWithin MOST_WORKERS o → AreWithin MOST_WORKERS (unwrap_or o DEFAULT_WORKERS)
    workers None k = (omega arith, omega arith)
    workers (Some n) k = k

    by :
        (o : Option (Option AxiomSelection))
        → Fits (option_map (λ axioms. prove f given.root (record { pool = options_by given; axioms = axioms }) (unwrap_or given.workers DEFAULT_WORKERS)) o)
    by None = tt
    by (Some axioms) = (limit given.inferences h.0, workers given.workers h.1, filled)
prove-fits (two_files f g) given filled h = tt
prove-fits other_files given filled h = tt

check-fits : (files : Files) (given : Option Given) → Fits (check_with files given)
check-fits (one_file f) given = tt
check-fits (two_files f g) None = tt
check-fits (two_files f g) (Some given) = tt
check-fits other_files given = tt

bench-fits : (files : Files) (given : Option Given) → Fits (bench_with files given)
bench-fits (one_file f) None = tt
bench-fits (one_file f) (Some given) = by (number_in MOST_BENCH f) (number-counts MOST_BENCH (decimal_in f))
  where
    by : (o : Option ℕ) → IsWithin MOST_BENCH o → Fits (option_map bench o)
    by None k = tt
    by (Some n) k = k
bench-fits (two_files f g) given = tt
bench-fits other_files given = tt

model-fits : (files : Files) (given : Option Given) → Counts given → Fits (model_with files given)
model-fits (one_file f) None h = tt
model-fits (one_file f) (Some given) h = limit given.size h.2
  where
    limit : (o : Option ℕ) → IsWithin MOST_SIZE o → AreWithin MOST_SIZE (unwrap_or o DEFAULT_SIZE)
    limit None k = (omega arith, omega arith)
    limit (Some n) k = k
model-fits (two_files f g) given h = tt
model-fits other_files given h = tt

ground-fits : (files : Files) (given : Option Given) → Fits (ground_with files given)
ground-fits (one_file f) given = tt
ground-fits (two_files f g) None = tt
ground-fits (two_files f g) (Some given) = tt
ground-fits other_files given = tt

decide-fits : (files : Files) (given : Option Given) → Fits (decide_with files given)
decide-fits (one_file f) None = tt
decide-fits (one_file f) (Some given) = tt
decide-fits (two_files f g) given = tt
decide-fits other_files given = tt

with-fits :
    (name : CommandName) (words : List (List ℕ)) → Fits (command_with name (files_in (file_words words)) (options_in (options_of name) words))
with-fits Prove words =
    prove-fits (files_in (file_words words)) (options_in (options_of Prove) words) (are-filled (file_words words))
    (options-count (options_of Prove) (filter is_option words) (Some no_options) (tt, tt, tt))
with-fits Check words = check-fits (files_in (file_words words)) (options_in (options_of Check) words)
with-fits Bench words = bench-fits (files_in (file_words words)) (options_in (options_of Bench) words)
with-fits Model words =
    model-fits (files_in (file_words words)) (options_in (options_of Model) words)
    (options-count (options_of Model) (filter is_option words) (Some no_options) (tt, tt, tt))
with-fits Ground words = ground-fits (files_in (file_words words)) (options_in (options_of Ground) words)
with-fits Decide words = decide-fits (files_in (file_words words)) (options_in (options_of Decide) words)

command-fits : (words : List (List ℕ)) → Fits (command_of words)
command-fits [] = tt
command-fits (word ∷ words) = by (command_named commands word)
  where
    by :
        (name : Option CommandName)
        → Fits (option_and_then (λ n. command_with n (files_in (file_words words)) (options_in (options_of n) words)) name)
    by None = tt
    by (Some name) = with-fits name words

-- a command that words are
pub commands-fit : (words : List (List ℕ)) (command : Command) → Some command ≡ command_of words → IsFit command
commands-fit words command e = subst Fits (sym e) (command-fits words)

-- ---- words by kinds

pub mapped-rest :
    {X : Type 0} (f : X → List ℕ) (xs : List X) (i : ℕ) (x : X)
    → i < length xs → x ≡ get_or xs i x → map f (drop i xs) ≡ f x ∷ map f (drop (i + 1) xs)
mapped-rest f xs i x below there = ap (map f) (drop_more xs i x below ∙ ap (λ y. y ∷ drop (i + 1) xs) (sym there))

-- an option is no file, and another word is one more
pub file-skipped :
    (x total : FewWords) (all rest : List (List ℕ)) (w v : List ℕ)
    → all ≡ w ∷ rest → v ≡ w → is_option v ≡ true → fold few_with x (file_words all) ≡ total → fold few_with x (file_words rest) ≡ total
file-skipped x total all rest w v e same o h =
    ap (λ (b : Bool). fold few_with x (if not b then w ∷ file_words rest else file_words rest)) (sym (sym (ap is_option same) ∙ o))
    ∙ sym (ap (λ ws. fold few_with x (file_words ws)) e) ∙ h

pub file-added :
    (x next total : FewWords) (all rest : List (List ℕ)) (w v : List ℕ)
    → all ≡ w ∷ rest → v ≡ w → is_option v ≡ false → next ≡ few_with x v → fold few_with x (file_words all) ≡ total
    → fold few_with next (file_words rest) ≡ total
file-added x next total all rest w v e same o n h =
    ap (λ (y : FewWords). fold few_with y (file_words rest)) (n ∙ ap (few_with x) same)
    ∙ ap (λ (b : Bool). fold few_with x (if not b then w ∷ file_words rest else file_words rest)) (sym (sym (ap is_option same) ∙ o))
    ∙ sym (ap (λ ws. fold few_with x (file_words ws)) e) ∙ h

-- and so with options
pub option-skipped :
    (options : List OptionName) (given total : Option Given) (all rest : List (List ℕ)) (w v : List ℕ)
    → all ≡ w ∷ rest → v ≡ w → is_option v ≡ false → kept options given (filter is_option all) ≡ total
    → kept options given (filter is_option rest) ≡ total
option-skipped options given total all rest w v e same o h =
    ap (λ (b : Bool). kept options given (if b then w ∷ filter is_option rest else filter is_option rest)) (sym (sym (ap is_option same) ∙ o))
    ∙ sym (ap (λ ws. kept options given (filter is_option ws)) e) ∙ h

pub option-added :
    (options : List OptionName) (given next total : Option Given) (all rest : List (List ℕ)) (w v : List ℕ)
    → all ≡ w ∷ rest → v ≡ w → is_option v ≡ true → next ≡ option_and_then (λ o. with_option options o v) given
    → kept options given (filter is_option all) ≡ total → kept options next (filter is_option rest) ≡ total
option-added options given next total all rest w v e same o n h =
    ap (λ (g : Option Given). kept options g (filter is_option rest)) (n ∙ ap (λ u. option_and_then (λ p. with_option options p u) given) same)
    ∙ ap (λ (b : Bool). kept options given (if b then w ∷ filter is_option rest else filter is_option rest)) (sym (sym (ap is_option same) ∙ o))
    ∙ sym (ap (λ ws. kept options given (filter is_option ws)) e) ∙ h

-- ---- commands

pub command-counted :
    (all words : List (List ℕ)) (word v : List ℕ) (name : CommandName) (options : List OptionName) (files : FewWords) (given : Option Given)
    (command : Option Command)
    → all ≡ word ∷ words → v ≡ word → Some name ≡ command_named commands v → options ≡ options_of name → files ≡ few_of (file_words words)
    → given ≡ options_in options words → command ≡ command_with name (files_by files) given → command ≡ command_of all
command-counted all words word v name options files given command a same n os f g c =
    c
    ∙ ap (λ fs. command_with name fs given) (ap files_by f ∙ files-counted (file_words words))
    ∙ ap (command_with name (files_in (file_words words))) (g ∙ ap (λ o. options_in o words) os)
    ∙ ap (λ m. option_and_then (λ k. command_with k (files_in (file_words words)) (options_in (options_of k) words)) m)
    (n ∙ ap (command_named commands) same)
    ∙ sym (ap command_of a)
