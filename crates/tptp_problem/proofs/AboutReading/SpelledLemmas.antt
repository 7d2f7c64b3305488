-- The formulas of a problem are those that its files spell, and these are determined.
use Rattle.std.proofs.Common.{◌≡◌, ◌≤◌, ℕ, zero, suc, Bool, true, false, None, Some, Option, List, [], ◌∷◌, ◌++◌, map, drop, length, refl, ap, ap₂, sym, ◌∙◌, subst}
use Rattle.std.specs.Prelude.{if◌then◌else◌}
use Rattle.std.specs.List.{list_all, filter}
use Rattle.std.proofs.lemmas.Bool.{and_from}
use Rattle.std.proofs.lemmas.List.{drop_all, length-map, map-append}
use Rattle.outside.specs.Library.{Holdings}
use Rattle.tptp_token.specs.Lexemes.{lexeme_at}
use Rattle.tptp_token.specs.Words.{Word, name_of}
use Rattle.tptp_tree.specs.Entries.{EntryPhrase, annotated_entry, is_right_entry, entry_lexemes, problem_lexemes, EntryTree, annotated_tree, include_tree, NamePhrase, names_meant, IsEntryOf, AreEntriesOf, SpellsEntries}
use Rattle.tptp_tree.proofs.AboutPrinting.AgainLemmas.{one_entries}
use Rattle.tptp_tree.specs.Shape.{entry_of}
use Rattle.tptp_problem.specs.declared.limits.TheConstants.{MOST_INCLUDES}
use Rattle.tptp_problem.specs.Files.{base_of, loaded_name}
use Rattle.tptp_problem.specs.Languages.{selects, selected}
use Rattle.tptp_problem.specs.Formulas.{Placed, annotated_formulas}
use Rattle.tptp_problem.specs.Includes.{is_include, include_phrase}
use Rattle.tptp_problem.specs.Problem.{LoadedFile, Progress, Step, Reads, tokens_of, lexemes, with_file, IsStepBy, IsIncludeStep, IsFormulaStep, AreSteps, next_behind, formulas_along, ReadsNamed, IsProblem}
use Rattle.tptp_problem.specs.Spelled.{FromFile, from_file, Gives, taken, EntryGives, EntriesGive, NamedGives, SpellsProblem}

-- ---- selections

selected-from : (names : List (List ℕ)) (fs : List Placed) → map from_file (selected annotated_formulas names fs) ≡ filter (λ (f : FromFile). selects names f.tree.name) (map from_file fs)
selected-from names [] = refl
selected-from names (f ∷ fs) = by (selects names f.tree.name) (selected-from names fs)
  where
    by :
        (b : Bool) → map from_file (selected annotated_formulas names fs) ≡ filter (λ (g : FromFile). selects names g.tree.name) (map from_file fs)
        → map from_file (if b then f ∷ selected annotated_formulas names fs else selected annotated_formulas names fs)
        ≡ (if b then from_file f ∷ filter (λ (g : FromFile). selects names g.tree.name) (map from_file fs) else filter (λ (g : FromFile). selects names g.tree.name) (map from_file fs))
    by true h = ap (λ gs. from_file f ∷ gs) h
    by false h = h

all-selected : (fs : List Placed) → map from_file (selected annotated_formulas [] fs) ≡ map from_file fs
all-selected [] = refl
all-selected (f ∷ fs) = ap (λ gs. from_file f ∷ gs) (all-selected fs)

-- ---- one entry

-- the entry from one token up to another, and what it gives
record Spelled (base : List ℕ) (gives : Gives) (file : LoadedFile) (first next : ℕ) (formulas : List Placed) : Type 0 where
  phrase : EntryPhrase
  right : is_right_entry phrase ≡ true
  spelled : drop first (lexemes file) ≡ entry_lexemes phrase (drop next (lexemes file))
  entry : EntryTree
  says : IsEntryOf phrase entry
  given : EntryGives base gives file.name entry (map from_file formulas)

-- what is read is given
record AreGiven (reads : Reads annotated_formulas) (gives : Gives) : Type 0 where
  by :
      (name : List ℕ) (around : List (List (List ℕ))) (start now : Progress) (fs : List Placed)
      → reads name around start fs now → gives name (map from_file fs)

formula-spelled :
    (base : List ℕ) (gives : Gives) (file : LoadedFile) (first : ℕ) (progress : Progress) (s : Step annotated_formulas)
    → IsFormulaStep annotated_formulas file first progress s → Spelled base gives file first s.next s.formulas
formula-spelled base gives file first progress s h = record {
  phrase = annotated_entry h.read.reading.phrase;
  right = h.read.reading.spelled.right;
  spelled =
      h.read.reading.spelled.spelled
      ∙ ap (λ n. entry_lexemes (annotated_entry h.read.reading.phrase) (drop n (lexemes file))) (sym h.read.next_is);
  entry = annotated_tree (entry_of h.read.read.annotated);
  says = (entry_of h.read.read.annotated, h.read.reading.meant, refl);
  given = ap (map from_file) h.formulas_are ∙ ap (λ (f : Placed). from_file f ∷ []) h.read.formula_is;
}

abbrev include-entry : Word → List NamePhrase → EntryTree
include-entry file [] = include_tree (name_of file) None
include-entry file (n ∷ ns) = include_tree (name_of file) (Some (names_meant (n ∷ ns)))

include-says : (file : Word) (names : List NamePhrase) → IsEntryOf (include_phrase file names) (include-entry file names)
include-says file [] = refl
include-says file (n ∷ ns) = refl

include-gives :
    (base : List ℕ) (gives : Gives) (name : List ℕ) (file : Word) (names : List NamePhrase) (all fs : List Placed)
    → gives (loaded_name base (name_of file)) (map from_file all) → fs ≡ selected annotated_formulas (names_meant names) all
    → EntryGives base gives name (include-entry file names) (map from_file fs)
include-gives base gives name file [] all fs g e = (map from_file all, g, ap (map from_file) e ∙ all-selected all)
include-gives base gives name file (n ∷ ns) all fs g e = (map from_file all, g, ap (map from_file) e ∙ selected-from (names_meant (n ∷ ns)) all)

include-spelled :
    (base : List ℕ) (reads : Reads annotated_formulas) (gives : Gives) (file : LoadedFile) (first : ℕ) (progress : Progress) (s : Step annotated_formulas)
    → AreGiven reads gives → IsIncludeStep annotated_formulas base reads file first progress s → Spelled base gives file first s.next s.formulas
include-spelled base reads gives file first progress s each h = record {
  phrase = include_phrase h.file h.names;
  right = h.spelled.right;
  spelled = h.spelled.spelled;
  entry = include-entry h.file h.names;
  says = include-says h.file h.names;
  given = include-gives base gives file.name h.file h.names h.formulas s.formulas (each.by _ _ progress s.progress h.formulas h.read) h.taken;
}

step-spelled :
    (base : List ℕ) (reads : Reads annotated_formulas) (gives : Gives) (file : LoadedFile) (first : ℕ) (progress : Progress) (s : Step annotated_formulas) (b : Bool)
    → AreGiven reads gives → IsStepBy annotated_formulas base reads file b first progress s → Spelled base gives file first s.next s.formulas
step-spelled base reads gives file first progress s true each h = include-spelled base reads gives file first progress s each h
step-spelled base reads gives file first progress s false each h = formula-spelled base gives file first progress s h

-- ---- entries and files

record AllSpelled (base : List ℕ) (gives : Gives) (file : LoadedFile) (first : ℕ) (formulas : List Placed) : Type 0 where
  phrases : List EntryPhrase
  right : list_all is_right_entry phrases ≡ true
  spelled : drop first (lexemes file) ≡ problem_lexemes phrases
  entries : List EntryTree
  says : AreEntriesOf phrases entries
  given : EntriesGive base gives file.name entries (map from_file formulas)

none-left : (file : LoadedFile) (first : ℕ) → length (tokens_of file) ≤ first → drop first (lexemes file) ≡ []
none-left file first h = drop_all first (lexemes file) (subst (λ n. n ≤ first) (sym (length-map (tokens_of file) (lexeme_at file.bytes))) h)

steps-spelled :
    (base : List ℕ) (reads : Reads annotated_formulas) (gives : Gives) (file : LoadedFile) (first : ℕ) (progress : Progress) (ss : List (Step annotated_formulas))
    → AreGiven reads gives → AreSteps annotated_formulas base reads file first progress ss → length (tokens_of file) ≤ next_behind annotated_formulas first ss
    → AllSpelled base gives file first (formulas_along annotated_formulas ss)
steps-spelled base reads gives file first progress [] each are end =
    record { phrases = []; right = refl; spelled = none-left file first end; entries = []; says = tt; given = refl }
steps-spelled base reads gives file first progress (s ∷ ss) each are end =
    let one = step-spelled base reads gives file first progress s (is_include (drop first (lexemes file))) each are.0.1 in
    let more = steps-spelled base reads gives file s.next s.progress ss each are.1 end in
    record {
      phrases = one.phrase ∷ more.phrases;
      right = and_from (is_right_entry one.phrase) (list_all is_right_entry more.phrases) one.right more.right;
      spelled = one.spelled ∙ ap (entry_lexemes one.phrase) more.spelled;
      entries = one.entry ∷ more.entries;
      says = (one.says, more.says);
      given = (
        map from_file s.formulas,
        map from_file (formulas_along annotated_formulas ss),
        one.given,
        more.given,
        map-append from_file s.formulas (formulas_along annotated_formulas ss),
      );
    }

named-given : (told : Option Holdings) (base : List ℕ) (depth : ℕ) → AreGiven (ReadsNamed annotated_formulas told base depth) (NamedGives told base depth)
named-given told base zero = record { by = λ name around start now fs h. h }
named-given told base (suc depth) = record {
  by = λ name around start now fs h.
      let file : LoadedFile = record { name = name; bytes = h.bytes; around = around } in
      let all =
      steps-spelled base (ReadsNamed annotated_formulas told base depth) (NamedGives told base depth) file 0 (with_file h.bytes start) h.text.steps
      (named-given told base depth) h.text.are h.text.ended in
      record {
        bytes = h.bytes;
        held = h.given.held;
        entries = all.entries;
        spelled = (all.phrases, all.right, record { whole = h.text.clean; tokens = all.spelled }, all.says);
        given = subst (λ gs. EntriesGive base (NamedGives told base depth) name all.entries (map from_file gs)) (sym h.text.formulas_are) all.given;
      };
}

pub problem-spelled :
    (told : Option Holdings) (file : List ℕ) (root : Option (List ℕ)) (fs : List Placed)
    → IsProblem told file root fs → SpellsProblem told file root (map from_file fs)
problem-spelled told file root fs h =
    (named-given told (base_of root file) (suc MOST_INCLUDES)).by file [] (record { loaded = 0; met = false }) h.0 fs h.1

-- ---- what is spelled is determined

record AreOne (gives : Gives) : Type 0 where
  by : (name : List ℕ) (fs gs : List FromFile) → gives name fs → gives name gs → fs ≡ gs

entry-one :
    (base : List ℕ) (gives : Gives) (file : List ℕ) (e : EntryTree) (fs gs : List FromFile)
    → AreOne gives → EntryGives base gives file e fs → EntryGives base gives file e gs → fs ≡ gs
entry-one base gives file (annotated_tree tree) fs gs one h k = h ∙ sym k
entry-one base gives file (include_tree word names) fs gs one h k =
    h.2 ∙ ap (taken names) (one.by (loaded_name base word) h.0 k.0 h.1 k.1) ∙ sym k.2

entries-one :
    (base : List ℕ) (gives : Gives) (file : List ℕ) (es : List EntryTree) (fs gs : List FromFile)
    → AreOne gives → EntriesGive base gives file es fs → EntriesGive base gives file es gs → fs ≡ gs
entries-one base gives file [] fs gs one h k = h ∙ sym k
entries-one base gives file (e ∷ es) fs gs one h k =
    h.4 ∙ ap₂ (λ first others. first ++ others) (entry-one base gives file e h.0 k.0 one h.2 k.2) (entries-one base gives file es h.1 k.1 one h.3 k.3) ∙ sym k.4

some-one : (o : Option (List ℕ)) (xs ys : List ℕ) → o ≡ Some xs → o ≡ Some ys → xs ≡ ys
some-one o xs ys h k = by (sym h ∙ k)
  where
    by : Some xs ≡ Some ys → xs ≡ ys
    by e = cc

named-one : (holds : Holdings) (base : List ℕ) (depth : ℕ) → AreOne (NamedGives (Some holds) base depth)
named-one holds base zero = record { by = λ name fs gs h k. absurd h }
named-one holds base (suc depth) = record {
  by = λ name fs gs h k.
      let bytes = some-one (holds name) h.bytes k.bytes h.held k.held in
      let entries = one_entries h.bytes h.entries k.entries h.spelled (subst (λ bs. SpellsEntries bs k.entries) (sym bytes) k.spelled) in
      entries-one base (NamedGives (Some holds) base depth) name h.entries fs gs (named-one holds base depth) h.given
      (subst (λ es. EntriesGive base (NamedGives (Some holds) base depth) name es gs) (sym entries) k.given);
}

pub one-spelled :
    (holds : Holdings) (file : List ℕ) (root : Option (List ℕ)) (fs gs : List FromFile)
    → SpellsProblem (Some holds) file root fs → SpellsProblem (Some holds) file root gs → fs ≡ gs
one-spelled holds file root fs gs h k = (named-one holds (base_of root file) (suc MOST_INCLUDES)).by file fs gs h k
