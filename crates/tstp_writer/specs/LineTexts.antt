-- The printed texts of the lines of a derivation.
use Rattle.std.specs.Prelude.{ℕ, List, [], ◌∷◌, ◌++◌, flat_map, codes, Option, None, Some}
use Rattle.tptp_tree.specs.Entries.{AnnotatedTree, language_word, role_word}
pub use Rattle.tptp_tree.specs.Printing.{formula_name_text}
use Rattle.tptp_tree.specs.Printing.{formula_text}
use Rattle.clausal_form.specs.DerivationLine.{LineTree}
use Rattle.tstp_writer.specs.SourceTexts.{source_text}

-- an annotated formula up to its formula
abbrev pub entry_text : AnnotatedTree → List ℕ
entry_text a =
    language_word a.is_clause ++ codes "(" ++ formula_name_text a.name ++ codes "," ++ role_word a.role ++ codes ","
    ++ formula_text a.formula

-- one line of text
abbrev pub line_text : LineTree → List ℕ
line_text t = entry_text t.entry ++ codes "," ++ source_text t.source ++ codes ").\n"

abbrev pub lines_text : List LineTree → List ℕ
lines_text ts = flat_map line_text ts

-- the line that there is, or nothing
abbrev pub shown_text : Option LineTree → List ℕ
shown_text None = []
shown_text (Some t) = line_text t

-- the lines that there are for numbers
abbrev pub shown_texts : (ℕ → Option LineTree) → List ℕ → List ℕ
shown_texts tree [] = []
shown_texts tree (n ∷ ns) = shown_text (tree n) ++ shown_texts tree ns
