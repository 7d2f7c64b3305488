-- The texts of names and of the parts of inferences, as they are printed one after another.
use Rattle.std.specs.Prelude.{ℕ, List, [], ◌∷◌, ◌++◌, map, codes, if◌then◌else◌}
use Rattle.plain_types.specs.declared.sequence.NameLit.{NameLit}
use Rattle.kernel_steps.specs.declared.step.Step.{Step}
use Rattle.kernel_steps.specs.declared.step.Step.TheVariants.{Component, Opposite}
use Rattle.kernel_steps.specs.Keys.{commas_before, with_commas}
use Rattle.tptp_source.specs.General.{GeneralTree}
use Rattle.tstp_writer.specs.SourceTexts.{general_text}
use Rattle.tstp_writer.specs.ClauseTrees.{introduced_name}

abbrev pub signed_name_text : List ℕ → NameLit → List ℕ
signed_name_text prefix n = (if n.positive then [] else codes "~") ++ introduced_name prefix n.name

-- names, each after a bar
abbrev pub more_names_text : List ℕ → List NameLit → List ℕ
more_names_text prefix [] = []
more_names_text prefix (n ∷ ns) = codes " | " ++ signed_name_text prefix n ++ more_names_text prefix ns

-- terms, each after a comma
abbrev pub more_items_text : List GeneralTree → List ℕ
more_items_text ts = commas_before (map general_text ts)

-- the two parts of a definition of a name
abbrev pub definition_text : List ℕ → List ℕ → List ℕ
definition_text way name = codes "introduced(definition,[" ++ way ++ codes "(" ++ name ++ codes ")])"

abbrev pub introduction_text : List ℕ → Step → List ℕ
introduction_text prefix (Component name) = definition_text (codes "component") (introduced_name prefix name)
introduction_text prefix (Opposite name) = definition_text (codes "opposite") (introduced_name prefix name)
introduction_text prefix _ = []

abbrev pub inference_text : List ℕ → List ℕ → List GeneralTree → List (List ℕ) → List ℕ
inference_text rule status items parents =
    codes "inference(" ++ rule ++ codes ",[status(" ++ status ++ codes ")" ++ more_items_text items ++ codes "],["
    ++ with_commas parents ++ codes "])"

-- an annotated formula up to its role
abbrev pub head_text : List ℕ → List ℕ → List ℕ → List ℕ
head_text language name role = language ++ codes "(" ++ name ++ codes "," ++ role ++ codes ","
