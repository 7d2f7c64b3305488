-- The program's sources as trees.
use Rattle.tptp_source.specs.Shape.{tree_of}
use Rattle.tptp_source.specs.Sources.{SourceTree, file_source, inference_source, component_source, opposite_source}
use Rattle.tptp_source.specs.declared.source.Source.{Source}
use Rattle.tptp_source.specs.declared.source.Source.TheVariants.{File, Inference, Component, Opposite}

abbrev pub source_of : Source → SourceTree
source_of (File f n) = file_source (tree_of f) n
source_of (Inference rule items parents) = inference_source (tree_of rule) items parents
source_of (Component n) = component_source n
source_of (Opposite n) = opposite_source n
