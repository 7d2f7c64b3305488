-- The program's scripts in the words of the definitions.
use Rattle.std.specs.Prelude.{map}
use Rattle.tptp_tree.specs.Shape.{entry_of}
use Rattle.tstp_writer.specs.LineTrees.{Script}
use Rattle.tstp_writer.specs.declared.script.Script.{Script as LentScript}

abbrev pub script_in : LentScript → Script
script_in s = record {
  file = s.file.now;
  formulas = map entry_of s.formulas.now;
  symbols = s.symbols.now;
  origins = s.origins.now;
  prefix = s.prefix.now;
}
