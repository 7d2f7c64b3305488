use Rattle.std.proofs.Common.{◌≡◌, drop}
use Rattle.command_words.specs.Words.{option_named}
use Rattle.command_words.proofs.options.option_named.Given as goal

abbrev pub invariant-loop-option : goal.invariant-loop-option
invariant-loop-option l = option_named (drop l.option-index l.options) l.name ≡ option_named l.options l.name
