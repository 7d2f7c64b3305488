use Rattle.std.proofs.Common.{map, ap}
use Rattle.std.specs.Prelude.{string_bytes}
use Rattle.command_words.proofs.AboutWords.WordLemmas.{command-counted}
use Rattle.command_words.proofs.words.command_in.Goals as goal

pub returns : goal.returns
returns c =
    command-counted (map string_bytes c.args.words.now) (map string_bytes c.in_ok-word.rest.now) (string_bytes c.in_ok-word.word.now)
    c.as_str.result.now c.in_ok-name.name c.options.result.now _ _ _ (ap (map string_bytes) c.in_ok-word.ensures.cases.0) c.as_str.ensures.value
    c.in_ok-name.ensures c.options.ensures c.arguments_of.ensures.files c.arguments_of.ensures.options c.command_with.ensures
