use Rattle.std.proofs.Common.{◌≡◌, drop, map}
use Rattle.std.specs.Prelude.{fold, string_bytes, option_and_then, option_map}
use Rattle.std.specs.List.{filter}
use Rattle.command_words.specs.Words.{is_option, file_words, with_option, options_in}
use Rattle.command_words.specs.WordParts.{few_with, few_of, few_meant, given_meant}
use Rattle.command_words.proofs.words.arguments_of.Given as goal

abbrev pub invariant-loop-word : goal.invariant-loop-word
invariant-loop-word l =
    (fold few_with (few_meant l.files) (file_words (map string_bytes (drop l.word-index l.words))) ≡ few_of (file_words (map string_bytes l.words)))
    × (fold (λ g w. option_and_then (λ o. with_option l.options o w) g) (option_map given_meant l.given)
    (filter is_option (map string_bytes (drop l.word-index l.words)))
    ≡ options_in l.options (map string_bytes l.words))
