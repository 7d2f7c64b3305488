use Rattle.std.proofs.Common.{◌≡◌, ◌∷◌, ◌+◌, List, ℕ, Some, map, drop, refl, ap, sym, ◌∙◌}
use Rattle.std.specs.Prelude.{fold, string_bytes, option_and_then}
use Rattle.std.specs.List.{filter}
use Rattle.std.specs.Option.{option_map}
use Rattle.command_words.specs.Words.{Given, is_option, file_words, with_option}
use Rattle.command_words.specs.WordParts.{few_with, few_meant, given_meant}
use Rattle.command_words.proofs.AboutWords.WordLemmas.{mapped-rest, file-skipped, file-added, option-skipped, option-added}
use Rattle.command_words.proofs.words.arguments_of.Goals as goal
use Rattle.command_words.proofs.words.arguments_of.Goals.{then-is_option, else-is_option}

pub loop-word-init : goal.loop-word-init
loop-word-init c = (
  refl,
  ap
      (λ (g : Given).
      fold (λ k w. option_and_then (λ o. with_option c.args.options.now o w) k) (Some g) (filter is_option (map string_bytes c.args.words.now)))
      c.none.ensures,
)

pub loop-word-preserved : goal.loop-word-preserved
loop-word-preserved c =
    let all : List (List ℕ) = map string_bytes (drop c.loop-word.word-index c.args.words.now) in
    let rest : List (List ℕ) = map string_bytes (drop (c.loop-word.word-index + 1) c.args.words.now) in
    let more : all ≡ string_bytes c.word-item.result ∷ rest =
    mapped-rest string_bytes c.args.words.now c.loop-word.word-index c.word-item.result c.loop-word-test.true c.word-item.is in
    elim c.if-is_option.branch [
      | then-is_option w ↦ (
        ap (λ fs. fold few_with (few_meant fs) (file_words rest)) w.files-is
            ∙ file-skipped (few_meant c.loop-word.files) _ all rest _ c.as_str-word.result.now more c.as_str-word.ensures.value
            (sym c.is_option.ensures ∙ w.if-is_option.true) c.loop-word.invariant.0,
        option-added c.args.options.now (option_map given_meant c.loop-word.given) _ _ all rest _ c.as_str-word.result.now more
            c.as_str-word.ensures.value (sym c.is_option.ensures ∙ w.if-is_option.true)
            (ap (option_map given_meant) w.given-is ∙ w.given_with-given.ensures) c.loop-word.invariant.1,
      )
      | else-is_option w ↦ (
        file-added (few_meant c.loop-word.files) _ _ all rest _ c.as_str-word.result.now more c.as_str-word.ensures.value
            (sym c.is_option.ensures ∙ w.if-is_option.false) (ap few_meant w.files-is ∙ w.with-files.ensures) c.loop-word.invariant.0,
        ap (λ g. fold (λ k v. option_and_then (λ o. with_option c.args.options.now o v) k) (option_map given_meant g) (filter is_option rest)) w.given-is
            ∙ option-skipped c.args.options.now (option_map given_meant c.loop-word.given) _ all rest _ c.as_str-word.result.now more
            c.as_str-word.ensures.value (sym c.is_option.ensures ∙ w.if-is_option.false) c.loop-word.invariant.1,
      )
    ]
