-- No text is without an answer.
use Rattle.std.proofs.Common.{◌≡◌, ℕ, zero, suc, ◌+◌, ◌<◌, ◌⊎◌, inl, inr, List, [], ◌∷◌, ◌++◌, length, Option, Some, None, refl, ap, sym, ◌∙◌, subst, arith}
use Rattle.std.proofs.lemmas.Option.{none-some}
use Rattle.tptp_token.specs.Lexemes.{Lexeme}
use Rattle.tptp_token.specs.Lexing.{lexed_of}
use Rattle.tptp_token.specs.declared.token.LexFault.{LexFault}
use Rattle.tptp_tree.specs.Entries.{AnnotatedPhrase}
use Rattle.tptp_tree.specs.declared.problem.Annotated.{Annotated}
use Rattle.clausal_form.specs.DerivationLine.{LineTree, Taken, nothing_taken, with_line}
use Rattle.clausal_form.specs.DerivationParts.{Setting, setting_of}
use Rattle.clausal_form.specs.DerivationCauses.{text, LineVerdict, refused, taken, line_verdict}
use Rattle.clausal_form.specs.DerivationLines.{all_taken, after_line, lines_verdict_from, lines_verdict, Answer, refused_line, ended}
use Rattle.clausal_form.specs.DerivationLaws.{TextsHaveSomeAnswer}
use Rattle.clausal_form.specs.DerivationTexts.{AreLinesOf, phrases_lexemes, SpellsLines, text_tokens, IsEnd, IsAnswerOn}
use Rattle.clausal_form.proofs.AboutCounts.LengthLemmas.{annotated-longer}
use Rattle.clausal_form.proofs.AboutDerivations.TextLemmas.{joined, verdict-joined}
use Rattle.clausal_form.proofs.AboutDerivations.SpelledLemmas.{answered}

-- a line takes up tokens
one-shorter : (ps : List AnnotatedPhrase) (t : LineTree) (rest : List Lexeme) → AreLinesOf ps (t ∷ []) → length rest < length (phrases_lexemes ps rest)
one-shorter [] t rest h = absurd h
one-shorter (p ∷ []) t rest h = annotated-longer p rest
one-shorter (p ∷ q ∷ ps) t rest h = absurd h.1

shorter : (tokens : List Lexeme) (t : LineTree) (rest : List Lexeme) → SpellsLines tokens (t ∷ []) rest → length rest < length tokens
shorter tokens t rest h = subst (λ ls. length rest < length ls) (sym h.spelled) (one-shorter h.phrases t rest h.lines)

end-or-not : (bytes : List ℕ) (rest : List Lexeme) → IsEnd bytes rest ⊎ (IsEnd bytes rest → ⊥)
end-or-not bytes [] = by (lexed_of bytes).fault refl
  where
    by : (o : Option LexFault) → (lexed_of bytes).fault ≡ o → IsEnd bytes [] ⊎ (IsEnd bytes [] → ⊥)
    by None h = inl (refl, h)
    by (Some f) h = inr (λ end. none-some f (sym end.1 ∙ h))
end-or-not bytes (l ∷ ls) = inr (λ end. let e : l ∷ ls ≡ [] = end.0 in cc)

abbrev NoAnswer : List Annotated → List ℕ → Type 0
NoAnswer problem bytes = (x : Answer) → IsAnswerOn problem bytes x → ⊥

-- the verdict on a line more
one-more :
    (s : Setting) (ts : List LineTree) (t : LineTree) (e : Taken) → lines_verdict s ts ≡ all_taken e
    → lines_verdict s (ts ++ t ∷ []) ≡ after_line e t (line_verdict s e t)
one-more s ts t e h = verdict-joined s (all_taken nothing_taken) ts (t ∷ []) ∙ ap (λ v. lines_verdict_from s v (t ∷ [])) h

some-answer :
    (problem : List Annotated) (bytes : List ℕ) → NoAnswer problem bytes → (fuel : ℕ) (ts : List LineTree) (rest : List Lexeme) (e : Taken)
    → length rest < fuel → SpellsLines (text_tokens bytes) ts rest → lines_verdict (setting_of problem) ts ≡ all_taken e → ⊥
some-answer problem bytes none zero ts rest e less spelled h = let no : ⊥ = omega (arith, less) in no
some-answer problem bytes none (suc fuel) ts rest e less spelled h =
    by (end-or-not bytes rest)
    (λ t more line d k.
    some-answer problem bytes none fuel (ts ++ t ∷ []) more d (omega (arith, less, shorter rest t more line))
    (joined (text_tokens bytes) rest more ts (t ∷ []) spelled line) k)
  where
    Later : Type 0
    Later =
        (t : LineTree) (more : List Lexeme) → SpellsLines rest (t ∷ []) more → (d : Taken) → lines_verdict (setting_of problem) (ts ++ t ∷ []) ≡ all_taken d
        → ⊥

    read :
        Later → (t : LineTree) (more : List Lexeme) → SpellsLines rest (t ∷ []) more → (v : LineVerdict)
        → line_verdict (setting_of problem) e t ≡ v → ⊥
    read later t more line (taken l) k =
        later t more line (with_line e t l) (one-more (setting_of problem) ts t e h ∙ ap (after_line e t) k)
    read later t more line (refused cause) k =
        none (refused_line (length e.lines + 1) cause) (record {
          before = ts;
          rest = rest;
          spelled = spelled;
          taken = e;
          all_before = h;
          wrong = inr (inr (t, more, line, one-more (setting_of problem) ts t e h ∙ ap (after_line e t) k));
        })

    by : IsEnd bytes rest ⊎ (IsEnd bytes rest → ⊥) → Later → ⊥
    by (inl end) later = none (ended (all_taken e)) (answered problem bytes ts (rest, spelled, end) (all_taken e) h)
    by (inr goes_on) later =
        none (refused_line (length ts + 1) text) (record {
          before = ts;
          rest = rest;
          spelled = spelled;
          taken = e;
          all_before = h;
          wrong =
              inr (inl (goes_on, (λ t more line. read later t more line (line_verdict (setting_of problem) e t) refl), refl, refl));
        })

pub texts_have_some_answer : TextsHaveSomeAnswer
texts_have_some_answer problem bytes none =
    some-answer problem bytes none (length (text_tokens bytes) + 1) [] (text_tokens bytes) nothing_taken (omega arith)
    (record { phrases = []; spelled = refl; lines = tt }) refl
