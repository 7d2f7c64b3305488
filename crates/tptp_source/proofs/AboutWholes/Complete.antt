-- The machine reads each phrase as its term.
use Rattle.std.proofs.Common.{append_assoc, append-nil, ◌≡◌, ℕ, false, List, [], ◌∷◌, ◌++◌, codes, Some, Option, refl, sym, ap, ◌∙◌, subst}
use Rattle.tptp_token.specs.Words.{bare, quoted}
use Rattle.tptp_token.specs.Lexemes.{Lexeme}
use Rattle.tptp_source.specs.declared.sign.NumberSign.TheVariants.{Unsigned, Plus, Minus}
use Rattle.tptp_source.specs.General.{GeneralTree, whole}
use Rattle.tptp_source.specs.Spelling.{PartPhrase, variable_part, word_part, dollar_part, number_part, distinct_part, negated_part, list_part, PartPhrases, no_parts, part_then, GeneralPhrase, parts, GeneralPhrases, no_phrases, phrase_then, part_lexemes, arguments_lexemes, items_lexemes, more_lexemes, general_lexemes, more_parts_lexemes, part_meant, parts_meant, general_meant, phrases_meant, SpellsGeneral}
use Rattle.tptp_source.specs.Machine.{Opener, word_opens, dollar_opens, list_opens, bracketed, closing, Level, level, wants, may_open, in_list, has, ends, begins_with, run, read}
use Rattle.tptp_source.proofs.AboutWholes.RunLemmas.{run-unmarked}
use Rattle.tptp_source.proofs.AboutParts.ItemReads.{close-step}

-- ---- what phrases begin with

no_close-first : (p : PartPhrase) (rest : List Lexeme) → begins_with (codes "]") (part_lexemes p rest) ≡ false
no_close-first (variable_part x) rest = refl
no_close-first (word_part (bare f) ts) rest = refl
no_close-first (word_part (quoted f) ts) rest = refl
no_close-first (dollar_part d ts) rest = refl
no_close-first (number_part Unsigned n) rest = refl
no_close-first (number_part Plus n) rest = refl
no_close-first (number_part Minus n) rest = refl
no_close-first (distinct_part d) rest = refl
no_close-first (negated_part w) rest = refl
no_close-first (list_part ts) rest = refl

no_close-general : (p : GeneralPhrase) (rest : List Lexeme) → begins_with (codes "]") (general_lexemes p rest) ≡ false
no_close-general (parts p ps) rest = no_close-first p (more_parts_lexemes ps rest)

no_open-parts :
    (ps : PartPhrases) (rest : List Lexeme) → begins_with (codes "(") rest ≡ false → begins_with (codes "(") (more_parts_lexemes ps rest) ≡ false
no_open-parts no_parts rest h = h
no_open-parts (part_then p ps) rest h = refl

no_open-more : (o : Opener) (ts : GeneralPhrases) (rest : List Lexeme) → begins_with (codes "(") (more_lexemes (closing o) ts rest) ≡ false
no_open-more (word_opens f) no_phrases rest = refl
no_open-more (dollar_opens d) no_phrases rest = refl
no_open-more list_opens no_phrases rest = refl
no_open-more o (phrase_then t ts) rest = refl

no_colon-more : (o : Opener) (ts : GeneralPhrases) (rest : List Lexeme) → begins_with (codes ":") (more_lexemes (closing o) ts rest) ≡ false
no_colon-more (word_opens f) no_phrases rest = refl
no_colon-more (dollar_opens d) no_phrases rest = refl
no_colon-more list_opens no_phrases rest = refl
no_colon-more o (phrase_then t ts) rest = refl

-- ---- runs

mutual
  part-run :
      (p : PartPhrase) (before : List GeneralTree) (levels : List Level) (rest : List Lexeme)
      → begins_with (codes "(") rest ≡ false
      → run (Some (wants before levels)) (part_lexemes p rest) ≡ run (Some (has (before ++ part_meant p ∷ []) levels)) rest
  part-run (variable_part x) before levels rest h = refl
  part-run (word_part (bare f) ts) before levels rest h = arguments-run (word_opens f) refl ts before levels rest h
  part-run (word_part (quoted f) ts) before levels rest h = arguments-run (word_opens _) refl ts before levels rest h
  part-run (dollar_part d ts) before levels rest h = arguments-run (dollar_opens d) refl ts before levels rest h
  part-run (number_part Unsigned n) before levels rest h = refl
  part-run (number_part Plus n) before levels rest h = refl
  part-run (number_part Minus n) before levels rest h = refl
  part-run (distinct_part d) before levels rest h = refl
  part-run (negated_part (bare f)) before levels rest h = refl
  part-run (negated_part (quoted f)) before levels rest h = refl
  part-run (list_part ts) before levels rest h = items-run ts before levels rest

  arguments-run :
      (o : Opener) → closing o ≡ codes ")" → (ts : GeneralPhrases) (before : List GeneralTree) (levels : List Level) (rest : List Lexeme)
      → begins_with (codes "(") rest ≡ false
      → run (Some (may_open o before levels)) (arguments_lexemes ts rest)
      ≡ run (Some (has (before ++ bracketed o (phrases_meant ts) ∷ []) levels)) rest
  arguments-run o e no_phrases before levels rest h =
      run-unmarked (codes "(") (may_open o before levels) (has (before ++ bracketed o [] ∷ []) levels) rest h (λ t k. rw k refl) refl
  arguments-run o e (phrase_then t ts) before levels rest h =
      subst
      (λ (m : List ℕ). run (Some (wants [] (level o before [] ∷ levels))) (general_lexemes t (more_lexemes m ts rest)) ≡ run (Some (has (before ++ bracketed o (general_meant t ∷ phrases_meant ts) ∷ []) levels)) rest)
      e
      (general-run t (level o before [] ∷ levels) (more_lexemes (closing o) ts rest) (no_open-more o ts rest) (no_colon-more o ts rest)
      ∙ more-run o ts (general_meant t) before [] levels rest)

  items-run :
      (ts : GeneralPhrases) (before : List GeneralTree) (levels : List Level) (rest : List Lexeme)
      → run (Some (in_list before levels)) (items_lexemes ts rest)
      ≡ run (Some (has (before ++ bracketed list_opens (phrases_meant ts) ∷ []) levels)) rest
  items-run no_phrases before levels rest = refl
  items-run (phrase_then t ts) before levels rest =
      run-unmarked (codes "]") (in_list before levels) (wants [] (level list_opens before [] ∷ levels)) (general_lexemes t (more_lexemes (codes "]") ts rest))
      (no_close-general t (more_lexemes (codes "]") ts rest)) (λ l k. rw k refl) refl
      ∙ general-run t (level list_opens before [] ∷ levels) (more_lexemes (codes "]") ts rest) (no_open-more list_opens ts rest)
      (no_colon-more list_opens ts rest)
      ∙ more-run list_opens ts (general_meant t) before [] levels rest

  more-run :
      (o : Opener) (ts : GeneralPhrases) (u : GeneralTree) (before items : List GeneralTree) (levels : List Level) (rest : List Lexeme)
      → run (Some (ends u (level o before items ∷ levels))) (more_lexemes (closing o) ts rest)
      ≡ run (Some (has (before ++ bracketed o (items ++ u ∷ phrases_meant ts) ∷ []) levels)) rest
  more-run o no_phrases u before items levels rest = ap (λ s. run s rest) (close-step o u before items levels)
  more-run o (phrase_then t ts) u before items levels rest =
      general-run t (level o before (items ++ u ∷ []) ∷ levels) (more_lexemes (closing o) ts rest) (no_open-more o ts rest)
      (no_colon-more o ts rest)
      ∙ more-run o ts (general_meant t) before (items ++ u ∷ []) levels rest
      ∙ ap (λ us. run (Some (has (before ++ bracketed o us ∷ []) levels)) rest) (append_assoc items (u ∷ []) (general_meant t ∷ phrases_meant ts))

  general-run :
      (p : GeneralPhrase) (levels : List Level) (rest : List Lexeme)
      → begins_with (codes "(") rest ≡ false → begins_with (codes ":") rest ≡ false
      → run (Some (wants [] levels)) (general_lexemes p rest) ≡ run (Some (ends (general_meant p) levels)) rest
  general-run (parts p ps) levels rest h k =
      part-run p [] levels (more_parts_lexemes ps rest) (no_open-parts ps rest h) ∙ parts-run ps (part_meant p ∷ []) levels rest h k

  parts-run :
      (ps : PartPhrases) (before : List GeneralTree) (levels : List Level) (rest : List Lexeme)
      → begins_with (codes "(") rest ≡ false → begins_with (codes ":") rest ≡ false
      → run (Some (has before levels)) (more_parts_lexemes ps rest) ≡ run (Some (ends (whole (before ++ parts_meant ps)) levels)) rest
  parts-run no_parts before levels rest h k =
      run-unmarked (codes ":") (has before levels) (ends (whole before) levels) rest k (λ t e. rw e refl) refl
      ∙ ap (λ us. run (Some (ends (whole us) levels)) rest) (sym (append-nil before))
  parts-run (part_then p ps) before levels rest h k =
      part-run p before levels (more_parts_lexemes ps rest) (no_open-parts ps rest h)
      ∙ parts-run ps (before ++ part_meant p ∷ []) levels rest h k
      ∙ ap (λ us. run (Some (ends (whole us) levels)) rest) (append_assoc before (part_meant p ∷ []) (parts_meant ps))

-- tokens that spell a term are read as it
pub spelled-read : (tokens : List Lexeme) (t : GeneralTree) → SpellsGeneral tokens t → read tokens ≡ Some t
spelled-read tokens t h =
    ap read h.spelled ∙ general-run h.phrase [] [] refl refl ∙ ap (λ (u : GeneralTree). let o : Option GeneralTree = Some u in o) h.meant
