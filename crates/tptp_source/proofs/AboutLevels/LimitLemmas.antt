-- No token of a general term is too deep exactly where its levels are within the limit.
use Rattle.std.proofs.Common.{◌≡◌, ℕ, suc, ◌+◌, ◌-◌, ◌<◌, ◌≤◌, List, [], ◌∷◌, length, codes, refl, ap, sym, subst, arith}
use Rattle.std.specs.Prelude.{max}
use Rattle.std.proofs.Math.Nat.{max-le, le-max_left, le-max_right}
use Rattle.tptp_token.specs.Lexemes.{Lexeme, lexeme, word_lexeme}
use Rattle.tptp_token.specs.declared.token.Kind.TheVariants.{Variable, Distinct, Dollar, Number, Connective, Mark, Other}
use Rattle.tptp_tree.specs.Brackets.{Bracket, round, square}
use Rattle.tptp_source.specs.declared.sign.NumberSign.{NumberSign}
use Rattle.tptp_source.specs.declared.sign.NumberSign.TheVariants.{Unsigned, Plus, Minus}
use Rattle.tptp_source.specs.General.{GeneralTree, trees_of, whole}
use Rattle.tptp_source.specs.Spelling.{PartPhrase, variable_part, word_part, dollar_part, number_part, distinct_part, negated_part, list_part, PartPhrases, no_parts, part_then, GeneralPhrase, parts, GeneralPhrases, no_phrases, phrase_then, number_lexemes, part_lexemes, arguments_lexemes, items_lexemes, more_lexemes, general_lexemes, more_parts_lexemes, part_meant, parts_meant, general_meant, phrases_meant, SpellsGeneral}
use Rattle.tptp_source.specs.Levels.{general_levels, general_arguments_levels, all_general_levels}
use Rattle.tptp_source.proofs.AboutLevels.TokenLemmas.{Shallow, IsPlainToken, Closes, plain-says, plain-from, close-says, close-from, open-says, open-from, plain-token, comma-plain, colon-plain, word-plain, round-opens, square-opens, round-closes, square-closes}
use Rattle.list_lemmas.proofs.Numbers.{max-none}

-- ---- levels that are left

-- behind so many open brackets that many levels are left
abbrev Fits : ℕ → List Bracket → ℕ → Type 0
Fits limit unclosed levels = length unclosed + levels ≤ limit

fits-nothing : (limit : ℕ) (u : List Bracket) → length u ≤ limit → Fits limit u 0
fits-nothing limit u l = omega (arith, l)

fits-both : (limit : ℕ) (u : List Bracket) (a b : ℕ) → Fits limit u a → Fits limit u b → Fits limit u (max a b)
fits-both limit u a b h g =
    let first : a ≤ limit - length u = omega (arith, h) in
    let second : b ≤ limit - length u = omega (arith, g) in
    omega (arith, h, max-le first second)

fits-outside : (limit : ℕ) (b : Bracket) (u : List Bracket) (n : ℕ) → Fits limit (b ∷ u) n → Fits limit u (suc n)
fits-outside limit b u n h = let k : suc (length u) + n ≤ limit = h in omega (arith, k)

fits-below : (limit : ℕ) (u : List Bracket) (n : ℕ) → Fits limit u (suc n) → length u < limit
fits-below limit u n h = omega (arith, h)

fits-inside : (limit : ℕ) (b : Bracket) (u : List Bracket) (n : ℕ) → Fits limit u (suc n) → Fits limit (b ∷ u) n
fits-inside limit b u n h = let k : suc (length u) + n ≤ limit = omega (arith, h) in k

fits-left : (limit : ℕ) (u : List Bracket) (n m : ℕ) → Fits limit u (max n m) → Fits limit u n
fits-left limit u n m h = omega (arith, h, le-max_left n m)

fits-right : (limit : ℕ) (u : List Bracket) (n m : ℕ) → Fits limit u (max n m) → Fits limit u m
fits-right limit u n m h = omega (arith, h, le-max_right n m)

whole-levels : (t : GeneralTree) (ts : List GeneralTree) → general_levels (whole (t ∷ ts)) ≡ max (general_levels t) (all_general_levels (trees_of ts))
whole-levels t [] = max-none (general_levels t)
whole-levels t (u ∷ us) = refl

-- ---- plain parts

variable-plain : (x : List ℕ) → IsPlainToken (lexeme Variable x)
variable-plain x = plain-token (lexeme Variable x) refl refl refl refl refl

dollar-plain : (d : List ℕ) → IsPlainToken (lexeme Dollar d)
dollar-plain d = plain-token (lexeme Dollar d) refl refl refl refl refl

number-plain : (n : List ℕ) → IsPlainToken (lexeme Number n)
number-plain n = plain-token (lexeme Number n) refl refl refl refl refl

distinct-plain : (d : List ℕ) → IsPlainToken (lexeme Distinct d)
distinct-plain d = plain-token (lexeme Distinct d) refl refl refl refl refl

tilde-plain : IsPlainToken (lexeme Connective (codes "~"))
tilde-plain = plain-token (lexeme Connective (codes "~")) refl refl refl refl refl

plus-plain : IsPlainToken (lexeme Other (codes "+"))
plus-plain = plain-token (lexeme Other (codes "+")) refl refl refl refl refl

minus-plain : IsPlainToken (lexeme Other (codes "-"))
minus-plain = plain-token (lexeme Other (codes "-")) refl refl refl refl refl

number-says :
    (limit : ℕ) (u : List Bracket) (sign : NumberSign) (n : List ℕ) (ls : List Lexeme)
    → Shallow limit u (number_lexemes sign n ls) → Shallow limit u ls
number-says limit u Unsigned n ls h = plain-says limit u (lexeme Number n) ls (number-plain n) h
number-says limit u Plus n ls h =
    plain-says limit u (lexeme Number n) ls (number-plain n) (plain-says limit u (lexeme Other (codes "+")) (lexeme Number n ∷ ls) plus-plain h)
number-says limit u Minus n ls h =
    plain-says limit u (lexeme Number n) ls (number-plain n) (plain-says limit u (lexeme Other (codes "-")) (lexeme Number n ∷ ls) minus-plain h)

number-from :
    (limit : ℕ) (u : List Bracket) (sign : NumberSign) (n : List ℕ) (ls : List Lexeme)
    → Shallow limit u ls → Shallow limit u (number_lexemes sign n ls)
number-from limit u Unsigned n ls h = plain-from limit u (lexeme Number n) ls (number-plain n) h
number-from limit u Plus n ls h =
    plain-from limit u (lexeme Other (codes "+")) (lexeme Number n ∷ ls) plus-plain (plain-from limit u (lexeme Number n) ls (number-plain n) h)
number-from limit u Minus n ls h =
    plain-from limit u (lexeme Other (codes "-")) (lexeme Number n ∷ ls) minus-plain (plain-from limit u (lexeme Number n) ls (number-plain n) h)

-- ---- from the tokens

mutual
  part-within :
      (limit : ℕ) (u : List Bracket) (p : PartPhrase) (ls : List Lexeme) → length u ≤ limit
      → Shallow limit u (part_lexemes p ls) → Fits limit u (general_levels (part_meant p)) × Shallow limit u ls
  part-within limit u (variable_part x) ls l h =
      (fits-nothing limit u l, plain-says limit u (lexeme Variable x) ls (variable-plain x) h)
  part-within limit u (word_part w ts) ls l h =
      arguments-within limit u ts ls l (plain-says limit u (word_lexeme w) (arguments_lexemes ts ls) (word-plain w) h)
  part-within limit u (dollar_part d ts) ls l h =
      arguments-within limit u ts ls l (plain-says limit u (lexeme Dollar d) (arguments_lexemes ts ls) (dollar-plain d) h)
  part-within limit u (number_part sign n) ls l h = (fits-nothing limit u l, number-says limit u sign n ls h)
  part-within limit u (distinct_part d) ls l h =
      (fits-nothing limit u l, plain-says limit u (lexeme Distinct d) ls (distinct-plain d) h)
  part-within limit u (negated_part w) ls l h = (
    fits-nothing limit u l,
    plain-says limit u (word_lexeme w) ls (word-plain w)
        (plain-says limit u (lexeme Connective (codes "~")) (word_lexeme w ∷ ls) tilde-plain h),
  )
  part-within limit u (list_part ts) ls l h =
      let behind = open-says limit square u (lexeme Mark (codes "[")) (items_lexemes ts ls) square-opens h in
      items-within limit u ts ls behind.0 behind.1

  arguments-within :
      (limit : ℕ) (u : List Bracket) (ts : GeneralPhrases) (ls : List Lexeme) → length u ≤ limit
      → Shallow limit u (arguments_lexemes ts ls) → Fits limit u (general_arguments_levels (trees_of (phrases_meant ts))) × Shallow limit u ls
  arguments-within limit u no_phrases ls l h = (fits-nothing limit u l, h)
  arguments-within limit u (phrase_then t ts) ls l h =
      let behind = open-says limit round u (lexeme Mark (codes "(")) (general_lexemes t (more_lexemes (codes ")") ts ls)) round-opens h in
      let first = general-within limit (round ∷ u) t (more_lexemes (codes ")") ts ls) behind.0 behind.1 in
      let more = more-within limit round (codes ")") u ts ls round-closes behind.0 first.1 in
      let n : ℕ = general_levels (general_meant t) in
      let m : ℕ = all_general_levels (trees_of (phrases_meant ts)) in
      (fits-outside limit round u (max n m) (fits-both limit (round ∷ u) n m first.0 more.0), more.1)

  items-within :
      (limit : ℕ) (u : List Bracket) (ts : GeneralPhrases) (ls : List Lexeme) → length u < limit
      → Shallow limit (square ∷ u) (items_lexemes ts ls)
      → Fits limit u (suc (all_general_levels (trees_of (phrases_meant ts)))) × Shallow limit u ls
  items-within limit u no_phrases ls l h = (
    fits-outside limit square u 0 (fits-nothing limit (square ∷ u) l),
    close-says limit square u (lexeme Mark (codes "]")) ls square-closes h,
  )
  items-within limit u (phrase_then t ts) ls l h =
      let first = general-within limit (square ∷ u) t (more_lexemes (codes "]") ts ls) l h in
      let more = more-within limit square (codes "]") u ts ls square-closes l first.1 in
      let n : ℕ = general_levels (general_meant t) in
      let m : ℕ = all_general_levels (trees_of (phrases_meant ts)) in
      (fits-outside limit square u (max n m) (fits-both limit (square ∷ u) n m first.0 more.0), more.1)

  more-within :
      (limit : ℕ) (b : Bracket) (close : List ℕ) (u : List Bracket) (ts : GeneralPhrases) (ls : List Lexeme)
      → Closes b (lexeme Mark close) → length u < limit → Shallow limit (b ∷ u) (more_lexemes close ts ls)
      → Fits limit (b ∷ u) (all_general_levels (trees_of (phrases_meant ts))) × Shallow limit u ls
  more-within limit b close u no_phrases ls c l h =
      (fits-nothing limit (b ∷ u) l, close-says limit b u (lexeme Mark close) ls c h)
  more-within limit b close u (phrase_then t ts) ls c l h =
      let behind = plain-says limit (b ∷ u) (lexeme Mark (codes ",")) (general_lexemes t (more_lexemes close ts ls)) comma-plain h in
      let first = general-within limit (b ∷ u) t (more_lexemes close ts ls) l behind in
      let more = more-within limit b close u ts ls c l first.1 in
      let n : ℕ = general_levels (general_meant t) in
      let m : ℕ = all_general_levels (trees_of (phrases_meant ts)) in
      (fits-both limit (b ∷ u) n m first.0 more.0, more.1)

  general-within :
      (limit : ℕ) (u : List Bracket) (t : GeneralPhrase) (ls : List Lexeme) → length u ≤ limit
      → Shallow limit u (general_lexemes t ls) → Fits limit u (general_levels (general_meant t)) × Shallow limit u ls
  general-within limit u (parts p ps) ls l h =
      let first = part-within limit u p (more_parts_lexemes ps ls) l h in
      let more = parts-within limit u ps ls l first.1 in
      let n : ℕ = general_levels (part_meant p) in
      let m : ℕ = all_general_levels (trees_of (parts_meant ps)) in
      (subst (Fits limit u) (sym (whole-levels (part_meant p) (parts_meant ps))) (fits-both limit u n m first.0 more.0), more.1)

  parts-within :
      (limit : ℕ) (u : List Bracket) (ps : PartPhrases) (ls : List Lexeme) → length u ≤ limit
      → Shallow limit u (more_parts_lexemes ps ls) → Fits limit u (all_general_levels (trees_of (parts_meant ps))) × Shallow limit u ls
  parts-within limit u no_parts ls l h = (fits-nothing limit u l, h)
  parts-within limit u (part_then p ps) ls l h =
      let behind = plain-says limit u (lexeme Mark (codes ":")) (part_lexemes p (more_parts_lexemes ps ls)) colon-plain h in
      let first = part-within limit u p (more_parts_lexemes ps ls) l behind in
      let more = parts-within limit u ps ls l first.1 in
      (fits-both limit u (general_levels (part_meant p)) (all_general_levels (trees_of (parts_meant ps))) first.0 more.0, more.1)

-- ---- from the levels

mutual
  part-shallow :
      (limit : ℕ) (u : List Bracket) (p : PartPhrase) (ls : List Lexeme)
      → Fits limit u (general_levels (part_meant p)) → Shallow limit u ls → Shallow limit u (part_lexemes p ls)
  part-shallow limit u (variable_part x) ls h r = plain-from limit u (lexeme Variable x) ls (variable-plain x) r
  part-shallow limit u (word_part w ts) ls h r =
      plain-from limit u (word_lexeme w) (arguments_lexemes ts ls) (word-plain w) (arguments-shallow limit u ts ls h r)
  part-shallow limit u (dollar_part d ts) ls h r =
      plain-from limit u (lexeme Dollar d) (arguments_lexemes ts ls) (dollar-plain d) (arguments-shallow limit u ts ls h r)
  part-shallow limit u (number_part sign n) ls h r = number-from limit u sign n ls r
  part-shallow limit u (distinct_part d) ls h r = plain-from limit u (lexeme Distinct d) ls (distinct-plain d) r
  part-shallow limit u (negated_part w) ls h r =
      plain-from limit u (lexeme Connective (codes "~")) (word_lexeme w ∷ ls) tilde-plain (plain-from limit u (word_lexeme w) ls (word-plain w) r)
  part-shallow limit u (list_part ts) ls h r =
      open-from limit square u (lexeme Mark (codes "[")) (items_lexemes ts ls) square-opens
      (fits-below limit u (all_general_levels (trees_of (phrases_meant ts))) h) (items-shallow limit u ts ls h r)

  arguments-shallow :
      (limit : ℕ) (u : List Bracket) (ts : GeneralPhrases) (ls : List Lexeme)
      → Fits limit u (general_arguments_levels (trees_of (phrases_meant ts))) → Shallow limit u ls → Shallow limit u (arguments_lexemes ts ls)
  arguments-shallow limit u no_phrases ls h r = r
  arguments-shallow limit u (phrase_then t ts) ls h r =
      let n : ℕ = general_levels (general_meant t) in
      let m : ℕ = all_general_levels (trees_of (phrases_meant ts)) in
      let inside : Fits limit (round ∷ u) (max n m) = fits-inside limit round u (max n m) h in
      open-from limit round u (lexeme Mark (codes "(")) (general_lexemes t (more_lexemes (codes ")") ts ls)) round-opens
      (fits-below limit u (max n m) h)
      (general-shallow limit (round ∷ u) t (more_lexemes (codes ")") ts ls) (fits-left limit (round ∷ u) n m inside)
      (more-shallow limit round (codes ")") u ts ls round-closes (fits-right limit (round ∷ u) n m inside) r))

  items-shallow :
      (limit : ℕ) (u : List Bracket) (ts : GeneralPhrases) (ls : List Lexeme)
      → Fits limit u (suc (all_general_levels (trees_of (phrases_meant ts)))) → Shallow limit u ls
      → Shallow limit (square ∷ u) (items_lexemes ts ls)
  items-shallow limit u no_phrases ls h r = close-from limit square u (lexeme Mark (codes "]")) ls square-closes r
  items-shallow limit u (phrase_then t ts) ls h r =
      let n : ℕ = general_levels (general_meant t) in
      let m : ℕ = all_general_levels (trees_of (phrases_meant ts)) in
      let inside : Fits limit (square ∷ u) (max n m) = fits-inside limit square u (max n m) h in
      general-shallow limit (square ∷ u) t (more_lexemes (codes "]") ts ls) (fits-left limit (square ∷ u) n m inside)
      (more-shallow limit square (codes "]") u ts ls square-closes (fits-right limit (square ∷ u) n m inside) r)

  more-shallow :
      (limit : ℕ) (b : Bracket) (close : List ℕ) (u : List Bracket) (ts : GeneralPhrases) (ls : List Lexeme)
      → Closes b (lexeme Mark close) → Fits limit (b ∷ u) (all_general_levels (trees_of (phrases_meant ts))) → Shallow limit u ls
      → Shallow limit (b ∷ u) (more_lexemes close ts ls)
  more-shallow limit b close u no_phrases ls c h r = close-from limit b u (lexeme Mark close) ls c r
  more-shallow limit b close u (phrase_then t ts) ls c h r =
      let n : ℕ = general_levels (general_meant t) in
      let m : ℕ = all_general_levels (trees_of (phrases_meant ts)) in
      plain-from limit (b ∷ u) (lexeme Mark (codes ",")) (general_lexemes t (more_lexemes close ts ls)) comma-plain
      (general-shallow limit (b ∷ u) t (more_lexemes close ts ls) (fits-left limit (b ∷ u) n m h)
      (more-shallow limit b close u ts ls c (fits-right limit (b ∷ u) n m h) r))

  general-shallow :
      (limit : ℕ) (u : List Bracket) (t : GeneralPhrase) (ls : List Lexeme)
      → Fits limit u (general_levels (general_meant t)) → Shallow limit u ls → Shallow limit u (general_lexemes t ls)
  general-shallow limit u (parts p ps) ls h r =
      let n : ℕ = general_levels (part_meant p) in
      let m : ℕ = all_general_levels (trees_of (parts_meant ps)) in
      let each : Fits limit u (max n m) = subst (Fits limit u) (whole-levels (part_meant p) (parts_meant ps)) h in
      part-shallow limit u p (more_parts_lexemes ps ls) (fits-left limit u n m each) (parts-shallow limit u ps ls (fits-right limit u n m each) r)

  parts-shallow :
      (limit : ℕ) (u : List Bracket) (ps : PartPhrases) (ls : List Lexeme)
      → Fits limit u (all_general_levels (trees_of (parts_meant ps))) → Shallow limit u ls → Shallow limit u (more_parts_lexemes ps ls)
  parts-shallow limit u no_parts ls h r = r
  parts-shallow limit u (part_then p ps) ls h r =
      let n : ℕ = general_levels (part_meant p) in
      let m : ℕ = all_general_levels (trees_of (parts_meant ps)) in
      plain-from limit u (lexeme Mark (codes ":")) (part_lexemes p (more_parts_lexemes ps ls)) colon-plain
      (part-shallow limit u p (more_parts_lexemes ps ls) (fits-left limit u n m h) (parts-shallow limit u ps ls (fits-right limit u n m h) r))

-- ---- whole terms

pub spelled-within : (limit : ℕ) (tokens : List Lexeme) (t : GeneralTree) → SpellsGeneral tokens t → Shallow limit [] tokens → general_levels t ≤ limit
spelled-within limit tokens t s h =
    let inside = general-within limit [] s.phrase [] (omega arith) (subst (Shallow limit []) s.spelled h) in
    let k : 0 + general_levels (general_meant s.phrase) ≤ limit = inside.0 in
    omega (arith, k, ap general_levels s.meant)

pub spelled-shallow : (limit : ℕ) (tokens : List Lexeme) (t : GeneralTree) → SpellsGeneral tokens t → general_levels t ≤ limit → Shallow limit [] tokens
spelled-shallow limit tokens t s h =
    let k : 0 + general_levels (general_meant s.phrase) ≤ limit = omega (arith, h, ap general_levels s.meant) in
    subst (Shallow limit []) (sym s.spelled) (general-shallow limit [] s.phrase [] k tt)
