-- The tokens of an include, and that what the machine reads up to its end is one.
use Rattle.std.proofs.Common.{◌≡◌, ℕ, suc, ◌+◌, ◌*◌, Bool, true, false, None, Some, List, [], ◌∷◌, length, codes, refl, ap, ap₂, sym, ◌∙◌, arith}
use Rattle.std.specs.Prelude.{if◌then◌else◌}
use Rattle.std.specs.List.{list_all}
use Rattle.std.proofs.lemmas.Bool.{and_parts}
use Rattle.tptp_token.specs.Lexemes.{Lexeme, lexeme, word_lexeme, is_lexeme, is_mark}
use Rattle.tptp_token.specs.declared.token.Kind.{Kind}
use Rattle.tptp_token.specs.declared.token.Kind.TheVariants.{Lower, Quoted, Number, Mark}
use Rattle.tptp_token.specs.Words.{Word, bare, quoted, is_name, is_word}
use Rattle.tptp_tree.specs.Entries.{NamePhrase, word_name, digits_name, name_lexeme, is_right_name, is_right_entry, more_names_lexemes, include_end, entry_lexemes}
use Rattle.tptp_reader.proofs.AboutTexts.TokenTests.{lexeme-same, mark-same}
use Rattle.tptp_problem.specs.Includes.{include_phrase}
use Rattle.tptp_problem.specs.Awaiting.{when, after, is_nothing, ended, ending_from}
use Rattle.tptp_problem.specs.declared.include.Awaited.{Awaited}
use Rattle.tptp_problem.specs.declared.include.Awaited.TheVariants.{Keyword, Open, File, AfterFile, OpenList, Name, AfterName, Close, Stop, Nothing}
use Rattle.tptp_problem.specs.declared.include.Ending.TheVariants.{Whole}
use Rattle.list_lemmas.proofs.Bools.{both-true}

-- ---- the tokens of an include behind its file

abbrev pub tail_lexemes : List NamePhrase → List Lexeme → List Lexeme
tail_lexemes [] rest = include_end rest
tail_lexemes (n ∷ ns) rest =
    lexeme Mark (codes ",") ∷ lexeme Mark (codes "[") ∷ name_lexeme n ∷ more_names_lexemes ns (lexeme Mark (codes "]") ∷ include_end rest)

pub include-tail :
    (file : Word) (names : List NamePhrase) (rest : List Lexeme)
    → entry_lexemes (include_phrase file names) rest
    ≡ lexeme Lower (codes "include") ∷ lexeme Mark (codes "(") ∷ word_lexeme file ∷ tail_lexemes names rest
include-tail file [] rest = refl
include-tail file (n ∷ ns) rest = refl

pub right-names : (file : Word) (names : List NamePhrase) → list_all is_right_name names ≡ true → is_right_entry (include_phrase file names) ≡ true
right-names file [] h = refl
right-names file (n ∷ ns) h = h

pub names-right : (file : Word) (names : List NamePhrase) → is_right_entry (include_phrase file names) ≡ true → list_all is_right_name names ≡ true
names-right file [] h = refl
names-right file (n ∷ ns) h = h

-- how many tokens these are
abbrev pub tail_width : List NamePhrase → ℕ
tail_width [] = 2
tail_width (n ∷ ns) = 2 * length ns + 6

abbrev pub width : List NamePhrase → ℕ
width names = 3 + tail_width names

-- ---- an include is read up to its end

name-takes : (n : NamePhrase) → is_right_name n ≡ true → after Name (name_lexeme n) ≡ Some AfterName
name-takes (word_name (bare bytes)) h = refl
name-takes (word_name (quoted bytes)) h = refl
name-takes (digits_name digits) h = ap (λ b. when b AfterName None) h

word-takes : (w : Word) → after File (word_lexeme w) ≡ Some AfterFile
word-takes (bare bytes) = refl
word-takes (quoted bytes) = refl

names-end :
    (at : ℕ) (ns : List NamePhrase) (rest : List Lexeme) → list_all is_right_name ns ≡ true
    → ending_from at AfterName (more_names_lexemes ns (lexeme Mark (codes "]") ∷ include_end rest)) ≡ Whole (at + 2 * length ns + 3)
names-end at [] rest h = let far : suc (suc (suc at)) ≡ at + 2 * 0 + 3 = omega arith in ap Whole far
names-end at (n ∷ ns) rest h =
    let right = and_parts (is_right_name n) (list_all is_right_name ns) h in
    let far : suc (suc at) + 2 * length ns + 3 ≡ at + 2 * suc (length ns) + 3 = omega arith in
    ap (ended (suc at) (λ a. ending_from (suc (suc at)) a (more_names_lexemes ns (lexeme Mark (codes "]") ∷ include_end rest)))) (name-takes n right.0)
    ∙ names-end (suc (suc at)) ns rest right.1 ∙ ap Whole far

tail-end :
    (at : ℕ) (ns : List NamePhrase) (rest : List Lexeme) → list_all is_right_name ns ≡ true
    → ending_from at AfterFile (tail_lexemes ns rest) ≡ Whole (at + tail_width ns)
tail-end at [] rest h = let far : suc (suc at) ≡ at + 2 = omega arith in ap Whole far
tail-end at (n ∷ ns) rest h =
    let right = and_parts (is_right_name n) (list_all is_right_name ns) h in
    let far : suc (suc (suc at)) + 2 * length ns + 3 ≡ at + (2 * length ns + 6) = omega arith in
    ap
    (ended (suc (suc at)) (λ a. ending_from (suc (suc (suc at))) a (more_names_lexemes ns (lexeme Mark (codes "]") ∷ include_end rest))))
    (name-takes n right.0)
    ∙ names-end (suc (suc (suc at))) ns rest right.1 ∙ ap Whole far

pub include-ends :
    (at : ℕ) (file : Word) (names : List NamePhrase) (rest : List Lexeme) → is_right_entry (include_phrase file names) ≡ true
    → ending_from at Keyword (entry_lexemes (include_phrase file names) rest) ≡ Whole (at + width names)
include-ends at file names rest h =
    let far : suc (suc (suc at)) + tail_width names ≡ at + (3 + tail_width names) = omega arith in
    ap (ending_from at Keyword) (include-tail file names rest)
    ∙ ap (ended (suc (suc at)) (λ a. ending_from (suc (suc (suc at))) a (tail_lexemes names rest))) (word-takes file)
    ∙ tail-end (suc (suc (suc at))) names rest (names-right file names h) ∙ ap Whole far

-- ---- what is read up to an end is an include

word-token : (k : Kind) (bytes : List ℕ) → is_word k ≡ true → (w : Word) × (lexeme k bytes ≡ word_lexeme w)
word-token Lower bytes h = (bare bytes, refl)
word-token Quoted bytes h = (quoted bytes, refl)
word-token k bytes h = absurd (let t : false ≡ true = h in cc)

name-token : (k : Kind) (bytes : List ℕ) → is_name k bytes ≡ true → (n : NamePhrase) × (is_right_name n ≡ true) × (lexeme k bytes ≡ name_lexeme n)
name-token Lower bytes h = (word_name (bare bytes), refl, refl)
name-token Quoted bytes h = (word_name (quoted bytes), refl, refl)
name-token Number bytes h = (digits_name bytes, h, refl)
name-token k bytes h = absurd (let t : false ≡ true = h in cc)

-- a token that is taken, and more has to come
taken :
    (at : ℕ) (test : Bool) (x : Awaited) (ts : List Lexeme) (next : ℕ) → is_nothing x ≡ false
    → ended at (λ a. ending_from (suc at) a ts) (when test x None) ≡ Whole next
    → (test ≡ true) × (ending_from (suc at) x ts ≡ Whole next)
taken at true x ts next n e = (refl, ap (λ b. if b then Whole (suc at) else ending_from (suc at) x ts) (sym n) ∙ e)
taken at false x ts next n e = absurd (cc)

stop-read : (at : ℕ) (ts : List Lexeme) (next : ℕ) → ending_from at Stop ts ≡ Whole next → (rest : List Lexeme) × (ts ≡ lexeme Mark (codes ".") ∷ rest) × (next ≡ suc at)
stop-read at [] next e = absurd (cc)
stop-read at (t ∷ ts) next e = by (is_mark (codes ".") t) refl e
  where
    by :
        (b : Bool) → is_mark (codes ".") t ≡ b → ended at (λ a. ending_from (suc at) a ts) (when b Nothing None) ≡ Whole next
        → (rest : List Lexeme) × (t ∷ ts ≡ lexeme Mark (codes ".") ∷ rest) × (next ≡ suc at)
    by true h k = (ts, ap (λ u. u ∷ ts) (mark-same (codes ".") t h), let s : suc at ≡ next = cc in sym s)
    by false h k = absurd (cc)

close-read : (at : ℕ) (ts : List Lexeme) (next : ℕ) → ending_from at Close ts ≡ Whole next → (rest : List Lexeme) × (ts ≡ include_end rest) × (next ≡ suc (suc at))
close-read at [] next e = absurd (cc)
close-read at (t ∷ ts) next e =
    let first = taken at (is_mark (codes ")") t) Stop ts next refl e in
    let more = stop-read (suc at) ts next first.1 in
    (more.0, ap₂ (λ u us. u ∷ us) (mark-same (codes ")") t first.0) more.1, more.2)

pub record NamesRead (at : ℕ) (ts : List Lexeme) (next : ℕ) : Type 0 where
  pub names : List NamePhrase
  pub rest : List Lexeme
  pub right : list_all is_right_name names ≡ true
  pub spelled : ts ≡ more_names_lexemes names (lexeme Mark (codes "]") ∷ include_end rest)
  pub next_is : next ≡ at + 2 * length names + 3

closed-names : (at : ℕ) (t : Lexeme) (ts : List Lexeme) (next : ℕ) → is_mark (codes "]") t ≡ true → ending_from (suc at) Close ts ≡ Whole next → NamesRead at (t ∷ ts) next
closed-names at t ts next h e =
    let more = close-read (suc at) ts next e in
    record {
      names = [];
      rest = more.0;
      right = refl;
      spelled = ap₂ (λ u us. u ∷ us) (mark-same (codes "]") t h) more.1;
      next_is = let far : suc (suc (suc at)) ≡ at + 2 * 0 + 3 = omega arith in more.2 ∙ far;
    }

more-names :
    (at : ℕ) (t u : Lexeme) (ts : List Lexeme) (next : ℕ) → is_mark (codes ",") t ≡ true → is_name u.kind u.bytes ≡ true
    → NamesRead (suc (suc at)) ts next → NamesRead at (t ∷ u ∷ ts) next
more-names at t u ts next h k r =
    let name = name-token u.kind u.bytes k in
    record {
      names = name.0 ∷ r.names;
      rest = r.rest;
      right = both-true (is_right_name name.0) (list_all is_right_name r.names) name.1 r.right;
      spelled = ap₂ (λ x xs. x ∷ xs) (mark-same (codes ",") t h) (ap₂ (λ x xs. x ∷ xs) name.2 r.spelled);
      next_is = let far : suc (suc at) + 2 * length r.names + 3 ≡ at + 2 * suc (length r.names) + 3 = omega arith in r.next_is ∙ far;
    }

names-read : (at : ℕ) (ts : List Lexeme) (next : ℕ) → ending_from at AfterName ts ≡ Whole next → NamesRead at ts next
names-read at [] next e = absurd (cc)
names-read at (t ∷ []) next e = by (is_mark (codes ",") t) refl e
  where
    by :
        (b : Bool) → is_mark (codes ",") t ≡ b
        → ended at (λ a. ending_from (suc at) a []) (when b Name (when (is_mark (codes "]") t) Close None)) ≡ Whole next
        → NamesRead at (t ∷ []) next
    by true h k = absurd (cc)
    by false h k = let last = taken at (is_mark (codes "]") t) Close [] next refl k in closed-names at t [] next last.0 last.1
names-read at (t ∷ u ∷ ts) next e = by (is_mark (codes ",") t) refl e (λ k. names-read (suc (suc at)) ts next k)
  where
    by :
        (b : Bool) → is_mark (codes ",") t ≡ b
        → ended at (λ a. ending_from (suc at) a (u ∷ ts)) (when b Name (when (is_mark (codes "]") t) Close None)) ≡ Whole next
        → (ending_from (suc (suc at)) AfterName ts ≡ Whole next → NamesRead (suc (suc at)) ts next) → NamesRead at (t ∷ u ∷ ts) next
    by true h k more =
        let second = taken (suc at) (is_name u.kind u.bytes) AfterName ts next refl k in
        more-names at t u ts next h second.0 (more second.1)
    by false h k more = let last = taken at (is_mark (codes "]") t) Close (u ∷ ts) next refl k in closed-names at t (u ∷ ts) next last.0 last.1

pub record TailRead (at : ℕ) (ts : List Lexeme) (next : ℕ) : Type 0 where
  pub names : List NamePhrase
  pub rest : List Lexeme
  pub right : list_all is_right_name names ≡ true
  pub spelled : ts ≡ tail_lexemes names rest
  pub next_is : next ≡ at + tail_width names

name-read : (at : ℕ) (ts : List Lexeme) (next : ℕ) → ending_from at Name ts ≡ Whole next → (n : NamePhrase) × (us : List Lexeme) × (is_right_name n ≡ true) × (ts ≡ name_lexeme n ∷ us) × NamesRead (suc at) us next
name-read at [] next e = absurd (cc)
name-read at (t ∷ ts) next e =
    let first = taken at (is_name t.kind t.bytes) AfterName ts next refl e in
    let name = name-token t.kind t.bytes first.0 in
    (name.0, ts, name.1, ap (λ u. u ∷ ts) name.2, names-read (suc at) ts next first.1)

list-read : (at : ℕ) (t : Lexeme) (ts : List Lexeme) (next : ℕ) → is_mark (codes ",") t ≡ true → ending_from (suc at) OpenList ts ≡ Whole next → TailRead at (t ∷ ts) next
list-read at t [] next h e = absurd (cc)
list-read at t (u ∷ us) next h e =
    let bracket = taken (suc at) (is_mark (codes "[") u) Name us next refl e in
    let name = name-read (suc (suc at)) us next bracket.1 in
    let more = name.4 in
    record {
      names = name.0 ∷ more.names;
      rest = more.rest;
      right = both-true (is_right_name name.0) (list_all is_right_name more.names) name.2 more.right;
      spelled =
          ap₂ (λ x xs. x ∷ xs) (mark-same (codes ",") t h)
          (ap₂ (λ x xs. x ∷ xs) (mark-same (codes "[") u bracket.0) (name.3 ∙ ap (λ xs. name_lexeme name.0 ∷ xs) more.spelled));
      next_is =
          let far : suc (suc (suc at)) + 2 * length more.names + 3 ≡ at + (2 * length more.names + 6) = omega arith in
          more.next_is ∙ far;
    }

tail-read : (at : ℕ) (ts : List Lexeme) (next : ℕ) → ending_from at AfterFile ts ≡ Whole next → TailRead at ts next
tail-read at [] next e = absurd (cc)
tail-read at (t ∷ ts) next e = by (is_mark (codes ")") t) refl e
  where
    closed : is_mark (codes ")") t ≡ true → (rest : List Lexeme) × (ts ≡ lexeme Mark (codes ".") ∷ rest) × (next ≡ suc (suc at)) → TailRead at (t ∷ ts) next
    closed h more =
        record {
          names = [];
          rest = more.0;
          right = refl;
          spelled = ap₂ (λ u us. u ∷ us) (mark-same (codes ")") t h) more.1;
          next_is = let far : suc (suc at) ≡ at + 2 = omega arith in more.2 ∙ far;
        }

    by :
        (b : Bool) → is_mark (codes ")") t ≡ b
        → ended at (λ a. ending_from (suc at) a ts) (when b Stop (when (is_mark (codes ",") t) OpenList None)) ≡ Whole next
        → TailRead at (t ∷ ts) next
    by true h k = closed h (stop-read (suc at) ts next k)
    by false h k = let comma = taken at (is_mark (codes ",") t) OpenList ts next refl k in list-read at t ts next comma.0 comma.1

pub record IncludeRead (at : ℕ) (ts : List Lexeme) (next : ℕ) : Type 0 where
  pub file : Word
  pub names : List NamePhrase
  pub rest : List Lexeme
  pub right : is_right_entry (include_phrase file names) ≡ true
  pub spelled : ts ≡ entry_lexemes (include_phrase file names) rest
  pub next_is : next ≡ at + width names

file-read : (at : ℕ) (ts : List Lexeme) (next : ℕ) → ending_from at File ts ≡ Whole next → (w : Word) × (us : List Lexeme) × (ts ≡ word_lexeme w ∷ us) × TailRead (suc at) us next
file-read at [] next e = absurd (cc)
file-read at (t ∷ ts) next e =
    let first = taken at (is_word t.kind) AfterFile ts next refl e in
    let word = word-token t.kind t.bytes first.0 in
    (word.0, ts, ap (λ u. u ∷ ts) word.1, tail-read (suc at) ts next first.1)

open-read : (at : ℕ) (ts : List Lexeme) (next : ℕ) → ending_from at Open ts ≡ Whole next → (us : List Lexeme) × (ts ≡ lexeme Mark (codes "(") ∷ us) × (ending_from (suc at) File us ≡ Whole next)
open-read at [] next e = absurd (cc)
open-read at (t ∷ ts) next e =
    let first = taken at (is_mark (codes "(") t) File ts next refl e in
    (ts, ap (λ u. u ∷ ts) (mark-same (codes "(") t first.0), first.1)

pub include-read : (at : ℕ) (ts : List Lexeme) (next : ℕ) → ending_from at Keyword ts ≡ Whole next → IncludeRead at ts next
include-read at [] next e = absurd (cc)
include-read at (t ∷ ts) next e =
    let first = taken at (is_lexeme Lower (codes "include") t) Open ts next refl e in
    let bracket = open-read (suc at) ts next first.1 in
    let word = file-read (suc (suc at)) bracket.0 next bracket.2 in
    let tail = word.3 in
    record {
      file = word.0;
      names = tail.names;
      rest = tail.rest;
      right = right-names word.0 tail.names tail.right;
      spelled =
          ap₂ (λ x xs. x ∷ xs) (lexeme-same Lower (codes "include") t first.0)
          (bracket.1 ∙ ap (λ xs. lexeme Mark (codes "(") ∷ xs) (word.2 ∙ ap (λ xs. word_lexeme word.0 ∷ xs) tail.spelled))
          ∙ sym (include-tail word.0 tail.names tail.rest);
      next_is = let far : suc (suc (suc at)) + tail_width tail.names ≡ at + (3 + tail_width tail.names) = omega arith in tail.next_is ∙ far;
    }
