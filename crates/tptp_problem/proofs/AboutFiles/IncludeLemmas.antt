-- The code that reads includes, token by token.
use Rattle.std.proofs.Common.{◌≡◌, ℕ, suc, ◌+◌, ◌*◌, ◌-◌, ◌≤◌, ◌<◌, Bool, true, false, None, Some, List, [], ◌∷◌, ◌++◌, length, drop, codes, refl, ap, sym, ◌∙◌, arith, length-drop, append_assoc, append-nil}
use Rattle.std.specs.Prelude.{if◌then◌else◌}
use Rattle.std.proofs.Math.Seq.{drop-drop}
use Rattle.tptp_token.specs.Lexemes.{Lexeme, lexeme, word_lexeme}
use Rattle.tptp_token.specs.declared.token.Kind.TheVariants.{Mark}
use Rattle.tptp_token.specs.Words.{Word, bare, quoted, name_of, token_name}
use Rattle.tptp_tree.specs.Entries.{NamePhrase, word_name, digits_name, name_lexeme, name_meant, names_meant, more_names_lexemes, include_end}
use Rattle.tptp_problem.specs.Awaiting.{after, is_nothing, ended, ending_from, AreNamesAt, StillReads}
use Rattle.tptp_problem.specs.declared.include.Awaited.{Awaited}
use Rattle.tptp_problem.specs.declared.include.Ending.TheVariants.{Whole, Stopped, Cut}

-- ---- one step of the machine

pub ending-cut : (at : ℕ) (s : Awaited) (ts : List Lexeme) → ts ≡ [] → ending_from at s ts ≡ Cut
ending-cut at s ts e = ap (ending_from at s) e

pub ending-stopped : (at : ℕ) (s : Awaited) (ts us : List Lexeme) (t : Lexeme) → ts ≡ t ∷ us → after s t ≡ None → ending_from at s ts ≡ Stopped at
ending-stopped at s ts us t e f = ap (ending_from at s) e ∙ ap (ended at (λ a. ending_from (suc at) a us)) f

ending-next :
    (at : ℕ) (s next : Awaited) (ts us : List Lexeme) (t : Lexeme) (b : Bool) → ts ≡ t ∷ us → after s t ≡ Some next → is_nothing next ≡ b
    → ending_from at s ts ≡ (if b then Whole (suc at) else ending_from (suc at) next us)
ending-next at s next ts us t b e f n =
    ap (ending_from at s) e ∙ ap (ended at (λ a. ending_from (suc at) a us)) f
    ∙ ap (λ x. if x then Whole (suc at) else ending_from (suc at) next us) n

pub ending-whole :
    (at : ℕ) (s next : Awaited) (ts us : List Lexeme) (t : Lexeme) → ts ≡ t ∷ us → after s t ≡ Some next → is_nothing next ≡ true
    → ending_from at s ts ≡ Whole (at + 1)
ending-whole at s next ts us t e f n =
    ending-next at s next ts us t true e f n ∙ (let far : suc at ≡ at + 1 = omega arith in ap Whole far)

pub ending-on :
    (at : ℕ) (s next : Awaited) (ts us : List Lexeme) (t : Lexeme) → ts ≡ t ∷ us → after s t ≡ Some next → is_nothing next ≡ false
    → ending_from at s ts ≡ ending_from (at + 1) next us
ending-on at s next ts us t e f n =
    ending-next at s next ts us t false e f n ∙ (let far : suc at ≡ at + 1 = omega arith in ap (λ p. ending_from p next us) far)

-- ---- names

pub word-name : (w : Word) → token_name (word_lexeme w).kind (word_lexeme w).bytes ≡ name_of w
word-name (bare bytes) = refl
word-name (quoted bytes) = refl

pub name-name : (n : NamePhrase) → token_name (name_lexeme n).kind (name_lexeme n).bytes ≡ name_meant n
name-name (word_name (bare bytes)) = refl
name-name (word_name (quoted bytes)) = refl
name-name (digits_name digits) = refl

names-length :
    (ns : List NamePhrase) (rest : List Lexeme)
    → length (more_names_lexemes ns (lexeme Mark (codes "]") ∷ include_end rest)) ≡ 2 * length ns + 3 + length rest
names-length [] rest = omega arith
names-length (n ∷ ns) rest = omega (arith, names-length ns rest)

-- how far the last name stands before the bracket
pub names-far :
    (tokens : List Lexeme) (end at : ℕ) (n : NamePhrase) (ns : List NamePhrase) → AreNamesAt tokens end at (n ∷ ns)
    → end ≡ at + 1 + 2 * length ns
names-far tokens end at n ns h =
    let long : length tokens - at ≡ 1 + (2 * length ns + 3 + (length tokens - (end + 3))) =
    sym (length-drop at tokens) ∙ ap length h.0
    ∙ (let l = names-length ns (drop (end + 3) tokens) in let m = length-drop (end + 3) tokens in omega (arith, l, m)) in
    omega (arith, long, h.1)

pub next-names :
    (tokens : List Lexeme) (end at : ℕ) (n : NamePhrase) (ns : List NamePhrase) → AreNamesAt tokens end at (n ∷ ns)
    → AreNamesAt tokens end (at + 2) ns
next-names tokens end at n [] h = let far = names-far tokens end at n [] h in omega (arith, far)
next-names tokens end at n (m ∷ ms) h =
    (sym (drop-drop 2 at tokens) ∙ ap (drop 2) h.0, h.1)

pub names-start : (tokens : List Lexeme) (end first : ℕ) → StillReads tokens end first first []
names-start tokens end first = record { by = λ all h. (all, h, refl) }

pub names-step :
    (tokens : List Lexeme) (end first at : ℕ) (names : List (List ℕ)) (name : List ℕ) → at < end
    → ((t : Lexeme) (ts : List Lexeme) → drop at tokens ≡ t ∷ ts → name ≡ token_name t.kind t.bytes)
    → StillReads tokens end first at names → StillReads tokens end first (at + 2) (names ++ name ∷ [])
names-step tokens end first at names name small is r = record { by = λ all h. on all (r.by all h) }
  where
    on :
        (all : List NamePhrase) → (rest : List NamePhrase) × AreNamesAt tokens end at rest × (names ++ names_meant rest ≡ names_meant all)
        → (rest : List NamePhrase) × AreNamesAt tokens end (at + 2) rest × ((names ++ name ∷ []) ++ names_meant rest ≡ names_meant all)
    on all ([], h, e) = absurd (omega (arith, small, h))
    on all (n ∷ ns, h, e) =
        let same : name ≡ name_meant n = is (name_lexeme n) _ h.0 ∙ name-name n in
        (ns, next-names tokens end at n ns h, append_assoc names (name ∷ []) (names_meant ns) ∙ ap (λ x. names ++ x ∷ names_meant ns) same ∙ e)

pub names-end :
    (tokens : List Lexeme) (end first at : ℕ) (names : List (List ℕ)) → end ≤ at → StillReads tokens end first at names
    → (all : List NamePhrase) → AreNamesAt tokens end first all → names ≡ names_meant all
names-end tokens end first at names far r all h = on (r.by all h)
  where
    on : (rest : List NamePhrase) × AreNamesAt tokens end at rest × (names ++ names_meant rest ≡ names_meant all) → names ≡ names_meant all
    on ([], g, e) = sym (append-nil names) ∙ e
    on (n ∷ ns, g, e) = absurd (let f = names-far tokens end at n ns g in omega (arith, f, far))
