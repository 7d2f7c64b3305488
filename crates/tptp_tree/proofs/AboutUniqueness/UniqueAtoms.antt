-- A list of tokens is that of at most one atom, with what follows it.
use Rattle.std.proofs.Common.{◌≡◌, ℕ, None, Some, Option, Bool, true, false, List, [], ◌∷◌, codes, refl, ap, ap₂, sym, ◌∙◌, bytes_eq}
use Rattle.std.specs.Prelude.{if◌then◌else◌}
use Rattle.tptp_token.specs.Lexemes.{Lexeme, lexeme, word_lexeme}
use Rattle.tptp_token.specs.declared.token.Kind.{Kind}
use Rattle.tptp_token.specs.declared.token.Kind.TheVariants.{Lower, Variable, Quoted, Distinct, Dollar, Number, Connective, Mark, Other}
use Rattle.tptp_tree.specs.Formula.{BinaryConnective, implies, implied, equivalent, different, nor, nand}
use Rattle.tptp_token.specs.Words.{Word, bare, quoted}
use Rattle.tptp_tree.specs.Spelling.{TermPhrase, variable_word, word_with, TermPhrases, no_phrases, phrase_then, term_lexemes, arguments_lexemes, more_arguments_lexemes, Atom, true_atom, false_atom, predicate_atom, equation_atom, equals_lexeme, atom_lexemes}

-- ---- what the first token tells

pub tail-same : (l m : Lexeme) (ls ms : List Lexeme) → l ∷ ls ≡ m ∷ ms → ls ≡ ms
tail-same l m ls ms e = cc

pub head-same : (l m : Lexeme) (ls ms : List Lexeme) → l ∷ ls ≡ m ∷ ms → l ≡ m
head-same l m ls ms e = cc

-- the first token has these bytes
abbrev pub first_is : List ℕ → List Lexeme → Bool
first_is bytes [] = false
first_is bytes (l ∷ ls) = bytes_eq l.bytes bytes

-- the sign of an equation
abbrev pub first_equals : List Lexeme → Option Bool
first_equals ls = if first_is (codes "=") ls then Some true else (if first_is (codes "!=") ls then Some false else None)

pub data Joint : Type 0 where
  nothing : Joint
  ands : Joint
  ors : Joint
  two_by : BinaryConnective → Joint

-- the connective between operands
abbrev pub first_joint : List Lexeme → Joint
first_joint ls =
    if first_is (codes "&") ls then ands
    else (if first_is (codes "|") ls then ors
    else (if first_is (codes "=>") ls then two_by implies
    else (if first_is (codes "<=") ls then two_by implied
    else (if first_is (codes "<=>") ls then two_by equivalent
    else (if first_is (codes "<~>") ls then two_by different
    else (if first_is (codes "~|") ls then two_by nor else (if first_is (codes "~&") ls then two_by nand else nothing)))))))

pub record EndsUnit (ls : List Lexeme) : Type 0 where
  pub flat : first_is (codes "(") ls ≡ false
  pub alone_here : first_equals ls ≡ None

pub record EndsPhrase (ls : List Lexeme) : Type 0 where
  pub unit : EndsUnit ls
  pub last : first_joint ls ≡ nothing

-- ---- words and terms

pub word-same : (w v : Word) → word_lexeme w ≡ word_lexeme v → w ≡ v
word-same (bare x) (bare y) e = ap (λ (l : Lexeme). bare l.bytes) e
word-same (bare x) (quoted y) e = absurd (let k : Lower ≡ Quoted = ap (λ (l : Lexeme). l.kind) e in cc)
word-same (quoted x) (bare y) e = absurd (let k : Quoted ≡ Lower = ap (λ (l : Lexeme). l.kind) e in cc)
word-same (quoted x) (quoted y) e = ap (λ (l : Lexeme). quoted l.bytes) e

pub word-no_variable : (w : Word) (x : List ℕ) → word_lexeme w ≡ lexeme Variable x → ⊥
word-no_variable (bare y) x e = let k : Lower ≡ Variable = ap (λ (l : Lexeme). l.kind) e in cc
word-no_variable (quoted y) x e = let k : Quoted ≡ Variable = ap (λ (l : Lexeme). l.kind) e in cc

pub more_arguments-flat : (ts : TermPhrases) (ls : List Lexeme) → first_is (codes "(") (more_arguments_lexemes ts ls) ≡ false
more_arguments-flat no_phrases ls = refl
more_arguments-flat (phrase_then t ts) ls = refl

mutual
  pub term-same :
      (t u : TermPhrase) (ls ms : List Lexeme)
      → first_is (codes "(") ls ≡ false → first_is (codes "(") ms ≡ false → term_lexemes t ls ≡ term_lexemes u ms
      → (t ≡ u) × (ls ≡ ms)
  term-same (variable_word x) (variable_word y) ls ms h k e = (
    ap (λ (l : Lexeme). variable_word l.bytes) (head-same (lexeme Variable x) (lexeme Variable y) ls ms e),
    tail-same (lexeme Variable x) (lexeme Variable y) ls ms e,
  )
  term-same (variable_word x) (word_with v us) ls ms h k e =
      absurd (word-no_variable v x (sym (head-same (lexeme Variable x) (word_lexeme v) ls (arguments_lexemes us ms) e)))
  term-same (word_with w ts) (variable_word y) ls ms h k e =
      absurd (word-no_variable w y (head-same (word_lexeme w) (lexeme Variable y) (arguments_lexemes ts ls) ms e))
  term-same (word_with w ts) (word_with v us) ls ms h k e =
      let word = word-same w v (head-same (word_lexeme w) (word_lexeme v) (arguments_lexemes ts ls) (arguments_lexemes us ms) e) in
      let more = arguments-same ts us ls ms h k (tail-same (word_lexeme w) (word_lexeme v) (arguments_lexemes ts ls) (arguments_lexemes us ms) e) in
      (ap₂ word_with word more.0, more.1)

  pub arguments-same :
      (ts us : TermPhrases) (ls ms : List Lexeme)
      → first_is (codes "(") ls ≡ false → first_is (codes "(") ms ≡ false → arguments_lexemes ts ls ≡ arguments_lexemes us ms
      → (ts ≡ us) × (ls ≡ ms)
  arguments-same no_phrases no_phrases ls ms h k e = (refl, e)
  arguments-same no_phrases (phrase_then u us) ls ms h k e =
      absurd (let t : false ≡ true = sym h ∙ ap (first_is (codes "(")) e in cc)
  arguments-same (phrase_then t ts) no_phrases ls ms h k e =
      absurd (let f : true ≡ false = ap (first_is (codes "(")) e ∙ k in cc)
  arguments-same (phrase_then t ts) (phrase_then u us) ls ms h k e =
      let first =
      term-same t u (more_arguments_lexemes ts ls) (more_arguments_lexemes us ms) (more_arguments-flat ts ls) (more_arguments-flat us ms)
      (tail-same (lexeme Mark (codes "(")) (lexeme Mark (codes "(")) (term_lexemes t (more_arguments_lexemes ts ls)) (term_lexemes u (more_arguments_lexemes us ms)) e) in
      let more = more_arguments-same ts us ls ms first.1 in
      (ap₂ phrase_then first.0 more.0, more.1)

  pub more_arguments-same :
      (ts us : TermPhrases) (ls ms : List Lexeme)
      → more_arguments_lexemes ts ls ≡ more_arguments_lexemes us ms → (ts ≡ us) × (ls ≡ ms)
  more_arguments-same no_phrases no_phrases ls ms e =
      (refl, tail-same (lexeme Mark (codes ")")) (lexeme Mark (codes ")")) ls ms e)
  more_arguments-same no_phrases (phrase_then u us) ls ms e =
      absurd (let t : false ≡ true = ap (first_is (codes ",")) e in cc)
  more_arguments-same (phrase_then t ts) no_phrases ls ms e =
      absurd (let f : true ≡ false = ap (first_is (codes ",")) e in cc)
  more_arguments-same (phrase_then t ts) (phrase_then u us) ls ms e =
      let first =
      term-same t u (more_arguments_lexemes ts ls) (more_arguments_lexemes us ms) (more_arguments-flat ts ls) (more_arguments-flat us ms)
      (tail-same (lexeme Mark (codes ",")) (lexeme Mark (codes ",")) (term_lexemes t (more_arguments_lexemes ts ls)) (term_lexemes u (more_arguments_lexemes us ms)) e) in
      let more = more_arguments-same ts us ls ms first.1 in
      (ap₂ phrase_then first.0 more.0, more.1)

-- ---- atoms

-- `$true`, `$false`, or a word or a variable
pub data Start : Type 0 where
  true_start : Start
  false_start : Start
  other_start : Start

abbrev pub dollar_start : List ℕ → Start
dollar_start bytes = if bytes_eq bytes (codes "$true") then true_start else false_start

abbrev pub kind_start : Kind → List ℕ → Start
kind_start Lower bytes = other_start
kind_start Variable bytes = other_start
kind_start Quoted bytes = other_start
kind_start Distinct bytes = other_start
kind_start Dollar bytes = dollar_start bytes
kind_start Number bytes = other_start
kind_start Connective bytes = other_start
kind_start Mark bytes = other_start
kind_start Other bytes = other_start

abbrev pub first_start : List Lexeme → Start
first_start [] = other_start
first_start (l ∷ ls) = kind_start l.kind l.bytes

abbrev pub atom_start : Atom → Start
atom_start true_atom = true_start
atom_start false_atom = false_start
atom_start (predicate_atom w ts) = other_start
atom_start (equation_atom positive s t) = other_start

pub word-start : (w : Word) (ls : List Lexeme) → first_start (word_lexeme w ∷ ls) ≡ other_start
word-start (bare x) ls = refl
word-start (quoted x) ls = refl

pub term-start : (t : TermPhrase) (ls : List Lexeme) → first_start (term_lexemes t ls) ≡ other_start
term-start (variable_word x) ls = refl
term-start (word_with w ts) ls = word-start w (arguments_lexemes ts ls)

pub atom-start : (a : Atom) (ls : List Lexeme) → first_start (atom_lexemes a ls) ≡ atom_start a
atom-start true_atom ls = refl
atom-start false_atom ls = refl
atom-start (predicate_atom w ts) ls = word-start w (arguments_lexemes ts ls)
atom-start (equation_atom positive s t) ls = term-start s (equals_lexeme positive ∷ term_lexemes t ls)

pub equals-flat : (positive : Bool) (ls : List Lexeme) → first_is (codes "(") (equals_lexeme positive ∷ ls) ≡ false
equals-flat true ls = refl
equals-flat false ls = refl

pub equals-first : (positive : Bool) (ls : List Lexeme) → first_equals (equals_lexeme positive ∷ ls) ≡ Some positive
equals-first true ls = refl
equals-first false ls = refl

-- an atom of a predicate is no equation
pub mixed :
    (w : Word) (ts : TermPhrases) (positive : Bool) (s t : TermPhrase) (ls ms : List Lexeme)
    → EndsUnit ls → word_lexeme w ∷ arguments_lexemes ts ls ≡ term_lexemes s (equals_lexeme positive ∷ term_lexemes t ms) → ⊥
mixed w ts positive (variable_word x) t ls ms h e =
    word-no_variable w x (head-same (word_lexeme w) (lexeme Variable x) (arguments_lexemes ts ls) (equals_lexeme positive ∷ term_lexemes t ms) e)
mixed w ts positive (word_with v us) t ls ms h e =
    let same =
    arguments-same ts us ls (equals_lexeme positive ∷ term_lexemes t ms) h.flat (equals-flat positive (term_lexemes t ms))
    (tail-same (word_lexeme w) (word_lexeme v) (arguments_lexemes ts ls) (arguments_lexemes us (equals_lexeme positive ∷ term_lexemes t ms)) e) in
    let x : None ≡ Some positive = sym h.alone_here ∙ ap first_equals same.1 ∙ equals-first positive (term_lexemes t ms) in
    cc

pub atom-same :
    (a b : Atom) (ls ms : List Lexeme)
    → EndsUnit ls → EndsUnit ms → atom_start a ≡ atom_start b → atom_lexemes a ls ≡ atom_lexemes b ms → (a ≡ b) × (ls ≡ ms)
atom-same true_atom true_atom ls ms h k s e = (refl, tail-same (lexeme Dollar (codes "$true")) (lexeme Dollar (codes "$true")) ls ms e)
atom-same true_atom false_atom ls ms h k s e = absurd (cc)
atom-same true_atom (predicate_atom v us) ls ms h k s e = absurd (cc)
atom-same true_atom (equation_atom n p q) ls ms h k s e = absurd (cc)
atom-same false_atom true_atom ls ms h k s e = absurd (cc)
atom-same false_atom false_atom ls ms h k s e = (refl, tail-same (lexeme Dollar (codes "$false")) (lexeme Dollar (codes "$false")) ls ms e)
atom-same false_atom (predicate_atom v us) ls ms h k s e = absurd (cc)
atom-same false_atom (equation_atom n p q) ls ms h k s e = absurd (cc)
atom-same (predicate_atom w ts) true_atom ls ms h k s e = absurd (cc)
atom-same (predicate_atom w ts) false_atom ls ms h k s e = absurd (cc)
atom-same (predicate_atom w ts) (predicate_atom v us) ls ms h k s e =
    let word = word-same w v (head-same (word_lexeme w) (word_lexeme v) (arguments_lexemes ts ls) (arguments_lexemes us ms) e) in
    let more = arguments-same ts us ls ms h.flat k.flat (tail-same (word_lexeme w) (word_lexeme v) (arguments_lexemes ts ls) (arguments_lexemes us ms) e) in
    (ap₂ predicate_atom word more.0, more.1)
atom-same (predicate_atom w ts) (equation_atom n p q) ls ms h k s e = absurd (mixed w ts n p q ls ms h e)
atom-same (equation_atom m x y) true_atom ls ms h k s e = absurd (cc)
atom-same (equation_atom m x y) false_atom ls ms h k s e = absurd (cc)
atom-same (equation_atom m x y) (predicate_atom v us) ls ms h k s e = absurd (mixed v us m x y ms ls k (sym e))
atom-same (equation_atom m x y) (equation_atom n p q) ls ms h k s e =
    let left =
    term-same x p (equals_lexeme m ∷ term_lexemes y ls) (equals_lexeme n ∷ term_lexemes q ms) (equals-flat m (term_lexemes y ls)) (equals-flat n (term_lexemes q ms)) e in
    let sign : Some m ≡ Some n = sym (equals-first m (term_lexemes y ls)) ∙ ap first_equals left.1 ∙ equals-first n (term_lexemes q ms) in
    let right = term-same y q ls ms h.flat k.flat (tail-same (equals_lexeme m) (equals_lexeme n) (term_lexemes y ls) (term_lexemes q ms) left.1) in
    let signs : m ≡ n = cc in
    (ap (λ b. equation_atom b x y) signs ∙ ap₂ (equation_atom n) left.0 right.0, right.1)
