-- Faults that are told, by what the functions below say of tokens.
use Rattle.std.proofs.Common.{◌≡◌, inl, inr, None, Some, Option, ℕ, ◌+◌, ◌-◌, ◌*◌, ◌≤◌, Bool, true, false, ◌&&◌, ◌||◌, List, [], ◌∷◌, map, drop, length, codes, refl, ap, ap₂, sym, ◌∙◌, subst, arith}
use Rattle.std.specs.Prelude.{slice_get}
use Rattle.std.proofs.Math.Seq.{drop-drop}
use Rattle.std.proofs.lemmas.List.{length-map}
use Rattle.std.specs.Str.{IsAscii}
use Rattle.tptp_token.specs.Lexemes.{Lexeme, lexeme_at, lexeme, word_lexeme}
use Rattle.tptp_token.specs.Lexing.{lexed_of}
use Rattle.tptp_token.specs.declared.token.Lexed.{Lexed}
use Rattle.tptp_token.specs.declared.token.Kind.TheVariants.{Lower, Mark}
use Rattle.tptp_token.specs.Words.{name_of}
use Rattle.tptp_tree.specs.Entries.{NamePhrase, names_meant}
use Rattle.tptp_reader.specs.Faults.{IsEndFault, IsFaultWhere}
use Rattle.tptp_reader.specs.declared.cause.ReadCause.{ReadCause}
use Rattle.tptp_reader.specs.declared.cause.ReadCause.TheVariants.{BadByte, Unclosed, Syntax, SecondConjecture, Load}
use Rattle.tptp_reader.specs.declared.cause.ReadFault.{ReadFault}
use Rattle.tptp_reader.specs.declared.cause.ReadFault.TheVariants.{NoMemory, At}
use Rattle.tptp_problem.specs.declared.include.Awaited.TheVariants.{Keyword}
use Rattle.tptp_problem.specs.declared.include.Ending.TheVariants.{Whole, Stopped, Cut}
use Rattle.tptp_problem.specs.declared.source.Source.{Source}
use Rattle.tptp_problem.specs.Awaiting.{ending_from, AreNamesAt}
use Rattle.tptp_problem.specs.declared.fault.FileFault.{FileFault}
use Rattle.tptp_problem.specs.declared.fault.FileFault.TheVariants.{NoMemory as FileNoMemory, At as FileAt}
use Rattle.tptp_problem.specs.Languages.{PlacedTree, Language, counts, conjecture_begun, begun_counts}
use Rattle.tptp_problem.specs.Faults.{IsFileFault, IsToldFault, IsReadFault}
use Rattle.tptp_problem.specs.IncludeReads.{IsIncludeRead, ReadsNames, IsNameAt}
use Rattle.tptp_problem.specs.Includes.{StopsInclude, CutsInclude}
use Rattle.tptp_token.specs.declared.token.LexFault.{LexFault}
use Rattle.tptp_token.specs.declared.token.LexFault.TheVariants.{BadByte as BadByteAt, Unclosed as UnclosedAt}
use Rattle.tptp_problem.specs.Problem.{LoadedFile, Progress, tokens_of, lexemes, start_of, place_of, is_second, with_formula, IsFormulaStep, InLanguage, IsFormulaFault, IsIncludeSyntaxFault}
use Rattle.tptp_problem.specs.Shape.{IsLoadTold, IsLoadToldIn, IsLexed, file_of, lexemes_told, selections}
use Rattle.tptp_problem.proofs.AboutFiles.AsciiLemmas.{word-there}
use Rattle.tptp_problem.proofs.AboutReading.AwaitLemmas.{WholeThere, whole-there, stopped-there, cut-there}
use Rattle.tptp_problem.proofs.AboutReading.IncludeTokens.{include-tail, tail_lexemes, width}
use Rattle.tptp_problem.proofs.AboutFiles.IncludeLemmas.{word-name}
use Rattle.list_lemmas.proofs.Bools.{both-true, and-false}

pub fault-then :
    (P Q : ReadCause → List ℕ → ℕ → Type 0) (fault : ReadFault) → ((c : ReadCause) (f : List ℕ) (p : ℕ) → P c f p → Q c f p)
    → IsFaultWhere P fault → IsFaultWhere Q fault
fault-then P Q NoMemory f h = tt
fault-then P Q (At c f p) g h = g c f p h

-- ---- the tokens of a source are those of its bytes

pub tokens-same : (s : Source) → IsLexed s → s.lexed.now.tokens ≡ tokens_of (file_of s)
tokens-same s h = ap (λ (l : Lexed). l.tokens) h.lexed_is

pub lexemes-same : (s : Source) → IsLexed s → lexemes_told s ≡ lexemes (file_of s)
lexemes-same s h = ap (map (lexeme_at s.bytes.now)) (tokens-same s h)

pub place-same : (s : Source) (index : ℕ) → IsLexed s → start_of (slice_get s.lexed.now.tokens index) ≡ place_of (file_of s) index
place-same s index h = ap (λ ts. start_of (slice_get ts index)) (tokens-same s h)

-- ---- includes

pub include-stopped :
    (s : Source) (first index : ℕ) → IsLexed s → Stopped index ≡ ending_from first Keyword (drop first (lexemes_told s))
    → (c : ReadCause) (f : List ℕ) (p : ℕ)
    → (c ≡ Syntax) × (f ≡ s.name.now) × (p ≡ start_of (slice_get s.lexed.now.tokens index))
    → IsIncludeSyntaxFault (file_of s) first c f p
include-stopped s first index h e c f p k = (
  k.1,
  inl (
    index,
    subst (λ ls. StopsInclude ls first index) (lexemes-same s h) (stopped-there (lexemes_told s) first index (sym e)),
    k.0,
    k.2 ∙ place-same s index h,
  ),
)

pub include-cut :
    (s : Source) (first : ℕ) → IsLexed s → Cut ≡ ending_from first Keyword (drop first (lexemes_told s))
    → (c : ReadCause) (f : List ℕ) (p : ℕ) → (f ≡ s.name.now) × IsEndFault s.lexed.now.fault (length s.bytes.now) c p
    → IsIncludeSyntaxFault (file_of s) first c f p
include-cut s first h e c f p k = (
  k.0,
  inr (
    subst (λ ls. CutsInclude ls first) (lexemes-same s h) (cut-there (lexemes_told s) first (sym e)),
    subst (λ (l : Lexed). IsEndFault l.fault (length s.bytes.now) c p) h.lexed_is k.1,
  ),
)

names-many : (names : List NamePhrase) → length (names_meant names) ≡ length names
names-many [] = refl
names-many (n ∷ ns) = let more = names-many ns in omega (arith, more)

pub wide : (names : List NamePhrase) → (5 ≤ width names) × (5 + 2 * length names ≤ width names)
wide [] = (omega arith, omega arith)
wide (n ∷ ns) = (omega arith, omega arith)

pub names-there :
    (tokens : List Lexeme) (first next : ℕ) (w : WholeThere tokens first next) → AreNamesAt tokens (next - 3) (first + 5) w.names
names-there tokens first next w = by w.names w.next_is (drop-drop 5 first tokens) (w.spelled.spelled ∙ include-tail w.file w.names (drop next tokens)) w.spelled.within
  where
    by :
        (names : List NamePhrase) → next ≡ first + width names → drop 5 (drop first tokens) ≡ drop (first + 5) tokens
        → drop first tokens
        ≡ lexeme Lower (codes "include") ∷ lexeme Mark (codes "(") ∷ word_lexeme w.file ∷ tail_lexemes names (drop next tokens)
        → next ≤ length tokens → AreNamesAt tokens (next - 3) (first + 5) names
    by [] e d s l = omega (arith, e)
    by (n ∷ ns) e d s l =
        let far : next - 3 + 3 ≡ next = omega (arith, e) in
        (sym d ∙ ap (drop 5) s ∙ ap (λ k. drop 5 (lexeme Lower (codes "include") ∷ lexeme Mark (codes "(") ∷ word_lexeme w.file ∷ tail_lexemes (n ∷ ns) (drop k tokens))) (sym far), omega (arith, far, l))

pub file-there : (tokens : List Lexeme) (first next : ℕ) (w : WholeThere tokens first next) → drop (first + 2) tokens ≡ word_lexeme w.file ∷ tail_lexemes w.names (drop next tokens)
file-there tokens first next w =
    sym (drop-drop 2 first tokens) ∙ ap (drop 2) (w.spelled.spelled ∙ include-tail w.file w.names (drop next tokens))

pub include-whole :
    (s : Source) (first next : ℕ) (file : List ℕ) (names : List (List ℕ)) → IsLexed s
    → Whole next ≡ ending_from first Keyword (drop first (lexemes_told s))
    → IsNameAt s (first + 2) file → ReadsNames s (first + 5) (next - 3) names
    → IsIncludeRead s first (record { file = file; names = names; next = next })
include-whole s first next file names h e k l =
    let w = whole-there (lexemes_told s) first next (sym e) in
    let there = file-there (lexemes_told s) first next w in
    let file_is : file ≡ name_of w.file = k.by (word_lexeme w.file) _ there ∙ word-name w.file in
    let names_are : names ≡ names_meant w.names = l.by w.names (names-there (lexemes_told s) first next w) in
    let many : length names ≡ length w.names = ap length names_are ∙ names-many w.names in
    record {
      file = w.file;
      names = w.names;
      spelled = w.spelled;
      file_is = file_is;
      names_are = names_are;
      ascii = subst IsAscii (sym file_is) (word-there s.bytes.now (first + 2) w.file _ (ap (drop (first + 2)) (sym (lexemes-same s h)) ∙ there));
      room = omega (arith, many, w.next_is, (wide w.names).1);
    }

pub whole-wide : (s : Source) (first next : ℕ) → Whole next ≡ ending_from first Keyword (drop first (lexemes_told s)) → (first + 5 ≤ next) × (next ≤ length s.lexed.now.tokens)
whole-wide s first next e =
    let w = whole-there (lexemes_told s) first next (sym e) in
    (omega (arith, w.next_is, (wide w.names).0), (let l = w.spelled.within in omega (arith, l, length-map s.lexed.now.tokens (lexeme_at s.bytes.now))))

-- ---- faults that are no loads

pub end-no-load : (fault : Option LexFault) (end : ℕ) (c : ReadCause) (p : ℕ) → IsEndFault fault end c p → c ≡ Load → ⊥
end-no-load None end c p h e = let same : Syntax ≡ Load = sym h.0 ∙ e in cc
end-no-load (Some (BadByteAt n)) end c p h e = let same : BadByte ≡ Load = sym h.0 ∙ e in cc
end-no-load (Some (UnclosedAt n)) end c p h e = let same : Unclosed ≡ Load = sym h.0 ∙ e in cc

pub syntax-no-load :
    (s : LoadedFile) (first : ℕ) (c : ReadCause) (f : List ℕ) (p : ℕ) → IsIncludeSyntaxFault s first c f p → c ≡ Load → ⊥
syntax-no-load s first c f p (e, inl h) k = let same : Syntax ≡ Load = sym h.2 ∙ k in cc
syntax-no-load s first c f p (e, inr h) k = end-no-load (lexed_of s.bytes).fault (length s.bytes) c p h.1 k

pub other-no-load : (c other : ReadCause) → (other ≡ Load → ⊥) → c ≡ other → c ≡ Load → ⊥
other-no-load c other never e k = never (sym e ∙ k)

-- ---- faults in a language

module _ {Tree Cause : Type 0} (language : Language Tree Cause) where
  pub file-fault-then :
      (P Q : Cause → List ℕ → ℕ → Type 0) (fault : FileFault Cause) → ((c : Cause) (f : List ℕ) (p : ℕ) → P c f p → Q c f p)
      → IsFileFault P fault → IsFileFault Q fault
  file-fault-then P Q FileNoMemory f h = tt
  file-fault-then P Q (FileAt c f p) g h = g c f p h

  -- what is known of a fault that is told
  pub told-then :
      (P : ReadCause → List ℕ → ℕ → Type 0) (Q : Cause → List ℕ → ℕ → Type 0) (fault : ReadFault) (result : FileFault Cause)
      → ((c : ReadCause) (f : List ℕ) (p : ℕ) → P c f p → Q (language.cause c) f p)
      → IsFaultWhere P fault → IsToldFault language fault result → IsFileFault Q result
  told-then P Q NoMemory FileNoMemory g h k = tt
  told-then P Q NoMemory (FileAt d e q) g h k = absurd k
  told-then P Q (At c f p) FileNoMemory g h k = tt
  told-then P Q (At c f p) (FileAt d e q) g h k =
      subst (λ x. Q x e q) (sym k.0)
      (subst (λ x. Q (language.cause c) x q) (sym k.1) (subst (λ x. Q (language.cause c) f x) (sym k.2) (g c f p h)))

  pub told-here :
      (P : ReadCause → List ℕ → ℕ → Type 0) (fault : ReadFault) (result : FileFault Cause)
      → IsFaultWhere P fault → IsToldFault language fault result → IsFileFault (InLanguage language P) result
  told-here P fault result h k = told-then P (InLanguage language P) fault result (λ c f p x. (c, refl, x)) h k

  -- ---- loads

  -- A load is told of a fault in the language as of the fault itself, where no other cause is told as `Load`.
  pub told-load :
      ((known : ReadCause) → language.cause known ≡ language.cause Load → known ≡ Load)
      → (before after : ℕ) (failed : Option (List ℕ)) (fault : ReadFault) (result : FileFault Cause)
      → IsFaultWhere (IsLoadTold before after failed) fault → IsToldFault language fault result
      → IsFileFault (IsLoadToldIn language before after failed) result
  told-load alone before after failed fault result h k =
      told-then (IsLoadTold before after failed) (IsLoadToldIn language before after failed) fault result
      (λ c f p told e. told (alone c e)) h k

  pub told-no-load :
      ((known : ReadCause) → language.cause known ≡ language.cause Load → known ≡ Load)
      → (P : ReadCause → List ℕ → ℕ → Type 0) → ((c : ReadCause) (f : List ℕ) (p : ℕ) → P c f p → c ≡ Load → ⊥)
      → (fault : ReadFault) (result : FileFault Cause) → IsFaultWhere P fault → IsToldFault language fault result
      → IsFileFault (λ c f p. c ≡ language.cause Load → ⊥) result
  told-no-load alone P never fault result h k =
      told-then P (λ c f p. c ≡ language.cause Load → ⊥) fault result (λ c f p x e. never c f p x (alone c e)) h k

  pub unloaded :
      (before after : ℕ) (failed : Option (List ℕ)) (result : FileFault Cause) → IsFileFault (λ c f p. c ≡ language.cause Load → ⊥) result
      → IsFileFault (IsLoadToldIn language before after failed) result
  unloaded before after failed result h =
      file-fault-then (λ c f p. c ≡ language.cause Load → ⊥) (IsLoadToldIn language before after failed) result (λ c f p x e. absurd (x e)) h

  -- ---- formulas

  pub second : (s : Source) (first : ℕ) (progress : Progress) (b : Bool) → IsLexed s
      → b ≡ begun_counts (selections s.around.now) (conjecture_begun language.word (drop first (lexemes_told s)))
      → is_second language (file_of s) first progress ≡ (progress.met && b)
  second s first progress b h e =
      ap (λ x. progress.met && x)
      (ap (λ ls. begun_counts (selections s.around.now) (conjecture_begun language.word (drop first ls))) (sym (lexemes-same s h)) ∙ sym e)

  -- a conjecture that begins with the language's word
  pub conjecture-word :
      (s : Source) (first : ℕ) (word : List ℕ) (b : Bool) → word ≡ language.word
      → b ≡ begun_counts (selections s.around.now) (conjecture_begun word (drop first (lexemes_told s)))
      → b ≡ begun_counts (selections s.around.now) (conjecture_begun language.word (drop first (lexemes_told s)))
  conjecture-word s first word b w e =
      e ∙ ap (λ x. begun_counts (selections s.around.now) (conjecture_begun x (drop first (lexemes_told s)))) w

  pub second-true :
      (s : Source) (first : ℕ) (progress : Progress) (b : Bool) → IsLexed s
      → b ≡ begun_counts (selections s.around.now) (conjecture_begun language.word (drop first (lexemes_told s))) → progress.met ≡ true → b ≡ true
      → is_second language (file_of s) first progress ≡ true
  second-true s first progress b h e m k = second s first progress b h e ∙ both-true progress.met b m k

  pub second-none :
      (s : Source) (first : ℕ) (progress : Progress) (b : Bool) → IsLexed s
      → b ≡ begun_counts (selections s.around.now) (conjecture_begun language.word (drop first (lexemes_told s))) → b ≡ false
      → is_second language (file_of s) first progress ≡ false
  second-none s first progress b h e k = second s first progress b h e ∙ ap (λ x. progress.met && x) k ∙ and-false progress.met

  pub second-clear : (s : Source) (first : ℕ) (progress : Progress) → progress.met ≡ false → is_second language (file_of s) first progress ≡ false
  second-clear s first progress m =
      ap (λ x. x && begun_counts (selections s.around.now) (conjecture_begun language.word (drop first (lexemes (file_of s))))) m

  pub second-fault :
      (s : Source) (first : ℕ) (progress : Progress) → IsLexed s → is_second language (file_of s) first progress ≡ true
      → (c : ReadCause) (f : List ℕ) (p : ℕ)
      → (c ≡ SecondConjecture) × (f ≡ s.name.now) × (p ≡ start_of (slice_get s.lexed.now.tokens (first + 4)))
      → IsFormulaFault language (file_of s) (is_second language (file_of s) first progress) first progress (language.cause c) f p
  second-fault s first progress h e c f p k =
      subst (λ b. IsFormulaFault language (file_of s) b first progress (language.cause c) f p) (sym e)
      (ap language.cause k.0, k.1, k.2 ∙ place-same s (first + 4) h)

  pub formula-fault :
      (s : Source) (first : ℕ) (progress : Progress) → is_second language (file_of s) first progress ≡ false
      → (c : Cause) (f : List ℕ) (p : ℕ) → (f ≡ s.name.now) × language.IsFault s.bytes.now first c p
      → IsFormulaFault language (file_of s) (is_second language (file_of s) first progress) first progress c f p
  formula-fault s first progress e c f p k =
      subst (λ b. IsFormulaFault language (file_of s) b first progress c f p) (sym e) k

  -- ---- a formula that is read

  pub formula-step :
      (s : Source) (first : ℕ) (start progress : Progress) (f : PlacedTree Tree) (next : ℕ) → is_second language (file_of s) first start ≡ false
      → language.IsRead s.name.now s.bytes.now first f next → progress ≡ with_formula language (selections s.around.now) f start
      → IsFormulaStep language (file_of s) first start (record { formulas = f ∷ []; progress = progress; next = next })
  formula-step s first start progress f next single read e =
      record { single = single; formula = f; read = read; formulas_are = refl; progress_is = e }

  pub met-then :
      (around : List (List (List ℕ))) (f : PlacedTree Tree) (start now : Progress) (b : Bool)
      → b ≡ (language.is_conjecture f.tree && counts around (language.name f.tree)) → now.loaded ≡ start.loaded
      → (b ≡ true → now.met ≡ true) → (b ≡ false → now.met ≡ start.met)
      → now ≡ with_formula language around f start
  met-then around f start now b e l then_met else_met =
      let met : now.met ≡ (start.met || (language.is_conjecture f.tree && counts around (language.name f.tree))) =
      by b refl ∙ ap (λ x. start.met || x) e in
      ap₂ (λ (n : ℕ) (m : Bool). let p : Progress = record { loaded = n; met = m } in p) l met
    where
      always : (m : Bool) → true ≡ (m || true)
      always true = refl
      always false = refl

      same : (m : Bool) → m ≡ (m || false)
      same true = refl
      same false = refl

      by : (x : Bool) → b ≡ x → now.met ≡ (start.met || b)
      by true h = then_met h ∙ always start.met ∙ ap (λ x. start.met || x) (sym h)
      by false h = else_met h ∙ same start.met ∙ ap (λ x. start.met || x) (sym h)

-- ---- problems

pub read-fault-where :
    (P : ReadCause → List ℕ → ℕ → Type 0) (fault : FileFault ReadCause) (result : ReadFault)
    → IsFileFault P fault → IsReadFault fault result → IsFaultWhere P result
read-fault-where P FileNoMemory NoMemory h k = tt
read-fault-where P FileNoMemory (At c f p) h k = absurd k
read-fault-where P (FileAt d e q) NoMemory h k = tt
read-fault-where P (FileAt d e q) (At c f p) h k =
    subst (λ x. P x f p) (sym k.0) (subst (λ x. P d x p) (sym k.1) (subst (λ x. P d e x) (sym k.2) h))
