-- One outcome for includes, for steps and for the faults of entries.
use Rattle.std.proofs.Common.{◌≡◌, ◌⊎◌, inl, inr, ⊎_elim, ℕ, zero, suc, ◌+◌, ◌*◌, ◌-◌, ◌<◌, Bool, true, false, None, Some, Option, List, [], ◌∷◌, ◌++◌, take, drop, length, refl, ap, ap₂, sym, ◌∙◌, subst, arith, append_assoc, length-drop}
use Rattle.std.proofs.lemmas.List.{take-take, take-append-drop}
use Rattle.outside.specs.Library.{Holdings}
use Rattle.tptp_token.specs.Lexemes.{Lexeme, word_lexeme}
use Rattle.tptp_token.specs.Lexing.{lexed_of}
use Rattle.tptp_token.specs.declared.token.LexFault.{LexFault}
use Rattle.tptp_token.specs.declared.token.LexFault.TheVariants.{BadByte as BadByteAt, Unclosed as UnclosedAt}
use Rattle.tptp_token.specs.Words.{Word, name_of, token_name}
use Rattle.tptp_tree.specs.Entries.{NamePhrase, name_lexeme, name_meant, names_meant}
use Rattle.tptp_reader.specs.Faults.{IsEndFault}
use Rattle.tptp_reader.specs.declared.cause.ReadCause.{ReadCause}
use Rattle.tptp_reader.specs.declared.cause.ReadCause.TheVariants.{Load}
use Rattle.tptp_problem.specs.declared.include.Awaited.TheVariants.{Keyword}
use Rattle.tptp_problem.specs.declared.include.Ending.TheVariants.{Whole}
use Rattle.tptp_problem.specs.Awaiting.{ending_from, AreNamesAt}
use Rattle.tptp_problem.specs.Files.{loaded_name}
use Rattle.tptp_problem.specs.Languages.{PlacedTree, Language, IsDetermined, selected, missing}
use Rattle.tptp_problem.specs.Includes.{is_include, IsInclude, BeginsInclude, StopsInclude, HasNoInclude}
use Rattle.tptp_problem.specs.Problem.{LoadedFile, Progress, Step, Reads, Faults, lexemes, place_of, with_formula, is_second, IsStep, IsStepBy, IsIncludeStep, IsFormulaStep, AreSteps, next_behind, progress_behind, IsFormulaFault, IsIncludeSyntaxFault, IsIncludedFault, IsIncludeFault, IsMissing, IsFaultBy, ReadsNamed}
use Rattle.tptp_problem.proofs.AboutReading.AwaitLemmas.{WholeThere, include-length}
use Rattle.tptp_problem.proofs.AboutReading.IncludeTokens.{include-ends, width}
use Rattle.tptp_problem.proofs.AboutReading.FaultLemmas.{names-there, file-there}
use Rattle.tptp_problem.proofs.AboutFiles.IncludeLemmas.{word-name, name-name, names-far, next-names}

-- ---- what is to be shown of the files that are included

-- two faults are one
abbrev pub Same : {Cause : Type 0} → Cause → List ℕ → ℕ → Cause → List ℕ → ℕ → Type 0
Same c f p d g q = (c ≡ d) × (f ≡ g) × (p ≡ q)

module _ {Tree Cause : Type 0} (language : Language Tree Cause) where
  pub record OneRead (reads : Reads language) : Type 0 where
    pub same :
        (name : List ℕ) (around : List (List (List ℕ))) (start : Progress) (f g : List (PlacedTree Tree)) (a b : Progress)
        → reads name around start f a → reads name around start g b → (f ≡ g) × (a ≡ b)

  pub record NoFault (reads : Reads language) (faults : Faults language) : Type 0 where
    pub none :
        (name : List ℕ) (around : List (List (List ℕ))) (start : Progress) (f : List (PlacedTree Tree)) (a : Progress) (c : Cause) (file : List ℕ) (p : ℕ)
        → (c ≡ language.cause Load → ⊥) → reads name around start f a → faults name around start c file p → ⊥

  pub record OneFault (faults others : Faults language) : Type 0 where
    pub same :
        (name : List ℕ) (around : List (List (List ℕ))) (start : Progress) (c d : Cause) (f g : List ℕ) (p q : ℕ)
        → (c ≡ language.cause Load → ⊥) → (d ≡ language.cause Load → ⊥) → faults name around start c f p → others name around start d g q → Same c f p d g q

-- ---- includes

pub include-next : (tokens : List Lexeme) (first : ℕ) (f : Word) (ns : List NamePhrase) (n : ℕ) → IsInclude tokens first f ns n → n ≡ first + width ns
include-next tokens first f ns n h =
    let long : length tokens - first ≡ width ns + length (drop n tokens) =
    sym (length-drop first tokens) ∙ ap length h.spelled ∙ include-length f ns (drop n tokens) in
    omega (arith, long, length-drop n tokens, h.within)

abbrev pub there : (tokens : List Lexeme) (first : ℕ) (f : Word) (ns : List NamePhrase) (n : ℕ) → IsInclude tokens first f ns n → WholeThere tokens first n
there tokens first f ns n h = record { file = f; names = ns; spelled = h; next_is = include-next tokens first f ns n h }

names-one :
    (tokens : List Lexeme) (end at : ℕ) (ns ms : List NamePhrase) → AreNamesAt tokens end at ns → AreNamesAt tokens end at ms
    → names_meant ns ≡ names_meant ms
names-one tokens end at [] [] h k = refl
names-one tokens end at [] (m ∷ ms) h k = absurd (let far = names-far tokens end at m ms k in omega (arith, far, h))
names-one tokens end at (n ∷ ns) [] h k = absurd (let far = names-far tokens end at n ns h in omega (arith, far, k))
names-one tokens end at (n ∷ ns) (m ∷ ms) h k =
    let both = sym h.0 ∙ k.0 in
    let head : name_lexeme n ≡ name_lexeme m = cc in
    let name : name_meant n ≡ name_meant m =
    sym (name-name n) ∙ ap (λ (l : Lexeme). token_name l.kind l.bytes) head ∙ name-name m in
    ap₂ (λ x xs. x ∷ xs) name (names-one tokens end (at + 2) ns ms (next-names tokens end at n ns h) (next-names tokens end at m ms k))

pub record SameInclude (f g : Word) (ns ms : List NamePhrase) (n m : ℕ) : Type 0 where
  pub file : name_of f ≡ name_of g
  pub names : names_meant ns ≡ names_meant ms
  pub next : n ≡ m

whole-same : (m n : ℕ) → Whole m ≡ Whole n → m ≡ n
whole-same m n e = cc

include-one :
    (tokens : List Lexeme) (first : ℕ) (f g : Word) (ns ms : List NamePhrase) (n m : ℕ)
    → IsInclude tokens first f ns n → IsInclude tokens first g ms m → SameInclude f g ns ms n m
include-one tokens first f g ns ms n m h k =
    let ends : first + width ns ≡ first + width ms =
    whole-same (first + width ns) (first + width ms)
    (sym (ap (ending_from first Keyword) h.spelled ∙ include-ends first f ns (drop n tokens) h.right)
    ∙ ap (ending_from first Keyword) k.spelled ∙ include-ends first g ms (drop m tokens) k.right) in
    let next : n ≡ m = include-next tokens first f ns n h ∙ ends ∙ sym (include-next tokens first g ms m k) in
    let both = sym (file-there tokens first n (there tokens first f ns n h)) ∙ file-there tokens first m (there tokens first g ms m k) in
    let head : word_lexeme f ≡ word_lexeme g = cc in
    record {
      file = sym (word-name f) ∙ ap (λ (l : Lexeme). token_name l.kind l.bytes) head ∙ word-name g;
      names =
          names-one tokens (n - 3) (first + 5) ns ms (names-there tokens first n (there tokens first f ns n h))
          (subst (λ e. AreNamesAt tokens (e - 3) (first + 5) ms) (sym next) (names-there tokens first m (there tokens first g ms m k)));
      next = next;
    }

-- ---- faults of entries

begins-front : (xs ys : List Lexeme) → BeginsInclude (xs ++ ys) → BeginsInclude xs
begins-front xs ys h =
    record { file = h.file; names = h.names; more = ys ++ h.more; right = h.right; continued = h.continued ∙ append_assoc xs ys h.more }

begins-take : (n : ℕ) (xs : List Lexeme) → BeginsInclude xs → BeginsInclude (take n xs)
begins-take n xs h = begins-front (take n xs) (drop n xs) (subst BeginsInclude (sym (take-append-drop n xs)) h)

stops-before : (tokens : List Lexeme) (first i j : ℕ) → StopsInclude tokens first i → StopsInclude tokens first j → i < j → ⊥
stops-before tokens first i j h k l =
    h.stops
    (subst BeginsInclude (take-take (suc i - first) (j - first) (drop first tokens) (omega (arith, l)))
    (begins-take (suc i - first) (take (j - first) (drop first tokens)) k.before))

stops-one : (tokens : List Lexeme) (first i j : ℕ) → StopsInclude tokens first i → StopsInclude tokens first j → i ≡ j
stops-one tokens first i j h k =
    let before : i < j → ⊥ = stops-before tokens first i j h k in
    let behind : j < i → ⊥ = stops-before tokens first j i k h in
    omega (arith, before, behind)

pub end-one :
    (fault : Option LexFault) (end : ℕ) (c d : ReadCause) (p q : ℕ) → IsEndFault fault end c p → IsEndFault fault end d q → (c ≡ d) × (p ≡ q)
end-one None end c d p q h k = (h.0 ∙ sym k.0, h.1 ∙ sym k.1)
end-one (Some (BadByteAt n)) end c d p q h k = (h.0 ∙ sym k.0, h.1 ∙ sym k.1)
end-one (Some (UnclosedAt n)) end c d p q h k = (h.0 ∙ sym k.0, h.1 ∙ sym k.1)

syntax-one :
    (file : LoadedFile) (first : ℕ) (c d : ReadCause) (f g : List ℕ) (p q : ℕ)
    → IsIncludeSyntaxFault file first c f p → IsIncludeSyntaxFault file first d g q → Same c f p d g q
syntax-one file first c d f g p q (e, inl h) (i, inl k) =
    let same = stops-one (lexemes file) first h.0 k.0 h.1 k.1 in
    (h.2 ∙ sym k.2, e ∙ sym i, h.3 ∙ ap (place_of file) same ∙ sym k.3)
syntax-one file first c d f g p q (e, inl h) (i, inr k) =
    absurd (h.1.stops (begins-take (suc h.0 - first) (drop first (lexemes file)) k.0.before))
syntax-one file first c d f g p q (e, inr h) (i, inl k) =
    absurd (k.1.stops (begins-take (suc k.0 - first) (drop first (lexemes file)) h.0.before))
syntax-one file first c d f g p q (e, inr h) (i, inr k) =
    let same = end-one (lexed_of file.bytes).fault (length file.bytes) c d p q h.1 k.1 in
    (same.0, e ∙ sym i, same.1)

syntax-none : (file : LoadedFile) (first : ℕ) (c : ReadCause) (f : List ℕ) (p : ℕ) → IsIncludeSyntaxFault file first c f p → HasNoInclude (lexemes file) first
syntax-none file first c f p (e, inl h) = h.1.none
syntax-none file first c f p (e, inr h) = h.0.none

module _ {Tree Cause : Type 0} (language : Language Tree Cause) (determined : IsDetermined language) where
  -- ---- steps

  step-of : List (PlacedTree Tree) → Progress → ℕ → Step language
  step-of fs progress next = record { formulas = fs; progress = progress; next = next }

  step-same : (s t : Step language) → s.formulas ≡ t.formulas → s.progress ≡ t.progress → s.next ≡ t.next → s ≡ t
  unfolding step-of
  step-same s t e f g =
      ap₂ (λ fs p. step-of fs p s.next) e f ∙ ap (λ n. step-of t.formulas t.progress n) g

  formula-one :
      (file : LoadedFile) (first : ℕ) (progress : Progress) (s t : Step language)
      → IsFormulaStep language file first progress s → IsFormulaStep language file first progress t → s ≡ t
  formula-one file first progress s t h k =
      let same = determined.one_formula file.name file.bytes first h.formula k.formula s.next t.next h.read k.read in
      step-same s t (h.formulas_are ∙ ap (λ (f : PlacedTree Tree). f ∷ []) same.0 ∙ sym k.formulas_are)
      (h.progress_is ∙ ap (λ (f : PlacedTree Tree). with_formula language file.around f progress) same.0 ∙ sym k.progress_is) same.1

  -- what is read of one include is read of the other
  moved :
      (base : List ℕ) (file : LoadedFile) (f g : Word) (ns ms : List NamePhrase) (n m : ℕ) (P : List ℕ → List (List (List ℕ)) → Type 0)
      → SameInclude f g ns ms n m → P (loaded_name base (name_of g)) (file.around ++ names_meant ms ∷ [])
      → P (loaded_name base (name_of f)) (file.around ++ names_meant ns ∷ [])
  moved base file f g ns ms n m P e h =
      subst (λ (x : List ℕ). P (loaded_name base x) (file.around ++ names_meant ns ∷ [])) (sym e.file)
      (subst (λ (xs : List (List ℕ)). P (loaded_name base (name_of g)) (file.around ++ xs ∷ [])) (sym e.names) h)

  include-step-one :
      (base : List ℕ) (reads : Reads language) (file : LoadedFile) (first : ℕ) (progress : Progress) (s t : Step language) → OneRead language reads
      → IsIncludeStep language base reads file first progress s → IsIncludeStep language base reads file first progress t → s ≡ t
  include-step-one base reads file first progress s t one h k =
      let same = include-one (lexemes file) first h.file k.file h.names k.names s.next t.next h.spelled k.spelled in
      let read = one.same _ _ progress h.formulas k.formulas s.progress t.progress h.read
      (moved base file h.file k.file h.names k.names s.next t.next (λ n a. reads n a progress k.formulas t.progress) same k.read) in
      step-same s t (h.taken ∙ ap₂ (selected language) same.names read.0 ∙ sym k.taken) read.1 same.next

  step-by-one :
      (base : List ℕ) (reads : Reads language) (file : LoadedFile) (first : ℕ) (progress : Progress) (b : Bool) (s t : Step language) → OneRead language reads
      → IsStepBy language base reads file b first progress s → IsStepBy language base reads file b first progress t → s ≡ t
  step-by-one base reads file first progress true s t one h k = include-step-one base reads file first progress s t one h k
  step-by-one base reads file first progress false s t one h k = formula-one file first progress s t h k

  -- nothing goes on from there
  unfoldable pub Stuck : List ℕ → Reads language → LoadedFile → ℕ → Progress → Type 0
  Stuck base reads file first progress = (s : Step language) → IsStep language base reads file first progress s → ⊥

  pub steps-one :
      (base : List ℕ) (reads : Reads language) (file : LoadedFile) (first : ℕ) (progress : Progress) (ss ts : List (Step language)) → OneRead language reads
      → AreSteps language base reads file first progress ss → AreSteps language base reads file first progress ts
      → Stuck base reads file (next_behind language first ss) (progress_behind language progress ss) → Stuck base reads file (next_behind language first ts) (progress_behind language progress ts)
      → ss ≡ ts
  unfolding Stuck
  steps-one base reads file first progress [] [] one h k x y = refl
  steps-one base reads file first progress [] (t ∷ ts) one h k x y = absurd (x t k.0)
  steps-one base reads file first progress (s ∷ ss) [] one h k x y = absurd (y s h.0)
  steps-one base reads file first progress (s ∷ ss) (t ∷ ts) one h k x y =
      let same : s ≡ t = step-by-one base reads file first progress (is_include (drop first (lexemes file))) s t one h.0.1 k.0.1 in
      let more : AreSteps language base reads file s.next s.progress ts = subst (λ (z : Step language). AreSteps language base reads file z.next z.progress ts) (sym same) k.1 in
      let end : Stuck base reads file (next_behind language s.next ts) (progress_behind language s.progress ts) =
      subst (λ (z : Step language). Stuck base reads file (next_behind language z.next ts) (progress_behind language z.progress ts)) (sym same) y in
      ap₂ (λ z zs. z ∷ zs) same (steps-one base reads file s.next s.progress ss ts one h.1 more x end)

  formula-fault-one :
      (file : LoadedFile) (b : Bool) (first : ℕ) (progress : Progress) (c d : Cause) (f g : List ℕ) (p q : ℕ)
      → IsFormulaFault language file b first progress c f p → IsFormulaFault language file b first progress d g q → Same c f p d g q
  formula-fault-one file true first progress c d f g p q h k = (h.0 ∙ sym k.0, h.1 ∙ sym k.1, h.2 ∙ sym k.2)
  formula-fault-one file false first progress c d f g p q h k =
      let same = determined.one_fault file.bytes first c d p q h.1 k.1 in (same.0, h.0 ∙ sym k.0, same.1)

  -- a missing name keeps the include from being a step
  missing-none :
      (base : List ℕ) (reads : Reads language) (file : LoadedFile) (first : ℕ) (progress : Progress) (s : Step language) (word : Word) (names : List NamePhrase) (next : ℕ)
      (c : Cause) (f : List ℕ) (p : ℕ)
      → OneRead language reads → (h : IsIncludeStep language base reads file first progress s) → SameInclude h.file word h.names names s.next next
      → IsMissing language file first (names_meant names) (reads (loaded_name base (name_of word)) (file.around ++ names_meant names ∷ []) progress) c f p → ⊥
  missing-none base reads file first progress s word names next c f p one h same m =
      let read = one.same _ _ progress h.formulas m.formulas s.progress m.behind h.read
      (moved base file h.file word h.names names s.next next (λ n a. reads n a progress m.formulas m.behind) same m.read) in
      let both : None ≡ Some m.index = sym h.present ∙ ap₂ (missing language) same.names read.0 ∙ m.missing_is in
      cc

  included-none :
      (base : List ℕ) (reads : Reads language) (faults : Faults language) (file : LoadedFile) (first : ℕ) (progress : Progress) (s : Step language) (c : Cause) (f : List ℕ) (p : ℕ)
      → OneRead language reads → NoFault language reads faults → (c ≡ language.cause Load → ⊥) → IsIncludeStep language base reads file first progress s
      → IsIncludedFault language base reads faults file first progress c f p → ⊥
  included-none base reads faults file first progress s c f p one clear l h k =
      let same = include-one (lexemes file) first h.file k.word h.names k.names s.next k.next h.spelled k.spelled in
      ⊎_elim
      (λ x.
      clear.none _ _ progress h.formulas s.progress c f p l h.read
      (moved base file h.file k.word h.names k.names s.next k.next (λ n a. faults n a progress c f p) same x))
      (λ m. missing-none base reads file first progress s k.word k.names k.next c f p one h same m) k.why

  include-none :
      (told : Option Holdings) (depth : ℕ) (base : List ℕ) (faults : Faults language) (file : LoadedFile) (first : ℕ) (progress : Progress) (s : Step language) (c : Cause) (f : List ℕ) (p : ℕ)
      → OneRead language (ReadsNamed language told base depth) → NoFault language (ReadsNamed language told base depth) faults → (c ≡ language.cause Load → ⊥)
      → IsIncludeStep language base (ReadsNamed language told base depth) file first progress s
      → IsIncludeFault language depth base (ReadsNamed language told base depth) faults file first progress c f p → ⊥
  include-none told zero base faults file first progress s c f p one clear l h k = h.read
  include-none told (suc d) base faults file first progress s c f p one clear l h (inl k) =
      syntax-none file first k.0 f p k.2 h.file h.names s.next h.spelled
  include-none told (suc d) base faults file first progress s c f p one clear l h (inr k) =
      included-none base (ReadsNamed language told base (suc d)) faults file first progress s c f p one clear l h k

  formula-none :
      (file : LoadedFile) (b : Bool) (first : ℕ) (progress : Progress) (s : Step language) (c : Cause) (f : List ℕ) (p : ℕ)
      → b ≡ false → IsFormulaStep language file first progress s → IsFormulaFault language file b first progress c f p → ⊥
  formula-none file true first progress s c f p e h k = absurd (cc)
  formula-none file false first progress s c f p e h k = determined.formula_or_fault file.name file.bytes first h.formula s.next c p h.read k.1

  pub entry-none :
      (told : Option Holdings) (depth : ℕ) (base : List ℕ) (faults : Faults language) (file : LoadedFile) (b : Bool) (first : ℕ) (progress : Progress) (s : Step language) (c : Cause) (f : List ℕ) (p : ℕ)
      → OneRead language (ReadsNamed language told base depth) → NoFault language (ReadsNamed language told base depth) faults → (c ≡ language.cause Load → ⊥)
      → IsStepBy language base (ReadsNamed language told base depth) file b first progress s
      → IsFaultBy language depth base (ReadsNamed language told base depth) faults file b first progress c f p → ⊥
  entry-none told depth base faults file true first progress s c f p one clear l h k =
      include-none told depth base faults file first progress s c f p one clear l h k
  entry-none told depth base faults file false first progress s c f p one clear l h k =
      formula-none file (is_second language file first progress) first progress s c f p h.single h k

  missing-one :
      (base : List ℕ) (reads : Reads language) (file : LoadedFile) (first : ℕ) (progress : Progress) (v w : Word) (ns ms : List NamePhrase) (n m : ℕ)
      (c d : Cause) (f g : List ℕ) (p q : ℕ) → OneRead language reads → SameInclude v w ns ms n m
      → IsMissing language file first (names_meant ns) (reads (loaded_name base (name_of v)) (file.around ++ names_meant ns ∷ []) progress) c f p
      → IsMissing language file first (names_meant ms) (reads (loaded_name base (name_of w)) (file.around ++ names_meant ms ∷ []) progress) d g q
      → Same c f p d g q
  missing-one base reads file first progress v w ns ms n m c d f g p q one same h k =
      let read = one.same _ _ progress h.formulas k.formulas h.behind k.behind h.read
      (moved base file v w ns ms n m (λ x a. reads x a progress k.formulas k.behind) same k.read) in
      let found : Some h.index ≡ Some k.index = sym h.missing_is ∙ ap₂ (missing language) same.names read.0 ∙ k.missing_is in
      let index : h.index ≡ k.index = cc in
      (h.cause_is ∙ sym k.cause_is, h.file_is ∙ sym k.file_is, h.place_is ∙ ap (λ i. place_of file (first + 5 + 2 * i)) index ∙ sym k.place_is)

  missing-fault-none :
      (base : List ℕ) (reads : Reads language) (faults : Faults language) (file : LoadedFile) (first : ℕ) (progress : Progress) (v w : Word) (ns ms : List NamePhrase) (n m : ℕ)
      (c d : Cause) (f g : List ℕ) (p q : ℕ) → NoFault language reads faults → (d ≡ language.cause Load → ⊥) → SameInclude v w ns ms n m
      → IsMissing language file first (names_meant ns) (reads (loaded_name base (name_of v)) (file.around ++ names_meant ns ∷ []) progress) c f p
      → faults (loaded_name base (name_of w)) (file.around ++ names_meant ms ∷ []) progress d g q → ⊥
  missing-fault-none base reads faults file first progress v w ns ms n m c d f g p q clear l same h k =
      clear.none _ _ progress h.formulas h.behind d g q l h.read (moved base file v w ns ms n m (λ x a. faults x a progress d g q) same k)

  flipped : (f g : Word) (ns ms : List NamePhrase) (n m : ℕ) → SameInclude f g ns ms n m → SameInclude g f ms ns m n
  flipped f g ns ms n m e = record { file = sym e.file; names = sym e.names; next = sym e.next }

  included-one :
      (base : List ℕ) (reads : Reads language) (faults others : Faults language) (file : LoadedFile) (first : ℕ) (progress : Progress) (c d : Cause) (f g : List ℕ) (p q : ℕ)
      → OneRead language reads → NoFault language reads faults → NoFault language reads others → OneFault language faults others → (c ≡ language.cause Load → ⊥) → (d ≡ language.cause Load → ⊥)
      → IsIncludedFault language base reads faults file first progress c f p → IsIncludedFault language base reads others file first progress d g q → Same c f p d g q
  included-one base reads faults others file first progress c d f g p q one clear non two l m h k = by h.why k.why
    where
      same : SameInclude h.word k.word h.names k.names h.next k.next
      same = include-one (lexemes file) first h.word k.word h.names k.names h.next k.next h.spelled k.spelled

      by :
          faults (loaded_name base (name_of h.word)) (file.around ++ names_meant h.names ∷ []) progress c f p
          ⊎ IsMissing language file first (names_meant h.names) (reads (loaded_name base (name_of h.word)) (file.around ++ names_meant h.names ∷ []) progress) c f p
          → others (loaded_name base (name_of k.word)) (file.around ++ names_meant k.names ∷ []) progress d g q
          ⊎ IsMissing language file first (names_meant k.names) (reads (loaded_name base (name_of k.word)) (file.around ++ names_meant k.names ∷ []) progress) d g q
          → Same c f p d g q
      by (inl x) (inl y) =
          two.same _ _ progress c d f g p q l m x
          (moved base file h.word k.word h.names k.names h.next k.next (λ n a. others n a progress d g q) same y)
      by (inl x) (inr y) =
          absurd
          (missing-fault-none base reads faults file first progress k.word h.word k.names h.names k.next h.next d c g f q p clear l
          (flipped h.word k.word h.names k.names h.next k.next same) y x)
      by (inr x) (inl y) =
          absurd (missing-fault-none base reads others file first progress h.word k.word h.names k.names h.next k.next c d f g p q non m same x y)
      by (inr x) (inr y) = missing-one base reads file first progress h.word k.word h.names k.names h.next k.next c d f g p q one same x y

  include-fault-one :
      (depth : ℕ) (base : List ℕ) (reads : Reads language) (faults others : Faults language) (file : LoadedFile) (first : ℕ) (progress : Progress) (c d : Cause) (f g : List ℕ) (p q : ℕ)
      → OneRead language reads → NoFault language reads faults → NoFault language reads others → OneFault language faults others → (c ≡ language.cause Load → ⊥) → (d ≡ language.cause Load → ⊥)
      → IsIncludeFault language depth base reads faults file first progress c f p → IsIncludeFault language depth base reads others file first progress d g q → Same c f p d g q
  include-fault-one zero base reads faults others file first progress c d f g p q one clear non two l m h k =
      (h.0 ∙ sym k.0, h.1 ∙ sym k.1, h.2 ∙ sym k.2)
  include-fault-one (suc e) base reads faults others file first progress c d f g p q one clear non two l m (inl h) (inl k) =
      let same = syntax-one file first h.0 k.0 f g p q h.2 k.2 in (h.1 ∙ ap language.cause same.0 ∙ sym k.1, same.1, same.2)
  include-fault-one (suc e) base reads faults others file first progress c d f g p q one clear non two l m (inl h) (inr k) =
      absurd (syntax-none file first h.0 f p h.2 k.word k.names k.next k.spelled)
  include-fault-one (suc e) base reads faults others file first progress c d f g p q one clear non two l m (inr h) (inl k) =
      absurd (syntax-none file first k.0 g q k.2 h.word h.names h.next h.spelled)
  include-fault-one (suc e) base reads faults others file first progress c d f g p q one clear non two l m (inr h) (inr k) =
      included-one base reads faults others file first progress c d f g p q one clear non two l m h k

  pub entry-one :
      (depth : ℕ) (base : List ℕ) (reads : Reads language) (faults others : Faults language) (file : LoadedFile) (b : Bool) (first : ℕ) (progress : Progress) (c d : Cause) (f g : List ℕ) (p q : ℕ)
      → OneRead language reads → NoFault language reads faults → NoFault language reads others → OneFault language faults others → (c ≡ language.cause Load → ⊥) → (d ≡ language.cause Load → ⊥)
      → IsFaultBy language depth base reads faults file b first progress c f p → IsFaultBy language depth base reads others file b first progress d g q → Same c f p d g q
  entry-one depth base reads faults others file true first progress c d f g p q one clear non two l m h k =
      include-fault-one depth base reads faults others file first progress c d f g p q one clear non two l m h k
  entry-one depth base reads faults others file false first progress c d f g p q one clear non two l m h k =
      formula-fault-one file (is_second language file first progress) first progress c d f g p q h k
