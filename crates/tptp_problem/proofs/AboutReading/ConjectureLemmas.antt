-- A problem has at most one conjecture, and it is no clause.
use Rattle.std.proofs.Common.{◌≡◌, ℕ, zero, suc, ◌+◌, ◌≤◌, Bool, true, false, not, ◌&&◌, ◌||◌, cond, None, Some, Option, List, [], ◌∷◌, ◌++◌, codes, drop, refl, ap, ap₂, sym, ◌∙◌, subst, arith, zero-add, bytes_eq}
use Rattle.std.specs.Prelude.{count_by, if◌then◌else◌}
use Rattle.std.specs.List.{AllByRecursion, list_all}
use Rattle.std.proofs.lemmas.Bool.{and_parts}
use Rattle.std.proofs.lemmas.List.Sums.{sum_by-cons}
use Rattle.std.proofs.lemmas.Slice.Eq.{bytes_eq-Decides}
use Rattle.tptp_problem.specs.declared.limits.TheConstants.{MOST_INCLUDES}
use Rattle.tptp_tree.specs.declared.limits.TheConstants.{MOST_NESTING}
use Rattle.outside.specs.Library.{Holdings}
use Rattle.tptp_token.specs.Lexemes.{Lexeme, lexeme, lexemes_of}
use Rattle.tptp_token.specs.Lexing.{lexed_of}
use Rattle.tptp_token.specs.declared.token.Kind.TheVariants.{Lower, Mark}
use Rattle.tptp_tree.specs.declared.role.Role.{Role}
use Rattle.tptp_tree.specs.declared.role.Role.TheVariants.{Axiom, Hypothesis, Definition, Assumption, Lemma, Theorem, Corollary, NegatedConjecture, Plain, Conjecture}
use Rattle.tptp_tree.specs.Brackets.{are_balanced}
use Rattle.tptp_token.specs.Words.{bare, quoted, is_name, token_name}
use Rattle.tptp_tree.specs.Entries.{NamePhrase, word_name, digits_name, name_lexeme, name_meant, is_right_name, role_word, role_among, role_of, clause_roles, formula_roles, is_clause_body, body_lexemes, notes_lexemes, names_meant, language_word, is_conjecture}
use Rattle.tptp_reader.specs.Annotating.{IsReading}
use Rattle.tptp_reader.specs.declared.entry.Read.{Read}
use Rattle.tptp_problem.specs.Languages.{PlacedTree, Language, selects, selected, counts, conjecture_begun, begun_counts}
use Rattle.tptp_problem.specs.Formulas.{Placed, placed_in, annotated_formulas}
use Rattle.tptp_problem.specs.Files.{base_of}
use Rattle.tptp_problem.specs.Includes.{is_include}
use Rattle.tptp_problem.specs.Problem.{LoadedFile, Progress, Step, Reads, tokens_of, lexemes, with_file, is_second, IsStepBy, IsIncludeStep, IsFormulaStep, AreSteps, progress_behind, formulas_along, ReadsNamed, IsWhole, IsProblem}
use Rattle.tptp_problem.proofs.AboutFiles.IncludeLemmas.{name-name}

-- ---- the role of a conjecture

role-there : (rs : List Role) (word : List ℕ) (r : Role) → role_among rs word ≡ Some r → role_word r ≡ word
role-there [] word r e = absurd (cc)
role-there (q ∷ qs) word r e = by (bytes_eq (role_word q) word) refl e (λ h. role-there qs word r h)
  where
    by :
        (b : Bool) → bytes_eq (role_word q) word ≡ b → (if b then Some q else role_among qs word) ≡ Some r
        → (role_among qs word ≡ Some r → role_word r ≡ word) → role_word r ≡ word
    by true h k more = let same : q ≡ r = cc in ap role_word (sym same) ∙ (bytes_eq-Decides (role_word q) word).0 h
    by false h k more = more k

no-conjecture : (rs : List Role) (word : List ℕ) → list_all (λ r. not (is_conjecture r)) rs ≡ true → role_among rs word ≡ Some Conjecture → ⊥
no-conjecture [] word h e = cc
no-conjecture (q ∷ qs) word h e =
    let parts = and_parts (not (is_conjecture q)) (list_all (λ r. not (is_conjecture r)) qs) h in
    by (bytes_eq (role_word q) word) e parts.0 (λ k. no-conjecture qs word parts.1 k)
  where
    by :
        (b : Bool) → (if b then Some q else role_among qs word) ≡ Some Conjecture → not (is_conjecture q) ≡ true
        → (role_among qs word ≡ Some Conjecture → ⊥) → ⊥
    by true k g more =
        let same : q ≡ Conjecture = cc in
        let both : false ≡ true = sym (ap (λ r. not (is_conjecture r)) same) ∙ g in cc
    by false k g more = more k

pub conjecture-role : (b : Bool) (word : List ℕ) → role_of b word ≡ Some Conjecture → (b ≡ false) × (word ≡ codes "conjecture")
conjecture-role true word e = absurd (no-conjecture clause_roles word refl e)
conjecture-role false word e = (refl, sym (role-there formula_roles word Conjecture e))

pub conjecture-is : (r : Role) → is_conjecture r ≡ true → r ≡ Conjecture
conjecture-is Axiom e = absurd (cc)
conjecture-is Hypothesis e = absurd (cc)
conjecture-is Definition e = absurd (cc)
conjecture-is Assumption e = absurd (cc)
conjecture-is Lemma e = absurd (cc)
conjecture-is Theorem e = absurd (cc)
conjecture-is Corollary e = absurd (cc)
conjecture-is NegatedConjecture e = absurd (cc)
conjecture-is Plain e = absurd (cc)
conjecture-is Conjecture e = refl

-- ---- a conjecture that is read begins as one

pub name-taken : (n : NamePhrase) → is_right_name n ≡ true → is_name (name_lexeme n).kind (name_lexeme n).bytes ≡ true
name-taken (word_name (bare bytes)) h = refl
name-taken (word_name (quoted bytes)) h = refl
name-taken (digits_name digits) h = h

begun-by :
    (word role : List ℕ) (n : NamePhrase) (ts : List Lexeme) → word ≡ codes "fof" → role ≡ codes "conjecture" → is_right_name n ≡ true
    → conjecture_begun (codes "fof") (lexeme Lower word ∷ lexeme Mark (codes "(") ∷ name_lexeme n ∷ lexeme Mark (codes ",") ∷ lexeme Lower role ∷ ts) ≡ Some (name_meant n)
begun-by word role n ts e f h =
    ap (λ w. conjecture_begun (codes "fof") (lexeme Lower w ∷ lexeme Mark (codes "(") ∷ name_lexeme n ∷ lexeme Mark (codes ",") ∷ lexeme Lower role ∷ ts)) e
    ∙ ap (λ r. conjecture_begun (codes "fof") (lexeme Lower (codes "fof") ∷ lexeme Mark (codes "(") ∷ name_lexeme n ∷ lexeme Mark (codes ",") ∷ lexeme Lower r ∷ ts)) f
    ∙ ap (λ b. if ((true && true) && b) && true && true then Some (token_name (name_lexeme n).kind (name_lexeme n).bytes) else None) (name-taken n h)
    ∙ ap (λ x. Some x) (name-name n)

reading-begun :
    (file : LoadedFile) (first : ℕ) (read : Read) → IsReading MOST_NESTING file.bytes (tokens_of file) first read → is_conjecture read.annotated.role ≡ true
    → conjecture_begun (codes "fof") (drop first (lexemes file)) ≡ Some read.annotated.name
reading-begun file first read h c =
    let p = h.phrase in
    let role = conjecture-role (is_clause_body p.body) p.role (h.meant.role ∙ ap (λ r. Some r) (conjecture-is read.annotated.role c)) in
    ap (conjecture_begun (codes "fof")) h.spelled.spelled
    ∙ begun-by (language_word (is_clause_body p.body)) p.role p.name
    (lexeme Mark (codes ",") ∷ body_lexemes p.body (notes_lexemes p.notes (lexeme Mark (codes ")") ∷ lexeme Mark (codes ".") ∷ drop read.next (lexemes file))))
    (ap language_word role.0) role.1 (and_parts (is_right_name p.name) (are_balanced p.notes) h.spelled.right).0
    ∙ ap (λ n. Some n) (sym h.meant.name)

reading-no-clause :
    (file : LoadedFile) (first : ℕ) (read : Read) → IsReading MOST_NESTING file.bytes (tokens_of file) first read → read.annotated.clause ≡ true
    → is_conjecture read.annotated.role ≡ false
reading-no-clause file first read h c = by (is_conjecture read.annotated.role) refl
  where
    by : (b : Bool) → is_conjecture read.annotated.role ≡ b → is_conjecture read.annotated.role ≡ false
    by false e = e
    by true e =
        let role = conjecture-role (is_clause_body h.phrase.body) h.phrase.role (h.meant.role ∙ ap (λ r. Some r) (conjecture-is read.annotated.role e)) in
        absurd (let x : true ≡ false = sym c ∙ h.meant.is_clause ∙ role.0 in cc)

-- ---- how many count

abbrev number : Bool → ℕ
number b = cond b 1 0

-- What is read as a conjecture of a language begins as one.
abbrev pub BeginsAsRead : {Tree Cause : Type 0} → Language Tree Cause → Type 0
BeginsAsRead {Tree} language =
    (file bytes : List ℕ) (first : ℕ) (f : PlacedTree Tree) (n : ℕ) → language.IsRead file bytes first f n → language.is_conjecture f.tree ≡ true
    → conjecture_begun language.word (drop first (lexemes_of bytes (lexed_of bytes).tokens)) ≡ Some (language.name f.tree)

module _ {Tree Cause : Type 0} (language : Language Tree Cause) (begins : BeginsAsRead language) where
  abbrev counted : List (List (List ℕ)) → PlacedTree Tree → Bool
  counted around f = language.is_conjecture f.tree && counts around (language.name f.tree)

  -- how many pass a test
  abbrev tally : (PlacedTree Tree → Bool) → List (PlacedTree Tree) → ℕ
  tally p [] = 0
  tally p (f ∷ fs) = number (p f) + tally p fs

  tally-joined : (p : PlacedTree Tree → Bool) (fs gs : List (PlacedTree Tree)) → tally p (fs ++ gs) ≡ tally p fs + tally p gs
  tally-joined p [] gs = sym (zero-add (tally p gs))
  tally-joined p (f ∷ fs) gs = let more = tally-joined p fs gs in omega (arith, more)

  tally-is : (p : PlacedTree Tree → Bool) (fs : List (PlacedTree Tree)) → count_by p fs ≡ tally p fs
  tally-is p [] = refl
  tally-is p (f ∷ fs) = sum_by-cons (λ (x : PlacedTree Tree). cond (p x) 1 0) f fs ∙ ap (λ n. number (p f) + n) (tally-is p fs)

  record OneCounts (reads : Reads language) : Type 0 where
    one :
        (name : List ℕ) (around : List (List (List ℕ))) (start now : Progress) (fs : List (PlacedTree Tree)) → reads name around start fs now
        → tally (counted around) fs + number start.met ≡ number now.met

  counted-begun :
      (file : LoadedFile) (first : ℕ) (start : Progress) (f : PlacedTree Tree) (next : ℕ) → language.IsRead file.name file.bytes first f next
      → is_second language file first start ≡ false → counted file.around f ≡ true → start.met ≡ false
  counted-begun file first start f next h single c =
      let parts = and_parts (language.is_conjecture f.tree) (counts file.around (language.name f.tree)) c in
      by start.met
      (sym (ap (λ o. start.met && begun_counts file.around o) (begins file.name file.bytes first f next h parts.0) ∙ ap (λ b. start.met && b) parts.1) ∙ single)
    where
      by : (b : Bool) → (b && true) ≡ false → b ≡ false
      by true e = absurd (let x : true ≡ false = e in cc)
      by false e = refl

  unchanged : (b : Bool) → 0 + 0 + number b ≡ number (b || false)
  unchanged true = refl
  unchanged false = refl

  formula-counts :
      (file : LoadedFile) (first : ℕ) (start : Progress) (s : Step language) → IsFormulaStep language file first start s
      → tally (counted file.around) s.formulas + number start.met ≡ number s.progress.met
  formula-counts file first start s h =
      ap (λ fs. tally (counted file.around) fs + number start.met) h.formulas_are
      ∙ by (counted file.around h.formula) refl
      ∙ ap (λ (p : Progress). number p.met) (sym h.progress_is)
    where
      by :
          (b : Bool) → counted file.around h.formula ≡ b
          → tally (counted file.around) (h.formula ∷ []) + number start.met ≡ number (start.met || counted file.around h.formula)
      by true e =
          let unmet = counted-begun file first start h.formula s.next h.read h.single e in
          ap (λ b. cond b 1 0 + 0 + number start.met) e ∙ ap (λ b. 1 + 0 + number b) unmet
          ∙ sym (ap₂ (λ a b. number (a || b)) unmet e)
      by false e = ap (λ b. cond b 1 0 + 0 + number start.met) e ∙ unchanged start.met ∙ sym (ap (λ b. number (start.met || b)) e)

  inner-counts : (around : List (List (List ℕ))) (names : List (List ℕ)) (name : List ℕ) → counts (around ++ names ∷ []) name ≡ (counts around name && selects names name)
  inner-counts [] names name = by (selects names name)
    where
      by : (b : Bool) → (b && true) ≡ (true && b)
      by true = refl
      by false = refl
  inner-counts (a ∷ more_around) names name = by (selects a name) (inner-counts more_around names name)
    where
      by :
          (b : Bool) → counts (more_around ++ names ∷ []) name ≡ (counts more_around name && selects names name)
          → (b && counts (more_around ++ names ∷ []) name) ≡ ((b && counts more_around name) && selects names name)
      by true e = e
      by false e = refl

  and-true : (a : Bool) → a ≡ (a && true)
  and-true true = refl
  and-true false = refl

  neither : (c a : Bool) → (c && (a && false)) ≡ false
  neither true true = refl
  neither true false = refl
  neither false a = refl

  selected-counts :
      (around : List (List (List ℕ))) (names : List (List ℕ)) (fs : List (PlacedTree Tree))
      → tally (counted around) (selected language names fs) ≡ tally (counted (around ++ names ∷ [])) fs
  selected-counts around names [] = refl
  selected-counts around names (f ∷ fs) =
      by (selects names (language.name f.tree)) (selected-counts around names fs)
      ∙ ap (λ b. cond (language.is_conjecture f.tree && b) 1 0 + tally (counted (around ++ names ∷ [])) fs) (sym (inner-counts around names (language.name f.tree)))
    where
      by :
          (s : Bool) → tally (counted around) (selected language names fs) ≡ tally (counted (around ++ names ∷ [])) fs
          → tally (counted around) (cond s (f ∷ selected language names fs) (selected language names fs))
          ≡ cond (language.is_conjecture f.tree && (counts around (language.name f.tree) && s)) 1 0 + tally (counted (around ++ names ∷ [])) fs
      by true e = ap₂ (λ a n. cond (language.is_conjecture f.tree && a) 1 0 + n) (and-true (counts around (language.name f.tree))) e
      by false e =
          e
          ∙ sym
          (ap (λ b. cond b 1 0 + tally (counted (around ++ names ∷ [])) fs) (neither (language.is_conjecture f.tree) (counts around (language.name f.tree)))
          ∙ zero-add (tally (counted (around ++ names ∷ [])) fs))

  include-counts :
      (base : List ℕ) (reads : Reads language) (file : LoadedFile) (first : ℕ) (start : Progress) (s : Step language) → OneCounts reads
      → IsIncludeStep language base reads file first start s → tally (counted file.around) s.formulas + number start.met ≡ number s.progress.met
  include-counts base reads file first start s one h =
      ap (λ fs. tally (counted file.around) fs + number start.met) h.taken
      ∙ ap (λ n. n + number start.met) (selected-counts file.around (names_meant h.names) h.formulas) ∙ one.one _ _ start s.progress h.formulas h.read

  step-counts :
      (base : List ℕ) (reads : Reads language) (file : LoadedFile) (b : Bool) (first : ℕ) (start : Progress) (s : Step language) → OneCounts reads
      → IsStepBy language base reads file b first start s → tally (counted file.around) s.formulas + number start.met ≡ number s.progress.met
  step-counts base reads file true first start s one h = include-counts base reads file first start s one h
  step-counts base reads file false first start s one h = formula-counts file first start s h

  steps-count :
      (base : List ℕ) (reads : Reads language) (file : LoadedFile) (first : ℕ) (start : Progress) (ss : List (Step language)) → OneCounts reads
      → AreSteps language base reads file first start ss
      → tally (counted file.around) (formulas_along language ss) + number start.met ≡ number (progress_behind language start ss).met
  steps-count base reads file first start [] one h = zero-add (number start.met)
  steps-count base reads file first start (s ∷ ss) one h =
      let here = step-counts base reads file (is_include (drop first (lexemes file))) first start s one h.0.1 in
      let more = steps-count base reads file s.next s.progress ss one h.1 in
      let split = tally-joined (counted file.around) s.formulas (formulas_along language ss) in
      let sums :
      tally (counted file.around) (s.formulas ++ formulas_along language ss) + number start.met
      ≡ tally (counted file.around) (formulas_along language ss) + number s.progress.met = omega (arith, here, split) in
      sums ∙ more

  named-counts : (told : Option Holdings) (base : List ℕ) (depth : ℕ) → OneCounts (ReadsNamed language told base depth)
  named-counts told base zero = record { one = λ name around start now fs h. absurd h }
  named-counts told base (suc depth) =
      record {
        one =
            λ name around start now fs h.
            ap (λ gs. tally (counted around) gs + number start.met) h.text.formulas_are
            ∙ steps-count base (ReadsNamed language told base depth) (record { name = name; bytes = h.bytes; around = around }) 0 (with_file h.bytes start) h.text.steps
            (named-counts told base depth) h.text.are
            ∙ ap (λ (p : Progress). number p.met) (sym h.text.progress_is);
      }

  uncounted : (fs : List (PlacedTree Tree)) → tally (λ (f : PlacedTree Tree). language.is_conjecture f.tree) fs ≡ tally (counted []) fs
  uncounted [] = refl
  uncounted (f ∷ fs) = ap₂ (λ b n. cond b 1 0 + n) (and-true (language.is_conjecture f.tree)) (uncounted fs)

  at-most-one : (b : Bool) → number b ≤ 1
  at-most-one true = omega arith
  at-most-one false = omega arith

  pub one-conjecture-whole :
      (told : Option Holdings) (file : List ℕ) (root : Option (List ℕ)) (fs : List (PlacedTree Tree)) → IsWhole language told file root fs
      → count_by (λ (f : PlacedTree Tree). language.is_conjecture f.tree) fs ≤ 1
  one-conjecture-whole told file root fs h =
      let all = (named-counts told (base_of root file) (suc MOST_INCLUDES)).one file [] (record { loaded = 0; met = false }) h.0 fs h.1 in
      omega (arith, tally-is (λ (f : PlacedTree Tree). language.is_conjecture f.tree) fs, uncounted fs, all, at-most-one h.0.met)

-- ---- a fact of each formula that is read

module _ {Tree Cause : Type 0} (language : Language Tree Cause) where
  pub record HoldsOfEach (P : PlacedTree Tree → Type 0) : Type 0 where
    pub by : (file bytes : List ℕ) (first : ℕ) (f : PlacedTree Tree) (n : ℕ) → language.IsRead file bytes first f n → P f

  record AllHold (P : PlacedTree Tree → Type 0) (reads : Reads language) : Type 0 where
    all :
        (name : List ℕ) (around : List (List (List ℕ))) (start now : Progress) (fs : List (PlacedTree Tree)) → reads name around start fs now → AllByRecursion P fs

  both-hold : (P : PlacedTree Tree → Type 0) (xs ys : List (PlacedTree Tree)) → AllByRecursion P xs → AllByRecursion P ys → AllByRecursion P (xs ++ ys)
  both-hold P [] ys h k = k
  both-hold P (x ∷ xs) ys h k = (h.0, both-hold P xs ys h.1 k)

  selected-hold : (P : PlacedTree Tree → Type 0) (names : List (List ℕ)) (fs : List (PlacedTree Tree)) → AllByRecursion P fs → AllByRecursion P (selected language names fs)
  selected-hold P names [] h = tt
  selected-hold P names (f ∷ fs) h = by (selects names (language.name f.tree)) (selected-hold P names fs h.1)
    where
      by : (s : Bool) → AllByRecursion P (selected language names fs) → AllByRecursion P (cond s (f ∷ selected language names fs) (selected language names fs))
      by true more = (h.0, more)
      by false more = more

  step-holds :
      (P : PlacedTree Tree → Type 0) (base : List ℕ) (reads : Reads language) (file : LoadedFile) (b : Bool) (first : ℕ) (start : Progress) (s : Step language) → HoldsOfEach P → AllHold P reads
      → IsStepBy language base reads file b first start s → AllByRecursion P s.formulas
  step-holds P base reads file true first start s each inner h =
      subst (λ fs. AllByRecursion P fs) (sym h.taken) (selected-hold P (names_meant h.names) h.formulas (inner.all _ _ start s.progress h.formulas h.read))
  step-holds P base reads file false first start s each inner h =
      subst (λ fs. AllByRecursion P fs) (sym h.formulas_are) (each.by file.name file.bytes first h.formula s.next h.read, tt)

  steps-hold :
      (P : PlacedTree Tree → Type 0) (base : List ℕ) (reads : Reads language) (file : LoadedFile) (first : ℕ) (start : Progress) (ss : List (Step language)) → HoldsOfEach P → AllHold P reads
      → AreSteps language base reads file first start ss → AllByRecursion P (formulas_along language ss)
  steps-hold P base reads file first start [] each inner h = tt
  steps-hold P base reads file first start (s ∷ ss) each inner h =
      both-hold P s.formulas (formulas_along language ss)
      (step-holds P base reads file (is_include (drop first (lexemes file))) first start s each inner h.0.1)
      (steps-hold P base reads file s.next s.progress ss each inner h.1)

  named-hold : (P : PlacedTree Tree → Type 0) (told : Option Holdings) (base : List ℕ) (depth : ℕ) → HoldsOfEach P → AllHold P (ReadsNamed language told base depth)
  named-hold P told base zero each = record { all = λ name around start now fs h. absurd h }
  named-hold P told base (suc depth) each =
      record {
        all =
            λ name around start now fs h.
            subst (λ gs. AllByRecursion P gs) (sym h.text.formulas_are)
            (steps-hold P base (ReadsNamed language told base depth) (record { name = name; bytes = h.bytes; around = around }) 0 (with_file h.bytes start) h.text.steps
            each (named-hold P told base depth each) h.text.are);
      }

  pub each-holds :
      (P : PlacedTree Tree → Type 0) (told : Option Holdings) (file : List ℕ) (root : Option (List ℕ)) (fs : List (PlacedTree Tree)) → HoldsOfEach P
      → IsWhole language told file root fs → AllByRecursion P fs
  each-holds P told file root fs each h =
      (named-hold P told (base_of root file) (suc MOST_INCLUDES) each).all file [] (record { loaded = 0; met = false }) h.0 fs h.1

-- ---- problems

annotated-begins : BeginsAsRead annotated_formulas
annotated-begins file bytes first f n h c =
    let source : LoadedFile = record { name = file; bytes = bytes; around = [] } in
    reading-begun source first h.read h.reading (ap (λ (g : Placed). is_conjecture g.tree.role) (sym h.formula_is) ∙ c)
    ∙ ap (λ (g : Placed). Some g.tree.name) (sym h.formula_is)

pub one-conjecture :
    (told : Option Holdings) (file : List ℕ) (root : Option (List ℕ)) (fs : List Placed) → IsProblem told file root fs
    → count_by (λ (f : Placed). is_conjecture f.tree.role) fs ≤ 1
one-conjecture told file root fs h = one-conjecture-whole annotated_formulas annotated-begins told file root fs h

pub record HoldsOfRead (P : Placed → Type 0) : Type 0 where
  pub by :
      (file : LoadedFile) (first : ℕ) (read : Read) → IsReading MOST_NESTING file.bytes (tokens_of file) first read → P (placed_in file.name read.annotated)

pub all-hold :
    (P : Placed → Type 0) (told : Option Holdings) (file : List ℕ) (root : Option (List ℕ)) (fs : List Placed) → HoldsOfRead P → IsProblem told file root fs
    → AllByRecursion P fs
all-hold P told file root fs each h =
    each-holds annotated_formulas P told file root fs
    (record {
      by = λ name bytes first f n r.
          subst P (sym r.formula_is) (each.by (record { name = name; bytes = bytes; around = [] }) first r.read r.reading);
    })
    h

pub no-conjecture-clause :
    (told : Option Holdings) (file : List ℕ) (root : Option (List ℕ)) (fs : List Placed) → IsProblem told file root fs
    → AllByRecursion (λ (f : Placed). f.tree.is_clause ≡ true → is_conjecture f.tree.role ≡ false) fs
no-conjecture-clause told file root fs h =
    all-hold (λ (f : Placed). f.tree.is_clause ≡ true → is_conjecture f.tree.role ≡ false) told file root fs
    (record { by = λ file first read r. reading-no-clause file first read r }) h
