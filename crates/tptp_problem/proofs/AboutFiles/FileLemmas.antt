-- Includes, texts and files, by what the functions that read them say.
use Rattle.std.proofs.Common.{◌≡◌, inl, inr, ℕ, zero, suc, ◌+◌, ◌*◌, ◌-◌, ◌<◌, ◌≤◌, Bool, true, false, None, Some, Option, List, [], ◌∷◌, ◌++◌, drop, length, refl, ap, sym, ◌∙◌, subst, arith}
use Rattle.std.specs.Prelude.{slice_get, if◌then◌else◌}
use Rattle.tptp_problem.specs.declared.limits.TheConstants.{MOST_INCLUDES}
use Rattle.outside.specs.Library.{Holdings}
use Rattle.tptp_token.specs.Words.{name_of}
use Rattle.tptp_tree.specs.Entries.{names_meant}
use Rattle.tptp_token.specs.Lexing.{lexed_of}
use Rattle.tptp_token.specs.declared.token.Lexed.{Lexed}
use Rattle.tptp_token.specs.declared.token.LexFault.{LexFault}
use Rattle.tptp_reader.specs.Faults.{IsEndFault}
use Rattle.tptp_reader.specs.declared.cause.ReadCause.{ReadCause}
use Rattle.tptp_reader.specs.declared.cause.ReadCause.TheVariants.{SelectionMissing, IncludeDepth}
use Rattle.tptp_problem.specs.declared.include.Include.{Include}
use Rattle.tptp_problem.specs.declared.source.Source.{Source}
use Rattle.tptp_problem.specs.Files.{base_of, loaded_name}
use Rattle.tptp_problem.specs.Languages.{PlacedTree, Language, selected, is_named, missing_from, missing}
use Rattle.tptp_problem.specs.IncludeReads.{IsIncludeRead}
use Rattle.tptp_problem.specs.Includes.{is_include, IsInclude}
use Rattle.tptp_problem.specs.Problem.{Progress, Reads, Faults, IsIncludeSyntaxFault, FaultsText, tokens_of, lexemes, start_of, IsIncludeStep, IsFormulaStep, IsIncludeFault, ReadsNamed, FaultsNamed, Adds, IsWhole, IsWholeFault}
use Rattle.tptp_problem.specs.Shape.{IsLexed, file_of, lexemes_told, selections}
use Rattle.tptp_problem.proofs.AboutReading.FaultLemmas.{tokens-same, lexemes-same, place-same}
use Rattle.tptp_problem.proofs.AboutReading.ReadLemmas.{ReadsUpTo, reads-on, step-by}

some-same : (m n : ℕ) → Some m ≡ Some n → m ≡ n
some-same m n e = cc

-- ---- an include, and the file that it names

-- what is known once the file of an include is read or at fault
pub record Included (base : List ℕ) (s : Source) (first depth less : ℕ) (i : Include) (name : List ℕ) (around : List (List (List ℕ))) : Type 0 where
  pub lexed : IsLexed s
  pub some : depth ≡ suc less
  pub read : IsIncludeRead s first i
  pub name_is : name ≡ loaded_name base i.file
  pub around_is : around ≡ selections s.around.now ++ i.names ∷ []

pub one-less : (depth : ℕ) → (depth ≡ 0 → ⊥) → depth ≡ suc (depth - 1)
one-less zero h = absurd (h refl)
one-less (suc n) h = omega arith

spelled-there :
    (base : List ℕ) (s : Source) (first depth less : ℕ) (i : Include) (name : List ℕ) (around : List (List (List ℕ)))
    → (k : Included base s first depth less i name around) → IsInclude (lexemes (file_of s)) first k.read.file k.read.names i.next
spelled-there base s first depth less i name around k =
    subst (λ ls. IsInclude ls first k.read.file k.read.names i.next) (lexemes-same s k.lexed) k.read.spelled

name-there :
    (base : List ℕ) (s : Source) (first depth less : ℕ) (i : Include) (name : List ℕ) (around : List (List (List ℕ)))
    → (k : Included base s first depth less i name around) → name ≡ loaded_name base (name_of k.read.file)
name-there base s first depth less i name around k = k.name_is ∙ ap (loaded_name base) k.read.file_is

around-there :
    (base : List ℕ) (s : Source) (first depth less : ℕ) (i : Include) (name : List ℕ) (around : List (List (List ℕ)))
    → (k : Included base s first depth less i name around) → around ≡ selections s.around.now ++ names_meant k.read.names ∷ []
around-there base s first depth less i name around k = k.around_is ∙ ap (λ ns. selections s.around.now ++ ns ∷ []) k.read.names_are

-- a relation of the file that was loaded is that of the file that the include names
named-there :
    (base : List ℕ) (s : Source) (first depth less : ℕ) (i : Include) (name : List ℕ) (around : List (List (List ℕ)))
    → (k : Included base s first depth less i name around) → (P : ℕ → List ℕ → List (List (List ℕ)) → Type 0) → P (suc less) name around
    → P depth (loaded_name base (name_of k.read.file)) (selections s.around.now ++ names_meant k.read.names ∷ [])
named-there base s first depth less i name around k P h =
    let word = loaded_name base (name_of k.read.file) in
    let within : List (List (List ℕ)) = selections s.around.now ++ names_meant k.read.names ∷ [] in
    subst (λ (d : ℕ). P d word within) (sym k.some)
    (subst (λ (n : List ℕ). P (suc less) n within) (name-there base s first depth less i name around k)
    (subst (λ (a : List (List (List ℕ))). P (suc less) name a) (around-there base s first depth less i name around k) h))

module _ {Tree Cause : Type 0} (language : Language Tree Cause) where
  -- ---- selected names

  missing-among : (k : ℕ) (names : List (List ℕ)) (fs : List (PlacedTree Tree)) (i : ℕ) → missing_from language k names fs ≡ Some i → i < k + length names
  missing-among k [] fs i e = absurd (cc)
  missing-among k (n ∷ ns) fs i e = by (is_named language fs n) e (λ h. missing-among (k + 1) ns fs i h)
    where
      by :
          (b : Bool) → (if b then missing_from language (k + 1) ns fs else Some k) ≡ Some i → (missing_from language (k + 1) ns fs ≡ Some i → i < k + 1 + length ns)
          → i < k + suc (length ns)
      by true h more = let far = more h in omega (arith, far)
      by false h more = let same = some-same k i h in omega (arith, same)

  pub missing-within : (names : List (List ℕ)) (fs : List (PlacedTree Tree)) (i : ℕ) → Some i ≡ missing language names fs → i < length names
  missing-within names fs i e = let far = missing-among 0 names fs i (sym e) in omega (arith, far)

  -- an include that is too deep
  pub deep-fault :
      (told : Option Holdings) (base : List ℕ) (found : ℕ) (s : Source) (first depth : ℕ) (start : Progress) → depth ≡ 0 → IsLexed s
      → (c : ReadCause) (f : List ℕ) (p : ℕ)
      → (c ≡ IncludeDepth) × (f ≡ s.name.now) × (p ≡ start_of (slice_get s.lexed.now.tokens first))
      → IsIncludeFault language depth base (ReadsNamed language told base depth) (FaultsNamed language told base found depth) (file_of s) first start (language.cause c) f p
  deep-fault told base found s first zero start e k c f p h = (ap language.cause h.0, h.1, h.2 ∙ place-same s first k)
  deep-fault told base found s first (suc d) start e k c f p h = absurd (omega (arith, e))

  -- tokens that are no include
  pub broken-fault :
      (told : Option Holdings) (base : List ℕ) (found : ℕ) (s : Source) (first depth : ℕ) (start : Progress) → (depth ≡ 0 → ⊥)
      → (c : ReadCause) (f : List ℕ) (p : ℕ) → IsIncludeSyntaxFault (file_of s) first c f p
      → IsIncludeFault language depth base (ReadsNamed language told base depth) (FaultsNamed language told base found depth) (file_of s) first start (language.cause c) f p
  broken-fault told base found s first zero start e c f p h = absurd (e refl)
  broken-fault told base found s first (suc d) start e c f p h = inl (c, refl, h)

  pub included-fault :
      (told : Option Holdings) (base : List ℕ) (found : ℕ) (s : Source) (first depth less : ℕ) (i : Include) (name : List ℕ) (around : List (List (List ℕ))) (start : Progress)
      → Included base s first depth less i name around
      → (c : Cause) (f : List ℕ) (p : ℕ) → FaultsNamed language told base found (suc less) name around start c f p
      → IsIncludeFault language depth base (ReadsNamed language told base depth) (FaultsNamed language told base found depth) (file_of s) first start c f p
  included-fault told base found s first zero less i name around start k c f p h = absurd (omega (arith, k.some))
  included-fault told base found s first (suc d) less i name around start k c f p h =
      inr
      (record {
        word = k.read.file;
        names = k.read.names;
        next = i.next;
        spelled = spelled-there base s first (suc d) less i name around k;
        why = inl (named-there base s first (suc d) less i name around k (λ e n a. FaultsNamed language told base found e n a start c f p) h);
      })

  pub missing-fault :
      (told : Option Holdings) (base : List ℕ) (found : ℕ) (s : Source) (first depth less : ℕ) (i : Include) (name : List ℕ) (around : List (List (List ℕ))) (start behind : Progress)
      (formulas : List (PlacedTree Tree)) (index : ℕ)
      → Included base s first depth less i name around → ReadsNamed language told base (suc less) name around start formulas behind
      → Some index ≡ missing language i.names formulas
      → (c : Cause) (f : List ℕ) (p : ℕ)
      → (c ≡ language.cause SelectionMissing) × (f ≡ s.name.now) × (p ≡ start_of (slice_get s.lexed.now.tokens (first + 5 + 2 * index)))
      → IsIncludeFault language depth base (ReadsNamed language told base depth) (FaultsNamed language told base found depth) (file_of s) first start c f p
  missing-fault told base found s first zero less i name around start behind formulas index k r m c f p h = absurd (omega (arith, k.some))
  missing-fault told base found s first (suc d) less i name around start behind formulas index k r m c f p h =
      inr
      (record {
        word = k.read.file;
        names = k.read.names;
        next = i.next;
        spelled = spelled-there base s first (suc d) less i name around k;
        why =
            inr
            (record {
              formulas = formulas;
              behind = behind;
              read = named-there base s first (suc d) less i name around k (λ e n a. ReadsNamed language told base e n a start formulas behind) r;
              index = index;
              missing_is = ap (λ ns. missing language ns formulas) (sym k.read.names_are) ∙ sym m;
              cause_is = h.0;
              file_is = h.1;
              place_is = h.2 ∙ place-same s (first + 5 + 2 * index) k.lexed;
            });
      })

  pub include-step :
      (told : Option Holdings) (base : List ℕ) (s : Source) (first depth less : ℕ) (i : Include) (name : List ℕ) (around : List (List (List ℕ))) (start behind : Progress)
      (formulas before after : List (PlacedTree Tree))
      → Included base s first depth less i name around → ReadsNamed language told base (suc less) name around start formulas behind
      → None ≡ missing language i.names formulas → after ≡ before ++ selected language i.names formulas
      → Adds language (IsIncludeStep language base (ReadsNamed language told base depth) (file_of s) first start) before after behind i.next
  include-step told base s first depth less i name around start behind formulas before after k r m e =
      record {
        added = selected language i.names formulas;
        joined = e;
        step =
            record {
              file = k.read.file;
              names = k.read.names;
              spelled = spelled-there base s first depth less i name around k;
              formulas = formulas;
              read = named-there base s first depth less i name around k (λ d n a. ReadsNamed language told base d n a start formulas behind) r;
              present = ap (λ ns. missing language ns formulas) (sym k.read.names_are) ∙ sym m;
              taken = ap (λ ns. selected language ns formulas) k.read.names_are;
            };
      }

  -- ---- texts

  is-there : (s : Source) (at : ℕ) (b : Bool) → IsLexed s → is_include (drop at (lexemes_told s)) ≡ b → is_include (drop at (lexemes (file_of s))) ≡ b
  is-there s at b h e = ap (λ ls. is_include (drop at ls)) (sym (lexemes-same s h)) ∙ e

  small-there : (s : Source) (at : ℕ) → IsLexed s → at < length s.lexed.now.tokens → at < length (tokens_of (file_of s))
  small-there s at h l = subst (λ ts. at < length ts) (tokens-same s h) l

  pub include-on :
      (told other : Option Holdings) (base root : List ℕ) (depth : ℕ) (s : Source) (start : Progress) (at next : ℕ) (before after : List (PlacedTree Tree)) (old new : Progress)
      → IsLexed s → at < length s.lexed.now.tokens → is_include (drop at (lexemes_told s)) ≡ true → other ≡ told → root ≡ base
      → ReadsUpTo language base (ReadsNamed language told base depth) (file_of s) start at before old
      → Adds language (IsIncludeStep language root (ReadsNamed language other root depth) (file_of s) at old) before after new next
      → ReadsUpTo language base (ReadsNamed language told base depth) (file_of s) start next after new
  include-on told other base root depth s start at next before after old new h l e t b r a =
      let same : Adds language (IsIncludeStep language base (ReadsNamed language told base depth) (file_of s) at old) before after new next =
      subst (λ x. Adds language (IsIncludeStep language x (ReadsNamed language told x depth) (file_of s) at old) before after new next) b
      (subst (λ x. Adds language (IsIncludeStep language root (ReadsNamed language x root depth) (file_of s) at old) before after new next) t a) in
      reads-on language base (ReadsNamed language told base depth) (file_of s) start at next before after old new r
      (step-by language base (ReadsNamed language told base depth) (file_of s) at old new before after next true (small-there s at h l) (is-there s at true h e) same)

  pub formula-on :
      (base : List ℕ) (reads : Reads language) (s : Source) (start : Progress) (at next : ℕ) (before after : List (PlacedTree Tree)) (old new : Progress)
      → IsLexed s → at < length s.lexed.now.tokens → is_include (drop at (lexemes_told s)) ≡ false
      → ReadsUpTo language base reads (file_of s) start at before old
      → Adds language (IsFormulaStep language (file_of s) at old) before after new next
      → ReadsUpTo language base reads (file_of s) start next after new
  formula-on base reads s start at next before after old new h l e r a =
      reads-on language base reads (file_of s) start at next before after old new r
      (step-by language base reads (file_of s) at old new before after next false (small-there s at h l) (is-there s at false h e) a)

  -- the tokens' own fault after the last entry
  pub text-end :
      (depth : ℕ) (base : List ℕ) (reads : Reads language) (faults : Faults language) (s : Source) (start : Progress) (next : ℕ)
      (fs : List (PlacedTree Tree)) (now : Progress) (fault : LexFault)
      → IsLexed s → ReadsUpTo language base reads (file_of s) start next fs now → length s.lexed.now.tokens ≤ next → s.lexed.now.fault ≡ Some fault
      → (c : ReadCause) (f : List ℕ) (p : ℕ) → (f ≡ s.name.now) × IsEndFault s.lexed.now.fault (length s.bytes.now) c p
      → FaultsText language depth base reads faults (file_of s) start (language.cause c) f p
  text-end depth base reads faults s start next fs now fault k r end e c f p h =
      let same : (lexed_of s.bytes.now).fault ≡ Some fault = ap (λ (l : Lexed). l.fault) (sym k.lexed_is) ∙ e in
      record {
        steps = r.steps;
        are = r.are;
        why =
            inr (
              c,
              refl,
              record {
                ended = subst (λ n. length (tokens_of (file_of s)) ≤ n) r.next_is (subst (λ ts. length ts ≤ next) (tokens-same s k) end);
                fault = fault;
                found = same;
                told = subst (λ (o : Option LexFault). IsEndFault o (length s.bytes.now) c p) e h.1;
                file_is = h.0;
              },
            );
      }

  -- ---- whole files

  pub whole-fault :
      (told : Option Holdings) (found : ℕ) (base file : List ℕ) (root : Option (List ℕ)) → base ≡ base_of root file
      → (c : Cause) (f : List ℕ) (p : ℕ) → FaultsNamed language told base found (suc MOST_INCLUDES) file [] (record { loaded = 0; met = false }) c f p
      → IsWholeFault language told found file root c f p
  whole-fault told found base file root e c f p h =
      subst (λ b. FaultsNamed language told b found (suc MOST_INCLUDES) file [] (record { loaded = 0; met = false }) c f p) e h

  pub whole-read :
      (told : Option Holdings) (base file : List ℕ) (root : Option (List ℕ)) (fs : List (PlacedTree Tree)) (now : Progress) → base ≡ base_of root file
      → ReadsNamed language told base (suc MOST_INCLUDES) file [] (record { loaded = 0; met = false }) fs now → IsWhole language told file root fs
  whole-read told base file root fs now e h =
      (now, subst (λ b. ReadsNamed language told b (suc MOST_INCLUDES) file [] (record { loaded = 0; met = false }) fs now) e h)
