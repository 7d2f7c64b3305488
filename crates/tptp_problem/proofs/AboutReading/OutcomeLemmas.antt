-- Where a library tells what it holds, reading a file has one outcome, failed loads aside.
use Rattle.std.proofs.Common.{◌≡◌, ◌⊎◌, inl, inr, ⊎_elim, ℕ, zero, suc, ◌≤◌, ◌<◌, false, None, Some, Option, List, [], drop, length, ap, sym, ◌∙◌, subst, arith}
use Rattle.std.specs.Prelude.{IsSomeAnd}
use Rattle.tptp_problem.specs.declared.limits.TheConstants.{MOST_INCLUDES}
use Rattle.outside.specs.Library.{Holdings, FoundMore}
use Rattle.tptp_token.specs.Lexing.{lexed_of}
use Rattle.tptp_token.specs.declared.token.LexFault.{LexFault}
use Rattle.tptp_tree.specs.declared.limits.TheConstants.{MOST_NESTING}
use Rattle.tptp_reader.specs.Faults.{IsEndFault}
use Rattle.tptp_reader.specs.declared.cause.ReadCause.{ReadCause}
use Rattle.tptp_reader.specs.declared.cause.ReadCause.TheVariants.{TooLong, Load}
use Rattle.tptp_reader.proofs.AboutTexts.OutcomeLemmas.{read_or_fault, one_fault, one_reading}
use Rattle.tptp_problem.specs.Files.{base_of, room_after, MayGive}
use Rattle.tptp_problem.specs.Formulas.{Placed, placed_in, IsFormulaRead, annotated_formulas}
use Rattle.tptp_problem.specs.Languages.{PlacedTree, Language, IsDetermined}
use Rattle.tptp_problem.specs.Includes.{is_include}
use Rattle.tptp_problem.specs.Problem.{LoadedFile, Progress, Step, Reads, Faults, tokens_of, lexemes, with_file, next_behind, progress_behind, formulas_along, InLanguage, IsEntryFault, IsTextEndFault, IsLoadFault, ReadsNamed, FaultsNamed, ReadsText, FaultsText, IsWhole, IsWholeFault, IsProblem, IsProblemFault}
use Rattle.tptp_problem.proofs.AboutReading.EntryOutcomes.{OneRead, NoFault, Same, OneFault, Stuck, steps-one, end-one, entry-none, entry-one}

module _ {Tree Cause : Type 0} (language : Language Tree Cause) (determined : IsDetermined language) where
  -- ---- texts

  ended-stuck : (base : List ℕ) (reads : Reads language) (file : LoadedFile) (first : ℕ) (progress : Progress) → length (tokens_of file) ≤ first → Stuck language determined base reads file first progress
  unfolding Stuck
  ended-stuck base reads file first progress l s h = omega (arith, l, h.0)

  text-stuck :
      (told : Option Holdings) (depth : ℕ) (base : List ℕ) (faults : Faults language) (file : LoadedFile) (start : Progress) (c : Cause) (f : List ℕ) (p : ℕ)
      → OneRead language (ReadsNamed language told base depth) → NoFault language (ReadsNamed language told base depth) faults → (c ≡ language.cause Load → ⊥)
      → (h : FaultsText language depth base (ReadsNamed language told base depth) faults file start c f p)
      → Stuck language determined base (ReadsNamed language told base depth) file (next_behind language 0 h.steps) (progress_behind language start h.steps)
  unfolding Stuck
  text-stuck told depth base faults file start c f p one clear l h s k =
      ⊎_elim
      (λ e.
      entry-none language determined told depth base faults file (is_include (drop (next_behind language 0 h.steps) (lexemes file))) (next_behind language 0 h.steps)
      (progress_behind language start h.steps) s c f p one clear l k.1 e.1)
      (λ e. ended-stuck base (ReadsNamed language told base depth) file (next_behind language 0 h.steps) (progress_behind language start h.steps) e.2.ended s k) h.why

  text-read-one :
      (base : List ℕ) (reads : Reads language) (file : LoadedFile) (start : Progress) (f g : List (PlacedTree Tree)) (a b : Progress) → OneRead language reads
      → ReadsText language base reads file start f a → ReadsText language base reads file start g b → (f ≡ g) × (a ≡ b)
  text-read-one base reads file start f g a b one h k =
      let same = steps-one language determined base reads file 0 start h.steps k.steps one h.are k.are
      (ended-stuck base reads file (next_behind language 0 h.steps) (progress_behind language start h.steps) h.ended)
      (ended-stuck base reads file (next_behind language 0 k.steps) (progress_behind language start k.steps) k.ended) in (
        h.formulas_are ∙ ap (formulas_along language) same ∙ sym k.formulas_are,
        h.progress_is ∙ ap (progress_behind language start) same ∙ sym k.progress_is,
      )

  text-none :
      (told : Option Holdings) (depth : ℕ) (base : List ℕ) (faults : Faults language) (file : LoadedFile) (start : Progress) (fs : List (PlacedTree Tree)) (a : Progress) (c : Cause) (f : List ℕ) (p : ℕ)
      → OneRead language (ReadsNamed language told base depth) → NoFault language (ReadsNamed language told base depth) faults → (c ≡ language.cause Load → ⊥)
      → ReadsText language base (ReadsNamed language told base depth) file start fs a
      → FaultsText language depth base (ReadsNamed language told base depth) faults file start c f p → ⊥
  text-none told depth base faults file start fs a c f p one clear l h k =
      let reads = ReadsNamed language told base depth in
      let same = steps-one language determined base reads file 0 start h.steps k.steps one h.are k.are
      (ended-stuck base reads file (next_behind language 0 h.steps) (progress_behind language start h.steps) h.ended)
      (text-stuck told depth base faults file start c f p one clear l k) in
      let ended : length (tokens_of file) ≤ next_behind language 0 k.steps = subst (λ ss. length (tokens_of file) ≤ next_behind language 0 ss) same h.ended in
      ⊎_elim (λ e. let small = e.0 in omega (arith, ended, small)) (λ e. let x : None ≡ Some e.2.fault = sym h.clean ∙ e.2.found in cc) k.why

  end-fault-one :
      (file : LoadedFile) (first : ℕ) (c d : ReadCause) (f g : List ℕ) (p q : ℕ)
      → IsTextEndFault file first c f p → IsTextEndFault file first d g q → Same c f p d g q
  end-fault-one file first c d f g p q h k =
      let found : Some h.fault ≡ Some k.fault = sym h.found ∙ k.found in
      let same = end-one (Some h.fault) (length file.bytes) c d p q h.told (subst (λ (x : Option LexFault). IsEndFault x (length file.bytes) d q) (sym found) k.told) in
      (same.0, h.file_is ∙ sym k.file_is, same.1)

  text-fault-one :
      (told : Option Holdings) (depth : ℕ) (base : List ℕ) (faults others : Faults language) (file : LoadedFile) (start : Progress) (c d : Cause) (f g : List ℕ) (p q : ℕ)
      → OneRead language (ReadsNamed language told base depth) → NoFault language (ReadsNamed language told base depth) faults → NoFault language (ReadsNamed language told base depth) others
      → OneFault language faults others → (c ≡ language.cause Load → ⊥) → (d ≡ language.cause Load → ⊥)
      → FaultsText language depth base (ReadsNamed language told base depth) faults file start c f p → FaultsText language depth base (ReadsNamed language told base depth) others file start d g q
      → Same c f p d g q
  text-fault-one told depth base faults others file start c d f g p q one clear non two l m h k = by h.why there
    where
      reads : Reads language
      reads = ReadsNamed language told base depth

      same : h.steps ≡ k.steps
      same =
          steps-one language determined base (ReadsNamed language told base depth) file 0 start h.steps k.steps one h.are k.are (text-stuck told depth base faults file start c f p one clear l h)
          (text-stuck told depth base others file start d g q one non m k)

      there :
          IsEntryFault language depth base (ReadsNamed language told base depth) others file (next_behind language 0 h.steps) (progress_behind language start h.steps) d g q
          ⊎ InLanguage language (IsTextEndFault file (next_behind language 0 h.steps)) d g q
      there =
          subst
          (λ (ss : List (Step language)).
          IsEntryFault language depth base (ReadsNamed language told base depth) others file (next_behind language 0 ss) (progress_behind language start ss) d g q
          ⊎ InLanguage language (IsTextEndFault file (next_behind language 0 ss)) d g q)
          (sym same) k.why

      by :
          IsEntryFault language depth base (ReadsNamed language told base depth) faults file (next_behind language 0 h.steps) (progress_behind language start h.steps) c f p
          ⊎ InLanguage language (IsTextEndFault file (next_behind language 0 h.steps)) c f p
          → IsEntryFault language depth base (ReadsNamed language told base depth) others file (next_behind language 0 h.steps) (progress_behind language start h.steps) d g q
          ⊎ InLanguage language (IsTextEndFault file (next_behind language 0 h.steps)) d g q
          → Same c f p d g q
      by (inl x) (inl y) =
          entry-one language determined depth base (ReadsNamed language told base depth) faults others file (is_include (drop (next_behind language 0 h.steps) (lexemes file))) (next_behind language 0 h.steps)
          (progress_behind language start h.steps) c d f g p q one clear non two l m x.1 y.1
      by (inl x) (inr y) = absurd (let small = x.0 in let e = y.2.ended in omega (arith, small, e))
      by (inr x) (inl y) = absurd (let small = y.0 in let e = x.2.ended in omega (arith, small, e))
      by (inr x) (inr y) =
          let one = end-fault-one file (next_behind language 0 h.steps) x.0 y.0 f g p q x.2 y.2 in
          (x.1 ∙ ap language.cause one.0 ∙ sym y.1, one.1, one.2)

  -- ---- files

  bytes-one : (holds : Holdings) (name : List ℕ) (loaded : ℕ) (x y : List ℕ) → MayGive (Some holds) name loaded x → MayGive (Some holds) name loaded y → x ≡ y
  bytes-one holds name loaded x y h k =
      let both : Some x ≡ Some y = sym h.held ∙ k.held in cc

  too-long-none : (holds : Holdings) (name : List ℕ) (found loaded : ℕ) (x : List ℕ) → MayGive (Some holds) name loaded x → FoundMore (Some holds) found name (room_after loaded) → ⊥
  too-long-none holds name found loaded x h k =
      let far : room_after loaded < length x = subst (λ (o : Option (List ℕ)). IsSomeAnd o (λ bytes. room_after loaded < length bytes)) h.held k in
      let near = h.within in
      omega (arith, far, near)

  pub record OneOutcome (holds : Holdings) (base : List ℕ) (depth : ℕ) : Type 0 where
    pub read : OneRead language (ReadsNamed language (Some holds) base depth)
    pub none : (found : ℕ) → NoFault language (ReadsNamed language (Some holds) base depth) (FaultsNamed language (Some holds) base found depth)
    pub fault : (found other : ℕ) → OneFault language (FaultsNamed language (Some holds) base found depth) (FaultsNamed language (Some holds) base other depth)

  named-read-one :
      (holds : Holdings) (base : List ℕ) (depth : ℕ) → OneOutcome holds base depth → (name : List ℕ) (around : List (List (List ℕ))) (start : Progress) (f g : List (PlacedTree Tree)) (a b : Progress)
      → ReadsNamed language (Some holds) base (suc depth) name around start f a → ReadsNamed language (Some holds) base (suc depth) name around start g b → (f ≡ g) × (a ≡ b)
  named-read-one holds base depth o name around start f g a b h k =
      let same = bytes-one holds name start.loaded h.bytes k.bytes h.given k.given in
      text-read-one base (ReadsNamed language (Some holds) base depth) (record { name = name; bytes = h.bytes; around = around }) (with_file h.bytes start) f g a b o.read h.text
      (subst (λ (x : List ℕ). ReadsText language base (ReadsNamed language (Some holds) base depth) (record { name = name; bytes = x; around = around }) (with_file x start) g b)
      (sym same) k.text)

  known-load : (c : Cause) (known : ReadCause) → c ≡ language.cause known → known ≡ Load → c ≡ language.cause Load
  known-load c known e l = e ∙ ap language.cause l

  load-one :
      (told : Option Holdings) (found other : ℕ) (name : List ℕ) (start : Progress) (c d : Cause) (f g : List ℕ) (p q : ℕ)
      → (c ≡ language.cause Load → ⊥) → (d ≡ language.cause Load → ⊥)
      → InLanguage language (IsLoadFault told found name start) c f p → InLanguage language (IsLoadFault told other name start) d g q → Same c f p d g q
  load-one told found other name start c d f g p q l m h k =
      let too_long : h.0 ≡ TooLong = ⊎_elim (λ x. x.0) (λ x. absurd (l (known-load c h.0 h.1 x))) h.2.2 in
      let as_well : k.0 ≡ TooLong = ⊎_elim (λ x. x.0) (λ x. absurd (m (known-load d k.0 k.1 x))) k.2.2 in
      (h.1 ∙ ap language.cause (too_long ∙ sym as_well) ∙ sym k.1, h.2.0 ∙ sym k.2.0, h.2.1 ∙ sym k.2.1)

  load-text :
      (holds : Holdings) (found : ℕ) (name : List ℕ) (start : Progress) (c : Cause) (f : List ℕ) (p : ℕ) (bytes : List ℕ) → (c ≡ language.cause Load → ⊥)
      → InLanguage language (IsLoadFault (Some holds) found name start) c f p → MayGive (Some holds) name start.loaded bytes → ⊥
  load-text holds found name start c f p bytes l h k =
      ⊎_elim (λ x. too-long-none holds name found start.loaded bytes k x.1) (λ x. l (known-load c h.0 h.1 x)) h.2.2

  named-none :
      (holds : Holdings) (base : List ℕ) (depth found : ℕ) → OneOutcome holds base depth → (name : List ℕ) (around : List (List (List ℕ))) (start : Progress) (fs : List (PlacedTree Tree)) (a : Progress) (c : Cause) (f : List ℕ) (p : ℕ)
      → (c ≡ language.cause Load → ⊥) → ReadsNamed language (Some holds) base (suc depth) name around start fs a → FaultsNamed language (Some holds) base found (suc depth) name around start c f p → ⊥
  named-none holds base depth found o name around start fs a c f p l h (inl k) =
      load-text holds found name start c f p h.bytes l k h.given
  named-none holds base depth found o name around start fs a c f p l h (inr k) =
      let same = bytes-one holds name start.loaded h.bytes k.bytes h.given k.given in
      text-none (Some holds) depth base (FaultsNamed language (Some holds) base found depth) (record { name = name; bytes = h.bytes; around = around }) (with_file h.bytes start) fs a c f p
      o.read (o.none found) l h.text
      (subst
      (λ (x : List ℕ).
      FaultsText language depth base (ReadsNamed language (Some holds) base depth) (FaultsNamed language (Some holds) base found depth)
      (record { name = name; bytes = x; around = around }) (with_file x start) c f p)
      (sym same) k.fault)

  named-fault-one :
      (holds : Holdings) (base : List ℕ) (depth found other : ℕ) → OneOutcome holds base depth → (name : List ℕ) (around : List (List (List ℕ))) (start : Progress) (c d : Cause) (f g : List ℕ) (p q : ℕ)
      → (c ≡ language.cause Load → ⊥) → (d ≡ language.cause Load → ⊥)
      → FaultsNamed language (Some holds) base found (suc depth) name around start c f p → FaultsNamed language (Some holds) base other (suc depth) name around start d g q → Same c f p d g q
  named-fault-one holds base depth found other o name around start c d f g p q l m (inl h) (inl k) =
      load-one (Some holds) found other name start c d f g p q l m h k
  named-fault-one holds base depth found other o name around start c d f g p q l m (inl h) (inr k) =
      absurd (load-text holds found name start c f p k.bytes l h k.given)
  named-fault-one holds base depth found other o name around start c d f g p q l m (inr h) (inl k) =
      absurd (load-text holds other name start d g q h.bytes m k h.given)
  named-fault-one holds base depth found other o name around start c d f g p q l m (inr h) (inr k) =
      let same = bytes-one holds name start.loaded h.bytes k.bytes h.given k.given in
      text-fault-one (Some holds) depth base (FaultsNamed language (Some holds) base found depth) (FaultsNamed language (Some holds) base other depth)
      (record { name = name; bytes = h.bytes; around = around }) (with_file h.bytes start) c d f g p q o.read (o.none found) (o.none other) (o.fault found other) l m h.fault
      (subst
      (λ (x : List ℕ).
      FaultsText language depth base (ReadsNamed language (Some holds) base depth) (FaultsNamed language (Some holds) base other depth)
      (record { name = name; bytes = x; around = around }) (with_file x start) d g q)
      (sym same) k.fault)

  pub outcome-one : (holds : Holdings) (base : List ℕ) (depth : ℕ) → OneOutcome holds base depth
  outcome-one holds base zero =
      record {
        read = record { same = λ name around start f g a b h k. absurd h };
        none = λ found. record { none = λ name around start f a c file p l h k. h };
        fault = λ found other. record { same = λ name around start c d f g p q l m h k. absurd h };
      }
  outcome-one holds base (suc depth) =
      let below = outcome-one holds base depth in
      record {
        read = record { same = named-read-one holds base depth below };
        none = λ found. record { none = named-none holds base depth found below };
        fault = λ found other. record { same = named-fault-one holds base depth found other below };
      }

  pub determined-one :
      (holds : Holdings) (file : List ℕ) (root : Option (List ℕ)) (f g : List (PlacedTree Tree))
      → IsWhole language (Some holds) file root f → IsWhole language (Some holds) file root g → f ≡ g
  determined-one holds file root f g h k =
      ((outcome-one holds (base_of root file) (suc MOST_INCLUDES)).read.same file [] (record { loaded = 0; met = false }) f g h.0 k.0 h.1 k.1).0

  pub whole-or-fault :
      (holds : Holdings) (file : List ℕ) (root : Option (List ℕ)) (found : ℕ) (fs : List (PlacedTree Tree)) (c : Cause) (f : List ℕ) (p : ℕ)
      → (c ≡ language.cause Load → ⊥)
      → IsWhole language (Some holds) file root fs → IsWholeFault language (Some holds) found file root c f p → ⊥
  whole-or-fault holds file root found fs c f p l h k =
      ((outcome-one holds (base_of root file) (suc MOST_INCLUDES)).none found).none file [] (record { loaded = 0; met = false }) fs h.0 c f p l h.1 k

  pub whole-fault-one :
      (holds : Holdings) (file : List ℕ) (root : Option (List ℕ)) (found other : ℕ) (c d : Cause) (f g : List ℕ) (p q : ℕ)
      → (c ≡ language.cause Load → ⊥) → (d ≡ language.cause Load → ⊥)
      → IsWholeFault language (Some holds) found file root c f p → IsWholeFault language (Some holds) other file root d g q → (c ≡ d) × (f ≡ g) × (p ≡ q)
  whole-fault-one holds file root found other c d f g p q l m h k =
      ((outcome-one holds (base_of root file) (suc MOST_INCLUDES)).fault found other).same file [] (record { loaded = 0; met = false }) c d f g p q l m h k

-- ---- problems

reading-one :
    (file bytes : List ℕ) (first : ℕ) (f g : Placed) (m n : ℕ)
    → IsFormulaRead file bytes first f m → IsFormulaRead file bytes first g n → (f ≡ g) × (m ≡ n)
reading-one file bytes first f g m n h k =
    let same = one_reading MOST_NESTING bytes (lexed_of bytes).tokens first h.read k.read h.reading k.reading in
    let tree = same.tree in
    let place = same.place in
    let one : placed_in file h.read.annotated ≡ placed_in file k.read.annotated = cc in
    (h.formula_is ∙ one ∙ sym k.formula_is, h.next_is ∙ same.next ∙ sym k.next_is)

pub formulas-determined : IsDetermined annotated_formulas
formulas-determined = record {
  one_formula = reading-one;
  one_fault = λ bytes first c d p q h k. one_fault MOST_NESTING bytes (lexed_of bytes) first c d p q h k;
  formula_or_fault = λ file bytes first f n c p h k. read_or_fault MOST_NESTING bytes (lexed_of bytes) first h.read c p h.reading k;
}

pub problem-one :
    (holds : Holdings) (file : List ℕ) (root : Option (List ℕ)) (f g : List Placed) → IsProblem (Some holds) file root f → IsProblem (Some holds) file root g → f ≡ g
problem-one = determined-one annotated_formulas formulas-determined

pub problem-or-fault :
    (holds : Holdings) (file : List ℕ) (root : Option (List ℕ)) (found : ℕ) (fs : List Placed) (c : ReadCause) (f : List ℕ) (p : ℕ) → (c ≡ Load → ⊥)
    → IsProblem (Some holds) file root fs → IsProblemFault (Some holds) found file root c f p → ⊥
problem-or-fault = whole-or-fault annotated_formulas formulas-determined

pub problem-fault-one :
    (holds : Holdings) (file : List ℕ) (root : Option (List ℕ)) (found other : ℕ) (c d : ReadCause) (f g : List ℕ) (p q : ℕ) → (c ≡ Load → ⊥) → (d ≡ Load → ⊥)
    → IsProblemFault (Some holds) found file root c f p → IsProblemFault (Some holds) other file root d g q → (c ≡ d) × (f ≡ g) × (p ≡ q)
problem-fault-one = whole-fault-one annotated_formulas formulas-determined
