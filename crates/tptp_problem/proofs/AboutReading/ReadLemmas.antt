-- A text that is read entry by entry.
use Rattle.std.proofs.Common.{◌≡◌, ℕ, ◌<◌, Bool, List, [], ◌∷◌, ◌++◌, drop, length, refl, ap, sym, ◌∙◌, subst, append_assoc, append-nil}
use Rattle.tptp_problem.specs.Languages.{PlacedTree, Language}
use Rattle.tptp_problem.specs.Includes.{is_include}
use Rattle.tptp_problem.specs.Problem.{LoadedFile, Progress, Step, Reads, AreSteps, IsStep, IsStepBy, next_behind, progress_behind, formulas_along, Adds, tokens_of, lexemes}

module _ {Tree Cause : Type 0} (language : Language Tree Cause) where
  -- the entries up to a token are read
  pub record ReadsUpTo (base : List ℕ) (reads : Reads language) (file : LoadedFile) (start : Progress) (next : ℕ) (formulas : List (PlacedTree Tree)) (progress : Progress) : Type 0 where
    pub steps : List (Step language)
    pub are : AreSteps language base reads file 0 start steps
    pub next_is : next ≡ next_behind language 0 steps
    pub formulas_are : formulas ≡ formulas_along language steps
    pub progress_is : progress ≡ progress_behind language start steps

  pub reads-nothing : (base : List ℕ) (reads : Reads language) (file : LoadedFile) (start : Progress) → ReadsUpTo base reads file start 0 [] start
  reads-nothing base reads file start = record { steps = []; are = tt; next_is = refl; formulas_are = refl; progress_is = refl }

  -- one step more
  more-steps :
      (base : List ℕ) (reads : Reads language) (file : LoadedFile) (first : ℕ) (start : Progress) (ss : List (Step language)) (s : Step language)
      → AreSteps language base reads file first start ss → IsStep language base reads file (next_behind language first ss) (progress_behind language start ss) s
      → AreSteps language base reads file first start (ss ++ s ∷ [])
  more-steps base reads file first start [] s are is = (is, tt)
  more-steps base reads file first start (t ∷ ts) s are is = (are.0, more-steps base reads file t.next t.progress ts s are.1 is)

  next-more : (first : ℕ) (ss : List (Step language)) (s : Step language) → next_behind language first (ss ++ s ∷ []) ≡ s.next
  next-more first [] s = refl
  next-more first (t ∷ ts) s = next-more t.next ts s

  progress-more : (start : Progress) (ss : List (Step language)) (s : Step language) → progress_behind language start (ss ++ s ∷ []) ≡ s.progress
  progress-more start [] s = refl
  progress-more start (t ∷ ts) s = progress-more t.progress ts s

  formulas-more : (ss : List (Step language)) (s : Step language) → formulas_along language (ss ++ s ∷ []) ≡ formulas_along language ss ++ s.formulas
  formulas-more [] s = append-nil s.formulas
  formulas-more (t ∷ ts) s = ap (λ fs. t.formulas ++ fs) (formulas-more ts s) ∙ sym (append_assoc t.formulas (formulas_along language ts) s.formulas)

  pub reads-on :
      (base : List ℕ) (reads : Reads language) (file : LoadedFile) (start : Progress) (at next : ℕ) (before after : List (PlacedTree Tree)) (old new : Progress)
      → ReadsUpTo base reads file start at before old
      → Adds language (IsStep language base reads file at old) before after new next
      → ReadsUpTo base reads file start next after new
  reads-on base reads file start at next before after old new r a =
      let step : Step language = record { formulas = a.added; progress = new; next = next } in
      let is : IsStep language base reads file (next_behind language 0 r.steps) (progress_behind language start r.steps) step =
      subst (λ p. IsStep language base reads file (next_behind language 0 r.steps) p step) r.progress_is
      (subst (λ n. IsStep language base reads file n old step) r.next_is a.step) in
      record {
        steps = r.steps ++ step ∷ [];
        are = more-steps base reads file 0 start r.steps step r.are is;
        next_is = sym (next-more 0 r.steps step);
        formulas_are = a.joined ∙ ap (λ fs. fs ++ a.added) r.formulas_are ∙ sym (formulas-more r.steps step);
        progress_is = sym (progress-more start r.steps step);
      }

  -- ---- the kinds of entries

  pub step-by :
      (base : List ℕ) (reads : Reads language) (file : LoadedFile) (at : ℕ) (old new : Progress) (before after : List (PlacedTree Tree)) (next : ℕ) (b : Bool)
      → at < length (tokens_of file) → is_include (drop at (lexemes file)) ≡ b
      → Adds language (IsStepBy language base reads file b at old) before after new next → Adds language (IsStep language base reads file at old) before after new next
  step-by base reads file at old new before after next b small e a =
      let step : Step language = record { formulas = a.added; progress = new; next = next } in
      record {
        added = a.added;
        joined = a.joined;
        step = (small, subst (λ x. IsStepBy language base reads file x at old step) (sym e) a.step);
      }
