-- Lists of inferences, looked up among more clauses, and joined.
use Rattle.std.proofs.Common.{◌≡◌, ◌⊎◌, ℕ, zero, suc, ◌+◌, ◌≤◌, ◌==◌, Bool, true, false, Option, Some, None, List, [], ◌∷◌, ◌++◌, length, append-nil, length-append, le-leb, leb-true, refl, ap, sym, ◌∙◌, subst, inl, inr, ⊎_elim, arith}
use Rattle.std.specs.Prelude.{slice_get, Contains, option_map, ◌||◌}
use Rattle.std.proofs.lemmas.Bool.{cond-true, true≢false, false_from_ne_true, or_cases, or_left, or_right, eqb-true, eq-eqb}
use Rattle.std.proofs.lemmas.List.Elements.{All-append, All-contains, All-weaker, Contains-append_left, Contains-append_right}
use Rattle.std.proofs.lemmas.Option.{none-some, same_Some, slice_get_within, get_or_from_slice_get}
use Rattle.fol_base.specs.Clause.{TreeClause}
use Rattle.fol_base.specs.Selection.{SelectionMode}
use Rattle.fol_base.proofs.WorkedExamples.TestLemmas.{option_map-some, if_some}
use Rattle.kernel_steps.specs.Parents.{Parent}
use Rattle.kernel_steps.specs.Lines.{clause_parents, is_on_literals, key_of}
use Rattle.kernel_steps.specs.Named.{IsInference}
use Rattle.kernel_steps.specs.Sized.{IsSizedInference}
use Rattle.kernel_steps.specs.declared.key.Key.{Key}
use Rattle.kernel_steps.specs.declared.key.Key.TheVariants.{Para, Refl, Factor, Replaced}
use Rattle.kernel_steps.specs.declared.step.Step.{Step}
use Rattle.kernel_steps.specs.declared.step.Step.TheVariants as step
use Rattle.literal_selection.specs.Mode.{mode_of}
use Rattle.literal_selection.specs.declared.choice.Selection.{Selection}
use Rattle.bank_clause.specs.Clause.{clause_at}
use Rattle.bank_clause.specs.declared.member.Member.{Member}
use Rattle.eq_rules.specs.Inferences.{AreInferences, AreInferencesOf, AreInferencesUpTo, AreSomeInferences, AreSomeInferencesOf, IsConcluded, IsMade, IsPremise, alone, is_enough, is_factoring, is_resolution}
use Rattle.eq_rules.specs.declared.inference.Inference.{Inference}
use Rattle.eq_rules.specs.declared.inference.Made.{Made}
use Rattle.eq_rules.specs.declared.inference.Made.TheVariants.{Conclusion, Heavy}
use Rattle.reduced_clause.proofs.VerdictLemmas.{conclusion-onward}
use Rattle.superpose.specs.Pairing.{AddsSuperpositionsUpTo, is_from_into}
use Rattle.given_work.specs.Meeting.{AreAloneUpTo, is_alone, is_factoring_of, is_resolution_of}

abbrev Lookup : Type 0
Lookup = ℕ → Option TreeClause

-- ---- among more clauses

-- a step that has the name of an inference is one on literals
pub named-kind : (s : Step) (key : Key) → key_of s ≡ Some key → is_on_literals s ≡ true
named-kind (step.Para first second from from_side into into_side place first_bind second_bind) key h = refl
named-kind (step.Refl parent literal bind) key h = refl
named-kind (step.Factor parent becomes becomes_side other other_side bind) key h = refl
named-kind (step.Merge parent stays goes bind) key h = refl
named-kind _ key h = absurd (none-some key h)

module _ (p : ℕ → Bool) (mode : SelectionMode) (fewer more : Lookup) (wider : (n : ℕ) (c : TreeClause) → fewer n ≡ Some c → more n ≡ Some c) where
  sized-onward : (key : Key) (c : TreeClause) (heavy : Bool) → IsSizedInference p mode fewer key c heavy → IsSizedInference p mode more key c heavy
  sized-onward (Para first from from_side second into into_side place) c heavy h = record {
    first_clause = h.first_clause;
    first_there = wider first h.first_clause h.first_there;
    second_clause = h.second_clause;
    second_there = wider second h.second_clause h.second_there;
    infers = h.infers;
  }
  sized-onward (Refl clause literal) c heavy h = record { clause = h.clause; there = wider clause h.clause h.there; infers = h.infers }
  sized-onward (Factor clause becomes becomes_side other other_side) c heavy h =
      record { clause = h.clause; there = wider clause h.clause h.there; infers = h.infers }
  sized-onward (Replaced clause) c heavy h = h

  -- the premises of a named inference are there among fewer clauses already
  premise-back :
      (key : Key) (c : TreeClause) (heavy : Bool) → IsSizedInference p mode fewer key c heavy → (d : TreeClause) → IsPremise fewer key d → IsPremise more key d
  premise-back (Para first from from_side second into into_side place) c heavy h d is = ⊎_elim (λ e. inl (wider first d e)) (λ e. inr (wider second d e)) is
  premise-back (Refl clause literal) c heavy h d is = wider clause d is
  premise-back (Factor clause becomes becomes_side other other_side) c heavy h d is = wider clause d is
  premise-back (Replaced clause) c heavy h d is = is

  concluded-onward : (key : Key) (by : Step) (c : TreeClause) → IsConcluded p mode fewer key by c → IsConcluded p mode more key by c
  concluded-onward key by c it = record {
    inferred = sized-onward key c false it.inferred;
    of_key = it.of_key;
    right_step =
        conclusion-onward by (clause_parents fewer) (clause_parents more) c (named-kind by key it.of_key)
        (λ n q listed h.
        option_map-some (λ d. let r : Parent = record { clause = d; introduces = false } in r) (fewer n) q h λ d there is.
        ap (option_map (λ d. let r : Parent = record { clause = d; introduces = false } in r)) (wider n d there) ∙ ap Some is)
        it.right_step;
    numbered = it.numbered;
    bindings_numbered = it.bindings_numbered;
    terms = it.terms;
    small = it.small;
    symbols = λ test passes. it.symbols test (λ d is. passes d (premise-back key c false it.inferred d is));
  }

  pub made-onward : (key : Key) (made : Made) → IsMade p mode fewer key made → IsMade p mode more key made
  made-onward key (Conclusion by clause) it = concluded-onward key by _ it
  made-onward key Heavy it = (it.0, sized-onward key it.0 true it.1)

-- ---- some of all

pub all-some :
    (p : ℕ → Bool) (mode : SelectionMode) (clauses : Lookup) (P : Key → Bool) (found : List Inference)
    → AreInferences p mode clauses P found → AreSomeInferences p mode clauses P found
all-some p mode clauses P found are = record { made = are.made; once = are.once }

pub some-wider :
    (p : ℕ → Bool) (mode : SelectionMode) (clauses : Lookup) (P Q : Key → Bool) (found : List Inference)
    → ((k : Key) → P k ≡ true → Q k ≡ true) → AreSomeInferences p mode clauses P found → AreSomeInferences p mode clauses Q found
some-wider p mode clauses P Q found wider are = record {
  made =
      All-weaker (λ e. (P e.key ≡ true) × IsMade p mode clauses e.key e.result) (λ e. (Q e.key ≡ true) × IsMade p mode clauses e.key e.result)
      (λ e h. (wider e.key h.0, h.1)) found are.made;
  once = are.once;
}

-- ---- of one member

alone-itself : (m : Member) → alone m m.number ≡ Some (clause_at m.clause)
alone-itself m = cond-true (m.number == m.number) (Some (clause_at m.clause)) None (eq-eqb m.number m.number refl)

alone-parts : (m : Member) (n : ℕ) (c : TreeClause) → alone m n ≡ Some c → (n ≡ m.number) × (clause_at m.clause ≡ c)
alone-parts m n c h =
    let parts = if_some (n == m.number) (Some (clause_at m.clause)) c h in (eqb-true n m.number parts.0, same_Some (clause_at m.clause) c parts.1)

module _
    (p : ℕ → Bool) (mode : SelectionMode) (m : Member) (clauses : Lookup) (there : clauses m.number ≡ Some (clause_at m.clause)) where
  alone-wider : (n : ℕ) (c : TreeClause) → alone m n ≡ Some c → clauses n ≡ Some c
  alone-wider n c h = let parts = alone-parts m n c h in ap clauses parts.0 ∙ there ∙ ap Some parts.1

  -- a test that alone lets through names of the member, where another asks for the number too
  some-lifted :
      (P Q : Key → Bool) (found : List Inference)
      → ((key : Key) (c : TreeClause) (heavy : Bool) → P key ≡ true → IsSizedInference p mode (alone m) key c heavy → Q key ≡ true)
      → AreSomeInferences p mode (alone m) P found → AreSomeInferences p mode clauses Q found
  some-lifted P Q found forth are = record {
    made =
        All-weaker (λ e. (P e.key ≡ true) × IsMade p mode (alone m) e.key e.result) (λ e. (Q e.key ≡ true) × IsMade p mode clauses e.key e.result)
        (λ e h. (by e.key e.result h.0 h.1, made-onward p mode (alone m) clauses alone-wider e.key e.result h.1)) found are.made;
    once = are.once;
  }
    where
      by : (key : Key) (made : Made) → P key ≡ true → IsMade p mode (alone m) key made → Q key ≡ true
      by key (Conclusion step clause) passes it = forth key _ false passes it.inferred
      by key Heavy passes it = forth key it.0 true passes it.1

  lifted :
      (P Q : Key → Bool) (found : List Inference)
      → ((key : Key) (c : TreeClause) (heavy : Bool) → P key ≡ true → IsSizedInference p mode (alone m) key c heavy → Q key ≡ true)
      → ((key : Key) (c : TreeClause) → Q key ≡ true → IsInference p mode clauses key c → (P key ≡ true) × IsInference p mode (alone m) key c)
      → AreInferences p mode (alone m) P found → AreInferences p mode clauses Q found
  lifted P Q found forth back are =
      let some = some-lifted P Q found forth (all-some p mode (alone m) P found are) in
      record {
        made = some.made;
        complete = λ key c passes it. let was = back key c passes it in are.complete key c was.0 was.1;
        once = some.once;
      }

  resolution-forth : (key : Key) (c : TreeClause) (heavy : Bool) → is_resolution key ≡ true → IsSizedInference p mode (alone m) key c heavy → is_resolution_of m.number key ≡ true
  resolution-forth (Refl clause literal) c heavy passes it = eq-eqb clause m.number (alone-parts m clause it.clause it.there).0
  resolution-forth (Para first from from_side second into into_side place) c heavy passes it = passes
  resolution-forth (Factor clause becomes becomes_side other other_side) c heavy passes it = passes
  resolution-forth (Replaced clause) c heavy passes it = passes

  pub resolutions-lifted : (found : List Inference) → AreInferences p mode (alone m) is_resolution found → AreInferences p mode clauses (is_resolution_of m.number) found
  resolutions-lifted found = lifted is_resolution (is_resolution_of m.number) found resolution-forth back
    where
      back : (key : Key) (c : TreeClause) → is_resolution_of m.number key ≡ true → IsInference p mode clauses key c → (is_resolution key ≡ true) × IsInference p mode (alone m) key c
      back (Refl clause literal) c passes it =
          let same : clause ≡ m.number = eqb-true clause m.number passes in (
            refl,
            record {
              clause = it.clause;
              there = ap (alone m) same ∙ alone-itself m ∙ sym there ∙ ap clauses (sym same) ∙ it.there;
              infers = it.infers;
            },
          )
      back (Para first from from_side second into into_side place) c passes it = absurd (true≢false (sym passes))
      back (Factor clause becomes becomes_side other other_side) c passes it = absurd (true≢false (sym passes))
      back (Replaced clause) c passes it = absurd (true≢false (sym passes))

  factoring-forth : (key : Key) (c : TreeClause) (heavy : Bool) → is_factoring key ≡ true → IsSizedInference p mode (alone m) key c heavy → is_factoring_of m.number key ≡ true
  factoring-forth (Factor clause becomes becomes_side other other_side) c heavy passes it = eq-eqb clause m.number (alone-parts m clause it.clause it.there).0
  factoring-forth (Para first from from_side second into into_side place) c heavy passes it = passes
  factoring-forth (Refl clause literal) c heavy passes it = passes
  factoring-forth (Replaced clause) c heavy passes it = passes

  pub factorings-lifted : (found : List Inference) → AreInferences p mode (alone m) is_factoring found → AreInferences p mode clauses (is_factoring_of m.number) found
  factorings-lifted found = lifted is_factoring (is_factoring_of m.number) found factoring-forth back
    where
      back : (key : Key) (c : TreeClause) → is_factoring_of m.number key ≡ true → IsInference p mode clauses key c → (is_factoring key ≡ true) × IsInference p mode (alone m) key c
      back (Factor clause becomes becomes_side other other_side) c passes it =
          let same : clause ≡ m.number = eqb-true clause m.number passes in (
            refl,
            record {
              clause = it.clause;
              there = ap (alone m) same ∙ alone-itself m ∙ sym there ∙ ap clauses (sym same) ∙ it.there;
              infers = it.infers;
            },
          )
      back (Para first from from_side second into into_side place) c passes it = absurd (true≢false (sym passes))
      back (Refl clause literal) c passes it = absurd (true≢false (sym passes))
      back (Replaced clause) c passes it = absurd (true≢false (sym passes))

  pub resolutions-some :
      (found : List Inference) → AreSomeInferences p mode (alone m) is_resolution found → AreSomeInferences p mode clauses (is_resolution_of m.number) found
  resolutions-some found = some-lifted is_resolution (is_resolution_of m.number) found resolution-forth

  pub factorings-some :
      (found : List Inference) → AreSomeInferences p mode (alone m) is_factoring found → AreSomeInferences p mode clauses (is_factoring_of m.number) found
  factorings-some found = some-lifted is_factoring (is_factoring_of m.number) found factoring-forth

-- ---- joined

slice_get-joined :
    {X : Type 0} (xs ys : List X) (i : ℕ) (x : X) → slice_get (xs ++ ys) i ≡ Some x
    → (slice_get xs i ≡ Some x) ⊎ ((j : ℕ) × (i ≡ length xs + j) × (slice_get ys j ≡ Some x))
slice_get-joined [] ys i x h = let e : i ≡ 0 + i = omega arith in inr (i, e, h)
slice_get-joined (z ∷ zs) ys zero x h = inl h
slice_get-joined (z ∷ zs) ys (suc i) x h =
    ⊎_elim (λ before. inl before) (λ behind. let e : suc i ≡ length (z ∷ zs) + behind.0 = omega (arith, behind.1) in inr (behind.0, e, behind.2))
    (slice_get-joined zs ys i x h)

module _ (p : ℕ → Bool) (mode : SelectionMode) (clauses : Lookup) (P Q R : Key → Bool) where
  abbrev Fact : (Key → Bool) → Inference → Type 0
  Fact T e = (T e.key ≡ true) × IsMade p mode clauses e.key e.result

  pub some-joined :
      (xs ys : List Inference)
      → AreSomeInferences p mode clauses P xs → AreSomeInferences p mode clauses Q ys
      → ((k : Key) → P k ≡ true → R k ≡ true) → ((k : Key) → Q k ≡ true → R k ≡ true)
      → ((k : Key) → P k ≡ true → Q k ≡ true → ⊥)
      → AreSomeInferences p mode clauses R (xs ++ ys)
  some-joined xs ys first second from_first from_second apart = record {
    made =
        All-append (Fact R) xs ys
        (All-weaker (Fact P) (Fact R) (λ e h. (from_first e.key h.0, h.1)) xs first.made)
        (All-weaker (Fact Q) (Fact R) (λ e h. (from_second e.key h.0, h.1)) ys second.made);
    once = λ m n d e at_m at_n same.
        ⊎_elim
        (λ m_first.
        ⊎_elim
        (λ n_first. first.once m n d e m_first n_first same)
        (λ n_second. absurd (apart d.key (passed P xs first m d m_first) (ap Q same ∙ passed Q ys second n_second.0 e n_second.2)))
        (slice_get-joined xs ys n e at_n))
        (λ m_second.
        ⊎_elim
        (λ n_first. absurd (apart e.key (passed P xs first n e n_first) (ap Q (sym same) ∙ passed Q ys second m_second.0 d m_second.2)))
        (λ n_second.
        m_second.1 ∙ ap (λ k. length xs + k) (second.once m_second.0 n_second.0 d e m_second.2 n_second.2 same) ∙ sym n_second.1)
        (slice_get-joined xs ys n e at_n))
        (slice_get-joined xs ys m d at_m);
  }
    where
      Contains-at : (zs : List Inference) (i : ℕ) (e : Inference) → slice_get zs i ≡ Some e → Contains zs e
      Contains-at zs i e at = (i, slice_get_within zs i e at, get_or_from_slice_get zs i e e at)

      passed : (T : Key → Bool) (zs : List Inference) → AreSomeInferences p mode clauses T zs → (i : ℕ) (e : Inference) → slice_get zs i ≡ Some e → T e.key ≡ true
      passed T zs are i e at = (All-contains (Fact T) zs e are.made (Contains-at zs i e at)).0

  pub inferences-joined :
      (xs ys : List Inference)
      → AreInferences p mode clauses P xs → AreInferences p mode clauses Q ys
      → ((k : Key) → P k ≡ true → R k ≡ true) → ((k : Key) → Q k ≡ true → R k ≡ true)
      → ((k : Key) → R k ≡ true → (P k ≡ true) ⊎ (Q k ≡ true)) → ((k : Key) → P k ≡ true → Q k ≡ true → ⊥)
      → AreInferences p mode clauses R (xs ++ ys)
  inferences-joined xs ys first second from_first from_second either apart =
      let some =
      some-joined xs ys (all-some p mode clauses P xs first) (all-some p mode clauses Q ys second) from_first from_second apart in
      record {
        made = some.made;
        complete = λ k c passes it.
            ⊎_elim
            (λ in_first. let found = first.complete k c in_first it in (found.0, Contains-append_left xs ys found.0 found.1, found.2))
            (λ in_second. let found = second.complete k c in_second it in (found.0, Contains-append_right xs ys found.0 found.1, found.2))
            (either k passes);
        once = some.once;
      }

-- ---- the inferences of a clause by itself

not-resolution : (g n m : ℕ) (k : Key) → is_from_into n m k ≡ true → (is_resolution_of g k || is_factoring_of g k) ≡ true → ⊥
not-resolution g n m (Para first from from_side second into into_side place) h k = true≢false (sym k)
not-resolution g n m (Refl clause literal) h k = true≢false (sym h)
not-resolution g n m (Factor clause becomes becomes_side other other_side) h k = true≢false (sym h)
not-resolution g n m (Replaced clause) h k = true≢false (sym h)

not-both : (g : ℕ) (k : Key) → is_resolution_of g k ≡ true → is_factoring_of g k ≡ true → ⊥
not-both g (Refl clause literal) h k = true≢false (sym k)
not-both g (Para first from from_side second into into_side place) h k = true≢false (sym h)
not-both g (Factor clause becomes becomes_side other other_side) h k = true≢false (sym h)
not-both g (Replaced clause) h k = true≢false (sym h)

module _ (p : ℕ → Bool) (mode : SelectionMode) (clauses : Lookup) (g : ℕ) where
  -- equality resolutions, equality factorings, superpositions into itself
  pub alone-joined :
      (resolved factored within : List Inference)
      → AreInferences p mode clauses (is_resolution_of g) resolved → AreInferences p mode clauses (is_factoring_of g) factored
      → AreInferences p mode clauses (is_from_into g g) within
      → AreInferences p mode clauses (is_alone g) ((resolved ++ factored) ++ within)
  alone-joined resolved factored within one two three =
      inferences-joined p mode clauses (λ k. is_resolution_of g k || is_factoring_of g k) (is_from_into g g) (is_alone g) (resolved ++ factored) within
      (inferences-joined p mode clauses (is_resolution_of g) (is_factoring_of g) (λ k. is_resolution_of g k || is_factoring_of g k) resolved factored one two
      (λ k h. or_left (is_resolution_of g k) (is_factoring_of g k) h) (λ k h. or_right (is_resolution_of g k) (is_factoring_of g k) h)
      (λ k h. or_cases (is_resolution_of g k) (is_factoring_of g k) h) (λ k. not-both g k))
      three
      (λ k h. or_left (is_resolution_of g k || is_factoring_of g k) (is_from_into g g k) h)
      (λ k h. or_right (is_resolution_of g k || is_factoring_of g k) (is_from_into g g k) h)
      (λ k h. or_cases (is_resolution_of g k || is_factoring_of g k) (is_from_into g g k) h)
      (λ k h into. not-resolution g g g k into h)

  pub some-alone-joined :
      (resolved factored within : List Inference)
      → AreSomeInferences p mode clauses (is_resolution_of g) resolved → AreSomeInferences p mode clauses (is_factoring_of g) factored
      → AreSomeInferences p mode clauses (is_from_into g g) within
      → AreSomeInferences p mode clauses (is_alone g) ((resolved ++ factored) ++ within)
  some-alone-joined resolved factored within one two three =
      some-joined p mode clauses (λ k. is_resolution_of g k || is_factoring_of g k) (is_from_into g g) (is_alone g) (resolved ++ factored) within
      (some-both resolved factored one two)
      three
      (λ k h. or_left (is_resolution_of g k || is_factoring_of g k) (is_from_into g g k) h)
      (λ k h. or_right (is_resolution_of g k || is_factoring_of g k) (is_from_into g g k) h)
      (λ k h into. not-resolution g g g k into h)
    where
      some-both :
          (xs ys : List Inference) → AreSomeInferences p mode clauses (is_resolution_of g) xs → AreSomeInferences p mode clauses (is_factoring_of g) ys
          → AreSomeInferences p mode clauses (λ k. is_resolution_of g k || is_factoring_of g k) (xs ++ ys)
      some-both xs ys a b =
          some-joined p mode clauses (is_resolution_of g) (is_factoring_of g) (λ k. is_resolution_of g k || is_factoring_of g k) xs ys a b
          (λ k h. or_left (is_resolution_of g k) (is_factoring_of g k) h) (λ k h. or_right (is_resolution_of g k) (is_factoring_of g k) h)
          (λ k. not-both g k)

-- ---- until there are enough

pub enough-more : (most : Option ℕ) (a b : ℕ) → is_enough most a ≡ true → a ≤ b → is_enough most b ≡ true
enough-more None a b h less = absurd (true≢false (sym h))
enough-more (Some n) a b h less = le-leb n b (omega (arith, leb-true n a h, less))

module _ (most : Option ℕ) (sel : Selection) (m : Member) where
  abbrev mode : SelectionMode
  mode = mode_of sel

  own-some : (P : Key → Bool) (found : List Inference) → AreInferencesUpTo most mode m P found → AreSomeInferencesOf mode m P found
  own-some P found h usage formed =
      ⊎_elim (λ all. all-some usage.is_predicate mode (alone m) P found (all usage formed)) (λ some. some.1 usage formed) h

  own-all : (P : Key → Bool) (found : List Inference) → is_enough most (length found) ≡ false → AreInferencesUpTo most mode m P found → AreInferencesOf mode m P found
  own-all P found few h = ⊎_elim (λ all. all) (λ some. absurd (true≢false (sym some.0 ∙ few))) h

  nothing-some : (p : ℕ → Bool) (clauses : Lookup) (P : Key → Bool) → AreSomeInferences p mode clauses P []
  nothing-some p clauses P = record {
    made = λ k d less. absurd (omega (arith, less));
    once = λ i n d e at_i at_n same. absurd (omega (arith, slice_get_within [] i d at_i));
  }

  -- resolutions and factorings are enough
  pub factored-enough :
      (resolved factored : List Inference)
      → AreInferencesUpTo most mode m is_resolution resolved → AreInferencesUpTo most mode m is_factoring factored
      → is_enough most (length (resolved ++ factored)) ≡ true → AreAloneUpTo most sel m (resolved ++ factored)
  factored-enough resolved factored one two enough =
      inr (
        enough,
        λ usage clauses formed there.
            let p = usage.is_predicate in
            subst (λ (xs : List Inference). AreSomeInferences p mode clauses (is_alone m.number) xs) (append-nil (resolved ++ factored))
            (some-alone-joined p mode clauses m.number resolved factored []
            (resolutions-some p mode m clauses there resolved (own-some is_resolution resolved one usage formed))
            (factorings-some p mode m clauses there factored (own-some is_factoring factored two usage formed))
            (nothing-some p clauses (is_from_into m.number m.number))),
      )

  -- resolutions alone are
  pub resolved-enough :
      (resolved : List Inference) → AreInferencesUpTo most mode m is_resolution resolved → is_enough most (length resolved) ≡ true
      → AreAloneUpTo most sel m resolved
  resolved-enough resolved one enough =
      inr (
        enough,
        λ usage clauses formed there.
            let p = usage.is_predicate in
            some-wider p mode clauses (is_resolution_of m.number) (is_alone m.number) resolved
            (λ k h.
            or_left (is_resolution_of m.number k || is_factoring_of m.number k) (is_from_into m.number m.number k)
            (or_left (is_resolution_of m.number k) (is_factoring_of m.number k) h))
            (resolutions-some p mode m clauses there resolved (own-some is_resolution resolved one usage formed)),
      )

  -- those and superpositions of the clause into itself
  pub alone-up_to :
      (resolved factored now : List Inference)
      → AreInferencesUpTo most mode m is_resolution resolved → is_enough most (length resolved) ≡ false
      → AreInferencesUpTo most mode m is_factoring factored → is_enough most (length (resolved ++ factored)) ≡ false
      → AddsSuperpositionsUpTo most mode m m (resolved ++ factored) now
      → AreAloneUpTo most sel m now
  alone-up_to resolved factored now one few two fewer adds =
      let resolves = own-all is_resolution resolved few one in
      let factors = own-all is_factoring factored few_factored two in
      ⊎_elim
      (λ all.
      inl
      (λ usage clauses formed there.
      let p = usage.is_predicate in
      let within = all usage clauses formed formed there there in
      subst (λ (xs : List Inference). AreInferences p mode clauses (is_alone m.number) xs) (sym within.1)
      (alone-joined p mode clauses m.number resolved factored within.0
      (resolutions-lifted p mode m clauses there resolved (resolves usage formed))
      (factorings-lifted p mode m clauses there factored (factors usage formed)) within.2)))
      (λ some.
      inr (
        some.0,
        λ usage clauses formed there.
            let p = usage.is_predicate in
            let within = some.1 usage clauses formed formed there there in
            subst (λ (xs : List Inference). AreSomeInferences p mode clauses (is_alone m.number) xs) (sym within.1)
            (some-alone-joined p mode clauses m.number resolved factored within.0
            (resolutions-some p mode m clauses there resolved (own-some is_resolution resolved one usage formed))
            (factorings-some p mode m clauses there factored (own-some is_factoring factored two usage formed)) within.2),
      ))
      adds
    where
      few_factored : is_enough most (length factored) ≡ false
      few_factored =
          false_from_ne_true (is_enough most (length factored)) (λ e.
          true≢false
          (sym (enough-more most (length factored) (length (resolved ++ factored)) e (omega (arith, length-append resolved factored))) ∙ fewer))
