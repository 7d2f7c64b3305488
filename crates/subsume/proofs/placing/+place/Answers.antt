use Rattle.std.proofs.Common.{◌≡◌, ◌⊎◌, ◌+◌, ◌<◌, ◌∷◌, true, false, List, None, Some, inl, inr, map, length, get_or, ap, sym, ◌∙◌, subst, arith, rules}
use Rattle.std.specs.Prelude.{All, IsPermutation, IsTrue, slice_set, slice_get, is_some}
use Rattle.std.proofs.lemmas.Result.{IfOk-weaker}
use Rattle.std.proofs.lemmas.List.Elements.{All-head, All-tail}
use Rattle.std.proofs.lemmas.List.Sorted.{All-permutation}
use Rattle.std.proofs.lemmas.Bool.{and_parts}
use Rattle.std.specs.List.{list_all}
use Rattle.fol_base.specs.Clause.{TreeLiteral, LiteralVariablesBelow}
use Rattle.fol_base.specs.Kind.{is_literal}
use Rattle.fol_base.specs.Lent.{lent_of}
use Rattle.fol_base.proofs.WorkedExamples.TestLemmas.{list_all-item}
use Rattle.fol_base.specs.Sides.{exchanged}
use Rattle.unifier.specs.Laws.{are_of_one_kind}
use Rattle.subsume.specs.Kinds.{TurnsInto, are_alike}
use Rattle.subsume.specs.Placing.{IsFoundFor, Places}
use Rattle.subsume.proofs.AboutSearch.ChoosingLemmas.{found-in-order, literals-permutation, taken-out}
use Rattle.subsume.proofs.AboutSearch.PlacingLemmas.{StandsAtNone, sides-then, onto-first, onto-second, one_kind, place-target, none-found, none-alike, none-free, nowhere, set-back, free-unmarked, taken-marked, marks-kept}
use Rattle.subsume.proofs.placing.+place.Goals.{place-then-not-used-at+then-are_alike+in_ok-found+else-is_some, place-else-not-used-at, place-else-not-used-at-via-then-not-used-at+else-are_alike, place-else-not-used-at-via-else-not-used-at, place_onto-then-is_some-via-then-is_some, place_onto-then-is_some-via-else-is_some+then-is_truth}
use Rattle.list_lemmas.proofs.Lists.{length-mapped}
use Rattle.list_lemmas.proofs.Places.{get-mapped}
use Rattle.subsume.proofs.placing.+place.Goals as goal

pub place-returns-then-is_some-clause-found : goal.place-returns-then-is_some-clause-found
place-returns-then-is_some-clause-found t c =
    let ls : List TreeLiteral = map lent_of c.args.patterns.now in
    let l : TreeLiteral = lent_of c.index-patterns-chosen.result in
    let rest : List TreeLiteral = map lent_of c.as_slice-rest.result.now in
    let ds = map lent_of c.args.targets.now in
    let perm : IsPermutation ls (l ∷ rest) =
    taken-out c.args.patterns.now c.as_slice-rest.result.now c.in-Some.chosen c.index-patterns-chosen.result (rw c.in-Some.is at c.in_ok-chosen.ensures)
    c.index-patterns-chosen.is (c.as_slice-rest.ensures.value ∙ c.in_ok-others.ensures) in
    let some : is_some c.in_ok-found.found ≡ true = search rules in
    let free : get_or c.loop-at.used c.loop-at.at false ≡ false = search rules in
    let used = c.loop-at.invariant.0 in
    found-in-order ls (l ∷ rest) ds c.args.used.now c.args.so_far c.in_ok-found.found perm
    (subst (λ us. IsFoundFor (l ∷ rest) ds (Places us (l ∷ rest) ds c.args.so_far) c.in_ok-found.found) used
    (place-target rest ds c.loop-at.at c.loop-at.used c.args.so_far l (lent_of c.index-targets-at.result) c.in_ok-found.found
    (get-mapped lent_of c.args.targets.now c.loop-at.at c.index-targets-at.result c.loop-at-test.true c.index-targets-at.is)
    (free-unmarked c.loop-at.used c.loop-at.at (omega arith) free) some c.in_ok-found.ensures.found))

pub place-returns-then-is_some-clause-below : goal.place-returns-then-is_some-clause-below
place-returns-then-is_some-clause-below t c = λ count all so.
    let ls : List TreeLiteral = map lent_of c.args.patterns.now in
    let l : TreeLiteral = lent_of c.index-patterns-chosen.result in
    let rest : List TreeLiteral = map lent_of c.as_slice-rest.result.now in
    let perm : IsPermutation ls (l ∷ rest) =
    taken-out c.args.patterns.now c.as_slice-rest.result.now c.in-Some.chosen c.index-patterns-chosen.result (rw c.in-Some.is at c.in_ok-chosen.ensures)
    c.index-patterns-chosen.is (c.as_slice-rest.ensures.value ∙ c.in_ok-others.ensures) in
    let both : All (LiteralVariablesBelow count) (l ∷ rest) = All-permutation (LiteralVariablesBelow count) ls (l ∷ rest) perm all in
    c.in_ok-found.ensures.below count (All-head (LiteralVariablesBelow count) l rest both) (All-tail (LiteralVariablesBelow count) l rest both) so

pub place-returns-then-is_some-clause-function_terms : goal.place-returns-then-is_some-clause-function_terms
place-returns-then-is_some-clause-function_terms t c = λ p wl wd so.
    let ls : List TreeLiteral = map lent_of c.args.patterns.now in
    let l : TreeLiteral = lent_of c.index-patterns-chosen.result in
    let rest : List TreeLiteral = map lent_of c.as_slice-rest.result.now in
    let ds = map lent_of c.args.targets.now in
    let perm : IsPermutation ls (l ∷ rest) =
    taken-out c.args.patterns.now c.as_slice-rest.result.now c.in-Some.chosen c.index-patterns-chosen.result (rw c.in-Some.is at c.in_ok-chosen.ensures)
    c.index-patterns-chosen.is (c.as_slice-rest.ensures.value ∙ c.in_ok-others.ensures) in
    let both = and_parts (is_literal p l) (list_all (is_literal p) rest) (literals-permutation p ls (l ∷ rest) perm wl) in
    c.in_ok-found.ensures.function_terms p both.1 wd both.0
    (list_all-item (is_literal p) ds c.loop-at.at (lent_of c.index-targets-at.result)
    (get-mapped lent_of c.args.targets.now c.loop-at.at c.index-targets-at.result c.loop-at-test.true c.index-targets-at.is) wd)
    so

pub place-loop-at-preserved : goal.place-loop-at-preserved
place-loop-at-preserved t c =
    let l : TreeLiteral = lent_of c.index-patterns-chosen.result in
    let rest : List TreeLiteral = map lent_of c.as_slice-rest.result.now in
    let ds = map lent_of c.args.targets.now in
    let there : slice_get ds c.loop-at.at ≡ Some (lent_of c.index-targets-at.result) =
    get-mapped lent_of c.args.targets.now c.loop-at.at c.index-targets-at.result c.loop-at-test.true c.index-targets-at.is in
    let before : StandsAtNone l rest ds c.loop-at.used c.args.so_far c.loop-at.at = c.loop-at.invariant.1 in
    let used = c.loop-at.invariant.0 in
    let m = lent_of c.index-targets-at.result in
    elim c.if-not-used-at.branch [
      | place-then-not-used-at+then-are_alike+in_ok-found+else-is_some w ↦
          let none : is_some w.in_ok-found.found ≡ false = search rules in
          let free : get_or c.loop-at.used c.loop-at.at false ≡ false = search rules in
          let within : c.loop-at.at < length c.loop-at.used = omega arith in
          let marks : w.place_onto.new.used ≡ slice_set c.loop-at.used c.loop-at.at true =
          marks-kept w.in_ok-found.found _ _ none w.in_ok-found.ensures.marks in
          let back : c.if-not-used-at.used ≡ c.loop-at.used = w.used-is ∙ ap (λ us. slice_set us c.loop-at.at false) marks ∙ set-back c.loop-at.used c.loop-at.at within free in (
            back ∙ used,
            subst (λ us. StandsAtNone l rest ds us c.args.so_far (c.loop-at.at + 1)) (sym back)
                (none-found rest ds c.loop-at.at c.loop-at.used c.args.so_far l m w.in_ok-found.found there none w.in_ok-found.ensures.found before),
          )
      | place-else-not-used-at w ↦
          let same : c.if-not-used-at.used ≡ c.loop-at.used = w.used-is in (
            same ∙ used,
            subst (λ us. StandsAtNone l rest ds us c.args.so_far (c.loop-at.at + 1)) (sym same)
                (elim w.else-not-used-at.branch [
                  | place-else-not-used-at-via-then-not-used-at+else-are_alike w' ↦
                      let unlike : are_alike l m ≡ false = search rules in
                      none-alike rest ds c.loop-at.at c.loop-at.used c.args.so_far l m there unlike before
                  | place-else-not-used-at-via-else-not-used-at w' ↦
                      let taken : get_or c.loop-at.used c.loop-at.at false ≡ true = search rules in
                      none-free rest ds c.loop-at.at c.loop-at.used c.args.so_far l m there (taken-marked c.loop-at.used c.loop-at.at (omega arith) taken) before
                ]),
          )
    ]

pub place-returns-clause-found : goal.place-returns-clause-found
place-returns-clause-found t c =
    let ls : List TreeLiteral = map lent_of c.args.patterns.now in
    let l : TreeLiteral = lent_of c.index-patterns-chosen.result in
    let rest : List TreeLiteral = map lent_of c.as_slice-rest.result.now in
    let ds = map lent_of c.args.targets.now in
    let perm : IsPermutation ls (l ∷ rest) =
    taken-out c.args.patterns.now c.as_slice-rest.result.now c.in-Some.chosen c.index-patterns-chosen.result (rw c.in-Some.is at c.in_ok-chosen.ensures)
    c.index-patterns-chosen.is (c.as_slice-rest.ensures.value ∙ c.in_ok-others.ensures) in
    let all : c.loop-at.at ≡ length ds = omega (arith, length-mapped lent_of c.args.targets.now) in
    found-in-order ls (l ∷ rest) ds c.args.used.now c.args.so_far None perm
    (nowhere rest ds c.loop-at.at c.args.used.now c.args.so_far l all
    (subst (λ us. StandsAtNone l rest ds us c.args.so_far c.loop-at.at) c.loop-at.invariant.0 c.loop-at.invariant.1))

pub place_onto-returns-then-is_some-clause-found : goal.place_onto-returns-then-is_some-clause-found
place_onto-returns-then-is_some-clause-found t c =
    let ends : (is_some c.in_ok-found.found ≡ true) ⊎ (Rattle.fol_base.specs.Tree.is_truth (lent_of c.args.target).right ≡ true) =
    elim c.then-is_some.branch [
      | place_onto-then-is_some-via-then-is_some w ↦ inl (search rules)
      | place_onto-then-is_some-via-else-is_some+then-is_truth w ↦ inr (search rules)
    ] in
    onto-first (lent_of c.args.pattern ∷ map lent_of c.args.rest.now) (map lent_of c.args.targets.now) (lent_of c.args.pattern) (lent_of c.args.target)
    (Places c.args.used.now (map lent_of c.args.rest.now) (map lent_of c.args.targets.now) c.args.so_far.now)
    c.in_ok-found.found c.requires.alike ends c.in_ok-found.ensures.found

pub place_onto-returns-then-is_some-clause-function_terms : goal.place_onto-returns-then-is_some-clause-function_terms
place_onto-returns-then-is_some-clause-function_terms t c = λ p wl wd hl hm so.
    let kind = one_kind p (lent_of c.args.pattern) (lent_of c.args.target) hl hm c.requires.alike in
    c.in_ok-found.ensures.function_terms p wl wd kind.left kind.right so

pub place_onto-returns-clause-found : goal.place_onto-returns-clause-found
place_onto-returns-clause-found t c =
    let rest = map lent_of c.args.rest.now in
    let ls = lent_of c.args.pattern ∷ rest in
    let ds = map lent_of c.args.targets.now in
    let none : is_some c.in_ok-found.found ≡ false = search rules in
    let marks : c.place_sides.new.used ≡ c.args.used.now = marks-kept c.in_ok-found.found _ _ none c.in_ok-found.ensures.marks in
    IfOk-weaker c.place_sides-2.result _ _
    (λ found h.
    onto-second ls ds (lent_of c.args.pattern) (lent_of c.args.target) (Places c.args.used.now rest ds c.args.so_far.now) c.in_ok-found.found
    found c.requires.alike none c.in_ok-found.ensures.found
    (subst (λ us. IsFoundFor ls ds (λ σ. TurnsInto σ (lent_of c.args.pattern) (exchanged (lent_of c.args.target)) × Places us rest ds c.args.so_far.now σ) found) marks
    (subst (λ m. IsFoundFor ls ds (λ σ. TurnsInto σ (lent_of c.args.pattern) m × Places c.place_sides.new.used rest ds c.args.so_far.now σ) found) c.exchanged.ensures h)))
    c.place_sides-2.ensures.found

pub place_onto-returns-clause-function_terms : goal.place_onto-returns-clause-function_terms
place_onto-returns-clause-function_terms t c =
    IfOk-weaker c.place_sides-2.result _ _
    (λ found h. λ p wl wd hl hm so.
    let kind = one_kind p (lent_of c.args.pattern) (lent_of c.args.target) hl hm c.requires.alike in
    h p wl wd
    (subst (λ (m : TreeLiteral). IsTrue (are_of_one_kind p (lent_of c.args.pattern).left m.left)) (sym c.exchanged.ensures) kind.left_right)
    (subst (λ (m : TreeLiteral). IsTrue (are_of_one_kind p (lent_of c.args.pattern).right m.right)) (sym c.exchanged.ensures) kind.right_left) so)
    c.place_sides-2.ensures.function_terms

pub place_sides-returns-in-Some-clause-found : goal.place_sides-returns-in-Some-clause-found
place_sides-returns-in-Some-clause-found t c =
    IfOk-weaker c.place.result _ _
    (λ found h.
    sides-then (map lent_of c.args.rest.now) (map lent_of c.args.targets.now) c.args.used.now c.args.so_far.now c.in-Some.pairs (lent_of c.args.pattern)
    (lent_of c.args.target) found (rw c.in-Some.is at c.in_ok-match_sides.ensures.found) h)
    c.place.ensures.found
