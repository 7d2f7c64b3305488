use Rattle.std.proofs.Common.{ℕ, ◌+◌, ◌*◌, ◌<◌, ◌++◌, ◌∷◌, [], List, arith, rules, refl, ap, ◌∙◌, subst, map}
use Rattle.std.specs.Prelude.{Option}
use Rattle.std.proofs.lemmas.Option.{slice_get_within}
use Rattle.fol_base.specs.Tree.{tree_size, trees_size, trees_of}
use Rattle.fol_base.specs.Term.{tree_of}
use Rattle.fol_base.specs.declared.limits.TheConstants.{SIZE_LIMIT}
use Rattle.fol_base.proofs.AboutTerms.TermLemmas.{tree_size-item, length-trees}
use Rattle.rewriting.specs.Redex.{inner}
use Rattle.rewriting.specs.Spots.{spot_of}
use Rattle.rewriting.specs.Searching.{IsFoundIn, IsFoundInSome, IsPlaced, usable_by}
use Rattle.rewriting.specs.declared.searching.Rewrite.{Rewrite}
use Rattle.rewriting.proofs.AboutSearches.SearchLemmas.{normal-anywhere, normal-inside, application-found, argument-found, variable-found, item-at, one-more-normal, popped}
use Rattle.rewriting.proofs.AboutSearches.TableLemmas.{kept-places}
use Rattle.rewriting.proofs.searching.Rewriters.+find_in_term.Goals as goal

pub find_in_term-returns-in-Some-clause-found : goal.find_in_term-returns-in-Some-clause-found
find_in_term-returns-in-Some-clause-found t c =
    argument-found (usable_by c.args.self.now) (spot_of c.args.spot) (tree_of c.args.term.now) c.in-App.field-0
    (map tree_of c.as_slice.result.now) c.in-App.arguments c.args.path.now.items c.find_in_terms.new.path.items c.in-Some.rewrite
    (ap tree_of c.in-App.is) c.as_slice.ensures
    (subst (λ (o : Option Rewrite). IsFoundInSome (usable_by c.args.self.now) (map tree_of c.as_slice.result.now) c.args.path.now.items c.find_in_terms.new.path.items o)
    c.in-Some.is c.in_ok-rewrite-in-App.ensures.found)

pub find_in_term-returns-in-Var-clause-found : goal.find_in_term-returns-in-Var-clause-found
find_in_term-returns-in-Var-clause-found t c =
    (refl, variable-found (usable_by c.args.self.now) (spot_of c.args.spot) (tree_of c.args.term.now) c.in-Var.field-0 (ap tree_of c.in-Var.is))

pub find_in_term-returns-in_ok-remember-in-App-clause-found : goal.find_in_term-returns-in_ok-remember-in-App-clause-found
find_in_term-returns-in_ok-remember-in-App-clause-found t c =
    application-found (usable_by c.args.self.now) (spot_of c.args.spot) (tree_of c.args.term.now) c.in-App.field-0
    (map tree_of c.as_slice.result.now) c.in-App.arguments c.args.path.now.items c.find_in_terms.new.path.items c.in_ok-rewrite-in-App-2.rewrite
    (ap tree_of c.in-App.is) c.as_slice.ensures
    (subst (λ (o : Option Rewrite). IsFoundInSome (usable_by c.args.self.now) (map tree_of c.as_slice.result.now) c.args.path.now.items c.find_in_terms.new.path.items o)
    c.in_default.is c.in_ok-rewrite-in-App.ensures.found)
    c.in_ok-rewrite-in-App-2.ensures.found

pub find_in_terms-find_in_term-requires : goal.find_in_terms-find_in_term-requires
find_in_terms-find_in_term-requires t c =
    let item = tree_size-item c.args.terms.now (map tree_of c.args.terms.now) c.loop-index.index c.index-terms-index.result refl c.loop-index-test.true c.index-terms-index.is in
    let smaller : 2 * tree_size (tree_of c.index-terms-index.result) < 2 * trees_size (trees_of (map tree_of c.args.terms.now)) + 1 = omega (arith, item) in
    let size : tree_size (tree_of c.index-terms-index.result) < SIZE_LIMIT = omega (arith, item, c.requires.size) in
    search rules

pub find_in_terms-returns-in-Some-clause-found : goal.find_in_terms-returns-in-Some-clause-found
find_in_terms-returns-in-Some-clause-found t c = (
  c.loop-index.index,
  tree_of c.index-terms-index.result,
  item-at c.args.terms.now c.loop-index.index c.index-terms-index.result c.loop-index-test.true c.index-terms-index.is,
  subst
      (λ (b : List ℕ). IsPlaced (usable_by c.args.self.now) inner (tree_of c.index-terms-index.result) b c.find_in_term.new.path.items c.in-Some.rewrite)
      (c.in_ok-push.ensures.items ∙ ap (λ (xs : List ℕ). xs ++ c.loop-index.index ∷ []) c.loop-index.invariant.path_kept)
      (subst (λ (o : Option Rewrite). IsFoundIn (usable_by c.args.self.now) inner (tree_of c.index-terms-index.result) c.push.new.self.items c.find_in_term.new.path.items o)
      c.in-Some.is
      (subst
      (λ s. IsFoundIn (usable_by c.args.self.now) s (tree_of c.index-terms-index.result) c.push.new.self.items c.find_in_term.new.path.items c.in_ok-rewrite.field-0)
      c.inner.ensures c.in_ok-rewrite.ensures.found)),
)

pub find_in_terms-loop-index-preserved : goal.find_in_terms-loop-index-preserved
find_in_terms-loop-index-preserved t c =
    let none =
    subst (λ (o : Option Rewrite). IsFoundIn (usable_by c.args.self.now) inner (tree_of c.index-terms-index.result) c.push.new.self.items c.find_in_term.new.path.items o)
    c.in_default.is
    (subst
    (λ s. IsFoundIn (usable_by c.args.self.now) s (tree_of c.index-terms-index.result) c.push.new.self.items c.find_in_term.new.path.items c.in_ok-rewrite.field-0)
    c.inner.ensures c.in_ok-rewrite.ensures.found) in
    record {
      path_kept =
          popped c.args.path.now.items c.push.new.self.items c.find_in_term.new.path.items c.pop.new.self.items c.loop-index.index _
          (c.in_ok-push.ensures.items ∙ ap (λ (xs : List ℕ). xs ++ c.loop-index.index ∷ []) c.loop-index.invariant.path_kept) none.0 c.find_in_term.new.path.ok.0 c.pop.ensures.rest;
      normal =
          one-more-normal (usable_by c.args.self.now) (map tree_of c.args.terms.now) c.loop-index.index (tree_of c.index-terms-index.result)
          (item-at c.args.terms.now c.loop-index.index c.index-terms-index.result c.loop-index-test.true c.index-terms-index.is)
          c.loop-index.invariant.normal none.1;
      remembers = c.find_in_term.ensures.remembers;
    }

pub find_in_terms-returns-clause-found : goal.find_in_terms-returns-clause-found
find_in_terms-returns-clause-found t c = (
  c.loop-index.invariant.path_kept,
  λ i u there.
      c.loop-index.invariant.normal i u
      (let low = slice_get_within (map tree_of c.args.terms.now) i u there in
      omega (arith, low, length-trees c.args.terms.now)) there,
)

pub find_in_term-returns-then-knows-clause-found : goal.find_in_term-returns-then-knows-clause-found
find_in_term-returns-then-knows-clause-found t c = (
  refl,
  normal-anywhere (usable_by c.args.self.now) (spot_of c.args.spot) (tree_of c.args.term.now)
      (c.requires.remembers (tree_of c.args.term.now) (c.knows.ensures c.if-knows.true)),
)

pub find_in_term-returns-in_ok-remember-in-App-clause-remembers : goal.find_in_term-returns-in_ok-remember-in-App-clause-remembers
find_in_term-returns-in_ok-remember-in-App-clause-remembers t c =
    c.remember.ensures (usable_by c.args.self.now)
    (kept-places (usable_by c.args.self.now) c.find_in_terms.new.normal c.rewrite_at.new.normal c.rewrite_at.ensures.terms c.find_in_terms.ensures.remembers)
    (λ none inside.
    normal-inside (usable_by c.args.self.now) (spot_of c.args.spot) (tree_of c.args.term.now) c.args.path.now.items c.find_in_terms.new.path.items
    c.in_ok-rewrite-in-App-2.rewrite
    (application-found (usable_by c.args.self.now) (spot_of c.args.spot) (tree_of c.args.term.now) c.in-App.field-0
    (map tree_of c.as_slice.result.now) c.in-App.arguments c.args.path.now.items c.find_in_terms.new.path.items c.in_ok-rewrite-in-App-2.rewrite
    (ap tree_of c.in-App.is) c.as_slice.ensures
    (subst (λ (o : Option Rewrite). IsFoundInSome (usable_by c.args.self.now) (map tree_of c.as_slice.result.now) c.args.path.now.items c.find_in_terms.new.path.items o)
    c.in_default.is c.in_ok-rewrite-in-App.ensures.found)
    c.in_ok-rewrite-in-App-2.ensures.found)
    none inside)

pub find_in_term-returns-in_err-remember-in-App-clause-remembers : goal.find_in_term-returns-in_err-remember-in-App-clause-remembers
find_in_term-returns-in_err-remember-in-App-clause-remembers t c =
    c.remember.ensures (usable_by c.args.self.now)
    (kept-places (usable_by c.args.self.now) c.find_in_terms.new.normal c.rewrite_at.new.normal c.rewrite_at.ensures.terms c.find_in_terms.ensures.remembers)
    (λ none inside.
    normal-inside (usable_by c.args.self.now) (spot_of c.args.spot) (tree_of c.args.term.now) c.args.path.now.items c.find_in_terms.new.path.items
    c.in_ok-rewrite-in-App-2.rewrite
    (application-found (usable_by c.args.self.now) (spot_of c.args.spot) (tree_of c.args.term.now) c.in-App.field-0
    (map tree_of c.as_slice.result.now) c.in-App.arguments c.args.path.now.items c.find_in_terms.new.path.items c.in_ok-rewrite-in-App-2.rewrite
    (ap tree_of c.in-App.is) c.as_slice.ensures
    (subst (λ (o : Option Rewrite). IsFoundInSome (usable_by c.args.self.now) (map tree_of c.as_slice.result.now) c.args.path.now.items c.find_in_terms.new.path.items o)
    c.in_default.is c.in_ok-rewrite-in-App.ensures.found)
    c.in_ok-rewrite-in-App-2.ensures.found)
    none inside)

pub find_in_term-returns-in_err-rewrite-in-App-2-clause-remembers : goal.find_in_term-returns-in_err-rewrite-in-App-2-clause-remembers
find_in_term-returns-in_err-rewrite-in-App-2-clause-remembers t c =
    kept-places (usable_by c.args.self.now) c.find_in_terms.new.normal c.rewrite_at.new.normal c.rewrite_at.ensures.terms c.find_in_terms.ensures.remembers
