use Rattle.std.proofs.Common.{arith, rules, ◌≡◌, ◌<◌, ◌+◌, ◌*◌, ◌++◌, ◌∷◌, [], length, ap, refl, map, ◌∙◌}
use Rattle.std.proofs.lemmas.List.{length_push}
use Rattle.fol_base.specs.Tree.{tree_size, trees_size, trees_of}
use Rattle.fol_base.specs.Term.{tree_of}
use Rattle.fol_base.proofs.AboutTerms.TermLemmas.{tree_size-item}
use Rattle.superpose.proofs.AboutLists.ListLemmas.{popped}
use Rattle.superpose.proofs.AboutSites.SiteLemmas.{arguments_more}
use Rattle.superpose.proofs.places.+push_places.Goals as goal

pub push_argument_places-push_places-requires : goal.push_argument_places-push_places-requires
push_argument_places-push_places-requires t c =
    let smaller : 2 * tree_size (tree_of c.index-terms-index.result) < 2 * trees_size (trees_of (map tree_of c.args.terms.now)) + 1 =
    omega (arith, tree_size-item c.args.terms.now (map tree_of c.args.terms.now) _ _ refl c.loop-index-test.true c.index-terms-index.is) in
    search rules

pub push_argument_places-loop-index-preserved : goal.push_argument_places-loop-index-preserved
push_argument_places-loop-index-preserved t c =
    let grown = c.in_ok-push.ensures.items ∙ ap (λ p. p ++ c.loop-index.index ∷ []) c.loop-index.invariant.path in
    let whole = c.in_ok-push_places.ensures.path ∙ grown in
    let many : length c.push_places.new.path.items ≡ length (c.args.path.now.items ++ c.loop-index.index ∷ []) = ap length whole in
    record {
      path =
          popped c.args.path.now.items c.push_places.new.path.items c.pop.new.self.items c.loop-index.index c.pop.result
          whole c.pop.ensures.items
          (c.pop.ensures.variant.1 (omega (arith, many, length_push c.args.path.now.items c.loop-index.index, c.push_places.new.path.ok.0)));
      found =
          arguments_more c.args.at c.args.path.now.items c.push.new.self.items c.args.terms.now c.loop-index.index c.index-terms-index.result
          c.args.found.now.items c.loop-index.found.items c.push_places.new.found.items c.loop-index-test.true c.index-terms-index.is grown
          c.loop-index.invariant.found c.in_ok-push_places.ensures.found;
    }
