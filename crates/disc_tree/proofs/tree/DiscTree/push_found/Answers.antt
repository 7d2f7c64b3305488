use Rattle.std.proofs.Common.{◌≤◌, ◌+◌, ◌*◌, ◌++◌, ℕ, Bool, List, refl, ap, subst, ◌∙◌}
use Rattle.fol_base.specs.Tree.{Tree}
use Rattle.fol_base.specs.Term.{tree_of}
use Rattle.fol_base.specs.Compatible.{compatible_by}
use Rattle.disc_tree.specs.Entries.{numbers_where}
use Rattle.disc_tree.specs.Rows.{rows}
use Rattle.disc_tree.specs.Prefixes.{compatible_prefixes}
use Rattle.disc_tree.proofs.AboutPaths.PrefixLemmas.{stays-counted}
use Rattle.disc_tree.proofs.AboutQueries.VisitLemmas.{visits-counted}
use Rattle.disc_tree.proofs.AboutQueries.FoundLemmas.{found-compatible, if_ok-map}
use Rattle.disc_tree.proofs.tree.DiscTree.push_found.Goals as goal

pub returns-clause-found : goal.returns-clause-found
returns-clause-found g c =
    let test : Tree → Bool = λ term. compatible_by c.args.varying.entry c.args.varying.query term (tree_of c.args.query.now) in
    if_ok-map c.collect.result
    (λ e. e ∙ ap (λ ns. c.args.found.now.items ++ ns)
    (found-compatible c.args.varying.entry c.args.varying.query (tree_of c.args.query.now) (rows c.self.inside.root) c.self.invariant
    ∙ ap (numbers_where test) c.self.view_is))
    c.collect.ensures.found

pub returns-clause-steps : goal.returns-clause-steps
returns-clause-steps g c ground =
    let query : Tree = tree_of c.args.query.now in
    subst (λ (es : List (Tree × ℕ)). c.collect.new.steps ≤ c.args.steps.now + 2 * compatible_prefixes query es) c.self.view_is
    (stays-counted query (rows c.self.inside.root) c.args.steps.now c.collect.new.steps c.self.invariant
    (c.collect.ensures.steps refl (ground, tt)))

pub returns-clause-visits : goal.returns-clause-visits
returns-clause-visits g c =
    if_ok-map c.collect.result
    (λ visits entry ground.
    let query : Tree = tree_of c.args.query.now in
    subst (λ (es : List (Tree × ℕ)). c.args.steps.now + compatible_prefixes query es ≤ c.collect.new.steps) c.self.view_is
    (visits-counted query (rows c.self.inside.root) c.args.steps.now c.collect.new.steps c.self.invariant
    (visits entry refl (ground, tt))))
    c.collect.ensures.visits
