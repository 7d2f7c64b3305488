use Rattle.std.proofs.Common.{◌∷◌, [], ap, ◌∙◌}
use Rattle.fol_base.specs.Term.{tree_of}
use Rattle.disc_tree.specs.Generalisations.{answers_of, generalisations}
use Rattle.disc_tree.specs.Reading.{matches_in}
use Rattle.disc_tree.specs.Rows.{rows}
use Rattle.disc_tree.proofs.AboutQueries.FirstLemmas.{first-same}
use Rattle.disc_tree.proofs.AboutQueries.ReadLemmas.{matches-answer}
use Rattle.disc_tree.proofs.tree.DiscTree.first_from.Goals as goal

pub returns : goal.returns
returns g c =
    first-same (answers_of (goal.F-post g c.args.test.now)) (matches_in [] (tree_of c.args.query.now ∷ []) (rows c.self.inside.root))
    (generalisations (tree_of c.args.query.now) c.args.self.now) c.first_in.result
    (matches-answer (tree_of c.args.query.now) (rows c.self.inside.root) c.self.invariant
    ∙ ap (generalisations (tree_of c.args.query.now)) c.self.view_is)
    c.first_in.ensures
