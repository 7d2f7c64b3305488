use Rattle.disc_tree.proofs.AboutChanges.TailEdits.{tail-with}
use Rattle.disc_tree.proofs.AboutQueries.FoundLemmas.{if_ok-map}
use Rattle.disc_tree.proofs.tail.Tail.put.Goals as goal

pub returns-clause-ok : goal.returns-clause-ok
returns-clause-ok c =
    if_ok-map c.put.result
    (λ w. tail-with c.args.self.now.labels.items c.args.entry c.args.self.now.entries c.put.new.self w) c.put.ensures.ok
