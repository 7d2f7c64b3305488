use Rattle.std.proofs.lemmas.Option.{same_Some}
use Rattle.std.proofs.Common.{◌∙◌}
use Rattle.fol_base.specs.Term.{tree_of}
use Rattle.partners.specs.Index.{site_number}
use Rattle.partners.proofs.IndexLemmas.{put-keeps, put-listed}
use Rattle.partners.proofs.index.put_site.Goals as goal

pub returns-in_ok-insert-clause-put : goal.returns-in_ok-insert-clause-put
returns-in_ok-insert-clause-put g c = λ t there.
    put-listed (tree_of c.in-Some.term.now) t c.site_number.result (site_number c.args.number c.args.index) c.args.tree.now c.insert.new.self
    (same_Some (tree_of c.in-Some.term.now) t (c.in-Some.ensures ∙ there)) c.site_number.ensures c.in_ok-insert.ensures.ok

pub returns-in_ok-insert-clause-kept : goal.returns-in_ok-insert-clause-kept
returns-in_ok-insert-clause-kept g c =
    put-keeps (tree_of c.in-Some.term.now, c.site_number.result) c.args.tree.now c.insert.new.self c.in_ok-insert.ensures.ok
