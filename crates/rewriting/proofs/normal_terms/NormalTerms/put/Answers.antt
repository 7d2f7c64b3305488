use Rattle.std.proofs.Common.{refl}
use Rattle.fol_base.specs.Term.{tree_of}
use Rattle.rewriting.proofs.AboutSearches.TableLemmas.{put-remembers}
use Rattle.rewriting.proofs.normal_terms.NormalTerms.put.Goals as goal

pub returns : goal.returns
returns c = λ clauses normal here.
    put-remembers clauses c.make_places.new.self _ c.in-Some.at c.in_ok-copy.copy (tree_of c.args.term.now) refl c.in_ok-copy.ensures
    (λ t at. normal t (c.make_places.ensures t at)) here
