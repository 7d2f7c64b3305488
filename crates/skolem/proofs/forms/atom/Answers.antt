use Rattle.tptp_tree.specs.Term.{terms_of}
use Rattle.skolem.specs.Progress.{environment_of, made_of}
use Rattle.skolem.proofs.AboutFormulas.FormLemmas.{atom-matrix}
use Rattle.list_lemmas.proofs.Results.{ok-then}
use Rattle.skolem.proofs.forms.atom.Goals as goal

pub returns : goal.returns
returns c =
    ok-then c.of_atom.result _ _
    (λ l h.
    atom-matrix c.args.signature.now c.args.positive c.args.name.now (terms_of c.args.arguments.now)
    (environment_of c.args.progress.now.bindings) (made_of c.args.progress.now) l h) c.of_atom.ensures
