use Rattle.skolem.specs.Progress.{environment_of}
use Rattle.skolem.proofs.AboutFormulas.LiteralLemmas.{literal-bound, literal-filled}
use Rattle.skolem.proofs.literal.MatrixLiteral.of_atom.Goals as goal

pub invariant_of-result : goal.invariant_of-result
invariant_of-result c =
    literal-bound _ (environment_of c.args.bindings.now) c.in_ok-bound.ensures.terms c.in_ok-bound.ensures.size c.requires.known

pub returns : goal.returns
returns c =
    literal-filled c.args.signature.now (environment_of c.args.bindings.now) c.args.positive c.args.atom _ c.in_ok-bound.ensures.terms
