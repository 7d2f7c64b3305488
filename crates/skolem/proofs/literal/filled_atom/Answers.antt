use Rattle.std.proofs.Common.{map}
use Rattle.signature.specs.declared.symbol.SymbolKind.TheVariants.{Predicate}
use Rattle.skolem.specs.BoundTerm.{bound_tree}
use Rattle.skolem.proofs.AboutBindings.TermLemmas.{head-known}
use Rattle.skolem.proofs.AboutFormulas.LiteralLemmas.{head-filled}
use Rattle.skolem.proofs.literal.filled_atom.Goals as goal

pub number_in-requires : goal.number_in-requires
number_in-requires c =
    record {
      known =
          head-known c.args.signature.now Predicate c.args.name.now _ c.args.arguments.now _ c.as_slice.ensures c.as_slice-terms.ensures c.requires.known;
    }

pub returns : goal.returns
returns c =
    head-filled c.args.signature.now Predicate c.args.name.now _ c.args.arguments.now _ _ _ c.in_ok-filled.filled (map bound_tree c.args.bound.now)
    c.as_slice.ensures c.as_slice-terms.ensures c.as_slice-terms.ensures c.in_ok-number.ensures c.in_ok-filled.ensures.trees
