use Rattle.std.proofs.Common.{ap, arith, ◌∙◌}
use Rattle.std.specs.List.{list_any}
use Rattle.signature.specs.Symbol.{is_named}
use Rattle.signature.proofs.SignatureLemmas.{new-symbol}
use Rattle.signature.proofs.signature.Signature.add_numbered.Goals as goal

pub add-requires : goal.add-requires
add-requires c = record {
  new =
      new-symbol c.args.self.now (record { kind = c.args.kind; name = c.in_ok-numbered_name.field-0; arity = c.args.arity })
      (ap (λ name. list_any (is_named name) c.args.self.now) c.in_ok-numbered_name.ensures
      ∙ c.requires.unused c.args.number (omega arith) (omega (arith, c.ranges.number.fits)));
}
