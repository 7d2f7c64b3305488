use Rattle.std.proofs.Common.{map, nat_eq, ap, arith}
use Rattle.std.specs.Map.{lookup}
use Rattle.std.proofs.lemmas.List.{length-map}
use Rattle.fol_base.specs.Literal.{literal_of}
use Rattle.split_parts.proofs.AboutParts.ForestLemmas.{joined-first, joined-all}
use Rattle.split_parts.proofs.parts.linked.Goals as goal

pub loop-place-init : goal.loop-place-init
loop-place-init c =
    record {
      len = c.in_ok-links.ensures.len;
      falls = λ j h. omega (arith, c.in_ok-links.ensures.own j (omega (arith, h, c.in_ok-links.ensures.len)));
      joined =
          joined-first (map literal_of c.args.literals.now) c.in_ok-links.links.items c.new-places.result
          (λ j h. c.in_ok-links.ensures.own j (omega (arith, h, c.in_ok-links.ensures.len)))
          (λ v. ap (λ es. lookup (nat_eq v) es) c.new-places.ensures.empty);
    }

pub returns-clause-linked : goal.returns-clause-linked
returns-clause-linked c =
    joined-all (map literal_of c.args.literals.now) c.loop-place.place c.loop-place.links.items c.loop-place.places c.loop-place.invariant.joined
    (omega (arith, length-map c.args.literals.now literal_of))
