use Rattle.std.proofs.Common.{arith, refl}
use Rattle.herbrand_list.proofs.AboutRefuting.NodeLemmas.{grown-none}
use Rattle.herbrand_list.proofs.AboutRefuting.GroundingLemmas.{atom-pushed}
use Rattle.herbrand_list.proofs.grounding.Grounding.name.Goals as goal

pub returns-in-Some : goal.returns-in-Some
returns-in-Some c = record {
  within = c.in-Some.ensures.within;
  equation = c.in-Some.ensures.equation;
  nodes = refl;
  equations = grown-none c.args.self.now.atoms.items;
  atoms = c.requires.atoms;
}

pub returns : goal.returns
returns c =
    let pushed =
    atom-pushed c.args.self.now.terms.nodes.items c.args.self.now.atoms.items c.push.new.self.items c.args.equation c.len-name.result
    c.requires.atoms c.requires.between (omega arith) (omega arith) c.in_ok-push.ensures.items in
    record { within = pushed.0; equation = pushed.1; nodes = refl; equations = pushed.2; atoms = pushed.3 }
