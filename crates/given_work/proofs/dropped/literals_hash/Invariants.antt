use Rattle.std.proofs.Common.{◌≡◌, map, drop}
use Rattle.fol_base.specs.Literal.{literal_of}
use Rattle.given_work.specs.Dropped.{literals_hash}
use Rattle.given_work.proofs.dropped.literals_hash.Given as goal

abbrev pub invariant-loop-index : goal.invariant-loop-index
invariant-loop-index l =
    literals_hash l.hash (map literal_of (drop l.index l.literals)) ≡ literals_hash 0 (map literal_of l.literals)
