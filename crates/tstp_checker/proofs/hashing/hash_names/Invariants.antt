use Rattle.std.proofs.Common.{◌≡◌, drop, fold}
use Rattle.tptp_tree.specs.Codes.{text_terms}
use Rattle.tstp_checker.specs.Hashing.{terms_writes}
use Rattle.tstp_checker.proofs.hashing.hash_names.Given as goal

abbrev pub invariant-loop-name : goal.invariant-loop-name
invariant-loop-name g l =
    fold g.H.Hasher.write l.state (terms_writes (text_terms (drop l.name-index l.names)))
    ≡ fold g.H.Hasher.write l.initial.state (terms_writes (text_terms l.names))
