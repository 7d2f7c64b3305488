use Rattle.std.proofs.Common.{◌≡◌, drop}
use Rattle.tptp_tree.specs.Entries.{role_among}
use Rattle.tptp_tree.proofs.role.role_among.Given as goal

abbrev pub invariant-loop-role : goal.invariant-loop-role
invariant-loop-role l = role_among (drop l.role-index l.roles) l.word ≡ role_among l.roles l.word
