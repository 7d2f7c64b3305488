use Rattle.std.proofs.Common.{refl}
use Rattle.std.specs.Prelude.{bytes_eq}
use Rattle.std.proofs.lemmas.Cmp.{nat_list_eq_equiv}
use Rattle.tstp_lines.proofs.AboutReadings.TableLemmas.{added-number}
use Rattle.tstp_lines.proofs.names.NameTable.meet.Goals as goal

pub returns-in-None-clause-number : goal.returns-in-None-clause-number
returns-in-None-clause-number c =
    added-number bytes_eq c.add.result c.args.self.now c.add.new.self c.args.name.now _ _ refl refl (nat_list_eq_equiv.refl c.args.name.now)
    c.in-None.ensures.found c.add.ensures.added c.add.ensures.number
