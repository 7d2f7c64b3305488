use Rattle.std.proofs.Common.{◌≡◌, ◌-◌, length}
use Rattle.tstp_checker.specs.Lines.{setting_in, taken_in, IsReady}
use Rattle.tstp_checker.proofs.AboutDerivations.CheckLemmas.{AreTakenTo}
use Rattle.tstp_checker.proofs.derivation.check_lines.Given as goal

abbrev pub invariant-loop-next : goal.invariant-loop-next
invariant-loop-next l =
    record {
      ready : IsReady l.lines;
      setting : setting_in l.lines ≡ setting_in l.fn.lines;
      taken : AreTakenTo l.text (setting_in l.fn.lines) l.next (taken_in l.lines);
    }

abbrev pub decreases-loop-next : goal.decreases-loop-next
decreases-loop-next l = length l.lexed.tokens - l.next
