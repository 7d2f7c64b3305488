use Rattle.std.proofs.Common.{◌≡◌, length, refl, sym, ◌∙◌, subst, arith}
use Rattle.std.specs.Prelude.{Option, None, nat_le, option_to_list}
use Rattle.pool_core.specs.CountedList.{keys_in}
use Rattle.pool_history.specs.Counting.{lines_of_fate}
use Rattle.pool_core.specs.Demanded.{plus, total}
use Rattle.pool_core.specs.Placing.{IsInterned, IsResultOf, IsCountedStateOf, HasRoom}
use Rattle.pool_history.specs.Returning.{replaced}
use Rattle.pool_history.specs.declared.batch.Fate.{Fate}
use Rattle.pool_history.specs.declared.batch.Fate.TheVariants.{Kept}
use Rattle.pool_core.specs.declared.interning.Interned.{Interned}
use Rattle.pool_core.proofs.AboutReturns.ArrivalLemmas.{less-second, not-kept, replaced-other, room-for-less, one-replaced}
use Rattle.pool_core.proofs.AboutReturns.ProposedLemmas.{room-of-lone, room-of-some}
use Rattle.pool_core.proofs.pool.ProofState.replace.Goals as goal

pub returns-in_default : goal.returns-in_default
returns-in_default c =
    let none : lines_of_fate c.args.fate ≡ None = not-kept c.args.fate c.in_default.not-Kept in
    record {
      replaced = λ table r interned is.
          subst (IsCountedStateOf c.args.bank.now table c.args.self.now (keys_in c.args.counted.now))
          (sym (replaced-other c.args.options c.args.victim c.args.fate r none)) is;
      room = λ d deaths enough.
          room-for-less c.args.self.now d (plus (total (option_to_list c.args.interned)) d) deaths deaths
          (less-second (total (option_to_list c.args.interned)) d) (omega arith) enough;
      counted_len = omega arith;
      counted_room = refl;
      notes = refl;
    }

pub returns-clause-replaced : goal.returns-clause-replaced
returns-clause-replaced c = λ table r interned is.
    let one : IsInterned c.args.bank.now table c.args.options.split (length r.parts) c.in-Kept.lines c.in-Some.interned =
    subst (λ (o : Option Interned). IsResultOf c.args.bank.now table c.args.options.split (length r.parts) (Kept c.in-Kept.lines c.in-Kept.results) o) c.in-Some.is
    (subst (λ (f : Fate). IsResultOf c.args.bank.now table c.args.options.split (length r.parts) f c.args.interned) c.in-Kept.is interned) in
    let many : c.len.result ≡ length (keys_in c.push.new.self) = c.len.ensures in
    let again : c.len-2.result ≡ c.len.result = omega (arith, c.len.ensures, c.len-2.ensures) in
    subst (λ (f : Fate). IsCountedStateOf c.args.bank.now table c.spend.new.self (keys_in c.push.new.self) (replaced c.args.options c.args.victim f r)) (sym c.in-Kept.is)
    (one-replaced c.args.bank.now table c.args.options c.args.victim c.in-Kept.lines c.in-Kept.results (nat_le c.args.options.inferences c.len.result) c.len.result
    c.args.self.now c.arrive_counted.new.self c.spend.new.self (keys_in c.args.counted.now) (keys_in c.push.new.self) c.in-Some.interned r
    c.requires.open c.push.ensures.keys many refl one
    (λ s interned state. c.arrive_counted.ensures.arrived table c.args.options.split s interned state)
    (λ s count state. c.spend.ensures.spent c.args.bank.now table s (again ∙ count) state) is)

pub returns-clause-room : goal.returns-clause-room
returns-clause-room c = λ d deaths enough.
    c.spend.ensures.room d deaths
    (c.arrive_counted.ensures.room d deaths
    (room-of-some c.args.self.now c.in-Some.interned d deaths (subst (λ (o : Option Interned). HasRoom c.args.self.now (plus (total (option_to_list o)) d) deaths) c.in-Some.is enough)))

pub arrive_counted-requires-clause-room : goal.arrive_counted-requires-clause-room
arrive_counted-requires-clause-room c =
    room-of-lone c.args.self.now c.in-Some.interned
    (subst (λ (o : Option Interned). HasRoom c.args.self.now (total (option_to_list o)) 0) c.in-Some.is c.requires.room)
