use Rattle.std.proofs.Common.{◌++◌, ◌-◌, ap, ◌∙◌, arith}
use Rattle.std.specs.Option.{option_to_list}
use Rattle.tptp_reader.proofs.AboutReads.BoundLemmas.{counted-last, absent-not, counted-pop}
use Rattle.list_lemmas.proofs.Results.{ok-unless, when-ok}
use Rattle.tptp_reader.proofs.bound.Bound.pop.Goals as goal

pub overflow_sub-count : goal.overflow_sub-count
overflow_sub-count c =
    omega (
      arith,
      c.count_of-count.ensures,
      counted-last c.self.inside.names.items c.pop.new.self.items c.unwrap-name.result c.self.inside.behind (omega (arith, c.if-len-ge-SCANNED.true, c.len.ensures))
          (c.pop.ensures.items ∙ ap (λ o. c.pop.new.self.items ++ option_to_list o) c.unwrap-name.ensures) c.self.invariant,
    )

pub unwrap-requires : goal.unwrap-requires
unwrap-requires c =
    ok-unless c.insert-changed.result _ c.insert-changed.ensures.absent
    (absent-not c.self.inside.names.items c.pop.new.self.items c.unwrap-name.result c.self.inside.behind (omega (arith, c.if-len-ge-SCANNED.true, c.len.ensures))
    (c.pop.ensures.items ∙ ap (λ o. c.pop.new.self.items ++ option_to_list o) c.unwrap-name.ensures) c.self.invariant)

pub invariant_of-self : goal.invariant_of-self
invariant_of-self c =
    counted-pop c.self.inside.names.items c.pop.new.self.items c.unwrap-name.result c.self.inside.behind c.insert-changed.new.self (c.count_of-count.result - 1)
    (omega (arith, c.if-len-ge-SCANNED.true, c.len.ensures))
    (c.pop.ensures.items ∙ ap (λ o. c.pop.new.self.items ++ option_to_list o) c.unwrap-name.ensures) c.self.invariant
    (ap (λ n. n - 1) c.count_of-count.ensures)
    (when-ok c.insert-changed.result c.unwrap.result _ c.unwrap.ensures c.insert-changed.ensures.updates)
