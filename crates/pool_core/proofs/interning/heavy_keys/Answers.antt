use Rattle.std.proofs.Common.{List, Global, ap, ◌∙◌}
use Rattle.std.proofs.lemmas.List.{take_all}
use Rattle.kernel_steps.specs.declared.key.Key.{Key}
use Rattle.std.specs.declared.vec.Vec.{Vec}
use Rattle.pool_history.specs.Counting.{keys_of}
use Rattle.pool_history.specs.Returning.{heavy_entries}
use Rattle.pool_history.specs.declared.batch.Entry.{Entry}
use Rattle.pool_core.proofs.AboutReturns.InternedLemmas.{one-heavy, none-heavy}
use Rattle.pool_core.proofs.interning.heavy_keys.Goals as goal
use Rattle.pool_core.proofs.interning.heavy_keys.Goals.{in-Heavy+in_ok-copy+in_ok-push, in_default}

pub loop-entry-preserved : goal.loop-entry-preserved
loop-entry-preserved c =
    elim c.match-entry.branch [
      | in-Heavy+in_ok-copy+in_ok-push w ↦
          ap (λ (v : Vec Key Global). v.items) w.keys-is
          ∙ one-heavy c.args.entries.now c.loop-entry.entry-index c.entry-item.result c.loop-entry.keys.items w.push.new.self.items w.in_ok-copy.field-0
          c.loop-entry-test.true c.entry-item.is w.in-Heavy.is w.in_ok-copy.ensures c.loop-entry.invariant w.in_ok-push.ensures.items
      | in_default w ↦
          ap (λ (v : Vec Key Global). v.items) w.keys-is
          ∙ none-heavy c.args.entries.now c.loop-entry.entry-index c.entry-item.result c.loop-entry.keys.items c.loop-entry-test.true c.entry-item.is w.in_default.not-Heavy c.loop-entry.invariant
    ]

pub returns : goal.returns
returns c = c.loop-entry.invariant ∙ ap (λ (es : List Entry). keys_of (heavy_entries es)) (take_all c.loop-entry.entry-index c.args.entries.now c.loop-entry-test.false)
