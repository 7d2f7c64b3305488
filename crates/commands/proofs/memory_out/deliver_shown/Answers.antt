use Rattle.std.proofs.Common.{refl, ◌∙◌, arith}
use Rattle.commands.proofs.AboutPages.DeliveryLemmas.{handed_on, rose_since, none_taken, one_more, cut_at, pieces-handed_on, pieces-none, pieces-byte, pieces-byte_cut}
use Rattle.commands.proofs.memory_out.deliver_shown.Goals as goal

pub loop-byte-init : goal.loop-byte-init
loop-byte-init g c = record { taken = none_taken _; stays = refl; writes = pieces-none g.S.Sink.gives c.args.sink.now }

pub loop-byte-preserved : goal.loop-byte-preserved
loop-byte-preserved g c = record {
  taken = one_more _ _ _ c.args.bytes.now c.loop-byte.byte-index _ c.loop-byte.invariant.taken c.shown_byte.ensures (omega arith) c.in_ok-deliver.ensures.whole;
  stays = c.in_ok-deliver.ensures.stays ∙ c.loop-byte.invariant.stays;
  writes =
      pieces-byte g.S.Sink.gives _ _ _ c.args.bytes.now c.loop-byte.byte-index _ c.shown_byte.ensures (omega arith) c.loop-byte.invariant.writes
      c.in_ok-deliver.ensures.writes;
}

pub returns-in_err-deliver-clause-taken : goal.returns-in_err-deliver-clause-taken
returns-in_err-deliver-clause-taken g c =
    handed_on _ _ c.from_residual.result _ c.from_residual.ensures.1 (
      rose_since _ _ _ c.loop-byte.invariant.stays c.in_err-deliver.ensures.cause,
      cut_at _ _ _ c.args.bytes.now c.loop-byte.byte-index _ c.loop-byte.invariant.taken c.shown_byte.ensures (omega arith) c.in_err-deliver.ensures.prefix,
    )

pub returns-in_err-deliver-clause-writes : goal.returns-in_err-deliver-clause-writes
returns-in_err-deliver-clause-writes g c =
    pieces-handed_on g.S.Sink.gives _ _ _ c.from_residual.result _ c.from_residual.ensures.1
    (pieces-byte_cut g.S.Sink.gives _ _ _ c.args.bytes.now c.loop-byte.byte-index _ _ c.shown_byte.ensures (omega arith) c.loop-byte.invariant.writes
    c.in_err-deliver.ensures.writes)
