-- Workers, the lock of a pool and the bank may cross threads. Each lemma is of one type, from those of its fields: at the whole of a type the search
-- stops at its bounds.
use denote.Param.Send.{IsSend, IsSync, sendable, struct_send, enum_send, recorded_send, recorded_sync, struct_sync}
use denote.Struct.Declared as struct
use denote.Struct.Struct.{Struct}
use denote.Enum.Declared as enum
use denote.Enum.Enum.{Enum}
use Rattle.std.proofs.vec.Vec.TheSendSync.{the_send as vec-send, the_sync as vec-sync}
use Rattle.std.proofs.alloc.Global.TheSendSync.{the_send as global-send, the_sync as global-sync}
use Rattle.std.proofs.rt.Memory.TheSendSync.{the_send as memory-send, the_sync as memory-sync}
use Rattle.std.proofs.Crossing.{crosses as std-cross}
use Rattle.plain_types.proofs.sequence.Sequence.TheSendSync.{the_send as sequence-send}
use Rattle.plain_types.proofs.sequence.NameLit.TheSendSync.{the_send as name-send}
use Rattle.fol_base.proofs.term.Terms.TheLaws.TheKnot.{crosses as terms-cross}
use Rattle.fol_base.proofs.clause.Side.TheSendSync.{the_field_send as side-field}
use Rattle.kernel_steps.proofs.key.Key.TheSendSync.{the_send as key-send, the_field_send as key-field}
use Rattle.pool_history.proofs.batch.Redundancy.TheSendSync.{the_field_send as redundancy-field}
use Rattle.sat_core.proofs.answer.Chain.TheSendSync.{the_send as chain-send}
use Rattle.std.proofs.collections.BTreeMap.TheSendSync.{the_send as map-send}
use Rattle.std.proofs.hash.BuildHasherDefault.TheSendSync.{the_send as hasher-send}
use Rattle.std.proofs.hash.FoldHasher.TheSendSync.{the_send as fold-send}
use Rattle.indexmap.proofs.map.IndexMap.TheSendSync.{the_send as index-send}
use Rattle.indexmap.proofs.set.IndexSet.TheSendSync.{the_send as set-send}
use Rattle.clause_queue.proofs.tree.Tree.TheLaws.TheKnot.{crosses as queue-cross}
use Rattle.clause_queue.proofs.tree.Entry.TheSendSync.{the_send as waiting-send}
use Rattle.sat_core.proofs.buffer.PropClauseBuffer.TheSendSync.{the_send as proposed-send}
use Rattle.pool_core.below.clause_register.proofs.register.Register.TheSendSync.{the_send as register-send}
use Rattle.pool_core.proofs.pool.Note.TheSendSync.{the_send as note-send}
use Rattle.pool_core.proofs.pool.OutJob.TheSendSync.{the_send as out-send}
use Rattle.pool_core.proofs.pool.SolverOut.TheSendSync.{the_send as solver-send}
use Rattle.pool_core.proofs.tag_index.TagIndex.TheSendSync.{the_send as tags-send}
use Rattle.pool_history.proofs.options.Options.TheSendSync.{the_field_send as options-field}
use Rattle.pool_history.proofs.outcome.Outcome.TheSendSync.{the_send as outcome-send}
use Rattle.term_bank.proofs.table.Table.TheSendSync.{the_send as table-send}
use Rattle.disc_tree.proofs.label.Label.TheSendSync.{the_send as label-send}
use Rattle.disc_tree.proofs.node.Node.TheLaws.TheKnot.{crosses as discs-cross}
use Rattle.literal_selection.proofs.choice.Selection.TheSendSync.{the_field_send as selection-field}
use Rattle.partners.proofs.partners.Partner.TheSendSync.{the_send as partner-send}
use Rattle.rewriting.proofs.units.Unit.TheSendSync.{the_send as unit-send}
use Rattle.bank_clause.proofs.member.Member.TheSendSync.{the_send as member-send}
use Rattle.subsume.proofs.tree.FeatureTree.TheLaws.TheKnot.{crosses as features-cross}
use Rattle.subsume.proofs.entry.Entry.TheSendSync.{the_send as kept-send}
use Rattle.subsume.proofs.vector.Features.TheSendSync.{the_send as features-send}
use Rattle.turn_lock.proofs.pass.Pass.TheSendSync.{the_send as pass-send}
use Rattle.turn_lock.proofs.lock.TurnLock.TheSendSync.{the_sync as turn_lock-sync}
use Rattle.bank_clause.below.boxcar.proofs.slot.OnceSlot.TheSendSync.{the_send as slot-send, the_sync as slot-sync}
use Rattle.bank_clause.below.boxcar.proofs.slot.Written.TheSendSync.{the_sync as written-sync}
use Rattle.term_bank.specs.contracts.bank.Bank as bank
use Rattle.term_bank.specs.contracts.bank.Bank.TheInside as bank-inside
use Rattle.turn_lock.specs.contracts.lock.TurnLock as turn_lock
use Rattle.pool_core.specs.contracts.historied.PoolHistoried.TheImpl.{ghosts}
use Rattle.fol_base.specs.contracts.clause.Literal as literal
use Rattle.fol_base.specs.contracts.clause.Clause as clause
use Rattle.kernel_steps.specs.contracts.step.Step as step
use Rattle.kernel_steps.specs.contracts.step.Line as line
use Rattle.pool_history.specs.contracts.batch.Fate as fate
use Rattle.pool_history.specs.contracts.batch.Entry as entry
use Rattle.pool_history.specs.contracts.batch.Removal as removal
use Rattle.pool_history.specs.contracts.batch.Work as work
use Rattle.pool_history.specs.contracts.batch.Batch as batch
use Rattle.pool_history.specs.contracts.event.Event as event
use Rattle.pool_core.specs.contracts.history.History as history
use Rattle.pool_core.specs.contracts.counted_keys.CountedKeys as keys
use Rattle.clause_queue.specs.contracts.queue.Queue as queue
use Rattle.clause_queue.specs.contracts.queue.Queue.TheInside as queue-inside
use Rattle.pool_core.specs.contracts.ready_queue.ReadyQueue as ready
use Rattle.pool_core.specs.contracts.ready_queue.ReadyQueue.TheInside as ready-inside
use Rattle.split_parts.specs.contracts.key.PartKey as part
use Rattle.split_parts.specs.contracts.tags.NameTable as named
use Rattle.split_parts.specs.contracts.tags.NameTable.TheInside as named-inside
use Rattle.pool_core.specs.contracts.splits.Splits as splits
use Rattle.pool_core.specs.contracts.pool.ProofState as state
use Rattle.pool_core.specs.contracts.pool.Pool as pool
use Rattle.pool_core.specs.contracts.pool.Pool.TheInside as pool-inside
use Rattle.disc_tree.specs.contracts.entry.Entry as stored
use Rattle.disc_tree.specs.contracts.entry.Entry.TheInside as stored-inside
use Rattle.disc_tree.specs.contracts.sorted.SortedEntries as sorted
use Rattle.disc_tree.specs.contracts.sorted.SortedEntries.TheInside as sorted-inside
use Rattle.disc_tree.specs.contracts.tail.Tail as tail
use Rattle.disc_tree.specs.contracts.tree.DiscTree as discs
use Rattle.disc_tree.specs.contracts.tree.DiscTree.TheInside as discs-inside
use Rattle.partners.specs.contracts.partners.Partners as partners
use Rattle.partners.specs.contracts.partners.Partners.TheInside as partners-inside
use Rattle.rewriting.specs.contracts.units.Units as units
use Rattle.rewriting.specs.contracts.units.Units.TheInside as units-inside
use Rattle.unit_cutting.specs.contracts.index.UnitIndex as cutting
use Rattle.unit_cutting.specs.contracts.index.UnitIndex.TheInside as cutting-inside
use Rattle.subsume.specs.contracts.parted.PartedMembers as parted
use Rattle.subsume.specs.contracts.parted.PartedMembers.TheInside as parted-inside
use Rattle.subsume.specs.contracts.subsumers.Subsumers as subsumers
use Rattle.subsume.specs.contracts.subsumers.Subsumers.TheInside as subsumers-inside
use Rattle.given_work.specs.contracts.store.Store as store
use Rattle.given_work.specs.contracts.sets.Sets as sets
use Rattle.given_work.specs.contracts.index.Index as known
use Rattle.given_work.specs.contracts.index.Index.TheInside as known-inside
use Rattle.worker_team.specs.contracts.solving.LastModel as last
use Rattle.worker_team.specs.contracts.worker.Knowledge as knowledge
use Rattle.worker_team.specs.contracts.worker.Worker as worker

-- what nearly every type is made of
pub ruleset base = (sendable, terms-cross, std-cross, vec-send, vec-sync, global-send, global-sync, memory-send, memory-sync)

pub literal-field : IsSend literal.the_field.row
literal-field = struct_send (struct.shape literal.the_type) (search base, (search base, (search base, tt)))

pub literal-send : IsSend literal.the_row
literal-send = let T = literal.the_type in recorded_send (Struct (struct.shape T)) T.D T.to T.to_one literal-field

pub clause-field : IsSend clause.the_field.row
clause-field = struct_send (struct.shape clause.the_type) (search (base, sequence-send, literal-send) depth 12, (search (base, sequence-send, name-send) depth 12, tt))

pub clause-send : IsSend clause.the_row
clause-send = let T = clause.the_type in recorded_send (Struct (struct.shape T)) T.D T.to T.to_one clause-field

pub step-field : IsSend step.the_field.row
step-field = enum_send (enum.shape step.the_type) ((search base, tt), ((search base, tt), ((search base, tt), ((search base, (search base, (search base, (search (base, side-field) depth 12, (search base, (search (base, side-field) depth 12, (search (base, sequence-send) depth 12, (search base, (search base, tt))))))))), ((search base, (search base, (search base, tt))), ((search base, (search base, (search (base, side-field) depth 12, (search base, (search (base, side-field) depth 12, (search base, tt)))))), ((search base, (search base, (search base, (search base, tt)))), ((search base, tt), ((search base, tt), ((search base, (search (base, sequence-send) depth 12, (search (base, sequence-send) depth 12, tt))), ((search (base, sequence-send) depth 12, (search (base, sequence-send, name-send) depth 12, tt)), tt)))))))))))

pub step-send : IsSend step.the_row
step-send = let T = step.the_type in recorded_send (Enum (enum.shape T)) T.D T.to T.to_one step-field

pub line-field : IsSend line.the_field.row
line-field = struct_send (struct.shape line.the_type) (search (base, step-field) depth 12, (search (base, clause-field) depth 12, tt))

pub line-send : IsSend line.the_row
line-send = let T = line.the_type in recorded_send (Struct (struct.shape T)) T.D T.to T.to_one line-field

pub fate-field : IsSend fate.the_field.row
fate-field = enum_send (enum.shape fate.the_type) ((search (base, sequence-send, line-send) depth 12, (search (base, sequence-send, clause-send) depth 12, tt)), ((search (base, redundancy-field) depth 12, tt), (tt, tt)))

pub fate-send : IsSend fate.the_row
fate-send = let T = fate.the_type in recorded_send (Enum (enum.shape T)) T.D T.to T.to_one fate-field

pub entry-field : IsSend entry.the_field.row
entry-field = struct_send (struct.shape entry.the_type) (search (base, key-field) depth 12, (search (base, fate-field) depth 12, tt))

pub entry-send : IsSend entry.the_row
entry-send = let T = entry.the_type in recorded_send (Struct (struct.shape T)) T.D T.to T.to_one entry-field

pub removal-field : IsSend removal.the_field.row
removal-field = struct_send (struct.shape removal.the_type) (search base, (search (base, sequence-send) depth 12, (search (base, fate-field) depth 12, tt)))

pub removal-send : IsSend removal.the_row
removal-send = let T = removal.the_type in recorded_send (Struct (struct.shape T)) T.D T.to T.to_one removal-field

pub work-field : IsSend work.the_field.row
work-field = enum_send (enum.shape work.the_type) ((search (base, removal-field) depth 12, tt), ((search (base, sequence-send, entry-send) depth 12, (search (base, sequence-send, removal-send) depth 12, tt)), tt))

pub work-send : IsSend work.the_row
work-send = let T = work.the_type in recorded_send (Enum (enum.shape T)) T.D T.to T.to_one work-field

pub batch-field : IsSend batch.the_field.row
batch-field = struct_send (struct.shape batch.the_type) (search base, (search (base, work-field) depth 12, tt))

pub batch-send : IsSend batch.the_row
batch-send = let T = batch.the_type in recorded_send (Struct (struct.shape T)) T.D T.to T.to_one batch-field

pub event-field : IsSend event.the_field.row
event-field = enum_send (enum.shape event.the_type) ((search base, tt), ((search (base, batch-field) depth 12, tt), ((search base, (search base, tt)), ((search base, tt), ((search base, tt), ((search base, (search (base, sequence-send) depth 12, tt)), ((search base, (search (base, sequence-send, chain-send) depth 12, tt)), ((search base, tt), tt))))))))

pub event-send : IsSend event.the_row
event-send = let T = event.the_type in recorded_send (Enum (enum.shape T)) T.D T.to T.to_one event-field

pub history-field : IsSend history.the_field.row
history-field = struct_send (struct.shape history.the_type) (search base, tt)

pub history-send : IsSend history.the_row
history-send = let T = history.the_type in recorded_send (Struct (struct.shape T)) T.D T.to T.to_one history-field

pub keys-field : IsSend keys.the_field.row
keys-field = struct_send (struct.shape keys.the_type) (search base, tt)

pub keys-send : IsSend keys.the_row
keys-send = let T = keys.the_type in recorded_send (Struct (struct.shape T)) T.D T.to T.to_one keys-field

queue-within : IsSend queue-inside.the_row
queue-within = let T = queue-inside.the_type in recorded_send (Struct (struct.shape T)) T.D T.to T.to_one (struct_send (struct.shape queue-inside.the_type) (search (base, queue-cross, waiting-send) depth 12, (search base, (search (base, queue-cross, waiting-send) depth 12, (search base, tt)))))

pub queue-send : IsSend queue.the_row
queue-send = search (sendable, queue-within) depth 12

ready-within : IsSend ready-inside.the_row
ready-within = let T = ready-inside.the_type in recorded_send (Struct (struct.shape T)) T.D T.to T.to_one (struct_send (struct.shape ready-inside.the_type) (search (base, queue-send) depth 12, (search base, tt)))

pub ready-send : IsSend ready.the_row
ready-send = search (sendable, ready-within) depth 12

pub part-field : IsSend part.the_field.row
part-field = struct_send (struct.shape part.the_type) (search (base, sequence-send, literal-send) depth 12, tt)

pub part-send : IsSend part.the_row
part-send = let T = part.the_type in recorded_send (Struct (struct.shape T)) T.D T.to T.to_one part-field

named-within : IsSend named-inside.the_row
named-within = let T = named-inside.the_type in recorded_send (Struct (struct.shape T)) T.D T.to T.to_one (struct_send (struct.shape named-inside.the_type) (search (base, set-send, part-send, hasher-send, fold-send) depth 12, (search (base, name-send) depth 12, (search base, tt))))

pub named-send : IsSend named.the_row
named-send = search (sendable, named-within) depth 12

pub splits-field : IsSend splits.the_field.row
splits-field = struct_send (struct.shape splits.the_type) (search (base, named-send) depth 12, (search base, (search base, (search (base, proposed-send) depth 12, (search base, (search (base, sequence-send) depth 12, (search base, tt)))))))

pub splits-send : IsSend splits.the_row
splits-send = let T = splits.the_type in recorded_send (Struct (struct.shape T)) T.D T.to T.to_one splits-field

pub state-field : IsSend state.the_field.row
state-field = struct_send (struct.shape state.the_type) (search (base, register-send) depth 12, (search (base, ready-send) depth 12, (search (base, note-send) depth 12, (search (base, step-send) depth 12, (search (base, outcome-send) depth 12, (search (base, splits-field) depth 12, (search (base, tags-send) depth 12, tt)))))))

pub state-send : IsSend state.the_row
state-send = let T = state.the_type in recorded_send (Struct (struct.shape T)) T.D T.to T.to_one state-field

pool-within : IsSend pool-inside.the_row
pool-within = let T = pool-inside.the_type in recorded_send (Struct (struct.shape T)) T.D T.to T.to_one (struct_send (struct.shape pool-inside.the_type) (search base, (search (base, options-field) depth 12, (search (base, table-send) depth 12, (search (base, state-field) depth 12, (search base, (search (base, map-send, out-send) depth 12, (search (base, solver-send) depth 12, (search (base, history-field) depth 12, (search base, (search (base, keys-field) depth 12, (search (base, key-send) depth 12, (search base, (search base, tt))))))))))))))

pub pool-send : IsSend pool.the_row
pool-send = search (sendable, pool-within) depth 12

stored-within : IsSend stored-inside.the_row
stored-within = let T = stored-inside.the_type in recorded_send (Struct (struct.shape T)) T.D T.to T.to_one (struct_send (struct.shape stored-inside.the_type) (search base, (search base, (search base, tt))))

pub stored-send : IsSend stored.the_row
stored-send = search (sendable, stored-within) depth 12

sorted-within : IsSend sorted-inside.the_row
sorted-within = let T = sorted-inside.the_type in recorded_send (Struct (struct.shape T)) T.D T.to T.to_one (struct_send (struct.shape sorted-inside.the_type) (search (base, stored-send) depth 12, tt))

pub sorted-send : IsSend sorted.the_row
sorted-send = search (sendable, sorted-within) depth 12

pub tail-field : IsSend tail.the_field.row
tail-field = struct_send (struct.shape tail.the_type) (search (base, label-send) depth 12, (search (base, sorted-send) depth 12, tt))

pub tail-send : IsSend tail.the_row
tail-send = let T = tail.the_type in recorded_send (Struct (struct.shape T)) T.D T.to T.to_one tail-field

discs-within : IsSend discs-inside.the_row
discs-within = let T = discs-inside.the_type in recorded_send (Struct (struct.shape T)) T.D T.to T.to_one (struct_send (struct.shape discs-inside.the_type) (search base, (search (base, discs-cross, label-send, sorted-send, tail-send) depth 12, tt)))

pub discs-send : IsSend discs.the_row
discs-send = search (sendable, discs-within) depth 12

partners-within : IsSend partners-inside.the_row
partners-within = let T = partners-inside.the_type in recorded_send (Struct (struct.shape T)) T.D T.to T.to_one (struct_send (struct.shape partners-inside.the_type) (search base, (search (base, selection-field) depth 12, (search (base, index-send, partner-send, hasher-send, fold-send) depth 12, (search (base, discs-send) depth 12, (search (base, discs-send) depth 12, tt))))))

pub partners-send : IsSend partners.the_row
partners-send = search (sendable, partners-within) depth 12

units-within : IsSend units-inside.the_row
units-within = let T = units-inside.the_type in recorded_send (Struct (struct.shape T)) T.D T.to T.to_one (struct_send (struct.shape units-inside.the_type) (search base, (search (base, index-send, unit-send, hasher-send, fold-send) depth 12, (search (base, discs-send) depth 12, tt))))

pub units-send : IsSend units.the_row
units-send = search (sendable, units-within) depth 12

cutting-within : IsSend cutting-inside.the_row
cutting-within = let T = cutting-inside.the_type in recorded_send (Struct (struct.shape T)) T.D T.to T.to_one (struct_send (struct.shape cutting-inside.the_type) (search (base, index-send, member-send, hasher-send, fold-send) depth 12, (search (base, discs-send) depth 12, tt)))

pub cutting-send : IsSend cutting.the_row
cutting-send = search (sendable, cutting-within) depth 12

parted-within : IsSend parted-inside.the_row
parted-within = let T = parted-inside.the_type in recorded_send (Struct (struct.shape T)) T.D T.to T.to_one (struct_send (struct.shape parted-inside.the_type) (search (base, features-cross, kept-send) depth 12, (search (base, features-cross, kept-send) depth 12, tt)))

parted-send : IsSend parted.the_row
parted-send = search (sendable, parted-within) depth 12

subsumers-within : IsSend subsumers-inside.the_row
subsumers-within = let T = subsumers-inside.the_type in recorded_send (Struct (struct.shape T)) T.D T.to T.to_one (struct_send (struct.shape subsumers-inside.the_type) (search base, (search (base, parted-send) depth 12, (search (base, index-send, features-send, hasher-send, fold-send) depth 12, tt))))

pub subsumers-send : IsSend subsumers.the_row
subsumers-send = search (sendable, subsumers-within) depth 12

pub store-field : IsSend store.the_field.row
store-field = struct_send (struct.shape store.the_type) (search (base, member-send) depth 12, (search (base, partners-send) depth 12, (search (base, discs-send) depth 12, tt)))

pub store-send : IsSend store.the_row
store-send = let T = store.the_type in recorded_send (Struct (struct.shape T)) T.D T.to T.to_one store-field

pub sets-field : IsSend sets.the_field.row
sets-field = struct_send (struct.shape sets.the_type) (search (base, units-send) depth 12, (search (base, cutting-send) depth 12, (search (base, subsumers-send) depth 12, tt)))

pub sets-send : IsSend sets.the_row
sets-send = let T = sets.the_type in recorded_send (Struct (struct.shape T)) T.D T.to T.to_one sets-field

known-within : IsSend known-inside.the_row
known-within = let T = known-inside.the_type in recorded_send (Struct (struct.shape T)) T.D T.to T.to_one (struct_send (struct.shape known-inside.the_type) (search (base, options-field) depth 12, (search base, (search (base, store-send) depth 12, (search (base, sets-send) depth 12, tt)))))

pub known-send : IsSend known.the_row
known-send = search (sendable, known-within) depth 12

pub last-field : IsSend last.the_field.row
last-field = struct_send (struct.shape last.the_type) (search (base, sequence-send) depth 12, (search base, tt))

pub last-send : IsSend last.the_row
last-send = let T = last.the_type in recorded_send (Struct (struct.shape T)) T.D T.to T.to_one last-field

pub knowledge-field : IsSend knowledge.the_field.row
knowledge-field = struct_send (struct.shape knowledge.the_type) (search (base, known-send) depth 12, (search (base, last-field) depth 12, tt))

pub knowledge-send : IsSend knowledge.the_row
knowledge-send = let T = knowledge.the_type in recorded_send (Struct (struct.shape T)) T.D T.to T.to_one knowledge-field

pub worker-field : IsSend worker.the_field.row
worker-field = struct_send (struct.shape worker.the_type) (search base, (search (base, pass-send, pool-send) depth 12, (search (base, knowledge-send) depth 12, (search base, tt))))

pub worker-send : IsSend worker.the_row
worker-send = let T = worker.the_type in recorded_send (Struct (struct.shape T)) T.D T.to T.to_one worker-field

bank-within : IsSync bank-inside.the_row
bank-within =
    let T = bank-inside.the_type in
    recorded_sync (Struct (struct.shape T)) T.D T.to T.to_one
    (struct_sync (struct.shape bank-inside.the_type)
    (search (base, slot-send, slot-sync) depth 20, (search (base, written-sync) depth 12, (search base depth 12, tt))))

-- the bank, which all threads read
pub bank-sync : IsSync bank.the_row
bank-sync = search (sendable, bank-within) depth 12

-- the lock of a pool
pub lock-sync : IsSync (turn_lock.the_row pool.the_row event.the_row pool.the_row ghosts)
lock-sync = turn_lock-sync pool.the_row event.the_row pool.the_row ghosts pool-send
