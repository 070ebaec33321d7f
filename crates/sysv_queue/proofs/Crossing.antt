-- A slot and its results may be sent to another thread, and threads may share them.
use denote.Param.Send.{IsSend, IsSync, sendable, view_send, view_sync}
use denote.Param.SendFields.{declared_send, declared_sync, as_row_send, as_row_sync}
use Rattle.std.proofs.Crossing.{Box-send, Box-sync, crosses}
use Rattle.std.proofs.option.Option.TheSendSync as options
use Rattle.slab.specs.contracts.Slab as slab
use Rattle.std.specs.contracts.impls.GlobalAllocator.TheImpl.{ghosts}
use Rattle.slab.specs.contracts.Entry as slab_entry
use Rattle.std.specs.contracts.alloc.Global as heap
use Rattle.sysv_messages.specs.contracts.head.Head as head
use Rattle.sysv_model.proofs.attributes.Attributes.TheSendSync as attributes
use Rattle.sysv_pool.proofs.blocks.Block.TheLaws.TheKnot as knot
use Rattle.sysv_pool.specs.contracts.blocks.Block as block
use Rattle.sysv_pool.specs.contracts.chain.Chain as chain
use Rattle.sysv_messages.specs.contracts.index.Index as index
use Rattle.sysv_messages.specs.contracts.messages.Messages as messages
use Rattle.sysv_queue.specs.contracts.slot.QueueSlot as slot

pub block_send : IsSend block.the_row
block_send = knot.send-Block (search sendable) (λ h s. options.the_send _ (Box-send h s))

pub block_sync : IsSync block.the_row
block_sync = knot.sync-Block (search sendable) (λ h s. options.the_sync _ (Box-sync h s))

pub ruleset crossing = (
  sendable,
  crosses,
  options.the_send,
  options.the_field_send,
  options.the_sync,
  options.the_field_sync,
  declared_send,
  declared_sync,
  as_row_send,
  as_row_sync,
)

pub chain_send : IsSend chain.the_row
chain_send = search (crossing, block_send) depth 20

pub chain_sync : IsSync chain.the_row
chain_sync = search (crossing, block_sync) depth 20

pub index_send : IsSend index.the_row
index_send = search crossing depth 30

pub index_sync : IsSync index.the_row
index_sync = search crossing depth 30

head_send : IsSend head.the_row
head_send = search crossing depth 20

head_sync : IsSync head.the_row
head_sync = search crossing depth 20

entry_send : IsSend (slab_entry.the_row head.the_row)
entry_send = search (crossing, head_send) depth 30

entry_sync : IsSync (slab_entry.the_row head.the_row)
entry_sync = search (crossing, head_sync) depth 30

heads_send : IsSend (slab.the_row head.the_row heap.the_row ghosts)
heads_send = search (crossing, entry_send) depth 30

heads_sync : IsSync (slab.the_row head.the_row heap.the_row ghosts)
heads_sync = search (crossing, entry_sync) depth 30

pub messages_send : IsSend messages.the_row
messages_send = search (crossing, heads_send, chain_send, index_send) depth 30

pub messages_sync : IsSync messages.the_row
messages_sync = search (crossing, heads_sync, chain_sync, index_sync) depth 30

pub queue_send : IsSend slot.the_row
queue_send = search (crossing, messages_send, attributes.the_send) depth 30

pub queue_sync : IsSync slot.the_row
queue_sync = search (crossing, messages_sync, attributes.the_sync) depth 30
