-- What of this crate may cross threads.
use denote.Param.Send.{IsSend, IsSync, sendable, view_send, view_sync}
use denote.Param.SendFields.{declared_send, declared_sync}
use Rattle.std.proofs.Crossing.{Vec-send, Vec-sync, Arc-send, Arc-sync}
use Rattle.std.proofs.MapsCrossing as maps
use Rattle.std.specs.contracts.alloc.Global as Heap
use Rattle.std.specs.contracts.impls.GlobalAllocator.TheImpl.{ghosts}
use Rattle.std.specs.contracts.sync.ArcStr as ArcStr
use Rattle.feel_value.proofs.size.Size.TheSendSync as size
use Rattle.feel_value.proofs.value.ValueContext.TheLaws.TheKnot as knot
use Rattle.feel_value.specs.contracts.value.Value as Value
use Rattle.feel_value.specs.contracts.feel.Feel as Feel
use Rattle.feel_value.specs.contracts.feel.Feel.TheInside as FeelInside

pub Text-send : IsSend (ArcStr.the_row Heap.the_row ghosts)
Text-send = search (maps.String-send, maps.String-sync, Arc-send, sendable) depth 20

pub Text-sync : IsSync (ArcStr.the_row Heap.the_row ghosts)
Text-sync = search (maps.String-send, maps.String-sync, Arc-sync, sendable) depth 20

pub Value-send : IsSend Value.the_row
Value-send = search (Text-send, Text-sync, Vec-send, Vec-sync, Arc-send, Arc-sync, size.the_field_send, knot.crosses, sendable) depth 60 fits 200000

pub Value-sync : IsSync Value.the_row
Value-sync = search (Text-send, Text-sync, Vec-send, Vec-sync, Arc-send, Arc-sync, size.the_field_sync, knot.crosses, sendable) depth 60 fits 200000

pub FeelInside-send : IsSend FeelInside.the_row
FeelInside-send = declared_send FeelInside.the_type (Value-send, tt)

pub Feel-send : IsSend Feel.the_row
Feel-send = view_send _ _ _ _ _ FeelInside-send

pub FeelInside-sync : IsSync FeelInside.the_row
FeelInside-sync = declared_sync FeelInside.the_type (Value-sync, tt)

pub Feel-sync : IsSync Feel.the_row
Feel-sync = view_sync _ _ _ _ _ FeelInside-sync
