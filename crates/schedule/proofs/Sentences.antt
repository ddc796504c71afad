-- The statements of specs/Sentences.
use Rattle.schedule.specs.Sentences.{EveryTime, EverySpan, EveryRepeat, EveryConversion}
use Rattle.schedule.proofs.Jumps.{advanced_add, stores_add}
use Rattle.schedule.proofs.Spans.{repeated, stores_repeated}
use Rattle.schedule.proofs.Conversions.{tested, conversion}
use Rattle.schedule.proofs.Times.{in_time}

pub times_kept : EveryTime
times_kept plan apart effects n b = in_time plan apart effects b n

pub spans_join : EverySpan
spans_join plan effects n k s = record { scan = advanced_add plan effects n k s; stores = stores_add plan effects n k s }

pub spans_repeated : EveryRepeat
spans_repeated plan effects n j s back =
    record { scan = repeated plan effects n s back j; stores = stores_repeated plan effects n s back j }

pub conversions_join : EveryConversion
conversions_join plan effects left s running next =
    let k = conversion plan effects s left running (tested plan left s.timer next) in
    record { scan = k.scan; stores = k.stores }
