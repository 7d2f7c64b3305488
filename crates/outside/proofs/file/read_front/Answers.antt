use Rattle.std.proofs.Common.{arith, ap, MutBor}
use Rattle.outside.proofs.Front.{front_read}
use Rattle.outside.proofs.file.read_front.Goals as goal

pub returns : goal.returns
returns g c =
    let buffer = c.read_to_end.new.buf in
    let small = buffer.small in
    let full = buffer.ok in
    front_read (g.R.Read.remaining c.args.reader.now) _ _ c.args.limit _ buffer.items (ap (λ (r : MutBor g.row.R.Denot). g.R.Read.remaining r.now) c.take.ensures.inner) c.new-bytes.ensures.items (omega (arith, small, full)) (omega (arith, c.saturating_add-most.ensures, c.take.ensures.limit)) c.in_ok-read_to_end.ensures.bytes
