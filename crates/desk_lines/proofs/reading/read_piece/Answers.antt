use Rattle.std.proofs.Common.{◌≡◌, length, vec_len, arith}
use Rattle.std.proofs.lemmas.List.{with_items_is}
use Rattle.std.specs.Vec.{with_items}
use Rattle.desk_lines.proofs.Reaching.{consumes_kept, piece_comes, piece_taken}
use Rattle.desk_lines.proofs.reading.read_piece.Goals as goal

pub returns-in-Ok-clause-comes : goal.returns-in-Ok-clause-comes
returns-in-Ok-clause-comes g c =
    let buffer = c.args.piece.buffer in let bytes = c.read.new.buf in let n = c.in-Ok.n in
    let full : length bytes ≡ vec_len buffer = omega (arith, c.read.auto.buf, c.as_mut_slice.ensures.len) in
    piece_comes (g.D.Read.remaining c.args.device.now) (g.D.Read.remaining c.read.new.self) n bytes _
    (with_items_is buffer bytes full) c.in-Ok.ensures.bound.0 (omega (arith, c.in-Ok.n-test)) c.in-Ok.ensures.bytes.0

pub returns-in-Ok-clause-taken : goal.returns-in-Ok-clause-taken
returns-in-Ok-clause-taken g c =
    let buffer = c.args.piece.buffer in let bytes = c.read.new.buf in
    let full : length bytes ≡ vec_len buffer = omega (arith, c.read.auto.buf, c.as_mut_slice.ensures.len) in
    piece_taken (g.D.Read.remaining c.args.device.now) (g.D.Read.remaining c.read.new.self) c.in-Ok.n bytes _ (with_items_is buffer bytes full) c.in-Ok.ensures.bytes.0

pub returns-in-Err-clause-taken : goal.returns-in-Err-clause-taken
returns-in-Err-clause-taken g c = consumes_kept (g.D.Read.remaining c.args.device.now) (g.D.Read.remaining c.read.new.self) c.in-Err.ensures.bytes
