use Rattle.std.proofs.Common.{◌∙◌, ◌&&◌, ◌+◌, sym, ap, drop, true, get_or}
use Rattle.std.specs.Prelude.{nat_eq}
use Rattle.std.proofs.lemmas.List.{drop_all}
use Rattle.desk_checking.specs.Domains.{has_empty_part}
use Rattle.desk_checking.proofs.EmptyParts.{byte_on, empty_along, empty_is, ends_here, goes_on}
use Rattle.desk_checking.proofs.domains.has_empty_part.Goals as goal

pub loop-byte-init : goal.loop-byte-init
loop-byte-init c = sym (empty_is c.args.path.now) ∙ ap (empty_along true) (sym c.as_bytes-bytes.ensures.value)

pub returns-then-ends_empty : goal.returns-then-ends_empty
returns-then-ends_empty c =
    let bytes = c.as_bytes-bytes.result.now in
    let i = c.loop-byte.byte-index in
    let byte = get_or bytes i 0 in
    ends_here (has_empty_part c.args.path.now) (nat_eq byte 46 && c.loop-byte.is_empty) (empty_along (nat_eq byte 46) (drop (i + 1) bytes))
    (byte_on (has_empty_part c.args.path.now) c.loop-byte.is_empty bytes i c.loop-byte.invariant c.loop-byte-test.true) (sym c.ends_empty.ensures ∙ c.if-ends_empty.true)

pub loop-byte-preserved : goal.loop-byte-preserved
loop-byte-preserved c =
    let bytes = c.as_bytes-bytes.result.now in
    let i = c.loop-byte.byte-index in
    let byte = get_or bytes i 0 in
    goes_on (has_empty_part c.args.path.now) (nat_eq byte 46 && c.loop-byte.is_empty) (empty_along (nat_eq byte 46) (drop (i + 1) bytes))
    (byte_on (has_empty_part c.args.path.now) c.loop-byte.is_empty bytes i c.loop-byte.invariant c.loop-byte-test.true) (sym c.ends_empty.ensures ∙ c.if-ends_empty.false)

pub returns : goal.returns
returns c = sym (c.loop-byte.invariant ∙ ap (empty_along c.loop-byte.is_empty) (drop_all c.loop-byte.byte-index c.as_bytes-bytes.result.now c.loop-byte-test.false))
