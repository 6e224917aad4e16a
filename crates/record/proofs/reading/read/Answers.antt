use Rattle.std.proofs.Common.{rules}
use Rattle.record.proofs.Limits.{hour_read, serial_read}
use Rattle.record.proofs.reading.read.Goals as goal

pub returns-in_err-hour : goal.returns-in_err-hour
returns-in_err-hour c = let hour = hour_read c.args.bytes.now c.read_value.result c.read_value.ensures in search rules

pub returns-in_err-serial : goal.returns-in_err-serial
returns-in_err-serial c =
    let hour = hour_read c.args.bytes.now c.read_value.result c.read_value.ensures in
    let serial = serial_read c.args.bytes.now c.read_value-2.result c.read_value-2.ensures in
    search rules

pub returns-in_err-named : goal.returns-in_err-named
returns-in_err-named c =
    let hour = hour_read c.args.bytes.now c.read_value.result c.read_value.ensures in
    let serial = serial_read c.args.bytes.now c.read_value-2.result c.read_value-2.ensures in
    search rules

pub returns-in_err-content : goal.returns-in_err-content
returns-in_err-content c =
    let hour = hour_read c.args.bytes.now c.read_value.result c.read_value.ensures in
    let serial = serial_read c.args.bytes.now c.read_value-2.result c.read_value-2.ensures in
    let terms = rw c.in_ok-named.ensures.same at c.in_err-content.ensures.terms in
    search rules

pub returns : goal.returns
returns c =
    let hour = hour_read c.args.bytes.now c.read_value.result c.read_value.ensures in
    let serial = serial_read c.args.bytes.now c.read_value-2.result c.read_value-2.ensures in
    let version = rw c.in_ok-named.ensures.same at c.in_ok-content.ensures.version in
    let terms = rw c.in_ok-named.ensures.same at c.in_ok-content.ensures.terms in
    search rules
