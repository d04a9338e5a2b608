-- Reading a host: each way out of the reader, by what reading the parts gave.
use Rattle.std.proofs.Common.{refl, sym, ◌∙◌}
use Rattle.std.proofs.lemmas.Result.{err_from_is_err_and}
use Rattle.cidr.specs.texts.AddressText.{address_error}
use Rattle.cidr.proofs.NetworkReading.{host_no_address, host_no_front, host_no_length, host_too_long}
use Rattle.cidr.proofs.inet.host.HostFromStr.from_str.Goals as goal

pub returns-in_err-read : goal.returns-in_err-read
returns-in_err-read g c =
    let family = g.A.AddressBits.FAMILY in
    let p = err_from_is_err_and c.from_residual.result c.from_residual.ensures.1 in
    rw (p.1, p.2) (host_no_address family (address_error family) c.args.s.now _ c.in_default.ensures c.in_err-read.ensures)

pub returns-in_err-address : goal.returns-in_err-address
returns-in_err-address g c =
    let family = g.A.AddressBits.FAMILY in
    let residual = c.from_residual-in_err-address in
    let p = err_from_is_err_and residual.result residual.ensures.1 in
    rw (p.1, p.2) (host_no_front family (address_error family) c.args.s.now _ _ _ c.in-Some.ensures c.in_err-address.ensures)

pub returns-in_err-len : goal.returns-in_err-len
returns-in_err-len g c =
    let family = g.A.AddressBits.FAMILY in
    let residual = c.from_residual-in_err-len in
    let p = err_from_is_err_and residual.result residual.ensures.1 in
    rw (p.1, p.2, c.in_err-len.ensures.0) (host_no_length family (address_error family) c.args.s.now _ _ _ (record {}) c.in-Some.ensures
    c.in_ok-address.ensures (refl, c.in_err-len.ensures.1))

pub returns-in_err-new : goal.returns-in_err-new
returns-in_err-new g c =
    let family = g.A.AddressBits.FAMILY in
    let residual = c.from_residual-in_err-new in
    let p = err_from_is_err_and residual.result residual.ensures.1 in
    rw (p.1, p.2) (host_too_long family (address_error family) c.args.s.now _ _ _ _ _ c.in-Some.ensures c.in_ok-address.ensures
    c.in_ok-len.ensures (sym c.new.ensures ∙ c.in_err-new.was))
