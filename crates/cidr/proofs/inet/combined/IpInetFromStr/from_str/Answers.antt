-- Reading a host of either family: each way out of the reader.
use Rattle.std.proofs.Common.{refl, sym, ◌∙◌, inl, inr}
use Rattle.std.proofs.lemmas.Result.{err_from_is_err_and}
use Rattle.cidr.proofs.EitherReading.{ip_host_no_address, ip_host_no_length, ip_host_too_long}
use Rattle.cidr.proofs.inet.combined.IpInetFromStr.from_str.Goals as goal

pub returns-in_err-parse : goal.returns-in_err-parse
returns-in_err-parse c =
    let p = err_from_is_err_and c.from_residual.result c.from_residual.ensures.1 in
    rw (p.1, p.2) (ip_host_no_address c.args.s.now c.args.s.now _ (inl (c.in_default.ensures, refl)) c.in_err-parse.ensures.value)

pub returns-in_err-address : goal.returns-in_err-address
returns-in_err-address c =
    let residual = c.from_residual-in_err-address in
    let p = err_from_is_err_and residual.result residual.ensures.1 in
    rw (p.1, p.2) (ip_host_no_address c.args.s.now _ _ (inr (_, c.in-Some.ensures)) c.in_err-address.ensures.value)

pub returns-in_err-len : goal.returns-in_err-len
returns-in_err-len c =
    let residual = c.from_residual-in_err-len in
    let p = err_from_is_err_and residual.result residual.ensures.1 in
    rw (p.1, p.2, c.in_err-len.ensures.0) (ip_host_no_length c.args.s.now _ _ _ (record {}) c.in-Some.ensures c.in_ok-address.ensures.value
    (refl, c.in_err-len.ensures.1))

pub returns-in_err-new : goal.returns-in_err-new
returns-in_err-new c =
    let residual = c.from_residual-in_err-new in
    let p = err_from_is_err_and residual.result residual.ensures.1 in
    rw (p.1, p.2) (ip_host_too_long c.args.s.now _ _ _ _ _ c.in-Some.ensures c.in_ok-address.ensures.value c.in_ok-len.ensures
    (sym c.new.ensures ∙ c.in_err-new.was))
