use Rattle.cidr.specs.either.IpText.{ReadsIpHost}
use Rattle.cidr_c.specs.model.Codes.{parse_code}
use Rattle.cidr_c.specs.model.Values.{IsHostValue, host_in}
use Rattle.cidr_c.proofs.Readings.{read_error}
use Rattle.cidr_c.proofs.reading.pcidr_read_host.Goals as goal

pub returns-in-Err : goal.returns-in-Err
returns-in-Err c =
    let told = c.in-Ok.ensures.cases in
    read_error ReadsIpHost parse_code IsHostValue host_in c.args.text.now c.in-Ok.text.now told.1 told.0 c.args.out.now c.in-Err.e c.parse_code.result
    c.parse_code.ensures.value c.parse_code.ensures.above c.in-Err.ensures
