use Rattle.cidr.specs.either.IpText.{ReadsAnyNetwork}
use Rattle.cidr_c.specs.model.Codes.{parse_code}
use Rattle.cidr_c.specs.model.Values.{IsNetworkValue, network_in}
use Rattle.cidr_c.proofs.Readings.{read_error}
use Rattle.cidr_c.proofs.reading.pcidr_read_network.Goals as goal

pub returns-in-Err : goal.returns-in-Err
returns-in-Err c =
    let told = c.in-Ok.ensures.cases in
    read_error ReadsAnyNetwork parse_code IsNetworkValue network_in c.args.text.now c.in-Ok.text.now told.1 told.0 c.args.out.now c.in-Err.e
    c.parse_code.result c.parse_code.ensures.value c.parse_code.ensures.above c.in-Err.ensures
