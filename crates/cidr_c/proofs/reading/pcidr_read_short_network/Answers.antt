use Rattle.cidr.specs.either.IpText.{ReadsAny, ReadsIpNetwork}
use Rattle.cidr.specs.texts.AddressText.{Reads}
use Rattle.cidr.specs.texts.Messages.{ip_error}
use Rattle.cidr.specs.texts.ShortText.{IsShortIpText, ReadsShort}
use Rattle.cidr.specs.declared.errors.NetworkParseError.TheVariants as parse_error
use Rattle.cidr_c.specs.model.Codes.{parse_code}
use Rattle.cidr_c.specs.model.Values.{IsNetworkValue, network_in}
use Rattle.cidr_c.proofs.Readings.{read_error, read_value}
use Rattle.cidr_c.proofs.reading.pcidr_read_short_network.Goals as goal

pub returns-in-Err : goal.returns-in-Err
returns-in-Err c =
    let told = c.in-Ok.ensures.cases in
    read_error (ReadsAny (ReadsShort (Reads IsShortIpText (parse_error.AddrParseError ip_error)) ReadsIpNetwork)) parse_code IsNetworkValue network_in
    c.args.text.now c.in-Ok.text.now told.1 told.0 c.args.out.now c.in-Err.e c.parse_code.result c.parse_code.ensures.value
    c.parse_code.ensures.above c.in-Err.ensures

pub returns-in-Ok-parse_short_any_ip_cidr : goal.returns-in-Ok-parse_short_any_ip_cidr
returns-in-Ok-parse_short_any_ip_cidr c =
    let told = c.in-Ok.ensures.cases in
    read_value (ReadsAny (ReadsShort (Reads IsShortIpText (parse_error.AddrParseError ip_error)) ReadsIpNetwork)) parse_code IsNetworkValue network_in
    c.args.text.now c.in-Ok.text.now told.1 told.0 c.args.out.now _ c.in-Ok-parse_short_any_ip_cidr.network
    c.put_network.ensures.is_network c.put_network.ensures.network c.in-Ok-parse_short_any_ip_cidr.ensures
