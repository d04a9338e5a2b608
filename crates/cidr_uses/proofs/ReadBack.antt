-- A text that represents one host is parsed as it.
use Rattle.std.proofs.Common.{◌≡◌, ℕ, List, Result, Ok, Err, ap}
use Rattle.cidr.specs.either.IpAddress.{SpellsOne}
use Rattle.cidr.specs.model.Host.{Host}
use Rattle.cidr.specs.texts.HostText.{IsHostText, ReadsHost}
use Rattle.cidr.specs.declared.errors.NetworkParseError.{NetworkParseError}
use Rattle.cidr.specs.declared.family.Family.{Family}

pub host_read_back : (family : Family) (text : List ℕ) (h : Host) (r : Result Host NetworkParseError)
    → ReadsHost family text r → IsHostText family text h → SpellsOne (IsHostText family) → r ≡ Ok h
host_read_back family text h (Ok k) reads spells one = ap Ok (one text k h reads spells)
host_read_back family text h (Err e) reads spells one = absurd (reads.1 h spells)
