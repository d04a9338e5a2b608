-- A text with no slash goes to the short reader, and one with a slash is read strictly.
use Rattle.cidr.proofs.ShortParsing.{short_ip_read}
use Rattle.cidr.proofs.parsers.short.parse_short_ip_cidr.Goals as goal

pub returns : goal.returns
returns c = short_ip_read c.args.s.now c.parse_cidr_full.result c.parse_cidr_full.ensures (λ t x h. h) (λ t r h. h)
