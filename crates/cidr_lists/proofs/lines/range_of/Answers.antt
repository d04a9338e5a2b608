use Rattle.cidr.specs.declared.addr.ip.IpAddr.TheVariants.{V4, V6}
use Rattle.cidr_lists.proofs.lines.range_of.Goals as goal

pub returns-in-V4-last : goal.returns-in-V4-last
returns-in-V4-last c = rw (c.in-V4.is, c.in-V4-last.is) c.ipv4_range.ensures

pub returns-in-V6-last-2 : goal.returns-in-V6-last-2
returns-in-V6-last-2 c = rw (c.in-V6.is, c.in-V6-last-2.is) c.ipv6_range.ensures

pub returns-in-V6-last : goal.returns-in-V6-last
returns-in-V6-last c = rw (c.in-V4.is, c.in-V6-last.is) (λ bits ends. (V4 _, V6 _, ends, (λ same. cc), c.excerpt.ensures.text))

pub returns-in-V4-last-2 : goal.returns-in-V4-last-2
returns-in-V4-last-2 c = rw (c.in-V6.is, c.in-V4-last-2.is) (λ bits ends. (V6 _, V4 _, ends, (λ same. cc), c.excerpt-in-V4-last-2.ensures.text))
