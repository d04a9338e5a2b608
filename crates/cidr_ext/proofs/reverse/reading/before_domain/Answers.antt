use Rattle.std.proofs.Common.{◌≡◌, ◌≢◌, ◌≤◌, ◌-◌, length, map, drop, rules}
use Rattle.std.specs.Char.{to_ascii_lowercase}
use Rattle.cidr_ext.proofs.NameReading.{other_end}
use Rattle.cidr_ext.proofs.reverse.reading.before_domain.Goals as goal

pub returns-else-eq_ignore_ascii_case : goal.returns-else-eq_ignore_ascii_case
returns-else-eq_ignore_ascii_case c =
    let within : length c.args.domain.now ≤ length c.args.text.now = search rules in
    let cut : c.split_at.result.1.now ≡ drop (length c.args.text.now - length c.args.domain.now) c.args.text.now = search rules in
    let other : map to_ascii_lowercase c.split_at.result.1.now ≢ map to_ascii_lowercase c.args.domain.now = search rules in
    λ front. other_end c.args.text.now c.args.domain.now c.split_at.result.1.now front within cut other
