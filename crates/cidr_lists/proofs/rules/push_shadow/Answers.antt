use Rattle.std.proofs.Common.{map}
use Rattle.cidr_lists.proofs.Shadows.{shadow_pushed}
use Rattle.cidr_lists.proofs.rules.push_shadow.Goals as goal

pub returns : goal.returns
returns g c =
    shadow_pushed c.args.file.now (map (λ rule. rule.1.number) c.args.rules.now) c.args.shadow.now.rule c.args.shadow.now.by.items c.args.text.now.items
    c.push_place.new.text.items c.extend_from_slice.new.self.items c.push_places.new.text.items c.push.new.self.items
    c.in_ok-push_place.ensures c.in_ok-extend_from_slice.ensures.items (rw c.as_slice.ensures.value at c.in_ok-push_places.ensures) c.in_ok-push.ensures.items
