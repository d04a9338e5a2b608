use Rattle.std.proofs.Common.{◌≡◌, drop}
use Rattle.cidr_rules.specs.Packets.{fields_of}
use Rattle.cidr_rules.specs.Lists.{is_permitted}
use Rattle.cidr_rules.proofs.rules.permits.Given as goal

-- what the rules that are left permit, the list permits
abbrev pub invariant-loop-rule : goal.invariant-loop-rule
invariant-loop-rule g l = is_permitted g.A.FieldValue.number l.rules (fields_of g.A.FieldValue.number l.packet)
    ≡ is_permitted g.A.FieldValue.number (drop l.rule-index l.rules) (fields_of g.A.FieldValue.number l.packet)
