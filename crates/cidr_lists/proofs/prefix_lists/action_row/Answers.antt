use Rattle.std.proofs.Common.{inl}
use Rattle.cidr_lists.proofs.PrefixTexts.{action_read}
use Rattle.cidr_lists.proofs.prefix_lists.action_row.Goals as goal

pub returns-in-None : goal.returns-in-None
returns-in-None c = (
  c.parts_of.result.0.now,
  c.parts_of.result.1.now,
  c.parts_of.ensures,
  inl (c.in-None.ensures, c.bad_word.ensures),
)

pub returns-in-Some : goal.returns-in-Some
returns-in-Some c =
    action_read c.args.family c.args.number c.args.text.now c.parts_of.result.0.now c.parts_of.result.1.now c.in-Some.action c.network_row.result
    c.parts_of.ensures c.in-Some.ensures c.network_row.ensures
