use Rattle.std.proofs.Common.{sym, ◌∙◌}
use Rattle.cidr_c.proofs.Blocks.{shared_low, shared_high}
use Rattle.cidr_c.proofs.entries.shared_len.Goals as goal

pub returns-then-half-other_half : goal.returns-then-half-other_half
returns-then-half-other_half c =
    shared_low c.args.number c.args.other c.lower.result c.lower-then-half-other_half.result c.shared_len_of_halves.result
    (sym c.upper-half.ensures ∙ c.if-half-other_half.true ∙ c.upper-other_half.ensures) c.lower.ensures c.lower-then-half-other_half.ensures
    c.shared_len_of_halves.ensures.shared

pub returns : goal.returns
returns c =
    shared_high c.args.number c.args.other c.upper-half.result c.upper-other_half.result c.shared_len_of_halves-2.result
    c.upper-half.ensures c.upper-other_half.ensures c.if-half-other_half.false c.shared_len_of_halves-2.ensures.fits c.shared_len_of_halves-2.ensures.shared
