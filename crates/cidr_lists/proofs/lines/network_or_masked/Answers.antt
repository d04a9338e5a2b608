use Rattle.std.proofs.Common.{inl, inr}
use Rattle.cidr_lists.proofs.lines.network_or_masked.Goals as goal

pub returns-in-None : goal.returns-in-None
returns-in-None c = (
  c.in-Err.ensures.value.0,
  λ network. elim [
    | inl plain ↦ c.in-Err.ensures.value.1 network plain
    | inr masked ↦ c.in-None.ensures network masked
  ],
)
