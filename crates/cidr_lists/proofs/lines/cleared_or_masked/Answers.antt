use Rattle.std.proofs.Common.{inl, inr}
use Rattle.cidr_lists.proofs.lines.cleared_or_masked.Goals as goal

pub returns-in-None : goal.returns-in-None
returns-in-None c = (
  c.in-Err.ensures.0,
  λ network found.
      let (host, is, same) = found in
      elim is [
        | inl plain ↦ c.in-Err.ensures.1 host plain
        | inr masked ↦ c.in-None.ensures host masked
      ],
)

pub returns-in-Some : goal.returns-in-Some
returns-in-Some c = let (host, is, same) = c.in-Some.ensures in (host, inr is, same)
