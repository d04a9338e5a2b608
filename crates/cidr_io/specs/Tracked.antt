-- What is seen of a writer that is watched for failures.
use Rattle.std.specs.Prelude.{Bool}

-- the writer, whether one of its calls has failed, and whether that was since nobody reads it any more
pub record Watched (W : Type 0) : Type 0 where
  pub writer : W
  pub has_failed : Bool
  pub is_closed : Bool
