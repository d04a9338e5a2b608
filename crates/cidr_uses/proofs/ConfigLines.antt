-- A line that begins with `allow ` is refused where the text after that is.
use Rattle.std.proofs.Common.{◌≡◌, ℕ, List, ◌++◌, Err, sym, ◌∙◌}
use Rattle.std.proofs.lemmas.List.{append_cancel_left}
use Rattle.cidr.specs.either.IpText.{IsAnyNetworkText, IsIpRefused}
use Rattle.cidr.specs.declared.cidr.any.AnyIpCidr.{AnyIpCidr}
use Rattle.cidr.specs.declared.errors.NetworkParseError.{NetworkParseError}
use Rattle.cidr_uses.specs.ConfigLine.{verb, IsLine, ReadsConfigLine}
use Rattle.cidr_uses.specs.declared.config_line.LineError.TheVariants as line_error

line_is_none : (line text : List ℕ) → line ≡ verb ++ text → ((n : AnyIpCidr) → ¬ (IsAnyNetworkText text n)) → (n : AnyIpCidr) → ¬ (IsLine line n)
line_is_none line text begins none n (other, same, spells) =
    let e : other ≡ text = append_cancel_left verb other text (sym same ∙ begins) in none n (rw e at spells)

pub line_refused : (line text : List ℕ) (e : NetworkParseError) → line ≡ verb ++ text → IsIpRefused text e
    → ((n : AnyIpCidr) → ¬ (IsAnyNetworkText text n)) → ReadsConfigLine line (Err (line_error.Network e))
line_refused line text e begins refused none = ((text, begins, refused), line_is_none line text begins none)
