-- What the program answers to its arguments.
use Rattle.std.specs.Prelude.{◌≡◌, ℕ, ◌/◌, ◌%◌, List, [], ◌∷◌, ◌++◌, length, codes, decimal, Result, Err, ◌⊎◌}
use Rattle.std.specs.Char.{digit_char}
use Rattle.std.specs.List.{flat_map}
use Rattle.std.specs.Option.{option_map_or}
use Rattle.std.specs.declared.cmp.Ordering.{Ordering}
use Rattle.std.specs.declared.cmp.Ordering.TheVariants.{Less, Equal, Greater}
use Rattle.cidr.specs.model.Bits.{bit_cmp}
use Rattle.cidr.specs.either.IpNetwork.{network_family, network_prefix, address_by, specific, any_bits}
use Rattle.cidr.specs.either.IpText.{IsIpNetworkText, IsAnyNetworkText, IsIpRefused, any_network_text}
use Rattle.cidr.specs.bytes.Compact.{any_network_bytes}
use Rattle.cidr.specs.either.IpAddress.{IsIpText, ip_address_bits}
use Rattle.cidr.specs.model.Network.{first_of, last_of, mask_of, BeginsWith}
use Rattle.cidr.specs.texts.Printed.{plain_text}
use Rattle.cidr.specs.texts.PrintedAddress.{ip_text}
use Rattle.cidr.specs.texts.LooseText.{IsLooseIpText}
use Rattle.cidr.specs.texts.Messages.{ip_error}
use Rattle.cidr.specs.declared.family.Family.{Family}
use Rattle.cidr.specs.declared.family.Family.TheVariants.{Ipv4, Ipv6}
use Rattle.cidr.specs.model.Errors.{AddressError}
use Rattle.cidr.specs.declared.addr.ip.IpAddr.{IpAddr}
use Rattle.cidr.specs.declared.cidr.combined.IpCidr.{IpCidr}
use Rattle.cidr.specs.declared.cidr.any.AnyIpCidr.{AnyIpCidr}
use Rattle.cidr.specs.declared.errors.NetworkParseError.{NetworkParseError}
use Rattle.cidr.specs.declared.inet_iterator.driving.End.{End}
use Rattle.cidr_tool.specs.Walking.{NamesEnds, walk_text}
use Rattle.cidr_io.specs.Writing.{State}
use Rattle.cidr_tool.specs.Writing.{IsAnswerWritten}
use Rattle.cidr_tool.specs.declared.errors.Fault.{Fault}
use Rattle.cidr_tool.specs.declared.errors.Fault.TheVariants.{Network, Address}
use Rattle.cidr_tool.specs.declared.errors.ToolError.{ToolError}
use Rattle.cidr_tool.specs.declared.errors.ToolError.TheVariants.{Refused, Usage}

-- a command and its arguments
pub data Request : Type 0 where
  Show : List ℕ → Request
  Holds : List ℕ → List ℕ → Request
  Compare : List ℕ → List ℕ → Request
  Walk : List ℕ → List End → Request
  Bytes : List ℕ → Request
  Loose : List ℕ → Request

-- the arguments are this request
abbrev pub IsRequest : List (List ℕ) → Request → Type 0
IsRequest arguments (Show net) = arguments ≡ codes "show" ∷ net ∷ []
IsRequest arguments (Holds net address) = arguments ≡ codes "in" ∷ net ∷ address ∷ []
IsRequest arguments (Compare left right) = arguments ≡ codes "cmp" ∷ left ∷ right ∷ []
IsRequest arguments (Walk net ends) = (letters : List ℕ) × (arguments ≡ codes "walk" ∷ net ∷ letters ∷ []) × NamesEnds letters ends
IsRequest arguments (Bytes net) = arguments ≡ codes "bytes" ∷ net ∷ []
IsRequest arguments (Loose text) = arguments ≡ codes "loose" ∷ text ∷ []

-- the arguments are no request
abbrev pub IsUsage : List (List ℕ) → Type 0
IsUsage arguments = (request : Request) → ¬ (IsRequest arguments request)

-- a line: its name, a space and its value
abbrev pub named_line : List ℕ → List ℕ → List ℕ
named_line name value = name ++ value ++ codes "\n"

-- the lines of `show`, from the strings of their values
unfoldable pub show_lines : List ℕ → List ℕ → List ℕ → List ℕ → List ℕ → List ℕ → List ℕ
show_lines network first last mask len family =
    named_line (codes "network ") network ++ named_line (codes "first ") first ++ named_line (codes "last ") last
    ++ named_line (codes "mask ") mask ++ named_line (codes "length ") len ++ named_line (codes "family ") family

-- the name of a family, as `show` writes it
abbrev pub show_family : Family → List ℕ
show_family Ipv4 = codes "Ipv4"
show_family Ipv6 = codes "Ipv6"

-- what `show` says of a network of either family
abbrev pub ip_show_text : List ℕ → IpCidr → List ℕ
ip_show_text text n =
    show_lines text (ip_text (address_by first_of n)) (ip_text (address_by last_of n)) (ip_text (address_by mask_of n))
    (decimal (length (network_prefix n))) (show_family (network_family n))

-- what `show` says of a network
abbrev pub show_text : AnyIpCidr → List ℕ
show_text network =
    let text = any_network_text plain_text network in
    option_map_or (ip_show_text text) (specific network) (named_line (codes "network ") text)

-- what `cmp` says of an order
abbrev pub order_text : Ordering → List ℕ
order_text Less = codes "less\n"
order_text Equal = codes "equal\n"
order_text Greater = codes "greater\n"

-- a byte in hexadecimal, in lower case: the digit of its sixteens, and that of its ones
abbrev pub hex_byte : ℕ → List ℕ
hex_byte byte = digit_char (byte / 16) ∷ digit_char (byte % 16) ∷ []

-- bytes in hexadecimal, not separated
abbrev pub hex_text : List ℕ → List ℕ
hex_text bytes = flat_map hex_byte bytes

-- the string that a request is answered with
abbrev pub IsAnswer : Request → List ℕ → Type 0
IsAnswer (Show net) text = (network : AnyIpCidr) × IsAnyNetworkText net network × (text ≡ show_text network)
IsAnswer (Holds net address) text =
    (network : AnyIpCidr) × (a : IpAddr) × IsAnyNetworkText net network × IsIpText address a
    × ((BeginsWith (ip_address_bits a) (any_bits network) × (text ≡ codes "yes\n")) ⊎ (¬ (BeginsWith (ip_address_bits a) (any_bits network)) × (text ≡ codes "no\n")))
IsAnswer (Compare left right) text =
    (l r : AnyIpCidr) × IsAnyNetworkText left l × IsAnyNetworkText right r × (text ≡ order_text (bit_cmp (any_bits l) (any_bits r)))
IsAnswer (Walk net ends) text = (network : IpCidr) × IsIpNetworkText net network × (text ≡ walk_text network ends)
IsAnswer (Bytes net) text = (network : AnyIpCidr) × IsAnyNetworkText net network × (text ≡ hex_text (any_network_bytes network) ++ codes "\n")
IsAnswer (Loose spelled) text = (a : IpAddr) × IsLooseIpText spelled a × (text ≡ ip_text a ++ codes "\n")

-- the string represents no network, and this is the first error
abbrev pub IsNetRefused : List ℕ → NetworkParseError → Type 0
IsNetRefused net e = IsIpRefused net e × ((n : AnyIpCidr) → ¬ (IsAnyNetworkText net n))

-- a string that represents no address gives the error of an address
abbrev pub IsAddressRefused : (List ℕ → IpAddr → Type 0) → List ℕ → AddressError → Type 0
IsAddressRefused Spells text e = (e ≡ ip_error) × ((a : IpAddr) → ¬ (Spells text a))

-- the error of a request that has no answer: that of the first argument that is wrong
abbrev pub IsRefusal : Request → Fault → Type 0
IsRefusal (Show net) (Network e) = IsNetRefused net e
IsRefusal (Show net) (Address e) = ⊥
IsRefusal (Holds net address) (Network e) = IsNetRefused net e
IsRefusal (Holds net address) (Address e) = ((n : AnyIpCidr) × IsAnyNetworkText net n) × IsAddressRefused IsIpText address e
IsRefusal (Compare left right) (Network e) = IsNetRefused left e ⊎ (((n : AnyIpCidr) × IsAnyNetworkText left n) × IsNetRefused right e)
IsRefusal (Compare left right) (Address e) = ⊥
IsRefusal (Walk net ends) (Network e) = IsIpRefused net e × ((n : IpCidr) → ¬ (IsIpNetworkText net n))
IsRefusal (Walk net ends) (Address e) = ⊥
IsRefusal (Bytes net) (Network e) = IsNetRefused net e
IsRefusal (Bytes net) (Address e) = ⊥
IsRefusal (Loose text) (Network e) = ⊥
IsRefusal (Loose text) (Address e) = IsAddressRefused IsLooseIpText text e

-- What becomes of a request and of the sink. An error writes nothing. A request that has an answer is written
-- whole, or the sink has failed and a beginning of the answer was written, none if it had failed before.
abbrev pub AnswersRequest : Request → State → State → Result (Unit {0}) ToolError → Type 0
AnswersRequest request old new r =
    ((fault : Fault) × (r ≡ Err (Refused fault)) × IsRefusal request fault × (new ≡ old))
    ⊎ ((text : List ℕ) × IsAnswer request text × IsAnswerWritten old new text r)

-- What `run` answers: other arguments are usage, and nothing is written.
abbrev pub Answers : List (List ℕ) → State → State → Result (Unit {0}) ToolError → Type 0
Answers arguments old new r =
    (IsUsage arguments × (r ≡ Err Usage) × (new ≡ old))
    ⊎ ((request : Request) × IsRequest arguments request × AnswersRequest request old new r)
