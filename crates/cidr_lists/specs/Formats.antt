-- What is printed of sets for other tools: of each family a head, its networks, and a tail. The head makes the set of the
-- tool anew, so that it then has these addresses and no others.
use Rattle.std.specs.Prelude.{ℕ, Bool, true, false, if◌then◌else◌, ◌==◌, List, [], ◌∷◌, ◌++◌, length, bytes_eq, codes, decimal, ◌≡◌, Option, Some, None}
use Rattle.std.specs.List.{find, flat_map}
use Rattle.cidr.specs.model.Network.{width_of, first_of, last_of}
use Rattle.cidr.specs.texts.Printed.{plain_text, forced_text}
use Rattle.cidr.specs.texts.PrintedAddress.{address_text}
use Rattle.cidr.specs.declared.family.Family.{Family}
use Rattle.cidr.specs.declared.family.Family.TheVariants.{Ipv4, Ipv6}
use Rattle.cidr_sets.specs.model.Sets.{IsSetOf}
use Rattle.cidr_lists.specs.Printing.{line}
use Rattle.cidr_lists.specs.Sets.{printed_sets}
use Rattle.cidr_lists.specs.declared.formats.Format.{Format}
use Rattle.cidr_lists.specs.declared.formats.Format.TheVariants as format
use Rattle.cidr_lists.specs.declared.formats.Layout.{Layout as GivenLayout}
use Rattle.cidr_lists.specs.declared.formats.LineFormat.{LineFormat}
use Rattle.cidr_lists.specs.declared.formats.LineFormat.TheVariants as by_line
use Rattle.cidr_lists.specs.declared.formats.Notation.{Notation}
use Rattle.cidr_lists.specs.declared.formats.Notation.TheVariants.{Plain, WithLength, AndLonger, Halved, Members}
use Rattle.cidr_lists.specs.declared.formats.Style.{Style as GivenStyle}
use Rattle.cidr_lists.specs.declared.formats.TheConstants.{FORMATS}

-- ---- a network in its line
-- the members of a JSON object (RFC 8259) behind the opening quote of the first one; no string in them has a byte to
-- be escaped
abbrev pub members : List ℕ → List ℕ → List ℕ → ℕ → List ℕ
members network first last len =
    network ++ (codes "\",\"first\":\"" ++ (first ++ (codes "\",\"last\":\"" ++ (last ++ (codes "\",\"length\":" ++ decimal len)))))

-- a network and those inside it; Cisco's `le` asks for more than the prefix length
abbrev pub and_longer : List ℕ → ℕ → ℕ → List ℕ
and_longer network len width = network ++ (if len == width then [] else codes " le " ++ decimal width)

-- ipset(8) has no network of length 0 in a set: its two halves stand for it, the second one in a line of its own
abbrev pub second_half : Family → List ℕ
second_half Ipv4 = codes "\nadd netset4 "
second_half Ipv6 = codes "\nadd netset6 "

abbrev pub halved : Family → List Bool → List ℕ
halved family [] = plain_text family (false ∷ []) ++ (second_half family ++ plain_text family (true ∷ []))
halved family (b ∷ bs) = plain_text family (b ∷ bs)

abbrev pub network_by : Notation → Family → List Bool → List ℕ
network_by Plain family p = plain_text family p
network_by WithLength family p = forced_text family p
network_by AndLonger family p = and_longer (forced_text family p) (length p) (width_of family)
network_by Halved family p = halved family p
network_by Members family p =
    members (plain_text family p) (address_text family (first_of (width_of family) p)) (address_text family (last_of (width_of family) p)) (length p)

-- a network of a family, by its bits
abbrev pub family_by : {C : Type 0} → Family → (C → List Bool) → Notation → C → List ℕ
family_by family bits notation network = network_by notation family (bits network)

-- ---- the networks of a family
-- what is printed where there is none; else in front of the first network, in front of each, behind each, between two,
-- and behind the last one
pub record Layout : Type 0 where
  pub none : List ℕ
  pub head : List ℕ
  pub before : List ℕ
  pub notation : Notation
  pub behind : List ℕ
  pub between : List ℕ
  pub tail : List ℕ

-- a network; `text` tells what it is in a notation
abbrev pub row : {X : Type 0} → (Notation → X → List ℕ) → Layout → X → List ℕ
row text layout x = layout.before ++ (text layout.notation x ++ layout.behind)

-- those behind the first
abbrev pub later_rows : {X : Type 0} → (Notation → X → List ℕ) → Layout → List X → List ℕ
later_rows text layout xs = flat_map (λ x. layout.between ++ row text layout x) xs

abbrev pub laid_out : {X : Type 0} → (Notation → X → List ℕ) → Layout → List X → List ℕ
laid_out text layout [] = layout.none
laid_out text layout (x ∷ xs) = layout.head ++ (row text layout x ++ (later_rows text layout xs ++ layout.tail))

-- ---- the formats
-- a network a line, between two strings
abbrev pub plain_layout : List ℕ → List ℕ → Layout
plain_layout prefix suffix =
    record { none = []; head = []; before = prefix; notation = Plain; behind = suffix; between = codes "\n"; tail = codes "\n" }

-- an object of JSON a line (RFC 8259)
abbrev pub json_layout : List ℕ → Layout
json_layout behind =
    record { none = []; head = []; before = codes "{\"network\":\""; notation = Members; behind = behind; between = codes "\n"; tail = codes "\n" }

abbrev pub json : Family → Layout
json Ipv4 = json_layout (codes ",\"family\":\"IPv4\"}")
json Ipv6 = json_layout (codes ",\"family\":\"IPv6\"}")

-- a head, and lines that each stand for themselves
abbrev pub lines_layout : List ℕ → List ℕ → Notation → List ℕ → Layout
lines_layout head before notation behind =
    record { none = head; head = head; before = before; notation = notation; behind = behind; between = codes "\n"; tail = codes "\n" }

-- a file of commands for `nft -f`: sets of intervals in the table `inet netset` (nft(8), SETS, SET STATEMENT)
abbrev pub nft : Family → Layout
nft Ipv4 = lines_layout
    (codes "add table inet netset\nadd set inet netset netset4 { type ipv4_addr; flags interval; }\nflush set inet netset netset4\n")
    (codes "add element inet netset netset4 { ") Plain (codes " }")
nft Ipv6 = lines_layout
    (codes "add table inet netset\nadd set inet netset netset6 { type ipv6_addr; flags interval; }\nflush set inet netset netset6\n")
    (codes "add element inet netset netset6 { ") Plain (codes " }")

-- a file for `ipset -exist restore`: sets of type hash:net with as many elements as there can be (ipset(8), hash:net)
abbrev pub ipset : Family → Layout
ipset Ipv4 = lines_layout (codes "create netset4 hash:net family inet maxelem 4294967295\nflush netset4\n") (codes "add netset4 ") Halved []
ipset Ipv6 = lines_layout (codes "create netset6 hash:net family inet6 maxelem 4294967295\nflush netset6\n") (codes "add netset6 ") Halved []

-- a file for both `iptables-restore -n` and `ip6tables-restore -n`, each of which skips the lines of the other family
-- by -4 and -6: a chain that accepts what comes from these addresses (iptables(8), iptables-restore(8))
abbrev pub iptables : Family → Layout
iptables Ipv4 = lines_layout (codes "*filter\n:netset - [0:0]\n") (codes "-4 -A netset -s ") Plain (codes " -j ACCEPT")
iptables Ipv6 = record {
  none = codes "COMMIT\n";
  head = [];
  before = codes "-6 -A netset -s ";
  notation = Plain;
  behind = codes " -j ACCEPT";
  between = codes "\n";
  tail = codes "\nCOMMIT\n";
}

-- prefix lists of Cisco IOS that permit a route where all of its addresses are in the set; an empty list, which would
-- permit all, denies all (`ip prefix-list`, `ipv6 prefix-list` in the command reference of IP routing)
abbrev pub cisco_layout : List ℕ → List ℕ → List ℕ → Layout
cisco_layout head before deny =
    record { none = head ++ deny; head = head; before = before; notation = AndLonger; behind = []; between = codes "\n"; tail = codes "\n" }

abbrev pub cisco : Family → Layout
cisco Ipv4 = cisco_layout (codes "no ip prefix-list netset4\n") (codes "ip prefix-list netset4 permit ") (codes "ip prefix-list netset4 deny 0.0.0.0/0 le 32\n")
cisco Ipv6 = cisco_layout (codes "no ipv6 prefix-list netset6\n") (codes "ipv6 prefix-list netset6 permit ") (codes "ipv6 prefix-list netset6 deny ::/0 le 128\n")

-- prefix lists of Junos, for `load replace` (`prefix-list` at [edit policy-options])
abbrev pub juniper_layout : List ℕ → List ℕ → Layout
juniper_layout head close =
    record { none = head ++ close; head = head; before = codes "        "; notation = WithLength; behind = codes ";"; between = codes "\n"; tail = codes "\n" ++ close }

abbrev pub juniper : Family → Layout
juniper Ipv4 = juniper_layout (codes "policy-options {\n    replace:\n    prefix-list netset4 {\n") (codes "    }\n")
juniper Ipv6 = juniper_layout (codes "    replace:\n    prefix-list netset6 {\n") (codes "    }\n}\n")

-- prefix sets of BIRD 2, which has no empty one: a network and those inside it (BIRD User's Guide, Filters, `prefix set`)
abbrev pub bird_layout : List ℕ → List ℕ → Layout
bird_layout none head =
    record { none = none; head = head; before = codes "    "; notation = WithLength; behind = codes "+"; between = codes ",\n"; tail = codes "\n];\n" }

abbrev pub bird : Family → Layout
bird Ipv4 = bird_layout (codes "# netset4 has no network\n") (codes "define netset4 = [\n")
bird Ipv6 = bird_layout (codes "# netset6 has no network\n") (codes "define netset6 = [\n")

-- a format, and the two strings of the plain one
pub record Style : Type 0 where
  pub format : Format
  pub prefix : List ℕ
  pub suffix : List ℕ

-- nothing in front of a network and nothing behind
abbrev pub bare : Format → Style
bare format = record { format = format; prefix = []; suffix = [] }

-- the style of lines, but for those of text, which have none
abbrev pub line_style : LineFormat → Option Style
line_style by_line.Plain = None
line_style by_line.Json = Some (bare format.Json)

abbrev pub layout_by : Format → List ℕ → List ℕ → Family → Layout
layout_by format.Plain prefix suffix family = plain_layout prefix suffix
layout_by format.Json prefix suffix family = json family
layout_by format.Nft prefix suffix family = nft family
layout_by format.Ipset prefix suffix family = ipset family
layout_by format.Iptables prefix suffix family = iptables family
layout_by format.Cisco prefix suffix family = cisco family
layout_by format.Juniper prefix suffix family = juniper family
layout_by format.Bird prefix suffix family = bird family

abbrev pub layout_of : Style → Family → Layout
layout_of style family = layout_by style.format style.prefix style.suffix family

-- ---- what is printed of sets
-- the networks of a family
abbrev pub styled_family : Style → Family → List (List Bool) → List ℕ
styled_family style family networks = laid_out (family_by family (λ p. p)) (layout_of style family) networks

-- IPv4 before IPv6
abbrev pub styled : Style → (Family → List (List Bool)) → List ℕ
styled style sets = styled_family style Ipv4 (sets Ipv4) ++ styled_family style Ipv6 (sets Ipv6)

-- the same in a style, or a network a line where there is none
abbrev pub printed_by : Option Style → (Family → List (List Bool)) → List ℕ
printed_by None sets = printed_sets sets
printed_by (Some style) sets = styled style sets

-- what is printed so of the shortest list of networks of each family that has these addresses
abbrev pub IsPrintBy : Option Style → (Family → List Bool → Type 0) → List ℕ → Type 0
IsPrintBy style IsIn text =
    (sets : Family → List (List Bool)) × ((family : Family) → IsSetOf 129 (IsIn family) (sets family)) × (text ≡ printed_by style sets)

-- ---- what is printed of networks of both families that come one after the other
-- a network, where it is of the family
abbrev pub of_family : Family → Family × List Bool → List (List Bool)
of_family Ipv4 (Ipv4, prefix) = prefix ∷ []
of_family Ipv4 (Ipv6, prefix) = []
of_family Ipv6 (Ipv4, prefix) = []
of_family Ipv6 (Ipv6, prefix) = prefix ∷ []

-- a network as a line
abbrev pub subnet_line : Family × List Bool → List ℕ
subnet_line (family, prefix) = line (plain_text family prefix)

-- those of each family in a style, or one a line where there is none
abbrev pub printed_walk : Option Style → List (Family × List Bool) → List ℕ
printed_walk None walk = flat_map subnet_line walk
printed_walk (Some style) walk = styled style (λ family. flat_map (of_family family) walk)

-- nothing in front of a network and nothing behind, where there is a style
abbrev pub IsBare : Option Style → Type 0
IsBare None = Unit {0}
IsBare (Some style) = style ≡ bare style.format

-- the name of a format
abbrev pub format_name : Format → List ℕ
format_name format.Plain = codes "plain"
format_name format.Json = codes "json"
format_name format.Nft = codes "nft"
format_name format.Ipset = codes "ipset"
format_name format.Iptables = codes "iptables"
format_name format.Cisco = codes "cisco"
format_name format.Juniper = codes "juniper"
format_name format.Bird = codes "bird"

-- the formats, in the order in which they are told
unfoldable pub formats : List Format
formats = FORMATS

-- the format of a name, if there is one
abbrev pub format_of : List ℕ → Option Format
format_of name = find (λ (format : Format). bytes_eq (format_name format) name) formats

-- the texts of a style
abbrev pub style_in : GivenStyle → Style
style_in style = record { format = style.format; prefix = style.prefix.now; suffix = style.suffix.now }

-- the texts of a layout
abbrev pub layout_in : GivenLayout → Layout
layout_in layout = record {
  none = layout.none.now;
  head = layout.head.now;
  before = layout.before.now;
  notation = layout.notation;
  behind = layout.behind.now;
  between = layout.between.now;
  tail = layout.tail.now;
}

-- how the networks of a family are printed where they come one after the other
abbrev pub lines_alone : Layout
lines_alone = record { none = []; head = []; before = []; notation = Plain; behind = codes "\n"; between = []; tail = [] }

abbrev pub walk_layout : Option Style → Family → Layout
walk_layout None family = lines_alone
walk_layout (Some style) family = layout_of style family

-- ---- what private functions promise
-- a network of either family
abbrev pub either_by : Notation → Family × List Bool → List ℕ
either_by notation network = network_by notation network.0 network.1

-- what stands in front of the next network: the one before it and what is between, or the head
abbrev pub before_next : Layout → Option (Family × List Bool) → List ℕ
before_next layout None = layout.head
before_next layout (Some network) = row either_by layout network ++ layout.between

-- the last one and the tail, or what stands for no network
abbrev pub last_row : Layout → Option (Family × List Bool) → List ℕ
last_row layout None = layout.none
last_row layout (Some network) = row either_by layout network ++ layout.tail
