-- The numbers of the errors, one each, in the order in which parsing returns them.
use Rattle.std.specs.Prelude.{ℕ, List, [], codes, ◌==◌, if◌then◌else◌}
use Rattle.std.specs.declared.cmp.Ordering.{Ordering}
use Rattle.std.specs.declared.cmp.Ordering.TheVariants.{Less, Equal, Greater}
use Rattle.cidr.specs.model.Errors.{AddressError}
use Rattle.cidr.specs.declared.errors.CompactError.{CompactError}
use Rattle.cidr.specs.declared.errors.CompactError.TheVariants as compact_error
use Rattle.cidr.specs.declared.errors.NetworkParseError.{NetworkParseError}
use Rattle.cidr.specs.declared.errors.NetworkParseError.TheVariants as parse_error
use Rattle.cidr_ext.specs.declared.mask_text.MaskParseError.{MaskParseError}
use Rattle.cidr_ext.specs.declared.mask_text.MaskParseError.TheVariants as mask_error
use Rattle.cidr_lists.specs.declared.errors.LineError.{LineError}
use Rattle.cidr_lists.specs.declared.errors.LineError.TheVariants as line_error

-- a string is not UTF-8
abbrev pub not_utf8 : ℕ
not_utf8 = 1

-- a string is no address
abbrev pub address_code : AddressError → ℕ
address_code e = 14

-- the errors of parsing a network or a host
abbrev pub parse_code : NetworkParseError → ℕ
parse_code (parse_error.AddrParseError e) = 2
parse_code (parse_error.NetworkLengthParseError e) = 3
parse_code (parse_error.NetworkLengthTooLongError e) = 4
parse_code parse_error.InvalidHostPart = 5

-- the errors of compact bytes, of which the last is one of parsing too
abbrev pub compact_code : CompactError → ℕ
compact_code compact_error.Truncated = 6
compact_code compact_error.InvalidTag = 7
compact_code compact_error.InvalidAny = 8
compact_code (compact_error.InvalidFamily e) = 9
compact_code compact_error.InvalidHostPart = 5

-- a value is none that the call takes
abbrev pub no_value : ℕ
no_value = 10

-- there is too little room for the answer
abbrev pub no_room : ℕ
no_room = 11

-- there is no memory
abbrev pub no_memory : ℕ
no_memory = 12

-- a step leaves the network
abbrev pub wrapped : ℕ
wrapped = 13

-- there are too many networks, or words of their look-up table
abbrev pub too_many : ℕ
too_many = 15

-- arrays are not those of the networks
abbrev pub no_table : ℕ
no_table = 17

-- bytes are no file of look-up tables
abbrev pub no_file : ℕ
no_file = 18

-- a file is of another version
abbrev pub other_version : ℕ
other_version = 19

-- a file is shorter than its header says
abbrev pub short_file : ℕ
short_file = 20

-- a file is longer than its header says
abbrev pub long_file : ℕ
long_file = 21

-- values don't lie one behind the other, or are too long together
abbrev pub wrong_values : ℕ
wrong_values = 22

-- there is none
abbrev pub no_such : ℕ
no_such = 23

-- it stands there already
abbrev pub present : ℕ
present = 30

-- a string with a mask has no slash
abbrev pub no_slash : ℕ
no_slash = 24

-- what is behind the slash is no address of the family
abbrev pub no_mask : ℕ
no_mask = 25

-- it is neither a network mask nor a host mask
abbrev pub scattered_mask : ℕ
scattered_mask = 26

-- the errors of parsing a network with a mask
abbrev pub mask_code : MaskParseError → ℕ
mask_code mask_error.NoSlash = no_slash
mask_code mask_error.InvalidAddress = 2
mask_code mask_error.InvalidMask = no_mask
mask_code mask_error.NonContiguousMask = scattered_mask
mask_code mask_error.InvalidHostPart = 5

-- the errors of a line of a list, which is one field, so that none is missing
abbrev pub line_code : LineError → ℕ
line_code line_error.TooLong = 27
line_code (line_error.NotUtf8 text) = not_utf8
line_code (line_error.NoNetwork bad e) = parse_code e
line_code (line_error.NoAddress bad e) = address_code e
line_code (line_error.TwoFamilies text) = 28
line_code (line_error.Reversed text) = 29
line_code other = 14

-- a comparison as a number
abbrev pub order_code : Ordering → ℕ
order_code Less = 0
order_code Equal = 1
order_code Greater = 2

-- the message of each number, and no text for any other
abbrev pub message : ℕ → List ℕ
message code =
    if code == 1 then codes "string is not UTF-8"
    else (if code == 2 then codes "couldn't parse address in network: invalid IP address syntax"
    else (if code == 3 then codes "couldn't parse length in network: invalid length text"
    else (if code == 4 then codes "invalid length for network: it is too long for the family"
    else (if code == 5 then codes "host part of address was not zero"
    else (if code == 6 then codes "compact bytes end too early"
    else (if code == 7 then codes "invalid tag"
    else (if code == 8 then codes "invalid value: `any`"
    else (if code == 9 then codes "invalid type: other family"
    else (if code == 10 then codes "value is not of the kind that the call takes"
    else (if code == 11 then codes "too little room for the answer"
    else (if code == 12 then codes "no memory"
    else (if code == 13 then codes "step leaves the network"
    else (if code == 14 then codes "invalid IP address syntax"
    else (if code == 15 then codes "too many networks"
    else (if code == 17 then codes "arrays are not those of the networks"
    else (if code == 18 then codes "not a file of look-up tables"
    else (if code == 19 then codes "file is of another version"
    else (if code == 20 then codes "file is shorter than its header says"
    else (if code == 21 then codes "file is longer than its header says"
    else (if code == 22 then codes "values don't lie one behind the other"
    else (if code == 23 then codes "there is none"
    else (if code == 24 then codes "no slash before a mask"
    else (if code == 25 then codes "invalid mask"
    else (if code == 26 then codes "mask is not contiguous"
    else (if code == 27 then codes "line is longer than 1 MiB"
    else (if code == 28 then codes "the ends of the range are of two families"
    else (if code == 29 then codes "the first address of the range is above the last one"
    else (if code == 30 then codes "the network stands there already"
    else (if code == 31 then codes "no marker of the metadata in the last 128 KiB"
    else (if code == 32 then codes "no node_count in the metadata"
    else (if code == 33 then codes "no record_size of 24, 28 or 32 in the metadata"
    else (if code == 34 then codes "no ip_version of 4 or 6 in the metadata"
    else (if code == 35 then codes "the search tree goes on behind the metadata"
    else (if code == 36 then codes "no value there"
    else (if code == 37 then codes "longer than the limit"
    else [])))))))))))))))))))))))))))))))))))
