-- The search tree (Binary Search Tree Section).
use Rattle.std.specs.Prelude.{ℕ, zero, suc, ◌+◌, ◌*◌, ◌/◌, ◌%◌, ◌^◌, Bool, List, slice_index, ◌==◌, if◌then◌else◌, nat_lt}
use Rattle.cidr_mmdb.specs.Numbers.{number_at}
use Rattle.cidr_mmdb.specs.declared.records.RecordSize.{RecordSize}
use Rattle.cidr_mmdb.specs.declared.records.RecordSize.TheVariants.{Bits24, Bits28, Bits32}

-- how many bytes a node takes (Node Layout)
abbrev pub node_bytes : RecordSize → ℕ
node_bytes Bits24 = 6
node_bytes Bits28 = 7
node_bytes Bits32 = 8

-- the left or the right record of a node (Node Layout): of 28 bits, the byte in the middle has the highest four bits of the left
-- record, and then those of the right one
abbrev pub record_at : RecordSize → List ℕ → ℕ → Bool → ℕ
record_at Bits24 bytes node right = number_at bytes (6 * node + (if right then 3 else 0)) 3
record_at Bits28 bytes node right =
    let middle = slice_index bytes (7 * node + 3) in
    (if right then middle % 16 else middle / 16) * 2 ^ 24 + number_at bytes (7 * node + (if right then 4 else 0)) 3
record_at Bits32 bytes node right = number_at bytes (8 * node + (if right then 4 else 0)) 4

-- the record at which a walk ends, and how many bits of the address are left then (Search Lookup Algorithm): from a node it goes on
-- by the next bit, the most significant first, to the right where it is 1; a record below the count of nodes is the number of a node
unfoldable pub walk : (ℕ → Bool → ℕ) → ℕ → ℕ → ℕ → ℕ → ℕ × ℕ
walk step nodes address node zero = (node, 0)
walk step nodes address node (suc left) =
    if nat_lt node nodes then walk step nodes address (step node (address / 2 ^ left % 2 == 1)) left else (node, suc left)
