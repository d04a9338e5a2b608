use Rattle.std.proofs.Common.{◌≡◌, arith, true}
use Rattle.cidr_mmdb.specs.Metadata.{is_unsigned}
use Rattle.cidr_mmdb.proofs.Pairs.{unsigned_bytes}
use Rattle.cidr_mmdb.proofs.metadata.unsigned.Goals as goal

pub bounds-section-field : goal.bounds-section-field
bounds-section-field c =
    let is : is_unsigned c.in_ok-field.field.kind ≡ true = cc in
    omega (arith, unsigned_bytes c.in_ok-field.field.kind c.in_ok-field.field.size is, c.in_ok-leaf_end.ensures.within, c.in_ok-leaf_end.ensures.place, c.in-1.is)

pub two-requires : goal.two-requires
two-requires c =
    let is : is_unsigned c.in_ok-field.field.kind ≡ true = cc in
    omega (arith, unsigned_bytes c.in_ok-field.field.kind c.in_ok-field.field.size is, c.in_ok-leaf_end.ensures.within, c.in_ok-leaf_end.ensures.place, c.in-2.is)

pub three-requires : goal.three-requires
three-requires c =
    let is : is_unsigned c.in_ok-field.field.kind ≡ true = cc in
    omega (arith, unsigned_bytes c.in_ok-field.field.kind c.in_ok-field.field.size is, c.in_ok-leaf_end.ensures.within, c.in_ok-leaf_end.ensures.place, c.in-3.is)

pub four-requires : goal.four-requires
four-requires c =
    let is : is_unsigned c.in_ok-field.field.kind ≡ true = cc in
    omega (arith, unsigned_bytes c.in_ok-field.field.kind c.in_ok-field.field.size is, c.in_ok-leaf_end.ensures.within, c.in_ok-leaf_end.ensures.place, c.in-4.is)
