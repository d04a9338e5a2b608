-- The messages of the errors of networks with a mask: this project's own, but for the last one (the crate `cidr`).
use Rattle.std.specs.Prelude.{ℕ, List, codes}
use Rattle.cidr_ext.specs.declared.mask_text.MaskParseError.{MaskParseError}
use Rattle.cidr_ext.specs.declared.mask_text.MaskParseError.TheVariants.{NoSlash, InvalidAddress, InvalidMask, NonContiguousMask, InvalidHostPart}

abbrev pub mask_message : MaskParseError → List ℕ
mask_message NoSlash = codes "no slash before a mask"
mask_message InvalidAddress = codes "invalid address"
mask_message InvalidMask = codes "invalid mask"
mask_message NonContiguousMask = codes "mask is not contiguous"
mask_message InvalidHostPart = codes "host part of address was not zero"
