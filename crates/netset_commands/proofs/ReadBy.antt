-- Lists by their bytes and by what is done with host bits.
use Rattle.std.proofs.Common.{◌≡◌, sym, ap, subst, ℕ, List, Option, Some, None, option_map}
use Rattle.std.specs.Option.{IfSome}
use Rattle.cidr_lists.specs.Lists.{Text, text_in}
use Rattle.cidr_lists.specs.declared.records.ListForm.{ListForm}

pub text_same : (bits : ListForm) (text : Text) → text.form ≡ bits → text_in bits text.bytes ≡ text
text_same bits text is = ap (λ (k : ListForm). text_in k text.bytes) (sym is)

-- what is said of the bytes of a reader, if they are told
pub bytes_read : (P : List ℕ → Type 0) (left : Option (List ℕ)) (bytes : List ℕ) → left ≡ Some bytes → IfSome left P → P bytes
bytes_read P left bytes is h = subst (λ (k : Option (List ℕ)). IfSome k P) is h

pub some_same : {X : Type 0} (x y : X) → Some x ≡ Some y → x ≡ y
some_same x y is = cc

-- a list that is told, and its bytes
pub told_bytes : (bits : ListForm) (contents : Option (List ℕ)) (text : Text) → option_map (text_in bits) contents ≡ Some text → contents ≡ Some text.bytes
told_bytes bits None text is = cc
told_bytes bits (Some bytes) text is = ap (λ (k : Text). Some k.bytes) (some_same (text_in bits bytes) text is)

pub told_bits : (bits : ListForm) (contents : Option (List ℕ)) (text : Text) → option_map (text_in bits) contents ≡ Some text → text.form ≡ bits
told_bits bits None text is = cc
told_bits bits (Some bytes) text is = sym (ap (λ (k : Text). k.form) (some_same (text_in bits bytes) text is))
