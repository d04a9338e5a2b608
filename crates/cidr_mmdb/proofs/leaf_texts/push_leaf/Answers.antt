use Rattle.std.proofs.Common.{◌≡◌, ◌≢◌, ◌+◌, ◌<◌, ◌^◌, ◌∙◌, ap, sym, subst, arith, rules, true}
use Rattle.cidr_mmdb.specs.Fields.{is_sized}
use Rattle.cidr_mmdb.proofs.Sizes.{bytes_unless, double_fits, few_bytes, float_fits, signed_fits}
use Rattle.cidr_mmdb.specs.declared.kinds.Kind.TheVariants.{Utf8String, Double, Bytes, Int32, Boolean, Float}
use Rattle.cidr_mmdb.proofs.leaf_texts.push_leaf.Goals as goal

differ_Bytes_Boolean : Bytes ≡ Boolean → ⊥
differ_Bytes_Boolean e = cc

differ_Double_Boolean : Double ≡ Boolean → ⊥
differ_Double_Boolean e = cc

differ_Double_Bytes : Double ≡ Bytes → ⊥
differ_Double_Bytes e = cc

differ_Double_Utf8String : Double ≡ Utf8String → ⊥
differ_Double_Utf8String e = cc

differ_Float_Boolean : Float ≡ Boolean → ⊥
differ_Float_Boolean e = cc

differ_Float_Bytes : Float ≡ Bytes → ⊥
differ_Float_Bytes e = cc

differ_Float_Utf8String : Float ≡ Utf8String → ⊥
differ_Float_Utf8String e = cc

differ_Int32_Boolean : Int32 ≡ Boolean → ⊥
differ_Int32_Boolean e = cc

differ_Int32_Bytes : Int32 ≡ Bytes → ⊥
differ_Int32_Bytes e = cc

differ_Int32_Utf8String : Int32 ≡ Utf8String → ⊥
differ_Int32_Utf8String e = cc

differ_Utf8String_Boolean : Utf8String ≡ Boolean → ⊥
differ_Utf8String_Boolean e = cc

pub payload-requires-clause-whole : goal.payload-requires-clause-whole
payload-requires-clause-whole c =
    let not_boolean : c.args.field.kind ≢ Boolean = λ e. absurd (differ_Utf8String_Boolean (sym c.in-Utf8String.is ∙ e)) in
    c.requires.place ∙ ap (λ n. c.args.field.payload + n) (bytes_unless c.args.field.kind c.args.field.size not_boolean)

pub payload-requires-in-Bytes-clause-whole : goal.payload-requires-in-Bytes-clause-whole
payload-requires-in-Bytes-clause-whole c =
    let not_boolean : c.args.field.kind ≢ Boolean = λ e. absurd (differ_Bytes_Boolean (sym c.in-Bytes.is ∙ e)) in
    c.requires.place ∙ ap (λ n. c.args.field.payload + n) (bytes_unless c.args.field.kind c.args.field.size not_boolean)

pub number-requires-clause-within : goal.number-requires-clause-within
number-requires-clause-within c =
    let not_boolean : c.args.field.kind ≢ Boolean = λ e. absurd (differ_Double_Boolean (sym c.in-Double.is ∙ e)) in
    omega (arith, c.requires.place, bytes_unless c.args.field.kind c.args.field.size not_boolean)

pub number-requires-clause-few : goal.number-requires-clause-few
number-requires-clause-few c =
    let not_utf8string : c.args.field.kind ≢ Utf8String = λ e. absurd (differ_Double_Utf8String (sym c.in-Double.is ∙ e)) in
    let not_bytes : c.args.field.kind ≢ Bytes = λ e. absurd (differ_Double_Bytes (sym c.in-Double.is ∙ e)) in
    few_bytes c.args.field.kind c.args.field.size c.requires.sized not_utf8string not_bytes

pub overflow_cast-number : goal.overflow_cast-number
overflow_cast-number c =
    let sized : is_sized Double c.args.field.size ≡ true = subst (λ k. is_sized k c.args.field.size ≡ true) c.in-Double.is c.requires.sized in
    let small : c.number.result < 2 ^ 64 = double_fits c.number.result c.args.field.size sized c.number.ensures.below in
    search rules

pub number-requires-in-Float-clause-within : goal.number-requires-in-Float-clause-within
number-requires-in-Float-clause-within c =
    let not_boolean : c.args.field.kind ≢ Boolean = λ e. absurd (differ_Float_Boolean (sym c.in-Float.is ∙ e)) in
    omega (arith, c.requires.place, bytes_unless c.args.field.kind c.args.field.size not_boolean)

pub number-requires-in-Float-clause-few : goal.number-requires-in-Float-clause-few
number-requires-in-Float-clause-few c =
    let not_utf8string : c.args.field.kind ≢ Utf8String = λ e. absurd (differ_Float_Utf8String (sym c.in-Float.is ∙ e)) in
    let not_bytes : c.args.field.kind ≢ Bytes = λ e. absurd (differ_Float_Bytes (sym c.in-Float.is ∙ e)) in
    few_bytes c.args.field.kind c.args.field.size c.requires.sized not_utf8string not_bytes

pub overflow_cast-number-in-Float : goal.overflow_cast-number-in-Float
overflow_cast-number-in-Float c =
    let sized : is_sized Float c.args.field.size ≡ true = subst (λ k. is_sized k c.args.field.size ≡ true) c.in-Float.is c.requires.sized in
    let small : c.number-in-Float.result < 2 ^ 32 = float_fits c.number-in-Float.result c.args.field.size sized c.number-in-Float.ensures.below in
    search rules

pub number-requires-in-Int32-clause-within : goal.number-requires-in-Int32-clause-within
number-requires-in-Int32-clause-within c =
    let not_boolean : c.args.field.kind ≢ Boolean = λ e. absurd (differ_Int32_Boolean (sym c.in-Int32.is ∙ e)) in
    omega (arith, c.requires.place, bytes_unless c.args.field.kind c.args.field.size not_boolean)

pub number-requires-in-Int32-clause-few : goal.number-requires-in-Int32-clause-few
number-requires-in-Int32-clause-few c =
    let not_utf8string : c.args.field.kind ≢ Utf8String = λ e. absurd (differ_Int32_Utf8String (sym c.in-Int32.is ∙ e)) in
    let not_bytes : c.args.field.kind ≢ Bytes = λ e. absurd (differ_Int32_Bytes (sym c.in-Int32.is ∙ e)) in
    few_bytes c.args.field.kind c.args.field.size c.requires.sized not_utf8string not_bytes

pub overflow_cast-number-in-Int32 : goal.overflow_cast-number-in-Int32
overflow_cast-number-in-Int32 c =
    let sized : is_sized Int32 c.args.field.size ≡ true = subst (λ k. is_sized k c.args.field.size ≡ true) c.in-Int32.is c.requires.sized in
    let small : c.number-in-Int32.result < 2 ^ 32 = signed_fits c.number-in-Int32.result c.args.field.size sized c.number-in-Int32.ensures.below in
    search rules

pub number-requires-in_default : goal.number-requires-in_default
number-requires-in_default c = record {
  within = omega (arith, c.requires.place, bytes_unless c.args.field.kind c.args.field.size c.in_default.not-Boolean);
  few = few_bytes c.args.field.kind c.args.field.size c.requires.sized c.in_default.not-Utf8String c.in_default.not-Bytes;
}
