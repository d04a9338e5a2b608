-- Reading a network or `any`: each way out of the reader.
use Rattle.std.proofs.Common.{subst}
use Rattle.cidr.specs.internal.Fronts.{IsFront}
use Rattle.cidr.specs.declared.family.Family.TheVariants.{Ipv4, Ipv6}
use Rattle.cidr.proofs.CompactEither.{any_reads4, any_reads6, any_refuses, any_unreadable}
use Rattle.cidr.proofs.cidr.any.AnyIpCidr.from_compact.Goals as goal

pub returns-in-Err : goal.returns-in-Err
returns-in-Err c = any_unreadable c.args.bytes.now _ c.in-Err.ensures

pub returns-in-Ok-new : goal.returns-in-Ok-new
returns-in-Ok-new c =
    any_reads4 c.args.bytes.now _ _ _ (subst (IsFront c.args.bytes.now) c.in-V4.is c.in-Ok.ensures) c.in-Ok-new.ensures.value

pub returns-in-Err-new : goal.returns-in-Err-new
returns-in-Err-new c =
    any_refuses c.args.bytes.now Ipv4 _ _ _ (subst (IsFront c.args.bytes.now) c.in-V4.is c.in-Ok.ensures) c.in-Err-new.ensures.value

pub returns-in-Ok-new-2 : goal.returns-in-Ok-new-2
returns-in-Ok-new-2 c =
    any_reads6 c.args.bytes.now _ _ _ (subst (IsFront c.args.bytes.now) c.in-V6.is c.in-Ok.ensures) c.in-Ok-new-2.ensures.value

pub returns-in-Err-new-2 : goal.returns-in-Err-new-2
returns-in-Err-new-2 c =
    any_refuses c.args.bytes.now Ipv6 _ _ _ (subst (IsFront c.args.bytes.now) c.in-V6.is c.in-Ok.ensures) c.in-Err-new-2.ensures.value
