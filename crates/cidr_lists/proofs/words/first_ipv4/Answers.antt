use Rattle.std.proofs.Common.{Some, None, sym, subst}
use Rattle.cidr.specs.declared.family.Family.TheVariants.{Ipv4}
use Rattle.cidr_lists.specs.Words.{WordIs}
use Rattle.cidr_lists.proofs.Anywhere.{all_of, next_is, word_ascii}
use Rattle.cidr_lists.proofs.FirstWords.{First, found_behind, found_here, found_nowhere}
use Rattle.cidr_lists.proofs.words.first_ipv4.Goals as goal

pub loop-address-init : goal.loop-address-init
loop-address-init c = λ found h. h

pub word_address-requires : goal.word_address-requires
word_address-requires c =
    rw c.split_at.ensures.front (word_ascii Ipv4 c.loop-address.rest.now c.word_len.result c.word_len.ensures.first)

pub returns-in-Some : goal.returns-in-Some
returns-in-Some c =
    c.loop-address.invariant (Some c.in-Some.address)
    (found_here (WordIs Ipv4) Ipv4 c.loop-address.rest.now c.word_len.result c.in-Some.address c.word_len.ensures.first c.word_len.ensures.fits
    (rw c.split_at.ensures.front at c.in-Some.ensures))

pub returns-in_default-split_first : goal.returns-in_default-split_first
returns-in_default-split_first c =
    let rest = c.loop-address.rest.now in
    let all = all_of rest c.word_len.result c.word_len.ensures.fits (rw c.split_at.ensures.back at c.in_default-split_first.ensures.cases) in
    c.loop-address.invariant None (found_nowhere (WordIs Ipv4) Ipv4 rest c.word_len.result c.word_len.ensures.first all (rw c.split_at.ensures.front at c.in_default.ensures))

pub loop-address-preserved : goal.loop-address-preserved
loop-address-preserved c =
    let rest = c.loop-address.rest.now in
    let split = rw c.split_at.ensures.back at c.in-Some-split_first.ensures.cases.0 in
    let next = next_is rest c.in-Some-split_first.next.now c.word_len.result c.in-Some-split_first.field-0-0.now c.word_len.ensures.fits split in
    λ found h. c.loop-address.invariant found (found_behind (WordIs Ipv4) Ipv4 rest c.word_len.result found c.word_len.ensures.first next.0
    (rw c.split_at.ensures.front at c.in_default.ensures) (subst (λ k. First (WordIs Ipv4) Ipv4 k found) (sym next.1) h))
