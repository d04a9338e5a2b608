use Rattle.std.proofs.Common.{◌≡◌, refl, sym, ◌∙◌, ap, subst, arith, inl, List, ℕ, ◌-◌, Some, drop, get_or, length, map, take}
use Rattle.std.proofs.lemmas.List.{take_rest}
use Rattle.std.specs.Int.{from_le_bytes, w32}
use Rattle.cidr_lookup.specs.Keys.{IsFirstRefused, key_networks}
use Rattle.cidr_lookup.proofs.Numbers.{length_networks}
use Rattle.cidr_files.specs.Layout.{wide_word}
use Rattle.cidr_lookup.specs.Tables.{ipv4_steps, ipv6_steps}
use Rattle.cidr_c.specs.model.Tables.{ipv4_pair, ipv6_pair}
use Rattle.cidr_c.specs.calls.Writing.{IsFileOf, IsFileWritten, ipv4_networks, ipv6_networks}
use Rattle.cidr_c.proofs.Written.{bytes_put, file_of, network_refused, too_many_words, words_refused}
use Rattle.cidr_c.proofs.writing.put_file.Goals as goal

pub returns-in-Some : goal.returns-in-Some
returns-in-Some c =
    let networks = c.args.networks.now in
    let keys : key_networks (from_le_bytes w32) c.as_slice-ipv4_keys.result.now ≡ ipv4_networks networks =
    ap (key_networks (from_le_bytes w32)) c.as_slice-ipv4_keys.ensures.value
    ∙ (c.in-Ok.ensures ∙ ap (λ n. map ipv4_pair (take n networks)) c.ipv4_rows-split.ensures.rows) in
    network_refused networks c.args.offsets.now c.args.values.now c.args.out.now c.args.count.now c.in-Some.place c.requires.few c.requires.values
    (inl (subst (λ (ns : List (ℕ × ℕ)). IsFirstRefused 32 ns (Some c.in-Some.place)) keys c.in-Some.ensures))

pub parted-requires : goal.parted-requires
parted-requires c =
    let good = c.requires.values.0 in
    let rows = length c.args.networks.now in
    let k = c.ipv4_rows-split in
    omega (arith, good.ascending k.result rows k.ensures.within (omega arith), good.last)

pub returns-in-Ok-written : goal.returns-in-Ok-written
returns-in-Ok-written c =
    let networks = c.args.networks.now in
    let offsets = c.args.offsets.now in
    let values = c.args.values.now in
    let k = c.ipv4_rows-split in
    let from = get_or offsets k.result 0 in
    let made = c.in-Ok-written in
    let ipv4 = made.ensures.ipv4 in
    let ipv6 = made.ensures.ipv6 in
    let ipv4_keys : key_networks (from_le_bytes w32) c.as_slice-ipv4_keys.result.now ≡ map ipv4_pair (take k.result networks) =
    ap (key_networks (from_le_bytes w32)) c.as_slice-ipv4_keys.ensures.value ∙ c.in-Ok.ensures in
    let ipv6_keys : key_networks wide_word c.as_slice-ipv6_keys.result.now ≡ map ipv6_pair (drop k.result networks) =
    ap (key_networks wide_word) c.as_slice-ipv6_keys.ensures.value
    ∙ (c.in-Ok-keys_in.ensures ∙ ap (map ipv6_pair) (take_rest networks k.result)) in
    let moved : c.as_slice.result.now ≡ map (λ (offset : ℕ). offset - from) (drop k.result offsets) =
    c.as_slice.ensures.value ∙ (c.in-Ok-moved.ensures ∙ ap (map (λ (offset : ℕ). offset - from)) (take_rest offsets k.result)) in
    let count4 : length c.as_slice-ipv4_keys.result.now ≡ length (ipv4_networks networks) =
    sym (length_networks (from_le_bytes w32) c.as_slice-ipv4_keys.result.now) ∙ ap length (ipv4_keys ∙ ap (λ n. map ipv4_pair (take n networks)) k.ensures.rows) in
    let count6 : length c.as_slice-ipv6_keys.result.now ≡ length (ipv6_networks networks) =
    sym (length_networks wide_word c.as_slice-ipv6_keys.result.now) ∙ ap length (ipv6_keys ∙ ap (λ n. map ipv6_pair (drop n networks)) k.ensures.rows) in
    let is : IsFileOf networks offsets values made.bytes.items =
    file_of networks offsets values made.bytes.items k.result from k.ensures.rows k.ensures.within c.requires.values.0 refl made.ensures.file made.ensures.zeros
    (made.ensures.ipv4_steps ∙ ap ipv4_steps count4) (made.ensures.ipv6_steps ∙ ap ipv6_steps count6)
    (ipv4.networks_are ∙ ipv4_keys) (ipv6.networks_are ∙ ipv6_keys)
    ipv4.offsets_are (ipv4.values_are ∙ c.parted.ensures.front)
    (ipv6.offsets_are ∙ moved) (ipv6.values_are ∙ c.parted.ensures.back) in
    let bytes = c.as_slice-in-Ok-written in
    let put = c.put_bytes in
    subst (λ (n : ℕ). IsFileWritten networks offsets values c.args.out.now put.new.out c.args.count.now n put.result) (sym put.ensures.count)
    (bytes_put networks offsets values c.args.out.now c.args.count.now put.new.out bytes.result.now put.result put.ensures.written
    put.ensures.behind put.ensures.fits put.ensures.room put.ensures.codes (omega (arith, put.auto.out))
    (subst (λ (bs : List ℕ). IsFileOf networks offsets values bs) (sym bytes.ensures.value) is))

pub returns-in-Err-Table-TooLarge : goal.returns-in-Err-Table-TooLarge
returns-in-Err-Table-TooLarge c =
    let networks = c.args.networks.now in
    let k = c.ipv4_rows-split in
    let told = c.in-Err-Table-TooLarge in
    words_refused networks c.args.offsets.now c.args.values.now c.args.out.now c.args.count.now
    (too_many_words networks _ _ told.field-0 told.field-0-0 told.ensures.refused told.field-0-is told.field-0-0-is
    (ap (key_networks (from_le_bytes w32)) c.as_slice-ipv4_keys.ensures.value
    ∙ (c.in-Ok.ensures ∙ ap (λ n. map ipv4_pair (take n networks)) k.ensures.rows))
    (ap (key_networks wide_word) c.as_slice-ipv6_keys.ensures.value
    ∙ (c.in-Ok-keys_in.ensures ∙ (ap (map ipv6_pair) (take_rest networks k.result) ∙ ap (λ n. map ipv6_pair (drop n networks)) k.ensures.rows))))
