-- The computed packing is one, and there is no other.
use Rattle.std.proofs.Common.{◌≡◌, ℕ, suc, ◌+◌, ◌<◌, ◌≤◌, ◌≢◌, ◌⊎◌, true, false, List, [], ◌∷◌, ◌++◌, length, drop, refl, sym, ap, ◌∙◌, arith, subst, length-append, append_assoc, inl, inr}
use Rattle.std.specs.List.{concat, AllByRecursion}
use Rattle.std.proofs.lemmas.Bool.{cases_Bool, cases_eq, cond-false, false≢true}
use Rattle.std.proofs.lemmas.List.{append-nil, append_cancel_left}
use Rattle.std.proofs.lemmas.List.Folds.{concat-append}
use Rattle.pitch_fields.proofs.Lists.{all_split}
use Rattle.byteorder.specs.Endian.{little_bytes}
use Rattle.pitch_fields.specs.Fields.{AreBytes, number_at}
use Rattle.pitch_fields.proofs.LittleEndian.{bytes_of_number}
use Rattle.pitch_messages.specs.Raw.{IsRaw}
use Rattle.pitch_messages.specs.Room.{Roomy}
use Rattle.unit_packets.specs.Blocks.{Block, IsBlock, StaysWithin}
use Rattle.unit_packets.specs.BlockBytes.{block_bytes}
use Rattle.unit_packets.specs.Packing.{FitsDatagram, sequence_after, IsDatagram, IsFull, IsPacking, fits_datagram, begun_datagrams, packed_on, packed, bytes_in}
use Rattle.unit_packets.specs.Pushing.{Packing}
use Rattle.unit_packets.specs.layers.Packings.{Finishes, GivesPacking, PackingIsComputed}
use Rattle.unit_packets.specs.layers.Packings.{PackingIsOne}
use Rattle.unit_packets.proofs.OneCutting.{AreSmall, drop_small}
use Rattle.pitch_fields.proofs.Bytes.{byte_at}
use Rattle.unit_packets.proofs.Packs.{bytes_append, fits_true, fits_of, one_fits, after_known, packed_takes, nothing_more}
use Rattle.unit_packets.proofs.Written.{written_is}

-- ---- The computed packing is one
-- the sequences of so many messages are ones that messages can have
abbrev InReach : ℕ → ℕ → Type 0
InReach sequence count = (sequence ≡ 0) ⊎ (sequence + count ≤ 4294967295)

reach_less : (sequence more less : ℕ) → less ≤ more → InReach sequence more → InReach sequence less
reach_less sequence more less le (inl none) = inl none
reach_less sequence more less le (inr within) = inr (omega arith)

within_after : (sequence done more : ℕ) → sequence ≢ 0 → InReach sequence (done + more) → sequence_after sequence done + more ≤ 4294967295
within_after sequence done more some (inl none) = absurd (some none)
within_after sequence done more some (inr le) = omega (arith, le, after_known sequence done some)

reach_after : (sequence done more : ℕ) → InReach sequence (done + more) → InReach (sequence_after sequence done) more
reach_after sequence done more reach = elim (cases_eq sequence 0) [
  | inl none ↦ inl (ap (λ (s : ℕ). sequence_after s done) none)
  | inr some ↦ inr (within_after sequence done more some reach)
]

reach_stays : (sequence count : ℕ) → InReach sequence count → StaysWithin sequence count
reach_stays sequence count (inl none) = inl none
reach_stays sequence count (inr within) = inr (inr within)

reach_small : (sequence count : ℕ) → InReach sequence count → sequence < 4294967296
reach_small sequence count (inl none) = omega arith
reach_small sequence count (inr within) = omega arith

datagram_is : (unit sequence : ℕ) (raws : List (List ℕ)) → unit < 256 → AllByRecursion IsRaw raws → InReach sequence (length raws) → 0 < length raws → FitsDatagram raws
    → IsDatagram unit sequence raws (block_bytes (record { unit = unit; sequence = sequence; raws = raws }))
datagram_is unit sequence raws small are reach some fits =
    let size = fits.size in
    record {
      block = written_is (record { unit = unit; sequence = sequence; raws = raws }) (record {
        unit = small;
        sequence = reach_small sequence (length raws) reach;
        size = omega (arith, size);
        few = fits.count;
        raws = are;
        within = reach_stays sequence (length raws) reach;
      });
      some = some;
      fits = fits;
    }

on_full : (unit sequence : ℕ) (b raw : List ℕ) (begun raws : List (List ℕ)) → fits_datagram ((b ∷ begun) ++ raw ∷ []) ≡ false
    → packed_on unit sequence (b ∷ begun) (raw ∷ raws) ≡ block_bytes (record { unit = unit; sequence = sequence; raws = b ∷ begun }) ∷ packed_on unit (sequence_after sequence (length (b ∷ begun))) (raw ∷ []) raws
unfolding packed_on
on_full unit sequence b raw begun raws not = cond-false (fits_datagram ((b ∷ begun) ++ raw ∷ [])) _ _ not

one_packing : (unit sequence : ℕ) (begun : List (List ℕ)) → unit < 256 → AllByRecursion IsRaw begun → InReach sequence (length begun) → FitsDatagram begun → IsPacking unit sequence begun (begun_datagrams unit sequence begun)
one_packing unit sequence [] small are reach fits = refl
one_packing unit sequence (raw ∷ begun) small are reach fits =
    (raw ∷ begun, [], sym (append-nil (raw ∷ begun)), datagram_is unit sequence (raw ∷ begun) small are reach (omega arith) fits, tt, refl)

takes_packing : (unit sequence : ℕ) (begun raws : List (List ℕ)) (raw : List ℕ) → fits_datagram (begun ++ raw ∷ []) ≡ true
    → IsPacking unit sequence ((begun ++ raw ∷ []) ++ raws) (packed_on unit sequence (begun ++ raw ∷ []) raws) → IsPacking unit sequence (begun ++ raw ∷ raws) (packed_on unit sequence begun (raw ∷ raws))
takes_packing unit sequence begun raws raw takes more =
    subst (λ (ds : List (List ℕ)). IsPacking unit sequence (begun ++ raw ∷ raws) ds) (sym (packed_takes unit sequence begun raws raw takes))
    (subst (λ (rs : List (List ℕ)). IsPacking unit sequence rs (packed_on unit sequence (begun ++ raw ∷ []) raws)) (append_assoc begun (raw ∷ []) raws) more)

-- a block that is full, and the packing of what follows
full_packing : (unit sequence : ℕ) (begun raws : List (List ℕ)) (raw : List ℕ) → unit < 256 → AllByRecursion IsRaw (begun ++ raw ∷ raws) → InReach sequence (length (begun ++ raw ∷ raws)) → FitsDatagram begun
    → fits_datagram (begun ++ raw ∷ []) ≡ false
    → ((s : ℕ) → AllByRecursion IsRaw (raw ∷ raws) → InReach s (length (raw ∷ raws)) → FitsDatagram (raw ∷ []) → IsPacking unit s (raw ∷ raws) (packed_on unit s (raw ∷ []) raws))
    → IsPacking unit sequence (begun ++ raw ∷ raws) (packed_on unit sequence begun (raw ∷ raws))
full_packing unit sequence [] raws raw small are reach fits not more = absurd (false≢true (sym not ∙ one_fits raw are.0))
full_packing unit sequence (b ∷ begun) raws raw small are reach fits not more =
    let apart = all_split IsRaw (b ∷ begun) (raw ∷ raws) are in
    let long = length-append (b ∷ begun) (raw ∷ raws) in
    let prefix : InReach sequence (length (b ∷ begun)) = reach_less sequence (length ((b ∷ begun) ++ raw ∷ raws)) (length (b ∷ begun)) (omega (arith, long)) reach in
    let suffix : InReach (sequence_after sequence (length (b ∷ begun))) (length (raw ∷ raws)) = reach_after sequence (length (b ∷ begun)) (length (raw ∷ raws)) (subst (λ (n : ℕ). InReach sequence n) long reach) in
    subst (λ (ds : List (List ℕ)). IsPacking unit sequence ((b ∷ begun) ++ raw ∷ raws) ds) (sym (on_full unit sequence b raw begun raws not)) (
      b ∷ begun,
      raw ∷ raws,
      refl,
      datagram_is unit sequence (b ∷ begun) small apart.0 prefix (omega arith) fits,
      (λ fit. false≢true (sym not ∙ fits_true ((b ∷ begun) ++ raw ∷ []) fit)),
      more (sequence_after sequence (length (b ∷ begun))) apart.1 suffix (fits_of (raw ∷ []) (one_fits raw apart.1.0)),
    )

is_packing : (raws : List (List ℕ)) (unit sequence : ℕ) (begun : List (List ℕ)) → unit < 256 → AllByRecursion IsRaw (begun ++ raws) → InReach sequence (length (begun ++ raws)) → FitsDatagram begun
    → IsPacking unit sequence (begun ++ raws) (packed_on unit sequence begun raws)
is_packing [] unit sequence begun small are reach fits =
    let none : begun ++ [] ≡ begun = append-nil begun in
    subst (λ (ds : List (List ℕ)). IsPacking unit sequence (begun ++ []) ds) (sym (nothing_more unit sequence begun))
    (subst (λ (rs : List (List ℕ)). IsPacking unit sequence rs (begun_datagrams unit sequence begun)) (sym none)
    (one_packing unit sequence begun small (subst (λ (rs : List (List ℕ)). AllByRecursion IsRaw rs) none are) (subst (λ (rs : List (List ℕ)). InReach sequence (length rs)) none reach) fits))
is_packing (raw ∷ raws) unit sequence begun small are reach fits = elim (cases_Bool (fits_datagram (begun ++ raw ∷ []))) [
  | inl takes ↦
      let join : begun ++ raw ∷ raws ≡ (begun ++ raw ∷ []) ++ raws = sym (append_assoc begun (raw ∷ []) raws) in
      takes_packing unit sequence begun raws raw takes
      (is_packing raws unit sequence (begun ++ raw ∷ []) small (subst (λ (rs : List (List ℕ)). AllByRecursion IsRaw rs) join are) (subst (λ (rs : List (List ℕ)). InReach sequence (length rs)) join reach) (fits_of (begun ++ raw ∷ []) takes))
  | inr not ↦ full_packing unit sequence begun raws raw small are reach fits not (λ s a r f. is_packing raws unit s (raw ∷ []) small a r f)
]

pub no_messages : (unit first : ℕ) → packed unit first [] ≡ []
unfolding packed_on
no_messages unit first = refl

none_fit : FitsDatagram []
none_fit = record { size = omega arith; count = omega arith }

reach_of : (first n : ℕ) → StaysWithin first (suc n) → InReach first (suc n)
reach_of first n (inl none) = inl none
reach_of first n (inr (inl empty)) = absurd (omega (arith, empty))
reach_of first n (inr (inr le)) = inr le

pub packing_is_computed : PackingIsComputed
packing_is_computed unit first [] small are within = subst (λ (ds : List (List ℕ)). IsPacking unit first [] ds) (sym (no_messages unit first)) refl
packing_is_computed unit first (raw ∷ raws) small are within = is_packing (raw ∷ raws) unit first [] small are (reach_of first (length raws) within) none_fit

-- what a packer gives out at the end is the rest of the packing
pub gives_packing : (old new : Packing) (before after : List (Roomy ℕ)) → old.unit < 256 → Finishes old new before after → GivesPacking old before after
gives_packing old new before after small done unit first raws datagrams given has is are within =
    let same : bytes_in done.added ≡ given = append_cancel_left (bytes_in before) (bytes_in done.added) given (sym (bytes_append before done.added) ∙ ap (λ (l : List (Roomy ℕ)). bytes_in l) (sym done.given) ∙ is) in
    let whole : datagrams ++ given ≡ packed unit first raws = ap (λ (ds : List (List ℕ)). datagrams ++ ds) (sym same) ∙ done.whole unit first raws datagrams has in
    subst (λ (ds : List (List ℕ)). IsPacking unit first raws ds) (sym whole) (packing_is_computed unit first raws (subst (λ (u : ℕ). u < 256) has.unit_is small) are within)

-- ---- There is no other
fits_less : (prefix : List (List ℕ)) (raw : List ℕ) (more : List (List ℕ)) → FitsDatagram (prefix ++ raw ∷ more) → FitsDatagram (prefix ++ raw ∷ [])
fits_less prefix raw more fits =
    let join : (prefix ++ raw ∷ []) ++ more ≡ prefix ++ raw ∷ more = append_assoc prefix (raw ∷ []) more in
    let size = fits.size in
    let count = fits.count in
    let bytes = ap (λ (rs : List (List ℕ)). length (concat rs)) (sym join) ∙ ap length (concat-append (prefix ++ raw ∷ []) more) ∙ length-append (concat (prefix ++ raw ∷ [])) (concat more) in
    let many = ap length (sym join) ∙ length-append (prefix ++ raw ∷ []) more in
    record { size = omega (arith, size, bytes); count = omega (arith, count, many) }

-- of two ways to cut a list, both are one, or one prefix is longer by a message at least
record Longer (prefix more suffix less : List (List ℕ)) : Type 0 where
  raw : List ℕ
  between : List (List ℕ)
  prefix_is : more ≡ prefix ++ raw ∷ between
  suffix_is : suffix ≡ raw ∷ (between ++ less)

two_ways : (prefix more suffix less : List (List ℕ)) → prefix ++ suffix ≡ more ++ less → ((prefix ≡ more) × (suffix ≡ less)) ⊎ ((Longer prefix more suffix less) ⊎ (Longer more prefix less suffix))
two_ways [] [] suffix less same = inl (refl, same)
two_ways [] (m ∷ more) suffix less same = inr (inl (record { raw = m; between = more; prefix_is = refl; suffix_is = same }))
two_ways (f ∷ prefix) [] suffix less same = inr (inr (record { raw = f; between = prefix; prefix_is = refl; suffix_is = sym same }))
two_ways (f ∷ prefix) (m ∷ more) suffix less same =
    let head : f ≡ m = cc in
    let tail : prefix ++ suffix ≡ more ++ less = cc in
    elim (two_ways prefix more suffix less tail) [
      | inl both ↦ inl (ap (λ (x : List ℕ). x ∷ prefix) head ∙ ap (λ (xs : List (List ℕ)). m ∷ xs) both.0, both.1)
      | inr other ↦ elim other [
        | inl l ↦ inr (inl (record { raw = l.raw; between = l.between; prefix_is = ap (λ (x : List ℕ). x ∷ more) (sym head) ∙ ap (λ (xs : List (List ℕ)). f ∷ xs) l.prefix_is; suffix_is = l.suffix_is }))
        | inr l ↦ inr (inr (record { raw = l.raw; between = l.between; prefix_is = ap (λ (x : List ℕ). x ∷ prefix) head ∙ ap (λ (xs : List (List ℕ)). m ∷ xs) l.prefix_is; suffix_is = l.suffix_is }))
      ]
    ]

too_early : (prefix more suffix less : List (List ℕ)) → Longer prefix more suffix less → IsFull prefix suffix → FitsDatagram more → ⊥
too_early prefix more suffix less l full fits =
    subst (λ (bs : List (List ℕ)). IsFull prefix bs) l.suffix_is full (fits_less prefix l.raw l.between (subst (λ (rs : List (List ℕ)). FitsDatagram rs) l.prefix_is fits))

-- ---- The bytes of a block
bytes_are : (bytes : List ℕ) (block : Block) → AreSmall bytes → IsBlock bytes block → bytes ≡ block_bytes block
unfolding block_bytes
bytes_are [] block small is = absurd (omega (arith, is.header))
bytes_are (a ∷ []) block small is = absurd (omega (arith, is.header))
bytes_are (a ∷ b ∷ []) block small is = absurd (omega (arith, is.header))
bytes_are (a ∷ b ∷ c ∷ []) block small is = absurd (omega (arith, is.header))
bytes_are (a ∷ b ∷ c ∷ d ∷ []) block small is = absurd (omega (arith, is.header))
bytes_are (a ∷ b ∷ c ∷ d ∷ e ∷ []) block small is = absurd (omega (arith, is.header))
bytes_are (a ∷ b ∷ c ∷ d ∷ e ∷ f ∷ []) block small is = absurd (omega (arith, is.header))
bytes_are (a ∷ b ∷ c ∷ d ∷ e ∷ f ∷ g ∷ []) block small is = absurd (omega (arith, is.header))
bytes_are (a ∷ b ∷ c ∷ d ∷ e ∷ f ∷ g ∷ h ∷ body) block small is =
    let all : List ℕ = a ∷ b ∷ c ∷ d ∷ e ∷ f ∷ g ∷ h ∷ body in
    let long : 8 + length body ≡ 8 + length (concat block.raws) = ap (λ (r : List ℕ). 8 + length r) is.body in
    let size : number_at 2 0 all ≡ 8 + length (concat block.raws) = is.size ∙ omega (arith, long) in
    let first : little_bytes 2 (8 + length (concat block.raws)) ≡ a ∷ b ∷ [] = ap (little_bytes 2) (sym size) ∙ bytes_of_number 2 all (omega arith) small in
    let last : little_bytes 4 block.sequence ≡ e ∷ f ∷ g ∷ h ∷ [] = ap (little_bytes 4) (sym is.sequence) ∙ bytes_of_number 4 (drop 4 all) (omega arith) (drop_small 4 all small) in
    ap (λ (r : List ℕ). ((a ∷ b ∷ []) ++ c ∷ d ∷ (e ∷ f ∷ g ∷ h ∷ [])) ++ r) is.body
    ∙ ap (λ (n : ℕ). ((a ∷ b ∷ []) ++ n ∷ d ∷ (e ∷ f ∷ g ∷ h ∷ [])) ++ concat block.raws) is.count
    ∙ ap (λ (n : ℕ). ((a ∷ b ∷ []) ++ length block.raws ∷ n ∷ (e ∷ f ∷ g ∷ h ∷ [])) ++ concat block.raws) is.unit
    ∙ ap (λ (r : List ℕ). ((a ∷ b ∷ []) ++ length block.raws ∷ block.unit ∷ r) ++ concat block.raws) (sym last)
    ∙ ap (λ (r : List ℕ). (r ++ length block.raws ∷ block.unit ∷ little_bytes 4 block.sequence) ++ concat block.raws) (sym first)

pub same_block_bytes : (one other : List ℕ) (block : Block) → AreBytes one → AreBytes other → IsBlock one block → IsBlock other block → one ≡ other
same_block_bytes one other block a b is also = bytes_are one block (byte_at one a) is ∙ sym (bytes_are other block (byte_at other b) also)

none_and_some : (raws prefix suffix : List (List ℕ)) → raws ≡ [] → raws ≡ prefix ++ suffix → 0 < length prefix → ⊥
none_and_some raws prefix suffix none split some = omega (arith, some, length-append prefix suffix, ap length none, ap length split)

one_by : (datagrams others : List (List ℕ)) (unit first : ℕ) (raws : List (List ℕ)) → AllByRecursion AreBytes datagrams → AllByRecursion AreBytes others → IsPacking unit first raws datagrams → IsPacking unit first raws others → datagrams ≡ others
one_by [] [] unit first raws bytes more one other = refl
one_by [] (o ∷ others) unit first raws bytes more none (prefix, suffix, split, is, full, rest) = absurd (none_and_some raws prefix suffix none split is.some)
one_by (d ∷ datagrams) [] unit first raws bytes more (prefix, suffix, split, is, full, rest) none = absurd (none_and_some raws prefix suffix none split is.some)
one_by (d ∷ datagrams) (o ∷ others) unit first raws bytes more (prefix, suffix, split, is, full, rest) (fore, left, cut, also, whole, tail) = elim (two_ways prefix fore suffix left (sym split ∙ cut)) [
  | inl both ↦
      let there : IsDatagram unit first prefix o = subst (λ (rs : List (List ℕ)). IsDatagram unit first rs o) (sym both.0) also in
      let head : d ≡ o = same_block_bytes d o _ bytes.0 more.0 is.block there.block in
      let follow : IsPacking unit (sequence_after first (length prefix)) suffix others =
      subst (λ (rs : List (List ℕ)). IsPacking unit (sequence_after first (length prefix)) rs others) (sym both.1)
      (subst (λ (rs : List (List ℕ)). IsPacking unit (sequence_after first (length rs)) left others) (sym both.0) tail) in
      ap (λ (x : List ℕ). x ∷ datagrams) head ∙ ap (λ (xs : List (List ℕ)). o ∷ xs) (one_by datagrams others unit (sequence_after first (length prefix)) suffix bytes.1 more.1 rest follow)
  | inr either ↦ elim either [
    | inl l ↦ absurd (too_early prefix fore suffix left l full also.fits)
    | inr l ↦ absurd (too_early fore prefix left suffix l whole is.fits)
  ]
]

pub packing_is_one : PackingIsOne
packing_is_one unit first raws datagrams others bytes more one other = one_by datagrams others unit first raws bytes more one other
